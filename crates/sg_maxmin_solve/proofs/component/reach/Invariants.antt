use Rattle.std.proofs.Common.{ℕ, Bool, ◌+◌, ◌-◌, ◌<◌, ◌≤◌, length, take, slice_index}
use Rattle.sg_maxmin.specs.Chained.{users_on}
use Rattle.sg_maxmin_solve.specs.Component.{AreIn, PassAlong, Spreads, StaysWithin, lengths, touched_uses}
use Rattle.sg_maxmin_solve.proofs.component.reach.Given as goal

abbrev pub invariant-loop-k : goal.invariant-loop-k
invariant-loop-k g l = record {
  spreads : Spreads l.system l.fn.component l.component;
  visited : (i : ℕ) → i < l.k → AreIn (users_on l.system.users (slice_index l.component.reached.members i)) l.component.touched.members;
  within : l.k ≤ length l.component.reached.members;
  least : (p q : ℕ → Bool) → PassAlong l.system p q → StaysWithin p q l.fn.component l.component;
  looks : l.steps + touched_uses l.system l.fn.component + lengths (users_on l.system.users) (take l.visited l.fn.component.reached.members) ≤ l.fn.steps + touched_uses l.system l.component + lengths (users_on l.system.users) (take l.k l.component.reached.members);
}

abbrev pub decreases-loop-k : goal.decreases-loop-k
decreases-loop-k g l = l.component.reached.room - l.k
