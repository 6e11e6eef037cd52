use Rattle.std.proofs.Common.{◌≡◌, ◌+◌, ◌≤◌, ℕ, true, IsSome, drop, take}
use Rattle.sg_base.specs.MarkSet.{is_in}
use Rattle.sg_maxmin.specs.Sharing.{flow_at}
use Rattle.sg_maxmin.specs.Numbered.{all_uses}
use Rattle.sg_maxmin_levels.specs.Kept.{IsBetweenBut, NotesMoved, StaysWithin}
use Rattle.sg_maxmin_levels.proofs.rounds.renew_all.Given as goal

abbrev pub invariant-loop-k : goal.invariant-loop-k
invariant-loop-k g l = record {
  between : IsBetweenBut l.system l.kept (drop l.k l.fn.kept.stale.members);
  stale : l.kept.stale ≡ l.fn.kept.stale;
  noted : (id : ℕ) → is_in id (take l.k l.fn.kept.stale.members) ≡ true → is_in id l.kept.moved.members ≡ true;
  alive : (id : ℕ) → is_in id l.fn.kept.stale.members ≡ true → IsSome (flow_at l.system.slots id);
  moved : NotesMoved l.fn.kept l.kept;
  within : StaysWithin l.system l.fn.kept l.kept;
  looks : l.steps ≤ l.fn.steps + all_uses l.system.slots (take l.k l.fn.kept.stale.members);
}
