use Rattle.std.proofs.Common.{◌≡◌, ◌≢◌, ℕ, false, ◌&&◌, ◌<◌, take, slice_index, AllPairs}
use Rattle.sg_base.specs.MarkSet.{is_in}
use Rattle.sg_lazy.specs.kept.Changes.{is_changed}
use Rattle.sg_lazy.specs.kept.Leveled.{rate_at}
use Rattle.sg_lazy.proofs.writing.write_rates.Given as goal

abbrev pub invariant-loop-flow : goal.invariant-loop-flow
invariant-loop-flow l = record {
  rates_are : (i : ℕ) → i < l.flow-index → is_in (slice_index l.levels.moved.members i) l.pending.ended.members ≡ false → slice_index l.rates (slice_index l.levels.moved.members i) ≡ rate_at l.system.slots l.levels.levels.items (slice_index l.levels.moved.members i);
  others : (other : ℕ) → is_in other (take l.flow-index l.levels.moved.members) ≡ false → slice_index l.rates other ≡ slice_index l.fn.rates other;
  room : l.changed.room ≡ l.fn.changed.room;
  changed_are : (id : ℕ) → is_in id l.changed.members ≡ (is_in id (take l.flow-index l.levels.moved.members) && is_changed l.pending.began.members l.pending.ended.members l.fn.rates (rate_at l.system.slots l.levels.levels.items) id);
  once : AllPairs (λ a b. a ≢ b) l.changed.members;
}
