use Rattle.std.proofs.Common.{◌≡◌, ℕ, cond, length, take}
use Rattle.sg_base.specs.MarkSet.{is_in}
use Rattle.sg_heap.specs.Agenda.{key_at}
use Rattle.sg_activity_table.specs.Pool.{slot_at}
use Rattle.sg_activity.specs.kept.Renewal.{date_in}
use Rattle.sg_activity.proofs.renewal.renew.Given as goal

abbrev pub invariant-loop-key : goal.invariant-loop-key
invariant-loop-key l = record {
  dates : (key : ℕ) → key_at l.agenda key ≡ cond (is_in key (take l.key-index l.keys)) (date_in (slot_at l.lives.slots key)) (key_at l.fn.agenda key);
  long : length l.agenda ≡ length l.fn.agenda;
}
