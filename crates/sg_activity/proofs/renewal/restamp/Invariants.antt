use Rattle.std.proofs.Common.{◌≡◌, ◌&&◌, not, cond, ℕ, option_map, length, take}
use Rattle.sg_base.specs.MarkSet.{is_in}
use Rattle.sg_heap.specs.Agenda.{key_at}
use Rattle.sg_activity_table.specs.Pool.{slot_at}
use Rattle.sg_activity.specs.kept.Renewal.{restamped, is_renewed, date_in}
use Rattle.sg_activity.proofs.renewal.restamp.Given as goal

abbrev pub invariant-loop-id : goal.invariant-loop-id
invariant-loop-id l = record {
  slots : (key : ℕ) → slot_at l.lives.slots key ≡ option_map (restamped (take l.id-index l.changed) l.lazy.slots l.date) (slot_at l.fn.lives.slots key);
  long : length l.lives.slots ≡ length l.fn.lives.slots;
  room : l.lives.room ≡ l.fn.lives.room;
  dates : (key : ℕ) → key_at l.agenda key ≡ cond (is_renewed (take l.id-index l.changed) (slot_at l.fn.lives.slots key)) (date_in (slot_at l.lives.slots key)) (key_at l.fn.agenda key);
  dates_long : length l.agenda ≡ length l.fn.agenda;
  fresh : (key : ℕ) → is_in key l.fresh.members ≡ (is_in key l.fn.fresh.members && not (is_renewed (take l.id-index l.changed) (slot_at l.fn.lives.slots key)));
  fresh_room : l.fresh.room ≡ l.fn.fresh.room;
}
