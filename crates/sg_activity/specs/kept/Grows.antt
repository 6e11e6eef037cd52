-- Room for more, and nothing else.
use Rattle.std.specs.Prelude.{◌≡◌, ℕ, ◌≤◌, length, slice_index}
use Rattle.sg_heap.specs.Agenda.{key_at}
use Rattle.sg_lazy.specs.RunningFlow.{running_at}
use Rattle.sg_activity.specs.declared.activity_state.Kept.{Kept}
use Rattle.sg_activity_table.specs.Pool.{slot_at}
use Rattle.sg_activity.specs.kept.Rows.{IsWider}

pub record Grows (old new : Kept) : Type 0 where
  pub rest : new ≡ record old { lazy = new.lazy; lives = new.lives; index = new.index; agenda = new.agenda; by_flow = new.by_flow; fresh = new.fresh }
  pub slots : (key : ℕ) → slot_at new.lives.slots key ≡ slot_at old.lives.slots key
  pub slots_long : length old.lives.slots ≤ length new.lives.slots
  pub wider : IsWider old.index new.index
  pub keys : (key : ℕ) → key_at new.agenda key ≡ key_at old.agenda key
  pub runs : (id : ℕ) → running_at new.lazy.slots id ≡ running_at old.lazy.slots id
  pub by_flow : (id : ℕ) → slice_index new.by_flow.items id ≡ slice_index old.by_flow.items id
  pub fresh : new.fresh.members ≡ old.fresh.members
  pub ended : new.lazy.ended ≡ old.lazy.ended
  pub resources : new.lazy.resources ≡ old.lazy.resources
  pub capacities : new.lazy.capacities ≡ old.lazy.capacities
  pub keys_free : old.lives.room ≤ new.lives.room
  pub flow_room : old.lazy.flow_room ≤ new.lazy.flow_room
  pub use_room : old.lazy.use_room ≤ new.lazy.use_room
  pub longer : length old.by_flow.items ≤ length new.by_flow.items
  pub rows_long : length new.lives.slots ≤ length new.index.rows
  pub agenda_long : length new.lives.slots ≤ length new.agenda
  pub fresh_room : length new.lives.slots ≤ new.fresh.room
  pub by_flow_long : length new.lazy.slots ≤ length new.by_flow.items
