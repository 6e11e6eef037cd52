-- An activity is done.
use Rattle.std.proofs.Common.{◌≡◌, ℕ, ◌-◌, ◌<◌, false, Option, None, Some, option_to_list, List, [], ◌++◌, length, length-set, set, sum_by, refl, sym, ap, subst, ◌∙◌, arith}
use Rattle.sg_heap.specs.Agenda.{Key}
use Rattle.sg_lazy.specs.Lazily.{Lazily}
use Rattle.sg_activity.specs.declared.activity_state.Kept.{Kept}
use Rattle.sg_activity_table.specs.declared.lives.Live.{Live}
use Rattle.sg_activity.specs.Task.{flow_in}
use Rattle.sg_activity_table.specs.Pool.{Pool, slot_at, uses_ahead}
use Rattle.sg_activity.specs.kept.Rows.{Indexed, IsRow, way_in}
use Rattle.sg_activity.specs.kept.State.{State, state_of, task_of, under_of, ways_of}
use Rattle.sg_activity.specs.kept.Sound.{IsKept, IsSound, slot_ahead, slot_uses}
use Rattle.sg_activity_table.specs.Kinds.{flows_ahead}
use Rattle.sg_activity.specs.kept.Ends.{Ends}
use Rattle.sg_activity.specs.kept.Turns.{Turns}
use Rattle.sg_activity.proofs.Pairing.{there_within}
use Rattle.sg_activity.proofs.Roomy.{ahead_counted, ahead_set, uses_counted, uses_set}
use Rattle.sg_activity.proofs.Turned.{turned}
use Rattle.sg_activity.proofs.Turning.{ended_state, state_same, Went, end_turns, end_under}

-- what became of the flows, and of their room
pub record Goes (kept : Kept) (lazy : Lazily) (key : ℕ) (live : Live) : Type 0 where
  pub went : Went (state_of kept) live lazy.slots
  pub ended : lazy.ended ≡ kept.lazy.ended ++ option_to_list (flow_in (state_of kept).capacities (Some (task_of (state_of kept) key live)))
  pub capacities : lazy.capacities ≡ kept.lazy.capacities
  pub resources : lazy.resources ≡ kept.lazy.resources
  pub flow_room : lazy.flow_room ≡ kept.lazy.flow_room
  pub use_room : lazy.use_room ≡ kept.lazy.use_room
  pub long : length lazy.slots ≡ length kept.lazy.slots

module _ (kept : Kept) (lazy : Lazily) (lives : Pool) (agenda : List (Option Key)) (index : Indexed) (key : ℕ) (live : Live) (sound : IsSound kept) (at : slot_at kept.lives.slots key ≡ Some live) (goes : Goes kept lazy key live)
    (slots : lives.slots ≡ set kept.lives.slots key None) (room : lives.room ≡ kept.lives.room) (keys : agenda ≡ set kept.agenda key None) (row : IsRow kept.index.rows index.rows key []) where
  abbrev s : State
  s = state_of kept

  pub ends : Ends kept (record kept { lazy = lazy; lives = lives; agenda = agenda; index = index; settled = false; flows = kept.flows - flows_ahead live.kind; uses = kept.uses - uses_ahead live.kind live.place }) key live None
  ends =
      let within = there_within kept.lives.slots key live at in
      let keys_in : key < length kept.agenda = omega (arith, within, sound.room.agenda_long) in
      let ways = ways_of (record kept { index = index }) in
      let new : State = ended_state s key ways lazy.slots lazy.ended in
      let turns : Turns s new key live.serial None = end_turns s key live ways lazy.slots lazy.ended sound.are at within keys_in (λ k ne. ap (way_in (length kept.hosts.items)) (row.others k ne)) goes.went in
      let state_is = state_same s s.drawn false lives.slots (set s.slots key None) ways ways agenda (set s.keys key None) lazy.slots lazy.slots s.by_flow s.by_flow s.fresh s.fresh lazy.ended lazy.ended lazy.resources kept.lazy.resources slots refl keys refl refl refl refl goes.resources in
      record {
        slot = None;
        turns = subst (λ st. Turns s st key live.serial None) (sym state_is) turns;
        under = ap under_of state_is ∙ end_under s key live ways lazy.slots lazy.ended sound.are at goes.ended turns;
        drawn = refl;
        sound = record {
          are = subst IsKept (sym state_is) (turned s new key live.serial None sound.are turns);
          room = record {
            capacities = goes.capacities ∙ sound.room.capacities;
            few = sound.room.few;
            early = sound.room.early;
            flows = omega (arith, sound.room.flows, ahead_counted s.slots key live within at, ahead_set s.slots key None within, ap slot_ahead at, ap (sum_by slot_ahead) slots);
            flow_room = omega (arith, sound.room.flow_room, goes.flow_room);
            uses = omega (arith, sound.room.uses, uses_counted s.slots key live within at, uses_set s.slots key None within, ap slot_uses at, ap (sum_by slot_uses) slots);
            use_room = omega (arith, sound.room.use_room, goes.use_room);
            keys_free = omega (arith, sound.room.keys_free, room);
            rows_long = omega (arith, sound.room.rows_long, row.long, ap length slots, length-set s.slots key None);
            agenda_long = omega (arith, sound.room.agenda_long, ap length slots, length-set s.slots key None, ap length keys, length-set s.keys key None);
            fresh_room = omega (arith, sound.room.fresh_room, ap length slots, length-set s.slots key None);
            by_flow_long = omega (arith, sound.room.by_flow_long, goes.long);
          };
        };
        room = refl;
      }

-- the same, of what the two branches left
pub ends_from : (kept mid : Kept) (lazy : Lazily) (lives : Pool) (agenda : List (Option Key)) (index : Indexed) (key : ℕ) (live : Live) → IsSound kept → slot_at kept.lives.slots key ≡ Some live → Goes kept lazy key live → mid ≡ record kept { lazy = lazy } →
    lives.slots ≡ set mid.lives.slots key None → lives.room ≡ mid.lives.room → agenda ≡ set mid.agenda key None → IsRow mid.index.rows index.rows key [] →
    Ends kept (record mid { lives = lives; agenda = agenda; index = index; settled = false; flows = mid.flows - flows_ahead live.kind; uses = mid.uses - uses_ahead live.kind live.place }) key live None
ends_from kept mid lazy lives agenda index key live sound at goes e slots room keys row =
    subst (λ (m : Kept). Ends kept (record m { lives = lives; agenda = agenda; index = index; settled = false; flows = m.flows - flows_ahead live.kind; uses = m.uses - uses_ahead live.kind live.place }) key live None) (sym e)
    (ends kept lazy lives agenda index key live sound at goes (slots ∙ ap (λ (m : Kept). set m.lives.slots key None) e) (room ∙ ap (λ (m : Kept). m.lives.room) e) (keys ∙ ap (λ (m : Kept). set m.agenda key None) e) (subst (λ (m : Kept). IsRow m.index.rows index.rows key []) e row))
