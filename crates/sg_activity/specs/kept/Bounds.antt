-- What a change of a capacity changes.
use Rattle.std.specs.Prelude.{◌≡◌, ℕ, ◌+◌, ◌≤◌, ◌||◌, ◌&&◌, not, Bool, false, Option, None, Some, option_map, if◌then◌else◌, List, length, slice_index, IsTrue, IsSome}
use Rattle.std.specs.List.{list_any}
use Rattle.sg_base.specs.MarkSet.{is_in}
use Rattle.sg_lazy.specs.RunningFlow.{RunningFlow, is_same_bound, running_at}
use Rattle.sg_activity.specs.declared.activity_state.Kept.{Kept}
use Rattle.sg_activity_table.specs.declared.lives.Live.{Live}
use Rattle.sg_activity.specs.Links.{Capacities, link_at}
use Rattle.sg_activity.specs.Task.{Place, nowhere, on_host, over}
use Rattle.sg_activity_table.specs.Kinds.{takes_share}
use Rattle.sg_activity.specs.Underway.{with_capacities}
use Rattle.sg_activity.specs.kept.Index.{used_in}
use Rattle.sg_activity_table.specs.Pool.{slot_at}
use Rattle.sg_activity.specs.kept.Rows.{row_at}
use Rattle.sg_activity.specs.kept.State.{state_of, asked_by, under_of}
use Rattle.sg_activity.specs.kept.Sound.{IsPlace, IsSound, place_at}

-- whether the bound that a place gives changes with the capacities of these resources
abbrev pub is_rebound_at : Capacities → List ℕ → Place → Bool
is_rebound_at capacities resources nowhere = false
is_rebound_at capacities resources (on_host host) = is_in host resources
is_rebound_at capacities resources (over way) =
    list_any (λ link. (link_at capacities.links link.0).fatpipe
    && is_in (length capacities.hosts + link.0) resources) way.links

-- the flow under this bound, if there is one, and marked if it had another
abbrev pub rebound_to : Option ℕ → RunningFlow → RunningFlow
rebound_to None running = running
rebound_to (Some bound) running = record running { flow = record running.flow { bound = Some bound }; marked = running.marked || not (is_same_bound running.flow.bound (Some bound)) }

-- the flow under what bounds the activity under a key now
abbrev pub rebound_by : Kept → ℕ → Live → Option RunningFlow → Option RunningFlow
rebound_by kept key live slot =
    option_map (rebound_to (asked_by (state_of kept) key live).bound) slot

-- The place of each activity exists, and the index has it; what takes a share has a flow of its own.
pub record HasFlows (kept : Kept) : Type 0 where
  pub places : (key : ℕ) (live : Live) → slot_at kept.lives.slots key ≡ Some live → IsPlace (state_of kept).capacities (place_at (state_of kept) key live)
  pub runs : (key : ℕ) (live : Live) → slot_at kept.lives.slots key ≡ Some live → IsTrue (takes_share live.kind) → IsSome (running_at kept.lazy.slots live.flow)
  pub own : (key : ℕ) (live : Live) → slot_at kept.lives.slots key ≡ Some live → IsTrue (takes_share live.kind) → slice_index kept.by_flow.items live.flow ≡ key
  pub rows : (key : ℕ) (live : Live) → slot_at kept.lives.slots key ≡ Some live → row_at kept.index.rows key ≡ used_in kept key live
  pub rows_long : length kept.lives.slots ≤ length kept.index.rows

-- The flows of the activities under these keys have the bounds that hold now, and nothing else changed.
pub record Rebounds (old new : Kept) (keys : List ℕ) : Type 0 where
  pub rest : new ≡ record old { lazy = new.lazy }
  pub lazy : new.lazy ≡ record old.lazy { slots = new.lazy.slots }
  pub long : length new.lazy.slots ≡ length old.lazy.slots
  pub runs : (key : ℕ) (live : Live) → slot_at old.lives.slots key ≡ Some live → IsTrue (takes_share live.kind) →
      running_at new.lazy.slots live.flow ≡ (if is_in key keys then rebound_by old key live (running_at old.lazy.slots live.flow) else running_at old.lazy.slots live.flow)
  pub back : (id : ℕ) → IsSome (running_at new.lazy.slots id) → IsSome (running_at old.lazy.slots id)

-- The capacities are these now, and nothing else changed except for what they mark.
pub record Resets (old new : Kept) (capacities : Capacities) (resource : ℕ) : Type 0 where
  pub state : state_of new ≡ record (state_of old) { capacities = capacities; runs = new.lazy.slots; resources = new.lazy.resources; settled = false }
  pub told : under_of (state_of new) ≡ with_capacities capacities resource (under_of (state_of old))
  pub sound : IsSound new
  pub index : new.index ≡ old.index
  pub room : new.room ≡ old.room
