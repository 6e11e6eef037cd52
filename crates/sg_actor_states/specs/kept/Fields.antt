-- What always holds of the fields of `States`.
use Rattle.std.specs.Prelude.{◌≡◌, ℕ, ◌+◌, ◌≤◌, List, length, count_by, All}
use Rattle.sg_base.specs.declared.trace_record.Record.{Record}
use Rattle.sg_actor_states.specs.declared.state.Actor.{Actor}
use Rattle.sg_actor_states.specs.Actors.{is_blocked}
use Rattle.sg_actor_states.specs.Records.{AreRecords}
use Rattle.sg_actor_states.specs.States.{ActorStates, KeepsLimits}
use Rattle.sg_actor_states.specs.kept.Standing.{Standing}

-- what contracts see of these fields
abbrev pub states_of : ℕ → ℕ → ℕ → Standing → List Record → ℕ → ActorStates
states_of number mutexes semaphores standing records room = record {
  extent = record { actors = number; mutexes = mutexes; semaphores = semaphores };
  actors = standing.actors;
  records = records;
  room = room;
  passing = standing.passing;
  trimmed = standing.trimmed;
}

-- There is room for a record of each call that may come, and of each actor that is blocked.
pub record IsKept (states : ActorStates) (made records_room : ℕ) : Type 0 where
  pub number : length states.actors ≡ states.extent.actors
  pub actors_limited : All (λ (actor : Actor). KeepsLimits states.extent actor.state) states.actors
  pub records_limited : AreRecords states.extent states.records
  pub records_fit : made + states.room + count_by (λ (actor : Actor). is_blocked actor.state) states.actors ≤ records_room
