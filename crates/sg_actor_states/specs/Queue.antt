-- Who is to take a turn.
use Rattle.std.specs.Prelude.{ℕ, ◌<◌, ◌≤◌, List, length, All, AllPairs, Contains, IsTrue, Bool}
use Rattle.sg_base.specs.declared.ids.ActorId.{ActorId}
use Rattle.sg_actor_states.specs.declared.state.Actor.{Actor}
use Rattle.sg_actor_states.specs.Actors.{actor_at, is_ready}

-- whether the actor of this id is to take a turn
abbrev pub is_ready_in : List Actor → ℕ → Bool
is_ready_in actors id = is_ready (actor_at actors id)

abbrev pub IsIdOf : List Actor → ActorId → Type 0
IsIdOf actors actor = (0 < actor.0) × (actor.0 ≤ length actors)

-- each of them is to take a turn
abbrev pub AreReady : List Actor → List ActorId → Type 0
AreReady actors = All (λ (actor : ActorId). IsTrue (is_ready_in actors actor.0))

-- Actors in rising order of their ids, among them each one that is to take a turn.
pub record IsQueue (actors : List Actor) (queue : List ActorId) : Type 0 where
  pub rises : AllPairs (λ a b. a.0 < b.0) queue
  pub ids : All (IsIdOf actors) queue
  pub has_ready : (actor : ActorId) → 0 < actor.0 → IsTrue (is_ready_in actors actor.0) → Contains queue actor
