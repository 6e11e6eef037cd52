-- Who is blocked by a join, as it is kept.
use Rattle.std.specs.Prelude.{◌≡◌, ℕ, ◌+◌, ◌*◌, ◌^◌, ◌<◌, Bool, true, false, Option, None, Some, List, length, count_by, All, AllPairs, Contains, vec_capacity}
use Rattle.std.specs.Global.{Vec}
use Rattle.sg_base.specs.declared.ids.ActorId.{ActorId}
use Rattle.sg_actor_states.specs.declared.joiners.Joiner.{Joiner}
use Rattle.sg_actor_states.specs.declared.state.Actor.{Actor}
use Rattle.sg_actor_states.specs.Actors.{joined_in, put_actor, state_at}
use Rattle.sg_actor_states.specs.Queue.{IsIdOf}

-- by who is joined, and then by who waits
abbrev pub rank : Joiner → ℕ
rank joiner = joiner.of.0 * 2 ^ 32 + joiner.actor.0

abbrev pub is_some_id : Option ActorId → Bool
is_some_id None = false
is_some_id (Some actor) = true

-- it is blocked by a join
abbrev pub is_joining : Actor → Bool
is_joining actor = is_some_id (joined_in actor.state)

-- just those that are blocked by a join, each once, with the one for whose end it waits, in rising order
pub record AreWaiting (actors : List Actor) (list : List Joiner) : Type 0 where
  pub rises : AllPairs (λ a b. rank a < rank b) list
  pub ids : All (λ (joiner : Joiner). IsIdOf actors joiner.actor) list
  pub wait : All (λ (joiner : Joiner). joined_in (state_at actors joiner.actor.0) ≡ Some joiner.of) list
  pub has_waiting : (joiner : Joiner) → 0 < joiner.actor.0 → joined_in (state_at actors joiner.actor.0) ≡ Some joiner.of → Contains list joiner
  pub number : length list ≡ count_by is_joining actors

-- the actor turns into a next one that joins this one, or none
pub record HasTurned (actors : List Actor) (actor : ActorId) (joined : Option ActorId) (old new : Vec Joiner) : Type 0 where
  pub waiting : (next : Actor) → joined_in next.state ≡ joined → AreWaiting (put_actor actors actor.0 next) new.items
  pub capacity : vec_capacity new ≡ vec_capacity old
