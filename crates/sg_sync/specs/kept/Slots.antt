-- How queues of actors are kept: each actor is a slot, of its own number. Those that wait nowhere are alone.
use Rattle.std.specs.Prelude.{◌≡◌, ℕ, ◌+◌, ◌<◌, ◌≤◌, List, [], length, map}
use Rattle.sg_base.specs.declared.ids.ActorId.{ActorId}
use Rattle.sg_queues.specs.Rings.{Rings, IsApart, IsSlot}

abbrev pub actor_of : ℕ → ActorId
actor_of slot = record { 0 = slot }

abbrev pub actors_in : List ℕ → List ActorId
actors_in slots = map actor_of slots

abbrev pub waiting_in : List (List ℕ) → List (List ActorId)
waiting_in queues = map (map actor_of) queues

-- the slots are the actors
pub record AreActors (actors nodes : ℕ) (heads : List ℕ) : Type 0 where
  pub slots : (slot : ℕ) → 0 < slot → slot ≤ actors → IsSlot nodes heads slot
  pub all : (slot : ℕ) → IsSlot nodes heads slot → slot ≤ actors

pub record AreKept (actors : ℕ) (rings : Rings) : Type 0 where
  pub apart : IsApart rings
  pub idle : rings.idle ≡ []
  pub nodes : rings.nodes ≡ actors + length rings.queues + 1
  pub slots : AreActors actors rings.nodes rings.heads
