-- First-in-first-out queues of actors.
use Rattle.std.specs.Prelude.{ℕ, ◌<◌, ◌≤◌, ◌==◌, not, List, [], ◌∷◌, ◌++◌, map, filter, slice_set}
use Rattle.std.specs.List.{sum_by, count_by}
use Rattle.sg_base.specs.declared.ids.ActorId.{ActorId}
-- the queue of a number, its first, and those after the first
pub use Rattle.sg_queues.specs.Rings.{behind, front, queue_at}

-- so many actors, and who waits in each queue, the first in front
pub record Waiting : Type 0 where
  pub actors : ℕ
  pub queues : List (List ActorId)

abbrev pub IsActor : ℕ → ActorId → Type 0
IsActor actors actor = (0 < actor.0) × (actor.0 ≤ actors)

-- an actor joins a queue at its end
abbrev pub with_waiter : List (List ActorId) → ℕ → ActorId → List (List ActorId)
with_waiter queues at actor = slice_set queues at (queue_at queues at ++ actor ∷ [])

-- the first leaves a queue, if anybody waits there
abbrev pub shortened : List (List ActorId) → ℕ → List (List ActorId)
shortened queues at = slice_set queues at (behind (queue_at queues at))

-- a queue that an actor leaves, from wherever it stands there
abbrev pub without : ActorId → List ActorId → List ActorId
without actor queue = filter (λ (other : ActorId). not (other.0 == actor.0)) queue

-- the queues without this actor, which leaves each one
abbrev pub left : ActorId → List (List ActorId) → List (List ActorId)
left actor queues = map (without actor) queues

-- how often an actor waits in a queue, and in all
abbrev pub times : ActorId → List ActorId → ℕ
times actor queue = count_by (λ (other : ActorId). other.0 == actor.0) queue

abbrev pub waits : ActorId → List (List ActorId) → ℕ
waits actor queues = sum_by (times actor) queues
