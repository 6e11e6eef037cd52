-- The requests of actors.
use Rattle.std.specs.Prelude.{◌≡◌, ℕ, ◌-◌, ◌^◌, ◌<◌, ◌≤◌, ◌==◌, nat_lt, Option, Result, OnOk, if◌then◌else◌, List, [], ◌∷◌, ◌++◌, length, map, slice_index_or, slice_set}
use Rattle.std.specs.Option.{option_to_list}
use Rattle.sg_base.specs.declared.awaits.Await.{Await}
use Rattle.sg_base.specs.declared.memory.Memory.{Memory}
use Rattle.sg_queues.specs.Rings.{front, behind}

-- what each actor may wait for, by actor from 1 on, oldest first; how many requests were made in all; room for so many more; and the activity ids awaited by the last released actor
pub record Requested : Type 0 where
  pub queues : List (List Await)
  pub asked : ℕ
  pub room : ℕ
  pub awaited : List ℕ

-- there is room for so many more requests, unless memory was lacking; nothing else changes, and the room doesn't shrink
pub record HasReserved (n : ℕ) (result : Result Unit Memory) (old new : Requested) : Type 0 where
  pub room : OnOk result (n ≤ new.room)
  pub grows : old.room ≤ new.room
  pub kept : new ≡ record old { room = new.room }

-- there is room for a request of this actor
pub record CanPush (requested : Requested) (who : ℕ) : Type 0 where
  pub actor : (0 < who) × (who ≤ length requested.queues)
  pub few : requested.asked < 10 ^ 18
  pub room : 0 < requested.room

-- what the actor of this number may wait for
abbrev pub queue_at : List (List Await) → ℕ → List Await
queue_at queues actor = slice_index_or queues (actor - 1) []

-- the oldest of an actor's requests, if it has one
abbrev pub oldest : List Await → Option Await
oldest queue = front queue

-- the requests of an actor, except the oldest
abbrev pub rest_of : List Await → List Await
rest_of queue = behind queue

-- an actor makes a request, which becomes its newest
abbrev pub queues_with_request : List (List Await) → ℕ → Await → List (List Await)
queues_with_request queues actor request = slice_set queues (actor - 1) (queue_at queues actor ++ request ∷ [])

-- the oldest request of an actor is taken away
abbrev pub queues_without_oldest : List (List Await) → ℕ → List (List Await)
queues_without_oldest queues actor = slice_set queues (actor - 1) (rest_of (queue_at queues actor))

-- ---- what an actor awaits
-- a number enters a list in which each is larger than the one before, once
unfoldable pub rising_numbers_with : ℕ → List ℕ → List ℕ
rising_numbers_with n [] = n ∷ []
rising_numbers_with n (m ∷ more) = if nat_lt n m then n ∷ m ∷ more else if n == m then m ∷ more else m ∷ rising_numbers_with n more

-- by rising number, each once
unfoldable pub rising_numbers : List ℕ → List ℕ
rising_numbers [] = []
rising_numbers (n ∷ more) = rising_numbers_with n (rising_numbers more)

-- the id of the activity for which a request waits
abbrev pub serial_of : Await → ℕ
serial_of request = request.serial.0

-- the activity ids of these requests, and of the activity on which the actor is blocked, if there is one
abbrev pub awaited_with : Option Await → List Await → List ℕ
awaited_with on queue = rising_numbers (map serial_of (option_to_list on ++ queue))

-- an actor has no requests any more
abbrev pub without_requests : List (List Await) → ℕ → List (List Await)
without_requests queues actor = slice_set queues (actor - 1) []
