-- How the objects are kept.
use Rattle.std.specs.Prelude.{◌≡◌, ℕ, ◌+◌, ◌≤◌, length}
use Rattle.sg_sync.specs.Queues.{Waiting}

-- A queue for each mutex and semaphore, and one for the barrier, of the same actors; and room to list all that wait there.
pub record IsKept (locks acquires arrivals : Waiting) (mutexes semaphores room : ℕ) : Type 0 where
  pub locking : length locks.queues ≡ mutexes
  pub acquiring : length acquires.queues ≡ semaphores
  pub arrived : length arrivals.queues ≡ 1
  pub locking_actors : locks.actors ≡ arrivals.actors
  pub acquiring_actors : acquires.actors ≡ arrivals.actors
  pub room_fits : arrivals.actors + 2 ≤ room
