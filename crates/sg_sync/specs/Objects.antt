-- Mutexes, semaphores and the barrier: who owns, what is free, who waits, and what each call does.
use Rattle.std.specs.Prelude.{ℕ, ◌+◌, ◌-◌, ◌==◌, nat_lt, if◌then◌else◌, List, [], ◌∷◌, ◌++◌, length, Option, None, Some, slice_index_or, slice_set}
use Rattle.std.specs.Option.{option_to_list}
use Rattle.sg_base.specs.declared.ids.ActorId.{ActorId}
use Rattle.sg_sync.specs.declared.outcome.Outcome.{Outcome}
use Rattle.sg_sync.specs.declared.outcome.Outcome.TheVariants.{GoesOn, Waits, Refused}
use Rattle.sg_queues.specs.Rings.{queue_at, front}
use Rattle.sg_sync.specs.Queues.{with_waiter, left, shortened, times, waits, without}

-- the owner of each mutex and who waits for it; the count of each semaphore and who waits there; who has arrived at the barrier, in order, and its number of members
pub record Objects : Type 0 where
  pub actors : ℕ
  pub owners : List (Option ActorId)
  pub locking : List (List ActorId)
  pub counts : List ℕ
  pub acquiring : List (List ActorId)
  pub members : ℕ
  pub arrived : List ActorId

-- the actor that owns a mutex; none: it is free
abbrev pub owner_of : Objects → ℕ → Option ActorId
owner_of o mutex = slice_index_or o.owners mutex None

-- the count of a semaphore: how many acquires succeed before one must wait
abbrev pub count_of : Objects → ℕ → ℕ
count_of o semaphore = slice_index_or o.counts semaphore 0

-- how often an actor waits in all queues together
abbrev pub waiting : Objects → ActorId → ℕ
waiting o actor = waits actor o.locking + waits actor o.acquiring + times actor o.arrived

-- what a call does: its answer, the objects after it, and who else continues by it, in order
pub record Done : Type 0 where
  pub outcome : Outcome
  pub after : Objects
  pub woken : List ActorId

-- a free mutex gets its owner; else the actor waits, its owner too
abbrev pub locked_by : Option ActorId → ActorId → ℕ → Objects → Done
locked_by None actor mutex o = record { outcome = GoesOn; after = record o { owners = slice_set o.owners mutex (Some actor) }; woken = [] }
locked_by (Some owner) actor mutex o = record { outcome = Waits; after = record o { locking = with_waiter o.locking mutex actor }; woken = [] }

-- a lock: a free mutex gets the caller as its owner; else the caller waits
abbrev pub locked : ActorId → ℕ → Objects → Done
locked actor mutex o = locked_by (owner_of o mutex) actor mutex o

-- the call is refused: no owner, count or queue changes
abbrev pub refused : Objects → Done
refused o = record { outcome = Refused; after = o; woken = [] }

-- the first that waits owns the mutex and continues, or nobody owns it
abbrev pub passed_on : ℕ → Objects → Done
passed_on mutex o =
    let first = front (queue_at o.locking mutex) in
    record { outcome = GoesOn; after = record o { owners = slice_set o.owners mutex first; locking = shortened o.locking mutex }; woken = option_to_list first }

-- by its owner alone
abbrev pub unlocked_by : Option ActorId → ActorId → ℕ → Objects → Done
unlocked_by None actor mutex o = refused o
unlocked_by (Some owner) actor mutex o = if owner.0 == actor.0 then passed_on mutex o else refused o

-- an unlock, which only the owner may do: it hands the mutex to the first that waits
abbrev pub unlocked : ActorId → ℕ → Objects → Done
unlocked actor mutex o = unlocked_by (owner_of o mutex) actor mutex o

-- a count above 0 falls by one; else the actor waits
abbrev pub acquired : ActorId → ℕ → Objects → Done
acquired actor semaphore o =
    if nat_lt 0 (count_of o semaphore)
    then record { outcome = GoesOn; after = record o { counts = slice_set o.counts semaphore (count_of o semaphore - 1) }; woken = [] }
    else record { outcome = Waits; after = record o { acquiring = with_waiter o.acquiring semaphore actor }; woken = [] }

-- the first that waits continues, or the count rises by one
abbrev pub released_to : Option ActorId → ℕ → Objects → Done
released_to None semaphore o = record { outcome = GoesOn; after = record o { counts = slice_set o.counts semaphore (count_of o semaphore + 1) }; woken = [] }
released_to (Some first) semaphore o = record { outcome = GoesOn; after = record o { acquiring = shortened o.acquiring semaphore }; woken = first ∷ [] }

-- a release: the first that waits for the semaphore continues, or its count rises by one
abbrev pub released : ℕ → Objects → Done
released semaphore o = released_to (front (queue_at o.acquiring semaphore)) semaphore o

-- the last of the members makes all continue, in order of arrival, and the barrier begins anew; the others wait
abbrev pub arrived : ActorId → Objects → Done
arrived actor o =
    if nat_lt (length o.arrived + 1) o.members
    then record { outcome = Waits; after = record o { arrived = o.arrived ++ actor ∷ [] }; woken = [] }
    else record { outcome = GoesOn; after = record o { arrived = [] }; woken = o.arrived }

-- an actor waits nowhere any more
abbrev pub after_withdrawal : ActorId → Objects → Objects
after_withdrawal actor o = record o { locking = left actor o.locking; acquiring = left actor o.acquiring; arrived = without actor o.arrived }
