-- The room that requests have.
use Rattle.std.specs.Prelude.{◌≡◌, ℕ, ◌+◌, ◌<◌, ◌≤◌, length}
use Rattle.std.specs.List.{sum_by}
use Rattle.sg_base.specs.declared.awaits.Await.{Await}
use Rattle.sg_queues.specs.Queues.{Queues}

-- There is a slot for each request for which there is room, and of those that were made some stand in the queues. The ids of all that may stand at once, and one more, fit into a list of this
-- capacity.
pub record IsRoomy (queues : Queues Await) (asked standing room capacity : ℕ) : Type 0 where
  pub slots : room ≤ queues.room
  pub counted : standing ≡ sum_by length queues.queues
  pub few : standing ≤ asked
  pub fits : standing + room < capacity
