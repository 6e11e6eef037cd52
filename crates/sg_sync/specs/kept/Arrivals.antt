-- How it is known who has arrived at the barrier, and how many.
use Rattle.std.specs.Prelude.{◌≡◌, ℕ, ◌+◌, ◌≤◌, Bool, false, List, length, slice_index_or}
use Rattle.std.specs.Int.{from_bool}
use Rattle.sg_base.specs.declared.ids.ActorId.{ActorId}
use Rattle.sg_queues.specs.Rings.{queue_at}
use Rattle.sg_sync.specs.Queues.{Waiting, times}

pub record IsCounted (arrived : Waiting) (here : List Bool) (count : ℕ) : Type 0 where
  pub one : length arrived.queues ≡ 1
  pub places : length here ≡ arrived.actors + 1
  pub few : count ≤ arrived.actors + 2
  pub len : count ≡ length (queue_at arrived.queues 0)
  pub each : (actor : ActorId) → times actor (queue_at arrived.queues 0) ≡ from_bool (slice_index_or here actor.0 false)
