-- Who may come to wait.
use Rattle.std.specs.Prelude.{◌≡◌}
use Rattle.sg_base.specs.declared.ids.ActorId.{ActorId}
use Rattle.sg_sync.specs.Objects.{Objects, waiting}
use Rattle.sg_sync.specs.Queues.{Waiting, IsActor, waits}

-- an actor that waits in none of the queues may join one
pub record CanJoin (queues : Waiting) (who : ActorId) : Type 0 where
  pub actor : IsActor queues.actors who
  pub free : waits who queues.queues ≡ 0

-- one that waits at no object may call
pub record CanWait (objects : Objects) (who : ActorId) : Type 0 where
  pub actor : IsActor objects.actors who
  pub free : waiting objects who ≡ 0
