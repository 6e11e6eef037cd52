-- How a line names an actor, a mutex and a semaphore.
use Rattle.std.specs.Prelude.{ℕ, ◌-◌, List, [], ◌++◌, decimal, codes, slice_get}
use Rattle.std.specs.Option.{option_map_or}
use Rattle.sg_base.specs.declared.ids.ActorId.{ActorId}
use Rattle.sg_base.specs.declared.ids.PointId.{PointId}
use Rattle.sg_platform_rows.specs.Deployment.{Deployed}
use Rattle.sg_platform_rows.specs.Platform.{Platform}

-- the name of a host, as the platform declares it
abbrev pub host_name : Platform → PointId → List ℕ
host_name platform host = option_map_or (λ row. row.id) (slice_get platform.hosts host.0) []

-- the first actor of the deployment has the identifier 1
abbrev pub actor_name : Deployed → ActorId → List ℕ
actor_name deployed actor = option_map_or (λ row. row.name) (slice_get deployed.actors (actor.0 - 1)) []

-- HOST:ACTOR:(ID), with the host on which the actor is deployed
abbrev pub actor_label : Platform → Deployed → ActorId → List ℕ
actor_label platform deployed actor =
    option_map_or (λ row. host_name platform row.host) (slice_get deployed.actors (actor.0 - 1)) [] ++ codes ":"
    ++ actor_name deployed actor ++ codes ":(" ++ decimal actor.0 ++ codes ")"

-- the name of a mutex, by its number from 0 on
abbrev pub mutex_id : Deployed → ℕ → List ℕ
mutex_id deployed mutex = option_map_or (λ row. row.id) (slice_get deployed.mutexes mutex) []

-- the name of a semaphore, by its number from 0 on
abbrev pub semaphore_id : Deployed → ℕ → List ℕ
semaphore_id deployed semaphore = option_map_or (λ row. row.id) (slice_get deployed.semaphores semaphore) []
