-- A deployment, and what holds of each one.
use Rattle.std.specs.Prelude.{ℕ, ◌+◌, ◌<◌, ◌≤◌, ◌^◌, Bool, true, false, List, [], ◌∷◌, if◌then◌else◌, Option, count_by, length, option_map, ⊤}
use Rattle.std.specs.List.{All}
use Rattle.sg_base.specs.declared.ids.ActorId.{ActorId}
use Rattle.sg_base.specs.Limits.{Extent, IsActorIn, IsAmount}
use Rattle.sg_platform_rows.specs.Index.{number_by}
use Rattle.sg_platform_rows.specs.Platform.{Platform}
use Rattle.sg_platform_rows.specs.declared.rows.ActorRow.{ActorRow}
use Rattle.sg_platform_rows.specs.declared.rows.Function.{Function}
use Rattle.sg_platform_rows.specs.declared.rows.Function.TheVariants.{Replay, Master, Churn}
use Rattle.sg_platform_rows.specs.declared.rows.MutexRow.{MutexRow}
use Rattle.sg_platform_rows.specs.declared.rows.SemaphoreRow.{SemaphoreRow}
use Rattle.sg_toml_tree.specs.Along.{along}

-- the rows of a deployment: its actors, mutexes and semaphores, in their order
pub record Deployed : Type 0 where
  pub actors : List ActorRow
  pub mutexes : List MutexRow
  pub semaphores : List SemaphoreRow

-- the deployment of these rows
abbrev pub deployment_of_rows : List ActorRow → List MutexRow → List SemaphoreRow → Deployed
deployment_of_rows actors mutexes semaphores = record { actors = actors; mutexes = mutexes; semaphores = semaphores }

-- how many actors, mutexes and semaphores there are
abbrev pub extent_of : Deployed → Extent
extent_of deployed = record { actors = length deployed.actors; mutexes = length deployed.mutexes; semaphores = length deployed.semaphores }

abbrev pub IsActorRow : ActorRow → Type 0
IsActorRow actor = length actor.name ≤ 64

-- the amounts of a function keep to their limits, and the actors that it names exist; a master has a worker
abbrev pub IsFunction : Extent → Function → Type 0
IsFunction extent (Master tasks flops bytes workers) =
    (tasks ≤ 1000000000) × IsAmount flops × IsAmount bytes × (0 < length workers) × (length workers < 2 ^ 63) × All (IsActorIn extent) workers
IsFunction extent (Churn seed next prev steps) = (steps ≤ 1000000) × IsActorIn extent next × IsActorIn extent prev
IsFunction extent other = ⊤

pub record IsSemaphoreRow (semaphore : SemaphoreRow) : Type 0 where
  pub id : length semaphore.id ≤ 64
  pub capacity : semaphore.capacity ≤ 1000000000

pub record IsDeployment (deployed : Deployed) : Type 0 where
  pub few_actors : length deployed.actors ≤ 65536
  pub few_mutexes : length deployed.mutexes ≤ 65536
  pub few_semaphores : length deployed.semaphores ≤ 65536
  pub actors : All IsActorRow deployed.actors
  pub functions : All (λ actor. IsFunction (extent_of deployed) actor.function) deployed.actors
  pub mutexes : All (λ mutex. length mutex.id ≤ 64) deployed.mutexes
  pub semaphores : All IsSemaphoreRow deployed.semaphores

-- each actor is on a host of the platform
abbrev pub IsDeployedOn : Platform → Deployed → Type 0
IsDeployedOn platform deployed = All (λ actor. actor.host.0 < length platform.hosts) deployed.actors

-- the actor begins with the run
abbrev pub starts : ActorRow → Bool
starts actor = actor.start

-- how many actors begin with the run
abbrev pub started_number : Deployed → ℕ
started_number deployed = count_by starts deployed.actors

-- the actor of a name; the first actor of the deployment has the identifier 1
abbrev pub actor_named : Deployed → List ℕ → Option ActorId
actor_named deployed name = option_map (λ row. record { 0 = row + 1 }) (number_by (λ actor. actor.name ∷ []) deployed.actors name)

-- whether a function is replay: its actor takes its actions from the script
abbrev pub is_replay : Function → Bool
is_replay Replay = true
is_replay other = false

-- the names by which an actor that replays is found: its own, and none of one that does not replay
abbrev pub replay_names : ActorRow → List (List ℕ)
replay_names actor = if is_replay actor.function then actor.name ∷ [] else []

-- the actor of a name, if it replays
abbrev pub replay_actor_named : Deployed → List ℕ → Option ActorId
replay_actor_named deployed name = option_map (λ row. record { 0 = row + 1 }) (number_by replay_names deployed.actors name)

-- the number of the mutex of a name, from 0 on
abbrev pub mutex_named : Deployed → List ℕ → Option ℕ
mutex_named deployed name = number_by (λ mutex. mutex.id ∷ []) deployed.mutexes name

-- the number of the semaphore of a name, from 0 on
abbrev pub semaphore_named : Deployed → List ℕ → Option ℕ
semaphore_named deployed name = number_by (λ semaphore. semaphore.id ∷ []) deployed.semaphores name

-- the identifier of the actor of this row as a list, empty if it does not replay
abbrev pub member_ids : ℕ → ActorRow → List ActorId
member_ids place actor = if is_replay actor.function then record { 0 = place + 1 } ∷ [] else []

-- who takes part in collectives: all actors that replay, by rising identifier
unfoldable pub members_among : List ActorRow → List ActorId
members_among actors = along member_ids 0 actors
