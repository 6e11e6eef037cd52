-- What a name of a deployment stands for exists.
use Rattle.std.proofs.Common.{◌≡◌, ◌<◌, ◌+◌, ◌∷◌, [], refl, ℕ, List, Option, None, Some, arith}
use Rattle.std.specs.Prelude.{IfSome, option_map}
use Rattle.sg_base.specs.declared.ids.ActorId.{ActorId}
use Rattle.sg_base.specs.Limits.{Extent, IsActorIn}
use Rattle.sg_platform_rows.proofs.RowsBelow.{row_below}
use Rattle.sg_platform_rows.specs.Deployment.{Deployed, actor_named, extent_of, mutex_named, replay_actor_named, replay_names, semaphore_named}
use Rattle.sg_platform_rows.specs.Index.{number_by}

-- the actors of a deployment are numbered from 1
numbered_from_1 : (extent : Extent) (row : Option ℕ) → ((i : ℕ) → row ≡ Some i → i < extent.actors) → IfSome (option_map (λ i. record { 0 = i + 1 }) row) (IsActorIn extent)
numbered_from_1 extent None below = tt
numbered_from_1 extent (Some i) below = let it = below i refl in (omega (arith, it), omega (arith, it))

pub actor_exists : (deployment : Deployed) (name : List ℕ) (actor : ActorId) → replay_actor_named deployment name ≡ Some actor → IsActorIn (extent_of deployment) actor
actor_exists deployment name actor is =
    let it = rw is at (numbered_from_1 (extent_of deployment) (number_by replay_names deployment.actors name) (row_below replay_names deployment.actors name)) in
    it

pub anyone_exists : (deployment : Deployed) (name : List ℕ) (actor : ActorId) → actor_named deployment name ≡ Some actor → IsActorIn (extent_of deployment) actor
anyone_exists deployment name actor is =
    let it = rw is at (numbered_from_1 (extent_of deployment) (number_by (λ actor. actor.name ∷ []) deployment.actors name) (row_below (λ actor. actor.name ∷ []) deployment.actors name)) in
    it

pub mutex_exists : (deployment : Deployed) (name : List ℕ) (number : ℕ) → mutex_named deployment name ≡ Some number → number < (extent_of deployment).mutexes
mutex_exists deployment name number is = row_below (λ mutex. mutex.id ∷ []) deployment.mutexes name number is

pub semaphore_exists : (deployment : Deployed) (name : List ℕ) (number : ℕ) → semaphore_named deployment name ≡ Some number → number < (extent_of deployment).semaphores
semaphore_exists deployment name number is = row_below (λ semaphore. semaphore.id ∷ []) deployment.semaphores name number is
