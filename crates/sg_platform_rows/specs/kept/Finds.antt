-- The maps by which rows are found by their names.
use Rattle.std.specs.Prelude.{◌≡◌, ℕ, Bool, List, [], ◌∷◌}
use Rattle.std.specs.HashMap.{HashMap, get_by}
use Rattle.std.specs.Str.{bytes_eq}
use Rattle.std.specs.Global.{Vec}
use Rattle.sg_base.specs.declared.ids.ActorId.{ActorId}
use Rattle.sg_platform_rows.specs.Deployment.{Deployed, IsDeployment, members_among, replay_names}
use Rattle.sg_platform_rows.specs.Index.{number_by}
use Rattle.sg_toml_tree.specs.NameSpaces.{Finds, with_number}

-- the key is these bytes
abbrev pub by_bytes : List ℕ → Vec ℕ → Bool
by_bytes bytes key = bytes_eq bytes key.items

-- what the map finds
abbrev pub finds : {S : Type 0} → HashMap (Vec ℕ) ℕ S → Finds
finds map bytes = get_by (by_bytes bytes) map

-- the map finds the same
abbrev pub FindsAs : {S : Type 0} → HashMap (Vec ℕ) ℕ S → Finds → Type 0
FindsAs map found = (q : List ℕ) → finds map q ≡ found q

-- the names of a row, each under the number of the row
abbrev pub numbered_names : {X : Type 0} → (X → List (List ℕ)) → ℕ → X → List (List ℕ × ℕ)
numbered_names names_of i row = with_number i (names_of row)

-- the rows are a deployment, these maps find its actors, those that replay, its mutexes and its semaphores, and these actors take part in collectives
pub record IsIndexed {S : Type 0} (actors_by replay_by mutexes_by semaphores_by : HashMap (Vec ℕ) ℕ S) (ids : List ActorId) (rows : Deployed) : Type 0 where
  pub actors : FindsAs actors_by (number_by (λ actor. actor.name ∷ []) rows.actors)
  pub replay : FindsAs replay_by (number_by replay_names rows.actors)
  pub mutexes : FindsAs mutexes_by (number_by (λ mutex. mutex.id ∷ []) rows.mutexes)
  pub semaphores : FindsAs semaphores_by (number_by (λ semaphore. semaphore.id ∷ []) rows.semaphores)
  pub members : ids ≡ members_among rows.actors
  pub kept : IsDeployment rows
