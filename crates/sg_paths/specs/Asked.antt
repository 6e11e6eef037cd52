-- Shortest paths that were asked for before.
use Rattle.std.specs.Prelude.{◌≡◌, ℕ, ◌⊎◌, List, Option, Some, slice_get, slice_set}
use Rattle.sg_base.specs.declared.ids.LinkId.{LinkId}
use Rattle.sg_paths.specs.declared.asked.Asked.{Asked}
use Rattle.sg_paths.specs.declared.route.PathRoute.{PathRoute}
use Rattle.sg_paths.specs.Least.{least_path}

-- each has the links of the shortest path between its points
abbrev pub AreRight : List PathRoute → List (Option Asked) → Type 0
AreRight routes asked = (k : ℕ) (one : Asked) → slice_get asked k ≡ Some (Some one) → least_path routes one.from one.to ≡ Some one.links.items

-- none is stored
abbrev pub AreFree : List (Option Asked) → Type 0
AreFree asked = (k : ℕ) (one : Asked) → slice_get asked k ≡ Some (Some one) → ⊥

-- these links are stored for two points
pub record AreHeld (asked : List (Option Asked)) (a b : ℕ) (xs : List LinkId) : Type 0 where
  pub place : ℕ
  pub one : Asked
  pub there : slice_get asked place ≡ Some (Some one)
  pub from : one.from ≡ a
  pub to : one.to ≡ b
  pub links : one.links.items ≡ xs

-- one more is stored, in the place of another
pub record HoldsMore (old new : List (Option Asked)) (a b : ℕ) (xs : List LinkId) : Type 0 where
  pub place : ℕ
  pub one : Asked
  pub is : new ≡ slice_set old place (Some one)
  pub from : one.from ≡ a
  pub to : one.to ≡ b
  pub links : one.links.items ≡ xs

-- nothing changes, or one more is stored
abbrev pub MayHoldMore : List (Option Asked) → List (Option Asked) → ℕ → ℕ → List LinkId → Type 0
MayHoldMore old new from to links = (new ≡ old) ⊎ HoldsMore old new from to links
