-- The faults of a text rise: by table, then row, then key, then kind. So the first is that of least place, and there of
-- least kind.
use Rattle.std.specs.Prelude.{◌≡◌, ℕ, ◌<◌, ◌⊎◌, List, [], ◌∷◌, ⊤}
use Rattle.std.specs.List.{AllByRecursion}
use Rattle.sg_toml_rules.specs.Faults.{faults_of}
use Rattle.sg_toml_tree.specs.Names.{Known}
use Rattle.sg_toml_keys.specs.Tables.{deployment_tables, platform_tables}
use Rattle.sg_toml_tree.specs.Faults.{kind_number}
use Rattle.sg_toml_tree.specs.declared.fault.Fault.{Fault}
use Rattle.toml.specs.Data.{Members}

-- one number is less, and those before it are the same
abbrev pub IsBelow : List ℕ → List ℕ → Type 0
IsBelow [] ys = ⊥
IsBelow (x ∷ xs) [] = ⊥
IsBelow (x ∷ xs) (y ∷ ys) = (x < y) ⊎ ((x ≡ y) × IsBelow xs ys)

abbrev pub numbers_of : Fault → List ℕ
numbers_of f = f.place.table ∷ f.place.row ∷ f.place.key ∷ kind_number f.kind ∷ []

abbrev pub IsBefore : Fault → Fault → Type 0
IsBefore f g = IsBelow (numbers_of f) (numbers_of g)

-- each is before all those after it
abbrev pub IsRising : List Fault → Type 0
IsRising [] = ⊤
IsRising (f ∷ fs) = AllByRecursion (IsBefore f) fs × IsRising fs

pub record FaultsRise : Type 0 where
  pub platform : (names : Known) (tree : Members) → IsRising (faults_of names platform_tables tree)
  pub deployment : (names : Known) (tree : Members) → IsRising (faults_of names deployment_tables tree)
