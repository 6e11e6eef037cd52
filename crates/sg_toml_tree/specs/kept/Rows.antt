-- What is left of a tree whose rows are taken table by table.
use Rattle.std.specs.Prelude.{◌≡◌, ℕ, List, false}
use Rattle.std.specs.List.{AllByRecursion}
use Rattle.sg_toml_tree.specs.Tree.{rows_at}
use Rattle.toml.specs.Data.{Members, same_key}

-- any other table has its rows
abbrev pub KeepsBut : List (List ℕ) → Members → Members → Type 0
KeepsBut names old new = (q : List ℕ) → AllByRecursion (λ n. same_key q n ≡ false) names → rows_at q new ≡ rows_at q old
