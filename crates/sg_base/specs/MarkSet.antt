-- What contracts see of `Marks`.
use Rattle.std.specs.Prelude.{ℕ, ◌==◌, Bool, if◌then◌else◌, List, [], ◌∷◌, ◌++◌}
use Rattle.std.specs.List.{list_any}

-- the members in the order in which they came, each once, all below the room
pub record MarkSet : Type 0 where
  pub members : List ℕ
  pub room : ℕ

-- whether a number is among the members of a set of marks
abbrev pub is_in : ℕ → List ℕ → Bool
is_in number members = list_any (λ member. member == number) members

-- the members, with one more at the end if it isn't there
abbrev pub with_mark : ℕ → List ℕ → List ℕ
with_mark number members = if is_in number members then members else members ++ number ∷ []
