-- One step of progressive filling, by what it finds and fixes.
use Rattle.std.specs.Prelude.{◌≡◌, ℕ, ◌≤◌, ◌⊎◌, Option, None, Some, List, [], Contains, min}

-- the least of the list, or none if it is empty
abbrev pub IsLeast : Option ℕ → List ℕ → Type 0
IsLeast None list = list ≡ []
IsLeast (Some least) list = Contains list least × ((x : ℕ) → Contains list x → least ≤ x)

-- the lesser of a level and of the least that was found before
abbrev pub least_with : Option ℕ → ℕ → ℕ
least_with None level = level
least_with (Some least) level = min least level

-- an unfixed flow that is at this level is fixed there, and else all stays
abbrev pub IsStepped : ℕ → Type 0 → Option ℕ → Option ℕ → Type 0
IsStepped low at (Some level) after = after ≡ Some level
IsStepped low at None after = (at × (after ≡ Some low)) ⊎ ((at → ⊥) × (after ≡ None))
