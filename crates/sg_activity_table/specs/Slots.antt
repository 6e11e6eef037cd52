-- Lists of what may be there, by activity id from 1 on, and numbers that may be none.
use Rattle.std.specs.Prelude.{ℕ, zero, suc, ◌+◌, ◌==◌, min, Bool, false, Option, None, Some, option_and_then, if◌then◌else◌, List, [], ◌∷◌}
use Rattle.std.specs.Option.{option_map_or}

-- the less of two numbers, if none is without end
abbrev pub sooner : Option ℕ → Option ℕ → Option ℕ
sooner None b = b
sooner (Some a) None = Some a
sooner (Some a) (Some b) = Some (min a b)

-- the least of all waits
unfoldable pub soonest : {X : Type 0} → (X → Option ℕ) → List (Option X) → Option ℕ
soonest waits [] = None
soonest waits (slot ∷ rest) = sooner (option_and_then waits slot) (soonest waits rest)

-- whether something is there that passes the test
abbrev pub passes : {X : Type 0} → (X → Bool) → Option X → Bool
passes test slot = option_map_or test slot false

-- the activity ids at which the test is passed, if the first place has this one
unfoldable pub serials : {X : Type 0} → (X → Bool) → ℕ → List (Option X) → List ℕ
serials test serial [] = []
serials test serial (slot ∷ rest) =
    if passes test slot then serial ∷ serials test (serial + 1) rest
    else serials test (serial + 1) rest

-- whether a wait ends after exactly this many nanoseconds
abbrev pub is_over_after : Option ℕ → ℕ → Bool
is_over_after wait span = option_map_or (λ time. time == span) wait false

-- what the function gives of each number below this one
unfoldable pub listed : {X : Type 0} → ℕ → (ℕ → X) → List X
listed zero f = []
listed (suc n) f = f 0 ∷ listed n (λ i. f (suc i))
