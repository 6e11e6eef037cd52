-- Lists that are made along another, and their first item.
use Rattle.std.specs.Prelude.{ℕ, ◌+◌, List, [], ◌∷◌, ◌++◌, Option, Some, None}

-- the first item
abbrev pub first : {A : Type 0} → List A → Option A
first [] = None
first (x ∷ xs) = Some x

-- what f gives along the items, of which the first has this index
abbrev pub along : {A B : Type 0} → (ℕ → A → List B) → ℕ → List A → List B
along f i [] = []
along f i (x ∷ xs) = f i x ++ along f (i + 1) xs
