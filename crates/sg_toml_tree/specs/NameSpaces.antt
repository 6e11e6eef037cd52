-- The number under which a name stands first.
use Rattle.std.specs.Prelude.{◌≡◌, ◌≤◌, ℕ, ◌==◌, ◌&&◌, Bool, List, length, take, Option, Some, None, map, option_to_list}
use Rattle.std.specs.Map.{lookup}
use Rattle.std.specs.Str.{bytes_eq}
use Rattle.sg_toml_tree.specs.Along.{along}
use Rattle.sg_toml_tree.specs.Tree.{text_at}
use Rattle.toml.specs.Data.{Data}

-- the number that a name has, if any
abbrev pub Finds : Type 0
Finds = List ℕ → Option ℕ

-- an ordered pair of numbers: the two ends of a route
abbrev pub Pair : Type 0
Pair = ℕ × ℕ

-- whether two pairs have the same first and the same second number
abbrev pub pair_eq : Pair → Pair → Bool
pair_eq p q = p.0 == q.0 && p.1 == q.1

-- the first of two
abbrev pub or_else : Option ℕ → Option ℕ → Option ℕ
or_else None other = other
or_else (Some n) other = Some n

-- keys under one number
abbrev pub with_number : {K : Type 0} → ℕ → List K → List (K × ℕ)
with_number n keys = map (λ k. (k, n)) keys

-- the text at a key of a row, if any
abbrev pub texts_at : List ℕ → Data → List (List ℕ)
texts_at key row = option_to_list (text_at key row)

-- the keys that rows give, under the numbers of the rows, of which the first has this one
abbrev pub numbered : {R K : Type 0} → (R → List K) → ℕ → List R → List (K × ℕ)
numbered keys number rows = along (λ i row. with_number i (keys row)) number rows

-- the number that is first under a name
abbrev pub found_in : List (List ℕ × ℕ) → Finds
found_in given name = lookup (bytes_eq name) given

-- these names were given these numbers, except for those that had one
abbrev pub Adds : List (List ℕ × ℕ) → Finds → Finds → Type 0
Adds given old new = (q : List ℕ) → new q ≡ or_else (old q) (found_in given q)

-- so were these pairs
abbrev pub AddsPairs : List (Pair × ℕ) → (Pair → Option ℕ) → (Pair → Option ℕ) → Type 0
AddsPairs given old new = (q : Pair) → new q ≡ or_else (old q) (lookup (pair_eq q) given)

-- both find the same
abbrev pub SameNames : Finds → Finds → Type 0
SameNames a b = (q : List ℕ) → a q ≡ b q

abbrev pub SamePairs : (Pair → Option ℕ) → (Pair → Option ℕ) → Type 0
SamePairs a b = (q : Pair) → a q ≡ b q

-- so were the names of so many first rows
pub record AddsFront (key : List ℕ) (before : ℕ) (rows : List Data) (old new : Finds) : Type 0 where
  pub done : ℕ
  pub within : done ≤ length rows
  pub adds : Adds (numbered (texts_at key) before (take done rows)) old new
