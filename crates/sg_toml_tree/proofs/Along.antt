-- The first item of a list that is made along another.
use Rattle.std.proofs.Common.{◌≡◌, ℕ, ◌+◌, ◌<◌, ◌≤◌, List, [], ◌∷◌, ◌++◌, length, get_or, drop, map, Some, None, refl, ap}
use Rattle.std.proofs.lemmas.List.{drop_more, drop_all}
use Rattle.sg_toml_tree.specs.Along.{first, along}
use Rattle.sg_toml_tree.specs.Faults.{at_place}
use Rattle.sg_toml_tree.specs.declared.fault.Kind.{Kind}

pub first_append_none : {B : Type 0} (xs ys : List B) → first xs ≡ None → first (xs ++ ys) ≡ first ys
first_append_none [] ys none = refl
first_append_none (x ∷ xs) ys none = cc

pub first_append_some : {B : Type 0} (xs ys : List B) (y : B) → first xs ≡ Some y → first (xs ++ ys) ≡ Some y
first_append_some [] ys y some = cc
first_append_some (x ∷ xs) ys y some = some

-- the item at i gives nothing: continue after it
pub along_more : {A B : Type 0} (f : ℕ → A → List B) (xs : List A) (i : ℕ) (d : A) → i < length xs → first (f i (get_or xs i d)) ≡ None
    → first (along f i (drop i xs)) ≡ first (along f (i + 1) (drop (i + 1) xs))
along_more f xs i d within none = rw (drop_more xs i d within) (first_append_none _ _ none)

-- the item at i gives the first
pub along_here : {A B : Type 0} (f : ℕ → A → List B) (xs : List A) (i : ℕ) (d : A) (y : B) → i < length xs → first (f i (get_or xs i d)) ≡ Some y
    → first (along f i (drop i xs)) ≡ Some y
along_here f xs i d y within some = rw (drop_more xs i d within) (first_append_some _ _ y some)

-- past the last
pub along_end : {A B : Type 0} (f : ℕ → A → List B) (xs : List A) (i : ℕ) → length xs ≤ i → first (along f i (drop i xs)) ≡ None
along_end f xs i past = rw (drop_all i xs past)

pub along_map : {X A B : Type 0} (v : X → A) (f : ℕ → A → List B) (i : ℕ) (xs : List X) → along f i (map v xs) ≡ along (λ j x. f j (v x)) i xs
along_map v f i [] = refl
along_map v f i (x ∷ xs) = ap (λ t. f i (v x) ++ t) (along_map v f (i + 1) xs)

pub first_at_none : (t r k : ℕ) (kinds : List Kind) → first kinds ≡ None → first (at_place t r k kinds) ≡ None
first_at_none t r k [] none = refl
first_at_none t r k (kind ∷ kinds) none = cc

pub first_at_some : (t r k : ℕ) (kinds : List Kind) (kind : Kind) → first kinds ≡ Some kind → first (at_place t r k kinds) ≡ Some (record { place = record { table = t; row = r; key = k }; kind = kind })
first_at_some t r k [] kind some = cc
first_at_some t r k (x ∷ kinds) kind some = let same : x ≡ kind = cc in rw same
