-- If a list of faults is empty, each part of it is.
use Rattle.std.proofs.Common.{◌≡◌, ℕ, ◌+◌, List, [], ◌∷◌, ◌++◌, None, refl}
use Rattle.std.proofs.lemmas.List.Elements.{All-nil, All-cons}
use Rattle.std.specs.List.{All}
use Rattle.sg_toml_tree.specs.Along.{first, along}
use Rattle.sg_toml_tree.specs.Faults.{at_place}
use Rattle.sg_toml_tree.specs.declared.fault.Kind.{Kind}

pub none_empty : {B : Type 0} (xs : List B) → first xs ≡ None → xs ≡ []
none_empty [] none = refl
none_empty (x ∷ xs) none = cc

pub empty_left : {B : Type 0} (xs ys : List B) → xs ++ ys ≡ [] → xs ≡ []
empty_left [] ys empty = refl
empty_left (x ∷ xs) ys empty = cc

pub empty_right : {B : Type 0} (xs ys : List B) → xs ++ ys ≡ [] → ys ≡ []
empty_right [] ys empty = empty
empty_right (x ∷ xs) ys empty = cc

pub empty_at : (t r k : ℕ) (kinds : List Kind) → at_place t r k kinds ≡ [] → kinds ≡ []
empty_at t r k [] empty = refl
empty_at t r k (kind ∷ kinds) empty = cc

-- what follows for an item that gives nothing holds of each item
pub all_kept : {A B : Type 0} (P : A → Type 0) (f : ℕ → A → List B) → ((j : ℕ) (x : A) → f j x ≡ [] → P x) → (i : ℕ) (xs : List A) → along f i xs ≡ [] → All P xs
all_kept P f kept i [] empty = All-nil P
all_kept P f kept i (x ∷ xs) empty = All-cons P x xs (kept i x (empty_left _ _ empty)) (all_kept P f kept (i + 1) xs (empty_right _ _ empty))
