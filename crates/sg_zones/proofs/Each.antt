-- What holds of each element, by recursion.
use Rattle.std.proofs.Common.{List, [], ◌∷◌, ◌++◌}
use Rattle.std.specs.List.{AllByRecursion}

abbrev pub Each : {X : Type 0} → (X → Type 0) → List X → Type 0
Each P xs = AllByRecursion P xs

pub each_append : {X : Type 0} (P : X → Type 0) (xs ys : List X) → Each P xs → Each P ys → Each P (xs ++ ys)
each_append P [] ys h k = k
each_append P (x ∷ xs) ys h k = (h.0, each_append P xs ys h.1 k)

pub each_mono : {X : Type 0} (P Q : X → Type 0) → ((x : X) → P x → Q x) → (xs : List X) → Each P xs → Each Q xs
each_mono P Q h [] p = tt
each_mono P Q h (x ∷ xs) p = (h x p.0, each_mono P Q h xs p.1)

pub each_cross : {X : Type 0} (R : X → X → Type 0) (P Q : X → Type 0) → ((a b : X) → P a → Q b → R a b) → (xs ys : List X) → Each P xs → Each Q ys → Each (λ x. Each (R x) ys) xs
each_cross R P Q h [] ys p q = tt
each_cross R P Q h (x ∷ xs) ys p q = (each_mono Q (R x) (λ y k. h x y p.0 k) ys q, each_cross R P Q h xs ys p.1 q)
