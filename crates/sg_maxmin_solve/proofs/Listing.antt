-- Cases, members of lists, and sets of numbers that grow.
use Rattle.std.proofs.Common.{◌+◌, ◌≡◌, ◌≢◌, ℕ, zero, suc, inl, inr, false, true≢false, List, [], ◌∷◌, ◌++◌, map, length, get_or, refl, sym, ap, ◌∙◌, arith}
use Rattle.sg_maxmin.proofs.Members.{In}
use Rattle.sg_base.specs.MarkSet.{is_in, with_mark}
use Rattle.sg_maxmin_solve.proofs.Growing.{stays, mark_cases, grows_mark}
use Rattle.sg_maxmin.proofs.Listed.{bool_cases}

pub is_in_other : (other number : ℕ) (xs : List ℕ) → other ≢ number → is_in other (with_mark number xs) ≡ is_in other xs
is_in_other other number xs ne = elim (bool_cases (is_in other xs)) [
  | inl e ↦ stays other xs (with_mark number xs) (grows_mark number xs) e ∙ sym e
  | inr e ↦ elim (bool_cases (is_in other (with_mark number xs))) [
    | inr f ↦ f ∙ sym e
    | inl f ↦ elim (mark_cases other number xs f) [
      | inl k ↦ absurd (true≢false (sym k ∙ e))
      | inr q ↦ absurd (ne q)
    ]
  ]
]

pub map_same : {X Y : Type 0} (f g : X → Y) (xs : List X) → ((x : X) → In x xs → f x ≡ g x) → map f xs ≡ map g xs
map_same f g [] e = refl
map_same f g (x ∷ xs) e = ap (λ y. y ∷ map f xs) (e x (inl refl)) ∙ ap (λ ys. g x ∷ ys) (map_same f g xs (λ y i. e y (inr i)))

pub new_mark : (number : ℕ) (xs : List ℕ) → is_in number xs ≡ false → with_mark number xs ≡ xs ++ number ∷ []
new_mark number xs e = rw e refl

-- what is written past the end with the default changes no reading
pub one_default : {X : Type 0} (xs : List X) (i : ℕ) (d : X) → get_or (xs ++ d ∷ []) i d ≡ get_or xs i d
one_default [] zero d = refl
one_default [] (suc i) d = refl
one_default (x ∷ xs) zero d = refl
one_default (x ∷ xs) (suc i) d = one_default xs i d

pub length_more : {X : Type 0} (xs : List X) (d : X) → length (xs ++ d ∷ []) ≡ length xs + 1
length_more [] d = refl
length_more (x ∷ xs) d = omega (arith, length_more xs d)
