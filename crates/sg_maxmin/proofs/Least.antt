-- The least of a list, one more at a time.
use Rattle.std.proofs.Common.{◌≡◌, ℕ, ◌≤◌, ◌⊎◌, inl, inr, min, Option, None, Some, List, [], ◌∷◌, ◌++◌, Contains, sym, subst, refl, arith}
use Rattle.std.proofs.lemmas.List.Elements.{Contains-push, Contains-push_cases, Contains-append_left, Contains-append_right, Contains-append_cases}
use Rattle.sg_maxmin.specs.Step.{IsLeast, least_with}

min_cases : (a b : ℕ) → (min a b ≤ a) × (min a b ≤ b) × ((min a b ≡ a) ⊎ (min a b ≡ b))
min_cases a b = grind arith

pub least_push : (o : Option ℕ) (xs : List ℕ) (x : ℕ) → IsLeast o xs → IsLeast (Some (least_with o x)) (xs ++ x ∷ [])
least_push None xs x e =
    subst (λ ys. IsLeast (Some x) (ys ++ x ∷ [])) (sym e) ((0, omega arith, refl), λ y i. one y (Contains-push_cases [] x y i))
  where
    one : (y : ℕ) → Contains [] y ⊎ (x ≡ y) → x ≤ y
    one y (inl i) = absurd (omega (arith, i.1))
    one y (inr e) = omega (arith, e)
least_push (Some l) xs x h =
    let m = min_cases l x in (
      elim m.2 [
        | inl e ↦ subst (λ w. Contains (xs ++ x ∷ []) w) (sym e) (Contains-append_left xs (x ∷ []) l h.0)
        | inr e ↦ subst (λ w. Contains (xs ++ x ∷ []) w) (sym e) (Contains-push xs x)
      ],
      λ y i. elim (Contains-push_cases xs x y i) [ inl j ↦ omega (arith, m.0, h.1 y j) | inr e ↦ omega (arith, m.1, e) ],
    )

pub least_join : (o : Option ℕ) (xs ys : List ℕ) (l : ℕ) → IsLeast o xs → IsLeast (Some l) ys → IsLeast (Some (least_with o l)) (xs ++ ys)
least_join None xs ys l e h = subst (λ zs. IsLeast (Some l) (zs ++ ys)) (sym e) h
least_join (Some k) xs ys l g h =
    let m = min_cases k l in (
      elim m.2 [
        | inl e ↦ subst (λ w. Contains (xs ++ ys) w) (sym e) (Contains-append_left xs ys k g.0)
        | inr e ↦ subst (λ w. Contains (xs ++ ys) w) (sym e) (Contains-append_right xs ys l h.0)
      ],
      λ y i. elim (Contains-append_cases xs ys y i) [ inl j ↦ omega (arith, m.0, g.1 y j) | inr j ↦ omega (arith, m.1, h.1 y j) ],
    )

pub least_unique : (k l : ℕ) (xs : List ℕ) → IsLeast (Some k) xs → IsLeast (Some l) xs → k ≡ l
least_unique k l xs g h = omega (arith, g.1 l h.0, h.1 k g.0)
