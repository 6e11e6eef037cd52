-- Sums over two lists whose elements are paired.
use Rattle.std.proofs.Common.{◌≡◌, ◌≢◌, ℕ, zero, suc, ◌+◌, ◌<◌, ◌⊎◌, inl, inr, Option, None, Some, List, [], ◌∷◌, length, get_or, set, get_or-set_other, sum_by, filter_map, refl, sym, ap, ◌∙◌, arith}
use Rattle.std.specs.List.{cons_option}
use Rattle.std.proofs.lemmas.List.Sums.{sum_by-cons, sum_by-set}

-- what a slot adds to a sum
abbrev pub part : {X : Type 0} → (X → ℕ) → Option X → ℕ
part f None = 0
part f (Some x) = f x

-- Each element has a place of its own in the other list, at which as much stands, and nothing else stands there.
pub record ArePaired {X Y : Type 0} (a : X → ℕ) (b : Y → ℕ) (xs : List (Option X)) (ys : List (Option Y)) (place : ℕ → ℕ) : Type 0 where
  pub to : (i : ℕ) (x : X) → get_or xs i None ≡ Some x → (y : Y) × (get_or ys (place i) None ≡ Some y) × (a x ≡ b y)
  pub own : (i j : ℕ) (x z : X) → get_or xs i None ≡ Some x → get_or xs j None ≡ Some z → place i ≡ place j → i ≡ j
  pub from : (j : ℕ) (y : Y) → get_or ys j None ≡ Some y → (i : ℕ) × (x : X) × (get_or xs i None ≡ Some x) × (place i ≡ j)

nothing : {Y : Type 0} (b : Y → ℕ) (ys : List (Option Y)) → ((j : ℕ) (y : Y) → get_or ys j None ≡ Some y → ⊥) → sum_by (part b) ys ≡ 0
nothing b [] h = refl
nothing b (None ∷ ys) h = omega (arith, sum_by-cons (part b) None ys, nothing b ys (λ j y e. h (suc j) y e))
nothing b (Some y ∷ ys) h = absurd (h 0 y refl)

pub there_within : {X : Type 0} (xs : List (Option X)) (i : ℕ) (x : X) → get_or xs i None ≡ Some x → i < length xs
there_within [] i x e = absurd (cc e)
there_within (y ∷ xs) zero x e = omega arith
there_within (y ∷ xs) (suc i) x e = omega (arith, there_within xs i x e)

pub set_cases : {X : Type 0} (xs : List (Option X)) (i j : ℕ) (slot : Option X) (x : X) → get_or (set xs i slot) j None ≡ Some x → (j ≡ i) × (slot ≡ Some x) ⊎ (j ≢ i) × (get_or xs j None ≡ Some x)
set_cases [] i j slot x e = absurd (cc e)
set_cases (y ∷ xs) zero zero slot x e = inl (refl, e)
set_cases (y ∷ xs) zero (suc j) slot x e = inr (λ z. absurd (omega (arith, z)), e)
set_cases (y ∷ xs) (suc i) zero slot x e = inr (λ z. absurd (omega (arith, z)), e)
set_cases (y ∷ xs) (suc i) (suc j) slot x e = elim (set_cases xs i j slot x e) [
  | inl r ↦ inl (ap (λ n. suc n) r.0, r.1)
  | inr r ↦ inr (λ z. r.0 (omega (arith, z)), r.1)
]

past_none : {X : Type 0} (xs : List (Option X)) (place : ℕ → ℕ) (j i : ℕ) (x : X) → get_or (None ∷ xs) i None ≡ Some x → place i ≡ j → (k : ℕ) × (z : X) × (get_or xs k None ≡ Some z) × (place (suc k) ≡ j)
past_none xs place j zero x e p = absurd (cc e)
past_none xs place j (suc i) x e p = (i, x, e, p)

past_some : {X : Type 0} (y : X) (xs : List (Option X)) (place : ℕ → ℕ) (j i : ℕ) (x : X) → j ≢ place 0 → get_or (Some y ∷ xs) i None ≡ Some x → place i ≡ j → (k : ℕ) × (z : X) × (get_or xs k None ≡ Some z) × (place (suc k) ≡ j)
past_some y xs place j zero x ne e p = absurd (ne (sym p))
past_some y xs place j (suc i) x ne e p = (i, x, e, p)

pub paired_sums : {X Y : Type 0} (a : X → ℕ) (b : Y → ℕ) (xs : List (Option X)) (ys : List (Option Y)) (place : ℕ → ℕ) → ArePaired a b xs ys place → sum_by (part a) xs ≡ sum_by (part b) ys
paired_sums a b [] ys place h = sym (nothing b ys (λ j y e. cc ((h.from j y e).2)))
paired_sums a b (None ∷ xs) ys place h =
    let rest = paired_sums a b xs ys (λ i. place (suc i)) (record {
      to = λ i x e. h.to (suc i) x e;
      own = λ i j x z e f p. omega (arith, h.own (suc i) (suc j) x z e f p);
      from = λ j y e. let r = h.from j y e in past_none xs place j r.0 r.1 r.2 r.3;
    }) in
    omega (arith, sum_by-cons (part a) None xs, rest)
paired_sums a b (Some x ∷ xs) ys place h =
    let t = h.to 0 x refl in
    let rest = paired_sums a b xs (set ys (place 0) None) (λ i. place (suc i)) (record {
      to = λ i z e. let r = h.to (suc i) z e in (r.0, get_or-set_other ys (place 0) (place (suc i)) None None (λ p. absurd (omega (arith, h.own (suc i) 0 z x e refl p))) ∙ r.1, r.2);
      own = λ i j y z e f p. omega (arith, h.own (suc i) (suc j) y z e f p);
      from = λ j y e. elim (set_cases ys (place 0) j None y e) [
        | inl c ↦ absurd (cc c.1)
        | inr c ↦ let r = h.from j y c.1 in past_some x xs place j r.0 r.1 c.0 r.2 r.3
      ];
    }) in
    let step = sum_by-set (part b) ys (place 0) None None (there_within ys (place 0) t.0 t.1) in
    omega (arith, sum_by-cons (part a) (Some x) xs, rest, step, ap (part b) t.1, t.2)

-- ---- sums over what is there
sum_by-cons_option : {Y : Type 0} (h : Y → ℕ) (o : Option Y) (ys : List Y) → sum_by h (cons_option o ys) ≡ part h o + sum_by h ys
sum_by-cons_option h None ys = omega arith
sum_by-cons_option h (Some y) ys = sum_by-cons h y ys

pub sum_by-there : {X Y : Type 0} (h : Y → ℕ) (g : X → Option Y) (xs : List X) → sum_by h (filter_map g xs) ≡ sum_by (λ x. part h (g x)) xs
sum_by-there h g [] = refl
sum_by-there h g (x ∷ xs) = sum_by-cons_option h (g x) (filter_map g xs) ∙ ap (λ s. part h (g x) + s) (sum_by-there h g xs) ∙ sym (sum_by-cons (λ z. part h (g z)) x xs)

pub sum_alike : {X Y : Type 0} (f : X → ℕ) (g : Y → ℕ) (xs : List X) (ys : List Y) (d : X) (e : Y) → length xs ≡ length ys → ((i : ℕ) → f (get_or xs i d) ≡ g (get_or ys i e)) → sum_by f xs ≡ sum_by g ys
sum_alike f g [] [] d e len h = refl
sum_alike f g [] (y ∷ ys) d e len h = absurd (omega (arith, len))
sum_alike f g (x ∷ xs) [] d e len h = absurd (omega (arith, len))
sum_alike f g (x ∷ xs) (y ∷ ys) d e len h = omega (arith, sum_by-cons f x xs, sum_by-cons g y ys, h 0, sum_alike f g xs ys d e (omega (arith, len)) (λ i. h (suc i)))
