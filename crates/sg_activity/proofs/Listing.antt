-- Lists of what stands under each number, and what is found in them.
use Rattle.std.proofs.Common.{◌≡◌, ◌≢◌, ℕ, zero, suc, ◌+◌, ◌<◌, ◌≤◌, min, ◌⊎◌, inl, inr, Bool, true, false, cond, Option, None, Some, List, [], ◌∷◌, ◌++◌, length, get_or, set, refl, sym, ap, ap₂, subst, ◌∙◌, arith, map}
use Rattle.sg_activity_table.specs.Slots.{listed, passes, serials, sooner, soonest}
use Rattle.sg_activity.specs.Doing.{IsUpTo}
use Rattle.sg_activity.proofs.Times.{sooner_cases}

pub eq_cases : (a b : ℕ) → (a ≡ b) ⊎ (a ≢ b)
eq_cases a b = grind arith

pub bool_cases : (b : Bool) → (b ≡ true) ⊎ (b ≡ false)
bool_cases true = inl refl
bool_cases false = inr refl

pub some_same : {X : Type 0} {x y : X} → Some x ≡ Some y → x ≡ y
some_same e = cc e

listed_suc : {X : Type 0} (n : ℕ) (f : ℕ → X) → listed (suc n) f ≡ listed n f ++ f n ∷ []
unfolding listed
listed_suc zero f = refl
listed_suc (suc n) f = ap (λ l. f 0 ∷ l) (listed_suc n (λ i. f (suc i)))

pub map_listed : {X Y : Type 0} (n : ℕ) (h : X → Y) (f : ℕ → X) → map h (listed n f) ≡ listed n (λ i. h (f i))
unfolding listed
map_listed zero h f = refl
map_listed (suc n) h f = ap (λ l. h (f 0) ∷ l) (map_listed n h (λ i. f (suc i)))

pub listed_more : {X : Type 0} (n : ℕ) (f : ℕ → X) → listed (n + 1) f ≡ listed n f ++ f n ∷ []
listed_more n f = let e : n + 1 ≡ suc n = omega arith in ap (λ k. listed k f) e ∙ listed_suc n f

-- ---- activity ids at which a test is passed
pub serials_alike : {X Y : Type 0} (test : X → Bool) (other : Y → Bool) (n : ℕ) (xs : List (Option X)) (ys : List (Option Y)) → length xs ≡ length ys → ((i : ℕ) → passes test (get_or xs i None) ≡ passes other (get_or ys i None)) → serials test n xs ≡ serials other n ys
unfolding serials
serials_alike test other n [] [] e h = refl
serials_alike test other n [] (y ∷ ys) e h = absurd (omega (arith, e))
serials_alike test other n (x ∷ xs) [] e h = absurd (omega (arith, e))
serials_alike test other n (x ∷ xs) (y ∷ ys) e h = ap₂ (λ b l. cond b (n ∷ l) l) (h 0) (serials_alike test other (n + 1) xs ys (omega (arith, e)) (λ i. h (suc i)))

pub serials_none : {X : Type 0} (test : X → Bool) (n : ℕ) (xs : List (Option X)) → ((i : ℕ) → passes test (get_or xs i None) ≡ false) → serials test n xs ≡ []
unfolding serials
serials_none test n [] h = refl
serials_none test n (x ∷ xs) h = ap (λ b. cond b (n ∷ serials test (n + 1) xs) (serials test (n + 1) xs)) (h 0) ∙ serials_none test (n + 1) xs (λ i. h (suc i))

-- the first of them, and those that are left once it passes no more
pub serials_first : {X : Type 0} (test : X → Bool) (n : ℕ) (xs : List (Option X)) (i : ℕ) (y : Option X) → i < length xs → passes test (get_or xs i None) ≡ true → ((j : ℕ) → j < i → passes test (get_or xs j None) ≡ false) → passes test y ≡ false →
    serials test n xs ≡ (n + i) ∷ serials test n (set xs i y)
unfolding serials
serials_first test n [] i y h pass before not = absurd (omega (arith, h))
serials_first test n (x ∷ xs) zero y h pass before not =
    let e : n ≡ n + 0 = omega arith in
    ap (λ b. cond b (n ∷ serials test (n + 1) xs) (serials test (n + 1) xs)) pass
    ∙ ap (λ k. k ∷ serials test (n + 1) xs) e
    ∙ ap (λ l. (n + 0) ∷ l) (sym (ap (λ b. cond b (n ∷ serials test (n + 1) xs) (serials test (n + 1) xs)) not))
serials_first test n (x ∷ xs) (suc i) y h pass before not =
    let e : n + 1 + i ≡ n + suc i = omega arith in
    let first : passes test x ≡ false = before 0 (omega arith) in
    ap (λ b. cond b (n ∷ serials test (n + 1) xs) (serials test (n + 1) xs)) first
    ∙ serials_first test (n + 1) xs i y (omega (arith, h)) pass (λ j less. before (suc j) (omega (arith, less))) not
    ∙ ap (λ k. k ∷ serials test (n + 1) (set xs i y)) e
    ∙ ap (λ l. (n + suc i) ∷ l) (sym (ap (λ b. cond b (n ∷ serials test (n + 1) (set xs i y)) (serials test (n + 1) (set xs i y))) first))

-- ---- the least of all waits
pub soonest_none : {X : Type 0} (waits : X → Option ℕ) (xs : List (Option X)) → ((i : ℕ) (x : X) → get_or xs i None ≡ Some x → waits x ≡ None) → soonest waits xs ≡ None
unfolding soonest
soonest_none waits [] h = refl
soonest_none waits (None ∷ xs) h = ap (sooner None) (soonest_none waits xs (λ i x e. h (suc i) x e))
soonest_none waits (Some x ∷ xs) h = ap₂ sooner (h 0 x refl) (soonest_none waits xs (λ i y e. h (suc i) y e))

pub soonest_from : {X : Type 0} (waits : X → Option ℕ) (xs : List (Option X)) (n : ℕ) → soonest waits xs ≡ Some n → (i : ℕ) × (x : X) × (get_or xs i None ≡ Some x) × (waits x ≡ Some n)
unfolding soonest
soonest_from waits [] n e = absurd (cc e)
soonest_from waits (None ∷ xs) n e = let r = soonest_from waits xs n e in (suc r.0, r.1, r.2, r.3)
soonest_from waits (Some x ∷ xs) n e = elim (sooner_cases (waits x) (soonest waits xs) n e) [
  | inl a ↦ (0, x, refl, a)
  | inr b ↦ let r = soonest_from waits xs n b in (suc r.0, r.1, r.2, r.3)
]

at_most : (a b : Option ℕ) (span : ℕ) → IsUpTo span (sooner a b) → IsUpTo span a × IsUpTo span b
at_most None b span h = (tt, h)
at_most (Some a) None span h = (h, tt)
at_most (Some a) (Some b) span h = (omega (arith, h), omega (arith, h))

-- no wait is shorter
pub up_to_each : {X : Type 0} (waits : X → Option ℕ) (xs : List (Option X)) (span i : ℕ) (x : X) → IsUpTo span (soonest waits xs) → get_or xs i None ≡ Some x → IsUpTo span (waits x)
unfolding soonest
up_to_each waits [] span i x h e = absurd (cc e)
up_to_each waits (None ∷ xs) span zero x h e = absurd (cc e)
up_to_each waits (None ∷ xs) span (suc i) x h e = up_to_each waits xs span i x h e
up_to_each waits (Some y ∷ xs) span zero x h e = ap_up (some_same e) (at_most (waits y) (soonest waits xs) span h).0
  where
    ap_up : y ≡ x → IsUpTo span (waits y) → IsUpTo span (waits x)
    ap_up e h = subst (λ z. IsUpTo span (waits z)) e h
up_to_each waits (Some y ∷ xs) span (suc i) x h e = up_to_each waits xs span i x (at_most (waits y) (soonest waits xs) span h).1 e

pub soonest_is : {X : Type 0} (waits : X → Option ℕ) (xs : List (Option X)) (k n : ℕ) (x : X) → get_or xs k None ≡ Some x → waits x ≡ Some n → ((i : ℕ) (y : X) (m : ℕ) → get_or xs i None ≡ Some y → waits y ≡ Some m → n ≤ m) → soonest waits xs ≡ Some n
unfolding soonest
soonest_is waits [] k n x at is least = absurd (cc at)
soonest_is waits (None ∷ xs) zero n x at is least = absurd (cc at)
soonest_is waits (None ∷ xs) (suc k) n x at is least = soonest_is waits xs k n x at is (λ i y m e w. least (suc i) y m e w)
soonest_is waits (Some y ∷ xs) zero n x at is least = ap (λ w. sooner w (soonest waits xs)) (ap waits (some_same at) ∙ is) ∙ rest (soonest waits xs) refl
  where
    rest : (o : Option ℕ) → soonest waits xs ≡ o → sooner (Some n) o ≡ Some n
    rest None e = refl
    rest (Some m) e = let r = soonest_from waits xs m e in ap Some (less (least (suc r.0) r.1 m r.2 r.3))
      where
        less : n ≤ m → min n m ≡ n
        less h = omega (arith, h)
soonest_is waits (Some y ∷ xs) (suc k) n x at is least =
    ap (sooner (waits y)) (soonest_is waits xs k n x at is (λ i z m e w. least (suc i) z m e w)) ∙ first (waits y) refl
  where
    first : (o : Option ℕ) → waits y ≡ o → sooner o (Some n) ≡ Some n
    first None e = refl
    first (Some m) e = ap Some (less (least 0 y m refl e))
      where
        less : n ≤ m → min m n ≡ n
        less h = omega (arith, h)
