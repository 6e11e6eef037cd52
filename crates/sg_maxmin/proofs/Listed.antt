-- Numbers in a list: whether one is there, where it stands, and sums over the first ones.
use Rattle.std.proofs.Common.{◌≡◌, ◌≢◌, ℕ, zero, suc, ◌+◌, ◌<◌, ◌≤◌, ◌⊎◌, inl, inr, Bool, true, false, cond, ◌||◌, eqb, eq-eqb, eqb-true, ne_eqb, true≢false, Option, None, Some, IsSome, List, [], ◌∷◌, ◌++◌, length, get_or, take, sum_by, AllPairs, length-append, refl, sym, ap, ◌∙◌, arith}
use Rattle.std.specs.List.{list_any}
use Rattle.std.proofs.lemmas.List.{take_more}
use Rattle.std.proofs.lemmas.List.Sums.{sum_by-append, sum_by-cons}
use Rattle.sg_base.specs.MarkSet.{is_in, with_mark}
use Rattle.sg_maxmin.specs.Chained.{times}

pub eq_cases : (a b : ℕ) → (a ≡ b) ⊎ (a ≢ b)
eq_cases a b = grind arith

pub lt_cases : (a b : ℕ) → (a < b) ⊎ (b ≤ a)
lt_cases a b = grind arith

pub bool_cases : (b : Bool) → (b ≡ true) ⊎ (b ≡ false)
bool_cases true = inl refl
bool_cases false = inr refl

pub some_of : {X : Type 0} (o : Option X) → IsSome o → (x : X) × (o ≡ Some x)
some_of None h = absurd (true≢false (sym h))
some_of (Some x) h = (x, refl)

pub none_some : {X : Type 0} {x : X} → None ≡ Some x → ⊥
none_some e = cc

pub some_same : {X : Type 0} (a b : X) → Some a ≡ Some b → a ≡ b
some_same a b h = cc h

-- ---- whether a number is there
pub in_at : (number : ℕ) (xs : List ℕ) (i : ℕ) → i < length xs → get_or xs i 0 ≡ number → is_in number xs ≡ true
in_at number [] i h e = absurd (omega arith)
in_at number (x ∷ xs) zero h e = ap (λ b. b || is_in number xs) (eq-eqb x number e)
in_at number (x ∷ xs) (suc i) h e = ap (λ b. eqb x number || b) (in_at number xs i (omega arith) e) ∙ or_true (eqb x number)
  where
    or_true : (b : Bool) → (b || true) ≡ true
    or_true true = refl
    or_true false = refl

pub at_in : (number : ℕ) (xs : List ℕ) → is_in number xs ≡ true → (i : ℕ) × (i < length xs) × (get_or xs i 0 ≡ number)
at_in number [] h = absurd (true≢false (sym h))
at_in number (x ∷ xs) h = (elim (eqb x number) as (λ b. eqb x number ≡ b → (b || is_in number xs) ≡ true → (i : ℕ) × (i < length (x ∷ xs)) × (get_or (x ∷ xs) i 0 ≡ number)) [
  | true ↦ λ e k. (zero, omega arith, eqb-true x number e)
  | false ↦ λ e k. let r = at_in number xs k in let s : suc r.0 < length (x ∷ xs) = omega (arith, r.1) in (suc r.0, s, r.2)
]) refl h

-- of a list of one
pub off_one : (number x : ℕ) → is_in number (x ∷ []) ≡ false → number ≢ x
off_one number x off e = true≢false (sym (in_at number (x ∷ []) 0 (omega arith) (sym e)) ∙ off)

pub one_off : (number x : ℕ) → number ≢ x → is_in number (x ∷ []) ≡ false
one_off number x ne = elim (bool_cases (is_in number (x ∷ []))) [
  | inr off ↦ off
  | inl on ↦ let at = at_in number (x ∷ []) on in absurd (ne (one at.0 at.1 at.2))
]
  where
    one : (i : ℕ) → i < 1 → get_or (x ∷ []) i 0 ≡ number → number ≡ x
    one zero h e = sym e
    one (suc i) h e = absurd (omega arith)

-- ---- one more mark
pub in_more : (id number : ℕ) (xs : List ℕ) → is_in id xs ≡ true → is_in id (xs ++ number ∷ []) ≡ true
in_more id number [] h = absurd (true≢false (sym h))
in_more id number (x ∷ xs) h = elim (eqb x id) as (λ b. (b || is_in id xs) ≡ true → (b || is_in id (xs ++ number ∷ [])) ≡ true) [ true ↦ λ k. refl | false ↦ λ k. in_more id number xs k ] h

pub mark_stays : (id number : ℕ) (xs : List ℕ) → is_in id xs ≡ true → is_in id (with_mark number xs) ≡ true
mark_stays id number xs h = elim (is_in number xs) as (λ b. is_in id (cond b xs (xs ++ number ∷ [])) ≡ true) [ true ↦ h | false ↦ in_more id number xs h ]

pub in_end : (number : ℕ) (xs : List ℕ) → is_in number (xs ++ number ∷ []) ≡ true
in_end number xs = in_at number (xs ++ number ∷ []) (length xs) (omega (arith, length-append xs (number ∷ []))) (at_end xs)
  where
    at_end : (xs : List ℕ) → get_or (xs ++ number ∷ []) (length xs) 0 ≡ number
    at_end [] = refl
    at_end (x ∷ xs) = at_end xs

pub mark_there : (number : ℕ) (xs : List ℕ) → is_in number (with_mark number xs) ≡ true
mark_there number xs = (elim (is_in number xs) as (λ b. is_in number xs ≡ b → is_in number (cond b xs (xs ++ number ∷ [])) ≡ true) [ true ↦ λ e. e | false ↦ λ e. in_end number xs ]) refl

pub off_mark : (id number : ℕ) (xs : List ℕ) → is_in id (with_mark number xs) ≡ false → (id ≢ number) × (is_in id xs ≡ false)
off_mark id number xs off = (
  λ e. true≢false (sym (mark_there number xs) ∙ sym (ap (λ n. is_in n (with_mark number xs)) e) ∙ off),
  elim (bool_cases (is_in id xs)) [ inl on ↦ absurd (true≢false (sym (mark_stays id number xs on) ∙ off)) | inr none ↦ none ],
)

-- ---- how often a number is there
pub times-cons : (c x : ℕ) (xs : List ℕ) → times c (x ∷ xs) ≡ cond (eqb x c) 1 0 + times c xs
times-cons c x xs = sum_by-cons (λ d. cond (eqb d c) 1 0) x xs

pub times_in : (x : ℕ) (xs : List ℕ) → is_in x xs ≡ true → 0 < times x xs
times_in x [] e = absurd (true≢false (sym e))
times_in x (y ∷ xs) e = elim (bool_cases (eqb y x)) [
  | inl q ↦ omega (arith, times-cons x y xs, ap {B = ℕ} (λ b. cond b 1 0) q)
  | inr q ↦ omega (arith, times-cons x y xs, times_in x xs (sym (ap (λ b. b || is_in x xs) q) ∙ e))
]

pub times_out : (x : ℕ) (xs : List ℕ) → is_in x xs ≡ false → times x xs ≡ 0
times_out x [] e = refl
times_out x (y ∷ xs) e = elim (bool_cases (eqb y x)) [
  | inl q ↦ absurd (true≢false (sym (ap (λ b. b || is_in x xs) q) ∙ e))
  | inr q ↦ omega (arith, times-cons x y xs, ap {B = ℕ} (λ b. cond b 1 0) q, times_out x xs (sym (ap (λ b. b || is_in x xs) q) ∙ e))
]

pub same_in : (x y : ℕ) (xs ys : List ℕ) → times x xs ≡ times y ys → is_in x xs ≡ true → is_in y ys ≡ true
same_in x y xs ys e i = elim (bool_cases (is_in y ys)) [
  | inl q ↦ q
  | inr q ↦ absurd (pos (times x xs) (times_in x xs i) (e ∙ times_out y ys q))
]
  where
    pos : (n : ℕ) → 0 < n → n ≡ 0 → ⊥
    pos n h z = omega arith

-- if each number stands once, it is counted once
pub times-once : (xs : List ℕ) (c : ℕ) → AllPairs (λ a b. a ≢ b) xs → times c xs ≡ cond (list_any (λ d. eqb d c) xs) 1 0
times-once [] c h = refl
times-once (x ∷ xs) c h =
    let rest = times-once xs c (λ i j d a b. h (suc i) (suc j) d (omega (arith, a)) (omega (arith, b))) in
    elim (eq_cases x c) [
      | inl e ↦
          let none : times c xs ≡ 0 = count_none xs (λ k in' z. h 0 (suc k) 0 (omega arith) (omega (arith, in')) (e ∙ sym z)) in
          rw (times-cons c x xs, none, eq-eqb x c e) refl
      | inr ne ↦ rw (times-cons c x xs, ne_eqb x c ne) (plus rest)
    ]
  where
    plus : {b : ℕ} → times c xs ≡ b → 0 + times c xs ≡ b
    plus e = omega (arith, e)

    count_none : (ys : List ℕ) → ((k : ℕ) → k < length ys → get_or ys k 0 ≡ c → ⊥) → times c ys ≡ 0
    count_none [] none = refl
    count_none (y ∷ ys) none = omega (arith, times-cons c y ys, ap {B = ℕ} (λ b. cond b 1 0) (ne_eqb y c (λ e. none 0 (omega arith) e)), count_none ys (λ k in' e. none (suc k) (omega (arith, in')) e))

-- ---- the first ones
pub take_all : (xs : List ℕ) (k : ℕ) → k ≡ length xs → take k xs ≡ xs
take_all xs k e = ap (λ n. take n xs) e ∙ all xs
  where
    all : (xs : List ℕ) → take (length xs) xs ≡ xs
    all [] = refl
    all (x ∷ xs) = ap (λ ys. x ∷ ys) (all xs)

-- a sum over the first ones, and the next one's part, are no more than the whole
pub part_le : (f : ℕ → ℕ) (xs : List ℕ) (k : ℕ) → k < length xs → sum_by f (take k xs) + f (get_or xs k 0) ≤ sum_by f xs
part_le f [] k h = absurd (omega arith)
part_le f (x ∷ xs) zero h = omega (arith, sum_by-cons f x xs, nothing)
  where
    nothing : sum_by f [] ≡ 0
    nothing = refl
part_le f (x ∷ xs) (suc k) h = omega (arith, sum_by-cons f x (take k xs), sum_by-cons f x xs, part_le f xs k (omega arith))

pub part_next : (f : ℕ → ℕ) (xs : List ℕ) (k : ℕ) → k < length xs → sum_by f (take (k + 1) xs) ≡ sum_by f (take k xs) + f (get_or xs k 0)
part_next f xs k h = ap (sum_by f) (take_more xs k 0 h) ∙ omega (arith, sum_by-append f (take k xs) (get_or xs k 0 ∷ []), sum_by-cons f (get_or xs k 0) [])
