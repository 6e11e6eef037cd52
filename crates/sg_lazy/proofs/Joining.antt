-- Sums over the held flows whose numbers pass a test.
use Rattle.std.proofs.Common.{◌≡◌, ◌≢◌, ℕ, zero, suc, ◌+◌, ◌*◌, ◌<◌, ◌≤◌, ◌⊎◌, inl, inr, Bool, true, false, true≢false, cond, ◌&&◌, ◌||◌, not, eqb, eq-eqb, ne_eqb, Option, Some, IsSome, is_none, List, [], ◌∷◌, length, get_or, sum_by, AllPairs, mul-le-mul_left, mul-le-mul_right, refl, sym, ap, ◌∙◌, arith}
use Rattle.std.proofs.lemmas.List.Sums.{sum_by-cons}
use Rattle.sg_maxmin.specs.Fill.{Flow}
use Rattle.sg_maxmin.specs.Sharing.{Sharing, flow_at, slot_part, uses_at, uses_in}
use Rattle.sg_maxmin_levels.specs.Joined.{joined_count, joined_part, joined_uses, sum_below}
use Rattle.sg_maxmin.specs.Found.{PassAlong}
use Rattle.sg_maxmin.specs.Numbered.{all_uses}
use Rattle.sg_lazy.specs.kept.Held.{listed}
use Rattle.sg_maxmin.proofs.Listed.{eq_cases, some_of}
use Rattle.sg_maxmin.proofs.Users.{held_below, in_uses}

below_nothing : (f : ℕ → ℕ) → sum_below f 0 ≡ 0
unfolding sum_below
below_nothing f = refl

below_next : (f : ℕ → ℕ) (n : ℕ) → sum_below f (suc n) ≡ sum_below f n + f n
unfolding sum_below
below_next f n = refl

some_part : (a b : Bool) (n : ℕ) → (a ≡ true → b ≡ true) → cond a n 0 ≤ cond b n 0
some_part false b n h = omega arith
some_part true true n h = omega arith
some_part true false n h = absurd (true≢false (sym (h refl)))

mono : (slots : List (Option Flow)) (amount : Flow → ℕ) (p q : ℕ → Bool) (n : ℕ) → ((i : ℕ) → p i ≡ true → q i ≡ true) → sum_below (joined_part slots amount p) n ≤ sum_below (joined_part slots amount q) n
mono slots amount p q zero h = omega (arith, below_nothing (joined_part slots amount p), below_nothing (joined_part slots amount q))
mono slots amount p q (suc n) h = omega (arith, below_next (joined_part slots amount p) n, below_next (joined_part slots amount q) n, mono slots amount p q n h, some_part (p n) (q n) (slot_part amount (flow_at slots n)) (h n))

both_left : (a b : Bool) → (a && b) ≡ true → a ≡ true
both_left true b e = refl
both_left false b e = e

-- all except one
drop_le : (slots : List (Option Flow)) (amount : Flow → ℕ) (p : ℕ → Bool) (t n : ℕ) → t < n → p t ≡ true → sum_below (joined_part slots amount (λ i. p i && not (eqb i t))) n + slot_part amount (flow_at slots t) ≤ sum_below (joined_part slots amount p) n
drop_le slots amount p t zero h on = absurd (omega (arith, h))
drop_le slots amount p t (suc n) h on =
    let next = below_next (joined_part slots amount p) n in
    let next' = below_next (joined_part slots amount (λ i. p i && not (eqb i t))) n in
    let less = mono slots amount (λ i. p i && not (eqb i t)) p n (λ i. both_left (p i) (not (eqb i t))) in
    elim (eq_cases n t) [
      | inl e ↦
          let gone : cond (p n && not (eqb n t)) (slot_part amount (flow_at slots n)) 0 ≡ 0 = ap (λ b. cond (p n && not b) (slot_part amount (flow_at slots n)) 0) (eq-eqb n t e) ∙ none (p n) (slot_part amount (flow_at slots n)) in
          let mine : cond (p n) (slot_part amount (flow_at slots n)) 0 ≡ slot_part amount (flow_at slots t) = ap (λ k. cond (p k) (slot_part amount (flow_at slots k)) 0) e ∙ ap {B = ℕ} (λ b. cond b (slot_part amount (flow_at slots t)) 0) on in
          omega (arith, next, next', less, gone, mine)
      | inr ne ↦ omega (arith, next, next', drop_le slots amount p t n (omega (arith, h, ne)) on, some_part (p n && not (eqb n t)) (p n) (slot_part amount (flow_at slots n)) (both_left (p n) (not (eqb n t))))
    ]
  where
    none : (b : Bool) (x : ℕ) → cond (b && false) x 0 ≡ 0
    none true x = refl
    none false x = refl

-- different numbers that meet a test, summed up
distinct_le : (slots : List (Option Flow)) (amount : Flow → ℕ) (v : ℕ → ℕ) (n : ℕ) (p : ℕ → Bool) (ids : List ℕ) → AllPairs (λ a b. a ≢ b) ids → ((i : ℕ) → i < length ids → (get_or ids i 0 < n) × (p (get_or ids i 0) ≡ true) × (v (get_or ids i 0) ≡ slot_part amount (flow_at slots (get_or ids i 0)))) →
    sum_by v ids ≤ sum_below (joined_part slots amount p) n
distinct_le slots amount v n p [] once there = omega arith
distinct_le slots amount v n p (t ∷ ids) once there =
    let here = there 0 (omega arith) in
    let rest = distinct_le slots amount v n (λ i. p i && not (eqb i t)) ids
    (λ i j d a b. once (suc i) (suc j) d (omega (arith, a)) (omega (arith, b)))
    (λ i h. let k = there (suc i) (omega (arith, h)) in (k.0, both (p (get_or ids i 0)) (eqb (get_or ids i 0) t) k.1 (ne_eqb (get_or ids i 0) t (λ e. once 0 (suc i) 0 (omega arith) (omega (arith, h)) (sym e))), k.2)) in
    omega (arith, sum_by-cons v t ids, rest, here.2, drop_le slots amount p t n here.0 here.1)
  where
    both : (a b : Bool) → a ≡ true → b ≡ false → (a && not b) ≡ true
    both true false e f = refl
    both true true e f = absurd (true≢false f)
    both false b e f = e

sum-ones : (xs : List ℕ) → sum_by (λ x. 1) xs ≡ length xs
sum-ones [] = refl
sum-ones (x ∷ xs) = omega (arith, sum_by-cons (λ x. 1) x xs, sum-ones xs)

part_some : (amount : Flow → ℕ) (slots : List (Option Flow)) (id : ℕ) (f : Flow) → flow_at slots id ≡ Some f → slot_part amount (flow_at slots id) ≡ amount f
part_some amount slots id f e = ap (slot_part amount) e

pub count_le : (slots : List (Option Flow)) (p : ℕ → Bool) (ids : List ℕ) → AllPairs (λ a b. a ≢ b) ids → ((i : ℕ) → i < length ids → IsSome (flow_at slots (get_or ids i 0)) × (p (get_or ids i 0) ≡ true)) → length ids ≤ joined_count slots p
count_le slots p ids once there =
    omega (
      arith,
      sum-ones ids,
      distinct_le slots (λ f. 1) (λ id. 1) (length slots) p ids once (λ i h.
          let k = there i h in
          let f = some_of (flow_at slots (get_or ids i 0)) k.0 in
          (held_below slots (get_or ids i 0) k.0, k.1, sym (part_some (λ f. 1) slots (get_or ids i 0) f.0 f.1))),
    )

pub uses_le : (slots : List (Option Flow)) (p : ℕ → Bool) (ids : List ℕ) → AllPairs (λ a b. a ≢ b) ids → ((i : ℕ) → i < length ids → IsSome (flow_at slots (get_or ids i 0)) × (p (get_or ids i 0) ≡ true)) → all_uses slots ids ≤ joined_uses slots p
uses_le slots p ids once there =
    distinct_le slots (λ f. length f.uses) (λ id. length (uses_at slots id)) (length slots) p ids once (λ i h.
    let k = there i h in
    let f = some_of (flow_at slots (get_or ids i 0)) k.0 in
    (held_below slots (get_or ids i 0) k.0, k.1, ap (λ r. length (uses_in r)) f.1 ∙ sym (part_some (λ f. length f.uses) slots (get_or ids i 0) f.0 f.1)))

-- the visits that suffice for a max-min solve of these
pub refilled : (k n r u before middle after : ℕ) → k ≤ n → r ≤ u → middle ≤ before + (3 * r + k * (3 * r)) → after ≤ middle + r → after ≤ before + (3 * u + 3 * n * u + u)
refilled k n r u before middle after more most first then =
    let a = mul-le-mul_right r more in
    let b = mul-le-mul_left n most in
    omega (arith, a, b, most, first, then)

-- a test that holds of what isn't held as well holds along all uses
pub or_parts : (a b : Bool) → (a || b) ≡ true → (a ≡ true) ⊎ (b ≡ true)
or_parts true b e = inl refl
or_parts false b e = inr e

pub or_left : (a b : Bool) → a ≡ true → (a || b) ≡ true
or_left true b e = refl
or_left false b e = absurd (true≢false (sym e))

pub or_right : (a b : Bool) → b ≡ true → (a || b) ≡ true
or_right true b e = refl
or_right false b e = e

pub along_all : (s : Sharing) (p q : ℕ → Bool) → PassAlong s p q → PassAlong s (λ id. p id || is_none (flow_at s.slots id)) q
along_all s p q along = record {
  uses = λ id r on i. elim (or_parts (p id) (is_none (flow_at s.slots id)) on) [
    | inl h ↦ along.uses id r h i
    | inr none ↦ let u = in_uses s.slots id r i in absurd (true≢false (sym none ∙ ap {B = Bool} is_none u.1))
  ];
  users = λ r id on i. or_left (p id) (is_none (flow_at s.slots id)) (along.users r id on i);
}

-- ---- sums over a list of what stands under each number
sum_more : {X : Type 0} (h : X → ℕ) (n : ℕ) (f : ℕ → X) → sum_by h (listed (suc n) f) ≡ sum_by h (listed n f) + h (f n)
unfolding listed
sum_more h zero f = omega (arith, sum_by-cons h (f 0) [])
sum_more h (suc n) f = omega (arith, sum_by-cons h (f 0) (listed (suc n) (λ i. f (suc i))), sum_by-cons h (f 0) (listed n (λ i. f (suc i))), sum_more h n (λ i. f (suc i)))

pub listed_le : {X : Type 0} (slots : List (Option Flow)) (amount : Flow → ℕ) (p : ℕ → Bool) (h : X → ℕ) (n : ℕ) (f : ℕ → X) → ((i : ℕ) → i < n → cond (p i) (slot_part amount (flow_at slots i)) 0 ≤ h (f i)) → sum_below (joined_part slots amount p) n ≤ sum_by h (listed n f)
listed_le slots amount p h zero f each = omega (arith, below_nothing (joined_part slots amount p))
listed_le slots amount p h (suc n) f each = omega (arith, below_next (joined_part slots amount p) n, listed_le slots amount p h n f (λ i l. each i (omega (arith, l))), each n (omega arith), sum_more h n f)
