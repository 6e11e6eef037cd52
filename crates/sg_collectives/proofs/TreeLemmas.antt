-- The tree of the ranks: a rank's children are those whose parent it is.
use Rattle.std.proofs.Common.{◌≡◌, ℕ, zero, suc, ◌+◌, ◌-◌, ◌*◌, ◌/◌, ◌%◌, ◌^◌, ◌<◌, ◌≤◌, inl, inr, Bool, true, cond, ◌&&◌, ltb, eqb, List, map, length, sym, ap, subst, ◌∙◌, eq-eqb, ne_eqb, eqb-true, lt-ltb, le-ltb, ltb-true, pow_pos, pow_mono, below_more, w32, arith}
use Rattle.std.specs.List.{count_by, filter, range_with_len}
use Rattle.std.specs.Int.{trailing_zeros}
use Rattle.std.proofs.Math.Nat.{mul-mod_left, div-add-mod, div-eq_of_lt}
use Rattle.std.proofs.lemmas.Bool.{and_from, and_parts, and_left, and_right, cases_eq, cases_lt, false_from_ne_true}
use Rattle.std.proofs.lemmas.List.{length-map}
use Rattle.std.proofs.lemmas.List.Sums.{length-filter}
use Rattle.std.proofs.lemmas.Nat.{pow_below}
use Rattle.std.proofs.lemmas.Nat.Bits.{bit_at-trailing_zeros}
use Rattle.sg_collectives.specs.Tree.{children, doubling_from, low, lowest_bit, parent_rank}
use Rattle.sg_collectives.proofs.Powers.{IsEvenTimes, IsOddTimes, below_power, even_below_odd, even_from_odd, exponent_less, low_of_root, lowest_by_bits, lowest_is, odd_part, power_within}
use Rattle.sg_collectives.proofs.Ranges.{filter_map_filter, filter_through, front_kept, none_kept, one_kept}

-- ---- the lowest set bit of a rank
pub low_above_root : (rank members : ℕ) → 0 < rank → low rank members ≡ lowest_bit rank
unfolding low
low_above_root rank members some =
    ap (λ b. cond b (low 0 members) (lowest_bit rank)) (ne_eqb rank 0 (λ e. omega (arith, e)))

pub lowest_by_zeros : (rank : ℕ) → 0 < rank → rank < 2 ^ 32 → lowest_bit rank ≡ 2 ^ trailing_zeros w32 rank
lowest_by_zeros rank some fits =
    let bits = bit_at-trailing_zeros w32 rank some fits in
    let k : ℕ = trailing_zeros w32 rank in
    let up : 2 ^ k ≤ rank = elim (cases_lt rank (2 ^ k)) [
      | inl less ↦ absurd (omega (arith, bits.1, div-eq_of_lt less))
      | inr from ↦ from
    ] in
    lowest_by_bits rank k (omega (arith, below_power k)) bits.1 bits.2

-- where a member stands so far above a rank, that power is below the rank's lowest bit just where
-- the rank is an even multiple of it
pub even_is_below : (rank members k : ℕ) → rank + 2 ^ k < members → IsEvenTimes rank k → 2 ^ k < low rank members
even_is_below rank members k within even = elim (cases_eq rank 0) [
  | inl root ↦
      subst (λ r. 2 ^ k < low r members) (sym root) (omega (arith, low_of_root members))
  | inr other ↦
      let some : 0 < rank = omega arith in
      let part : (i : ℕ) × IsOddTimes rank i = odd_part rank rank (omega arith) some in
      let less : k < part.0 = even_below_odd rank part.0 k part.1.half even.half part.1.is even.is in
      omega (arith, low_above_root rank members some, lowest_is rank part.0 part.1, pow_below k part.0 less)
]

pub below_is_even : (rank members k : ℕ) → 2 ^ k < low rank members → IsEvenTimes rank k
below_is_even rank members k below = elim (cases_eq rank 0) [
  | inl root ↦ record { half = 0; is = omega arith }
  | inr other ↦
      let some : 0 < rank = omega arith in
      let part : (i : ℕ) × IsOddTimes rank i = odd_part rank rank (omega arith) some in
      let lower : 2 ^ k < 2 ^ part.0 = omega (arith, low_above_root rank members some, lowest_is rank part.0 part.1, below) in
      even_from_odd rank part.0 k part.1.half part.1.is (exponent_less k part.0 lower)
]

even_by_rest : (rank k : ℕ) → rank % (2 * 2 ^ k) ≡ 0 → IsEvenTimes rank k
even_by_rest rank k e = record {
  half = rank / (2 * 2 ^ k);
  is = regroup rank (2 ^ k) (rank / (2 * 2 ^ k)) (rank % (2 * 2 ^ k)) (div-add-mod rank (2 * 2 ^ k)) e;
}
  where
    regroup : (rank x q r : ℕ) → 2 * x * q + r ≡ rank → r ≡ 0 → rank ≡ x * (2 * q)
    regroup rank x q r e none = omega arith

rest_of_even : (rank k : ℕ) → IsEvenTimes rank k → rank % (2 * 2 ^ k) ≡ 0
rest_of_even rank k even =
    ap (λ n. n % (2 * 2 ^ k)) (regroup rank (2 ^ k) even.half even.is) ∙ mul-mod_left even.half (2 * 2 ^ k)
  where
    regroup : (rank x h : ℕ) → rank ≡ x * (2 * h) → rank ≡ h * (2 * x)
    regroup rank x h e = omega arith

-- ---- children
-- whether a rank has a child so many doublings above it
abbrev pub has_child : ℕ → ℕ → ℕ → Bool
has_child rank members k = ltb (2 ^ k) (low rank members) && ltb (rank + 2 ^ k) members

pub children_by_test : (rank members : ℕ) → children rank members
    ≡ map (λ k. rank + 2 ^ k) (filter (has_child rank members) (range_with_len 0 (low rank members)))
unfolding children
children_by_test rank members =
    filter_through (λ child. ltb child members) (λ m. ltb m (low rank members)) (λ m. rank + m) (λ k. 2 ^ k)
    (range_with_len 0 (low rank members))

pub record IsChild (rank members k : ℕ) : Type 0 where
  pub below : 2 ^ k < low rank members
  pub member : rank + 2 ^ k < members

pub child_by_test : (rank members k : ℕ) → has_child rank members k ≡ true → IsChild rank members k
child_by_test rank members k holds =
    let both = and_parts (ltb (2 ^ k) (low rank members)) (ltb (rank + 2 ^ k) members) holds in
    record {
      below = ltb-true (2 ^ k) (low rank members) both.0;
      member = ltb-true (rank + 2 ^ k) members both.1;
    }

test_of_child : (rank members k : ℕ) → IsChild rank members k → has_child rank members k ≡ true
test_of_child rank members k is =
    and_from (ltb (2 ^ k) (low rank members)) (ltb (rank + 2 ^ k) members)
    (lt-ltb (2 ^ k) (low rank members) is.below) (lt-ltb (rank + 2 ^ k) members is.member)

child_within : (rank members k : ℕ) → IsChild rank members k → k < low rank members
child_within rank members k is = omega (arith, below_power k, is.below)

-- the children are those of the first doublings
children_are : (rank members count : ℕ) → ((k : ℕ) → k < count → IsChild rank members k) →
    (IsChild rank members count → ⊥) → children rank members ≡ doubling_from rank count
unfolding doubling_from
children_are rank members count each end =
    children_by_test rank members ∙ ap (map (λ k. rank + 2 ^ k))
    (front_kept (has_child rank members) 0 (low rank members) count (count_within count each)
    (λ k from below. test_of_child rank members k (each k (omega arith)))
    (λ k above. false_from_ne_true (has_child rank members k) (λ holds.
    let is : IsChild rank members k = child_by_test rank members k holds in
    let lower : 2 ^ count ≤ 2 ^ k = pow_mono (omega arith) in
    end (record { below = omega (arith, is.below); member = omega (arith, is.member) }))))
  where
    count_within : (count : ℕ) → ((k : ℕ) → k < count → IsChild rank members k) → count ≤ low rank members
    count_within zero each = omega arith
    count_within (suc n) each = omega (arith, child_within rank members n (each n (omega arith)))

-- by what the code tests
pub record IsCounted (rank members count : ℕ) : Type 0 where
  pub even : (k : ℕ) → k < count → rank % (2 * 2 ^ k) ≡ 0
  pub member : (k : ℕ) → k < count → rank + 2 ^ k < members

pub children_counted : (rank members count : ℕ) → IsCounted rank members count →
    (rank % (2 * 2 ^ count) ≡ 0 → rank + 2 ^ count < members → ⊥) →
    children rank members ≡ doubling_from rank count
children_counted rank members count is end =
    children_are rank members count
    (λ k less. record {
      below = even_is_below rank members k (is.member k less) (even_by_rest rank k (is.even k less));
      member = is.member k less;
    })
    (λ next. end (rest_of_even rank count (below_is_even rank members count next.below)) next.member)

-- ---- parents
-- a child's lowest bit is how far it stands above its parent
pub lowest_of_child : (rank members k : ℕ) → 2 ^ k < low rank members → lowest_bit (rank + 2 ^ k) ≡ 2 ^ k
lowest_of_child rank members k below =
    let even : IsEvenTimes rank k = below_is_even rank members k below in
    lowest_is (rank + 2 ^ k) k (record { half = even.half; is = omega (arith, even.is) })

child_of_parent : (rank members k : ℕ) → rank < members → IsOddTimes rank k → IsChild (rank - 2 ^ k) members k
child_of_parent rank members k within odd =
    let up : 2 ^ k ≤ rank = power_within rank k odd in
    let member : rank - 2 ^ k + 2 ^ k < members = omega arith in
    record {
      below = even_is_below (rank - 2 ^ k) members k member (record { half = odd.half; is = omega (arith, odd.is) });
      member = member;
    }

same_exponent : (j k : ℕ) → 2 ^ j ≡ 2 ^ k → j ≡ k
same_exponent j k e = elim (cases_lt j k) [
  | inl below ↦ absurd (omega (arith, pow_below j k below, e))
  | inr from ↦ elim (cases_lt k j) [ inl above ↦ absurd (omega (arith, pow_below k j above, e)) | inr to ↦ omega arith ]
]

-- whether b stands right below a
abbrev pub is_under : ℕ → ℕ → Bool
is_under a b = ltb 0 b && eqb (parent_rank b) a

is_child_here : ℕ → ℕ → ℕ → ℕ → Bool
is_child_here a b members k = has_child a members k && eqb (a + 2 ^ k) b

count_kept : (a b members : ℕ) → count_by (λ child. eqb child b) (children a members)
    ≡ length (filter (is_child_here a b members) (range_with_len 0 (low a members)))
unfolding is_child_here
count_kept a b members =
    let range : List ℕ = range_with_len 0 (low a members) in
    let up : ℕ → ℕ = λ k. a + 2 ^ k in
    ap (count_by (λ child. eqb child b)) (children_by_test a members)
    ∙ sym (length-filter (λ child. eqb child b) (map up (filter (has_child a members) range)))
    ∙ ap length (filter_map_filter (λ child. eqb child b) (has_child a members) up range)
    ∙ length-map (filter (is_child_here a b members) range) up

none_here : (a b members : ℕ) → ((k : ℕ) → IsChild a members k → a + 2 ^ k ≡ b → ⊥) →
    count_by (λ child. eqb child b) (children a members) ≡ 0
unfolding is_child_here
none_here a b members none =
    count_kept a b members ∙ ap length (none_kept (is_child_here a b members) 0 (low a members) (λ k _.
    false_from_ne_true (is_child_here a b members k) (λ holds.
    let both = and_parts (has_child a members k) (eqb (a + 2 ^ k) b) holds in
    none k (child_by_test a members k both.0) (eqb-true (a + 2 ^ k) b both.1))))

one_here : (a b members k : ℕ) → IsChild a members k → a + 2 ^ k ≡ b →
    count_by (λ child. eqb child b) (children a members) ≡ 1
unfolding is_child_here
one_here a b members k is e =
    count_kept a b members ∙ ap length (one_kept (is_child_here a b members) 0 (low a members) k (omega arith)
    (omega (arith, child_within a members k is))
    (and_from (has_child a members k) (eqb (a + 2 ^ k) b) (test_of_child a members k is) (eq-eqb (a + 2 ^ k) b e))
    (λ j other. and_right (has_child a members j) (eqb (a + 2 ^ j) b)
    (ne_eqb (a + 2 ^ j) b (λ f. other (same_exponent j k (omega (arith, e, f)))))))

-- a rank is once among the children of its parent, and among those of no other rank
pub children_count : (a b members : ℕ) → b < members →
    count_by (λ child. eqb child b) (children a members) ≡ cond (is_under a b) 1 0
children_count a b members within = elim (cases_eq b 0) [
  | inl root ↦
      none_here a b members (λ k is e. omega (arith, pow_pos k, e))
      ∙ ap (λ t. cond t 1 0) (sym (and_left (ltb 0 b) (eqb (parent_rank b) a) (le-ltb 0 b (omega arith))))
  | inr other ↦
      let some : 0 < b = omega arith in
      let part : (i : ℕ) × IsOddTimes b i = odd_part b b (omega arith) some in
      let up : parent_rank b ≡ b - 2 ^ part.0 = ap (λ m. b - m) (lowest_is b part.0 part.1) in
      elim (cases_eq (parent_rank b) a) [
        | inl under ↦
            let at : b - 2 ^ part.0 ≡ a = sym up ∙ under in
            one_here a b members part.0
            (subst (λ r. IsChild r members part.0) at (child_of_parent b members part.0 within part.1))
            (omega (arith, at, power_within b part.0 part.1))
            ∙ ap (λ t. cond t 1 0) (sym (and_from (ltb 0 b) (eqb (parent_rank b) a) (lt-ltb 0 b some) (eq-eqb (parent_rank b) a under)))
        | inr apart ↦
            none_here a b members (λ k is e.
            let lowest : lowest_bit b ≡ 2 ^ k = subst (λ r. lowest_bit r ≡ 2 ^ k) e (lowest_of_child a members k is.below) in
            apart (omega (arith, lowest, e)))
            ∙ ap (λ t. cond t 1 0) (sym (and_right (ltb 0 b) (eqb (parent_rank b) a) (ne_eqb (parent_rank b) a apart)))
      ]
]

-- ---- as the code counts
pub counted_none : (rank members : ℕ) → IsCounted rank members 0
counted_none rank members = record { even = λ k less. absurd (omega arith); member = λ k less. absurd (omega arith) }

pub counted_more : (rank members count distance : ℕ) → distance ≡ 2 ^ count → IsCounted rank members count →
    rank % (2 * distance) ≡ 0 → rank + distance < members → IsCounted rank members (count + 1)
counted_more rank members count distance power is even within = record {
  even = below_more (λ k. rank % (2 * 2 ^ k) ≡ 0) count is.even (subst (λ d. rank % (2 * d) ≡ 0) power even);
  member = below_more (λ k. rank + 2 ^ k < members) count is.member (omega arith);
}

pub counted_all : (rank members count distance : ℕ) → distance ≡ 2 ^ count → IsCounted rank members count →
    (rank % (2 * distance) ≡ 0 → rank + distance < members → ⊥) →
    children rank members ≡ doubling_from rank count
counted_all rank members count distance power is end =
    children_counted rank members count is
    (subst (λ d. rank % (2 * d) ≡ 0 → rank + d < members → ⊥) power end)

pub few_doublings : (count distance members : ℕ) → distance ≡ 2 ^ count → distance ≤ 2 * members →
    members < 2 ^ 32 → count < 34
few_doublings count distance members power small few = exponent_less count 34 (omega arith)
