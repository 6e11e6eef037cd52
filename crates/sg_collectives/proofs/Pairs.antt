-- In an alltoall each two members send to each other once.
use Rattle.std.proofs.Common.{◌≡◌, ◌≢◌, ℕ, zero, suc, ◌+◌, ◌-◌, ◌*◌, ◌%◌, ◌==◌, ◌<◌, ◌≤◌, ◌⊎◌, inl, inr, Bool, true, false, cond, Option, List, [], ◌∷◌, ◌++◌, map, length, replicate, refl, sym, ap, ap₂, subst, ◌∙◌, eq-eqb, ne_eqb, arith}
use Rattle.std.specs.List.{count_by, filter_map, range_with_len}
use Rattle.std.proofs.lemmas.Bool.{cases_eq, cases_lt}
use Rattle.std.proofs.lemmas.List.Elements.{filter_map-append}
use Rattle.std.proofs.lemmas.List.FromFn.{length-map-range_with_len}
use Rattle.std.proofs.lemmas.List.Sums.{sum_by-cons}
use Rattle.sg_collectives.specs.declared.step.Step.{Step}
use Rattle.sg_collectives.specs.declared.step.Step.TheVariants.{IRecv, ISend, Wait}
use Rattle.sg_collectives.specs.Expansion.{alltoall}
use Rattle.sg_collectives.proofs.Matching.{over, under}
use Rattle.sg_collectives.proofs.Ranges.{count_by-map}
use Rattle.sg_collectives.specs.Together.{AlltoallJoinsEachPair}
use Rattle.sg_collectives.specs.Messages.{Exchanges, receiver_in, receivers, sender_in, senders}
use Rattle.sg_collectives.proofs.Messages.{all_told, empty_behind, none_told, waits_tell_none}

-- the members after a rank, and those before it
ahead : ℕ → ℕ → ℕ → ℕ
ahead rank members i = (rank + i) % members

before : ℕ → ℕ → ℕ → ℕ
before rank members i = (rank + members - i) % members

others : ℕ → List ℕ
others members = range_with_len 1 (members - 1)

told_in_two : (h : Step → Option ℕ) (xs ys zs : List Step) (first second : List ℕ) → filter_map h xs ≡ first → filter_map h ys ≡ second → filter_map h zs ≡ [] →
    filter_map h ((xs ++ ys) ++ zs) ≡ first ++ second
told_in_two h xs ys zs first second one two none =
    filter_map-append h (xs ++ ys) zs
    ∙ ap₂ (λ us vs. us ++ vs) (filter_map-append h xs ys ∙ ap₂ (λ us vs. us ++ vs) one two) none
    ∙ empty_behind (first ++ second)

range_mapped : {X : Type 0} (f : ℕ → X) (g : ℕ → ℕ) (xs : List ℕ) → map (λ i. f (g i)) xs ≡ map f (map g xs)
range_mapped f g [] = refl
range_mapped f g (x ∷ xs) = ap (λ ys. f (g x) ∷ ys) (range_mapped f g xs)

alltoall_senders : (bytes rank members : ℕ) → senders (alltoall bytes rank members) ≡ map (before rank members) (others members)
unfolding alltoall before others
alltoall_senders bytes rank members =
    let range : List ℕ = range_with_len 1 (members - 1) in
    told_in_two sender_in (map (λ i. IRecv (before rank members i)) range) (map (λ i. ISend ((rank + i) % members) bytes) range) (replicate (2 * (members - 1)) Wait)
    (map (before rank members) range) []
    (ap (filter_map sender_in) (range_mapped (λ from. IRecv from) (before rank members) range) ∙ all_told sender_in (λ from. IRecv from) (λ n. refl) (map (before rank members) range))
    (none_told sender_in (λ i. ISend ((rank + i) % members) bytes) (λ n. refl) range)
    (waits_tell_none sender_in refl (2 * (members - 1)))
    ∙ empty_behind (map (before rank members) range)

alltoall_receivers : (bytes rank members : ℕ) → receivers (alltoall bytes rank members) ≡ map (ahead rank members) (others members)
unfolding alltoall ahead others
alltoall_receivers bytes rank members =
    let range : List ℕ = range_with_len 1 (members - 1) in
    told_in_two receiver_in (map (λ i. IRecv ((rank + members - i) % members)) range) (map (λ i. ISend (ahead rank members i) bytes) range) (replicate (2 * (members - 1)) Wait)
    [] (map (ahead rank members) range)
    (none_told receiver_in (λ i. IRecv ((rank + members - i) % members)) (λ n. refl) range)
    (ap (filter_map receiver_in) (range_mapped (λ to. ISend to bytes) (ahead rank members) range) ∙ all_told receiver_in (λ to. ISend to bytes) (λ n. refl) (map (ahead rank members) range))
    (waits_tell_none receiver_in refl (2 * (members - 1)))

exchanges : (bytes rank members : ℕ) → Exchanges bytes (alltoall bytes rank members)
unfolding alltoall ahead before others
exchanges bytes rank members =
    let range : List ℕ = range_with_len 1 (members - 1) in
    let from : List ℕ = senders (alltoall bytes rank members) in
    let to : List ℕ = receivers (alltoall bytes rank members) in
    let waits : 2 * (members - 1) ≡ length from + length to = omega (
      arith,
      ap length (alltoall_senders bytes rank members),
      ap length (alltoall_receivers bytes rank members),
      length-map-range_with_len (before rank members) 1 (members - 1),
      length-map-range_with_len (ahead rank members) 1 (members - 1),
    ) in
    ap₂ (λ xs ys. xs ++ ys)
    (ap₂ (λ xs ys. xs ++ ys)
    (range_mapped (λ from. IRecv from) (before rank members) range ∙ ap (map (λ from. IRecv from)) (sym (alltoall_senders bytes rank members)))
    (range_mapped (λ to. ISend to bytes) (ahead rank members) range ∙ ap (map (λ to. ISend to bytes)) (sym (alltoall_receivers bytes rank members))))
    (ap (λ n. replicate n Wait) waits)

-- ---- each other member stands at one place
-- a test that no number of a range passes, and one that a single number passes
count_none : (test : ℕ → Bool) (a n : ℕ) → ((j : ℕ) → a ≤ j → j < a + n → test j ≡ false) → count_by test (range_with_len a n) ≡ 0
count_none test a zero fails = refl
count_none test a (suc n) fails =
    omega (
      arith,
      sum_by-cons (λ k. cond (test k) 1 0) a (range_with_len (a + 1) n),
      ap {B = ℕ} (λ b. cond b 1 0) (fails a (omega arith) (omega arith)),
      count_none test (a + 1) n (λ j from to. fails j (omega arith) (omega arith)),
    )

count_one : (test : ℕ → Bool) (a n k : ℕ) → a ≤ k → k < a + n → test k ≡ true → ((j : ℕ) → a ≤ j → j < a + n → j ≢ k → test j ≡ false) → count_by test (range_with_len a n) ≡ 1
count_one test a zero k from to passes others = absurd (omega arith)
count_one test a (suc n) k from to passes others = elim (cases_eq a k) [
  | inl here ↦
      omega (
        arith,
        sum_by-cons (λ j. cond (test j) 1 0) a (range_with_len (a + 1) n),
        ap {B = ℕ} (λ b. cond b 1 0) (subst (λ j. test j ≡ true) (sym here) passes),
        count_none test (a + 1) n (λ j from to. others j (omega arith) (omega arith) (λ e. omega (arith, e))),
      )
  | inr behind ↦
      omega (
        arith,
        sum_by-cons (λ j. cond (test j) 1 0) a (range_with_len (a + 1) n),
        ap {B = ℕ} (λ b. cond b 1 0) (others a (omega arith) (omega arith) behind),
        count_one test (a + 1) n k (omega arith) (omega arith) passes (λ j from to. others j (omega arith) (omega arith)),
      )
]

-- a member is so far from a rank, and no other distance leads there
record IsFar (place : ℕ → ℕ) (other members far : ℕ) : Type 0 where
  from : 1 ≤ far
  to : far < members
  there : place far ≡ other
  alone : (i : ℕ) → 1 ≤ i → i < members → place i ≡ other → i ≡ far

once_in : (place : ℕ → ℕ) (other members far : ℕ) → IsFar place other members far → count_by (λ n. n == other) (map place (range_with_len 1 (members - 1))) ≡ 1
once_in place other members far is =
    count_by-map (λ n. n == other) place (range_with_len 1 (members - 1))
    ∙ count_one (λ i. place i == other) 1 (members - 1) far is.from (let low : far < members = is.to in omega arith) (eq-eqb (place far) other is.there)
    (λ j from to differ. ne_eqb (place j) other (λ e. differ (is.alone j from (omega arith) e)))

module _ (rank other members : ℕ) (within : rank < members) (also : other < members) (differ : rank ≢ other) where
  alone_ahead : (far : ℕ) → far < members → (rank + far ≡ other) ⊎ (rank + far ≡ other + members) → (i : ℕ) → 1 ≤ i → i < members → (rank + i) % members ≡ other → i ≡ far
  alone_ahead far low is i from to e = elim (cases_lt (rank + i) members) [
    | inl less ↦ omega (arith, e, under (rank + i) (rank + i) members refl less)
    | inr more ↦ omega (arith, e, over (rank + i) (rank + i - members) members (omega arith) (omega arith))
  ]

  far_ahead : (far : ℕ) × IsFar (λ i. (rank + i) % members) other members far
  far_ahead = elim (cases_lt rank other) [
    | inl less ↦ (
      other - rank,
      record {
        from = omega arith;
        to = omega arith;
        there = under (rank + (other - rank)) other members (omega arith) also;
        alone = alone_ahead (other - rank) (omega arith) (inl (omega arith));
      },
    )
    | inr more ↦ (
      other + members - rank,
      record {
        from = omega arith;
        to = omega arith;
        there = over (rank + (other + members - rank)) other members (omega arith) also;
        alone = alone_ahead (other + members - rank) (omega arith) (inr (omega arith));
      },
    )
  ]

  alone_before : (far : ℕ) → far < members → (rank ≡ other + far) ⊎ (rank + members ≡ other + far) → (i : ℕ) → 1 ≤ i → i < members → (rank + members - i) % members ≡ other → i ≡ far
  alone_before far low is i from to e = elim (cases_lt (rank + members - i) members) [
    | inl less ↦ omega (arith, e, under (rank + members - i) (rank + members - i) members refl less)
    | inr more ↦ omega (arith, e, over (rank + members - i) (rank - i) members (omega arith) (omega arith))
  ]

  far_before : (far : ℕ) × IsFar (λ i. (rank + members - i) % members) other members far
  far_before = elim (cases_lt other rank) [
    | inl less ↦ (
      rank - other,
      record {
        from = omega arith;
        to = omega arith;
        there = over (rank + members - (rank - other)) other members (omega arith) also;
        alone = alone_before (rank - other) (omega arith) (inl (omega arith));
      },
    )
    | inr more ↦ (
      rank + members - other,
      record {
        from = omega arith;
        to = omega arith;
        there = under (rank + members - (rank + members - other)) other members (omega arith) also;
        alone = alone_before (rank + members - other) (omega arith) (inr (omega arith));
      },
    )
  ]

sends_once : (bytes rank other members : ℕ) → rank < members → other < members → rank ≢ other → count_by (λ to. to == other) (receivers (alltoall bytes rank members)) ≡ 1
unfolding ahead others
sends_once bytes rank other members within also differ =
    let far = far_ahead rank other members within also differ in
    ap (count_by (λ to. to == other)) (alltoall_receivers bytes rank members) ∙ once_in (ahead rank members) other members far.0 far.1

receives_once : (bytes rank other members : ℕ) → rank < members → other < members → rank ≢ other → count_by (λ from. from == other) (senders (alltoall bytes rank members)) ≡ 1
unfolding before others
receives_once bytes rank other members within also differ =
    let far = far_before rank other members within also differ in
    ap (count_by (λ from. from == other)) (alltoall_senders bytes rank members) ∙ once_in (before rank members) other members far.0 far.1

pub alltoall_joins_each_pair : AlltoallJoinsEachPair
alltoall_joins_each_pair bytes members = record {
  exchanges = λ rank within. exchanges bytes rank members;
  sends = λ rank other within also differ. sends_once bytes rank other members within also differ;
  receives = λ rank other within also differ. receives_once bytes rank other members within also differ;
}
