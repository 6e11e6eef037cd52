-- In a bcast all members have the bytes in as many turns as the number of members has doublings.
use Rattle.std.proofs.Common.{◌≡◌, ℕ, zero, suc, ◌+◌, ◌-◌, ◌*◌, ◌/◌, ◌%◌, ◌^◌, ◌<◌, ◌≤◌, inl, inr, cond, ltb, Some, List, [], ◌∷◌, ◌++◌, map, reverse, length, get_or, refl, sym, ap, ap₂, subst, ◌∙◌, lt-ltb, le-ltb, pow-add, pow_mono, arith}
use Rattle.std.specs.List.{range_with_len, slice_get}
use Rattle.std.proofs.Math.Nat.{mul-mod_left, div-add-mod}
use Rattle.std.proofs.lemmas.Bool.{cases_eq, cases_lt}
use Rattle.std.proofs.lemmas.List.{get_or-reverse, length-reverse}
use Rattle.std.proofs.lemmas.List.Elements.{filter_map-append}
use Rattle.std.proofs.lemmas.List.FromFn.{get_or-map-range_with_len, length-map-range_with_len}
use Rattle.std.proofs.lemmas.Option.{slice_get-get_or}
use Rattle.sg_collectives.specs.declared.collective.Collective.TheVariants.{Bcast}
use Rattle.sg_collectives.specs.declared.step.Step.TheVariants.{Recv, Send}
use Rattle.sg_collectives.specs.Expansion.{bcast}
use Rattle.sg_collectives.specs.Tree.{children, doubling_from, parent_rank}
use Rattle.sg_collectives.proofs.Powers.{IsOddTimes, below_power, even_below_odd, exponent_less, lowest_within, odd_part, power_within}
use Rattle.sg_collectives.proofs.TreeLemmas.{IsCounted, children_counted, counted_more, counted_none}
use Rattle.sg_collectives.specs.Together.{BcastReachesEachOnce, receivers_from}
use Rattle.sg_collectives.specs.Messages.{HandsOn, HasBytes, begins, receiver_in, receivers, sender_in, senders, sent}
use Rattle.sg_collectives.proofs.Messages.{all_told, empty_behind, map-cond, none_told, one_silent, one_told}

-- ---- who sends to whom
pub bcast_senders : (bytes rank members : ℕ) → senders (bcast bytes rank members) ≡ cond (ltb 0 rank) (parent_rank rank ∷ []) []
unfolding bcast
bcast_senders bytes rank members =
    filter_map-append sender_in (cond (ltb 0 rank) (Recv (parent_rank rank) ∷ []) []) (map (λ child. Send child bytes) (reverse (children rank members)))
    ∙ ap₂ (λ xs ys. xs ++ ys) (one_told sender_in (ltb 0 rank) (λ from. Recv from) (parent_rank rank) refl)
    (none_told sender_in (λ to. Send to bytes) (λ n. refl) (reverse (children rank members)))
    ∙ empty_behind (cond (ltb 0 rank) (parent_rank rank ∷ []) [])

pub bcast_receivers : (bytes rank members : ℕ) → receivers (bcast bytes rank members) ≡ reverse (children rank members)
unfolding bcast
bcast_receivers bytes rank members =
    filter_map-append receiver_in (cond (ltb 0 rank) (Recv (parent_rank rank) ∷ []) []) (map (λ child. Send child bytes) (reverse (children rank members)))
    ∙ ap₂ (λ xs ys. xs ++ ys) (one_silent receiver_in (ltb 0 rank) (Recv (parent_rank rank)) refl)
    (all_told receiver_in (λ to. Send to bytes) (λ n. refl) (reverse (children rank members)))

hands_on : (bytes rank members : ℕ) → HandsOn bytes (bcast bytes rank members)
unfolding bcast
hands_on bytes rank members =
    ap₂ (λ xs ys. xs ++ ys)
    (map-cond (λ from. Recv from) (ltb 0 rank) (parent_rank rank) ∙ ap (map (λ from. Recv from)) (sym (bcast_senders bytes rank members)))
    (ap (map (λ to. Send to bytes)) (sym (bcast_receivers bytes rank members)))

pub none_above : (rank : ℕ) → rank ≡ 0 → cond (ltb 0 rank) (parent_rank rank ∷ []) [] ≡ []
none_above rank e = ap (λ b. cond b (parent_rank rank ∷ []) []) (le-ltb 0 rank (omega arith))

pub one_above : (rank : ℕ) → 0 < rank → cond (ltb 0 rank) (parent_rank rank ∷ []) [] ≡ parent_rank rank ∷ []
one_above rank some = ap (λ b. cond b (parent_rank rank ∷ []) []) (lt-ltb 0 rank some)

pub parent_below : (rank : ℕ) → 0 < rank → parent_rank rank < rank
parent_below rank some = omega (arith, lowest_within rank some)

-- ---- the count of a rank's children
record HasChildren (rank members : ℕ) : Type 0 where
  count : ℕ
  counted : IsCounted rank members count
  end : rank % (2 * 2 ^ count) ≡ 0 → rank + 2 ^ count < members → ⊥

count_on : (fuel rank members count : ℕ) → members ≤ count + fuel → IsCounted rank members count → HasChildren rank members
count_on zero rank members count few is = record {
  count = count;
  counted = is;
  end = λ even within. omega (arith, below_power count);
}
count_on (suc fuel) rank members count few is = elim (cases_lt (rank + 2 ^ count) members) [
  | inr past ↦ record { count = count; counted = is; end = λ even within. omega arith }
  | inl within ↦ elim (cases_eq (rank % (2 * 2 ^ count)) 0) [
    | inr odd ↦ record { count = count; counted = is; end = λ even _. odd even }
    | inl even ↦
        count_on fuel rank members (count + 1) (omega arith) (counted_more rank members count (2 ^ count) refl is even within)
  ]
]

children_of : (rank members : ℕ) → HasChildren rank members
children_of rank members = count_on members rank members 0 (omega arith) (counted_none rank members)

by_doublings : (rank members : ℕ) (own : HasChildren rank members) → children rank members ≡ doubling_from rank own.count
by_doublings rank members own = children_counted rank members own.count own.counted own.end

-- no more than its lowest set bit has zeros after it; of rank 0 no more than the doublings
halved : (rank x q r : ℕ) → 2 * x * q + r ≡ rank → r ≡ 0 → rank ≡ x * (2 * q)
halved rank x q r e none = omega arith

few_above_root : (rank members k : ℕ) (own : HasChildren rank members) → IsOddTimes rank k → own.count ≤ k
few_above_root rank members k own odd = few own.count (λ j less. own.counted.even j less)
  where
    few : (n : ℕ) → ((j : ℕ) → j < n → rank % (2 * 2 ^ j) ≡ 0) → n ≤ k
    few zero even = omega arith
    few (suc n) even =
        let none : rank % (2 * 2 ^ n) ≡ 0 = even n (omega arith) in
        let less : n < k = even_below_odd rank k n odd.half (rank / (2 * 2 ^ n)) odd.is
        (halved rank (2 ^ n) (rank / (2 * 2 ^ n)) (rank % (2 * 2 ^ n)) (div-add-mod rank (2 * 2 ^ n)) none) in
        omega arith

few_at_root : (members turns : ℕ) (own : HasChildren 0 members) → members ≤ 2 ^ turns → own.count ≤ turns
few_at_root members turns own few = within own.count (λ j less. own.counted.member j less)
  where
    within : (n : ℕ) → ((j : ℕ) → j < n → 0 + 2 ^ j < members) → n ≤ turns
    within zero below = omega arith
    within (suc n) below =
        let less : n < turns = exponent_less n turns (omega (arith, below n (omega arith))) in
        omega arith

-- ---- a child among them
even_below : (rank n k h : ℕ) → rank ≡ 2 ^ k * (2 * h) → n ≤ k → rank % (2 * 2 ^ n) ≡ 0
even_below rank n k h e less =
    let split : 2 ^ k ≡ 2 ^ n * 2 ^ (k - n) = ap (λ j. 2 ^ j) (let same : k ≡ n + (k - n) = omega arith in same) ∙ pow-add 2 n (k - n) in
    ap (λ j. j % (2 * 2 ^ n)) (regroup rank (2 ^ k) (2 ^ n) (2 ^ (k - n)) h e split) ∙ mul-mod_left (2 ^ (k - n) * h) (2 * 2 ^ n)
  where
    regroup : (rank y x d h : ℕ) → rank ≡ y * (2 * h) → y ≡ x * d → rank ≡ (d * h) * (2 * x)
    regroup rank y x d h e split = e ∙ rw split (omega arith)

among : (up members k h : ℕ) (own : HasChildren up members) → up ≡ 2 ^ k * (2 * h) → up + 2 ^ k < members → k < own.count
among up members k h own even within = elim (cases_lt k own.count) [
  | inl less ↦ less
  | inr past ↦
      let small : 2 ^ own.count ≤ 2 ^ k = pow_mono past in
      absurd (own.end (even_below up own.count k h even past) (omega arith))
]

at_place : (rank count k : ℕ) → k < count → slice_get (reverse (doubling_from rank count)) (count - 1 - k) ≡ Some (rank + 2 ^ k)
unfolding doubling_from
at_place rank count k less =
    let xs : List ℕ = map (λ j. rank + 2 ^ j) (range_with_len 0 count) in
    let long : length xs ≡ count = length-map-range_with_len (λ j. rank + 2 ^ j) 0 count in
    let back : length xs - 1 - (count - 1 - k) ≡ k = omega arith in
    slice_get-get_or (reverse xs) (count - 1 - k) 0 (omega (arith, length-reverse xs))
    ∙ ap (λ n. Some n) (get_or-reverse xs (count - 1 - k) 0 (omega arith) ∙ ap (λ i. get_or xs i 0) back
    ∙ get_or-map-range_with_len (λ j. rank + 2 ^ j) 0 count k k 0 less (omega arith))

-- ---- turns
record HasIn (bytes members rank turns : ℕ) : Type 0 where
  turn : ℕ
  has : HasBytes (receivers_from (Bcast bytes) members) rank turn
  few : turn ≤ turns

-- from a rank that has them to one of those that it sends to
handed : (bytes members up rank k turns : ℕ) (own : HasChildren up members) → up + 2 ^ k ≡ rank → k < own.count →
    HasIn bytes members up (turns - own.count) → own.count ≤ turns → HasIn bytes members rank (turns - k)
handed bytes members up rank k turns own e less before few = record {
  turn = before.turn + (own.count - 1 - k) + 1;
  has = sent up rank before.turn (own.count - 1 - k) before.has
      (ap (λ xs. slice_get xs (own.count - 1 - k)) (bcast_receivers bytes up members ∙ ap reverse (by_doublings up members own))
      ∙ at_place up own.count k less ∙ ap (λ n. Some n) e);
  few = let was : before.turn ≤ turns - own.count = before.few in omega arith;
}

later : (bytes members rank less more : ℕ) → less ≤ more → HasIn bytes members rank less → HasIn bytes members rank more
later bytes members rank less more up in' = record { turn = in'.turn; has = in'.has; few = let was : in'.turn ≤ less = in'.few in omega arith }

rest_of : (rank x h : ℕ) → rank ≡ x * (2 * h + 1) → rank - x ≡ x * (2 * h)
rest_of rank x h e = omega arith

reached : (fuel bytes members rank k turns : ℕ) → rank ≤ fuel → 0 < rank → rank < members → IsOddTimes rank k →
    members ≤ 2 ^ turns → HasIn bytes members rank (turns - k)
reached zero bytes members rank k turns small some within odd few = absurd (omega arith)
reached (suc fuel) bytes members rank k turns small some within odd few =
    let up : ℕ = rank - 2 ^ k in
    let down : 2 ^ k ≤ rank = power_within rank k odd in
    let low : 0 < 2 ^ k = omega (arith, below_power k) in
    let back : up + 2 ^ k ≡ rank = omega arith in
    let even : up ≡ 2 ^ k * (2 * odd.half) = rest_of rank (2 ^ k) odd.half odd.is in
    let own : HasChildren up members = children_of up members in
    let less : k < own.count = among up members k odd.half own even (omega arith) in
    elim (cases_eq up 0) [
      | inl root ↦
          let most : own.count ≤ turns = subst (λ r. (mine : HasChildren r members) → mine.count ≤ turns) (sym root) (λ mine. few_at_root members turns mine few) own in
          handed bytes members up rank k turns own back less
          (subst (λ r. HasIn bytes members r (turns - own.count)) (sym root) (record { turn = 0; has = begins; few = omega arith })) most
      | inr above ↦
          let part : (i : ℕ) × IsOddTimes up i = odd_part up up (omega arith) (omega arith) in
          let most : own.count ≤ part.0 = few_above_root up members part.0 own part.1 in
          let fits : part.0 < turns = exponent_less part.0 turns (omega (arith, power_within up part.0 part.1)) in
          handed bytes members up rank k turns own back less
          (later bytes members up (turns - part.0) (turns - own.count) (omega arith)
          (reached fuel bytes members up part.0 turns (omega arith) (omega arith) (omega arith) part.1 few)) (omega arith)
    ]

in_turns : (bytes members rank turns : ℕ) → rank < members → members ≤ 2 ^ turns → HasIn bytes members rank turns
in_turns bytes members rank turns within few = elim (cases_eq rank 0) [
  | inl root ↦ subst (λ r. HasIn bytes members r turns) (sym root) (record { turn = 0; has = begins; few = omega arith })
  | inr other ↦
      let part : (i : ℕ) × IsOddTimes rank i = odd_part rank rank (omega arith) (omega arith) in
      later bytes members rank (turns - part.0) turns (omega arith) (reached rank bytes members rank part.0 turns (omega arith) (omega arith) within part.1 few)
]

pub bcast_reaches_each_once : BcastReachesEachOnce
bcast_reaches_each_once bytes members = record {
  root = bcast_senders bytes 0 members ∙ none_above 0 refl;
  once = λ rank some within. (parent_rank rank, bcast_senders bytes rank members ∙ one_above rank some, parent_below rank some);
  hands_on = λ rank within. hands_on bytes rank members;
  in_turns = λ rank turns within few. let in' : HasIn bytes members rank turns = in_turns bytes members rank turns within few in (in'.turn, in'.has, in'.few);
}
