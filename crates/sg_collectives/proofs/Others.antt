-- The peers of a rank's steps are other members.
use Rattle.std.proofs.Common.{◌≡◌, ℕ, ◌+◌, ◌-◌, ◌*◌, ◌%◌, ◌^◌, ◌<◌, ◌≤◌, inl, inr, Bool, true, false, cond, ltb, List, [], ◌∷◌, ◌++◌, map, reverse, replicate, refl, ltb-true, mod-lt, pow_pos, arith}
use Rattle.std.specs.List.{All, filter, range_with_len, flat_map}
use Rattle.std.proofs.lemmas.Bool.{cases_lt}
use Rattle.std.proofs.lemmas.List.Elements.{All-append, All-cons, All-map, All-nil, All-replicate, All-same, All-weaker, filter_passes}
use Rattle.sg_collectives.specs.declared.collective.Collective.TheVariants.{Bcast, Reduce, Allreduce, Alltoall}
use Rattle.sg_collectives.specs.declared.step.Step.{Step}
use Rattle.sg_collectives.specs.declared.step.Step.TheVariants.{Recv, Send, Compute, IRecv, ISend, Wait}
use Rattle.sg_collectives.specs.Expansion.{alltoall, bcast, reduce}
use Rattle.sg_collectives.specs.Laws.{AloneDoesNothing, IsOther, NamesOther, PeersAreOthers}
use Rattle.sg_collectives.specs.Tree.{children, low, parent_rank}
use Rattle.sg_collectives.proofs.Matching.{over, under}
use Rattle.sg_collectives.proofs.Powers.{lowest_within}
use Rattle.sg_collectives.proofs.Ranges.{All-pairs, All-range, All-reverse}
use Rattle.sg_collectives.proofs.TreeLemmas.{child_by_test, children_by_test, has_child}

-- ---- the tree
parent_is_other : (rank members : ℕ) → rank < members → 0 < rank → IsOther rank members (parent_rank rank)
parent_is_other rank members within some =
    (omega (arith, lowest_within rank some), λ e. omega (arith, lowest_within rank some, e))

children_are_others : (rank members : ℕ) → All (IsOther rank members) (children rank members)
children_are_others rank members =
    let range : List ℕ = range_with_len 0 (low rank members) in
    let passing : List ℕ = filter (has_child rank members) range in
    let up : ℕ → ℕ = λ k. rank + 2 ^ k in
    All-same (IsOther rank members) (children rank members) (map up passing) (children_by_test rank members)
    (All-map (IsOther rank members) up passing
    (All-weaker (λ k. has_child rank members k ≡ true) (λ k. IsOther rank members (up k))
    (λ k holds. ((child_by_test rank members k holds).member, λ e. omega (arith, pow_pos k, e)))
    passing (filter_passes (has_child rank members) range)))

pub All-if : (P : Step → Type 0) (b : Bool) (x : Step) → (b ≡ true → P x) → All P (cond b (x ∷ []) [])
All-if P true x holds = All-cons P x [] (holds refl) (All-nil P)
All-if P false x holds = All-nil P

bcast_others : (bytes rank members : ℕ) → rank < members → All (NamesOther rank members) (bcast bytes rank members)
unfolding bcast
bcast_others bytes rank members within =
    let P : Step → Type 0 = NamesOther rank members in
    All-append P (cond (ltb 0 rank) (Recv (parent_rank rank) ∷ []) []) (map (λ child. Send child bytes) (reverse (children rank members)))
    (All-if P (ltb 0 rank) (Recv (parent_rank rank)) (λ some. parent_is_other rank members within (ltb-true 0 rank some)))
    (All-map P (λ child. Send child bytes) (reverse (children rank members))
    (All-reverse (IsOther rank members) (children rank members) (children_are_others rank members)))

reduce_others : (bytes flops rank members : ℕ) → rank < members →
    All (NamesOther rank members) (reduce bytes flops rank members)
unfolding reduce
reduce_others bytes flops rank members within =
    let P : Step → Type 0 = NamesOther rank members in
    All-append P (flat_map (λ child. Recv child ∷ Compute flops ∷ []) (children rank members)) (cond (ltb 0 rank) (Send (parent_rank rank) bytes ∷ []) [])
    (All-pairs P (λ child. Recv child) (λ child. Compute flops) (children rank members)
    (children_are_others rank members) (λ k d less. tt))
    (All-if P (ltb 0 rank) (Send (parent_rank rank) bytes) (λ some. parent_is_other rank members within (ltb-true 0 rank some)))

-- ---- all to all
module _ (rank members i : ℕ) (rank_in : rank < members) (from : 1 ≤ i) (below : i < members) where
  ahead_is_other : IsOther rank members ((rank + i) % members)
  ahead_is_other = (
    mod-lt (rank + i) (omega arith),
    λ e. elim (cases_lt (rank + i) members) [
      | inl less ↦ omega (arith, e, under (rank + i) (rank + i) members refl less)
      | inr above ↦ omega (arith, e, over (rank + i) (rank + i - members) members (omega arith) (omega arith))
    ],
  )

  behind_is_other : IsOther rank members ((rank + members - i) % members)
  behind_is_other = (
    mod-lt (rank + members - i) (omega arith),
    λ e. elim (cases_lt (rank + members - i) members) [
      | inl less ↦ omega (arith, e, under (rank + members - i) (rank + members - i) members refl less)
      | inr above ↦ omega (arith, e, over (rank + members - i) (rank - i) members (omega arith) (omega arith))
    ],
  )

alltoall_others : (bytes rank members : ℕ) → rank < members → All (NamesOther rank members) (alltoall bytes rank members)
unfolding alltoall
alltoall_others bytes rank members within =
    let P : Step → Type 0 = NamesOther rank members in
    let range : List ℕ = range_with_len 1 (members - 1) in
    let recv : ℕ → Step = λ i. IRecv ((rank + members - i) % members) in
    let send : ℕ → Step = λ i. ISend ((rank + i) % members) bytes in
    All-append P (map recv range ++ map send range) (replicate (2 * (members - 1)) Wait)
    (All-append P (map recv range) (map send range)
    (All-map P recv range (All-range (λ i. P (recv i)) 1 (members - 1)
    (λ i from below. behind_is_other rank members i within from (omega arith))))
    (All-map P send range (All-range (λ i. P (send i)) 1 (members - 1)
    (λ i from below. ahead_is_other rank members i within from (omega arith)))))
    (All-replicate P (2 * (members - 1)) Wait tt)

pub peers_are_others : PeersAreOthers
peers_are_others (Bcast bytes) rank members within = bcast_others bytes rank members within
peers_are_others (Reduce bytes flops) rank members within = reduce_others bytes flops rank members within
peers_are_others (Allreduce bytes flops) rank members within =
    All-append (NamesOther rank members) (reduce bytes flops rank members) (bcast bytes rank members)
    (reduce_others bytes flops rank members within) (bcast_others bytes rank members within)
peers_are_others (Alltoall bytes) rank members within = alltoall_others bytes rank members within

-- ---- one member
pub alone_does_nothing : AloneDoesNothing
unfolding bcast reduce alltoall children low
alone_does_nothing (Bcast bytes) = refl
alone_does_nothing (Reduce bytes flops) = refl
alone_does_nothing (Allreduce bytes flops) = refl
alone_does_nothing (Alltoall bytes) = refl
