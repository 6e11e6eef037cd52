-- Laws of what the members of a collective do together.
use Rattle.std.specs.Prelude.{◌≡◌, ◌≢◌, ℕ, ◌<◌, ◌≤◌, ◌^◌, ◌==◌, List, [], ◌∷◌, ◌++◌, reverse, count_by}
use Rattle.sg_collectives.specs.declared.collective.Collective.{Collective}
use Rattle.sg_collectives.specs.declared.collective.Collective.TheVariants.{Bcast, Reduce, Allreduce, Alltoall}
use Rattle.sg_collectives.specs.Expansion.{expansion}
use Rattle.sg_collectives.specs.Messages.{senders, receivers, HandsOn, FoldsIn, Exchanges, HasBytes}

abbrev pub senders_to : Collective → ℕ → ℕ → List ℕ
senders_to collective members rank = senders (expansion collective rank members)

abbrev pub receivers_from : Collective → ℕ → ℕ → List ℕ
receivers_from collective members rank = receivers (expansion collective rank members)

-- the list has one peer alone, of a lower rank
abbrev pub IsOneBelow : ℕ → List ℕ → Type 0
IsOneBelow rank peers = (peer : ℕ) × (peers ≡ peer ∷ []) × (peer < rank)

-- Rank 0 receives nothing, and each other member receives once, from one of a lower rank. What a member sends it sends
-- after that, the bytes that were asked for. In so many turns as it takes to double 1 until it is the number of members,
-- all have them.
pub record BcastReaches (bytes members : ℕ) : Type 0 where
  pub root : senders_to (Bcast bytes) members 0 ≡ []
  pub once : (rank : ℕ) → 0 < rank → rank < members → IsOneBelow rank (senders_to (Bcast bytes) members rank)
  pub hands_on : (rank : ℕ) → rank < members → HandsOn bytes (expansion (Bcast bytes) rank members)
  pub in_turns : (rank turns : ℕ) → rank < members → members ≤ 2 ^ turns →
      (turn : ℕ) × HasBytes (receivers_from (Bcast bytes) members) rank turn × (turn ≤ turns)

abbrev pub BcastReachesEachOnce : Type 0
BcastReachesEachOnce = (bytes members : ℕ) → BcastReaches bytes members

-- Rank 0 sends nothing, and each other member sends once, to one of a lower rank, what it and those from which it
-- received have; it computes once after each message. It is the bcast backwards, so it takes as many turns.
pub record ReduceTakes (bytes flops members : ℕ) : Type 0 where
  pub root : receivers_from (Reduce bytes flops) members 0 ≡ []
  pub once : (rank : ℕ) → 0 < rank → rank < members → IsOneBelow rank (receivers_from (Reduce bytes flops) members rank)
  pub folds_in : (rank : ℕ) → rank < members → FoldsIn bytes flops (expansion (Reduce bytes flops) rank members)
  pub backwards : (rank : ℕ) → rank < members →
      senders_to (Reduce bytes flops) members rank ≡ reverse (receivers_from (Bcast bytes) members rank)

abbrev pub ReduceTakesEachOnce : Type 0
ReduceTakesEachOnce = (bytes flops members : ℕ) → ReduceTakes bytes flops members

-- An allreduce is a reduce, and then a bcast.
abbrev pub AllreduceIsBoth : Type 0
AllreduceIsBoth = (bytes flops rank members : ℕ) → expansion (Allreduce bytes flops) rank members ≡
    expansion (Reduce bytes flops) rank members ++ expansion (Bcast bytes) rank members

-- Of each two members the one sends to the other once and receives from it once, the bytes that were asked for.
pub record AlltoallJoins (bytes members : ℕ) : Type 0 where
  pub exchanges : (rank : ℕ) → rank < members → Exchanges bytes (expansion (Alltoall bytes) rank members)
  pub sends : (rank other : ℕ) → rank < members → other < members → rank ≢ other →
      count_by (λ to. to == other) (receivers_from (Alltoall bytes) members rank) ≡ 1
  pub receives : (rank other : ℕ) → rank < members → other < members → rank ≢ other →
      count_by (λ from. from == other) (senders_to (Alltoall bytes) members rank) ≡ 1

abbrev pub AlltoallJoinsEachPair : Type 0
AlltoallJoinsEachPair = (bytes members : ℕ) → AlltoallJoins bytes members
