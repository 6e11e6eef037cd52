-- What a member of some rank does for a collective, in order.
use Rattle.std.specs.Prelude.{ℕ, ◌+◌, ◌-◌, ◌*◌, ◌%◌, List, [], ◌∷◌, ◌++◌, map, reverse, replicate, if◌then◌else◌, nat_lt}
use Rattle.std.specs.List.{flat_map, range_with_len}
use Rattle.sg_collectives.specs.declared.collective.Collective.{Collective}
use Rattle.sg_collectives.specs.declared.collective.Collective.TheVariants.{Bcast, Reduce, Allreduce, Alltoall}
use Rattle.sg_collectives.specs.declared.step.Step.{Step}
use Rattle.sg_collectives.specs.declared.step.Step.TheVariants.{Recv, Send, Compute, IRecv, ISend, Wait}
use Rattle.sg_collectives.specs.Tree.{children, parent_rank}

-- a broadcast down the tree: a rank receives from its parent, and then sends to its children, the farthest first; rank 0
-- has no parent
unfoldable pub bcast : ℕ → ℕ → ℕ → List Step
bcast bytes rank members =
    (if nat_lt 0 rank then Recv (parent_rank rank) ∷ [] else [])
    ++ map (λ child. Send child bytes) (reverse (children rank members))

-- a reduction up the tree: a rank receives from its children, the nearest first, and computes after each; then it sends
-- to its parent
unfoldable pub reduce : ℕ → ℕ → ℕ → ℕ → List Step
reduce bytes flops rank members =
    flat_map (λ child. Recv child ∷ Compute flops ∷ []) (children rank members)
    ++ (if nat_lt 0 rank then Send (parent_rank rank) bytes ∷ [] else [])

-- from each other rank, the one before it first, and to each, the one after it first; then it
-- waits for all
unfoldable pub alltoall : ℕ → ℕ → ℕ → List Step
alltoall bytes rank members =
    map (λ i. IRecv ((rank + members - i) % members)) (range_with_len 1 (members - 1))
    ++ map (λ i. ISend ((rank + i) % members) bytes) (range_with_len 1 (members - 1))
    ++ replicate (2 * (members - 1)) Wait

-- of a rank among so many members
abbrev pub expansion : Collective → ℕ → ℕ → List Step
expansion (Bcast bytes) rank members = bcast bytes rank members
expansion (Reduce bytes flops) rank members = reduce bytes flops rank members
expansion (Allreduce bytes flops) rank members =
    reduce bytes flops rank members ++ bcast bytes rank members
expansion (Alltoall bytes) rank members = alltoall bytes rank members
