-- Amounts of a collective's steps, and that its actions keep to the limits.
use Rattle.std.proofs.Common.{◌≡◌, ℕ, ◌+◌, ◌-◌, ◌*◌, ◌%◌, ◌<◌, cond, ltb, List, ◌++◌, map, reverse, replicate, length, get_or, Some, sym, subst, ◌∙◌, arith, ◌∷◌, []}
use Rattle.std.specs.List.{All, range_with_len, slice_get, flat_map}
use Rattle.std.specs.Prelude.{⊤}
use Rattle.std.proofs.lemmas.List.Elements.{All-append, All-get_or, All-map, All-replicate}
use Rattle.std.proofs.lemmas.Option.{slice_get-get_or, slice_get_within, same_Some}
use Rattle.sg_base.specs.declared.ids.ActorId.{ActorId}
use Rattle.sg_base.specs.Limits.{Extent, IsAction, IsActorIn, IsAmount}
use Rattle.sg_collectives.specs.Actions.{action_of, NamesMember}
use Rattle.sg_collectives.specs.declared.collective.Collective.{Collective}
use Rattle.sg_collectives.specs.declared.collective.Collective.TheVariants.{Bcast, Reduce, Allreduce, Alltoall}
use Rattle.sg_collectives.specs.declared.step.Step.{Step}
use Rattle.sg_collectives.specs.declared.step.Step.TheVariants.{Recv, Send, Compute, IRecv, ISend, Wait}
use Rattle.sg_collectives.specs.Expansion.{alltoall, bcast, expansion, reduce}
use Rattle.sg_collectives.specs.Members.{HasAmounts}
use Rattle.sg_collectives.specs.Tree.{children, parent_rank}
use Rattle.sg_collectives.proofs.MemberLemmas.{step_names_member}
use Rattle.sg_collectives.proofs.Others.{All-if}
use Rattle.sg_collectives.proofs.Ranges.{All-pairs}

abbrev HasStepAmount : Step → Type 0
HasStepAmount (Recv peer) = ⊤
HasStepAmount (Send peer bytes) = IsAmount bytes
HasStepAmount (Compute flops) = IsAmount flops
HasStepAmount (IRecv peer) = ⊤
HasStepAmount (ISend peer bytes) = IsAmount bytes
HasStepAmount Wait = ⊤

bcast_amounts : (bytes rank members : ℕ) → IsAmount bytes → All HasStepAmount (bcast bytes rank members)
unfolding bcast
bcast_amounts bytes rank members are =
    All-append HasStepAmount (cond (ltb 0 rank) (Recv (parent_rank rank) ∷ []) []) (map (λ child. Send child bytes) (reverse (children rank members)))
    (All-if HasStepAmount (ltb 0 rank) (Recv (parent_rank rank)) (λ some. tt))
    (All-map HasStepAmount (λ child. Send child bytes) (reverse (children rank members)) (λ k d less. are))

reduce_amounts : (bytes flops rank members : ℕ) → IsAmount bytes → IsAmount flops → All HasStepAmount (reduce bytes flops rank members)
unfolding reduce
reduce_amounts bytes flops rank members are are' =
    All-append HasStepAmount (flat_map (λ child. Recv child ∷ Compute flops ∷ []) (children rank members)) (cond (ltb 0 rank) (Send (parent_rank rank) bytes ∷ []) [])
    (All-pairs HasStepAmount (λ child. Recv child) (λ child. Compute flops) (children rank members)
    (λ k d less. tt) (λ k d less. are'))
    (All-if HasStepAmount (ltb 0 rank) (Send (parent_rank rank) bytes) (λ some. are))

alltoall_amounts : (bytes rank members : ℕ) → IsAmount bytes → All HasStepAmount (alltoall bytes rank members)
unfolding alltoall
alltoall_amounts bytes rank members are =
    let range : List ℕ = range_with_len 1 (members - 1) in
    let recv : ℕ → Step = λ i. IRecv ((rank + members - i) % members) in
    let send : ℕ → Step = λ i. ISend ((rank + i) % members) bytes in
    All-append HasStepAmount (map recv range ++ map send range) (replicate (2 * (members - 1)) Wait)
    (All-append HasStepAmount (map recv range) (map send range)
    (All-map HasStepAmount recv range (λ k d less. tt)) (All-map HasStepAmount send range (λ k d less. are)))
    (All-replicate HasStepAmount (2 * (members - 1)) Wait tt)

amounts : (collective : Collective) (rank members : ℕ) → HasAmounts collective → All HasStepAmount (expansion collective rank members)
amounts (Bcast bytes) rank members are = bcast_amounts bytes rank members are
amounts (Reduce bytes flops) rank members are = reduce_amounts bytes flops rank members are.0 are.1
amounts (Allreduce bytes flops) rank members are =
    All-append HasStepAmount (reduce bytes flops rank members) (bcast bytes rank members)
    (reduce_amounts bytes flops rank members are.0 are.1) (bcast_amounts bytes rank members are.0)
amounts (Alltoall bytes) rank members are = alltoall_amounts bytes rank members are

step_limited : (extent : Extent) (members : List ActorId) (step : Step) → All (IsActorIn extent) members →
    NamesMember (length members) step → HasStepAmount step → IsAction extent (action_of members step)
step_limited extent members (Recv peer) exist names has = All-get_or (IsActorIn extent) members peer (record { 0 = 0 }) names exist
step_limited extent members (Send peer bytes) exist names has = (All-get_or (IsActorIn extent) members peer (record { 0 = 0 }) names exist, has, omega arith)
step_limited extent members (Compute flops) exist names has = (has, (omega arith, omega arith))
step_limited extent members (IRecv peer) exist names has = All-get_or (IsActorIn extent) members peer (record { 0 = 0 }) names exist
step_limited extent members (ISend peer bytes) exist names has = (All-get_or (IsActorIn extent) members peer (record { 0 = 0 }) names exist, has, omega arith)
step_limited extent members Wait exist names has = tt

pub step_keeps_limits : (extent : Extent) (members : List ActorId) (collective : Collective) (rank place : ℕ) (step : Step) →
    rank < length members → slice_get (expansion collective rank (length members)) place ≡ Some step →
    All (IsActorIn extent) members → HasAmounts collective → IsAction extent (action_of members step)
step_keeps_limits extent members collective rank place step within is exist has =
    let steps : List Step = expansion collective rank (length members) in
    let less : place < length steps = slice_get_within steps place step is in
    let at : get_or steps place step ≡ step = same_Some _ _ (sym (slice_get-get_or steps place step less) ∙ is) in
    step_limited extent members step exist (step_names_member collective rank (length members) place step within is)
    (subst HasStepAmount at (amounts collective rank (length members) has place step less))
