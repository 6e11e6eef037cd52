-- Steps as actions of actors.
use Rattle.std.specs.Prelude.{ℕ, ◌<◌, List, slice_index_or, ⊤}
use Rattle.sg_base.specs.declared.call.Action.{Action}
use Rattle.sg_base.specs.declared.call.Action.TheVariants as action
use Rattle.sg_base.specs.declared.ids.ActorId.{ActorId}
use Rattle.sg_collectives.specs.declared.step.Step.{Step}
use Rattle.sg_collectives.specs.declared.step.Step.TheVariants.{Recv, Send, Compute, IRecv, ISend, Wait}

-- the peer of a step is one of so many members
abbrev pub NamesMember : ℕ → Step → Type 0
NamesMember members (Recv peer) = peer < members
NamesMember members (Send peer bytes) = peer < members
NamesMember members (Compute flops) = ⊤
NamesMember members (IRecv peer) = peer < members
NamesMember members (ISend peer bytes) = peer < members
NamesMember members Wait = ⊤

-- the member of this rank, if there is one
abbrev pub member : List ActorId → ℕ → ActorId
member members rank = slice_index_or members rank (record { 0 = 0 })

-- a step with the actor of its peer's rank
abbrev pub action_of : List ActorId → Step → Action
action_of members (Recv peer) = action.Recv (member members peer)
action_of members (Send peer bytes) = action.Send (member members peer) bytes 0
action_of members (Compute flops) = action.Compute flops 1
action_of members (IRecv peer) = action.IRecv (member members peer)
action_of members (ISend peer bytes) = action.ISend (member members peer) bytes 0
action_of members Wait = action.Wait
