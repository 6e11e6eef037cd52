-- Who takes part in collectives, and what each member does for one.
use Rattle.std.specs.Prelude.{◌≡◌, ℕ, ◌==◌, List, [], length, map, slice_index_or, Option, None}
use Rattle.std.specs.List.{position}
use Rattle.std.specs.Option.{option_map_or}
use Rattle.sg_base.specs.declared.call.Action.{Action}
use Rattle.sg_base.specs.declared.ids.ActorId.{ActorId}
use Rattle.sg_base.specs.Limits.{IsAmount}
use Rattle.sg_collectives.specs.Actions.{action_of}
use Rattle.sg_collectives.specs.Expansion.{expansion}
use Rattle.sg_collectives.specs.declared.collective.Collective.{Collective}
use Rattle.sg_collectives.specs.declared.collective.Collective.TheVariants.{Bcast, Reduce, Allreduce, Alltoall}

-- the rank of the actor with this number: its place among the members, if it is one
abbrev pub rank_of : List ActorId → ℕ → Option ℕ
rank_of members actor = position (λ member. member.0 == actor) members

-- what that actor does for a collective; nothing if it is no member
unfoldable pub actions_of : List ActorId → ℕ → Collective → List Action
actions_of members actor collective =
    option_map_or (λ rank. map (action_of members) (expansion collective rank (length members))) (rank_of members actor) []

-- a list has the rank of each actor at the place of its number, and none after its end
abbrev pub IsRanked : List ActorId → List (Option ℕ) → Type 0
IsRanked members ranks = (actor : ℕ) → slice_index_or ranks actor None ≡ rank_of members actor

-- the amounts of a collective keep to their limits
abbrev pub HasAmounts : Collective → Type 0
HasAmounts (Bcast bytes) = IsAmount bytes
HasAmounts (Reduce bytes flops) = IsAmount bytes × IsAmount flops
HasAmounts (Allreduce bytes flops) = IsAmount bytes × IsAmount flops
HasAmounts (Alltoall bytes) = IsAmount bytes
