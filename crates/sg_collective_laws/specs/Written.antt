-- Lines that say what a member of a collective does.
use Rattle.std.specs.Prelude.{ℕ, List, [], ◌∷◌, codes, decimal, map, length, Option, None, Some}
use Rattle.std.specs.List.{join_with_byte}
use Rattle.sg_base.specs.declared.ids.ActorId.{ActorId}
use Rattle.sg_collectives.specs.Actions.{member}
use Rattle.sg_collectives.specs.Expansion.{expansion}
use Rattle.sg_collectives.specs.Members.{rank_of}
use Rattle.sg_collectives.specs.declared.collective.Collective.{Collective}
use Rattle.sg_collectives.specs.declared.step.Step.{Step}
use Rattle.sg_collectives.specs.declared.step.Step.TheVariants.{Recv, Send, Compute, IRecv, ISend, Wait}

-- the name of each actor
abbrev pub Naming : Type 0
Naming = ActorId → List ℕ

-- an action and its arguments, by the name of each rank
abbrev pub step_words : (ℕ → List ℕ) → Step → List (List ℕ)
step_words name (Recv peer) = codes "recv" ∷ name peer ∷ []
step_words name (Send peer bytes) = codes "send" ∷ name peer ∷ decimal bytes ∷ []
step_words name (Compute flops) = codes "compute" ∷ decimal flops ∷ []
step_words name (IRecv peer) = codes "irecv" ∷ name peer ∷ []
step_words name (ISend peer bytes) = codes "isend" ∷ name peer ∷ decimal bytes ∷ []
step_words name Wait = codes "wait" ∷ []

-- what this actor does, as a line: words with a space between them
abbrev pub step_line : Naming → List ActorId → ActorId → Step → List ℕ
step_line name members actor step =
    join_with_byte 32 (name actor ∷ step_words (λ rank. name (member members rank)) step)

abbrev pub lines_at : Naming → List ActorId → ActorId → Collective → Option ℕ → List (List ℕ)
lines_at name members actor collective None = []
lines_at name members actor collective (Some rank) =
    map (step_line name members actor) (expansion collective rank (length members))

-- all that an actor does for a collective, as lines; none if it is no member
abbrev pub expansion_lines : Naming → List ActorId → ActorId → Collective → List (List ℕ)
expansion_lines name members actor collective =
    lines_at name members actor collective (rank_of members actor.0)
