-- What a line has its actor do, action by action.
use Rattle.std.specs.Prelude.{ℕ, ◌==◌, List, [], ◌∷◌, Option, None, Some, if◌then◌else◌}
use Rattle.sg_base.specs.declared.call.Action.{Action}
use Rattle.sg_base.specs.declared.ids.ActorId.{ActorId}
use Rattle.sg_base.specs.Limits.{Extent, IsAction}
use Rattle.sg_collectives.specs.Members.{actions_of as collective_actions, HasAmounts}
use Rattle.sg_script.specs.declared.line.Entry.{Entry}
use Rattle.sg_script.specs.declared.operation.Operation.{Operation}
use Rattle.sg_script.specs.declared.operation.Operation.TheVariants.{Alone, Together}
use Rattle.sg_script.specs.Known.{ScriptNames}

-- what an actor does for an operation among these members: an action alone, or all that it does
-- for a collective
abbrev pub actions_for : List ActorId → ℕ → Operation → List Action
actions_for members actor (Alone action) = action ∷ []
actions_for members actor (Together collective) = collective_actions members actor collective

-- what a line gives an actor: what its own actor does for it, if it is this actor's line
abbrev pub line_actions : ScriptNames → ℕ → Option Entry → List Action
line_actions known actor None = []
line_actions known actor (Some entry) =
    if entry.actor.0 == actor then actions_for known.members entry.actor.0 entry.operation else []

-- amounts and times keep to their limits, and what is named exists
abbrev pub IsOperation : Extent → Operation → Type 0
IsOperation extent (Alone action) = IsAction extent action
IsOperation extent (Together collective) = HasAmounts collective
