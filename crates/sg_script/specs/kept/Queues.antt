-- The lines that wait for each actor, and what is left of them.
use Rattle.std.specs.Prelude.{ℕ, List, [], ◌∷◌, ◌++◌, IfSome, Option, drop, slice_index_or, slice_set}
use Rattle.std.specs.List.{All, flat_map}
use Rattle.std.specs.Option.{option_to_list}
use Rattle.sg_base.specs.declared.call.Action.{Action}
use Rattle.sg_base.specs.declared.ids.ActorId.{ActorId}
use Rattle.sg_base.specs.Limits.{Extent, IsAction, IsActorIn}
use Rattle.sg_script.specs.declared.operation.Operation.{Operation}
use Rattle.sg_script.specs.declared.waiting.Waiting.{Waiting}
use Rattle.sg_script.specs.Operation.{actions_for, IsOperation}

-- the queue of an actor among all queues
abbrev pub queue_at : List (List Waiting) → ℕ → List Waiting
queue_at queues actor = slice_index_or queues actor []

-- what is left of a line: what the actor does for it, from its place on
abbrev pub left_of : List ActorId → ℕ → Waiting → List Action
left_of members actor line = drop line.place (actions_for members actor line.operation)

-- the actions that wait for an actor
abbrev pub waits : List ActorId → List (List Waiting) → ℕ → List Action
waits members queues actor = flat_map (left_of members actor) (queue_at queues actor)

-- the actions before the first was taken
abbrev pub with_first : Option Action → List Action → List Action
with_first first actions = option_to_list first ++ actions

-- the queues with a line more of an actor
abbrev pub with_line : ℕ → Operation → List (List Waiting) → List (List Waiting)
with_line actor operation queues =
    slice_set queues actor
    (queue_at queues actor ++ record { operation = operation; place = 0 } ∷ [])

-- lines that wait keep to the limits
abbrev pub AreOperations : Extent → List Waiting → Type 0
AreOperations extent lines = All (λ line. IsOperation extent line.operation) lines

-- if the members exist and the lines keep to the limits, so do the action that was taken and the
-- lines that are left
abbrev pub KeepsOperations : List ActorId → List Waiting → Option Action → List Waiting → Type 0
KeepsOperations members old first new = (extent : Extent) → All (IsActorIn extent) members →
    AreOperations extent old → IfSome first (IsAction extent) × AreOperations extent new
