-- The answer to a fetch by all actions of the actor and the first bad line, which lines can be taken off.
use Rattle.std.specs.Prelude.{ℕ, Bool, true, false, ◌+◌, List, [], ◌∷◌, ◌++◌, Option, None, Some, Result, Ok, Err}
use Rattle.sg_base.specs.declared.call.Action.{Action}
use Rattle.sg_script.specs.declared.fault.ScriptFault.{ScriptFault}
use Rattle.sg_script.specs.declared.fault.ScriptFault.TheVariants.{Line, Read}
use Rattle.sg_script.specs.Known.{ScriptNames}
use Rattle.sg_script.specs.Line.{Judgement}
use Rattle.sg_script.specs.Operation.{line_actions}

-- the actions of an actor: the expansions of its good lines before the first bad line, in order
abbrev pub script_actions : ScriptNames → ℕ → List Judgement → List Action
script_actions known actor [] = []
script_actions known actor (Ok said ∷ more) =
    line_actions known actor said ++ script_actions known actor more
script_actions known actor (Err kind ∷ more) = []

-- the fault of the first bad line
abbrev pub first_bad : ℕ → List Judgement → Option ScriptFault
first_bad before [] = None
first_bad before (Ok said ∷ more) = first_bad (before + 1) more
first_bad before (Err kind ∷ more) = Some (Line (before + 1) kind)

-- if no action remains, the first bad line is reported, else the read fault, else that there is no more
abbrev pub answered_by : Bool → Option ScriptFault → Option Action → Result (Option Action) ScriptFault
answered_by broken bad (Some action) = Ok (Some action)
answered_by broken (Some fault) None = Err fault
answered_by true None None = Err Read
answered_by false None None = Ok None
