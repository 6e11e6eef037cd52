-- What a fetch stands on, and what keeps to the limits after it.
use Rattle.std.specs.Prelude.{◌≡◌, ◌≢◌, ◌<◌, ◌≤◌, ℕ, [], length, take, true, IfOk, IfSome, Option, Result}
use Rattle.std.specs.List.{list_all}
use Rattle.sg_base.specs.declared.call.Action.{Action}
use Rattle.sg_edge.specs.Files.{Only, PartView}
use Rattle.sg_edge.specs.declared.files.Part.{Part}
use Rattle.sg_edge.specs.declared.files.Stage.TheVariants.{Fresh}
use Rattle.sg_edge.specs.declared.files.Part.TheVariants as part
use Rattle.sg_platform_rows.specs.Deployment.{Deployed, extent_of, members_among}
use Rattle.sg_script.specs.Known.{actors_in, known_in}
use Rattle.sg_script.specs.Line.{Judgement, KeepsLimits}
use Rattle.sg_script.specs.Stands.{AreLimited, IsLimited, IsRead, Kept}
use Rattle.sg_script.specs.Operation.{IsOperation}
use Rattle.sg_script.specs.declared.fault.LineFault.{LineFault}
use Rattle.sg_script.specs.declared.fault.ScriptFault.{ScriptFault}
use Rattle.sg_script.specs.declared.operation.Operation.{Operation}
use Rattle.sg_script.specs.kept.Front.{is_within}
use Rattle.sg_script.specs.kept.Queues.{waits}
use Rattle.sg_script.specs.kept.Steps.{Ends}

-- a line has this judgement, and what it says keeps to the limits of the deployment
pub record IsJudged (deployed : Deployed) (judgement answer : Judgement) : Type 0 where
  pub said : answer ≡ judgement
  pub limits : KeepsLimits (extent_of deployed) answer

-- the arguments of an action say this, which keeps to the limits of the deployment
pub record IsSaid (deployed : Deployed) (wanted answer : Result Operation LineFault) : Type 0 where
  pub said : answer ≡ wanted
  pub limits : IfOk answer (IsOperation (extent_of deployed))

-- so many bytes are there, and one line more may be
pub record CanPass (end : ℕ) (kept : Kept) : Type 0 where
  pub pending : end ≤ length kept.pending
  pub lines : kept.lines < 100000000

-- a line of so many bytes is at the front, and takes so many with its newline
pub record IsAtFront (len end : ℕ) (kept : Kept) : Type 0 where
  pub within : len ≤ end
  pub pending : end ≤ length kept.pending
  pub unbroken : list_all is_within (take len kept.pending) ≡ true

-- each actor of the deployment has a queue, and this one, and the lines that wait keep to the limits
pub record IsReady (deployed : Deployed) (actor : ℕ) (kept : Kept) : Type 0 where
  pub actors : actors_in deployed < length kept.queues
  pub queue : actor < length kept.queues
  pub waiting : AreLimited (extent_of deployed) kept

-- so it is, and no action waits for the actor
pub record IsIdle (deployed : Deployed) (actor : ℕ) (kept : Kept) : Type 0 where
  pub ready : IsReady deployed actor kept
  pub empty : waits (members_among deployed.actors) kept.queues actor ≡ []

-- so it is, and the script may be read: it is begun
pub record MayRead (deployed : Deployed) (actor : ℕ) (part : PartView) (kept : Kept) : Type 0 where
  pub begun : part.stage ≢ Fresh
  pub idle : IsIdle deployed actor kept

-- an answer, if there is one, and the lines that wait keep to the limits
pub record KeepsLimitsIf (deployed : Deployed) (answer : Option (Result (Option Action) ScriptFault))
    (kept : Kept) : Type 0 where
  pub limited : IfSome answer (IsLimited (extent_of deployed))
  pub waiting : AreLimited (extent_of deployed) kept

-- what a fetch did, which keeps to the limits; other parts stay as they were
pub record IsAnswered (deployed : Deployed) (actor : ℕ)
    (answer : Result (Option Action) ScriptFault) (old_parts new_parts : Part → PartView)
    (old new : Kept) : Type 0 where
  pub ends : Ends (known_in deployed) actor answer (old_parts part.Script) (new_parts part.Script) old new
  pub limited : IsLimited (extent_of deployed) answer
  pub waiting : AreLimited (extent_of deployed) new
  pub read : IsRead answer (new_parts part.Script)
  pub others : Only part.Script old_parts new_parts
