-- Answers, runs and outputs without the number of a bad line: if these are equal, the answers, runs and outputs are the
-- same except for that number.
use Rattle.std.specs.Prelude.{◌≡◌, ℕ, Option, option_map, Result, Ok, Err}
use Rattle.sg_base.specs.declared.call.Action.{Action}
use Rattle.sg_engine.specs.Output.{Output}
use Rattle.sg_engine.specs.Run.{Answering, Progress}
use Rattle.sg_engine.specs.declared.ended.Ended.{Ended}
use Rattle.sg_engine.specs.declared.ended.Ended.TheVariants as ended
use Rattle.sg_script.specs.declared.fault.ScriptFault.{ScriptFault}
use Rattle.sg_script.specs.declared.fault.ScriptFault.TheVariants as fault

abbrev pub unnumbered_fault : ScriptFault → ScriptFault
unnumbered_fault (fault.Line number kind) = fault.Line 0 kind
unnumbered_fault other = other

abbrev pub unnumbered_answer : Result (Option Action) ScriptFault → Result (Option Action) ScriptFault
unnumbered_answer (Ok answer) = Ok answer
unnumbered_answer (Err why) = Err (unnumbered_fault why)

abbrev pub unnumbered_end : Ended → Ended
unnumbered_end (ended.Script number kind) = ended.Script 0 kind
unnumbered_end other = other

-- the world with its date and its count of events, and the records, as they are
abbrev pub unnumbered : Progress → Progress
unnumbered progress = record progress { ended = option_map unnumbered_end progress.ended }

-- two scripts have the same answer to each fetch of each actor
abbrev pub AnswerAlike : Answering → Answering → Type 0
AnswerAlike one other = (actor earlier : ℕ) → unnumbered_answer (one actor earlier) ≡ unnumbered_answer (other actor earlier)

-- two runs write the same on Out, end alike, take as many contexts and have the same work; on Err they report how they
-- ended
pub record WriteAlike (one other : Output) : Type 0 where
  pub out : one.out ≡ other.out
  pub ended : unnumbered_end one.ended ≡ unnumbered_end other.ended
  pub contexts : one.contexts ≡ other.contexts
  pub work : one.work ≡ other.work
