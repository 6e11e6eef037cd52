-- What a contract sees of the values of the crate.
use Rattle.std.specs.Prelude.{◌≡◌, ◌≢◌, ◌⊎◌, ⊤, [], Option, Some, Result, Ok, Err}
pub use Rattle.clap.specs.Words.{IsAmong, Kinds, Text}
pub use Rattle.clap.specs.declared.error.kind.ErrorKind.{ErrorKind}
use Rattle.clap.specs.declared.error.kind.ErrorKind.TheVariants.{DisplayHelp, DisplayVersion, OutOfMemory}
use Rattle.sg_words.specs.CommandLine as line
use Rattle.sg_words.specs.declared.fault.WordsFault.{WordsFault}
use Rattle.sg_words.specs.declared.fault.WordsFault.TheVariants.{Help, Bad, Memory}
use Rattle.sg_words.specs.declared.job.Asked.{Asked}
use Rattle.sg_words.specs.declared.job.Command.{Command}
use Rattle.sg_words.specs.declared.job.Job.{Job}
use Rattle.sg_words.specs.declared.job.Request.{Request}
use Rattle.sg_words.specs.declared.job.Request.TheVariants.{Replay, Run, Churn}

abbrev pub request_view : Request → line.Request
request_view (Replay platform deployment script) = line.replay platform.now deployment.now script.now
request_view (Run platform deployment) = line.run platform.now deployment.now
request_view (Churn n) = line.churn n.seed n.actors n.steps

abbrev pub asked_view : Asked → line.Asked
asked_view a = record { request = request_view a.request; workers = a.workers; budget = a.budget; quiet = a.quiet }

abbrev pub command_view : Command → line.Request
command_view (Command.Replay platform deployment script) = line.replay platform deployment script
command_view (Command.Run platform deployment) = line.run platform deployment
command_view (Command.Churn seed actors steps) = line.churn seed actors steps

abbrev pub job_view : Job → line.Asked
job_view job = record { request = command_view job.command; workers = job.workers; budget = job.budget; quiet = job.quiet }

-- help, or the version, was asked for
abbrev pub IsHelp : ErrorKind → Type 0
IsHelp kind = (kind ≡ DisplayHelp) ⊎ (kind ≡ DisplayVersion)

-- If there is no kind of refusal, the answer is the job that was asked for, else a refusal of one of the kinds; or
-- memory ran out.
abbrev pub Answers : Kinds → Option line.Asked → Result Job WordsFault → Type 0
Answers kinds asked (Ok job) = (kinds ≡ []) × (asked ≡ Some (job_view job))
Answers kinds asked (Err (Help text)) = IsAmong DisplayHelp kinds ⊎ IsAmong DisplayVersion kinds
Answers kinds asked (Err (Bad kind text)) = IsAmong kind kinds × (kind ≢ DisplayHelp) × (kind ≢ DisplayVersion)
Answers kinds asked (Err Memory) = ⊤

-- the answer that an error of this kind is
abbrev pub IsFaultOf : ErrorKind → WordsFault → Type 0
IsFaultOf kind (Help text) = IsHelp kind
IsFaultOf kind (Bad told text) = (told ≡ kind) × (told ≢ DisplayHelp) × (told ≢ DisplayVersion) × (told ≢ OutOfMemory)
IsFaultOf kind Memory = kind ≡ OutOfMemory
