-- What a whole call writes, and its status, by what its three parts gave.
use Rattle.std.specs.Prelude.{◌≡◌, ℕ, List, [], Option, Result, Ok, Err, Bool, true, false, MatchBool, ◌++◌, codes, decimal}
use Rattle.sg_base.specs.declared.status.Status.{Status}
use Rattle.sg_base.specs.declared.status.Status.TheVariants as status
use Rattle.sg_edge.specs.declared.sinks.Stream.{Stream}
use Rattle.sg_edge.specs.declared.sinks.Stream.TheVariants as stream
use Rattle.sg_edge.specs.Sources.{Source}
use Rattle.sg_engine.specs.declared.ended.Ended.{Ended}
use Rattle.sg_engine.specs.declared.ended.Ended.TheVariants as ended
use Rattle.sg_engine.specs.Gains.{GainsAll, GainsFronts}
use Rattle.sg_engine.specs.Output.{Output, run_output}
use Rattle.sg_words.specs.CommandLine.{Asked}
use Rattle.sg_words.specs.Views.{ErrorKind, IsAmong, IsHelp, Kinds}
use Rattle.sg_zones.specs.FaultWords.{zone_words, zone_place}
use Rattle.simgrid_replay.specs.RefusalLines.{refusal_line, text_line}
use Rattle.simgrid_replay.specs.Settings.{Setting, setting}
use Rattle.simgrid_replay.specs.Requests.{has_script, show_of}
use Rattle.simgrid_replay.specs.declared.refusal.Refusal.{Refusal}
use Rattle.simgrid_replay.specs.declared.refusal.Refusal.TheVariants as refusal

-- What is written, and the status; how many contexts the actors of the run take; the work: how many visits its solver
-- may make; and the need: how many bytes of the script its fetches need.
pub record Outcome : Type 0 where
  pub out : List ℕ
  pub err : List ℕ
  pub status : Status
  pub contexts : ℕ
  pub work : ℕ
  pub need : ℕ

-- the exit status for each way in which a run ends
abbrev pub status_of : Ended → Status
status_of ended.Completed = status.Completed
status_of ended.Deadlock = status.Deadlock
status_of ended.Starved = status.Starved
status_of ended.Budget = status.Budget
status_of (ended.Script number kind) = status.Script
status_of (ended.NoRoute from to zone a b) = status.Route
status_of (ended.TooLong from to) = status.Route
status_of ended.ReadFault = status.ReadFault
status_of ended.WriteFault = status.WriteFault
status_of ended.Memory = status.Memory

-- a text on one stream, and nothing on the other
abbrev pub one_text : Stream → List ℕ → Status → Outcome
one_text stream.Out text how = record { out = text; err = []; status = how; contexts = 0; work = 0; need = 0 }
one_text stream.Err text how = record { out = []; err = text; status = how; contexts = 0; work = 0; need = 0 }

-- the outcome of a refused job: its message on Err, empty if out of memory, and its status
abbrev pub refusal_outcome : Refusal → Outcome
refusal_outcome (refusal.Platform fault) = one_text stream.Err (text_line (codes "platform") fault) status.Platform
refusal_outcome (refusal.Zones fault) = one_text stream.Err (refusal_line (codes "platform") (zone_words fault) (zone_place fault)) status.Platform
refusal_outcome (refusal.Deployment fault) = one_text stream.Err (text_line (codes "deployment") fault) status.Deployment
refusal_outcome (refusal.ReplayUnderRun row) =
    one_text stream.Err (codes "deployment: replay actor under run (row " ++ (decimal row ++ codes ")\n")) status.Deployment
refusal_outcome (refusal.TooFewContexts actors contexts) = one_text stream.Err
    (codes "deployment: " ++ (decimal actors ++ (codes " actors, " ++ (decimal contexts ++ codes " contexts\n")))) status.Deployment
refusal_outcome refusal.ReadPlatform = one_text stream.Err (codes "cannot read the platform\n") status.ReadFault
refusal_outcome refusal.ReadDeployment = one_text stream.Err (codes "cannot read the deployment\n") status.ReadFault
refusal_outcome refusal.Memory = one_text stream.Err [] status.Memory

-- the outcome of a run: its texts, the status for its end, and what it used
abbrev pub of_run : Output → Outcome
of_run run = record { out = run.out; err = run.err; status = status_of run.ended; contexts = run.contexts; work = run.work; need = run.need }

-- the outcome of a run that was set up, as the job asks for it and with what its script gives, or of the first refusal
abbrev pub or_refused : Asked → ℕ → Source → Result Setting Refusal → Outcome
or_refused job contexts script (Ok on) =
    of_run (run_output on.platform on.deployment (has_script job.request) job.budget contexts (show_of job.request job.quiet) script)
or_refused job contexts script (Err why) = refusal_outcome why

-- The outcome of a job with so many contexts, by what the three input streams gave: the platform, the deployment, the
-- run; the first that ends the call decides.
abbrev pub outcome : Asked → ℕ → Source → Source → Source → Outcome
outcome job contexts p d s = or_refused job contexts s (setting job.request contexts p d)

-- a failed write or running out of memory cuts the call off
abbrev pub cuts_output_short : Status → Bool
cuts_output_short status.WriteFault = true
cuts_output_short status.Memory = true
cuts_output_short other = false

-- the words, the platform or the deployment are refused
abbrev pub is_refusal : Status → Bool
is_refusal status.Words = true
is_refusal status.Platform = true
is_refusal status.Deployment = true
is_refusal other = false

-- the outcome is there whole, with its status
abbrev pub IsWhole : Outcome → Status → (Stream → Option (List ℕ)) → (Stream → Option (List ℕ)) → Type 0
IsWhole want how old new = (want.status ≡ how) × GainsAll want.out want.err old new

-- the outcome is there whole, or it was cut off and prefixes of its texts are there
abbrev pub Prints : Outcome → Status → (Stream → Option (List ℕ)) → (Stream → Option (List ℕ)) → Type 0
Prints want how old new = MatchBool (cuts_output_short how) (GainsFronts want.out want.err old new) (IsWhole want how old new)

-- A text was printed for one of these kinds: help and the version on Out, with the status of success; any other on Err.
pub record ReportsWords (kinds : Kinds) (how : Status) (old new : Stream → Option (List ℕ)) : Type 0 where
  pub kind : ErrorKind
  pub among : IsAmong kind kinds
  pub text : List ℕ
  pub help : IsHelp kind → Prints (one_text stream.Out text status.Completed) how old new
  pub other : ¬ IsHelp kind → Prints (one_text stream.Err text status.Words) how old new
