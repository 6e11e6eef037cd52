-- What the exit status says of how a call ended.
use Rattle.std.specs.Prelude.{◌≡◌, ◌≢◌, ◌⊎◌, ℕ, List, [], Option, length, false, IsTrue, Result, Ok, Err}
use Rattle.std.specs.declared.vec.IntoIter.{IntoIter}
use Rattle.std.specs.Vec.Iter.{into_iter_items}
use Rattle.sg_base.specs.declared.status.Status.{Status}
use Rattle.sg_base.specs.declared.status.Status.TheVariants as status
use Rattle.sg_base.specs.Status.{status_code}
use Rattle.sg_edge.specs.Cause.{HasCause}
use Rattle.sg_edge.specs.Files.{PartView, SomeBroke}
use Rattle.sg_edge.specs.Sources.{Source}
use Rattle.sg_edge.specs.declared.files.Part.{Part}
use Rattle.sg_edge.specs.declared.sinks.Stream.{Stream}
use Rattle.sg_words.specs.CommandLine.{Asked, refusals}
use Rattle.sg_words.specs.Views.{ErrorKind, IsAmong, IsHelp, Kinds, Text}
use Rattle.simgrid_replay.specs.Contexts.{TakesFirst, TakesFront}
use Rattle.simgrid_replay.specs.Outcome.{cuts_output_short, is_refusal, outcome, Prints}
use Rattle.simgrid_replay.specs.PartOrder.{IsTextBroken, SparesRest, TakesParts}
use Rattle.simgrid_replay.specs.PartSources.{AskFor, ForJob, TextsGive}
use Rattle.simgrid_replay.specs.Requests.{has_parts}
use Rattle.simgrid_replay.specs.Settings.{setting}
use Rattle.simgrid_replay.specs.WholeCall.{RefusesWords, TakesForJob}

-- an exit status is that of a way to end of which this holds
abbrev pub Exits : ℕ → (Status → Type 0) → Type 0
Exits code holds = (how : Status) × (code ≡ status_code how) × holds how

-- What a whole call does for the words of a command line: all clauses of `simgrid` hold of it.
pub record DoesCall {F A : Type 0} (shows : F → Part → PartView) (words : List Text) (before after : F) (old new : Stream → Option (List ℕ)) (had faults : ℕ) (crew left : List A) (start count : ℕ) (how : Status) : Type 0 where
  pub output : ForJob words (shows before) (shows after) (λ job p d s. Prints (outcome job (length crew) p d s) how old new)
  pub takes : ForJob words (shows before) (shows after) (λ job p d s. TakesForJob (outcome job (length crew) p d) s how start count (shows before) (shows after) crew left)
  pub parts : (job : Asked) → AskFor words job → TakesParts shows job.request (length crew) before after
  pub seats : (job : Asked) → AskFor words job → (p d : Source) → TextsGive job.request (shows before) (shows after) p d →
      TakesFirst (setting job.request (length crew) p d) how crew left
  pub refused : refusals words ≢ [] → RefusesWords (refusals words) how old new before after crew left start count
  pub invalid : how ≡ status.Words → refusals words ≢ []
  pub rest : SparesRest how (shows before) (shows after)
  pub unseated : IsTrue (is_refusal how) → left ≡ crew
  pub broken_text : IsTextBroken (shows after) → left ≡ crew
  pub front : TakesFront crew left
  pub cause : HasCause (how ≡ status.WriteFault) (how ≡ status.ReadFault) had faults (SomeBroke (shows before) (shows after))

-- The status is that of a text of one of these kinds: success for help and the version.
pub record ReportsKind (kinds : Kinds) (how : Status) : Type 0 where
  pub kind : ErrorKind
  pub among : IsAmong kind kinds
  pub help : IsHelp kind → how ≡ status.Completed
  pub other : ¬ IsHelp kind → how ≡ status.Words

-- What the command line alone says of the status, whatever the files are. An invalid one has the status of its kind,
-- and a valid one never that of an invalid one; a churn ends as its definition does, with so many contexts. Else the
-- call was cut off.
pub record FitsWords (words : List Text) (contexts : ℕ) (how : Status) : Type 0 where
  pub refused : refusals words ≢ [] → IsTrue (cuts_output_short how) ⊎ ReportsKind (refusals words) how
  pub accepted : refusals words ≡ [] → how ≢ status.Words
  pub churned : (job : Asked) → AskFor words job → has_parts job.request ≡ false → (p d s : Source) →
      IsTrue (cuts_output_short how) ⊎ ((outcome job contexts p d s).status ≡ how)

-- the words of a command line, none if one of them isn't text
abbrev pub words_in : {X Z E : Type 0} → Result (IntoIter X Z) E → List X
words_in (Ok args) = into_iter_items args
words_in (Err why) = []
