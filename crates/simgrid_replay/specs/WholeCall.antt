-- What the whole call takes for a job, and what it does if the command line is invalid.
use Rattle.std.specs.Prelude.{◌≡◌, ◌+◌, ◌≤◌, ℕ, List, Option}
use Rattle.sg_base.specs.declared.status.Status.{Status}
use Rattle.sg_edge.specs.declared.files.Part.{Part}
use Rattle.sg_edge.specs.declared.files.Part.TheVariants.{Script}
use Rattle.sg_edge.specs.declared.sinks.Stream.{Stream}
use Rattle.sg_edge.specs.Files.{PartView}
use Rattle.sg_edge.specs.Sources.{Source}
use Rattle.sg_engine.specs.RunContract.{IsReadOnDemand}
use Rattle.sg_words.specs.Views.{Kinds}
use Rattle.simgrid_replay.specs.Contexts.{TakesContexts}
use Rattle.simgrid_replay.specs.Outcome.{Outcome, ReportsWords}
use Rattle.simgrid_replay.specs.PartOrder.{StopsOnDemand}

-- The visits counted are no more than the work of the outcome that is wanted for this script. Of the script at most
-- 4,095 bytes more were taken than the fetches of the run need, and no read followed one after which they had their
-- answers, whatever came next. Of the context pool as many contexts were taken as the outcome takes, or no more if the
-- call was cut off.
pub record TakesForJob {A : Type 0} (want : Source → Outcome) (script : Source) (how : Status) (start count : ℕ) (before after : Part → PartView) (had has : List A) : Type 0 where
  pub counts : count ≤ start + (want script).work
  pub needed : IsReadOnDemand (want script).need before after
  pub last : StopsOnDemand (λ other. (want other).need) (before Script) (after Script)
  pub taken : TakesContexts (want script) how had has

-- Help, the version, or what is wrong with the words was printed: no part is begun, no actor takes a context, and no
-- use is visited.
pub record RefusesWords {F A : Type 0} (kinds : Kinds) (how : Status) (old new : Stream → Option (List ℕ)) (before after : F) (had has : List A) (start count : ℕ) : Type 0 where
  pub told : ReportsWords kinds how old new
  pub untouched : after ≡ before
  pub spared : has ≡ had
  pub unlooked : count ≡ start
