-- How soon a run writes its lines, beside how far it reads its script.
use Rattle.std.specs.Prelude.{◌≡◌, ◌+◌, ℕ, Bool, Option, List, ◌++◌}
use Rattle.sg_edge.specs.declared.files.Part.{Part}
use Rattle.sg_edge.specs.declared.files.Part.TheVariants.{Script}
use Rattle.sg_edge.specs.declared.sinks.Stream.{Stream}
use Rattle.sg_edge.specs.declared.sinks.Stream.TheVariants.{Out}
use Rattle.sg_edge.specs.Files.{PartView}
use Rattle.sg_edge.specs.Sinks.{gain}
use Rattle.sg_edge.specs.Sources.{Source}
use Rattle.sg_platform_rows.specs.Deployment.{Deployed}
use Rattle.sg_platform_rows.specs.Platform.{Platform}
use Rattle.sg_script.specs.Answer.{answer_of}
use Rattle.sg_script.specs.Known.{known_in}
use Rattle.sg_script.specs.Needed.{needed_by}
use Rattle.sg_engine.specs.declared.setup.Setup.{Setup}
use Rattle.sg_engine.specs.declared.show.Show.{Show}
use Rattle.sg_engine.specs.Fuel.{parts_from}
use Rattle.sg_engine.specs.Output.{first_of, scene_of, trace_of}
use Rattle.sg_engine.specs.Run.{Answering, Progress}
use Rattle.sg_engine.specs.RunContract.{EndsOnDemand, ForSources, IsReadOnDemand}

-- how far a run has come: the trace lines that it has made, and how many bytes of its script its fetches need
pub record Pace : Type 0 where
  pub out : List ℕ
  pub need : ℕ

abbrev pub pace_at : Platform → Deployed → Show → Source → Progress → Pace
pace_at platform deployed show source progress = record {
  out = trace_of show platform deployed progress.made;
  need = needed_by (known_in deployed) source progress.world.fetched;
}

-- the first so many scheduling rounds and time advances of a run with so many contexts, by what its script answers
abbrev pub first_parts : Platform → Deployed → Bool → ℕ → ℕ → ℕ → Answering → Progress
first_parts platform deployed script budget crew parts answers = parts_from parts (scene_of platform deployed script budget) answers (first_of platform deployed budget crew)

-- how far it has come then
abbrev pub pace_of : Platform → Deployed → Bool → ℕ → ℕ → Show → Source → ℕ → Pace
pace_of platform deployed script budget crew show source parts = pace_at platform deployed show source (first_parts platform deployed script budget crew parts (answer_of (known_in deployed) source))

-- However a run has ended, even by a failed write: the lines of its first scheduling rounds and time advances, so many,
-- are all on Out. Of the script no more was taken than these and the next one need, and less than a piece of 4,096
-- bytes, and no read followed one after which their fetches had their answers. Since any write may fail, no line waits
-- while more is read than that.
pub record IsInPace (pace : Source → ℕ → Pace) (source : Source) (old new : Stream → Option (List ℕ)) (before after : Part → PartView) : Type 0 where
  pub parts : ℕ
  pub behind : List ℕ
  pub written : new Out ≡ gain (old Out) ((pace source parts).out ++ behind)
  pub read : IsReadOnDemand (pace source (parts + 1)).need before after
  pub last : EndsOnDemand (λ other. (pace other (parts + 1)).need) (before Script) (after Script)

-- a run keeps pace for each source that the script's part may have given
abbrev pub KeepsPace : Bool → (Source → ℕ → Pace) → (Stream → Option (List ℕ)) → (Stream → Option (List ℕ)) → (Part → PartView) → (Part → PartView) → Type 0
KeepsPace script pace old new before after = ForSources script before after (λ source. IsInPace pace source old new before after)

-- the pace of the run of a setup, with so many contexts, by what the script's part gives
abbrev pub pace_in : Setup → ℕ → ℕ → Show → Source → ℕ → Pace
pace_in setup budget crew show source = pace_of setup.platform setup.deployment setup.script budget crew show source
