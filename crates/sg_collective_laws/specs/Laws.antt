-- Laws of runs with collectives.
use Rattle.std.specs.Prelude.{◌≡◌, ◌≤◌, ℕ, Bool, List, Ok}
use Rattle.sg_edge.specs.Sources.{Source}
use Rattle.sg_engine.specs.Output.{run_output}
use Rattle.sg_engine.specs.Run.{Answering, Scene, run_of}
use Rattle.sg_engine.specs.World.{World}
use Rattle.sg_engine.specs.declared.show.Show.{Show}
use Rattle.sg_platform.specs.DeploymentOf.{deployment_of}
use Rattle.sg_platform_rows.specs.Deployment.{Deployed}
use Rattle.sg_platform_rows.specs.Platform.{Platform}
use Rattle.sg_script.specs.Answer.{answer_of}
use Rattle.sg_script.specs.Known.{known_in}
use Rattle.sg_collective_laws.specs.Alike.{AnswerAlike, WriteAlike, unnumbered}
use Rattle.sg_collective_laws.specs.Expanded.{HasNames, expanded_in, line_count}

-- A run depends on its script by the answers alone: scripts that answer alike lead to the same world, records and end,
-- except for the number of a bad line.
abbrev pub AnswersMakeRuns : Type 0
AnswersMakeRuns = (at : Scene) (first : World) (one other : Answering) → AnswerAlike one other →
    unnumbered (run_of at first one) ≡ unnumbered (run_of at first other)

-- what is said of each source and the one with its collectives replaced, if neither has more than 10^8 lines
abbrev pub ForExpanded : Deployed → (Source → Source → Type 0) → Type 0
ForExpanded deployed P = (source : Source) → line_count source ≤ 100000000 →
    line_count (expanded_in deployed source) ≤ 100000000 → P source (expanded_in deployed source)

-- each fetch has the same answer
abbrev pub CollectivesAnswer : Type 0
CollectivesAnswer = (deployed : Deployed) → HasNames deployed →
    ForExpanded deployed (λ source other. AnswerAlike (answer_of (known_in deployed) source) (answer_of (known_in deployed) other))

-- a run has the same world, with its date and its count of events, the same records and the same end
abbrev pub CollectivesRun : Type 0
CollectivesRun = (deployed : Deployed) → HasNames deployed → (at : Scene) (first : World) →
    ForExpanded deployed (λ source other. unnumbered (run_of at first (answer_of (known_in deployed) source))
    ≡ unnumbered (run_of at first (answer_of (known_in deployed) other)))

-- and writes the same on Out
abbrev pub CollectivesWrite : Type 0
CollectivesWrite = (deployed : Deployed) → HasNames deployed → (platform : Platform) (script : Bool) (budget crew : ℕ) (show : Show) →
    ForExpanded deployed (λ source other. WriteAlike (run_output platform deployed script budget crew show source) (run_output platform deployed script budget crew show other))

-- so it is on each deployment that a text describes
abbrev pub TextsHaveNames : Type 0
TextsHaveNames = (bytes : List ℕ) (platform : Platform) (deployed : Deployed) → deployment_of bytes platform ≡ Ok deployed →
    HasNames deployed
