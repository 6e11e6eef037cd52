-- The laws of runs.
use Rattle.std.proofs.Common.{ℕ, ◌+◌}
use Rattle.sg_route.specs.Roads.{roads_of}
use Rattle.sg_kernel.specs.Start.{capacities_in, first_core}
use Rattle.sg_kernel_calls.specs.Setup.{setup_of}
use Rattle.sg_kernel_calls.specs.World.{Core}
use Rattle.sg_engine.specs.Run.{then_unless_ended}
use Rattle.sg_engine_laws.specs.awaits.Reached.{Reached, Reaches, here}
use Rattle.sg_engine_laws.proofs.await_lemmas.Reached.{ended_are_unnamed, named_are_awaited, starts_are_reached}
use Rattle.sg_engine_laws.specs.awaits.InRuns.{EndedInRunsAreUnnamed, NamedInRunsAreAwaited, RunsAreReached}
use Rattle.sg_engine_laws.specs.awaits.Runs.{Run, IsCoreOf, behind, within, last, first_in, parts_in, round_to, scene_in}
use Rattle.sg_engine_laws.proofs.await_lemmas.Rounds.{by_end, parts_come, round_to_comes, run_comes}

module _ (run : Run) where
  abbrev pub IsIn : Core → Type 0
  IsIn core = Reaches (roads_of run.platform) (setup_of run.platform run.deployed run.budget) (first_core (capacities_in run.platform) (setup_of run.platform run.deployed run.budget)) core

  pub reached_in : (core : Core) → IsIn core → Reached (roads_of run.platform) (setup_of run.platform run.deployed run.budget) core
  reached_in core way = record { capacities = capacities_in run.platform; actors = (starts_are_reached (roads_of run.platform) run.platform run.deployed run.budget).actors; way = way }

  pub parts_in_come : (parts : ℕ) → IsIn (parts_in parts run).world.core
  parts_in_come parts = parts_come (scene_in run) run.answers (first_in run).core parts (first_in run) here

  run_to_comes : (parts actors : ℕ) → IsIn (then_unless_ended (parts_in parts run) (round_to actors (scene_in run) run.answers)).world.core
  run_to_comes parts actors =
      by_end IsIn (parts_in parts run).ended (parts_in parts run) (round_to actors (scene_in run) run.answers) (parts_in_come parts)
      (round_to_comes (scene_in run) run.answers (first_in run).core actors (parts_in parts run).world (parts_in_come parts))

  comes : {core : Core} → IsCoreOf run core → IsIn core
  comes (behind parts) = parts_in_come parts
  comes (within parts actors) = run_to_comes parts actors
  comes last = run_comes (scene_in run) run.answers (first_in run).core (run.budget + 1) (first_in run) here

pub runs_are_reached : RunsAreReached
runs_are_reached run core of_run = reached_in run core (comes run of_run)

pub named_in_runs_are_awaited : NamedInRunsAreAwaited
named_in_runs_are_awaited run core of_run = named_are_awaited (roads_of run.platform) (setup_of run.platform run.deployed run.budget) core (runs_are_reached run core of_run)

pub ended_in_runs_are_unnamed : EndedInRunsAreUnnamed
ended_in_runs_are_unnamed run core of_run = ended_are_unnamed (roads_of run.platform) (setup_of run.platform run.deployed run.budget) core (runs_are_reached run core of_run)
