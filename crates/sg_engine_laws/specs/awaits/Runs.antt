-- The cores of a run.
use Rattle.std.specs.Prelude.{◌≡◌, ◌≤◌, ℕ, ◌+◌, Bool, false, IsTrue, Option, None, Some, List, take, slice_index_or}
use Rattle.sg_base.specs.declared.call.Call.{Call}
use Rattle.sg_base.specs.declared.call.Call.TheVariants as call
use Rattle.sg_base.specs.declared.ids.ActorId.{ActorId}
use Rattle.sg_engine.specs.Fuel.{parts_from}
use Rattle.sg_engine.specs.Output.{first_of, scene_of}
use Rattle.sg_engine.specs.Run.{Answering, Progress, Scene, then_unless_ended, call_after, calls_from, inboxes, mind_after, run_of, zip_with}
use Rattle.sg_engine.specs.World.{World}
use Rattle.sg_kernel_calls.specs.World.{Core, IsActor, state_of}
use Rattle.sg_platform_rows.specs.Deployment.{Deployed}
use Rattle.sg_platform_rows.specs.Platform.{Platform}
use Rattle.sg_actor_states.specs.Actors.{is_alive, is_ended}

-- what a run is made of: a platform and a deployment, whether there is a script, so many events at most, so many contexts, and what the script answers
pub record Run : Type 0 where
  pub platform : Platform
  pub deployed : Deployed
  pub script : Bool
  pub budget : ℕ
  pub crew : ℕ
  pub answers : Answering

abbrev pub scene_in : Run → Scene
scene_in run = scene_of run.platform run.deployed run.script run.budget

abbrev pub first_in : Run → World
first_in run = first_of run.platform run.deployed run.budget run.crew

-- the whole run
abbrev pub whole : Run → Progress
whole run = run_of (scene_in run) (first_in run) run.answers

-- so many scheduling rounds and time advances of it
abbrev pub parts_in : ℕ → Run → Progress
parts_in parts run = parts_from parts (scene_in run) run.answers (first_in run)

-- the calls of a scheduling round: of each actor its own, if it takes a turn
abbrev pub calls_in : World → List (Option Call)
calls_in world = zip_with call_after world.minds (inboxes world.core)

-- a scheduling round as far as so many actors; if no actor is ready, none calls
abbrev pub round_to : ℕ → Scene → Answering → World → Progress
round_to actors at answers world = calls_from at answers 1 (take actors (calls_in world)) (record world { minds = zip_with mind_after world.minds (inboxes world.core) })

-- a run as far as so many scheduling rounds and time advances, and so many actors of the scheduling round after them
abbrev pub run_to : ℕ → ℕ → Run → Progress
run_to parts actors run = then_unless_ended (parts_in parts run) (round_to actors (scene_in run) run.answers)

-- a core of the run: after so many parts, within the scheduling round after them, or at its end
pub data IsCoreOf (run : Run) : Core → Type 0 where
  behind : (parts : ℕ) → IsCoreOf run (parts_in parts run).world.core
  within : (parts actors : ℕ) → IsCoreOf run (run_to parts actors run).world.core
  last : IsCoreOf run (whole run).world.core

-- The actor that is next there calls for the kill of one that is alive, and is answered: it wasn't killed itself, and the run doesn't end.
pub record KillsAt (run : Run) (parts actors : ℕ) (target : ActorId) : Type 0 where
  pub calls : slice_index_or (calls_in (parts_in parts run).world) actors None ≡ Some (call.Kill target)
  pub caller : is_ended (state_of (run_to parts actors run).world.core (actors + 1)) ≡ false
  pub exists : IsActor (run_to parts actors run).world.core target.0
  pub alive : IsTrue (is_alive (state_of (run_to parts actors run).world.core target.0))
  pub goes_on : (run_to parts (actors + 1) run).ended ≡ None

-- a core of the run from there on: in that scheduling round, after it, or at the end of the run, of which it is a part
pub data IsLaterCore (run : Run) (parts actors : ℕ) : Core → Type 0 where
  in_round : (more : ℕ) → IsLaterCore run parts actors (run_to parts (actors + more) run).world.core
  behind_round : (more others : ℕ) → IsLaterCore run parts actors (run_to (parts + 1 + more) others run).world.core
  at_end : parts ≤ run.budget → IsLaterCore run parts actors (whole run).world.core
