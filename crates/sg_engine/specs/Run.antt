-- A run, for any number of hosts and actors: scheduling rounds until no actor is ready, then a time advance, with the
-- entries of profiles of its date, and again, until it ends.
use Rattle.std.specs.Prelude.{ℕ, zero, suc, ◌+◌, ◌-◌, ◌==◌, nat_lt, Option, None, Some, option_map, Result, Ok, Err, Bool, true, false, ◌&&◌, if◌then◌else◌, List, [], ◌∷◌, ◌++◌, map, slice_get, slice_set}
use Rattle.std.specs.List.{list_any, list_all, zip}
use Rattle.std.specs.Option.{option_map_or}
use Rattle.sg_base.specs.declared.call.Action.{Action}
use Rattle.sg_base.specs.declared.call.Answer.{Answer}
use Rattle.sg_base.specs.declared.call.Call.{Call}
use Rattle.sg_base.specs.declared.call.Call.TheVariants as call
use Rattle.sg_base.specs.declared.ids.ActorId.{ActorId}
use Rattle.sg_base.specs.declared.trace_record.Record.{Record}
use Rattle.sg_base.specs.Mind.{Mind}
use Rattle.sg_base.specs.Turn.{turn}
use Rattle.sg_activity.specs.Links.{Capacities}
use Rattle.sg_activity.specs.Underway.{work_of}
use Rattle.sg_kernel_calls.specs.declared.stop.Stop.{Stop}
use Rattle.sg_kernel_calls.specs.declared.stop.Stop.TheVariants as stop
use Rattle.sg_kernel_calls.specs.Setup.{Setup}
use Rattle.sg_kernel_calls.specs.World.{Core, state_of}
use Rattle.sg_actor_states.specs.Actors.{inbox_of, is_ended, is_over, is_ready, is_unstarted}
use Rattle.sg_engine.specs.World.{World}
use Rattle.sg_kernel_calls.specs.Calls.{answered, told}
use Rattle.sg_kernel_calls.specs.Lives.{created}
use Rattle.sg_kernel.specs.Start.{first_core}
use Rattle.sg_kernel_calls.specs.Steps.{Step}
use Rattle.sg_route.specs.Roads.{Roads}
use Rattle.sg_kernel.specs.Passes.{pass_of}
use Rattle.sg_script.specs.declared.fault.ScriptFault.{ScriptFault}
use Rattle.sg_script.specs.declared.fault.ScriptFault.TheVariants as fault
use Rattle.sg_script.specs.Fetched.{fetches_of, one_more}
use Rattle.sg_engine.specs.declared.ended.Ended.{Ended}
use Rattle.sg_engine.specs.declared.ended.Ended.TheVariants as ended

-- what a run is of: what is simulated, the routes between hosts, the mind with which each actor begins, and whether there is a script
pub record Scene : Type 0 where
  pub setup : Setup
  pub roads : Roads
  pub firsts : List Mind
  pub script : Bool

-- a run of these routes and this setup, by the actors' first minds, with or without a script
abbrev pub scene : Roads → Setup → List Mind → Bool → Scene
scene roads setup firsts script = record { setup = setup; roads = roads; firsts = firsts; script = script }

-- what the script answers to an actor's fetch after so many of its fetches
abbrev pub Answering : Type 0
Answering = ℕ → ℕ → Result (Option Action) ScriptFault

-- what a stretch of a run leads to: the world, the records that it made, and how the run ended, if it did
pub record Progress : Type 0 where
  pub world : World
  pub made : List Record
  pub ended : Option Ended

-- nothing was made, and the run continues or has ended so
abbrev pub at_world : Option Ended → World → Progress
at_world how world = record { world = world; made = []; ended = how }

-- the progress, with earlier records ahead of its own
abbrev pub with_front : List Record → Progress → Progress
with_front front progress = record progress { made = front ++ progress.made }

-- the next stretch after a first one, unless that has ended the run
abbrev pub and_then_by : Option Ended → Progress → (World → Progress) → Progress
and_then_by None first next = with_front first.made (next first.world)
and_then_by (Some how) first next = first

-- one stretch, and then the next if the first didn't end the run
abbrev pub then_unless_ended : Progress → (World → Progress) → Progress
then_unless_ended first next = and_then_by first.ended first next

-- how a run ends for each reason for which the kernel stops
abbrev pub ended_by : Stop → Ended
ended_by stop.Budget = ended.Budget
ended_by (stop.NoRoute from to zone a b) = ended.NoRoute from to zone a b
ended_by (stop.TooLong from to) = ended.TooLong from to
ended_by stop.Deadlock = ended.Deadlock
ended_by stop.Starved = ended.Starved

-- a step of the kernel, in the world
abbrev pub in_world : World → Step → Progress
in_world world step = record { world = record world { core = step.core }; made = step.made; ended = option_map ended_by step.stop }

-- a function applied to two lists item by item, to the end of the shorter one
abbrev pub zip_with : {X Y Z : Type 0} → (X → Y → Z) → List X → List Y → List Z
zip_with f xs ys = map (λ p. f p.0 p.1) (zip xs ys)

-- ---- what a run asks of the actors
-- an actor is ready that has an answer and isn't suspended
abbrev pub anyone_ready : Core → Bool
anyone_ready core = list_any is_ready core.actors

-- all have ended that began
abbrev pub are_completed : Core → Bool
are_completed core = list_all is_over core.actors

-- the answer of each actor that is ready
abbrev pub inboxes : Core → List (Option Answer)
inboxes core = map inbox_of core.actors

-- ---- a scheduling round
-- an actor that has an answer takes its turn; the others keep their minds
abbrev pub mind_after : Option Mind → Option Answer → Option Mind
mind_after held None = held
mind_after held (Some answer) = option_map (λ mind. (turn mind answer).mind) held

-- the call of an actor's turn; none: it takes no turn
abbrev pub call_after : Option Mind → Option Answer → Option Call
call_after held None = None
call_after held (Some answer) = option_map (λ mind. (turn mind answer).call) held

-- how a bad line or a read fault ends the run
abbrev pub ended_at : ScriptFault → Ended
ended_at (fault.Line number kind) = ended.Script number kind
ended_at fault.Read = ended.ReadFault
ended_at fault.Memory = ended.Memory

-- an actor's fetch gets the script's answer, or the fault of the script ends the run
abbrev pub answer_step : Setup → ℕ → Result (Option Action) ScriptFault → World → Progress
answer_step setup actor (Ok action) world = in_world world (told setup world.core actor action)
answer_step setup actor (Err why) world = at_world (Some (ended_at why)) world

-- A fetch has the script's answer, or ends the run; an event is next, so that the budget is tested first.
abbrev pub ask_step : Setup → Answering → ℕ → World → Progress
ask_step setup answers actor world =
    if world.core.events == setup.budget then at_world (Some ended.Budget) world
    else answer_step setup actor (answers actor (fetches_of world.fetched actor)) (record world { fetched = one_more actor world.fetched })

-- whether a call fetches the next line of the script
abbrev pub is_ask : Call → Bool
is_ask call.Ask = true
is_ask other = false

-- the actor that a call creates
abbrev pub created_by : Call → Option ActorId
created_by (call.Create target) = Some target
created_by other = None

-- a create is given if its actor has never begun and a context is left
abbrev pub is_given : ActorId → World → Bool
is_given target world = is_unstarted (state_of world.core target.0) && nat_lt 0 world.contexts

-- the minds of all actors, where a created actor has its first one if its start is granted
abbrev pub minds_if : Bool → List Mind → ℕ → List (Option Mind) → List (Option Mind)
minds_if given firsts actor minds = if given then slice_set minds (actor - 1) (slice_get firsts (actor - 1)) else minds

-- the actor takes its first mind and a context, if it is given its beginning
abbrev pub if_given : Bool → List Mind → ℕ → World → World
if_given given firsts actor world = record world { minds = minds_if given firsts actor world.minds; contexts = world.contexts - (if given then 1 else 0) }

-- A create: the actor that it names begins if it is given, and the call is refused else; an event is next, so that the
-- budget is tested first.
abbrev pub creates : List Mind → ℕ → ℕ → ActorId → World → Progress
creates firsts budget actor target world =
    if world.core.events == budget then at_world (Some ended.Budget) world
    else in_world (if_given (is_given target world) firsts target.0 world) (created (is_given target world) actor target world.core)

-- a script, if there is one, answers a fetch; the kernel answers any other call
abbrev pub other_call : Scene → Answering → ℕ → Call → World → Progress
other_call at answers actor what world = if at.script && is_ask what then ask_step at.setup answers actor world else in_world world (answered at.roads at.setup world.core actor what)

-- the call of an actor: a create may start another actor, any other goes to script or kernel
abbrev pub one_call : Scene → Answering → ℕ → Call → World → Progress
one_call at answers actor what world = option_map_or (λ target. creates at.firsts at.setup.budget actor target world) (created_by what) (other_call at answers actor what world)

-- the call of an actor that was killed in this scheduling round isn't answered
abbrev pub unless_killed : Scene → Answering → ℕ → Call → World → Progress
unless_killed at answers actor what world = if is_ended (state_of world.core actor) then at_world None world else one_call at answers actor what world

-- the call of an actor in this scheduling round is answered, if it made one
abbrev pub if_call : Scene → Answering → ℕ → Option Call → World → Progress
if_call at answers actor None world = at_world None world
if_call at answers actor (Some what) world = unless_killed at answers actor what world

-- the calls are answered in rising id, from this actor on
unfoldable pub calls_from : Scene → Answering → ℕ → List (Option Call) → World → Progress
calls_from at answers actor [] world = at_world None world
calls_from at answers actor (what ∷ rest) world = then_unless_ended (if_call at answers actor what world) (calls_from at answers (actor + 1) rest)

-- all ready actors take their turn on the answers that stand, and then their calls are answered
abbrev pub round : Scene → Answering → World → Progress
round at answers world =
    calls_from at answers 1 (zip_with call_after world.minds (inboxes world.core)) (record world { minds = zip_with mind_after world.minds (inboxes world.core) })

-- ---- scheduling rounds and time advances
-- the work of what comes next: of a time advance, if no actor is ready, the visits that its rates may take
abbrev pub next_work : Core → ℕ
next_work core = if anyone_ready core then 0 else work_of core.under

-- the work with it
abbrev pub work_behind : World → ℕ
work_behind world = world.work + next_work world.core

-- a scheduling round if an actor is ready, else a time advance, whose work is counted
abbrev pub round_or_pass : Scene → Answering → World → Progress
round_or_pass at answers world =
    if anyone_ready world.core then round at answers world
    else in_world (record world { work = world.work + work_of world.core.under }) (pass_of at.setup world.core)

-- So many scheduling rounds and time advances. Each has an event at least (a call, an entry of a profile, the end of a
-- phase) or ends the run, so that one more than the budget is enough.
unfoldable pub run_from : ℕ → Scene → Answering → World → Progress
run_from zero at answers world = at_world (Some ended.Budget) world
run_from (suc n) at answers world =
    if are_completed world.core then at_world (Some ended.Completed) world
    else then_unless_ended (round_or_pass at answers world) (run_from n at answers)

-- ---- the whole run
-- at first the actors have this in mind, and those that start are ready with the answer Start; so many contexts are left
abbrev pub first_world : List (Option Mind) → ℕ → Capacities → Setup → World
first_world minds contexts capacities setup = record { minds = minds; fetched = []; contexts = contexts; core = first_core capacities setup; work = 0 }

-- from this world on
abbrev pub run_of : Scene → World → Answering → Progress
run_of at first answers = run_from (at.setup.budget + 1) at answers first
