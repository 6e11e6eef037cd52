-- What holds between the cores before and after each call and each time advance, with the records that they make, holds along runs.
use Rattle.std.proofs.Common.{ℕ, zero, suc, ◌+◌, ◌==◌, ◌&&◌, Bool, true, false, cond, List, [], ◌∷◌, take, Option, None, Some, Result, Ok, Err, refl}
use Rattle.std.specs.Option.{option_map_or}
use Rattle.sg_base.specs.declared.call.Action.{Action}
use Rattle.sg_base.specs.declared.call.Call.{Call}
use Rattle.sg_base.specs.declared.ids.ActorId.{ActorId}
use Rattle.sg_base.specs.declared.trace_record.Record.{Record}
use Rattle.sg_activity.specs.Underway.{work_of}
use Rattle.sg_actor_states.specs.Actors.{is_ended}
use Rattle.sg_kernel_calls.specs.Calls.{answered}
use Rattle.sg_kernel_calls.specs.Lives.{created}
use Rattle.sg_kernel.specs.Passes.{pass_of}
use Rattle.sg_kernel_calls.specs.World.{Core, state_of}
use Rattle.sg_script.specs.Fetched.{fetches_of, one_more}
use Rattle.sg_script.specs.declared.fault.ScriptFault.{ScriptFault}
use Rattle.sg_engine.specs.World.{World}
use Rattle.sg_engine.specs.declared.ended.Ended.{Ended}
use Rattle.sg_engine.specs.declared.ended.Ended.TheVariants as ended
use Rattle.sg_engine.specs.Fuel.{parts_from}
use Rattle.sg_engine.specs.Run.{Scene, Answering, Progress, then_unless_ended, and_then_by, answer_step, anyone_ready, are_completed, ask_step, at_world, calls_from, created_by, creates, ended_at, if_call, if_given, in_world, inboxes, is_ask, is_given, mind_after, one_call, other_call, round, round_or_pass, run_from, zip_with}
use Rattle.sg_engine_laws.specs.awaits.Runs.{calls_in, round_to}
use Rattle.sg_kernel_laws.proofs.failure_lemmas.Between.{Calling, answered_so, created_so, pass_so, told_so}

module _ (at : Scene) (answers : Answering) (R : Core → Core → List Record → Type 0) (c : Calling R) where
  abbrev pub Goes : Core → Progress → Type 0
  Goes core p = R core p.world.core p.made

  here : (how : Option Ended) (world : World) → Goes world.core (at_world how world)
  here how world = c.between.still world.core world.core refl

  either : (core : Core) (b : Bool) (x y : Progress) → Goes core x → Goes core y → Goes core (cond b x y)
  either core true x y one other = one
  either core false x y one other = other

  pub then_goes : (core : Core) (first : Progress) (next : World → Progress) → Goes core first → Goes first.world.core (next first.world) → Goes core (then_unless_ended first next)
  then_goes core first next one more = by first.ended
    where
      by : (how : Option Ended) → Goes core (and_then_by how first next)
      by None = c.between.next core first.world.core (next first.world).world.core first.made (next first.world).made one more
      by (Some how) = one

  answer_goes : (found : Result (Option Action) ScriptFault) (actor : ℕ) (world : World) → Goes world.core (answer_step at.setup actor found world)
  answer_goes (Ok action) actor world = told_so R c at.setup world.core actor action
  answer_goes (Err why) actor world = here (Some (ended_at why)) world

  ask_goes : (actor : ℕ) (world : World) → Goes world.core (ask_step at.setup answers actor world)
  ask_goes actor world =
      let next : World = record world { fetched = one_more actor world.fetched } in
      let said = answers actor (fetches_of world.fetched actor) in
      either world.core (world.core.events == at.setup.budget) (at_world (Some ended.Budget) world) (answer_step at.setup actor said next) (here (Some ended.Budget) world) (answer_goes said actor next)

  create_goes : (actor : ℕ) (target : ActorId) (world : World) → Goes world.core (creates at.firsts at.setup.budget actor target world)
  create_goes actor target world =
      let given = is_given target world in
      either world.core (world.core.events == at.setup.budget) (at_world (Some ended.Budget) world) (in_world (if_given given at.firsts target.0 world) (created given actor target world.core)) (here (Some ended.Budget) world)
      (created_so R c given actor target world.core)

  other_goes : (actor : ℕ) (what : Call) (world : World) → Goes world.core (other_call at answers actor what world)
  other_goes actor what world =
      either world.core (at.script && is_ask what) (ask_step at.setup answers actor world) (in_world world (answered at.roads at.setup world.core actor what)) (ask_goes actor world) (answered_so R c at.roads at.setup world.core actor what)

  one_goes : (actor : ℕ) (what : Call) (world : World) → Goes world.core (one_call at answers actor what world)
  one_goes actor what world = by (created_by what)
    where
      by : (o : Option ActorId) → Goes world.core (option_map_or (λ target. creates at.firsts at.setup.budget actor target world) o (other_call at answers actor what world))
      by None = other_goes actor what world
      by (Some target) = create_goes actor target world

  call_goes : (actor : ℕ) (what : Option Call) (world : World) → Goes world.core (if_call at answers actor what world)
  call_goes actor None world = here None world
  call_goes actor (Some what) world = either world.core (is_ended (state_of world.core actor)) (at_world None world) (one_call at answers actor what world) (here None world) (one_goes actor what world)

  calls_go : (actor : ℕ) (calls : List (Option Call)) (world : World) → Goes world.core (calls_from at answers actor calls world)
  unfolding calls_from
  calls_go actor [] world = here None world
  calls_go actor (what ∷ rest) world =
      let first = if_call at answers actor what world in
      then_goes world.core first (calls_from at answers (actor + 1) rest) (call_goes actor what world) (calls_go (actor + 1) rest first.world)

  -- ---- scheduling rounds and time advances
  pub round_to_goes : (n : ℕ) (world : World) → Goes world.core (round_to n at answers world)
  round_to_goes n world = calls_go 1 (take n (calls_in world)) (record world { minds = zip_with mind_after world.minds (inboxes world.core) })

  part_goes : (world : World) → Goes world.core (round_or_pass at answers world)
  part_goes world =
      either world.core (anyone_ready world.core) (round at answers world) (in_world (record world { work = world.work + work_of world.core.under }) (pass_of at.setup world.core))
      (calls_go 1 (calls_in world) (record world { minds = zip_with mind_after world.minds (inboxes world.core) })) (pass_so R c.between at.setup world.core)

  pub parts_go : (n : ℕ) (world : World) → Goes world.core (parts_from n at answers world)
  unfolding parts_from
  parts_go zero world = here None world
  parts_go (suc n) world =
      let first = round_or_pass at answers world in
      either world.core (are_completed world.core) (at_world (Some ended.Completed) world) (then_unless_ended first (parts_from n at answers)) (here (Some ended.Completed) world)
      (then_goes world.core first (parts_from n at answers) (part_goes world) (parts_go n first.world))

  pub run_goes : (n : ℕ) (world : World) → Goes world.core (run_from n at answers world)
  unfolding run_from
  run_goes zero world = here (Some ended.Budget) world
  run_goes (suc n) world =
      let first = round_or_pass at answers world in
      either world.core (are_completed world.core) (at_world (Some ended.Completed) world) (then_unless_ended first (run_from n at answers)) (here (Some ended.Completed) world)
      (then_goes world.core first (run_from n at answers) (part_goes world) (run_goes n first.world))
