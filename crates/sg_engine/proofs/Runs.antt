-- What holds from the first world of a stretch of a run to its last, if each step keeps it.
use Rattle.std.proofs.Common.{◌≤◌, ◌+◌, ◌-◌, ℕ, zero, suc, Bool, true, false, cond, List, [], ◌∷◌, Option, None, Some, Result, Ok, Err, arith}
use Rattle.std.specs.Prelude.{◌&&◌, ◌==◌}
use Rattle.std.specs.Option.{option_map_or}
use Rattle.sg_activity.specs.Underway.{work_of}
use Rattle.sg_base.specs.declared.call.Action.{Action}
use Rattle.sg_base.specs.declared.call.Call.{Call}
use Rattle.sg_base.specs.declared.ids.ActorId.{ActorId}
use Rattle.sg_base.specs.Mind.{Mind}
use Rattle.sg_kernel_calls.specs.Calls.{answered}
use Rattle.sg_kernel_calls.specs.Lives.{created}
use Rattle.sg_kernel.specs.Passes.{pass_of}
use Rattle.sg_kernel_calls.specs.World.{Core, state_of}
use Rattle.sg_kernel_calls.specs.Setup.{Setup}
use Rattle.sg_script.specs.Fetched.{fetches_of, one_more}
use Rattle.sg_script.specs.declared.fault.ScriptFault.{ScriptFault}
use Rattle.sg_actor_states.specs.Actors.{is_ended}
use Rattle.sg_engine.specs.World.{World}
use Rattle.sg_engine.specs.declared.actor_call.ActorCall.{ActorCall}
use Rattle.sg_engine.specs.declared.ended.Ended.{Ended}
use Rattle.sg_engine.specs.declared.ended.Ended.TheVariants as ended
use Rattle.sg_engine.specs.Fuel.{parts_from}
use Rattle.sg_engine.specs.kept.CallList.{calls_of}
use Rattle.sg_engine.specs.Run.{Scene, Answering, Progress, at_world, then_unless_ended, and_then_by, answer_step, anyone_ready, are_completed, ask_step, call_after, calls_from, created_by, creates, if_call, if_given, in_world, inboxes, is_ask, is_given, mind_after, minds_if, one_call, other_call, round, round_or_pass, run_from, unless_killed, zip_with}

-- a relation of worlds that each step keeps
pub record Keeps (R : World → World → Type 0) : Type 0 where
  pub same : (world : World) → R world world
  pub then : (old mid new : World) → R old mid → R mid new → R old new
  pub fetches : (world : World) (actor : ℕ) → R world (record world { fetched = one_more actor world.fetched })
  pub turns : (world : World) (minds : List (Option Mind)) → R world (record world { minds = minds })
  pub begins : (world : World) (minds : List (Option Mind)) (n : ℕ) → R world (record world { minds = minds; contexts = world.contexts - n })
  pub steps : (world : World) (core : Core) → R world (record world { core = core })
  pub works : (world : World) (n : ℕ) → R world (record world { work = world.work + n })

by_test : (P : World → Type 0) (b : Bool) (x y : Progress) → P x.world → P y.world → P (cond b x y).world
by_test P true x y left right = left
by_test P false x y left right = right

by_end : (P : World → Type 0) (how : Option Ended) (first : Progress) (next : World → Progress) → P first.world → P (next first.world).world → P (and_then_by how first next).world
by_end P None first next before after = after
by_end P (Some how) first next before after = before

-- one stretch, and then another
pub then_keeps : {R : World → World → Type 0} → Keeps R → (first : Progress) (next : World → Progress) (world : World) → R world first.world → ((mid : World) → R mid (next mid).world) → R world (then_unless_ended first next).world
then_keeps {R} keeps first next world before after =
    by_end (R world) first.ended first next before (keeps.then world first.world (next first.world).world before (after first.world))

answer_keeps : {R : World → World → Type 0} → Keeps R → (setup : Setup) (actor : ℕ) (result : Result (Option Action) ScriptFault) (world : World) → R world (answer_step setup actor result world).world
answer_keeps keeps setup actor (Ok action) world = keeps.steps world _
answer_keeps keeps setup actor (Err why) world = keeps.same world

pub ask_keeps : {R : World → World → Type 0} → Keeps R → (setup : Setup) (answers : Answering) (actor : ℕ) (world : World) → R world (ask_step setup answers actor world).world
ask_keeps {R} keeps setup answers actor world =
    let next : World = record world { fetched = one_more actor world.fetched } in
    let answer = answer_step setup actor (answers actor (fetches_of world.fetched actor)) next in
    by_test (R world) (world.core.events == setup.budget) (at_world (Some ended.Budget) world) answer (keeps.same world)
    (keeps.then world next answer.world (keeps.fetches world actor) (answer_keeps keeps setup actor (answers actor (fetches_of world.fetched actor)) next))

pub creates_keep : {R : World → World → Type 0} → Keeps R → (firsts : List Mind) (budget actor : ℕ) (target : ActorId) (world : World) → R world (creates firsts budget actor target world).world
creates_keep {R} keeps firsts budget actor target world =
    let given = is_given target world in
    let next : World = if_given given firsts target.0 world in
    let step = in_world next (created given actor target world.core) in
    by_test (R world) (world.core.events == budget) (at_world (Some ended.Budget) world) step (keeps.same world)
    (keeps.then world next step.world (keeps.begins world (minds_if given firsts target.0 world.minds) (cond given 1 0)) (keeps.steps next _))

other_keeps : {R : World → World → Type 0} → Keeps R → (at : Scene) (answers : Answering) (actor : ℕ) (what : Call) (world : World) → R world (other_call at answers actor what world).world
other_keeps {R} keeps at answers actor what world =
    by_test (R world) (at.script && is_ask what) (ask_step at.setup answers actor world) (in_world world (answered at.roads at.setup world.core actor what)) (ask_keeps keeps at.setup answers actor world) (keeps.steps world _)

by_created : {R : World → World → Type 0} → Keeps R → (o : Option ActorId) (at : Scene) (answers : Answering) (actor : ℕ) (what : Call) (world : World) →
    R world (option_map_or (λ target. creates at.firsts at.setup.budget actor target world) o (other_call at answers actor what world)).world
by_created keeps None at answers actor what world = other_keeps keeps at answers actor what world
by_created keeps (Some target) at answers actor what world = creates_keep keeps at.firsts at.setup.budget actor target world

pub call_keeps : {R : World → World → Type 0} → Keeps R → (at : Scene) (answers : Answering) (actor : ℕ) (what : Call) (world : World) → R world (unless_killed at answers actor what world).world
call_keeps {R} keeps at answers actor what world =
    by_test (R world) (is_ended (state_of world.core actor)) (at_world None world) (one_call at answers actor what world) (keeps.same world) (by_created keeps (created_by what) at answers actor what world)

option_keeps : {R : World → World → Type 0} → Keeps R → (at : Scene) (answers : Answering) (actor : ℕ) (what : Option Call) (world : World) → R world (if_call at answers actor what world).world
option_keeps keeps at answers actor None world = keeps.same world
option_keeps keeps at answers actor (Some what) world = call_keeps keeps at answers actor what world

calls_keep : {R : World → World → Type 0} → Keeps R → (at : Scene) (answers : Answering) (actor : ℕ) (calls : List (Option Call)) (world : World) → R world (calls_from at answers actor calls world).world
unfolding calls_from
calls_keep keeps at answers actor [] world = keeps.same world
calls_keep keeps at answers actor (what ∷ rest) world =
    then_keeps keeps (if_call at answers actor what world) (calls_from at answers (actor + 1) rest) world (option_keeps keeps at answers actor what world) (λ mid. calls_keep keeps at answers (actor + 1) rest mid)

made_keep : {R : World → World → Type 0} → Keeps R → (at : Scene) (answers : Answering) (calls : List ActorCall) (world : World) → R world (calls_of at answers calls world).world
unfolding calls_of
made_keep keeps at answers [] world = keeps.same world
made_keep keeps at answers (made ∷ rest) world =
    then_keeps keeps (unless_killed at answers made.actor.0 made.call world) (calls_of at answers rest) world (call_keeps keeps at answers made.actor.0 made.call world) (λ mid. made_keep keeps at answers rest mid)

-- from after one call on
pub calls_keep_behind : {R : World → World → Type 0} → Keeps R → (first : Progress) (at : Scene) (answers : Answering) (calls : List ActorCall) → R first.world (then_unless_ended first (calls_of at answers calls)).world
calls_keep_behind keeps first at answers calls = then_keeps keeps first (calls_of at answers calls) first.world (keeps.same first.world) (λ mid. made_keep keeps at answers calls mid)

round_keeps : {R : World → World → Type 0} → Keeps R → (at : Scene) (answers : Answering) (world : World) → R world (round at answers world).world
round_keeps keeps at answers world =
    let next : World = record world { minds = zip_with mind_after world.minds (inboxes world.core) } in
    keeps.then world next (round at answers world).world (keeps.turns world (zip_with mind_after world.minds (inboxes world.core)))
    (calls_keep keeps at answers 1 (zip_with call_after world.minds (inboxes world.core)) next)

pub part_keeps : {R : World → World → Type 0} → Keeps R → (at : Scene) (answers : Answering) (world : World) → R world (round_or_pass at answers world).world
part_keeps {R} keeps at answers world =
    let next : World = record world { work = world.work + work_of world.core.under } in
    let pass = in_world next (pass_of at.setup world.core) in
    by_test (R world) (anyone_ready world.core) (round at answers world) pass (round_keeps keeps at answers world)
    (keeps.then world next pass.world (keeps.works world (work_of world.core.under)) (keeps.steps next _))

pub run_keeps : {R : World → World → Type 0} → Keeps R → (n : ℕ) (at : Scene) (answers : Answering) (world : World) → R world (run_from n at answers world).world
unfolding run_from
run_keeps keeps zero at answers world = keeps.same world
run_keeps {R} keeps (suc n) at answers world =
    by_test (R world) (are_completed world.core) (at_world (Some ended.Completed) world) (then_unless_ended (round_or_pass at answers world) (run_from n at answers)) (keeps.same world)
    (then_keeps keeps (round_or_pass at answers world) (run_from n at answers) world (part_keeps keeps at answers world) (λ mid. run_keeps keeps n at answers mid))

pub parts_keep : {R : World → World → Type 0} → Keeps R → (n : ℕ) (at : Scene) (answers : Answering) (world : World) → R world (parts_from n at answers world).world
unfolding parts_from
parts_keep keeps zero at answers world = keeps.same world
parts_keep {R} keeps (suc n) at answers world =
    by_test (R world) (are_completed world.core) (at_world (Some ended.Completed) world) (then_unless_ended (round_or_pass at answers world) (parts_from n at answers)) (keeps.same world)
    (then_keeps keeps (round_or_pass at answers world) (parts_from n at answers) world (part_keeps keeps at answers world) (λ mid. parts_keep keeps n at answers mid))

-- from after one part on
pub run_keeps_behind : {R : World → World → Type 0} → Keeps R → (n : ℕ) (first : Progress) (at : Scene) (answers : Answering) → R first.world (then_unless_ended first (run_from n at answers)).world
run_keeps_behind keeps n first at answers = then_keeps keeps first (run_from n at answers) first.world (keeps.same first.world) (λ mid. run_keeps keeps n at answers mid)

-- ---- no context is given back
abbrev pub LeavesNoMore : World → World → Type 0
LeavesNoMore old new = new.contexts ≤ old.contexts

pub contexts_fall : Keeps LeavesNoMore
contexts_fall = record {
  same = λ world. omega arith;
  then = λ old mid new first second. omega (arith, first, second);
  fetches = λ world actor. omega arith;
  turns = λ world minds. omega arith;
  begins = λ world minds n. omega arith;
  steps = λ world core. omega arith;
  works = λ world n. omega arith;
}
