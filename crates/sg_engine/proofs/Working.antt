-- The work of a run never falls.
use Rattle.std.proofs.Common.{◌≡◌, ◌≤◌, ◌+◌, ◌∙◌, arith, sym, refl, add-zero, ℕ, zero, suc, Bool, true, false, cond, List, [], ◌∷◌, Option, None, Some, Result, Ok, Err}
use Rattle.std.specs.Prelude.{◌&&◌, ◌==◌}
use Rattle.std.specs.Option.{option_map_or}
use Rattle.sg_base.specs.declared.call.Action.{Action}
use Rattle.sg_base.specs.declared.call.Call.{Call}
use Rattle.sg_base.specs.declared.ids.ActorId.{ActorId}
use Rattle.sg_base.specs.Mind.{Mind}
use Rattle.sg_activity.specs.Underway.{work_of}
use Rattle.sg_kernel_calls.specs.Calls.{answered}
use Rattle.sg_kernel_calls.specs.Lives.{created}
use Rattle.sg_kernel.specs.Passes.{pass_of}
use Rattle.sg_kernel_calls.specs.Setup.{Setup}
use Rattle.sg_kernel_calls.specs.World.{state_of}
use Rattle.sg_actor_states.specs.Actors.{is_ended}
use Rattle.sg_script.specs.Fetched.{fetches_of, one_more}
use Rattle.sg_script.specs.declared.fault.ScriptFault.{ScriptFault}
use Rattle.sg_engine.specs.World.{World}
use Rattle.sg_engine.specs.declared.ended.Ended.{Ended}
use Rattle.sg_engine.specs.declared.ended.Ended.TheVariants as ended
use Rattle.sg_engine.specs.Run.{Scene, Answering, Progress, at_world, then_unless_ended, and_then_by, answer_step, anyone_ready, are_completed, ask_step, call_after, calls_from, created_by, creates, if_call, if_given, in_world, inboxes, is_ask, is_given, mind_after, one_call, other_call, round, round_or_pass, run_from, work_behind, zip_with}

-- ---- calls leave the work as it is
work_by : (b : Bool) (x y : Progress) (n : ℕ) → x.world.work ≡ n → y.world.work ≡ n → (cond b x y).world.work ≡ n
work_by true x y n left right = left
work_by false x y n left right = right

work_then : (how : Option Ended) (first : Progress) (next : World → Progress) (n : ℕ) → first.world.work ≡ n → (next first.world).world.work ≡ n → (and_then_by how first next).world.work ≡ n
work_then None first next n before after = after
work_then (Some how) first next n before after = before

answer_work : (setup : Setup) (actor : ℕ) (result : Result (Option Action) ScriptFault) (world : World) → (answer_step setup actor result world).world.work ≡ world.work
answer_work setup actor (Ok action) world = refl
answer_work setup actor (Err why) world = refl

ask_work : (setup : Setup) (answers : Answering) (actor : ℕ) (world : World) → (ask_step setup answers actor world).world.work ≡ world.work
ask_work setup answers actor world =
    let next : World = record world { fetched = one_more actor world.fetched } in
    work_by (world.core.events == setup.budget) (at_world (Some ended.Budget) world) (answer_step setup actor (answers actor (fetches_of world.fetched actor)) next) world.work refl (answer_work setup actor (answers actor (fetches_of world.fetched actor)) next)

creates_work : (firsts : List Mind) (budget actor : ℕ) (target : ActorId) (world : World) → (creates firsts budget actor target world).world.work ≡ world.work
creates_work firsts budget actor target world =
    let given = is_given target world in
    work_by (world.core.events == budget) (at_world (Some ended.Budget) world) (in_world (if_given given firsts target.0 world) (created given actor target world.core)) world.work refl refl

other_work : (at : Scene) (answers : Answering) (actor : ℕ) (what : Call) (world : World) → (other_call at answers actor what world).world.work ≡ world.work
other_work at answers actor what world =
    work_by (at.script && is_ask what) (ask_step at.setup answers actor world) (in_world world (answered at.roads at.setup world.core actor what)) world.work (ask_work at.setup answers actor world) refl

created_work : (o : Option ActorId) (at : Scene) (answers : Answering) (actor : ℕ) (what : Call) (world : World) →
    (option_map_or (λ target. creates at.firsts at.setup.budget actor target world) o (other_call at answers actor what world)).world.work ≡ world.work
created_work None at answers actor what world = other_work at answers actor what world
created_work (Some target) at answers actor what world = creates_work at.firsts at.setup.budget actor target world

call_work : (at : Scene) (answers : Answering) (actor : ℕ) (what : Option Call) (world : World) → (if_call at answers actor what world).world.work ≡ world.work
call_work at answers actor None world = refl
call_work at answers actor (Some what) world =
    work_by (is_ended (state_of world.core actor)) (at_world None world) (one_call at answers actor what world) world.work refl (created_work (created_by what) at answers actor what world)

calls_work : (at : Scene) (answers : Answering) (actor : ℕ) (calls : List (Option Call)) (world : World) → (calls_from at answers actor calls world).world.work ≡ world.work
unfolding calls_from
calls_work at answers actor [] world = refl
calls_work at answers actor (what ∷ rest) world =
    let first = if_call at answers actor what world in
    let here = call_work at answers actor what world in
    work_then first.ended first (calls_from at answers (actor + 1) rest) world.work here (calls_work at answers (actor + 1) rest first.world ∙ here)

round_work : (at : Scene) (answers : Answering) (world : World) → (round at answers world).world.work ≡ world.work
round_work at answers world = calls_work at answers 1 (zip_with call_after world.minds (inboxes world.core)) (record world { minds = zip_with mind_after world.minds (inboxes world.core) })

-- ---- a time advance adds what its rates may take
part_by : (b : Bool) (at : Scene) (answers : Answering) (world : World) →
    (cond b (round at answers world) (in_world (record world { work = world.work + work_of world.core.under }) (pass_of at.setup world.core))).world.work ≡ world.work + cond b 0 (work_of world.core.under)
part_by true at answers world = round_work at answers world ∙ sym (add-zero world.work)
part_by false at answers world = refl

part_work : (at : Scene) (answers : Answering) (world : World) → (round_or_pass at answers world).world.work ≡ work_behind world
part_work at answers world = part_by (anyone_ready world.core) at answers world

-- ---- and so it never falls
rises_by : (b : Bool) (x y : Progress) (n : ℕ) → n ≤ x.world.work → n ≤ y.world.work → n ≤ (cond b x y).world.work
rises_by true x y n left right = left
rises_by false x y n left right = right

rises_then : (how : Option Ended) (first : Progress) (next : World → Progress) (n : ℕ) → n ≤ first.world.work → n ≤ (next first.world).world.work → n ≤ (and_then_by how first next).world.work
rises_then None first next n before after = after
rises_then (Some how) first next n before after = before

run_rises : (n : ℕ) (at : Scene) (answers : Answering) (world : World) → world.work ≤ (run_from n at answers world).world.work
unfolding run_from
run_rises zero at answers world = omega arith
run_rises (suc n) at answers world =
    let first = round_or_pass at answers world in
    let here : first.world.work ≡ work_behind world = part_work at answers world in
    rises_by (are_completed world.core) (at_world (Some ended.Completed) world) (then_unless_ended first (run_from n at answers)) world.work (omega arith)
    (rises_then first.ended first (run_from n at answers) world.work (omega (arith, here)) (omega (arith, here, run_rises n at answers first.world)))

-- a run has at least the work of the part with which it begins
pub run_rises_behind : (n : ℕ) (at : Scene) (answers : Answering) (world : World) → work_behind world ≤ (then_unless_ended (round_or_pass at answers world) (run_from n at answers)).world.work
run_rises_behind n at answers world =
    let first = round_or_pass at answers world in
    let here : first.world.work ≡ work_behind world = part_work at answers world in
    rises_then first.ended first (run_from n at answers) (work_behind world) (omega (arith, here)) (omega (arith, here, run_rises n at answers first.world))
