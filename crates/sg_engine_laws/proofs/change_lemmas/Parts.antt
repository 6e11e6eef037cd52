-- What each call keeps is kept by each scheduling round, and what each time advance keeps too by each run; the same
-- holds of what records say.
use Rattle.std.proofs.Common.{◌≡◌, ℕ, zero, suc, ◌+◌, ◌==◌, ◌&&◌, Bool, true, false, cond, IsTrue, List, [], ◌∷◌, take, Option, None, Some, Result, Ok, Err, refl}
use Rattle.std.specs.Prelude.{nat_lt}
use Rattle.std.specs.List.{All}
use Rattle.std.specs.Option.{option_map_or}
use Rattle.std.proofs.lemmas.Bool.{and_parts}
use Rattle.std.proofs.lemmas.List.Elements.{All-nil, All-append}
use Rattle.sg_base.specs.declared.call.Action.{Action}
use Rattle.sg_base.specs.declared.call.Call.{Call}
use Rattle.sg_base.specs.declared.ids.ActorId.{ActorId}
use Rattle.sg_base.specs.declared.trace_record.Record.{Record}
use Rattle.sg_activity.specs.Underway.{work_of}
use Rattle.sg_actor_states.specs.Actors.{is_ended, is_unstarted}
use Rattle.sg_kernel_calls.specs.Calls.{answered, told}
use Rattle.sg_kernel_calls.specs.Lives.{created}
use Rattle.sg_kernel.specs.Passes.{pass_of}
use Rattle.sg_kernel_calls.specs.Steps.{Step}
use Rattle.sg_kernel_calls.specs.World.{Core, state_of}
use Rattle.sg_script.specs.Fetched.{fetches_of, one_more}
use Rattle.sg_script.specs.declared.fault.ScriptFault.{ScriptFault}
use Rattle.sg_engine.specs.World.{World}
use Rattle.sg_engine.specs.declared.ended.Ended.{Ended}
use Rattle.sg_engine.specs.declared.ended.Ended.TheVariants as ended
use Rattle.sg_engine.specs.Fuel.{parts_from}
use Rattle.sg_engine.specs.Run.{Scene, Answering, Progress, then_unless_ended, and_then_by, answer_step, anyone_ready, are_completed, ask_step, at_world, calls_from, created_by, creates, ended_at, if_call, if_given, in_world, inboxes, is_ask, is_given, mind_after, one_call, other_call, round, round_or_pass, run_from, zip_with}
use Rattle.sg_kernel_laws.proofs.actor_lemmas.Kept.{Kept}
use Rattle.sg_engine_laws.specs.awaits.Runs.{calls_in, round_to}

-- it holds after the stretch, and the other of each record of it
pub record KeptOn (P : Core → Type 0) (Q : Record → Type 0) (progress : Progress) : Type 0 where
  pub holds : P progress.world.core
  pub made : All Q progress.made

-- kept by each call, each create and each line that is fetched for an actor that hasn't ended, where none is created that has started before
pub record Calling (at : Scene) (P : Core → Type 0) (Q : Record → Type 0) : Type 0 where
  pub on_call : (core : Core) (actor : ℕ) (what : Call) → is_ended (state_of core actor) ≡ false → P core → Kept P Q (answered at.roads at.setup core actor what)
  pub on_create : (given : Bool) (actor : ℕ) (target : ActorId) (core : Core) → is_ended (state_of core actor) ≡ false → (IsTrue given → IsTrue (is_unstarted (state_of core target.0))) → P core → Kept P Q (created given actor target core)
  pub on_ask : (core : Core) (actor : ℕ) (action : Option Action) → is_ended (state_of core actor) ≡ false → P core → Kept P Q (told at.setup core actor action)

module _ (P : Core → Type 0) (Q : Record → Type 0) where
  pub on_at : (how : Option Ended) (world : World) → P world.core → KeptOn P Q (at_world how world)
  on_at how world p = record { holds = p; made = All-nil Q }

  pub on_step : (world : World) (step : Step) → Kept P Q step → KeptOn P Q (in_world world step)
  on_step world step k = record { holds = k.holds; made = k.made }

  pub on_either : (b : Bool) (x y : Progress) → KeptOn P Q x → KeptOn P Q y → KeptOn P Q (cond b x y)
  on_either true x y one other = one
  on_either false x y one other = other

  pub on_then : (first : Progress) (next : World → Progress) → KeptOn P Q first → (P first.world.core → KeptOn P Q (next first.world)) → KeptOn P Q (then_unless_ended first next)
  on_then first next one more = by first.ended
    where
      by : (how : Option Ended) → KeptOn P Q (and_then_by how first next)
      by None = let t = more one.holds in record { holds = t.holds; made = All-append Q first.made (next first.world).made one.made t.made }
      by (Some how) = one

module _ (at : Scene) (answers : Answering) (P : Core → Type 0) (Q : Record → Type 0) (calling : Calling at P Q) where
  answer_kept : (result : Result (Option Action) ScriptFault) (actor : ℕ) (world : World) → is_ended (state_of world.core actor) ≡ false → P world.core → KeptOn P Q (answer_step at.setup actor result world)
  answer_kept (Ok action) actor world lives p = on_step P Q world (told at.setup world.core actor action) (calling.on_ask world.core actor action lives p)
  answer_kept (Err why) actor world lives p = on_at P Q (Some (ended_at why)) world p

  ask_kept : (actor : ℕ) (world : World) → is_ended (state_of world.core actor) ≡ false → P world.core → KeptOn P Q (ask_step at.setup answers actor world)
  ask_kept actor world lives p =
      let next : World = record world { fetched = one_more actor world.fetched } in
      let said = answers actor (fetches_of world.fetched actor) in
      on_either P Q (world.core.events == at.setup.budget) (at_world (Some ended.Budget) world) (answer_step at.setup actor said next) (on_at P Q (Some ended.Budget) world p) (answer_kept said actor next lives p)

  create_kept : (actor : ℕ) (target : ActorId) (world : World) → is_ended (state_of world.core actor) ≡ false → P world.core → KeptOn P Q (creates at.firsts at.setup.budget actor target world)
  create_kept actor target world lives p =
      let given = is_given target world in
      let next : World = if_given given at.firsts target.0 world in
      let step = created given actor target world.core in
      on_either P Q (world.core.events == at.setup.budget) (at_world (Some ended.Budget) world) (in_world next step) (on_at P Q (Some ended.Budget) world p)
      (on_step P Q next step (calling.on_create given actor target world.core lives (λ is. (and_parts (is_unstarted (state_of world.core target.0)) (nat_lt 0 world.contexts) is).0) p))

  other_kept : (actor : ℕ) (what : Call) (world : World) → is_ended (state_of world.core actor) ≡ false → P world.core → KeptOn P Q (other_call at answers actor what world)
  other_kept actor what world lives p =
      let step = answered at.roads at.setup world.core actor what in
      on_either P Q (at.script && is_ask what) (ask_step at.setup answers actor world) (in_world world step) (ask_kept actor world lives p) (on_step P Q world step (calling.on_call world.core actor what lives p))

  one_kept : (actor : ℕ) (what : Call) (world : World) → is_ended (state_of world.core actor) ≡ false → P world.core → KeptOn P Q (one_call at answers actor what world)
  one_kept actor what world lives p = by (created_by what)
    where
      by : (o : Option ActorId) → KeptOn P Q (option_map_or (λ target. creates at.firsts at.setup.budget actor target world) o (other_call at answers actor what world))
      by None = other_kept actor what world lives p
      by (Some target) = create_kept actor target world lives p

  call_kept : (actor : ℕ) (what : Option Call) (world : World) → P world.core → KeptOn P Q (if_call at answers actor what world)
  call_kept actor None world p = on_at P Q None world p
  call_kept actor (Some what) world p = by (is_ended (state_of world.core actor)) refl
    where
      by : (b : Bool) → is_ended (state_of world.core actor) ≡ b → KeptOn P Q (cond b (at_world None world) (one_call at answers actor what world))
      by true ended = on_at P Q None world p
      by false lives = one_kept actor what world lives p

  pub calls_kept : (actor : ℕ) (calls : List (Option Call)) (world : World) → P world.core → KeptOn P Q (calls_from at answers actor calls world)
  unfolding calls_from
  calls_kept actor [] world p = on_at P Q None world p
  calls_kept actor (what ∷ rest) world p =
      let first = if_call at answers actor what world in
      on_then P Q first (calls_from at answers (actor + 1) rest) (call_kept actor what world p) (calls_kept (actor + 1) rest first.world)

  -- ---- scheduling rounds
  pub round_to_kept : (n : ℕ) (world : World) → P world.core → KeptOn P Q (round_to n at answers world)
  round_to_kept n world p = calls_kept 1 (take n (calls_in world)) (record world { minds = zip_with mind_after world.minds (inboxes world.core) }) p

  pub round_kept : (world : World) → P world.core → KeptOn P Q (round at answers world)
  round_kept world p = calls_kept 1 (calls_in world) (record world { minds = zip_with mind_after world.minds (inboxes world.core) }) p

-- ---- scheduling rounds and time advances
module _ (at : Scene) (answers : Answering) (P : Core → Type 0) (Q : Record → Type 0) (calling : Calling at P Q) (passing : (core : Core) → P core → Kept P Q (pass_of at.setup core)) where
  part_kept : (world : World) → P world.core → KeptOn P Q (round_or_pass at answers world)
  part_kept world p =
      let passed : World = record world { work = world.work + work_of world.core.under } in
      let step = pass_of at.setup world.core in
      on_either P Q (anyone_ready world.core) (round at answers world) (in_world passed step) (round_kept at answers P Q calling world p) (on_step P Q passed step (passing world.core p))

  pub parts_kept : (n : ℕ) (world : World) → P world.core → KeptOn P Q (parts_from n at answers world)
  unfolding parts_from
  parts_kept zero world p = on_at P Q None world p
  parts_kept (suc n) world p =
      let first = round_or_pass at answers world in
      on_either P Q (are_completed world.core) (at_world (Some ended.Completed) world) (then_unless_ended first (parts_from n at answers)) (on_at P Q (Some ended.Completed) world p)
      (on_then P Q first (parts_from n at answers) (part_kept world p) (parts_kept n first.world))

  pub run_kept : (n : ℕ) (world : World) → P world.core → KeptOn P Q (run_from n at answers world)
  unfolding run_from
  run_kept zero world p = on_at P Q (Some ended.Budget) world p
  run_kept (suc n) world p =
      let first = round_or_pass at answers world in
      on_either P Q (are_completed world.core) (at_world (Some ended.Completed) world) (then_unless_ended first (run_from n at answers)) (on_at P Q (Some ended.Completed) world p)
      (on_then P Q first (run_from n at answers) (part_kept world p) (run_kept n first.world))
