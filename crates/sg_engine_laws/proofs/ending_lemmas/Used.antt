-- If the budget is used up the next event isn't begun.
use Rattle.std.proofs.Common.{◌≡◌, ℕ, zero, suc, ◌+◌, ◌-◌, ◌<◌, ◌==◌, ◌&&◌, ◌||◌, Bool, true, false, cond, IsTrue, Option, None, Some, option_map, is_some, List, [], ◌∷◌, get_or, refl, sym, ap, ◌∙◌, arith}
use Rattle.std.specs.Prelude.{IsSome}
use Rattle.std.specs.Option.{option_map_or}
use Rattle.sg_base.specs.declared.call.Call.{Call}
use Rattle.sg_base.specs.declared.ids.ActorId.{ActorId}
use Rattle.sg_activity.specs.Underway.{work_of}
use Rattle.sg_actor_states.specs.Actors.{is_ended}
use Rattle.sg_kernel_calls.specs.declared.stop.Stop.TheVariants as stop
use Rattle.sg_kernel_calls.specs.Calls.{answered, answered_call}
use Rattle.sg_kernel_calls.specs.Lives.{created}
use Rattle.sg_kernel.specs.Passes.{next_span, pass_of, settled}
use Rattle.sg_kernel_calls.specs.Steps.{Step, stops}
use Rattle.sg_kernel_calls.specs.World.{state_of}
use Rattle.sg_kernel_calls.proofs.Each.{eq_yes}
use Rattle.sg_kernel.proofs.Passed.{pass_used}
use Rattle.sg_script.specs.Fetched.{fetches_of, one_more}
use Rattle.sg_engine.specs.World.{World}
use Rattle.sg_engine.specs.declared.ended.Ended.{Ended}
use Rattle.sg_engine.specs.declared.ended.Ended.TheVariants as ended
use Rattle.sg_engine.specs.Fuel.{parts_from}
use Rattle.sg_engine.specs.Run.{Scene, Answering, Progress, then_unless_ended, and_then_by, answer_step, anyone_ready, are_completed, ask_step, at_world, calls_from, created_by, creates, ended_by, if_call, if_given, in_world, is_ask, is_given, one_call, other_call, round, round_or_pass}
use Rattle.sg_engine_laws.specs.awaits.Runs.{calls_in, first_in, parts_in, scene_in}
use Rattle.sg_engine_laws.specs.endings.Ending.{UsedBudgetsEnd, has_next}
use Rattle.sg_engine_laws.proofs.ending_lemmas.Parts.{parts_in_follow}
use Rattle.sg_engine_laws.proofs.ending_lemmas.Rounds.{AllLive, all_live, ready_calls, turned}
use Rattle.sg_engine_laws.proofs.ending_lemmas.Stretches.{Minds}

abbrev Spent : Progress → Type 0
Spent p = p.ended ≡ Some ended.Budget

then_spent : (how : Option Ended) (first : Progress) (next : World → Progress) → first.ended ≡ how → Spent first → Spent (and_then_by how first next)
then_spent None first next e spent = absurd (cc (sym e ∙ spent))
then_spent (Some how) first next e spent = spent

module _ (at : Scene) (answers : Answering) where
  -- the call of an actor isn't begun
  one_used : (actor : ℕ) (what : Call) (world : World) → world.core.events ≡ at.setup.budget → one_call at answers actor what world ≡ at_world (Some ended.Budget) world
  one_used actor what world used = by (created_by what)
    where
      yes : (world.core.events == at.setup.budget) ≡ true
      yes = eq_yes world.core.events at.setup.budget used

      other : (b : Bool) → cond b (ask_step at.setup answers actor world) (in_world world (answered at.roads at.setup world.core actor what)) ≡ at_world (Some ended.Budget) world
      other true = ap (λ (b : Bool). cond b (at_world (Some ended.Budget) world) (answer_step at.setup actor (answers actor (fetches_of world.fetched actor)) (record world { fetched = one_more actor world.fetched }))) yes
      other false = ap (λ (b : Bool). in_world world (cond b (stops world.core [] stop.Budget) (answered_call at.roads at.setup world.core actor what))) yes

      by : (o : Option ActorId) → option_map_or (λ target. creates at.firsts at.setup.budget actor target world) o (other_call at answers actor what world) ≡ at_world (Some ended.Budget) world
      by None = other (at.script && is_ask what)
      by (Some target) = ap (λ (b : Bool). cond b (at_world (Some ended.Budget) world) (in_world (if_given (is_given target world) at.firsts target.0 world) (created (is_given target world) actor target world.core))) yes

  pub call_used : (actor : ℕ) (what : Call) (world : World) → world.core.events ≡ at.setup.budget → is_ended (state_of world.core actor) ≡ false → if_call at answers actor (Some what) world ≡ at_world (Some ended.Budget) world
  call_used actor what world used lives = ap (λ (b : Bool). cond b (at_world None world) (one_call at answers actor what world)) lives ∙ one_used actor what world used

  calls_spent : (j actor : ℕ) (calls : List (Option Call)) (world : World) → 0 < actor → world.core.events ≡ at.setup.budget → AllLive actor calls world.core → IsSome (get_or calls j None) → Spent (calls_from at answers actor calls world)
  unfolding calls_from
  calls_spent j actor [] world from used live some = absurd (cc some)
  calls_spent zero actor (None ∷ rest) world from used live some = absurd (cc some)
  calls_spent (suc j) actor (None ∷ rest) world from used live some = calls_spent j (actor + 1) rest world (omega arith) used (λ k place is one. live (suc k) place (omega (arith, is, from)) one) some
  calls_spent j actor (Some what ∷ rest) world from used live some =
      let first = if_call at answers actor (Some what) world in
      then_spent first.ended first (calls_from at answers (actor + 1) rest) refl (ap (λ (p : Progress). p.ended) (call_used actor what world used (live 0 (actor - 1) (omega arith) refl)))

  pass_spent : (world : World) (o : Option ℕ) → next_span at.setup (settled world.core) ≡ o → IsSome o → world.core.events ≡ at.setup.budget → Spent (in_world (record world { work = world.work + work_of world.core.under }) (pass_of at.setup world.core))
  pass_spent world None e some used = absurd (cc some)
  pass_spent world (Some span) e some used = ap (λ (s : Step). option_map ended_by s.stop) (pass_used at.setup (settled world.core) span e used)

  part_spent : (world : World) → Minds at world → world.core.events ≡ at.setup.budget → IsTrue (has_next at.setup world.core) → Spent (round_or_pass at answers world)
  part_spent world m used next = by (anyone_ready world.core) refl next
    where
      by : (b : Bool) → anyone_ready world.core ≡ b → (b || is_some (next_span at.setup (settled world.core))) ≡ true → Spent (cond b (round at answers world) (in_world (record world { work = world.work + work_of world.core.under }) (pass_of at.setup world.core)))
      by true ready is = (let called = ready_calls at world m ready in calls_spent called.place 1 (calls_in world) (turned world) (omega arith) used (all_live world) called.some)
      by false idle is = pass_spent world (next_span at.setup (settled world.core)) refl is used

  -- the part after so many ends the run, if it continues until there
  last_spent : (n : ℕ) (world : World) → (parts_from n at answers world).ended ≡ None → are_completed (parts_from n at answers world).world.core ≡ false → Spent (round_or_pass at answers (parts_from n at answers world).world) → Spent (parts_from (suc n) at answers world)
  unfolding parts_from
  last_spent zero world on going spent =
      ap (λ (b : Bool). (cond b (at_world (Some ended.Completed) world) (then_unless_ended (round_or_pass at answers world) (at_world None))).ended) going
      ∙ then_spent (round_or_pass at answers world).ended (round_or_pass at answers world) (at_world None) refl spent
  last_spent (suc n) world on going spent = over (are_completed world.core) (last_spent n (round_or_pass at answers world).world) on going spent
    where
      by : (how : Option Ended) → ((parts_from n at answers (round_or_pass at answers world).world).ended ≡ None → are_completed (parts_from n at answers (round_or_pass at answers world).world).world.core ≡ false → Spent (round_or_pass at answers (parts_from n at answers (round_or_pass at answers world).world).world) → Spent (parts_from (suc n) at answers (round_or_pass at answers world).world)) →
          (round_or_pass at answers world).ended ≡ how → (and_then_by how (round_or_pass at answers world) (parts_from n at answers)).ended ≡ None → are_completed (and_then_by how (round_or_pass at answers world) (parts_from n at answers)).world.core ≡ false →
          Spent (round_or_pass at answers (and_then_by how (round_or_pass at answers world) (parts_from n at answers)).world) → Spent (and_then_by how (round_or_pass at answers world) (parts_from (suc n) at answers))
      by None more e on going spent = more on going spent
      by (Some how) more e on going spent = absurd (cc (sym e ∙ on))

      over : (b : Bool) → ((parts_from n at answers (round_or_pass at answers world).world).ended ≡ None → are_completed (parts_from n at answers (round_or_pass at answers world).world).world.core ≡ false → Spent (round_or_pass at answers (parts_from n at answers (round_or_pass at answers world).world).world) → Spent (parts_from (suc n) at answers (round_or_pass at answers world).world)) →
          (cond b (at_world (Some ended.Completed) world) (and_then_by (round_or_pass at answers world).ended (round_or_pass at answers world) (parts_from n at answers))).ended ≡ None → are_completed (cond b (at_world (Some ended.Completed) world) (and_then_by (round_or_pass at answers world).ended (round_or_pass at answers world) (parts_from n at answers))).world.core ≡ false →
          Spent (round_or_pass at answers (cond b (at_world (Some ended.Completed) world) (and_then_by (round_or_pass at answers world).ended (round_or_pass at answers world) (parts_from n at answers))).world) → Spent (cond b (at_world (Some ended.Completed) world) (and_then_by (round_or_pass at answers world).ended (round_or_pass at answers world) (parts_from (suc n) at answers)))
      over true more on going spent = absurd (cc on)
      over false more on going spent = by (round_or_pass at answers world).ended more refl on going spent

pub used_budgets_end : UsedBudgetsEnd
used_budgets_end run parts on used going next =
    let one : suc parts ≡ parts + 1 = omega arith in
    sym (ap (λ (n : ℕ). (parts_in n run).ended) one)
    ∙ last_spent (scene_in run) run.answers parts (first_in run) on going (part_spent (scene_in run) run.answers (parts_in parts run).world (parts_in_follow run parts).minds used next)
