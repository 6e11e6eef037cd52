-- A call of a scheduling round: the run reaches where it leads, and each other actor that has an answer still has it,
-- or was killed.
use Rattle.std.proofs.Common.{◌≡◌, ◌≢◌, ◌<◌, ◌-◌, ◌==◌, ◌&&◌, ◌∙◌, ℕ, zero, suc, Bool, true, false, true≢false, cond, IsTrue, inl, inr, sym, ap, refl, List, [], ◌∷◌, length, get_or, Option, None, Some, is_some, Result, Ok, Err, arith}
use Rattle.std.proofs.lemmas.Bool.{and_parts}
use Rattle.std.specs.Option.{option_map_or}
use Rattle.std.specs.Prelude.{nat_lt}
use Rattle.sg_base.specs.declared.call.Action.{Action}
use Rattle.sg_base.specs.declared.call.Answer.{Answer}
use Rattle.sg_base.specs.declared.call.Call.{Call}
use Rattle.sg_base.specs.declared.ids.ActorId.{ActorId}
use Rattle.sg_actor_states.specs.declared.state.Actor.{Actor}
use Rattle.sg_actor_states.specs.declared.state.State.TheVariants.{Ready, Ended}
use Rattle.sg_actor_states.specs.Actors.{is_answered, is_ended, is_unstarted, not_suspended}
use Rattle.sg_kernel_calls.specs.Calls.{answered, told}
use Rattle.sg_kernel_calls.specs.Lives.{created}
use Rattle.sg_kernel_calls.specs.World.{Core, MayCall, state_of}
use Rattle.sg_script.specs.Fetched.{fetches_of, one_more}
use Rattle.sg_script.specs.declared.fault.ScriptFault.{ScriptFault}
use Rattle.sg_engine.specs.World.{World}
use Rattle.sg_engine.specs.declared.ended.Ended.TheVariants as ended
use Rattle.sg_engine.specs.Run.{Scene, Answering, Progress, answer_step, ask_step, at_world, created_by, creates, if_call, if_given, in_world, is_ask, is_given, one_call, other_call}
use Rattle.sg_kernel_laws.specs.actors.Dead.{KeepsAnswer}
use Rattle.sg_kernel_laws.proofs.actor_lemmas.Dead.{answers_stay, dead_stay_dead}
use Rattle.sg_engine_laws.specs.awaits.Reached.{Reaches}
use Rattle.sg_engine_laws.specs.awaits.Reached as reached

-- the actor has an answer, or has ended
pub record Stands (actor : ℕ) (core : Core) : Type 0 where
  pub answer : Answer
  pub keeps : KeepsAnswer actor answer core

-- The later core is reached wherever the earlier one is, and all stand in it that stood, except for this actor.
pub record Leads (at : Scene) (actor : ℕ) (old new : Core) : Type 0 where
  pub reaches : (start : Core) → Reaches at.roads at.setup start old → Reaches at.roads at.setup start new
  pub stand : (other : ℕ) → 0 < other → other ≢ actor → Stands other old → Stands other new

-- ---- who may call
ready_within : (actors : List Actor) (i : ℕ) (answer : Answer) → (get_or actors i (not_suspended Ended)).state ≡ Ready answer → i < length actors
ready_within [] i answer is = absurd (cc is)
ready_within (actor ∷ actors) zero answer is = omega arith
ready_within (actor ∷ actors) (suc i) answer is = omega (arith, ready_within actors i answer is)

-- one that stands and wasn't killed
pub may_call : (actor : ℕ) (core : Core) → 0 < actor → Stands actor core → is_ended (state_of core actor) ≡ false → MayCall core actor
may_call actor core from stands lives = by stands.keeps
  where
    by : KeepsAnswer actor stands.answer core → MayCall core actor
    by (inl is) = let within : actor - 1 < length core.actors = ready_within core.actors (actor - 1) stands.answer is in record { from = from; to = omega (arith, within, from); ready = ap is_answered is }
    by (inr is) = absurd (true≢false (sym (ap is_ended is) ∙ lives))

-- ---- steps of the kernel
module _ (at : Scene) (actor : ℕ) (core : Core) (may : MayCall core actor) where
  answered_leads : (what : Call) → Leads at actor core (answered at.roads at.setup core actor what).core
  answered_leads what = record {
    reaches = λ start way. reached.calls way actor what may;
    stand = λ other from differs stands. record { answer = stands.answer; keeps = by other from differs stands.answer stands.keeps };
  }
    where
      by : (other : ℕ) → 0 < other → other ≢ actor → (answer : Answer) → KeepsAnswer other answer core → KeepsAnswer other answer (answered at.roads at.setup core actor what).core
      by other from differs answer (inl is) = answers_stay.calls at.roads at.setup core actor other what answer may from differs is
      by other from differs answer (inr is) = inr (dead_stay_dead.calls at.roads at.setup core actor other what may is).ended

  created_leads : (given : Bool) (target : ActorId) → (IsTrue given → IsTrue (is_unstarted (state_of core target.0))) → Leads at actor core (created given actor target core).core
  created_leads given target fresh = record {
    reaches = λ start way. reached.creates way given actor target may fresh;
    stand = λ other from differs stands. record { answer = stands.answer; keeps = by other from differs stands.answer stands.keeps };
  }
    where
      by : (other : ℕ) → 0 < other → other ≢ actor → (answer : Answer) → KeepsAnswer other answer core → KeepsAnswer other answer (created given actor target core).core
      by other from differs answer (inl is) = answers_stay.creates given actor other target core answer may fresh from differs is
      by other from differs answer (inr is) = inr (dead_stay_dead.creates given actor other target core may fresh is).ended

  told_leads : (action : Option Action) → Leads at actor core (told at.setup core actor action).core
  told_leads action = record {
    reaches = λ start way. reached.asks way actor action may;
    stand = λ other from differs stands. record { answer = stands.answer; keeps = by other from differs stands.answer stands.keeps };
  }
    where
      by : (other : ℕ) → 0 < other → other ≢ actor → (answer : Answer) → KeepsAnswer other answer core → KeepsAnswer other answer (told at.setup core actor action).core
      by other from differs answer (inl is) = answers_stay.asks at.setup core actor other action answer may from differs is
      by other from differs answer (inr is) = inr (dead_stay_dead.asks at.setup core actor other action may is).ended

-- ---- calls of the engine
stays : (at : Scene) (actor : ℕ) (core : Core) → Leads at actor core core
stays at actor core = record { reaches = λ start way. way; stand = λ other from differs stands. stands }

either : (at : Scene) (actor : ℕ) (core : Core) (b : Bool) (x y : Progress) → Leads at actor core x.world.core → Leads at actor core y.world.core → Leads at actor core (cond b x y).world.core
either at actor core true x y one other = one
either at actor core false x y one other = other

module _ (at : Scene) (answers : Answering) (actor : ℕ) where
  answer_leads : (result : Result (Option Action) ScriptFault) (world : World) → MayCall world.core actor → Leads at actor world.core (answer_step at.setup actor result world).world.core
  answer_leads (Ok action) world may = told_leads at actor world.core may action
  answer_leads (Err why) world may = stays at actor world.core

  ask_leads : (world : World) → MayCall world.core actor → Leads at actor world.core (ask_step at.setup answers actor world).world.core
  ask_leads world may =
      let next : World = record world { fetched = one_more actor world.fetched } in
      let said = answers actor (fetches_of world.fetched actor) in
      either at actor world.core (world.core.events == at.setup.budget) (at_world (Some ended.Budget) world) (answer_step at.setup actor said next) (stays at actor world.core) (answer_leads said next may)

  creates_lead : (target : ActorId) (world : World) → MayCall world.core actor → Leads at actor world.core (creates at.firsts at.setup.budget actor target world).world.core
  creates_lead target world may =
      let given = is_given target world in
      let next : World = if_given given at.firsts target.0 world in
      either at actor world.core (world.core.events == at.setup.budget) (at_world (Some ended.Budget) world) (in_world next (created given actor target world.core)) (stays at actor world.core)
      (created_leads at actor world.core may given target (λ is. (and_parts (is_unstarted (state_of world.core target.0)) (nat_lt 0 world.contexts) is).0))

  other_leads : (what : Call) (world : World) → MayCall world.core actor → Leads at actor world.core (other_call at answers actor what world).world.core
  other_leads what world may =
      either at actor world.core (at.script && is_ask what) (ask_step at.setup answers actor world) (in_world world (answered at.roads at.setup world.core actor what)) (ask_leads world may) (answered_leads at actor world.core may what)

  one_leads : (what : Call) (world : World) → MayCall world.core actor → Leads at actor world.core (one_call at answers actor what world).world.core
  one_leads what world may = by (created_by what)
    where
      by : (o : Option ActorId) → Leads at actor world.core (option_map_or (λ target. creates at.firsts at.setup.budget actor target world) o (other_call at answers actor what world)).world.core
      by None = other_leads what world may
      by (Some target) = creates_lead target world may

  -- the call of one that stands, if it makes one
  pub call_leads : (what : Option Call) (world : World) → 0 < actor → (is_some what ≡ true → Stands actor world.core) → Leads at actor world.core (if_call at answers actor what world).world.core
  call_leads None world from stands = stays at actor world.core
  call_leads (Some what) world from stands = by (is_ended (state_of world.core actor)) refl
    where
      by : (b : Bool) → is_ended (state_of world.core actor) ≡ b → Leads at actor world.core (cond b (at_world None world) (one_call at answers actor what world)).world.core
      by true is = stays at actor world.core
      by false is = one_leads what world (may_call actor world.core from (stands refl) is)
