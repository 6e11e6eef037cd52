-- An actor that has ended is never answered again, and one that has an answer keeps it until it
-- calls or is killed.
use Rattle.std.proofs.Common.{◌≡◌, ◌≢◌, ◌⊎◌, ℕ, ◌<◌, ◌==◌, false, true≢false, cond, IsTrue, inl, inr, Option, None, Some, List, [], refl, sym, ap, ◌∙◌, arith}
use Rattle.sg_base.specs.declared.awaits.Await.{Await}
use Rattle.sg_base.specs.declared.call.Action.{Action}
use Rattle.sg_base.specs.declared.call.Answer.{Answer}
use Rattle.sg_base.specs.declared.call.Call.{Call}
use Rattle.sg_requests.specs.Requested.{queue_at}
use Rattle.sg_route.specs.Roads.{Roads}
use Rattle.sg_actor_states.specs.declared.state.State.{State}
use Rattle.sg_actor_states.specs.declared.state.State.TheVariants.{Ready, Ended}
use Rattle.sg_actor_states.specs.Actors.{blocking_in, is_alive, is_answered, is_unstarted}
use Rattle.sg_kernel_calls.specs.declared.stop.Stop.TheVariants.{Budget}
use Rattle.sg_kernel_calls.specs.Calls.{answer_of_ask, answered, answered_call, told}
use Rattle.sg_kernel_calls.specs.Steps.{Step, goes_on, stops, counted, readied}
use Rattle.sg_kernel_calls.specs.Setup.{Setup}
use Rattle.sg_kernel_calls.specs.World.{Core, MayCall, state_of}
use Rattle.sg_kernel_laws.specs.actors.Dead.{AnswersStay, DeadStayDead, HasEnded, IsOfAnother, LeavesDead}
use Rattle.sg_kernel_laws.proofs.actor_lemmas.Kept.{either, finishes_kept, pass_kept, still}
use Rattle.sg_kernel_laws.proofs.actor_lemmas.Others.{Apart, Rests, Spares, Stays, apart_fresh, call_spares, closed, create_spares, flowing, put_stays, same_state}

-- ---- any step, of an actor that isn't the caller
unless_spares : (resting : ℕ) (Q : State → List Await → Type 0) (budget : ℕ) (core : Core) (step : Step) → Stays resting Q core → Spares resting Q step → Spares resting Q (cond (core.events == budget) (stops core [] Budget) step)
unless_spares resting Q budget core step q s = either (Stays resting Q) (IsOfAnother resting) (core.events == budget) (stops core [] Budget) step (still (Stays resting Q) (IsOfAnother resting) core (Some Budget) q) s

pub answered_spares : (roads : Roads) (setup : Setup) (core : Core) (actor resting : ℕ) (Q : State → List Await → Type 0) → Rests Q → (what : Call) → Apart resting actor → Stays resting Q core → Spares resting Q (answered roads setup core actor what)
answered_spares roads setup core actor resting Q rests what apart q = unless_spares resting Q setup.budget core (answered_call roads setup core actor what) q (call_spares roads setup core actor resting Q rests what apart q)

pub told_spares : (setup : Setup) (core : Core) (actor resting : ℕ) (Q : State → List Await → Type 0) (action : Option Action) → Apart resting actor → Stays resting Q core → Spares resting Q (told setup core actor action)
told_spares setup core actor resting Q action apart q =
    unless_spares resting Q setup.budget core (goes_on (readied actor (answer_of_ask action) (counted core)) []) q
    (still (Stays resting Q) (IsOfAnother resting) (readied actor (answer_of_ask action) (counted core)) None (put_stays core.actors (queue_at core.requests resting) resting Q actor _ apart q))

-- ---- one that has ended, with its requests
abbrev pub IsDead : List Await → State → List Await → Type 0
IsDead queue state now = (state ≡ Ended) × (now ≡ queue)

pub dead_rests : (queue : List Await) → Rests (IsDead queue)
dead_rests queue = record {
  unblocked = λ state now d. ap blocking_in d.0;
  begun = λ state now d. ap is_unstarted d.0;
  killed = λ state now d alive. absurd (true≢false (sym alive ∙ ap is_alive d.0));
}

-- an actor that may call hasn't ended
unanswered : (state : State) → state ≡ Ended → IsTrue (is_answered state) → ⊥
unanswered state e a = true≢false (sym a ∙ ap is_answered e)

apart_caller : (core : Core) (actor dead : ℕ) → MayCall core actor → HasEnded dead core → Apart dead actor
apart_caller core actor dead may e same = unanswered (state_of core actor) (sym (same_state core.actors dead actor same) ∙ e) may.ready

leaves_dead : (dead : ℕ) (before : Core) (step : Step) → Spares dead (IsDead (queue_at before.requests dead)) step → LeavesDead dead before step
leaves_dead dead before step s = record { ended = s.holds.0; requests = s.holds.1; silent = s.made }

pub dead_stay_dead : DeadStayDead
dead_stay_dead = record {
  calls = λ roads setup core actor dead what may e.
      let queue = queue_at core.requests dead in
      leaves_dead dead core _ (answered_spares roads setup core actor dead (IsDead queue) (dead_rests queue) what (apart_caller core actor dead may e) (e, refl));
  creates = λ given actor dead target core may fresh e.
      let queue = queue_at core.requests dead in
      leaves_dead dead core _ (create_spares given actor dead (IsDead queue) (dead_rests queue) target core (apart_caller core actor dead may e)
      (λ is. apart_fresh core target.0 dead (IsDead queue) (dead_rests queue) (fresh is) (e, refl)) (e, refl));
  asks = λ setup core actor dead action may e.
      leaves_dead dead core _ (told_spares setup core actor dead (IsDead (queue_at core.requests dead)) action (apart_caller core actor dead may e) (e, refl));
  passes = λ setup core dead e.
      let queue = queue_at core.requests dead in
      leaves_dead dead core _ (pass_kept (Stays dead (IsDead queue)) (IsOfAnother dead) (finishes_kept (Stays dead (IsDead queue)) (IsOfAnother dead) (closed dead (IsDead queue) (dead_rests queue))) (flowing dead (IsDead queue) (dead_rests queue)) setup core (e, refl));
}

-- ---- one that has an answer
abbrev Answers : Answer → State → List Await → Type 0
Answers answer state queue = (state ≡ Ready answer) ⊎ (state ≡ Ended)

answer_rests : (answer : Answer) → Rests (Answers answer)
answer_rests answer = record { unblocked = by; begun = fresh; killed = λ state now d alive. inr refl }
  where
    by : (state : State) (queue : List Await) → Answers answer state queue → blocking_in state ≡ None
    by state queue (inl e) = ap blocking_in e
    by state queue (inr e) = ap blocking_in e

    fresh : (state : State) (queue : List Await) → Answers answer state queue → is_unstarted state ≡ false
    fresh state queue (inl e) = ap is_unstarted e
    fresh state queue (inr e) = ap is_unstarted e

apart_ids : (core : Core) (actor other : ℕ) → MayCall core actor → 0 < other → other ≢ actor → Apart other actor
apart_ids core actor other may from differs same = differs (omega (arith, same, from, may.from))

pub answers_stay : AnswersStay
answers_stay = record {
  calls = λ roads setup core actor other what answer may from differs e.
      (answered_spares roads setup core actor other (Answers answer) (answer_rests answer) what (apart_ids core actor other may from differs) (inl e)).holds;
  creates = λ given actor other target core answer may fresh from differs e.
      (create_spares given actor other (Answers answer) (answer_rests answer) target core (apart_ids core actor other may from differs)
      (λ is. apart_fresh core target.0 other (Answers answer) (answer_rests answer) (fresh is) (inl e)) (inl e)).holds;
  asks = λ setup core actor other action answer may from differs e.
      (told_spares setup core actor other (Answers answer) action (apart_ids core actor other may from differs) (inl e)).holds;
  passes = λ setup core other answer e.
      (pass_kept (Stays other (Answers answer)) (IsOfAnother other) (finishes_kept (Stays other (Answers answer)) (IsOfAnother other) (closed other (Answers answer) (answer_rests answer))) (flowing other (Answers answer) (answer_rests answer)) setup core (inl e)).holds;
}
