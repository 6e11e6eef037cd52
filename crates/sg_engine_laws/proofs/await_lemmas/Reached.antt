-- In each core that a run reaches what names an actor is awaited by it.
use Rattle.std.proofs.Common.{◌≡◌, ◌⊎◌, ℕ, zero, suc, ◌+◌, ◌-◌, ◌<◌, ◌==◌, Bool, true, false, true≢false, cond, IsTrue, inl, inr, None, List, [], ◌∷◌, length, map, get_or, refl, sym, subst, ◌∙◌, arith}
use Rattle.std.proofs.lemmas.List.{length-map, length-replicate}
use Rattle.sg_base.specs.declared.awaits.Await.{Await}
use Rattle.sg_base.specs.declared.call.Answer.TheVariants as answer
use Rattle.sg_base.specs.declared.call.Call.TheVariants as call
use Rattle.sg_base.specs.declared.ids.ActorId.{ActorId}
use Rattle.sg_activity.specs.Links.{Capacities}
use Rattle.sg_requests.specs.Requested.{queue_at}
use Rattle.sg_route.specs.Roads.{Roads}
use Rattle.sg_platform_rows.specs.Deployment.{starts}
use Rattle.sg_actor_states.specs.declared.state.State.{State}
use Rattle.sg_actor_states.specs.declared.state.State.TheVariants.{Unstarted, Ready, Ended}
use Rattle.sg_actor_states.specs.Actors.{first_actor, not_suspended}
use Rattle.sg_sync.specs.Objects.{waiting}
use Rattle.sg_sync.specs.Queues.{times}
use Rattle.sg_sync.proofs.Counts.{nobody_waits}
use Rattle.sg_kernel_calls.specs.declared.stop.Stop.TheVariants.{Budget}
use Rattle.sg_kernel_calls.specs.Calls.{answered}
use Rattle.sg_kernel_calls.specs.Kills.{awaited, kills}
use Rattle.sg_kernel.specs.Passes.{pass_of}
use Rattle.sg_kernel.specs.Start.{capacities_in, first_core, first_objects}
use Rattle.sg_kernel_calls.specs.Setup.{home_of, Setup}
use Rattle.sg_kernel_calls.specs.Steps.{Step, stops, counted}
use Rattle.sg_kernel_calls.specs.World.{Core, state_of, whose_at}
use Rattle.sg_kernel_laws.specs.actors.Dead.{HasEnded, LeavesDead}
use Rattle.sg_kernel_laws.specs.actors.Kills.{EndsBy}
use Rattle.sg_kernel_laws.proofs.actor_lemmas.Dead.{dead_stay_dead}
use Rattle.sg_kernel_laws.proofs.actor_lemmas.Kept.{pass_kept}
use Rattle.sg_kernel_laws.proofs.actor_lemmas.Killed.{kills_end}
use Rattle.sg_engine_laws.specs.awaits.Awaits.{EndedAreUnnamed, IsUnnamed, KilledLeaveNothing, NamedAreAwaited, names}
use Rattle.sg_engine_laws.specs.awaits.Reached.{Reaches, Reached, StartsAreReached, here, calls, creates, asks, passes}
use Rattle.sg_engine_laws.proofs.await_lemmas.Answered.{awaited_finish}
use Rattle.sg_engine_laws.proofs.await_lemmas.Awaiting.{AreAwaited, Has, IsAwaited, JoinsAlone, MayStand, Nobody, caller_is, has_contains, has_rising, serials_in}
use Rattle.sg_engine_laws.proofs.await_lemmas.Called.{awaited_answered, awaited_created, awaited_tasks, awaited_told}
use Rattle.sg_engine_laws.proofs.await_lemmas.Over.{anything}

-- ---- at first nothing names anybody
first_state : (P : State → Type 0) → P (Ready answer.Start) → P Unstarted → P Ended → (starts : List Bool) (i : ℕ) → P (get_or (map first_actor starts) i (not_suspended Ended)).state
first_state P ready not_yet ended [] i = ended
first_state P ready not_yet ended (true ∷ starts) zero = ready
first_state P ready not_yet ended (false ∷ starts) zero = not_yet
first_state P ready not_yet ended (b ∷ starts) (suc i) = first_state P ready not_yet ended starts i

first_awaited : (capacities : Capacities) (setup : Setup) → length setup.starts ≡ length setup.homes → AreAwaited Nobody [] (first_core capacities setup)
first_awaited capacities setup actors = record {
  numbered = refl;
  rooms = omega (arith, actors, length-map setup.starts first_actor, length-replicate (length setup.homes) none);
  named = λ target serial from is. absurd (true≢false (sym is));
  held = record {
    stand = λ actor from. first_state (λ state. MayStand state (waiting (first_objects setup) actor + times actor [])) (nowhere actor) (nowhere actor) tt setup.starts (actor.0 - 1);
    real = λ actor zero. nowhere actor;
    joins = λ actor. first_state JoinsAlone (λ target e. refl) (λ target e. refl) (λ target e. refl) setup.starts (actor - 1);
  };
}
  where
    none : List Await
    none = []

    nowhere : (actor : ActorId) → waiting (first_objects setup) actor + times actor [] ≡ 0
    nowhere actor = omega (arith, nobody_waits actor setup.mutexes, nobody_waits actor (length setup.semaphores))

-- ---- each step keeps it
awaited_pass : (setup : Setup) (core : Core) → AreAwaited Nobody [] core → AreAwaited Nobody [] (pass_of setup core).core
awaited_pass setup core a =
    (pass_kept (AreAwaited Nobody []) anything
    (λ over serial mid k. record { holds = awaited_finish Nobody Nobody [] over serial mid (λ target other missed. absurd missed) k; made = λ i d within. tt })
    (record { moved = λ under turns mid long k. awaited_tasks Nobody [] under mid long k; counted = λ mid k. k }) setup core a).holds

led_awaited : (roads : Roads) (setup : Setup) (start : Core) → AreAwaited Nobody [] start → {core : Core} → Reaches roads setup start core → AreAwaited Nobody [] core
led_awaited roads setup start a here = a
led_awaited roads setup start a (calls {core = core} led actor what may) = awaited_answered roads setup core actor what may (led_awaited roads setup start a led)
led_awaited roads setup start a (creates {core = core} led given actor target may fresh) =
    (let k = led_awaited roads setup start a led in awaited_created given actor target core fresh (caller_is Nobody actor core may k) k)
led_awaited roads setup start a (asks {core = core} led actor action may) = awaited_told setup core actor action may (led_awaited roads setup start a led)
led_awaited roads setup start a (passes {core = core} led) = awaited_pass setup core (led_awaited roads setup start a led)

reached_awaited : (roads : Roads) (setup : Setup) (core : Core) → Reached roads setup core → AreAwaited Nobody [] core
reached_awaited roads setup core r = led_awaited roads setup (first_core r.capacities setup) (first_awaited r.capacities setup r.actors) r.way

-- ---- the laws
pub starts_are_reached : StartsAreReached
starts_are_reached roads platform deployed budget = record {
  capacities = capacities_in platform;
  actors = length-map deployed.actors starts ∙ sym (length-map deployed.actors home_of);
  way = here;
}

awaits : (core : Core) → AreAwaited Nobody [] core → (target : ActorId) (serial : ℕ) → 0 < serial → IsTrue (names target (whose_at core serial)) → IsAwaited core.actors core.requests target serial
awaits core a target serial from is = by (a.named target serial from is)
  where
    by : IsAwaited core.actors core.requests target serial ⊎ ⊥ → IsAwaited core.actors core.requests target serial
    by (inl h) = h
    by (inr missed) = absurd missed

pub named_are_awaited : NamedAreAwaited
named_are_awaited roads setup core reached target serial from is =
    has_contains serial (awaited target core) (has_rising serial (serials_in (state_of core target.0) (queue_at core.requests target.0)) (awaits core (reached_awaited roads setup core reached) target serial from is))

-- one that has ended, and has no requests
record IsIdle (target : ActorId) (core : Core) : Type 0 where
  ended : HasEnded target.0 core
  none : queue_at core.requests target.0 ≡ []

unnamed_idle : (target : ActorId) (core : Core) → AreAwaited Nobody [] core → IsIdle target core → IsUnnamed target core
unnamed_idle target core a idle serial from = by (names target (whose_at core serial)) refl
  where
    by : (b : Bool) → names target (whose_at core serial) ≡ b → names target (whose_at core serial) ≡ false
    by true is = absurd (subst (λ q. Has serial (serials_in Ended q)) idle.none (subst (λ s. Has serial (serials_in s (queue_at core.requests target.0))) idle.ended (awaits core a target serial from is)))
    by false is = is

pub ended_are_unnamed : EndedAreUnnamed
ended_are_unnamed roads setup core reached target ended none = unnamed_idle target core (reached_awaited roads setup core reached) (record { ended = ended; none = none })

still_idle : (target : ActorId) (core : Core) (step : Step) → IsIdle target core → LeavesDead target.0 core step → IsIdle target step.core
still_idle target core step idle left = record { ended = left.ended; none = left.requests ∙ idle.none }

led_idle : (roads : Roads) (setup : Setup) (target : ActorId) (start : Core) → IsIdle target start → {core : Core} → Reaches roads setup start core → IsIdle target core
led_idle roads setup target start idle here = idle
led_idle roads setup target start idle (calls {core = core} led actor what may) =
    (let k = led_idle roads setup target start idle led in still_idle target core _ k (dead_stay_dead.calls roads setup core actor target.0 what may k.ended))
led_idle roads setup target start idle (creates {core = core} led given actor other may fresh) =
    (let k = led_idle roads setup target start idle led in still_idle target core _ k (dead_stay_dead.creates given actor target.0 other core may fresh k.ended))
led_idle roads setup target start idle (asks {core = core} led actor action may) =
    (let k = led_idle roads setup target start idle led in still_idle target core _ k (dead_stay_dead.asks setup core actor target.0 action may k.ended))
led_idle roads setup target start idle (passes {core = core} led) = (let k = led_idle roads setup target start idle led in still_idle target core _ k (dead_stay_dead.passes setup core target.0 k.ended))

pub killed_leave_nothing : KilledLeaveNothing
killed_leave_nothing roads setup core actor target reached may is alive on later led =
    unnamed_idle target later (led_awaited roads setup after kept led) (led_idle roads setup target after (by (core.events == setup.budget) on) led)
  where
    after : Core
    after = (answered roads setup core actor (call.Kill target)).core

    kept : AreAwaited Nobody [] after
    kept = awaited_answered roads setup core actor (call.Kill target) may (reached_awaited roads setup core reached)

    ends : EndsBy target (counted core) (kills actor target (counted core))
    ends = kills_end actor target (counted core) may is alive

    by : (b : Bool) → (cond b (stops core [] Budget) (kills actor target (counted core))).stop ≡ None → IsIdle target (cond b (stops core [] Budget) (kills actor target (counted core))).core
    by true on = absurd (cc on)
    by false on = record { ended = ends.ended; none = ends.requests }
