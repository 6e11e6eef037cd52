-- An actor that was killed waits in no queue ever after.
use Rattle.std.proofs.Common.{◌≡◌, ◌≢◌, ℕ, ◌+◌, ◌==◌, Bool, true, false, cond, IsTrue, Option, None, Some, [], sym, ap, subst, ◌∙◌, arith}
use Rattle.sg_base.specs.declared.ids.ActorId.{ActorId}
use Rattle.sg_activity.specs.Underway.{Underway, due_in}
use Rattle.sg_profile.specs.Profiles.{rows_due}
use Rattle.sg_route.specs.Roads.{Roads, roads_of}
use Rattle.sg_actor_states.specs.Actors.{is_alive, is_answered}
use Rattle.sg_sync.specs.Objects.{Objects, waiting}
use Rattle.sg_kernel_calls.specs.declared.stop.Stop.TheVariants.{Budget}
use Rattle.sg_kernel_calls.specs.Kills.{kills}
use Rattle.sg_kernel.specs.Passes.{core_later, next_span, pass_at, settled, stretches}
use Rattle.sg_kernel_calls.specs.Setup.{setup_of, Setup}
use Rattle.sg_kernel_calls.specs.Steps.{stops, all_of, counted}
use Rattle.sg_kernel_calls.specs.World.{Core, IsActor, MayCall, state_of}
use Rattle.sg_engine.specs.Run.{Progress}
use Rattle.sg_kernel_laws.specs.actors.Dead.{HasEnded}
use Rattle.sg_kernel_laws.proofs.actor_lemmas.Dead.{dead_stay_dead}
use Rattle.sg_kernel_laws.proofs.actor_lemmas.Killed.{kills_end}
use Rattle.sg_engine_laws.specs.awaits.Reached.{Reaches, here, calls, creates, asks, passes}
use Rattle.sg_engine_laws.proofs.await_lemmas.Called.{withdrawn_fewer}
use Rattle.sg_engine_laws.proofs.await_lemmas.Killed.{by_kernel, core_is, killed, killer, later, round_of, without_stop}
use Rattle.sg_engine_laws.proofs.await_lemmas.Objects.{no_comer}
use Rattle.sg_base.specs.Turn.{actor_of}
use Rattle.sg_engine_laws.specs.changes.Queues.{KilledWaitNowhere}
use Rattle.sg_engine_laws.proofs.change_lemmas.Around.{Lasting, Served, answered_then, created_then, stretches_then, told_then}

-- the target waits nowhere
abbrev Nowhere : ActorId → Underway → Objects → Type 0
Nowhere target under objects = waiting objects target ≡ 0

lasting : (target : ActorId) → Lasting (Nowhere target)
lasting target under later objects same alike is = is

abbrev Other : ActorId → ℕ → Type 0
Other target caller = caller ≢ target.0

served : (target : ActorId) (caller : ℕ) → Other target caller → Served (Nowhere target) caller
served target caller apart = record {
  does = λ under objects done most is. omega (arith, most target, is, no_comer target (actor_of caller) done.outcome apart);
  left = λ under objects other is. omega (arith, withdrawn_fewer objects other target, is);
}

-- it has ended and waits nowhere
record IsGone (target : ActorId) (core : Core) : Type 0 where
  ended : HasEnded target.0 core
  nowhere : waiting core.objects target ≡ 0

caller_lives : (target : ActorId) (actor : ℕ) (core : Core) → MayCall core actor → IsGone target core → Other target actor
caller_lives target actor core may gone same = absurd (cc (sym may.ready ∙ ap (λ n. is_answered (state_of core n)) same ∙ ap is_answered gone.ended))

pass_nowhere : (target : ActorId) (setup : Setup) (core : Core) (span : Option ℕ) → waiting core.objects target ≡ 0 → waiting (pass_at setup core span).core.objects target ≡ 0
pass_nowhere target setup core None is = is
pass_nowhere target setup core (Some span) is = by (core.events == setup.budget)
  where
    moved : Core
    moved = core_later span core

    by : (b : Bool) → waiting (cond b (stops core [] Budget) (all_of (stretches setup span core) moved)).core.objects target ≡ 0
    by true = is
    by false = (stretches_then (Nowhere target) (lasting target) (Other target) (served target) setup (rows_due (core.under.date + span) setup.profiles core.turns) (due_in span core.under) moved is).holds

led_gone : (roads : Roads) (setup : Setup) (target : ActorId) (start : Core) → IsGone target start → {core : Core} → Reaches roads setup start core → IsGone target core
led_gone roads setup target start gone here = gone
led_gone roads setup target start gone (calls {core = core} led actor what may) =
    (let g = led_gone roads setup target start gone led in record {
      ended = (dead_stay_dead.calls roads setup core actor target.0 what may g.ended).ended;
      nowhere = (answered_then (Nowhere target) (lasting target) (Other target) (served target) roads setup core actor (caller_lives target actor core may g) what g.nowhere).holds;
    })
led_gone roads setup target start gone (creates {core = core} led given actor other may fresh) =
    (let g = led_gone roads setup target start gone led in record {
      ended = (dead_stay_dead.creates given actor target.0 other core may fresh g.ended).ended;
      nowhere = (created_then (Nowhere target) (lasting target) (Other target) (served target) given actor other core g.nowhere).holds;
    })
led_gone roads setup target start gone (asks {core = core} led actor action may) =
    (let g = led_gone roads setup target start gone led in record {
      ended = (dead_stay_dead.asks setup core actor target.0 action may g.ended).ended;
      nowhere = (told_then (Nowhere target) (lasting target) (Other target) (served target) setup core actor action g.nowhere).holds;
    })
led_gone roads setup target start gone (passes {core = core} led) =
    (let g = led_gone roads setup target start gone led in record {
      ended = (dead_stay_dead.passes setup core target.0 g.ended).ended;
      nowhere = pass_nowhere target setup (settled core) (next_span setup (settled core)) g.nowhere;
    })

-- a kill that isn't stopped leaves it so
gone_by : (core : Core) (actor : ℕ) (target : ActorId) → MayCall core actor → IsActor core target.0 → IsTrue (is_alive (state_of core target.0)) → (b : Bool) → (cond b (stops core [] Budget) (kills actor target (counted core))).stop ≡ None → IsGone target (cond b (stops core [] Budget) (kills actor target (counted core))).core
gone_by core actor target may is alive true on = absurd (cc on)
gone_by core actor target may is alive false on = (let ends = kills_end actor target (counted core) may is alive in record { ended = ends.ended; nowhere = ends.waits })

pub killed_wait_nowhere : KilledWaitNowhere
killed_wait_nowhere run parts actors target kills core later_core =
    let at = killed run parts actors target kills in
    let old = (round_of run parts actors target kills actors).world.core in
    let one = killer run parts actors target kills in
    let stop : at.stop ≡ None = without_stop at.stop (ap (λ (p : Progress). p.ended) (sym (by_kernel run parts actors target kills)) ∙ one.goes_on) in
    let gone = gone_by old (actors + 1) target one.may
    (subst (λ (c : Core). IsActor c target.0) (core_is run parts actors target kills actors) kills.exists) (subst (λ (c : Core). IsTrue (is_alive (state_of c target.0))) (core_is run parts actors target kills actors) kills.alive)
    (old.events == run.budget) stop in
    (led_gone (roads_of run.platform) (setup_of run.platform run.deployed run.budget) target at.core gone (later run parts actors target kills later_core)).nowhere
