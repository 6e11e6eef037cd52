-- If a run kills an actor nothing names it from then on.
use Rattle.std.proofs.Common.{◌≡◌, ◌+◌, ◌-◌, ◌∙◌, ℕ, suc, false, ◌&&◌, IsTrue, sym, ap, subst, refl, Option, None, Some, option_map, is_some, arith}
use Rattle.std.proofs.lemmas.Bool.{and_right, cond-false}
use Rattle.sg_base.specs.declared.call.Call.TheVariants as call
use Rattle.sg_base.specs.declared.ids.ActorId.{ActorId}
use Rattle.sg_route.specs.Roads.{roads_of}
use Rattle.sg_actor_states.specs.Actors.{is_alive, is_ended}
use Rattle.sg_kernel_calls.specs.declared.stop.Stop.{Stop}
use Rattle.sg_kernel_calls.specs.Calls.{answered}
use Rattle.sg_kernel_calls.specs.Setup.{setup_of, Setup}
use Rattle.sg_kernel_calls.specs.Steps.{Step}
use Rattle.sg_kernel_calls.specs.World.{Core, IsActor, state_of}
use Rattle.sg_engine.specs.World.{World}
use Rattle.sg_engine.specs.declared.ended.Ended.{Ended}
use Rattle.sg_engine.specs.Run.{Progress, and_then_by, ask_step, ended_by, in_world, one_call, with_front}
use Rattle.sg_engine_laws.specs.awaits.Awaits.{IsUnnamed}
use Rattle.sg_engine_laws.specs.awaits.Reached.{Reaches, here}
use Rattle.sg_engine_laws.proofs.await_lemmas.Reached.{killed_leave_nothing}
use Rattle.sg_engine_laws.specs.awaits.InRuns.{KilledInRunsAreUnnamed}
use Rattle.sg_engine_laws.specs.awaits.Runs.{Run, KillsAt, IsLaterCore, in_round, behind_round, at_end, calls_in, first_in, parts_in, round_to, run_to, scene_in}
use Rattle.sg_engine_laws.proofs.await_lemmas.Later.{IsAnswered, first_goes, next_call, parts_add, parts_behind, round_on, same_world, turned}
use Rattle.sg_engine_laws.proofs.await_lemmas.Rounds.{by_end, callers_stand, round_to_comes}
use Rattle.sg_engine_laws.proofs.await_lemmas.Runs.{parts_in_come, reached_in}

pub without_stop : (o : Option Stop) → option_map ended_by o ≡ None → o ≡ None
without_stop None is = refl
without_stop (Some why) is = absurd (cc is)

goes_by : (how : Option Ended) (first : Progress) (next : World → Progress) → how ≡ None → and_then_by how first next ≡ with_front first.made (next first.world)
goes_by None first next is = refl
goes_by (Some how) first next is = absurd (cc is)

module _ (run : Run) (parts actors : ℕ) (target : ActorId) (kills : KillsAt run parts actors target) where
  abbrev pub setup : Setup
  setup = setup_of run.platform run.deployed run.budget

  abbrev pub world : World
  world = (parts_in parts run).world

  abbrev pub round_of : ℕ → Progress
  round_of n = round_to n (scene_in run) run.answers world

  goes : (parts_in parts run).ended ≡ None
  goes = first_goes (parts_in parts run).ended (parts_in parts run) (round_to (actors + 1) (scene_in run) run.answers) refl kills.goes_on

  as_round : (n : ℕ) → run_to parts n run ≡ with_front (parts_in parts run).made (round_of n)
  as_round n = goes_by (parts_in parts run).ended (parts_in parts run) (round_to n (scene_in run) run.answers) goes

  pub core_is : (n : ℕ) → (run_to parts n run).world.core ≡ (round_of n).world.core
  core_is n = ap (λ (p : Progress). p.world.core) (as_round n)

  pub killer : IsAnswered (scene_in run) run.answers (actors + 1) (call.Kill target) (round_of actors) (round_of (suc actors))
  killer =
      let me : actors + 1 ≡ 1 + actors = omega arith in
      let next : actors + 1 ≡ suc actors = omega arith in
      let lives : is_ended (state_of (round_of actors).world.core (actors + 1)) ≡ false = ap (λ (c : Core). is_ended (state_of c (actors + 1))) (sym (core_is actors)) ∙ kills.caller in
      let on : (round_of (suc actors)).ended ≡ None = ap (λ (n : ℕ). (round_of n).ended) (sym next) ∙ ap (λ (p : Progress). p.ended) (sym (as_round (actors + 1))) ∙ kills.goes_on in
      next_call (scene_in run) run.answers actors 1 (actors + 1) (calls_in world) (call.Kill target) (turned world) (omega arith) me (callers_stand world) kills.calls lives on

  abbrev pub killed : Step
  killed = answered (roads_of run.platform) setup (round_of actors).world.core (actors + 1) (call.Kill target)

  pub by_kernel : one_call (scene_in run) run.answers (actors + 1) (call.Kill target) (round_of actors).world ≡ in_world (round_of actors).world killed
  by_kernel = cond-false (run.script && false) (ask_step setup run.answers (actors + 1) (round_of actors).world) (in_world (round_of actors).world killed) (and_right run.script false refl)

  abbrev pub IsLater : Core → Type 0
  IsLater core = Reaches (roads_of run.platform) setup killed.core core

  behind_call : IsLater (round_of (suc actors)).world.core
  behind_call = subst IsLater (sym (killer.core ∙ ap (λ (p : Progress). p.world.core) by_kernel)) here

  unnamed : (core : Core) → IsLater core → IsUnnamed target core
  unnamed core way =
      let old = (round_of actors).world.core in
      let stop : killed.stop ≡ None = without_stop killed.stop (ap (λ (p : Progress). p.ended) (sym by_kernel) ∙ killer.goes_on) in
      let reached = reached_in run old (round_to_comes (scene_in run) run.answers (first_in run).core actors world (parts_in_come run parts)) in
      killed_leave_nothing (roads_of run.platform) setup old (actors + 1) target reached killer.may
      (subst (λ (c : Core). IsActor c target.0) (core_is actors) kills.exists) (subst (λ (c : Core). IsTrue (is_alive (state_of c target.0))) (core_is actors) kills.alive) stop core way

  round_later : (more : ℕ) → IsLater (run_to parts (actors + 1 + more) run).world.core
  round_later more =
      subst IsLater (sym (core_is (actors + 1 + more)))
      (round_on (scene_in run) run.answers killed.core (suc actors) (actors + 1 + more) world (omega arith) behind_call)

  parts_later : (n more : ℕ) → n ≡ parts + suc more → IsLater (parts_in n run).world.core
  parts_later n more is =
      subst IsLater (ap (λ (w : World). w.core) (sym (parts_add (scene_in run) run.answers parts (suc more) n (first_in run) is goes)))
      (parts_behind (scene_in run) run.answers killed.core (suc actors) actors more world (ap is_some kills.calls) behind_call)

  pub later : {core : Core} → IsLaterCore run parts (actors + 1) core → IsLater core
  later (in_round more) = round_later more
  later (behind_round more others) =
      (let n : parts + 1 + more ≡ parts + suc more = omega arith in
      let way = parts_later (parts + 1 + more) more n in
      by_end IsLater (parts_in (parts + 1 + more) run).ended (parts_in (parts + 1 + more) run) (round_to others (scene_in run) run.answers) way (round_to_comes (scene_in run) run.answers killed.core others (parts_in (parts + 1 + more) run).world way))
  later (at_end within) =
      (let n : run.budget + 1 ≡ parts + suc (run.budget - parts) = omega (arith, within) in
      subst IsLater (ap (λ (w : World). w.core) (sym (same_world (scene_in run) run.answers (run.budget + 1) (first_in run)))) (parts_later (run.budget + 1) (run.budget - parts) n))

pub killed_in_runs_are_unnamed : KilledInRunsAreUnnamed
killed_in_runs_are_unnamed run parts actors target kills core later_core = unnamed run parts actors target kills core (later run parts actors target kills later_core)
