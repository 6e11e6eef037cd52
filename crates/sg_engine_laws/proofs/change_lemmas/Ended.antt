-- An actor that has ended stays so to the end of the run.
use Rattle.std.proofs.Common.{◌≡◌, ◌+◌, ◌-◌, ◌∙◌, ℕ, suc, false, true≢false, sym, ap, refl, List, arith}
use Rattle.sg_base.specs.declared.awaits.Await.{Await}
use Rattle.sg_requests.specs.Requested.{queue_at}
use Rattle.sg_actor_states.specs.Actors.{is_ended}
use Rattle.sg_kernel.specs.Passes.{pass_of}
use Rattle.sg_kernel_calls.specs.Setup.{Setup}
use Rattle.sg_kernel_calls.specs.World.{Core, state_of}
use Rattle.sg_engine.specs.Run.{Progress, Scene, run_from}
use Rattle.sg_kernel_laws.specs.actors.Dead.{IsOfAnother}
use Rattle.sg_kernel_laws.proofs.actor_lemmas.Dead.{IsDead, answered_spares, dead_rests, told_spares}
use Rattle.sg_kernel_laws.proofs.actor_lemmas.Kept.{Kept, finishes_kept, pass_kept}
use Rattle.sg_kernel_laws.proofs.actor_lemmas.Others.{Apart, Stays, apart_fresh, closed, create_spares, flowing, same_state}
use Rattle.sg_engine_laws.specs.awaits.Runs.{Run, first_in, parts_in, round_to, run_to, scene_in}
use Rattle.sg_engine_laws.specs.changes.Ended.{EndedActorsStayEnded, IsLater, at_end, behind_round, in_round}
use Rattle.sg_engine_laws.proofs.change_lemmas.Extended.{Extends, after_extends, part_extends, parts_extend, round_extends, round_to_extends, run_extends, then_extends}
use Rattle.sg_engine_laws.proofs.change_lemmas.Parts.{Calling}

module _ (dead : ℕ) (queue : List Await) where
  -- it has ended, with these requests
  abbrev Rest : Core → Type 0
  Rest core = Stays dead (IsDead queue) core

  -- who calls has not
  apart_caller : (core : Core) (actor : ℕ) → is_ended (state_of core actor) ≡ false → Rest core → Apart dead actor
  apart_caller core actor lives rest same = true≢false (sym (ap is_ended (sym (same_state core.actors dead actor same) ∙ rest.0)) ∙ lives)

  calling : (at : Scene) → Calling at Rest (IsOfAnother dead)
  calling at = record {
    on_call = λ core actor what lives rest. answered_spares at.roads at.setup core actor dead (IsDead queue) (dead_rests queue) what (apart_caller core actor lives rest) rest;
    on_create = λ given actor target core lives fresh rest.
        create_spares given actor dead (IsDead queue) (dead_rests queue) target core (apart_caller core actor lives rest) (λ is. apart_fresh core target.0 dead (IsDead queue) (dead_rests queue) (fresh is) rest) rest;
    on_ask = λ core actor action lives rest. told_spares at.setup core actor dead (IsDead queue) action (apart_caller core actor lives rest) rest;
  }

  passing : (setup : Setup) (core : Core) → Rest core → Kept Rest (IsOfAnother dead) (pass_of setup core)
  passing setup core rest = pass_kept Rest (IsOfAnother dead) (finishes_kept Rest (IsOfAnother dead) (closed dead (IsDead queue) (dead_rests queue))) (flowing dead (IsDead queue) (dead_rests queue)) setup core rest

module _ (run : Run) (parts actors dead : ℕ) (queue : List Await) (rest : Rest dead queue (run_to parts actors run).world.core) where
  abbrev Longer : Progress → Progress → Type 0
  Longer before after = Extends (Rest dead queue) (IsOfAnother dead) before after

  called : Calling (scene_in run) (Rest dead queue) (IsOfAnother dead)
  called = calling dead queue (scene_in run)

  passed : (core : Core) → Rest dead queue core → Kept (Rest dead queue) (IsOfAnother dead) (pass_of (scene_in run).setup core)
  passed = passing dead queue (scene_in run).setup

  next_part : Longer (run_to parts actors run) (parts_in (suc parts) run)
  next_part = part_extends (scene_in run) run.answers (Rest dead queue) (IsOfAnother dead) called passed parts actors (first_in run) rest

  more_parts : (n more : ℕ) → n ≡ suc parts + more → Longer (run_to parts actors run) (parts_in n run)
  more_parts n more is =
      then_extends (Rest dead queue) (IsOfAnother dead) (run_to parts actors run) (parts_in (suc parts) run) (parts_in n run) next_part
      (parts_extend (scene_in run) run.answers (Rest dead queue) (IsOfAnother dead) called passed (suc parts) more n (first_in run) is next_part.holds)

  longer : {later : Progress} → IsLater run parts actors later → Longer (run_to parts actors run) later
  longer (in_round more) =
      after_extends (Rest dead queue) (IsOfAnother dead) (parts_in parts run).ended (parts_in parts run) (round_to actors (scene_in run) run.answers) (round_to (actors + more) (scene_in run) run.answers) rest
      (round_extends (scene_in run) run.answers (Rest dead queue) (IsOfAnother dead) called actors (actors + more) (parts_in parts run).world (omega arith))
  longer (behind_round more others) =
      (let e : parts + 1 + more ≡ suc parts + more = omega arith in
      let there = more_parts (parts + 1 + more) more e in
      then_extends (Rest dead queue) (IsOfAnother dead) (run_to parts actors run) (parts_in (parts + 1 + more) run) (run_to (parts + 1 + more) others run) there
      (round_to_extends (scene_in run) run.answers (Rest dead queue) (IsOfAnother dead) called passed others (parts_in (parts + 1 + more) run) there.holds))
  longer (at_end within) =
      (let e : run.budget + 1 ≡ suc parts + (run.budget - parts) = omega (arith, within) in
      let there = more_parts (run.budget + 1) (run.budget - parts) e in
      then_extends (Rest dead queue) (IsOfAnother dead) (run_to parts actors run) (parts_in (run.budget + 1) run) (run_from (run.budget + 1) (scene_in run) run.answers (first_in run)) there
      (run_extends (scene_in run) run.answers (Rest dead queue) (IsOfAnother dead) called passed (run.budget + 1) (first_in run) there.holds))

pub ended_actors_stay_ended : EndedActorsStayEnded
ended_actors_stay_ended run parts actors dead has later is =
    let queue = queue_at (run_to parts actors run).world.core.requests dead in
    let e = longer run parts actors dead queue (has, refl) is in
    record { ended = e.holds.0; requests = e.holds.1; more = e.more; made = e.made; silent = e.all }
