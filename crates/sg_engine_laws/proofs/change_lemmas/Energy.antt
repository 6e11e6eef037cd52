-- The energy of a host is the sum, over a run, of its power.
use Rattle.std.proofs.Common.{◌≡◌, ℕ, zero, suc, ◌+◌, ◌*◌, ◌<◌, List, length, get_or, Option, None, Some, is_some, refl, sym, ap, subst, ◌∙◌, arith}
use Rattle.std.proofs.lemmas.List.{get_or-replicate, length-map, length-replicate}
use Rattle.sg_activity.specs.Underway.{power_at, work_of}
use Rattle.sg_kernel.specs.Passes.{pass_of}
use Rattle.sg_kernel.specs.Start.{capacities_in}
use Rattle.sg_kernel_calls.specs.Setup.{host_cap}
use Rattle.sg_kernel_calls.specs.World.{Core}
use Rattle.sg_engine.specs.World.{World}
use Rattle.sg_engine.specs.declared.ended.Ended.{Ended}
use Rattle.sg_engine.specs.declared.ended.Ended.TheVariants as ended
use Rattle.sg_engine.specs.Fuel.{parts_from}
use Rattle.sg_engine.specs.Run.{Scene, Answering, Progress, then_unless_ended, anyone_ready, are_completed, at_world, in_world, round, round_or_pass}
use Rattle.sg_engine.proofs.Fuel.{more_same}
use Rattle.sg_engine_laws.specs.awaits.Runs.{Run, first_in, parts_in, round_to, run_to, scene_in, whole}
use Rattle.sg_engine_laws.proofs.await_lemmas.Later.{parts_add, same_world}
use Rattle.sg_engine_laws.proofs.await_lemmas.Over.{anything}
use Rattle.sg_engine_laws.proofs.await_lemmas.Rounds.{by_end, by_test}
use Rattle.sg_engine_laws.specs.changes.Energy.{EnergyIsSum, energy_of, span_behind, under_behind, used_behind, used_by}
use Rattle.sg_engine_laws.proofs.change_lemmas.Parts.{Calling, round_kept, round_to_kept}
use Rattle.sg_engine_laws.proofs.change_lemmas.Around.{answered_then, created_then, told_then}
use Rattle.sg_engine_laws.proofs.change_lemmas.Timing.{IsThen, Passes, anyone, at_rest, lasting_then, pass_passes, served_then}

-- ---- scheduling rounds
abbrev IsThenIn : ℕ → List ℕ → Core → Type 0
IsThenIn date energy core = IsThen date energy core.under core.objects

calling_then : (at : Scene) (date : ℕ) (energy : List ℕ) → Calling at (IsThenIn date energy) anything
calling_then at date energy = (let R = IsThen date energy in record {
  on_call = λ core actor what lives p. answered_then R (lasting_then date energy) anyone (served_then date energy) at.roads at.setup core actor tt what p;
  on_create = λ given actor target core lives fresh p. created_then R (lasting_then date energy) anyone (served_then date energy) given actor target core p;
  on_ask = λ core actor action lives p. told_then R (lasting_then date energy) anyone (served_then date energy) at.setup core actor action p;
})

module _ (at : Scene) (answers : Answering) where
  round_to_then : (actors : ℕ) (world : World) → IsThenIn world.core.under.date world.core.under.energy (round_to actors at answers world).world.core
  round_to_then actors world =
      let date = world.core.under.date in
      let energy = world.core.under.energy in
      (round_to_kept at answers (IsThenIn date energy) anything (calling_then at date energy) actors world (refl, refl)).holds

  round_passes : (world : World) → Passes world.core.under (round at answers world).world.core.under
  round_passes world =
      let date = world.core.under.date in
      let energy = world.core.under.energy in
      let k = (round_kept at answers (IsThenIn date energy) anything (calling_then at date energy) world (refl, refl)).holds in
      at_rest world.core.under (round at answers world).world.core.under k.0 k.1

  -- ---- one scheduling round or one time advance
  part_passes : (world : World) → Passes world.core.under (round_or_pass at answers world).world.core.under
  part_passes world =
      by_test (λ (c : Core). Passes world.core.under c.under) (anyone_ready world.core) (round at answers world) (in_world (record world { work = world.work + work_of world.core.under }) (pass_of at.setup world.core))
      (round_passes world) (pass_passes at.setup world.core)

  one_passes : (world : World) → Passes world.core.under (parts_from 1 at answers world).world.core.under
  unfolding parts_from
  one_passes world =
      let first = round_or_pass at answers world in
      let Comes = (λ (c : Core). Passes world.core.under c.under) in
      by_test Comes (are_completed world.core) (at_world (Some ended.Completed) world) (then_unless_ended first (parts_from 0 at answers)) (at_rest world.core.under world.core.under refl refl)
      (by_end Comes first.ended first (parts_from 0 at answers) (part_passes world) (part_passes world))

  -- after so many of them another one
  next_passes : (n : ℕ) (world : World) → Passes (parts_from n at answers world).world.core.under (parts_from (n + 1) at answers world).world.core.under
  next_passes n world = by (parts_from n at answers world).ended refl
    where
      now : World
      now = (parts_from n at answers world).world

      by : (o : Option Ended) → (parts_from n at answers world).ended ≡ o → Passes now.core.under (parts_from (n + 1) at answers world).world.core.under
      by None e = subst (λ (w : World). Passes now.core.under w.core.under) (sym (parts_add at answers n 1 (n + 1) world refl e)) (one_passes now)
      by (Some why) e =
          let same : (parts_from (n + 1) at answers world).world ≡ now =
          sym (same_world at answers (n + 1) world) ∙ ap (λ (p : Progress). p.world) (more_same n 1 at answers world (ap is_some e)) in
          at_rest now.core.under (parts_from (n + 1) at answers world).world.core.under (ap (λ (w : World). w.core.under.date) same) (ap (λ (w : World). w.core.under.energy) same)

-- ---- a run
module _ (run : Run) where
  next_in : (parts : ℕ) → Passes (under_behind parts run) (under_behind (parts + 1) run)
  next_in parts = next_passes (scene_in run) run.answers parts (first_in run)

  hosts_long : (parts : ℕ) → length (under_behind parts run).energy ≡ length run.platform.hosts
  unfolding parts_from
  hosts_long zero = length-replicate (length (capacities_in run.platform).hosts) 0 ∙ length-map run.platform.hosts host_cap
  hosts_long (suc parts) =
      let next : suc parts ≡ parts + 1 = omega arith in
      ap (λ (n : ℕ). length (under_behind n run).energy) next ∙ (next_in parts).long ∙ hosts_long parts

  sums : (parts host : ℕ) → host < length run.platform.hosts → energy_of (under_behind parts run) host ≡ used_by parts run host
  unfolding parts_from used_by
  sums zero host within = get_or-replicate (length (capacities_in run.platform).hosts) host 0 0 (omega (arith, within, length-map run.platform.hosts host_cap))
  sums (suc parts) host within =
      let next : suc parts ≡ parts + 1 = omega arith in
      let p = next_in parts in
      let span : p.span ≡ span_behind parts run = omega (arith, p.date) in
      ap (λ (n : ℕ). energy_of (under_behind n run) host) next
      ∙ p.energy host (omega (arith, within, hosts_long parts))
      ∙ ap (λ (w : ℕ). energy_of (under_behind parts run) host + power_at (under_behind parts run) host * w) span
      ∙ ap (λ (e : ℕ). e + used_behind parts run host) (sums parts host within)

  rounds : (parts actors : ℕ) → IsThenIn (under_behind parts run).date (under_behind parts run).energy (run_to parts actors run).world.core
  rounds parts actors =
      let first = parts_in parts run in
      by_end (IsThenIn (under_behind parts run).date (under_behind parts run).energy) first.ended first (round_to actors (scene_in run) run.answers) (refl, refl)
      (round_to_then (scene_in run) run.answers actors first.world)

  ends : (host : ℕ) → host < length run.platform.hosts → energy_of (whole run).world.core.under host ≡ used_by (run.budget + 1) run host
  ends host within = ap (λ (w : World). energy_of w.core.under host) (same_world (scene_in run) run.answers (run.budget + 1) (first_in run)) ∙ sums (run.budget + 1) host within

pub energy_is_sum : EnergyIsSum
energy_is_sum = record {
  rises = λ run parts. omega (arith, (next_in run parts).date);
  behind = λ run parts host within. sums run parts host within;
  within = λ run parts actors host within. ap (λ (e : List ℕ). get_or e host 0) (rounds run parts actors).1 ∙ sums run parts host within;
  instant = λ run parts actors. (rounds run parts actors).0;
  last = λ run host within. ends run host within;
}
