-- Each scheduling round and each time advance ends the run or adds an event, so that the run ends.
use Rattle.std.proofs.Common.{◌≡◌, ◌≢◌, ℕ, zero, suc, ◌+◌, ◌<◌, ◌≤◌, Bool, true, false, true≢false, cond, Option, None, Some, is_some, inl, inr, refl, sym, ap, subst, ◌∙◌, arith}
use Rattle.std.specs.Prelude.{IsSome}
use Rattle.std.proofs.lemmas.Bool.{cases_lt}
use Rattle.sg_activity.specs.Underway.{work_of}
use Rattle.sg_profile.specs.Ahead.{IsAhead}
use Rattle.sg_profile.specs.Profiles.{AreProfiles, profiles_in}
use Rattle.sg_profile.proofs.Ahead.{ahead_at_first}
use Rattle.sg_profile.proofs.Promises.{platforms_promise}
use Rattle.sg_platform_rows.specs.Platform.{IsPlatform, counts_of}
use Rattle.sg_kernel.specs.Passes.{pass_of}
use Rattle.sg_kernel_calls.specs.World.{Core}
use Rattle.sg_engine.specs.World.{World}
use Rattle.sg_engine.specs.declared.ended.Ended.{Ended}
use Rattle.sg_engine.specs.declared.ended.Ended.TheVariants as ended
use Rattle.sg_engine.specs.Fuel.{parts_from}
use Rattle.sg_engine.proofs.Fuel.{more_same}
use Rattle.sg_engine.specs.Run.{Scene, Answering, Progress, then_unless_ended, and_then_by, anyone_ready, are_completed, at_world, in_world, round, round_or_pass, run_from, with_front}
use Rattle.sg_engine_laws.specs.awaits.Runs.{IsCoreOf, Run, behind, first_in, last, parts_in, round_to, run_to, scene_in, whole, within}
use Rattle.sg_engine_laws.specs.endings.Ending.{BudgetsAreKept, GoesTo, HasEnd, KeepsBudget, MoreIsTheSame, PartsCount, RunsEnd, completes, ends, goes_on}
use Rattle.sg_engine_laws.proofs.ending_lemmas.Parts.{first_minded, part_follows}
use Rattle.sg_engine_laws.proofs.ending_lemmas.Passed.{pass_so}
use Rattle.sg_engine_laws.proofs.ending_lemmas.Rounds.{round_advances, round_stretch, round_to_stretch, turned}
use Rattle.sg_engine_laws.proofs.ending_lemmas.Stretches.{Minds, Stretch, ends_so, goes_so, minds_waits}

-- ---- what holds between scheduling rounds and time advances
-- no more events than the budget, no entry that is overdue, and a mind of each actor that has
-- begun
pub record Stands (at : Scene) (world : World) : Type 0 where
  pub within : world.core.events ≤ at.setup.budget
  pub ahead : IsAhead world.core.under.date at.setup.profiles world.core.turns
  pub minds : Minds at world

-- the count doesn't fall, and is the budget if that ends the run
pub record Counts (at : Scene) (before : World) (p : Progress) : Type 0 where
  pub stands : Stands at p.world
  pub more : before.core.events ≤ p.world.core.events
  pub used : p.ended ≡ Some ended.Budget → p.world.core.events ≡ at.setup.budget

-- and it rises, if the run continues
pub record Rises (at : Scene) (before : World) (p : Progress) : Type 0 where
  pub counts : Counts at before p
  pub advances : p.ended ≡ None → before.core.events < p.world.core.events

counts_here : (at : Scene) (world : World) (how : Option Ended) → how ≢ Some ended.Budget → Stands at world → Counts at world (at_world how world)
counts_here at world how other s = record { stands = s; more = omega arith; used = λ e. absurd (other e) }

round_counts : (at : Scene) (world after : World) (p : Progress) → after.core ≡ world.core → Stretch at after p → Stands at world → p.world ≡ p.world → Counts at world p
round_counts at world after p core t s same = record {
  stands = record {
    within = t.within (subst (λ (c : Core). c.events ≤ at.setup.budget) (sym core) s.within);
    ahead = subst (λ (d : ℕ). IsAhead d at.setup.profiles p.world.core.turns) (sym (t.date ∙ ap (λ (c : Core). c.under.date) core))
        (subst (IsAhead world.core.under.date at.setup.profiles) (sym (t.turns ∙ ap (λ (c : Core). c.turns) core)) s.ahead);
    minds = t.minds;
  };
  more = omega (arith, t.more, ap (λ (c : Core). c.events) core);
  used = t.used;
}

module _ (at : Scene) (answers : Answering) (hosts links : ℕ) (are : AreProfiles hosts links at.setup.profiles) where
  round_rises : (world : World) → Stands at world → anyone_ready world.core ≡ true → Rises at world (round at answers world)
  round_rises world s ready = record {
    counts = round_counts at world (turned world) (round at answers world) refl (round_stretch at answers world s.minds) s refl;
    advances = round_advances at answers world s.minds ready;
  }

  pass_rises : (world : World) → Stands at world → Minds at (in_world (record world { work = world.work + work_of world.core.under }) (pass_of at.setup world.core)).world →
      Rises at world (in_world (record world { work = world.work + work_of world.core.under }) (pass_of at.setup world.core))
  pass_rises world s minds =
      let p = pass_so at.setup hosts links are world.core (minds_waits at world s.minds) s.within s.ahead in
      let step = pass_of at.setup world.core in
      record {
        counts = record {
          stands = record { within = p.within; ahead = p.ahead; minds = minds };
          more = p.more;
          used = λ e. p.used (ends_so step.stop e);
        };
        advances = λ e. p.advances (goes_so step.stop e);
      }

  pub part_rises : (world : World) → Stands at world → Rises at world (round_or_pass at answers world)
  part_rises world s = by (anyone_ready world.core) refl (part_follows at answers world s.minds).minds
    where
      pass : Progress
      pass = in_world (record world { work = world.work + work_of world.core.under }) (pass_of at.setup world.core)

      by : (b : Bool) → anyone_ready world.core ≡ b → Minds at (cond b (round at answers world) pass).world → Rises at world (cond b (round at answers world) pass)
      by true ready minds = round_rises world s ready
      by false idle minds = pass_rises world s minds

  -- the scheduling round or time advance of a world
  abbrev part : World → Progress
  part world = round_or_pass at answers world

  -- ---- part by part
  counts_then : (world : World) (how : Option Ended) (first : Progress) (next : World → Progress) → Counts at world first → Counts at first.world (next first.world) → first.ended ≡ how → Counts at world (and_then_by how first next)
  counts_then world None first next c d e = record { stands = d.stands; more = omega (arith, c.more, d.more); used = d.used }
  counts_then world (Some how) first next c d e = record { stands = c.stands; more = c.more; used = c.used }

  counts_by : (world : World) (b : Bool) (x y : Progress) → Counts at world x → Counts at world y → Counts at world (cond b x y)
  counts_by world true x y c d = c
  counts_by world false x y c d = d

  completed : (world : World) → Stands at world → Counts at world (at_world (Some ended.Completed) world)
  completed world s = counts_here at world (Some ended.Completed) (λ e. cc e) s

  pub parts_count : (n : ℕ) (world : World) → Stands at world → Counts at world (parts_from n at answers world)
  unfolding parts_from
  parts_count zero world s = counts_here at world None (λ e. cc e) s
  parts_count (suc n) world s =
      let first = part world in
      let r = part_rises world s in
      counts_by world (are_completed world.core) (at_world (Some ended.Completed) world) (then_unless_ended first (parts_from n at answers)) (completed world s)
      (counts_then world first.ended first (parts_from n at answers) r.counts (parts_count n first.world r.counts.stands) refl)

  pub round_to_counts : (n : ℕ) (world : World) → Stands at world → Counts at world (round_to n at answers world)
  round_to_counts n world s = round_counts at world (turned world) (round_to n at answers world) refl (round_to_stretch at answers n world s.minds) s refl

  -- so many parts are enough
  pub parts_end : (n : ℕ) (world : World) → Stands at world → at.setup.budget < world.core.events + n → IsSome (parts_from n at answers world).ended
  unfolding parts_from
  parts_end zero world s enough = absurd (omega (arith, enough, s.within))
  parts_end (suc n) world s enough = over (are_completed world.core) (parts_end n (part world).world)
    where
      by : (how : Option Ended) → (part world).ended ≡ how → (Stands at (part world).world → at.setup.budget < (part world).world.core.events + n → IsSome (parts_from n at answers (part world).world).ended) → IsSome (and_then_by how (part world) (parts_from n at answers)).ended
      by None e more = (let r = part_rises world s in more r.counts.stands (omega (arith, enough, r.advances e)))
      by (Some how) e more = ap is_some e

      over : (b : Bool) → (Stands at (part world).world → at.setup.budget < (part world).world.core.events + n → IsSome (parts_from n at answers (part world).world).ended) →
          IsSome (cond b (at_world (Some ended.Completed) world) (and_then_by (part world).ended (part world) (parts_from n at answers))).ended
      over true more = refl
      over false more = by (part world).ended refl more

  -- ---- it continues until it ends
  pub goes_there : (n : ℕ) (world : World) → IsSome (parts_from n at answers world).ended → GoesTo at answers world (parts_from n at answers world)
  unfolding parts_from
  goes_there zero world some = absurd (cc some)
  goes_there (suc n) world some = over (are_completed world.core) refl some (goes_there n (part world).world)
    where
      by : (how : Option Ended) → (part world).ended ≡ how → are_completed world.core ≡ false → IsSome (and_then_by how (part world) (parts_from n at answers)).ended →
          (IsSome (parts_from n at answers (part world).world).ended → GoesTo at answers (part world).world (parts_from n at answers (part world).world)) → GoesTo at answers world (and_then_by how (part world) (parts_from n at answers))
      by None e going is more = goes_on going e (more is)
      by (Some how) e going is more = ends going (ap is_some e)

      over : (b : Bool) → are_completed world.core ≡ b → IsSome (cond b (at_world (Some ended.Completed) world) (and_then_by (part world).ended (part world) (parts_from n at answers))).ended →
          (IsSome (parts_from n at answers (part world).world).ended → GoesTo at answers (part world).world (parts_from n at answers (part world).world)) →
          GoesTo at answers world (cond b (at_world (Some ended.Completed) world) (and_then_by (part world).ended (part world) (parts_from n at answers)))
      over true e is more = completes e
      over false e is more = by (part world).ended refl e is more

  -- ---- one part more
  pub rise_by : (n : ℕ) (world : World) → Stands at world → (parts_from (suc n) at answers world).ended ≡ None →
      (parts_from n at answers world).world.core.events < (parts_from (suc n) at answers world).world.core.events
  unfolding parts_from
  rise_by zero world s on = over (are_completed world.core) on
    where
      by : (how : Option Ended) → (part world).ended ≡ how → (and_then_by how (part world) (at_world None)).ended ≡ None → world.core.events < (and_then_by how (part world) (at_world None)).world.core.events
      by None e on = (part_rises world s).advances e
      by (Some how) e on = absurd (cc (sym e ∙ on))

      over : (b : Bool) → (cond b (at_world (Some ended.Completed) world) (and_then_by (part world).ended (part world) (at_world None))).ended ≡ None → world.core.events < (cond b (at_world (Some ended.Completed) world) (and_then_by (part world).ended (part world) (at_world None))).world.core.events
      over true on = absurd (cc on)
      over false on = by (part world).ended refl on
  rise_by (suc n) world s on = over (are_completed world.core) (rise_by n (part world).world) on
    where
      by : (how : Option Ended) → (part world).ended ≡ how → (Stands at (part world).world → (parts_from (suc n) at answers (part world).world).ended ≡ None → (parts_from n at answers (part world).world).world.core.events < (parts_from (suc n) at answers (part world).world).world.core.events) → (and_then_by how (part world) (parts_from (suc n) at answers)).ended ≡ None → (and_then_by how (part world) (parts_from n at answers)).world.core.events < (and_then_by how (part world) (parts_from (suc n) at answers)).world.core.events
      by None e more on = more (part_rises world s).counts.stands on
      by (Some how) e more on = absurd (cc (sym e ∙ on))

      over : (b : Bool) → (Stands at (part world).world → (parts_from (suc n) at answers (part world).world).ended ≡ None → (parts_from n at answers (part world).world).world.core.events < (parts_from (suc n) at answers (part world).world).world.core.events) → (cond b (at_world (Some ended.Completed) world) (and_then_by (part world).ended (part world) (parts_from (suc n) at answers))).ended ≡ None →
          (cond b (at_world (Some ended.Completed) world) (and_then_by (part world).ended (part world) (parts_from n at answers))).world.core.events < (cond b (at_world (Some ended.Completed) world) (and_then_by (part world).ended (part world) (parts_from (suc n) at answers))).world.core.events
      over true more on = absurd (cc on)
      over false more on = by (part world).ended refl more on

none_or_some : (o : Option Ended) → o ≡ None → IsSome o → ⊥
none_or_some None e some = cc some
none_or_some (Some how) e some = cc e

-- and goes nowhere else
pub goes_alone : (at : Scene) (answers : Answering) (world : World) (one other : Progress) → GoesTo at answers world one → GoesTo at answers world other → other ≡ one
goes_alone at answers world one other (completes a) (completes b) = refl
goes_alone at answers world one other (completes a) (ends going some) = absurd (true≢false (sym a ∙ going))
goes_alone at answers world one other (completes a) (goes_on going on rest) = absurd (true≢false (sym a ∙ going))
goes_alone at answers world one other (ends going some) (completes b) = absurd (true≢false (sym b ∙ going))
goes_alone at answers world one other (ends going some) (ends going' some') = refl
goes_alone at answers world one other (ends going some) (goes_on going' on rest) = absurd (none_or_some (round_or_pass at answers world).ended on some)
goes_alone at answers world one other (goes_on going on rest) (completes b) = absurd (true≢false (sym b ∙ going))
goes_alone at answers world one other (goes_on going on rest) (ends going' some) = absurd (none_or_some (round_or_pass at answers world).ended on some)
goes_alone at answers world one other (goes_on {rest = first} going on rest) (goes_on {rest = second} going' on' rest') =
    ap (with_front (round_or_pass at answers world).made) (goes_alone at answers (round_or_pass at answers world).world first second rest rest')

-- ---- runs
module _ (run : Run) (is : IsPlatform run.platform) where
  pub are : AreProfiles (counts_of run.platform).hosts (counts_of run.platform).links (profiles_in run.platform)
  are = platforms_promise run.platform is

  first_stands : Stands (scene_in run) (first_in run)
  first_stands = record {
    within = omega arith;
    ahead = ahead_at_first (counts_of run.platform).hosts (counts_of run.platform).links (profiles_in run.platform) are;
    minds = first_minded run;
  }

  ended_so : IsSome (parts_in (run.budget + 1) run).ended
  ended_so = parts_end (scene_in run) run.answers (counts_of run.platform).hosts (counts_of run.platform).links are (run.budget + 1) (first_in run) first_stands (omega arith)

  more_so : (more : ℕ) → run_from (run.budget + 1 + more) (scene_in run) run.answers (first_in run) ≡ parts_in (run.budget + 1) run
  more_so more = more_same (run.budget + 1) more (scene_in run) run.answers (first_in run) ended_so

  pub whole_so : whole run ≡ parts_in (run.budget + 1) run
  whole_so = (let z : run.budget + 1 ≡ run.budget + 1 + 0 = omega arith in ap (λ (n : ℕ). run_from n (scene_in run) run.answers (first_in run)) z) ∙ more_so 0

  parts_in_count : (parts : ℕ) → Counts (scene_in run) (first_in run) (parts_in parts run)
  parts_in_count parts = parts_count (scene_in run) run.answers (counts_of run.platform).hosts (counts_of run.platform).links are parts (first_in run) first_stands

  -- each of them is an event
  pub parts_few : (parts : ℕ) → (parts_in parts run).ended ≡ None → parts ≤ run.budget
  parts_few parts on = elim (cases_lt run.budget parts) [
    | inl more ↦ absurd (none_or_some (parts_in parts run).ended on (parts_end (scene_in run) run.answers (counts_of run.platform).hosts (counts_of run.platform).links are parts (first_in run) first_stands (omega (arith, more))))
    | inr few ↦ few
  ]

  whole_counts : Counts (scene_in run) (first_in run) (whole run)
  whole_counts = subst (Counts (scene_in run) (first_in run)) (sym whole_so) (parts_in_count (run.budget + 1))

  run_to_counts : (parts actors : ℕ) → Counts (scene_in run) (first_in run) (run_to parts actors run)
  run_to_counts parts actors =
      let c = parts_in_count parts in
      counts_then (scene_in run) run.answers (counts_of run.platform).hosts (counts_of run.platform).links are (first_in run) (parts_in parts run).ended (parts_in parts run) (round_to actors (scene_in run) run.answers) c
      (round_to_counts (scene_in run) run.answers (counts_of run.platform).hosts (counts_of run.platform).links are actors (parts_in parts run).world c.stands) refl

  run_goes : GoesTo (scene_in run) run.answers (first_in run) (whole run)
  run_goes = subst (GoesTo (scene_in run) run.answers (first_in run)) (sym whole_so)
      (goes_there (scene_in run) run.answers (counts_of run.platform).hosts (counts_of run.platform).links are (run.budget + 1) (first_in run) ended_so)

  pub run_ends : HasEnd run
  run_ends = record {
    goes = run_goes;
    alone = λ other there. goes_alone (scene_in run) run.answers (first_in run) (whole run) other run_goes there;
    ended = ap (λ (p : Progress). is_some p.ended) whole_so ∙ ended_so;
  }

  pub same_with_more : (more : ℕ) → run_from (run.budget + 1 + more) (scene_in run) run.answers (first_in run) ≡ whole run
  same_with_more more = more_so more ∙ sym whole_so

  core_within : {core : Core} → IsCoreOf run core → core.events ≤ run.budget
  core_within (behind parts) = (parts_in_count parts).stands.within
  core_within (within parts actors) = (run_to_counts parts actors).stands.within
  core_within last = whole_counts.stands.within

  pub budget_kept : KeepsBudget run
  budget_kept = record { within = λ core of_run. core_within of_run; used = whole_counts.used }

-- ---- the laws
pub runs_end : RunsEnd
runs_end run is = run_ends run is

pub more_is_the_same : MoreIsTheSame
more_is_the_same run more is = same_with_more run is more

pub parts_count_up : PartsCount
parts_count_up run parts is on =
    let next : suc parts ≡ parts + 1 = omega arith in
    let on' : (parts_in (suc parts) run).ended ≡ None = ap (λ (n : ℕ). (parts_in n run).ended) next ∙ on in
    subst (λ (n : ℕ). (parts_in parts run).world.core.events < (parts_in n run).world.core.events) next
    (rise_by (scene_in run) run.answers (counts_of run.platform).hosts (counts_of run.platform).links (are run is) parts (first_in run) (first_stands run is) on')

pub budgets_are_kept : BudgetsAreKept
budgets_are_kept run is = budget_kept run is
