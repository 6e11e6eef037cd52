-- What failures mean over runs.
use Rattle.std.proofs.Common.{◌≡◌, ◌≢◌, ℕ, zero, suc, ◌+◌, ◌==◌, Bool, true, false, cond, List, [], ◌∷◌, Option, None, Some, option_map, refl, ap, ◌∙◌}
use Rattle.sg_activity.specs.Underway.{due_in, hits, work_of}
use Rattle.sg_activity.specs.Task.{Task, phase_after, task_at}
use Rattle.sg_profile.specs.Profiles.{rows_due}
use Rattle.sg_route.specs.Roads.{Roads, roads_of}
use Rattle.sg_mailbox.specs.declared.owners.How.TheVariants as how
use Rattle.sg_kernel_calls.specs.declared.stop.Stop.{Stop}
use Rattle.sg_kernel_calls.specs.declared.stop.Stop.TheVariants.{Budget}
use Rattle.sg_kernel_calls.specs.Answers.{finishes}
use Rattle.sg_kernel.specs.Failures.{NothingOffIsUsed, UsesNothingOff}
use Rattle.sg_kernel.specs.Passes.{all_fail, changes, core_later, ends, ends_by, ends_in, ends_one, enters_one, entry_stretches, fails, next_span, pass_at, pass_of, settled, stretches}
use Rattle.sg_kernel.specs.Start.{capacities_in}
use Rattle.sg_kernel_calls.specs.Setup.{setup_of, Setup}
use Rattle.sg_kernel_calls.specs.Steps.{Step, and_then, all_of, counted, each, follows, goes_on, stops}
use Rattle.sg_kernel_calls.specs.World.{Core}
use Rattle.sg_kernel_calls.proofs.Finishes.{finishes_goes}
use Rattle.sg_kernel.proofs.Offs.{asks_clear, calls_clear, creates_clear, first_clear, passes_clear}
use Rattle.sg_engine.specs.World.{World}
use Rattle.sg_engine.specs.declared.ended.Ended.{Ended}
use Rattle.sg_engine.specs.declared.ended.Ended.TheVariants as ended
use Rattle.sg_engine.specs.Fuel.{parts_from}
use Rattle.sg_engine.specs.Run.{Scene, Answering, Progress, and_then_by, anyone_ready, are_completed, at_world, ended_by, in_world, round, round_or_pass, run_from}
use Rattle.sg_engine.specs.Run as engine
use Rattle.sg_kernel_laws.specs.failures.Others.{IsFit, MayTell, TellsFew}
use Rattle.sg_kernel_laws.proofs.failure_lemmas.Others.{no_other_fails}
use Rattle.sg_kernel_laws.proofs.actor_lemmas.Kept.{Kept}
use Rattle.sg_engine_laws.specs.awaits.Reached.{Reaches, here, calls, creates, asks, passes}
use Rattle.sg_engine_laws.specs.awaits.Runs.{Run, first_in, parts_in, round_to, run_to, scene_in}
use Rattle.sg_engine_laws.proofs.await_lemmas.Over.{anything}
use Rattle.sg_engine_laws.proofs.await_lemmas.Runs.{runs_are_reached}
use Rattle.sg_engine_laws.specs.changes.Failures.{NoOtherFailsInRuns, NothingOffIsUsedInRuns}
use Rattle.sg_engine_laws.proofs.change_lemmas.Parts.{Calling, KeptOn, on_then, parts_kept, round_kept, round_to_kept, run_kept}

-- ---- no other call is answered as failed
kept_few : (step : Step) → TellsFew step → Kept IsFit MayTell step
kept_few step few = record { holds = few.fit; made = few.made }

calling_fit : (at : Scene) → Calling at IsFit MayTell
calling_fit at = record {
  on_call = λ core actor what lives fit. kept_few _ (no_other_fails.calls at.roads at.setup core actor what fit);
  on_create = λ given actor target core lives fresh fit. kept_few _ (no_other_fails.creates given actor target core fit);
  on_ask = λ core actor action lives fit. kept_few _ (no_other_fails.asks at.setup core actor action fit);
}

passing_fit : (setup : Setup) (core : Core) → IsFit core → Kept IsFit MayTell (pass_of setup core)
passing_fit setup core fit = kept_few _ (no_other_fails.passes setup core fit)

first_fit : (run : Run) → IsFit (first_in run).core
first_fit run = no_other_fails.first (capacities_in run.platform) (setup_of run.platform run.deployed run.budget)

fit_reached : (roads : Roads) (setup : Setup) (start : Core) → IsFit start → {core : Core} → Reaches roads setup start core → IsFit core
fit_reached roads setup start fit here = fit
fit_reached roads setup start fit (calls {core = core} led actor what may) = (no_other_fails.calls roads setup core actor what (fit_reached roads setup start fit led)).fit
fit_reached roads setup start fit (creates {core = core} led given actor target may fresh) = (no_other_fails.creates given actor target core (fit_reached roads setup start fit led)).fit
fit_reached roads setup start fit (asks {core = core} led actor action may) = (no_other_fails.asks setup core actor action (fit_reached roads setup start fit led)).fit
fit_reached roads setup start fit (passes {core = core} led) = (no_other_fails.passes setup core (fit_reached roads setup start fit led)).fit

run_to_fit : (run : Run) (parts actors : ℕ) → KeptOn IsFit MayTell (run_to parts actors run)
run_to_fit run parts actors =
    let at = scene_in run in
    let first = parts_in parts run in
    on_then IsFit MayTell first (round_to actors at run.answers) (parts_kept at run.answers IsFit MayTell (calling_fit at) (passing_fit at.setup) parts (first_in run) (first_fit run))
    (round_to_kept at run.answers IsFit MayTell (calling_fit at) actors first.world)

pub no_other_fails_in_runs : NoOtherFailsInRuns
no_other_fails_in_runs = record {
  made = λ run. (let at = scene_in run in (run_kept at run.answers IsFit MayTell (calling_fit at) (passing_fit at.setup) (run.budget + 1) (first_in run) (first_fit run)).made);
  made_by = λ run parts actors. (run_to_fit run parts actors).made;
  fit = λ run core of_run. (let r = runs_are_reached run core of_run in fit_reached (roads_of run.platform) (setup_of run.platform run.deployed run.budget) _ (no_other_fails.first r.capacities (setup_of run.platform run.deployed run.budget)) r.way);
}

-- ---- only the budget stops a time advance once its date has come
abbrev OnlyBudget : Step → Type 0
OnlyBudget step = (why : Stop) → step.stop ≡ Some why → why ≡ Budget

only_on : (step : Step) → step.stop ≡ None → OnlyBudget step
only_on step on why e = absurd (cc (on, e))

only_unless : (b : Bool) (core : Core) (step : Step) → OnlyBudget step → OnlyBudget (cond b (stops core [] Budget) step)
only_unless true core step only = λ why e. cc e
only_unless false core step only = only

only_both : (first : Step) (next : Core → Step) → OnlyBudget first → OnlyBudget (next first.core) → OnlyBudget (and_then first next)
only_both first next one more = by first.stop refl
  where
    by : (o : Option Stop) → first.stop ≡ o → OnlyBudget (follows o first (next first.core))
    by None e = more
    by (Some why) e = one

only_each : {X : Type 0} (does : X → Core → Step) → ((x : X) (core : Core) → OnlyBudget (does x core)) → (xs : List X) (core : Core) → OnlyBudget (each does xs core)
unfolding each
only_each does one [] core = only_on (goes_on core []) refl
only_each does one (x ∷ xs) core = only_both (does x core) (each does xs) (one x core) (only_each does one xs (does x core).core)

only_two : (first second : Core → Step) (core : Core) → OnlyBudget (first core) → ((mid : Core) → OnlyBudget (second mid)) → OnlyBudget (all_of (first ∷ second ∷ []) core)
unfolding all_of
only_two first second core one two =
    let mid = (first core).core in
    only_both (first core) (all_of (second ∷ [])) one (only_both (second mid) (all_of []) (two mid) (only_on (goes_on (second mid).core []) refl))

only_fails : (setup : Setup) (serial : ℕ) (core : Core) → OnlyBudget (fails setup serial core)
only_fails setup serial core = only_unless (core.events == setup.budget) core (finishes how.Failed serial (counted core)) (only_on (finishes how.Failed serial (counted core)) (finishes_goes how.Failed serial (counted core)))

only_changes : (setup : Setup) (row : ℕ) (core : Core) → OnlyBudget (changes setup row core)
only_changes setup row core =
    only_unless (core.events == setup.budget) core (all_of (entry_stretches setup row) core)
    (only_two (enters_one setup row) (all_fail setup) core (only_on (enters_one setup row core) refl) (λ mid. only_each (fails setup) (only_fails setup) (hits mid.under) mid))

only_ends : (setup : Setup) (serial : ℕ) (core : Core) → OnlyBudget (ends setup serial core)
only_ends setup serial core = by (task_at core.under.tasks serial)
  where
    next : (after : Option Task) → OnlyBudget (ends_in serial after (counted core))
    next None = only_on (finishes how.Done serial (counted core)) (finishes_goes how.Done serial (counted core))
    next (Some task) = only_on (ends_in serial (Some task) (counted core)) refl

    by : (o : Option Task) → OnlyBudget (ends_by setup serial o core)
    by None = only_on (goes_on core []) refl
    by (Some task) = only_unless (core.events == setup.budget) core (ends_one serial core) (next (phase_after (task_at core.under.tasks serial)))

only_pass : (setup : Setup) (core : Core) (span : ℕ) → OnlyBudget (pass_at setup core (Some span))
only_pass setup core span =
    only_unless (core.events == setup.budget) core (all_of (stretches setup span core) (core_later span core))
    (only_two (each (changes setup) (rows_due (core.under.date + span) setup.profiles core.turns)) (each (ends setup) (due_in span core.under)) (core_later span core)
    (only_each (changes setup) (only_changes setup) (rows_due (core.under.date + span) setup.profiles core.turns) (core_later span core))
    (only_each (ends setup) (only_ends setup) (due_in span core.under)))

-- ---- nothing off is used
nothing_off : NothingOffIsUsed
nothing_off = record { first = first_clear; calls = calls_clear; creates = creates_clear; asks = asks_clear; passes = passes_clear }

-- after a stretch that the budget doesn't end no running activity uses what is off
abbrev Clears : Progress → Type 0
Clears progress = progress.ended ≢ Some ended.Budget → UsesNothingOff progress.world.core

clears_at : (setup : Setup) (core : Core) (span : Option ℕ) → UsesNothingOff core → ((pass_at setup core span).stop ≡ None → UsesNothingOff (pass_at setup core span).core) → (option_map ended_by (pass_at setup core span).stop ≢ Some ended.Budget) → UsesNothingOff (pass_at setup core span).core
clears_at setup core None none on spared = none
clears_at setup core (Some span) none on spared = by (pass_at setup core (Some span)).stop refl
  where
    by : (o : Option Stop) → (pass_at setup core (Some span)).stop ≡ o → UsesNothingOff (pass_at setup core (Some span)).core
    by None e = on e
    by (Some why) e = absurd (spared (ap (option_map ended_by) e ∙ ap (λ (w : Stop). Some (ended_by w)) (only_pass setup core span why e)))

module _ (at : Scene) (answers : Answering) where
  calling_clear : Calling at UsesNothingOff anything
  calling_clear = record {
    on_call = λ core actor what lives none. record { holds = nothing_off.calls at.roads at.setup core actor what none; made = λ i d within. tt };
    on_create = λ given actor target core lives fresh none. record { holds = nothing_off.creates given actor target core none; made = λ i d within. tt };
    on_ask = λ core actor action lives none. record { holds = nothing_off.asks at.setup core actor action none; made = λ i d within. tt };
  }

  clears_then : (first : Progress) (next : World → Progress) → Clears first → (UsesNothingOff first.world.core → Clears (next first.world)) → Clears (engine.then_unless_ended first next)
  clears_then first next one more = by first.ended refl
    where
      by : (o : Option Ended) → first.ended ≡ o → Clears (and_then_by o first next)
      by None e = more (one (λ is. absurd (cc (e, is))))
      by (Some why) e = one

  clears_either : (b : Bool) (x y : Progress) → Clears x → Clears y → Clears (cond b x y)
  clears_either true x y one other = one
  clears_either false x y one other = other

  part_clears : (world : World) → UsesNothingOff world.core → Clears (round_or_pass at answers world)
  part_clears world none =
      clears_either (anyone_ready world.core) (round at answers world) (in_world (record world { work = world.work + work_of world.core.under }) (pass_of at.setup world.core))
      (λ spared. (round_kept at answers UsesNothingOff anything calling_clear world none).holds)
      (clears_at at.setup (settled world.core) (next_span at.setup (settled world.core)) none (nothing_off.passes at.setup world.core none))

  parts_clear : (n : ℕ) (world : World) → UsesNothingOff world.core → Clears (parts_from n at answers world)
  unfolding parts_from
  parts_clear zero world none = λ spared. none
  parts_clear (suc n) world none =
      let first = round_or_pass at answers world in
      clears_either (are_completed world.core) (at_world (Some ended.Completed) world) (engine.then_unless_ended first (parts_from n at answers)) (λ spared. none)
      (clears_then first (parts_from n at answers) (part_clears world none) (parts_clear n first.world))

  run_clears : (n : ℕ) (world : World) → UsesNothingOff world.core → Clears (run_from n at answers world)
  unfolding run_from
  run_clears zero world none = λ spared. none
  run_clears (suc n) world none =
      let first = round_or_pass at answers world in
      clears_either (are_completed world.core) (at_world (Some ended.Completed) world) (engine.then_unless_ended first (run_from n at answers)) (λ spared. none)
      (clears_then first (run_from n at answers) (part_clears world none) (run_clears n first.world))

begins_clear : (run : Run) → UsesNothingOff (first_in run).core
begins_clear run = nothing_off.first (capacities_in run.platform) (setup_of run.platform run.deployed run.budget)

pub nothing_off_is_used_in_runs : NothingOffIsUsedInRuns
nothing_off_is_used_in_runs = record {
  behind = λ run parts. parts_clear (scene_in run) run.answers parts (first_in run) (begins_clear run);
  within = λ run parts actors. within run parts actors;
  last = λ run. run_clears (scene_in run) run.answers (run.budget + 1) (first_in run) (begins_clear run);
}
  where
    within : (run : Run) (parts actors : ℕ) → (parts_in parts run).ended ≡ None → UsesNothingOff (run_to parts actors run).world.core
    within run parts actors on = by first.ended refl
      where
        first : Progress
        first = parts_in parts run

        before : UsesNothingOff first.world.core
        before = parts_clear (scene_in run) run.answers parts (first_in run) (begins_clear run) (λ is. absurd (cc (on, is)))

        by : (o : Option Ended) → first.ended ≡ o → UsesNothingOff (and_then_by o first (round_to actors (scene_in run) run.answers)).world.core
        by None e = (round_to_kept (scene_in run) run.answers UsesNothingOff anything (calling_clear (scene_in run) run.answers) actors first.world before).holds
        by (Some why) e = before
