-- Who is answered in a run that its call failed.
use Rattle.std.proofs.Common.{◌≡◌, ◌⊎◌, ℕ, zero, suc, ◌+◌, ◌-◌, Bool, true, false, inl, inr, List, [], ◌∷◌, ◌++◌, get_or, map, subst}
use Rattle.std.specs.List.{All}
use Rattle.std.proofs.lemmas.List.Elements.{All-head, All-tail}
use Rattle.sg_base.specs.declared.call.Answer.TheVariants as answer
use Rattle.sg_base.specs.declared.trace_record.Record.{Record}
use Rattle.sg_platform_rows.specs.Deployment.{starts}
use Rattle.sg_actor_states.specs.declared.state.State.TheVariants.{Ready, Ended}
use Rattle.sg_actor_states.specs.Actors.{first_actor, not_suspended}
use Rattle.sg_kernel_calls.specs.World.{state_of}
use Rattle.sg_engine.specs.Run.{Progress}
use Rattle.sg_kernel_laws.specs.failures.Answers.{FailuresHaveRecords, HasFailed}
use Rattle.sg_kernel_laws.specs.failures.Others.{MayTell}
use Rattle.sg_kernel_laws.proofs.failure_lemmas.Answers.{told_calling}
use Rattle.sg_engine_laws.specs.awaits.Runs.{Run, first_in, parts_in, round_to, scene_in}
use Rattle.sg_engine_laws.specs.changes.Answers.{AreFailedCalls, IsFailedCall, FailedAnswersHaveRecordsInRuns}
use Rattle.sg_engine_laws.proofs.change_lemmas.Along.{parts_go, round_to_goes, run_goes, then_goes}
use Rattle.sg_engine_laws.proofs.change_lemmas.Failures.{no_other_fails_in_runs}

-- nobody has failed at first
first_fine : (starting : List Bool) (i : ℕ) → (get_or (map first_actor starting) i (not_suspended Ended)).state ≡ Ready answer.Failed → ⊥
first_fine [] i e = cc e
first_fine (true ∷ starting) zero e = cc e
first_fine (false ∷ starting) zero e = cc e
first_fine (b ∷ starting) (suc i) e = first_fine starting i e

-- what holds of all holds of one among them
one_of : (P : Record → Type 0) (front : List Record) (own : Record) (back : List Record) → All P (front ++ own ∷ back) → P own
one_of P [] own back all = All-head P own back all
one_of P (r ∷ front) own back all = one_of P front own back (All-tail P r (front ++ own ∷ back) all)

from_first : (run : Run) (progress : Progress) → FailuresHaveRecords (first_in run).core progress.world.core progress.made → All MayTell progress.made → AreFailedCalls progress
from_first run progress goes all actor is = by (goes actor is)
  where
    by : (state_of (first_in run).core actor ≡ Ready answer.Failed) ⊎ HasFailed actor progress.made → IsFailedCall actor progress
    by (inl first) = absurd (first_fine (map starts run.deployed.actors) (actor - 1) first)
    by (inr h) = record { told = h; call = one_of MayTell h.front h.own h.back (subst (All MayTell) h.among all) h.fails }

pub failed_answers_have_records_in_runs : FailedAnswersHaveRecordsInRuns
failed_answers_have_records_in_runs = record {
  within = λ run parts actors. from_first run _
      (then_goes (scene_in run) run.answers FailuresHaveRecords told_calling (first_in run).core (parts_in parts run) (round_to actors (scene_in run) run.answers)
      (parts_go (scene_in run) run.answers FailuresHaveRecords told_calling parts (first_in run)) (round_to_goes (scene_in run) run.answers FailuresHaveRecords told_calling actors (parts_in parts run).world))
      (no_other_fails_in_runs.made_by run parts actors);
  last = λ run. from_first run _ (run_goes (scene_in run) run.answers FailuresHaveRecords told_calling (run.budget + 1) (first_in run)) (no_other_fails_in_runs.made run);
}
