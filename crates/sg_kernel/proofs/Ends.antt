-- Phases end one after another.
use Rattle.std.proofs.Common.{◌≡◌, ◌≢◌, ℕ, Bool, cond, Option, None, Some, List, [], ◌∷◌, refl, sym, ap, ◌∙◌}
use Rattle.sg_activity.specs.Task.{Task, phase_after, task_at}
use Rattle.sg_mailbox.specs.declared.owners.How.TheVariants as how
use Rattle.sg_kernel_calls.specs.declared.stop.Stop.TheVariants.{Budget}
use Rattle.sg_kernel_calls.specs.Setup.{Setup}
use Rattle.sg_kernel_calls.specs.World.{Core, whose_at}
use Rattle.sg_kernel_calls.specs.Steps.{Step, stops, counted}
use Rattle.sg_kernel_calls.specs.Answers.{with_over}
use Rattle.sg_kernel.specs.Passes.{ends_in, ends_one, ends_by, ends, fails, fails_one}
use Rattle.sg_kernel_calls.specs.Known.{Known, after}
use Rattle.sg_kernel_calls.proofs.Each.{eq_no, eq_yes, still, still_stops, still_next, still_used_up}
use Rattle.sg_kernel_calls.proofs.Finishes.{answers_goes}

-- ---- a phase end continues
ends_goes_in : (serial : ℕ) (after : Option Task) (core : Core) → (ends_in serial after core).stop ≡ None
ends_goes_in serial None core = answers_goes how.Done serial (whose_at core serial) (with_over how.Done serial core)
ends_goes_in serial (Some next) core = refl

-- ---- a running phase ends, unless the budget is used up
abbrev one_or_stop : Core → ℕ → Bool → Step
one_or_stop core serial used = cond used (stops core [] Budget) (ends_one serial core)

ends_is : (setup : Setup) (serial : ℕ) (task : Task) (core : Core) → task_at core.under.tasks serial ≡ Some task → core.events ≢ setup.budget → ends setup serial core ≡ ends_one serial core
ends_is setup serial task core at go =
    ap (λ o. ends_by setup serial o core) at ∙ ap (one_or_stop core serial) (eq_no core.events setup.budget go)

ends_used : (setup : Setup) (serial : ℕ) (task : Task) (core : Core) → task_at core.under.tasks serial ≡ Some task → core.events ≡ setup.budget → ends setup serial core ≡ stops core [] Budget
ends_used setup serial task core at used =
    ap (λ o. ends_by setup serial o core) at ∙ ap (one_or_stop core serial) (eq_yes core.events setup.budget used)

ends_goes : (setup : Setup) (serial : ℕ) (task : Task) (core : Core) → task_at core.under.tasks serial ≡ Some task → core.events ≢ setup.budget → (ends setup serial core).stop ≡ None
ends_goes setup serial task core at go =
    ap (λ (s : Step). s.stop) (ends_is setup serial task core at go) ∙ ends_goes_in serial (phase_after (task_at core.under.tasks serial)) (counted core)

-- ---- a failure continues, unless the budget is used up
fails_is : (setup : Setup) (serial : ℕ) (core : Core) → core.events ≢ setup.budget → fails setup serial core ≡ fails_one serial core
fails_is setup serial core go = ap (λ b. cond b (stops core [] Budget) (fails_one serial core)) (eq_no core.events setup.budget go)

fails_used : (setup : Setup) (serial : ℕ) (core : Core) → core.events ≡ setup.budget → fails setup serial core ≡ stops core [] Budget
fails_used setup serial core used = ap (λ b. cond b (stops core [] Budget) (fails_one serial core)) (eq_yes core.events setup.budget used)

fails_goes : (serial : ℕ) (core : Core) → (fails_one serial core).stop ≡ None
fails_goes serial core = answers_goes how.Failed serial (whose_at (counted core) serial) (with_over how.Failed serial (counted core))

pub still_fails : (setup : Setup) (serial : ℕ) (left : List ℕ) (known next : Known) → known.core.events ≢ setup.budget → next ≡ after (fails_one serial known.core) known →
    (still (fails setup) left next ≡ still (fails setup) (serial ∷ left) known) × (still_stops (fails setup) left next ≡ still_stops (fails setup) (serial ∷ left) known)
still_fails setup serial left known next go is =
    let one = fails_is setup serial known.core go in
    still_next (fails setup) serial left known next (is ∙ ap (λ s. after s known) (sym one)) (ap (λ (s : Step). s.stop) one ∙ fails_goes serial known.core)

pub still_unfailed : (setup : Setup) (serial : ℕ) (left : List ℕ) (known : Known) → known.core.events ≡ setup.budget →
    (still (fails setup) (serial ∷ left) known ≡ known) × (still_stops (fails setup) (serial ∷ left) known ≡ Some Budget)
still_unfailed setup serial left known used = still_used_up (fails setup) serial left known (fails_used setup serial known.core used)

-- ---- one phase end, and then the others
pub still_ends : (setup : Setup) (serial : ℕ) (task : Task) (left : List ℕ) (known next : Known) → task_at known.core.under.tasks serial ≡ Some task → known.core.events ≢ setup.budget → next ≡ after (ends_one serial known.core) known →
    (still (ends setup) left next ≡ still (ends setup) (serial ∷ left) known) × (still_stops (ends setup) left next ≡ still_stops (ends setup) (serial ∷ left) known)
still_ends setup serial task left known next at go is =
    still_next (ends setup) serial left known next (is ∙ ap (λ s. after s known) (sym (ends_is setup serial task known.core at go))) (ends_goes setup serial task known.core at go)

pub still_used : (setup : Setup) (serial : ℕ) (task : Task) (left : List ℕ) (known : Known) → task_at known.core.under.tasks serial ≡ Some task → known.core.events ≡ setup.budget →
    (still (ends setup) (serial ∷ left) known ≡ known) × (still_stops (ends setup) (serial ∷ left) known ≡ Some Budget)
still_used setup serial task left known at used =
    still_used_up (ends setup) serial left known (ends_used setup serial task known.core at used)
