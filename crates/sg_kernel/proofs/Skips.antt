-- Phases that aren't running are skipped.
use Rattle.std.proofs.Common.{◌≡◌, ℕ, ◌-◌, ◌==◌, Bool, true, false, cond, inl, inr, Option, None, Some, List, [], ◌∷◌, filter, set, get_or, length, refl, sym, ap, ◌∙◌, arith}
use Rattle.std.proofs.lemmas.Bool.{cases_eq, cases_lt}
use Rattle.std.proofs.lemmas.List.{get_or-set_same, get_or-set_other, get_or_past, length-set}
use Rattle.sg_activity.specs.Task.{Task, phase_after, task_at}
use Rattle.sg_activity.specs.Underway.{Underway, with_task}
use Rattle.sg_base.specs.declared.awaits.Party.{Party}
use Rattle.sg_base.specs.declared.awaits.Party.TheVariants as party
use Rattle.sg_mailbox.specs.declared.sides.Side.{Side}
use Rattle.sg_actor_states.specs.declared.state.Blocking.{Blocking}
use Rattle.sg_actor_states.specs.Actors.{blocking_in}
use Rattle.sg_mailbox.specs.declared.owners.How.{How}
use Rattle.sg_mailbox.specs.declared.owners.How.TheVariants as how
use Rattle.sg_mailbox.specs.declared.owners.Whose.{Whose}
use Rattle.sg_mailbox.specs.declared.owners.Whose.TheVariants.{Over, Alone, Posted, Pair}
use Rattle.sg_kernel_calls.specs.declared.stop.Stop.{Stop}
use Rattle.sg_kernel_calls.specs.declared.stop.Stop.TheVariants.{Budget}
use Rattle.sg_kernel_calls.specs.Answers.{answers, answers_by, answers_side, bare_side, finishes, for_receiver, awaits_side, with_over}
use Rattle.sg_kernel.specs.Passes.{ends, ends_by, ends_in, ends_one}
use Rattle.sg_kernel_calls.specs.Steps.{Step, stops, counted, follows, and_then, each}
use Rattle.sg_kernel_calls.specs.Setup.{Setup}
use Rattle.sg_kernel_calls.specs.World.{Core, state_of, whose_at}

-- ---- answers leave the running activities as they are
by_leaves : (over : How) (serial : ℕ) (side : Party) (given : Side) (blocking : Option Blocking) (core : Core) → (answers_by over serial side given blocking core).core.under ≡ core.under
by_leaves over serial side given None core = refl
by_leaves over serial side given (Some blocking) core = cases (awaits_side serial side blocking.on) _ _ refl refl
  where
    cases : (b : Bool) (one other : Step) → one.core.under ≡ core.under → other.core.under ≡ core.under → (cond b one other).core.under ≡ core.under
    cases true one other e f = e
    cases false one other e f = f

pub side_leaves : (over : How) (serial : ℕ) (side : Party) (given : Side) (core : Core) → (answers_side over serial side given core).core.under ≡ core.under
side_leaves over serial side given core = by_leaves over serial side given (blocking_in (state_of core given.actor.0)) core

pub both_leave : (first : Step) (next : Core → Step) (under : Underway) → first.core.under ≡ under → ((core : Core) → (next core).core.under ≡ core.under) → (and_then first next).core.under ≡ under
both_leave first next under one two = cases first.stop
  where
    cases : (o : Option Stop) → (follows o first (next first.core)).core.under ≡ under
    cases None = two first.core ∙ one
    cases (Some why) = one

answers_leave : (over : How) (serial : ℕ) (whose : Whose) (core : Core) → (answers over serial whose core).core.under ≡ core.under
answers_leave over serial (Over before) core = refl
answers_leave over serial (Alone actor) core = side_leaves over serial party.Alone (bare_side actor.0) core
answers_leave over serial (Posted mailbox sends side) core = refl
answers_leave over serial (Pair sender receiver) core =
    both_leave (answers_side over serial party.Sender sender core) (answers_side over serial party.Receiver (for_receiver sender receiver)) core.under (side_leaves over serial party.Sender sender core) (side_leaves over serial party.Receiver (for_receiver sender receiver))

pub finishes_leaves : (over : How) (serial : ℕ) (core : Core) → (finishes over serial core).core.under ≡ with_task serial None core.under
finishes_leaves over serial core = answers_leave over serial (whose_at core serial) (with_over over serial core)

-- ---- what isn't running stays so
pub none_set : (tasks : List (Option Task)) (place other : ℕ) → get_or tasks other None ≡ None → get_or (set tasks place None) other None ≡ None
none_set tasks place other none = elim (cases_eq other place) [
  | inl same ↦ elim (cases_lt other (length tasks)) [
    | inl less ↦ ap (λ k. get_or (set tasks k None) other None) (sym same) ∙ get_or-set_same tasks other None None less
    | inr past ↦ get_or_past (set tasks place None) other None (omega (arith, past, length-set tasks place None))
  ]
  | inr apart ↦ get_or-set_other tasks place other None None apart ∙ none
]

pub none_there : (tasks : List (Option Task)) (place : ℕ) → get_or (set tasks place None) place None ≡ None
none_there tasks place = elim (cases_lt place (length tasks)) [
  | inl less ↦ get_or-set_same tasks place None None less
  | inr past ↦ get_or_past (set tasks place None) place None (omega (arith, past, length-set tasks place None))
]

ends_none : (setup : Setup) (serial other : ℕ) (core : Core) → task_at core.under.tasks other ≡ None → task_at (ends setup serial core).core.under.tasks other ≡ None
ends_none setup serial other core none = by (task_at core.under.tasks serial) refl
  where
    next_none : (task next : Task) → task_at core.under.tasks serial ≡ Some task → get_or (set core.under.tasks (serial - 1) (Some next)) (other - 1) None ≡ None
    next_none task next at = elim (cases_eq (other - 1) (serial - 1)) [
      | inl same ↦ absurd (cc (sym none ∙ ap (λ k. get_or core.under.tasks k None) same ∙ at))
      | inr apart ↦ get_or-set_other core.under.tasks (serial - 1) (other - 1) (Some next) None apart ∙ none
    ]

    ended : (task : Task) → task_at core.under.tasks serial ≡ Some task → (after : Option Task) → task_at (ends_in serial after (counted core)).core.under.tasks other ≡ None
    ended task at None = ap (λ (u : Underway). task_at u.tasks other) (finishes_leaves how.Done serial (counted core)) ∙ none_set core.under.tasks (serial - 1) (other - 1) none
    ended task at (Some next) = next_none task next at

    on : (task : Task) → task_at core.under.tasks serial ≡ Some task → (b : Bool) → task_at (cond b (stops core [] Budget) (ends_one serial core)).core.under.tasks other ≡ None
    on task at true = none
    on task at false = ended task at (phase_after (task_at core.under.tasks serial))

    by : (o : Option Task) → task_at core.under.tasks serial ≡ o → task_at (ends_by setup serial o core).core.under.tasks other ≡ None
    by None at = none
    by (Some task) at = on task at (core.events == setup.budget)

-- ---- so the list may lack them
pub ends_filter : (setup : Setup) (test : ℕ → Bool) (serials : List ℕ) (core : Core) → ((serial : ℕ) → test serial ≡ false → task_at core.under.tasks serial ≡ None) → each (ends setup) (filter test serials) core ≡ each (ends setup) serials core
unfolding each
ends_filter setup test [] core gone = refl
ends_filter setup test (serial ∷ rest) core gone = by (test serial) refl (λ core gone. ends_filter setup test rest core gone)
  where
    next : Step
    next = ends setup serial core

    by : (b : Bool) → test serial ≡ b → ((core : Core) → ((other : ℕ) → test other ≡ false → task_at core.under.tasks other ≡ None) → each (ends setup) (filter test rest) core ≡ each (ends setup) rest core) →
        each (ends setup) (cond b (serial ∷ filter test rest) (filter test rest)) core ≡ each (ends setup) (serial ∷ rest) core
    by true e more = ap (follows next.stop next) (more next.core (λ other is. ends_none setup serial other core (gone other is)))
    by false e more =
        more core gone
        ∙ sym (ap (λ o. and_then (ends_by setup serial o core) (each (ends setup) rest)) (gone serial e))
