-- In a time advance an event is counted, and then comes.
use Rattle.std.proofs.Common.{◌≡◌, ℕ, ◌+◌, [], drop, sym, ap, subst, ◌∙◌}
use Rattle.sg_activity_table.specs.declared.kinds.Phase.{Phase}
use Rattle.sg_activity.specs.Doing.{IsDue, IsHit}
use Rattle.sg_profile.specs.declared.entry.Entry.{Entry}
use Rattle.sg_kernel_calls.specs.declared.simulation_state.Fields.{Fields}
use Rattle.sg_kernel_calls.specs.Known.{after}
use Rattle.sg_kernel_calls.specs.Steps.{Step, counted, goes_on}
use Rattle.sg_kernel_calls.specs.World.{Core}
use Rattle.sg_kernel_calls.specs.kept.Acts.{CountsOne}
use Rattle.sg_kernel_calls.specs.kept.Sound.{core_of, known_of, setup_in}
use Rattle.sg_kernel_calls.specs.kept.Whole.{IsPassing}
use Rattle.sg_kernel_calls.proofs.Moves.{passing_counted}
use Rattle.sg_kernel.specs.kept.Acts.{CanEnd, CanEnter, Ends, Enters}
use Rattle.sg_kernel.specs.kept.Asks.{CanFail}
use Rattle.sg_kernel.specs.kept.Coming.{row_next, rows_now, IsDueEntry, LeavesDue}
use Rattle.sg_kernel.specs.Passes.{enters}

-- ---- it can come
pub can_enter : (old mid : Fields) (entry : Entry) → CountsOne old mid → IsDueEntry old entry → IsPassing old → CanEnter mid entry
can_enter old mid entry counts due passing =
    subst (λ (fields : Fields). CanEnter fields entry) (sym counts.counted) (record { due = record { next = due.next; exists = due.exists }; passing = passing_counted old counts.left passing })

pub can_fail : (old mid : Fields) (serial : ℕ) → CountsOne old mid → IsHit old.doing serial → IsPassing old → CanFail mid serial
can_fail old mid serial counts hit passing =
    subst (λ (fields : Fields). CanFail fields serial) (sym counts.counted) (record { hit = hit; passing = passing_counted old counts.left passing })

pub can_end : (old mid : Fields) (phase : Phase) → CountsOne old mid → IsDue old.doing phase → IsPassing old → CanEnd mid phase
can_end old mid phase counts due passing =
    subst (λ (fields : Fields). CanEnd fields phase) (sym counts.counted) (record { due = due; passing = passing_counted old counts.left passing })

-- ---- it came, as one event
pub record EntersOne (step : Core → Step) (old new : Fields) : Type 0 where
  pub known : known_of new ≡ after (step (counted (core_of old))) (known_of old)
  pub passing : IsPassing new
  pub due : LeavesDue old new
  pub events : new.events ≡ old.events + 1

pub came : (step : Core → Step) (old mid new : Fields) → CountsOne old mid → Enters step mid new → EntersOne step old new
came step old mid new counts made =
    let is = subst (λ (fields : Fields). Enters step fields new) counts.counted made in
    record {
      known = is.known;
      passing = is.passing;
      due = record { date = is.due.date; idle = is.due.idle; test = is.due.test; due = is.due.due; gone = is.due.gone };
      events = is.events;
    }

-- an entry: it changes what the fields name
abbrev pub entry_comes : Fields → Core → Step
entry_comes fields core = goes_on (enters (setup_in fields) (row_next fields) core) []

pub entry_came : (old mid new : Fields) → CountsOne old mid → Enters (entry_comes mid) mid new → EntersOne (entry_comes old) old new
entry_came old mid new counts made =
    let is = subst (λ (fields : Fields). Enters (entry_comes fields) fields new) counts.counted made in
    record {
      known = is.known;
      passing = is.passing;
      due = record { date = is.due.date; idle = is.due.idle; test = is.due.test; due = is.due.due; gone = is.due.gone };
      events = is.events;
    }

pub rows_came : (old mid new : Fields) → CountsOne old mid → rows_now new ≡ drop 1 (rows_now mid) → rows_now new ≡ drop 1 (rows_now old)
rows_came old mid new counts is = is ∙ ap (λ (fields : Fields). drop 1 (rows_now fields)) counts.counted

pub record EndsOne (step : Core → Step) (old new : Fields) : Type 0 where
  pub known : known_of new ≡ after (step (counted (core_of old))) (known_of old)
  pub passing : IsPassing new
  pub due : new.doing.due ≡ drop 1 old.doing.due
  pub date : new.doing.under.date ≡ old.doing.under.date
  pub events : new.events ≡ old.events + 1

pub over : (step : Core → Step) (old mid new : Fields) → CountsOne old mid → Ends step mid new → EndsOne step old new
over step old mid new counts made =
    let is = subst (λ (fields : Fields). Ends step fields new) counts.counted made in
    record { known = is.known; passing = is.passing; due = is.due; date = is.date; events = is.events }
