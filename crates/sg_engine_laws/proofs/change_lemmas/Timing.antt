-- A time advance changes the date and the energies of hosts only as time passes.
use Rattle.std.proofs.Common.{◌≡◌, ℕ, ◌+◌, ◌*◌, ◌<◌, ◌==◌, Bool, true, false, cond, List, [], length, get_or, Option, None, Some, refl, ap, ◌∙◌, arith}
use Rattle.sg_activity_table.specs.Slots.{listed}
use Rattle.sg_activity.specs.Underway.{Underway, due_in, later, power_at, rate, used_later}
use Rattle.sg_activity.specs.Underway as underway
use Rattle.sg_activity_table.proofs.Listed.{at_listed, length-listed}
use Rattle.sg_profile.specs.Profiles.{rows_due}
use Rattle.sg_sync.specs.Objects.{Objects}
use Rattle.sg_kernel_calls.specs.declared.stop.Stop.TheVariants.{Budget}
use Rattle.sg_kernel.specs.Passes.{core_later, next_span, pass_at, pass_of, settled, stretches}
use Rattle.sg_kernel_calls.specs.Steps.{Step, stops, all_of}
use Rattle.sg_kernel_calls.specs.Setup.{Setup}
use Rattle.sg_kernel_calls.specs.World.{Core}
use Rattle.sg_engine_laws.proofs.change_lemmas.Around.{Lasting, Served, stretches_then}

-- at this date, and with these energies
abbrev pub IsThen : ℕ → List ℕ → Underway → Objects → Type 0
IsThen date energy under objects = (under.date ≡ date) × (under.energy ≡ energy)

pub lasting_then : (date : ℕ) (energy : List ℕ) → Lasting (IsThen date energy)
lasting_then date energy under later objects same alike is = (same ∙ is.0, alike ∙ is.1)

abbrev pub anyone : ℕ → Type 0
anyone caller = Unit {0}

pub served_then : (date : ℕ) (energy : List ℕ) (caller : ℕ) → anyone caller → Served (IsThen date energy) caller
served_then date energy caller any = record { does = λ under objects done most is. is; left = λ under objects target is. is }

-- ---- a time advance
-- so many nanoseconds have passed, and each host has used what its power was
pub record Passes (before after : Underway) : Type 0 where
  pub span : ℕ
  pub date : after.date ≡ before.date + span
  pub long : length after.energy ≡ length before.energy
  pub energy : (host : ℕ) → host < length before.energy → get_or after.energy host 0 ≡ get_or before.energy host 0 + power_at before host * span

-- none have
pub at_rest : (before after : Underway) → after.date ≡ before.date → after.energy ≡ before.energy → Passes before after
at_rest before after date energy = record {
  span = 0;
  date = omega (arith, date);
  long = ap length energy;
  energy = λ host within. omega (arith, ap (λ (e : List ℕ). get_or e host 0) energy);
}

-- the power of a host doesn't depend on what changed since the rates were updated
power_settled : (under : Underway) (host : ℕ) → power_at (underway.with_rates_updated under) host ≡ power_at under host
unfolding rate
power_settled under host = refl

later_passes : (span : ℕ) (before after : Underway) → after.date ≡ before.date + span → after.energy ≡ listed (length before.energy) (used_later span before) → Passes before after
later_passes span before after date energy = record {
  span = span;
  date = date;
  long = ap length energy ∙ length-listed (length before.energy) (used_later span before);
  energy = λ host within. ap (λ (e : List ℕ). get_or e host 0) energy ∙ at_listed (length before.energy) (used_later span before) host 0 within;
}

passes_at : (setup : Setup) (core : Core) (span : Option ℕ) → Passes core.under (pass_at setup core span).core.under
passes_at setup core None = at_rest core.under core.under refl refl
passes_at setup core (Some span) = by (core.events == setup.budget)
  where
    moved : Core
    moved = core_later span core

    went : Step
    went = all_of (stretches setup span core) moved

    by : (b : Bool) → Passes core.under (cond b (stops core [] Budget) went).core.under
    by true = at_rest core.under core.under refl refl
    by false =
        let k = (stretches_then (IsThen moved.under.date moved.under.energy) (lasting_then moved.under.date moved.under.energy) anyone (served_then moved.under.date moved.under.energy) setup (rows_due (core.under.date + span) setup.profiles core.turns) (due_in span core.under) moved (refl, refl)).holds in
        later_passes span core.under went.core.under k.0 k.1

pub pass_passes : (setup : Setup) (core : Core) → Passes core.under (pass_of setup core).core.under
pass_passes setup core =
    let p = passes_at setup (settled core) (next_span setup (settled core)) in
    record {
      span = p.span;
      date = p.date;
      long = p.long;
      energy = λ host within. p.energy host within ∙ ap (λ (w : ℕ). get_or core.under.energy host 0 + w * p.span) (power_settled core.under host);
    }
