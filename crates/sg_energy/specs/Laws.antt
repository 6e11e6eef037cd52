-- The energies of a meter that is touched only when a power changes.
use Rattle.std.specs.Prelude.{◌≡◌, ℕ, ◌+◌, ◌-◌, ◌*◌, ◌≤◌, List, [], ◌∷◌, sum_by}
use Rattle.sg_energy.specs.Meter.{Metered, energy_at, with_power}

-- a stretch of time, and the power in it
pub record Stretch : Type 0 where
  pub power : ℕ
  pub span : ℕ

-- a host's meter, and the date
pub record Dated : Type 0 where
  pub meter : Metered
  pub date : ℕ

abbrev pub energy_now : Dated → ℕ
energy_now dated = energy_at dated.meter dated.date

-- the power of the stretch is set at its beginning
abbrev pub after_one : Stretch → Dated → Dated
after_one stretch dated = record { meter = with_power stretch.power dated.date dated.meter; date = dated.date + stretch.span }

unfoldable pub after_all : List Stretch → Dated → Dated
after_all [] dated = dated
after_all (stretch ∷ rest) dated = after_all rest (after_one stretch dated)

-- The energy grows by the sum over all stretches of power times span.
abbrev pub LazyIsWhole : Type 0
LazyIsWhole =
    (stretches : List Stretch) (dated : Dated) → dated.meter.since ≤ dated.date
    → energy_now (after_all stretches dated) ≡ energy_now dated + sum_by (λ stretch. stretch.power * stretch.span) stretches

-- From the date at which it is set on, a power is used.
abbrev pub SetPowerIsUsed : Type 0
SetPowerIsUsed =
    (m : Metered) (power date later : ℕ) → m.since ≤ date → date ≤ later
    → energy_at (with_power power date m) later ≡ energy_at m date + power * (later - date)

-- Until then the energy stays what it was.
abbrev pub SetKeeps : Type 0
SetKeeps = (m : Metered) (power date : ℕ) → energy_at (with_power power date m) date ≡ energy_at m date

-- The power that a host has is set without any change.
abbrev pub SetSameIsNothing : Type 0
SetSameIsNothing = (m : Metered) (date : ℕ) → with_power m.power date m ≡ m

-- The date of the last change isn't after that at which a power is set.
abbrev pub SetIsPast : Type 0
SetIsPast = (m : Metered) (power date : ℕ) → m.since ≤ date → (with_power power date m).since ≤ date
