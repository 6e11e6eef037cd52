-- The energy of hosts: power in milliwatts, dates in nanoseconds, energy in milliwatt-nanoseconds.
use Rattle.std.specs.Prelude.{ℕ, ◌+◌, ◌-◌, ◌*◌, ◌^◌, ◌<◌, ◌≤◌, ◌==◌, if◌then◌else◌, List, slice_index_or}

-- the power of a host since a date, and the energy that it used until then
pub record Metered : Type 0 where
  pub power : ℕ
  pub since : ℕ
  pub energy : ℕ

-- without power since the date 0, and without energy
abbrev pub first_meter : Metered
first_meter = record { power = 0; since = 0; energy = 0 }

abbrev pub meter_of : List Metered → ℕ → Metered
meter_of meters host = slice_index_or meters host first_meter

-- a date that isn't before that since when a power is, and that can be counted
pub record IsSince (since date : ℕ) : Type 0 where
  pub from : since ≤ date
  pub small : date < 10 ^ 34

-- the energy that it used until a date, which isn't before since
abbrev pub energy_at : Metered → ℕ → ℕ
energy_at m date = m.energy + m.power * (date - m.since)

-- with this power from a date on: touched only if it has another
abbrev pub with_power : ℕ → ℕ → Metered → Metered
with_power power date m = if power == m.power then m else record { power = power; since = date; energy = energy_at m date }
