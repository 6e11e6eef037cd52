-- How the energy of hosts is kept.
use Rattle.std.specs.Prelude.{◌≡◌, ℕ, ◌+◌, ◌<◌, ◌≤◌, ◌^◌, false, Option, None, Some, if◌then◌else◌, List, [], ◌∷◌, IsTrue, filter_map, length, map, replicate, sum_by, unwrap_or}
use Rattle.sg_base.specs.MarkSet.{MarkSet, is_in, with_mark}
use Rattle.sg_energy.specs.Meter.{Metered, energy_at, first_meter, meter_of}
use Rattle.sg_activity.specs.declared.activity_state.Kept.{Kept}
use Rattle.sg_activity_table.specs.declared.kinds.Place.{Place as LivePlace}
use Rattle.sg_activity_table.specs.declared.kinds.Place.TheVariants as place_is
use Rattle.sg_activity_table.specs.declared.lives.Live.{Live}
use Rattle.sg_activity.specs.Doing.{Doing}
use Rattle.sg_activity_table.specs.Kinds.{takes_share}
use Rattle.sg_activity.specs.Underway.{Underway, power_at}
use Rattle.sg_activity_table.specs.Pool.{slot_at}
use Rattle.sg_activity.specs.kept.State.{state_of, under_of}

-- what each host used until a date, by its meter
abbrev pub energies : ℕ → List Metered → List ℕ
energies date meters = map (λ (m : Metered). energy_at m date) meters

-- what contracts see, with what the hosts used
abbrev pub metered_in : List ℕ → Doing → Doing
metered_in energy doing = record doing { under = record doing.under { energy = energy } }

-- The meter has the power of each host, unless the host is touched: since its power was set what computes there may have changed, or its speed, or whether it is on.
pub record IsMetered (kept : Kept) (meters : List Metered) (touched : MarkSet) : Type 0 where
  pub long : length meters ≡ length kept.hosts.items
  pub room : touched.room ≡ length kept.hosts.items
  pub few : length kept.hosts.items < 2 ^ 32
  pub past : (host : ℕ) → (meter_of meters host).since ≤ kept.date
  pub powers : (host : ℕ) → host < length kept.hosts.items → is_in host touched.members ≡ false → (meter_of meters host).power ≡ power_at (under_of (state_of kept)) host

-- At first no host has a power, and all are touched.
pub record AreFirst (hosts : ℕ) (meters : List Metered) (touched : MarkSet) : Type 0 where
  pub few : hosts < 2 ^ 32
  pub meters_are : meters ≡ replicate hosts first_meter
  pub room : touched.room ≡ hosts
  pub all : (host : ℕ) → host < hosts → IsTrue (is_in host touched.members)

-- an execution is on one of so many hosts
abbrev pub IsWithin : ℕ → LivePlace → Type 0
IsWithin hosts (place_is.OnHost host) = host.0 < hosts
IsWithin hosts other = Unit {0}

-- the touched hosts, and the host of an execution too
abbrev pub noted : LivePlace → List ℕ → List ℕ
noted (place_is.OnHost host) touched = with_mark host.0 touched
noted other touched = touched

-- These hosts have their power at this date, and nobody used more or less until then.
pub record AreTold (under : Underway) (old new : List Metered) (hosts : List ℕ) : Type 0 where
  pub long : length new ≡ length old
  pub used : (host : ℕ) → energy_at (meter_of new host) under.date ≡ energy_at (meter_of old host) under.date
  pub past : (host : ℕ) → (meter_of new host).since ≤ under.date
  pub told : (host : ℕ) → IsTrue (is_in host hosts) → (meter_of new host).power ≡ power_at under host
  pub others : (host : ℕ) → is_in host hosts ≡ false → (meter_of new host).power ≡ (meter_of old host).power

-- ---- the load of a host
-- the rate of an activity that takes a share
abbrev pub rate_of : Option Live → Option ℕ
rate_of None = None
rate_of (Some live) = if takes_share live.kind then Some live.rate else None

-- the rates of those under these keys that take shares
abbrev pub rates_of : List (Option Live) → List ℕ → List ℕ
rates_of slots keys = filter_map (λ key. rate_of (slot_at slots key)) keys

abbrev pub sum_of : List ℕ → ℕ
sum_of rates = sum_by (λ rate. rate) rates

-- the sum of them; none: there are none
abbrev pub total : List ℕ → Option ℕ
total [] = None
total (rate ∷ rates) = Some (sum_of (rate ∷ rates))

-- a sum with one more rate, if there is one
abbrev pub with_one : Option ℕ → Option ℕ → Option ℕ
with_one sum None = sum
with_one sum (Some rate) = Some (unwrap_or sum 0 + rate)
