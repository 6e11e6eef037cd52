-- One host's energy in whole joules and a rest.
use Rattle.std.specs.Prelude.{◌+◌, ◌*◌, ◌^◌, ◌<◌, ◌≤◌}
use Rattle.sg_energy.specs.declared.reading.Reading.{Reading}
use Rattle.sg_energy.specs.Meter.{Metered}

-- without power, and without energy
abbrev pub first_reading : Reading
first_reading = record { power = 0; since = 0; joules = 0; rest = 0 }

-- what contracts see of it: a joule is 10^12 milliwatt-nanoseconds
abbrev pub metered_of : Reading → Metered
metered_of r = record { power = r.power; since = r.since; energy = r.joules * 10 ^ 12 + r.rest }

-- The energy is no more than the greatest power would have used all the time.
pub record IsReading (r : Reading) : Type 0 where
  pub power : r.power ≤ 10 ^ 9
  pub since : r.since < 10 ^ 34
  pub rest : r.rest < 10 ^ 12
  pub most : (metered_of r).energy ≤ 10 ^ 9 * r.since
