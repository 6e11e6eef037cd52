use Rattle.std.proofs.Common.{◌≡◌, replicate}
use Rattle.sg_energy.specs.kept.Reading.{first_reading}
use Rattle.sg_energy.proofs.meter.first_readings.Given as goal

abbrev pub invariant-loop-host : goal.invariant-loop-host
invariant-loop-host l = l.readings.items ≡ replicate l._host first_reading
