use Rattle.std.proofs.Common.{map, ap, ◌∙◌}
use Rattle.sg_energy.specs.kept.Reading.{first_reading, metered_of}
use Rattle.sg_energy.proofs.Readings.{map-replicate}
use Rattle.sg_energy.proofs.meter.Meter.new.Goals as goal

pub returns : goal.returns
returns c = ap (map metered_of) c.in_ok-first_readings.ensures ∙ map-replicate c.args.hosts first_reading
