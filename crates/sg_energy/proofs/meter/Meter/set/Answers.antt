use Rattle.sg_energy.proofs.Readings.{set_reading}
use Rattle.sg_energy.proofs.meter.Meter.set.Goals as goal

pub returns : goal.returns
returns c =
    set_reading c.self.inside.readings.items c.args.self.now c.args.host.0 c.args.power c.args.date c.index.result.now c.with_power.result c.self.view_is
    c.requires.host c.index.ensures c.with_power.ensures.metered
