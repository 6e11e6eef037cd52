use Rattle.sg_activity.proofs.power.set_power.Goals as goal

pub power_of-power-requires : goal.power_of-power-requires
power_of-power-requires c = record { host = c.requires.host; tell = c.requires.meter.tell }
