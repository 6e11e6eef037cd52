-- A zone has a depth, and its path as many zones.
use Rattle.sg_zones.proofs.Ups.{depth_by_steps_up, holds_by_steps_up}
use Rattle.sg_zones.proofs.laws.tree_goes_up.Goals as goal

pub returns-clause-holds : goal.returns-clause-holds
returns-clause-holds c = holds_by_steps_up c.args.sound.platform.now c.rows_are_valid.ensures c.args.sound.sound

pub returns-clause-depth : goal.returns-clause-depth
returns-clause-depth c = depth_by_steps_up c.args.sound.platform.now c.args.sound.sound
