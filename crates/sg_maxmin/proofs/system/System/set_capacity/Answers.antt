use Rattle.sg_maxmin.proofs.Rows.{kept_capacity}
use Rattle.sg_maxmin.proofs.system.System.set_capacity.Goals as goal

pub invariant_of-self : goal.invariant_of-self
invariant_of-self c = kept_capacity c.self.inside.capacities.items c.args.resource c.args.capacity c.self.inside.flows c.self.inside.chains c.self.inside.left.items c.self.inside.waiting.items c.self.invariant
