use Rattle.sg_maxmin_levels.proofs.Demand.{demand_holds_none_lem}
use Rattle.sg_maxmin_levels.proofs.laws.demand_holds_none.Goals as goal

pub returns : goal.returns
returns c = demand_holds_none_lem
