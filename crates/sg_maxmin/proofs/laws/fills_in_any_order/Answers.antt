use Rattle.sg_maxmin.proofs.InAnyOrder.{fills_in_any_order_lem}
use Rattle.sg_maxmin.proofs.laws.fills_in_any_order.Goals as goal

pub returns : goal.returns
returns c = fills_in_any_order_lem
