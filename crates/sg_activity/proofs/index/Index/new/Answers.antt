use Rattle.sg_activity.proofs.Chained.{none_indexed}
use Rattle.sg_activity.proofs.index.Index.new.Goals as goal

pub invariant_of-result : goal.invariant_of-result
invariant_of-result c = none_indexed c.new-2.result.items c.in_ok-new.field-0 c.new-2.ensures.items c.in_ok-new.ensures.users
