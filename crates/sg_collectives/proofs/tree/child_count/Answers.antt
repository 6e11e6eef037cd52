use Rattle.std.proofs.Common.{arith}
use Rattle.sg_collectives.proofs.TreeLemmas.{few_doublings}
use Rattle.sg_collectives.proofs.tree.child_count.Goals as goal

pub overflow_add-count : goal.overflow_add-count
overflow_add-count c =
    let l = c.loop-distance in
    omega (arith, few_doublings l.count l.distance c.from-end.result l.invariant.power l.invariant.few (omega arith))
