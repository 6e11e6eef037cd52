use Rattle.std.proofs.Common.{◌-◌, ap, sym, ◌∙◌, arith}
use Rattle.sg_collectives.proofs.TreeLemmas.{lowest_by_zeros}
use Rattle.sg_collectives.proofs.Powers.{lowest_within}
use Rattle.sg_collectives.proofs.tree.parent.Goals as goal

pub overflow_sub-result : goal.overflow_sub-result
overflow_sub-result c =
    omega (arith, c.pow.ensures, lowest_by_zeros c.args.rank c.requires (omega arith), lowest_within c.args.rank c.requires)

pub returns : goal.returns
returns c = ap (λ m. c.args.rank - m) (c.pow.ensures ∙ sym (lowest_by_zeros c.args.rank c.requires (omega arith)))
