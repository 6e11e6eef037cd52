use Rattle.std.proofs.Common.{Some, option_map, ap, ◌∙◌, sym}
use Rattle.sg_maxmin.specs.Fill.{bound_level}
use Rattle.sg_maxmin.proofs.rounding.level_of_bound.Goals as goal

pub returns : goal.returns
unfolding bound_level
returns c = ap Some c.div_ceil.ensures ∙ sym (ap (option_map (bound_level c.args.weight)) c.in_ok-bound.was)
