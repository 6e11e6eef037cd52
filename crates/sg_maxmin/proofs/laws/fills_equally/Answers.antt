use Rattle.sg_maxmin.proofs.Equal.{fills_equally_lem}
use Rattle.sg_maxmin.proofs.laws.fills_equally.Goals as goal

pub returns : goal.returns
returns c = fills_equally_lem
