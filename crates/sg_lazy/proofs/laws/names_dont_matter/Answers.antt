use Rattle.sg_lazy.proofs.Works.{names_lem}
use Rattle.sg_lazy.proofs.laws.names_dont_matter.Goals as goal

pub returns : goal.returns
returns c = names_lem
