use Rattle.sg_kernel.proofs.Over.{are_over}
use Rattle.sg_kernel.proofs.laws.roads_are_over.Goals as goal

pub returns : goal.returns
returns c = are_over c.args.platform.now c.args.router.now c.requires.roads c.routes_are_good.ensures
