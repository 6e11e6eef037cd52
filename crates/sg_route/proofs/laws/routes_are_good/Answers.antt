-- Each platform is kept.
use Rattle.sg_route.proofs.Links.{routes_are_good}
use Rattle.sg_route.proofs.laws.routes_are_good.Goals as goal

pub returns : goal.returns
returns c = routes_are_good c.args.platform.now c.rows_are_valid.ensures
