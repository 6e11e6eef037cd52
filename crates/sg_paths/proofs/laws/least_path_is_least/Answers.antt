-- It holds of any routes.
use Rattle.sg_paths.proofs.LeastLemmas.{least_path_is_least}
use Rattle.sg_paths.proofs.laws.least_path_is_least.Goals as goal

pub returns : goal.returns
returns c = least_path_is_least c.args.routes.now
