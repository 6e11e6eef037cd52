-- They hold of any routes.
use Rattle.sg_paths.proofs.TableLemmas.{least_path_is_least_of_all, table_is}
use Rattle.sg_paths.proofs.laws.least_path_is_least_of_all.Goals as goal

pub returns-clause-table : goal.returns-clause-table
returns-clause-table c = table_is c.args.routes.now

pub returns-clause-path : goal.returns-clause-path
returns-clause-path c = least_path_is_least_of_all c.args.routes.now
