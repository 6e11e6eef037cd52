use Rattle.std.proofs.Common.{◌+◌}
use Rattle.sg_maxmin_levels.proofs.Joined.{spare_known}
use Rattle.sg_maxmin_levels.proofs.allowance.Allowance.left_for.Goals as goal

pub returns-then-users-min-clause-few : goal.returns-then-users-min-clause-few
returns-then-users-min-clause-few c =
    let given = c.args.self in
    spare_known given.known given.row c.args.users given.ended (given.spent + c.args.left) c.requires.few
