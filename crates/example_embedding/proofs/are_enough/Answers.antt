use Rattle.std.proofs.Common.{arith, ap, length}
use Rattle.std.proofs.lemmas.List.Sums.{count_by-le-length}
use Rattle.sg_platform_rows.specs.Deployment.{starts}
use Rattle.example_embedding.proofs.are_enough.Goals as goal

pub returns : goal.returns
returns c is = omega (arith, count_by-le-length starts c.args.deployment.now.actors, ap length c.actors.ensures.rows, c.if-contexts-actors.false)
