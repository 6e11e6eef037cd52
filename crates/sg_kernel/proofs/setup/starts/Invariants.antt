use Rattle.std.proofs.Common.{◌≡◌, map, take}
use Rattle.sg_platform_rows.specs.Deployment.{starts}
use Rattle.sg_kernel.proofs.setup.starts.Given as goal

abbrev pub invariant-loop-actor : goal.invariant-loop-actor
invariant-loop-actor l = l.starts.items ≡ map starts (take l.actor-index l.actors)
