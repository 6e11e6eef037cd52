use Rattle.std.proofs.Common.{◌≡◌, ◌++◌, drop}
use Rattle.sg_route.specs.PathRoutes.{path_routes}
use Rattle.sg_route.proofs.build.path_routes.Given as goal

abbrev pub invariant-loop-local : goal.invariant-loop-local
invariant-loop-local l = path_routes l.zones l.locals ≡ l.steps.items ++ path_routes l.zones (drop l.local-index l.locals)
