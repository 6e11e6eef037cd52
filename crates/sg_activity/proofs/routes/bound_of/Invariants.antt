use Rattle.std.proofs.Common.{◌≡◌, drop}
use Rattle.sg_activity_table.specs.Slots.{sooner}
use Rattle.sg_activity.specs.Links.{route_bound}
use Rattle.sg_activity.proofs.routes.bound_of.Given as goal

abbrev pub invariant-loop-link : goal.invariant-loop-link
invariant-loop-link l = sooner l.bound (route_bound l.links (drop l.link-index l.route)) ≡ route_bound l.links l.route
