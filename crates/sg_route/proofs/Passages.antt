-- A way by the local route of a leg, if there is one.
use Rattle.std.proofs.Common.{List, [], ◌∷◌, Option, Err}
use Rattle.std.specs.Option.{option_map, option_map_or}
use Rattle.sg_base.specs.declared.ids.LinkId.{LinkId}
use Rattle.sg_base.specs.declared.ids.PointId.{PointId}
use Rattle.sg_route.specs.Roads.{Roads}
use Rattle.sg_route.specs.Route.{Passage, RouteLinks, loopback, unless_there, route_over}
use Rattle.sg_route.specs.declared.leg.Leg.{Leg}
use Rattle.sg_route.specs.declared.locals.Local.{Local}

abbrev pub by_declared : Option Local → Option Passage
by_declared local = option_map (λ l. record { start = l.start; end = l.end; links = l.links }) local

abbrev pub by_passage : (PointId → PointId → RouteLinks) → PointId → PointId → Leg → Option Passage → RouteLinks
by_passage way a b l own = option_map_or (λ p. route_over (unless_there way a p.start) p.links (unless_there way p.end b)) own (Err l)

abbrev pub or_loopback : Roads → Option Local → List LinkId
or_loopback m local = option_map_or (λ l. l.links) local (loopback m ∷ [])
