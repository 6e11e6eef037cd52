-- Local routes: those that rows declare, and their reverse routes.
use Rattle.std.specs.Prelude.{◌&&◌, Bool, if◌then◌else◌, Option, List, [], ◌∷◌, find}
use Rattle.sg_base.specs.declared.ids.Child.{Child}
use Rattle.sg_base.specs.declared.ids.Child.TheVariants.{Point}
use Rattle.sg_platform_rows.specs.Ends.{way_back}
use Rattle.sg_platform_rows.specs.declared.ends.LinkEnd.{LinkEnd}
use Rattle.sg_platform_rows.specs.declared.rows.RouteRow.{RouteRow}
use Rattle.sg_platform_rows.specs.declared.rows.SpokeRow.{SpokeRow}
use Rattle.sg_platform_rows.specs.declared.rows.ZoneRouteRow.{ZoneRouteRow}
use Rattle.sg_route.specs.declared.locals.Local.{Local}
use Rattle.sg_route.specs.declared.locals.Pair.{Pair}
use Rattle.sg_route.specs.Equal.{child_eq}

-- the local route between two points that a row declares, which are its own gateways
abbrev pub route_local : RouteRow → Local
route_local row = record { pair = record { from = Point row.src; to = Point row.dst }; start = row.src; end = row.dst; links = row.links }

-- what the row of a zone_route declares: two children of a zone, their gateways and the links
abbrev pub zone_route_local : ZoneRouteRow → Local
zone_route_local row = record { pair = record { from = row.src; to = row.dst }; start = row.gw_src; end = row.gw_dst; links = row.links }

-- the reverse of a local route: its ends and its gateways exchanged, and its links reversed
abbrev pub local_back : List LinkEnd → Local → Local
local_back ends l = record { pair = record { from = l.pair.to; to = l.pair.from }; start = l.end; end = l.start; links = way_back ends l.links }

-- a local route, and after it its reverse if it is symmetrical
abbrev pub row_locals : List LinkEnd → Bool → Local → List Local
row_locals ends symmetrical l = if symmetrical then l ∷ (local_back ends l ∷ []) else l ∷ []

-- the first local route of a pair
abbrev pub declared_route : List Local → Pair → Option Local
declared_route locals pair = find (λ l. child_eq pair.from l.pair.from && child_eq pair.to l.pair.to) locals

-- the first spoke of a child
abbrev pub spoke_at : List SpokeRow → Child → Option SpokeRow
spoke_at spokes child = find (λ s. child_eq child s.child) spokes
