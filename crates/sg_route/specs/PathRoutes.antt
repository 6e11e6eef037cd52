-- The routes over which paths go.
use Rattle.std.specs.Prelude.{if◌then◌else◌, List, [], ◌∷◌, length}
use Rattle.std.specs.List.{flat_map}
use Rattle.sg_base.specs.declared.ids.Child.{Child}
use Rattle.sg_base.specs.declared.ids.Child.TheVariants.{Point}
use Rattle.sg_base.specs.declared.ids.LinkId.{LinkId}
use Rattle.sg_paths.specs.Path.{Net}
use Rattle.sg_paths.specs.declared.route.PathRoute.{PathRoute}
use Rattle.sg_platform_rows.specs.declared.rows.Routing.TheVariants.{Dijkstra}
use Rattle.sg_route.specs.declared.locals.Local.{Local}
use Rattle.sg_route.specs.Roads.{Roads}
use Rattle.sg_zones.specs.Faults.{is_routing}
use Rattle.sg_zones.specs.Tree.{Tree, home, routing_in}

-- a route between two points, if the first stands in a Dijkstra zone; on a platform without zone faults so does the
-- other
abbrev pub path_routes_between : Tree → Child → Child → List LinkId → List PathRoute
path_routes_between t (Point a) (Point b) links =
    if is_routing Dijkstra (routing_in t (home t a)) then record { from = a.0; to = b.0; links = links } ∷ [] else []
path_routes_between t from to links = []

-- those of all local routes, in their order
abbrev pub path_routes : Tree → List Local → List PathRoute
path_routes t locals = flat_map (λ l. path_routes_between t l.pair.from l.pair.to l.links) locals

-- the points of the platform, by their numbers, and the routes between those of Dijkstra zones
abbrev pub net_of : Roads → Net
net_of m = record { points = length m.tree.homes; routes = path_routes m.tree m.locals }
