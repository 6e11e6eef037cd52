-- The shortest path from a point to another, as a list of links.
use Rattle.std.specs.Prelude.{◌==◌, ℕ, zero, suc, if◌then◌else◌, Option, None, Some, MatchOption, option_map, List, [], ◌∷◌, ◌++◌, length}
use Rattle.std.specs.List.{filter_map}
use Rattle.sg_base.specs.declared.ids.LinkId.{LinkId}
use Rattle.sg_paths.specs.declared.route.PathRoute.{PathRoute}
use Rattle.sg_paths.specs.Order.{not_after}
use Rattle.sg_paths.specs.Path.{HasNoPath, IsLeastPath}

-- the lesser of a list of links and of another, if there is one
abbrev pub lesser : List LinkId → Option (List LinkId) → List LinkId
lesser links None = links
lesser links (Some other) = if not_after links other then links else other

-- the least list of links of the paths that begin at a point; none: no path begins there
abbrev pub least_from : ℕ → List PathRoute → Option (List LinkId)
least_from from [] = None
least_from from (path ∷ others) =
    if path.from == from then Some (lesser path.links (least_from from others)) else least_from from others

-- the path of no route, from a point to itself
abbrev pub empty_path : ℕ → PathRoute
empty_path point = record { from = point; to = point; links = [] }

-- the path to a point by this route, and then by the shortest of these paths from its end; none: no path begins there
abbrev pub path_over : ℕ → List PathRoute → PathRoute → Option PathRoute
path_over to paths route = option_map (λ links. record route { to = to; links = route.links ++ links }) (least_from route.to paths)

-- The shortest paths to a point of at most so many routes, as a table: the path of no route, and for each route the
-- shortest path that begins with it. A row is written as one route over all links of its path.
unfoldable pub path_table : ℕ → List PathRoute → ℕ → List PathRoute
path_table zero routes to = empty_path to ∷ []
path_table (suc most) routes to = empty_path to ∷ filter_map (path_over to (path_table most routes to)) routes

-- The links of the path with the fewest links, and of these the one with the least list, compared from the front. The
-- table of paths of at most as many routes as there are has it: a longer path passes through a point twice.
unfoldable pub least_path : List PathRoute → ℕ → ℕ → Option (List LinkId)
least_path routes from to = least_from from (path_table (length routes) routes to)

-- it is the shortest of all paths, however long, and if there is no such path, there is no path
abbrev pub LeastPathIsLeast : List PathRoute → Type 0
LeastPathIsLeast routes = (from to : ℕ) → MatchOption (least_path routes from to) (HasNoPath routes from to) (IsLeastPath routes from to)
