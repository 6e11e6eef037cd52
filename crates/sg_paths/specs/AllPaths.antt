-- The shortest path as the least of a list of all paths: longer to compute than by the table of `Least`, but equal.
use Rattle.std.specs.Prelude.{◌≡◌, ◌==◌, ℕ, zero, suc, if◌then◌else◌, Option, None, Some, List, [], ◌∷◌, ◌++◌, length, map}
use Rattle.std.specs.List.{flat_map}
use Rattle.sg_base.specs.declared.ids.LinkId.{LinkId}
use Rattle.sg_paths.specs.declared.route.PathRoute.{PathRoute}
use Rattle.sg_paths.specs.Least.{least_from, least_path, lesser, path_table}

-- the path of no route
abbrev pub trivial_path : ℕ → ℕ → List (List LinkId)
trivial_path from to = if from == to then [] ∷ [] else []

-- the paths that begin with this route, and continue by one of these from its end
abbrev pub paths_starting_with : ℕ → (ℕ → List (List LinkId)) → PathRoute → List (List LinkId)
paths_starting_with from onward route = if route.from == from then map (λ links. route.links ++ links) (onward route.to) else []

-- the links of each path of at most so many routes
unfoldable pub all_links : ℕ → List PathRoute → ℕ → ℕ → List (List LinkId)
all_links zero routes from to = trivial_path from to
all_links (suc most) routes from to = trivial_path from to ++ flat_map (paths_starting_with from (λ next. all_links most routes next to)) routes

-- the list with the fewest links, and of these the least; none: there is no list
abbrev pub least_of : List (List LinkId) → Option (List LinkId)
least_of [] = None
least_of (links ∷ others) = Some (lesser links (least_of others))

-- for each number of routes, the table gives the least of all paths of at most so many
abbrev pub TableHasLeastOfAll : List PathRoute → Type 0
TableHasLeastOfAll routes =
    (most from to : ℕ) → least_from from (path_table most routes to) ≡ least_of (all_links most routes from to)

-- the shortest path is the least of all paths of at most as many routes as there are
abbrev pub LeastPathIsLeastOfAll : List PathRoute → Type 0
LeastPathIsLeastOfAll routes = (from to : ℕ) → least_path routes from to ≡ least_of (all_links (length routes) routes from to)
