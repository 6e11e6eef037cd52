-- Paths over routes.
use Rattle.std.specs.Prelude.{◌≡◌, ℕ, List, [], ◌∷◌, Contains}
use Rattle.std.specs.List.{flat_map}
use Rattle.sg_base.specs.declared.ids.LinkId.{LinkId}
use Rattle.sg_paths.specs.declared.route.PathRoute.{PathRoute}
use Rattle.sg_paths.specs.Order.{IsNotAfter}

-- so many points, numbered from 0 on, and routes between them
pub record Net : Type 0 where
  pub points : ℕ
  pub routes : List PathRoute

-- a list of routes, each beginning where the one before ended, from a point to another
abbrev pub IsPath : List PathRoute → ℕ → ℕ → List PathRoute → Type 0
IsPath routes from to [] = from ≡ to
IsPath routes from to (route ∷ path) = Contains routes route × (route.from ≡ from) × IsPath routes route.to to path

-- the links of a path are those of its routes, joined
abbrev pub links_of : List PathRoute → List LinkId
links_of path = flat_map (λ route. route.links) path

-- some path from a point to another has these links
abbrev pub HasPath : List PathRoute → ℕ → ℕ → List LinkId → Type 0
HasPath routes from to links = (path : List PathRoute) × IsPath routes from to path × (links_of path ≡ links)

-- no path leads from a point to another
abbrev pub HasNoPath : List PathRoute → ℕ → ℕ → Type 0
HasNoPath routes from to = (links : List LinkId) → HasPath routes from to links → ⊥

-- no path has fewer links, or as many with a smaller list
abbrev pub IsLeast : List PathRoute → ℕ → ℕ → List LinkId → Type 0
IsLeast routes from to links = (other : List LinkId) → HasPath routes from to other → IsNotAfter links other

-- some path has these links, and they are the least
pub record IsLeastPath (routes : List PathRoute) (from to : ℕ) (links : List LinkId) : Type 0 where
  pub reached : HasPath routes from to links
  pub least : IsLeast routes from to links
