-- What is kept of a route while it is followed.
use Rattle.std.specs.Prelude.{◌≡◌, Bool, true, ◌==◌, if◌then◌else◌, List, [], ◌∷◌, ◌++◌, length, Option, None, Some, Result, Ok, Err}
use Rattle.sg_base.specs.declared.ids.LinkId.{LinkId}
use Rattle.sg_paths.specs.Path.{Net}
use Rattle.sg_route.specs.DistinctLinks.{is_among}
use Rattle.sg_route.specs.Route.{Passage, RouteLinks}
use Rattle.sg_route.specs.declared.leg.Leg.{Leg}

-- at most 64 links, and whether one more was met
pub record Kept : Type 0 where
  pub links : List LinkId
  pub over : Bool

abbrev pub keep_one : Kept → LinkId → Kept
keep_one kept link =
    if is_among link kept.links then kept
    else if length kept.links == 64 then record { links = kept.links; over = true }
    else record { links = kept.links ++ link ∷ []; over = kept.over }

abbrev pub keep_all : Kept → List LinkId → Kept
keep_all kept [] = kept
keep_all kept (link ∷ rest) = keep_all (keep_one kept link) rest

-- what is kept of a way, or what was missing on it
abbrev pub KeepsWay : RouteLinks → Result (Unit {0}) Leg → Kept → Kept → Type 0
KeepsWay (Ok links) result old new = (result ≡ Ok tt) × (new ≡ keep_all old links)
KeepsWay (Err missing) result old new = result ≡ Err missing

-- what a walk has kept, or what was missing on it; the paths that it asked are as they were
pub record Walks (way : RouteLinks) (result : Result (Unit {0}) Leg) (old new : Kept) (before after : Net) : Type 0 where
  pub keeps : KeepsWay way result old new
  pub paths : after ≡ before

-- the links of a local route that begins and ends at the points themselves, or the leg that has none
abbrev pub path_way : Leg → Option Passage → RouteLinks
path_way leg None = Err leg
path_way leg (Some passage) = Ok passage.links
