-- The room of a search.
use Rattle.std.specs.Prelude.{◌≡◌, ◌≢◌, ℕ, ◌+◌, ◌*◌, ◌<◌, ◌≤◌, Bool, List, length, vec_capacity}
use Rattle.std.specs.Bool.{OnFalse, OnTrue}
use Rattle.sg_paths.specs.declared.arrivals.Arrivals.{Arrivals}
use Rattle.sg_paths.specs.declared.least.Reach.{Reach}
use Rattle.sg_paths.specs.declared.route.PathRoute.{PathRoute}
use Rattle.sg_paths.specs.Ahead.{HasPlaceFor, steps_in}
use Rattle.sg_paths.specs.Arrivals.{AreArrivals}
use Rattle.sg_paths.specs.Crossing.{AreWithin}
use Rattle.sg_paths.specs.Path.{HasNoPath, IsLeastPath}
use Rattle.sg_paths.specs.Trail.{AreShort}

-- there is room for so many points, for a place of each route, for a path over each point, and for one that is stored
pub record IsRoomy (routes : List PathRoute) (points : ℕ) (reach : Reach) : Type 0 where
  pub places : length reach.places.items ≡ points
  pub settled : points ≤ vec_capacity reach.settled
  pub ahead : HasPlaceFor routes reach.ahead
  pub short : AreShort reach.most routes
  pub best : points * reach.most ≤ vec_capacity reach.best
  pub held : 128 ≤ vec_capacity reach.best

-- routes join points that there are, and all steps of a search can be counted
pub record CanSearch (points : ℕ) (routes : List PathRoute) (arrivals : Arrivals) : Type 0 where
  pub within : AreWithin points routes
  pub arrive : AreArrivals points routes arrivals
  pub steps : steps_in routes + 1 < 18446744073709551616

-- the routes can be searched, and there is room
pub record IsReady (points : ℕ) (routes : List PathRoute) (arrivals : Arrivals) (reach : Reach) : Type 0 where
  pub search : CanSearch points routes arrivals
  pub roomy : IsRoomy routes points reach

-- there is room to search the routes from a point to another
pub record CanFind (routes : List PathRoute) (arrivals : Arrivals) (from to : ℕ) (reach : Reach) : Type 0 where
  pub search : CanSearch (length reach.places.items) routes arrivals
  pub roomy : IsRoomy routes (length reach.places.items) reach
  pub begins : from < length reach.places.items
  pub ends : to < length reach.places.items
  pub apart : from ≢ to

-- whether there is a path; if so, the links of the shortest one are the best list. The room stays
pub record FindsLeast (routes : List PathRoute) (from to : ℕ) (found : Bool) (old new : Reach) : Type 0 where
  pub yes : OnTrue found (IsLeastPath routes from to new.best.items)
  pub no : OnFalse found (HasNoPath routes from to)
  pub roomy : IsRoomy routes (length old.places.items) new
