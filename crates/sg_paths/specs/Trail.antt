-- The points whose shortest path is known.
use Rattle.std.specs.Prelude.{◌≡◌, ℕ, ◌<◌, ◌≤◌, List, [], ◌++◌, Option, Some, None, length, slice_get}
use Rattle.sg_base.specs.declared.ids.LinkId.{LinkId}
use Rattle.sg_paths.specs.declared.route.PathRoute.{PathRoute}
use Rattle.sg_paths.specs.declared.trail.Settled.{Settled}

abbrev pub links_in : Option PathRoute → List LinkId
links_in None = []
links_in (Some route) = route.links

-- the links of a route
abbrev pub links_at : List PathRoute → ℕ → List LinkId
links_at routes i = links_in (slice_get routes i)

-- no route has more links than this
abbrev pub AreShort : ℕ → List PathRoute → Type 0
AreShort most routes = (i : ℕ) → length (links_at routes i) ≤ most

-- the point where paths end, which takes no route
abbrev pub first_settled : ℕ → Settled
first_settled to = record { point = to; route = 0; next = 0 }

-- the links of the path that begins with a route to a finalized point, over the links from each finalized point on
abbrev pub hop_links : List PathRoute → (ℕ → List LinkId) → Settled → List LinkId
hop_links routes label hop = links_at routes hop.route ++ label hop.next

-- each finalized point except the first leads to one that was finalized before it
pub record LeadsBack (settled : List Settled) : Type 0 where
  pub back : (k : ℕ) (s : Settled) → 0 < k → slice_get settled k ≡ Some s → s.next < k

-- the links from each finalized point on: none from the first, and those of its hop from another
pub record IsTrail (routes : List PathRoute) (settled : List Settled) (label : ℕ → List LinkId) : Type 0 where
  pub first : label 0 ≡ []
  pub each : (k : ℕ) (s : Settled) → 0 < k → slice_get settled k ≡ Some s → label k ≡ hop_links routes label s

-- these are the links of the path that begins with a hop
abbrev pub AreLinksOf : List PathRoute → List Settled → Settled → List LinkId → Type 0
AreLinksOf routes settled hop links =
    (label : ℕ → List LinkId) → IsTrail routes settled label → links ≡ hop_links routes label hop

-- a point is finalized at a place
abbrev pub IsSettledAt : List Settled → ℕ → ℕ → Type 0
IsSettledAt settled place point = (s : Settled) × (slice_get settled place ≡ Some s) × (s.point ≡ point)

-- a point is finalized
abbrev pub IsSettled : List Settled → ℕ → Type 0
IsSettled settled point = (place : ℕ) × IsSettledAt settled place point

-- a point is finalized nowhere
abbrev pub IsNew : List Settled → ℕ → Type 0
IsNew settled point = (k : ℕ) (s : Settled) → slice_get settled k ≡ Some s → s.point ≡ point → ⊥

-- the places of the finalized points are found by their numbers
pub record HasPlaces (settled : List Settled) (places : List ℕ) : Type 0 where
  pub at : (k : ℕ) (s : Settled) → slice_get settled k ≡ Some s → slice_get places s.point ≡ Some k

-- these are the links of the path from a finalized point, which isn't the first
pub record IsWritten (routes : List PathRoute) (settled : List Settled) (from : ℕ) (links : List LinkId) : Type 0 where
  pub place : ℕ
  pub hop : Settled
  pub above : 0 < place
  pub there : slice_get settled place ≡ Some hop
  pub point : hop.point ≡ from
  pub are : AreLinksOf routes settled hop links
