-- If no local route is missing, no route is.
use Rattle.std.proofs.Common.{◌≡◌, ◌≢◌, ℕ, zero, suc, Bool, true, false, cond, List, [], Option, None, Some, Ok, Err, arith, refl, subst}
use Rattle.std.proofs.lemmas.Bool.Decides.{nat_tests}
use Rattle.std.specs.Prelude.{◌==◌}
use Rattle.sg_base.specs.declared.ids.LinkId.{LinkId}
use Rattle.sg_base.specs.declared.ids.PointId.{PointId}
use Rattle.sg_platform_rows.specs.Platform.{Platform}
use Rattle.sg_route.specs.Roads.{Roads, roads_of}
use Rattle.sg_route.specs.Route.{Passage, RouteLinks, route_over, leg, passage_on, to_itself, unless_there, way, whole_way}
use Rattle.sg_route.proofs.Passages.{by_passage}
use Rattle.sg_route.specs.declared.leg.Leg.{Leg}
use Rattle.sg_route_laws.specs.Laws.{HasRoutes, IsComplete, IsPoint}
use Rattle.sg_route_laws.proofs.Nested.{IsNested, home, routing}

-- nothing is missing
abbrev IsThere : RouteLinks → Type 0
IsThere (Ok links) = Unit {0}
IsThere (Err missing) = ⊥

joined_there : (front behind : RouteLinks) (own : List LinkId) → IsThere front → IsThere behind → IsThere (route_over front own behind)
joined_there (Err e) behind own f b = absurd f
joined_there (Ok links) (Err e) own f b = absurd b
joined_there (Ok links) (Ok rest) own f b = tt

unless_missing : (w : PointId → PointId → RouteLinks) (a b : PointId) → (a.0 ≢ b.0 → IsThere (w a b)) → IsThere (unless_there w a b)
unless_missing w a b h = go (a.0 == b.0) (λ f. h (λ e. grind (arith, nat_tests)))
  where
    go : (t : Bool) → (t ≡ false → IsThere (w a b)) → IsThere (cond t (Ok []) (w a b))
    go true h = tt
    go false h = h refl

step_there : (w : PointId → PointId → RouteLinks) (a b : PointId) (l : Leg) (o : Option Passage) → o ≢ None
    → ((q : Passage) → o ≡ Some q → (IsThere (unless_there w a q.start)) × (IsThere (unless_there w q.end b))) → IsThere (by_passage w a b l o)
step_there w a b l None some h = absurd (some refl)
step_there w a b l (Some q) some h = let both = h q refl in joined_there (unless_there w a q.start) (unless_there w q.end b) q.links both.0 both.1

way_there : (levels : ℕ) (m : Roads) → IsNested m → IsComplete m → (a b : PointId) → IsPoint m a → IsPoint m b → a.0 ≢ b.0 → IsThere (way levels m a b)
unfolding way
way_there zero m nested complete a b there here far = tt
way_there (suc levels) m nested complete a b there here far =
    step_there (way levels m) a b (leg m a b) (passage_on m (leg m a b)) (complete a b there here far) (λ q is. (
      unless_missing (way levels m) a q.start (λ other. way_there levels m nested complete a q.start there (nested.start a b q there here is) other),
      unless_missing (way levels m) q.end b (λ other. way_there levels m nested complete q.end b (nested.end a b q there here is) here other),
    ))

whole_there : (m : Roads) → IsNested m → IsComplete m → (a b : PointId) → IsPoint m a → IsPoint m b → IsThere (whole_way m a b)
unfolding whole_way
whole_there m nested complete a b there here = go (a.0 == b.0) (λ f. way_there 16 m nested complete a b there here (λ e. grind (arith, nat_tests)))
  where
    go : (t : Bool) → (t ≡ false → IsThere (way 16 m a b)) → IsThere (cond t (Ok (to_itself m (routing m (home m a)) a)) (way 16 m a b))
    go true h = tt
    go false h = h refl

pub complete_has_routes : (p : Platform) → IsNested (roads_of p) → HasRoutes p
complete_has_routes p nested complete a b missing there here is =
    let P : RouteLinks → Type 0 = IsThere in
    subst P is (whole_there (roads_of p) nested complete a b there here)
