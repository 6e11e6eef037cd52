-- The route between two points of one Dijkstra zone.
use Rattle.std.proofs.Common.{◌≡◌, ◌≢◌, Bool, true, false, cond, List, Option, None, Some, arith, refl, sym, ◌∙◌, ap, subst}
use Rattle.std.specs.Option.{option_map}
use Rattle.std.specs.Prelude.{◌==◌, MatchResult}
use Rattle.std.proofs.lemmas.Bool.Decides.{nat_tests}
use Rattle.sg_base.specs.declared.ids.Child.TheVariants.{Point}
use Rattle.sg_base.specs.declared.ids.LinkId.{LinkId}
use Rattle.sg_base.specs.declared.ids.PointId.{PointId}
use Rattle.sg_paths.proofs.LeastLemmas.{least_found, none_found}
use Rattle.sg_paths.specs.Least.{least_path}
use Rattle.sg_paths.specs.Path.{HasNoPath, IsLeastPath}
use Rattle.sg_paths.specs.declared.route.PathRoute.{PathRoute}
use Rattle.sg_platform_rows.specs.Platform.{Platform}
use Rattle.sg_route.specs.Roads.{Roads, roads_of}
use Rattle.sg_route.specs.Route.{Passage, RouteLinks, by_path, leg, passage, passage_on, way, whole_way}
use Rattle.sg_route.proofs.Passages.{by_passage}
use Rattle.sg_route.specs.PathRoutes.{path_routes}
use Rattle.sg_route.specs.declared.leg.Leg.{Leg}
use Rattle.sg_route.proofs.WalkLemmas.{direct}
use Rattle.sg_route_laws.specs.Laws.{DijkstraTakesLeastPaths}
use Rattle.sg_route_laws.proofs.Good.{IsGood}
use Rattle.sg_route_laws.proofs.Levels.{whole_apart}
use Rattle.sg_route_laws.proofs.StarWays.{leg_same, one_step}

abbrev made : PointId → PointId → Option (List LinkId) → Option Passage
made a b = option_map (λ links. record { start = a; end = b; links = links })

between : (steps : List PathRoute) (a b : PointId) → a.0 ≢ b.0 → by_path steps (Point a) (Point b) ≡ made a b (least_path steps a.0 b.0)
between steps a b far = go (a.0 == b.0) (grind (arith, nat_tests))
  where
    go : (t : Bool) → t ≡ false → cond {A = Option Passage} t None (made a b (least_path steps a.0 b.0)) ≡ made a b (least_path steps a.0 b.0)
    go true e = absurd (cc)
    go false e = refl

pub dijkstra_takes_least_paths : (p : Platform) → IsGood p → DijkstraTakesLeastPaths p
dijkstra_takes_least_paths p good a b isa isb far same dijkstra =
    let m : Roads = roads_of p in
    let steps : List PathRoute = path_routes m.tree m.locals in
    let l : Leg = leg m a b in
    let found : passage_on m l ≡ made a b (least_path steps a.0 b.0) =
    ap (passage_on m) (leg_same p good a b isa same) ∙ ap (λ r. passage m r (Point a) (Point b)) dijkstra ∙ between steps a b far in
    let whole : whole_way m a b ≡ by_passage (way 15 m) a b l (made a b (least_path steps a.0 b.0)) = whole_apart m a b far ∙ one_step m a b ∙ ap (by_passage (way 15 m) a b l) found in
    go steps l (least_path steps a.0 b.0) refl whole
  where
    go : (steps : List PathRoute) (l : Leg) (o : Option (List LinkId)) → least_path steps a.0 b.0 ≡ o → whole_way (roads_of p) a b ≡ by_passage (way 15 (roads_of p)) a b l (made a b o)
        → MatchResult (whole_way (roads_of p) a b) (λ links. IsLeastPath steps a.0 b.0 links) (λ missing. HasNoPath steps a.0 b.0)
    go steps l None is whole =
        let P : RouteLinks → Type 0 = λ w. MatchResult w (λ links. IsLeastPath steps a.0 b.0 links) (λ missing. HasNoPath steps a.0 b.0) in
        subst P (sym whole) (none_found steps a.0 b.0 is)
    go steps l (Some links) is whole =
        let P : RouteLinks → Type 0 = λ w. MatchResult w (λ links. IsLeastPath steps a.0 b.0 links) (λ missing. HasNoPath steps a.0 b.0) in
        let q : Passage = record { start = a; end = b; links = links } in
        subst P (sym (whole ∙ direct (way 15 (roads_of p)) a b l q refl refl)) (least_found steps a.0 b.0 links is)
