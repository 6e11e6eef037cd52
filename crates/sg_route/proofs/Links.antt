-- A route has a link, and all its links exist.
use Rattle.std.specs.List.{flat_map}
use Rattle.std.proofs.Common.{◌≡◌, ◌≢◌, ◌<◌, ◌≤◌, ℕ, zero, suc, Bool, true, false, cond, List, [], ◌∷◌, ◌++◌, length, length-append, get_or, Option, None, Some, Ok, Err, arith, refl, subst}
use Rattle.std.specs.Prelude.{◌==◌, nat_lt, sum_by, ◌&&◌}
use Rattle.sg_base.specs.declared.ids.Child.{Child}
use Rattle.sg_base.specs.declared.ids.Child.TheVariants.{Point, Zone}
use Rattle.sg_base.specs.declared.ids.LinkId.{LinkId}
use Rattle.sg_base.specs.declared.ids.PointId.{PointId}
use Rattle.sg_platform_rows.proofs.EndsBelow.{link_ends_count, way_back_kept}
use Rattle.sg_platform_rows.specs.Ends.{link_ends, way_back}
use Rattle.sg_platform_rows.specs.Platform.{IsLinkList, IsPlatform, Platform, counts_of}
use Rattle.sg_platform_rows.specs.declared.rows.RouteRow.{RouteRow}
use Rattle.sg_platform_rows.specs.declared.rows.Routing.{Routing}
use Rattle.sg_platform_rows.specs.declared.rows.Routing.TheVariants.{Full, Star, Dijkstra}
use Rattle.sg_platform_rows.specs.declared.rows.SpokeRow.{SpokeRow}
use Rattle.sg_platform_rows.specs.declared.rows.ZoneRouteRow.{ZoneRouteRow}
use Rattle.sg_route.specs.Equal.{child_eq}
use Rattle.sg_route.specs.DistinctLinks.{distinct_links, is_among}
use Rattle.sg_route.specs.Local.{row_locals, declared_route, route_local, spoke_at, zone_route_local}
use Rattle.sg_paths.proofs.LeastLemmas.{least_found}
use Rattle.sg_paths.specs.Least.{least_path}
use Rattle.sg_paths.specs.Path.{IsPath, links_of}
use Rattle.sg_paths.specs.declared.route.PathRoute.{PathRoute}
use Rattle.sg_route.specs.Roads.{Roads, roads_of}
use Rattle.sg_route.specs.PathRoutes.{path_routes_between, path_routes}
use Rattle.sg_route.specs.Route.{Passage, Route, RouteLinks, by_path, by_spokes, route_over, latency_of, leg, route_or_fault, passage, passage_on, route_of, to_itself, unless_there, way, whole_way}
use Rattle.sg_route.proofs.Passages.{by_declared, by_passage, or_loopback}
use Rattle.sg_route.specs.declared.leg.Leg.{Leg}
use Rattle.sg_route.specs.declared.locals.Local.{Local}
use Rattle.sg_route.specs.declared.locals.Pair.{Pair}
use Rattle.sg_route.specs.declared.router.RouteFault.TheVariants.{TooLong}
use Rattle.sg_route.specs.Good.{RoutesAreGood}
use Rattle.sg_route.proofs.Each.{each_all, each_contained, each_flat, each_found, each_from}
use Rattle.sg_route.proofs.Latency.{route_quick}
use Rattle.sg_zones.proofs.Each.{Each, each_append}
use Rattle.sg_zones.specs.Faults.{is_routing}
use Rattle.sg_zones.specs.Tree.{home, routing_in, zone_tree}
use Rattle.std.specs.Option.{option_map}
use Rattle.std.proofs.lemmas.Bool.Decides.{nat_tests}

abbrev Exists : Platform → LinkId → Type 0
Exists p link = link.0 < length (link_ends p.links)

record Good (p : Platform) (links : List LinkId) : Type 0 where
  some : 1 ≤ length links
  each : Each (Exists p) links

from_list : (p : Platform) (links : List LinkId) → IsLinkList (counts_of p) links → Good p links
from_list p links kept = record { some = let s = kept.some in omega arith; each = each_from (Exists p) links kept.each }

-- ---- local routes

declared_links : (p : Platform) (both : Bool) (l : Local) → IsLinkList (counts_of p) l.links → Each (λ l. Good p l.links) (row_locals (link_ends p.links) both l)
declared_links p false l kept = (from_list p l.links kept, tt)
declared_links p true l kept =
    (from_list p l.links kept, (from_list p (way_back (link_ends p.links) l.links) (way_back_kept (counts_of p) p.links l.links refl kept), tt))

locals_links : (p : Platform) → IsPlatform p → Each (λ l. Good p l.links) (roads_of p).locals
locals_links p kept =
    let G : Local → Type 0 = λ l. Good p l.links in
    let R : RouteRow → Type 0 = λ r. IsLinkList (counts_of p) r.links in
    let Z : ZoneRouteRow → Type 0 = λ r. IsLinkList (counts_of p) r.links in
    each_append G (flat_map (λ row. row_locals (link_ends p.links) row.symmetrical (route_local row)) p.routes)
    (flat_map (λ row. row_locals (link_ends p.links) row.symmetrical (zone_route_local row)) p.zone_routes)
    (each_flat G R (λ row. row_locals (link_ends p.links) row.symmetrical (route_local row)) p.routes (λ r k. declared_links p r.symmetrical (route_local r) k)
    (each_from R p.routes (λ k d few. (kept.routes k d few).links)))
    (each_flat G Z (λ row. row_locals (link_ends p.links) row.symmetrical (zone_route_local row)) p.zone_routes (λ r k. declared_links p r.symmetrical (zone_route_local r) k)
    (each_from Z p.zone_routes (λ k d few. (kept.zone_routes k d few).links)))

record GoodSpoke (p : Platform) (s : SpokeRow) : Type 0 where
  up : Good p s.up
  down : Good p s.down

spokes_links : (p : Platform) → IsPlatform p → Each (GoodSpoke p) p.spokes
spokes_links p kept = each_from (GoodSpoke p) p.spokes (λ k d few.
    let s = kept.spokes k d few in
    record { up = from_list p (get_or p.spokes k d).up s.up; down = from_list p (get_or p.spokes k d).down s.down })

full_links : (p : Platform) → IsPlatform p → (pair : Pair) (o : Option Local) (w : Passage) → declared_route (roads_of p).locals pair ≡ o → by_declared o ≡ Some w → Good p w.links
full_links p kept pair None w found is = absurd (cc)
full_links p kept pair (Some l) w found is =
    let e : l.links ≡ w.links = cc in
    let r = each_found (λ l. Good p l.links) (λ x. child_eq pair.from x.pair.from && child_eq pair.to x.pair.to) (roads_of p).locals l found (locals_links p kept) in
    let P : List LinkId → Type 0 = Good p in
    subst P e r.0

star_links : (p : Platform) → IsPlatform p → (from to : Child) (a b : Option SpokeRow) (w : Passage) → spoke_at p.spokes from ≡ a → spoke_at p.spokes to ≡ b
    → by_spokes a b ≡ Some w → Good p w.links
star_links p kept from to None b w found other is = absurd (cc)
star_links p kept from to (Some a) None w found other is = absurd (cc)
star_links p kept from to (Some a) (Some b) w found other is =
    let e : a.up ++ b.down ≡ w.links = cc in
    let r = (each_found (GoodSpoke p) (λ x. child_eq from x.child) p.spokes a found (spokes_links p kept)).0 in
    let s = (each_found (GoodSpoke p) (λ x. child_eq to x.child) p.spokes b other (spokes_links p kept)).0 in
    let n = length-append a.up b.down in
    let some = r.up.some in
    let P : List LinkId → Type 0 = Good p in
    subst P e (record { some = omega arith; each = each_append (Exists p) a.up b.down r.up.each s.down.each })

-- each step of a path has links that exist
steps_links : (p : Platform) → IsPlatform p → Each (λ (r : PathRoute). Good p r.links) (path_routes (zone_tree p) (roads_of p).locals)
steps_links p kept =
    let G : PathRoute → Type 0 = λ r. Good p r.links in
    let L : Local → Type 0 = λ l. Good p l.links in
    each_flat G L (λ l. path_routes_between (zone_tree p) l.pair.from l.pair.to l.links) (roads_of p).locals (λ l good. one l.pair.from l.pair.to l.links good) (locals_links p kept)
  where
    one : (from to : Child) (links : List LinkId) → Good p links → Each (λ (r : PathRoute). Good p r.links) (path_routes_between (zone_tree p) from to links)
    one (Zone a) to links good = tt
    one (Point a) (Zone b) links good = tt
    one (Point a) (Point b) links good = go (is_routing Dijkstra (routing_in (zone_tree p) (home (zone_tree p) a)))
      where
        go : (t : Bool) → Each (λ (r : PathRoute). Good p r.links) (cond t (record { from = a.0; to = b.0; links = links } ∷ []) [])
        go true = (good, tt)
        go false = tt

-- and so has a path between two points
tour_links : (p : Platform) (steps : List PathRoute) (from to : ℕ) (path : List PathRoute) → Each (λ (r : PathRoute). Good p r.links) steps → IsPath steps from to path → Each (Exists p) (links_of path)
tour_links p steps from to [] each is = tt
tour_links p steps from to (route ∷ path) each is =
    let good = each_contained (λ (r : PathRoute). Good p r.links) steps route each is.0 in
    each_append (Exists p) route.links (links_of path) good.each (tour_links p steps route.to to path each is.2)

some_links : (p : Platform) (steps : List PathRoute) (from to : ℕ) (path : List PathRoute) → Each (λ (r : PathRoute). Good p r.links) steps → IsPath steps from to path → from ≢ to → 1 ≤ length (links_of path)
some_links p steps from to [] each is apart = absurd (apart is)
some_links p steps from to (route ∷ path) each is apart =
    let good = each_contained (λ (r : PathRoute). Good p r.links) steps route each is.0 in
    let some = good.some in
    omega (arith, length-append route.links (links_of path))

path_links : (p : Platform) → IsPlatform p → (from to : Child) (w : Passage) → by_path (path_routes (zone_tree p) (roads_of p).locals) from to ≡ Some w → Good p w.links
path_links p kept (Zone x) to w is = absurd (cc)
path_links p kept (Point a) (Zone x) w is = absurd (cc)
path_links p kept (Point a) (Point b) w is = go (a.0 == b.0) refl (least_path (path_routes (zone_tree p) (roads_of p).locals) a.0 b.0) refl is
  where
    go : (t : Bool) → (a.0 == b.0) ≡ t → (o : Option (List LinkId)) → least_path (path_routes (zone_tree p) (roads_of p).locals) a.0 b.0 ≡ o
        → cond t None (option_map (λ links. record { start = a; end = b; links = links }) o) ≡ Some w → Good p w.links
    go true e o f h = absurd (cc)
    go false e None f h = absurd (cc)
    go false e (Some links) f h =
        let apart : a.0 ≢ b.0 = grind (arith, nat_tests) in
        let same : links ≡ w.links = cc in
        let steps = path_routes (zone_tree p) (roads_of p).locals in
        let r = (least_found steps a.0 b.0 links f).reached in
        let each = steps_links p kept in
        let G : List LinkId → Type 0 = Good p in
        let good : Good p (links_of r.0) = record { some = some_links p steps a.0 b.0 r.0 each r.1 apart; each = tour_links p steps a.0 b.0 r.0 each r.1 } in
        subst G same (subst G r.2 good)

passage_links : (p : Platform) → IsPlatform p → (r : Routing) (from to : Child) (w : Passage) → passage (roads_of p) r from to ≡ Some w → Good p w.links
passage_links p kept Full from to w is = full_links p kept (record { from = from; to = to }) (declared_route (roads_of p).locals (record { from = from; to = to })) w refl is
passage_links p kept Star from to w is = star_links p kept from to (spoke_at p.spokes from) (spoke_at p.spokes to) w refl refl is
passage_links p kept Dijkstra from to w is = path_links p kept from to w is

-- ---- ways

abbrev WayExists : Platform → RouteLinks → Type 0
WayExists p (Err missing) = Unit {0}
WayExists p (Ok links) = Each (Exists p) links

abbrev WayGood : Platform → RouteLinks → Type 0
WayGood p (Err missing) = Unit {0}
WayGood p (Ok links) = Good p links

forget : (p : Platform) (w : RouteLinks) → WayGood p w → WayExists p w
forget p (Err e) g = tt
forget p (Ok links) g = g.each

joined_good : (p : Platform) (front behind : RouteLinks) (own : List LinkId) → WayExists p front → Good p own → WayExists p behind → WayGood p (route_over front own behind)
joined_good p (Err e) behind own f o b = tt
joined_good p (Ok links) (Err e) own f o b = tt
joined_good p (Ok links) (Ok rest) own f o b =
    let n = length-append (links ++ own) rest in
    let k = length-append links own in
    let some = o.some in
    record { some = omega arith; each = each_append (Exists p) (links ++ own) rest (each_append (Exists p) links own f o.each) b }

there_exists : (p : Platform) (w : PointId → PointId → RouteLinks) (a b : PointId) → WayExists p (w a b) → WayExists p (unless_there w a b)
there_exists p w a b h = go (a.0 == b.0)
  where
    go : (t : Bool) → WayExists p (cond t (Ok []) (w a b))
    go true = tt
    go false = h

step_good : (p : Platform) (w : PointId → PointId → RouteLinks) (a b : PointId) (l : Leg) (o : Option Passage) → ((x y : PointId) → WayExists p (w x y))
    → ((q : Passage) → o ≡ Some q → Good p q.links) → WayGood p (by_passage w a b l o)
step_good p w a b l None h k = tt
step_good p w a b l (Some q) h k =
    joined_good p (unless_there w a q.start) (unless_there w q.end b) q.links (there_exists p w a q.start (h a q.start)) (k q refl) (there_exists p w q.end b (h q.end b))

way_exists : (levels : ℕ) (p : Platform) → IsPlatform p → (a b : PointId) → WayExists p (way levels (roads_of p) a b)
unfolding way
way_exists zero p kept a b = tt
way_exists (suc levels) p kept a b =
    let m = roads_of p in
    forget p (by_passage (way levels m) a b (leg m a b) (passage_on m (leg m a b)))
    (step_good p (way levels m) a b (leg m a b) (passage_on m (leg m a b)) (λ x y. way_exists levels p kept x y)
    (λ q is. passage_links p kept (routing_in m.tree (leg m a b).zone) (leg m a b).from (leg m a b).to q is))

way_good : (levels : ℕ) (p : Platform) → IsPlatform p → (a b : PointId) → WayGood p (way (suc levels) (roads_of p) a b)
unfolding way
way_good levels p kept a b =
    let m = roads_of p in
    step_good p (way levels m) a b (leg m a b) (passage_on m (leg m a b)) (λ x y. way_exists levels p kept x y)
    (λ q is. passage_links p kept (routing_in m.tree (leg m a b).zone) (leg m a b).from (leg m a b).to q is)

loop_good : (p : Platform) → IsPlatform p → (r : Routing) (a : PointId) → Good p (to_itself (roads_of p) r a)
loop_good p kept Star a = let n = link_ends_count p.links in record { some = omega arith; each = (omega arith, tt) }
loop_good p kept Dijkstra a = let n = link_ends_count p.links in record { some = omega arith; each = (omega arith, tt) }
loop_good p kept Full a = go (declared_route (roads_of p).locals (record { from = Point a; to = Point a })) refl
  where
    go : (o : Option Local) → declared_route (roads_of p).locals (record { from = Point a; to = Point a }) ≡ o → Good p (or_loopback (roads_of p) o)
    go None e = let n = link_ends_count p.links in record { some = omega arith; each = (omega arith, tt) }
    go (Some l) e =
        let pair : Pair = record { from = Point a; to = Point a } in
        (each_found (λ l. Good p l.links) (λ x. child_eq pair.from x.pair.from && child_eq pair.to x.pair.to) (roads_of p).locals l e (locals_links p kept)).0

whole_good : (p : Platform) → IsPlatform p → (a b : PointId) → WayGood p (whole_way (roads_of p) a b)
unfolding whole_way
whole_good p kept a b = go (a.0 == b.0)
  where
    go : (t : Bool) → WayGood p (cond t (Ok (to_itself (roads_of p) (routing_in (zone_tree p) (home (zone_tree p) a)) a)) (way 16 (roads_of p) a b))
    go true = loop_good p kept (routing_in (zone_tree p) (home (zone_tree p) a)) a
    go false = way_good 15 p kept a b

-- ---- first places

firsts_exist : (p : Platform) (seen xs : List LinkId) → Each (Exists p) xs → Each (Exists p) (distinct_links seen xs)
firsts_exist p seen [] h = tt
firsts_exist p seen (x ∷ xs) h = go (is_among x seen) (firsts_exist p seen xs h.1) (firsts_exist p (seen ++ x ∷ []) xs h.1)
  where
    go : (t : Bool) → Each (Exists p) (distinct_links seen xs) → Each (Exists p) (distinct_links (seen ++ x ∷ []) xs) → Each (Exists p) (cond t (distinct_links seen xs) (x ∷ distinct_links (seen ++ x ∷ []) xs))
    go true f g = f
    go false f g = (h.0, g)

firsts_some : (xs : List LinkId) → 0 < length xs → 0 < length (distinct_links [] xs)
firsts_some [] some = absurd (omega arith)
firsts_some (x ∷ xs) some = omega arith

judged_good : (p : Platform) (m : Roads) (w : RouteLinks) (r : Route) → WayGood p w → route_or_fault m w ≡ Ok r → Good p r.links
judged_good p m (Err e) r g is = absurd (cc)
judged_good p m (Ok links) r g is = go (nat_lt 64 (length (distinct_links [] links))) is
  where
    go : (t : Bool) → cond t (Err TooLong) (Ok (record { links = distinct_links [] links; latency = sum_by (latency_of m) (distinct_links [] links) })) ≡ Ok r → Good p r.links
    go true e = absurd (cc)
    go false e =
        let same : distinct_links [] links ≡ r.links = cc in
        let P : List LinkId → Type 0 = Good p in
        subst P same (record { some = firsts_some links g.some; each = firsts_exist p [] links g.each })

route_good : (p : Platform) → IsPlatform p → (a b : PointId) (r : Route) → route_of (roads_of p) a b ≡ Ok r → Good p r.links
unfolding route_of
route_good p kept a b r is = judged_good p (roads_of p) (whole_way (roads_of p) a b) r (whole_good p kept a b) is

pub routes_are_good : (p : Platform) → IsPlatform p → RoutesAreGood p
routes_are_good p kept a b r is =
    let good = route_good p kept a b r is in
    let quick = route_quick p kept a b r is in
    record { some = good.some; few = quick.few; exist = each_all (Exists p) r.links good.each; latency = quick.latency }
