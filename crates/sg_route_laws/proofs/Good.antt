-- A platform without zone faults has nested routes.
use Rattle.std.specs.List.{flat_map}
use Rattle.std.proofs.Common.{◌≡◌, ◌≢◌, ◌+◌, ◌<◌, ◌≤◌, ℕ, suc, Bool, true, false, cond, List, [], ◌∷◌, length, length-append, take, get_or, Option, None, Some, arith, refl, sym, ◌∙◌, ap, subst}
use Rattle.std.specs.Prelude.{◌==◌, ◌&&◌, map, not}
use Rattle.std.specs.Option.{option_map, option_or}
use Rattle.std.proofs.lemmas.Bool.Decides.{nat_tests}
use Rattle.std.proofs.lemmas.List.{length-map}
use Rattle.sg_base.specs.declared.ids.Child.{Child}
use Rattle.sg_base.specs.declared.ids.Child.TheVariants.{Point, Zone}
use Rattle.sg_base.specs.declared.ids.PointId.{PointId}
use Rattle.sg_base.specs.declared.ids.ZoneId.{ZoneId}
use Rattle.sg_platform_rows.specs.Ends.{link_ends}
use Rattle.sg_platform_rows.specs.Platform.{IsPlatform, Platform}
use Rattle.sg_platform_rows.specs.declared.ends.LinkEnd.{LinkEnd}
use Rattle.sg_platform_rows.specs.declared.rows.Routing.{Routing}
use Rattle.sg_platform_rows.specs.declared.rows.Routing.TheVariants.{Full, Star, Dijkstra}
use Rattle.sg_platform_rows.specs.declared.rows.SpokeRow.{SpokeRow}
use Rattle.sg_platform_rows.specs.declared.rows.ZoneRow.{ZoneRow}
use Rattle.sg_route.specs.Equal.{child_eq}
use Rattle.sg_route.specs.Local as local
use Rattle.sg_route.specs.Local.{row_locals, declared_route, route_local, zone_route_local}
use Rattle.sg_route.specs.Roads.{Roads, roads_of}
use Rattle.sg_paths.proofs.LeastLemmas.{least_found}
use Rattle.sg_paths.specs.Least.{least_path}
use Rattle.sg_paths.specs.Path.{IsPath}
use Rattle.sg_paths.specs.declared.route.PathRoute.{PathRoute}
use Rattle.sg_base.specs.declared.ids.LinkId.{LinkId}
use Rattle.sg_platform_rows.specs.Platform.{counts_of}
use Rattle.sg_route.proofs.StepsLemmas.{IsWithin, steps_join}
use Rattle.sg_route.specs.Route.{Passage, by_path, by_spokes, leg, passage}
use Rattle.sg_route.proofs.Passages.{by_declared}
use Rattle.sg_route.specs.PathRoutes.{path_routes}
use Rattle.sg_route.specs.declared.locals.Local.{Local}
use Rattle.sg_route.specs.declared.locals.Pair.{Pair}
use Rattle.sg_route_laws.specs.Laws.{IsPoint}
use Rattle.sg_route.proofs.Each.{each_contained, each_from, each_flat, each_found}
use Rattle.sg_route_laws.proofs.Nested.{IsNested, depth_of_both, home, passage_between, path_to, routing, shared}
use Rattle.sg_route_laws.proofs.Parting.{from_parts, to_parts, got, shared_front}
use Rattle.sg_route.proofs.LegLemmas.{from_point, to_point}
use Rattle.sg_zones.proofs.Cycles.{parents_exist}
use Rattle.sg_zones.proofs.Each.{Each, each_append}
use Rattle.sg_zones.proofs.GoodTree.{both_none, not_told, each_told, HasDepth, depth_here, exists_on, any_at, first_root, root_once, path_at}
use Rattle.sg_zones.proofs.Ups as ups
use Rattle.sg_zones.proofs.TreeLemmas.{path_deep, path_length, path_front, depth_once}
use Rattle.sg_zones.specs.Faults.{child_holds, first_along, zone_route_gateway_fault, spoke_gateway_fault, child_zone_fault, route_fault, zone_route_fault, spoke_fault, tree_fault, row_fault, zone_fault}
use Rattle.sg_zones.specs.Paths.{parent_zone, path}
use Rattle.sg_zones.specs.Tree.{zone_tree}

-- ---- equal keys

nat_eq_true : (a b : ℕ) → (a == b) ≡ true → a ≡ b
nat_eq_true a b same = grind (arith, nat_tests)

pub child_eq_true : (a b : Child) → child_eq a b ≡ true → a ≡ b
child_eq_true (Point a) (Point b) same = let make : ℕ → Child = λ n. Point (record { 0 = n }) in ap make (nat_eq_true a.0 b.0 same)
child_eq_true (Point a) (Zone b) same = absurd (cc)
child_eq_true (Zone a) (Point b) same = absurd (cc)
child_eq_true (Zone a) (Zone b) same = let make : ℕ → Child = λ n. Zone (record { 0 = n }) in ap make (nat_eq_true a.0 b.0 same)

both_true : (a b : Bool) → (a && b) ≡ true → (a ≡ true) × (b ≡ true)
both_true true true h = (refl, refl)
both_true true false h = absurd (cc)
both_true false b h = absurd (cc)

pub pair_eq_true : (a b : Pair) → (child_eq a.from b.from && child_eq a.to b.to) ≡ true → a ≡ b
pair_eq_true a b same =
    let both = both_true (child_eq a.from b.from) (child_eq a.to b.to) same in
    let e : a.from ≡ b.from = child_eq_true a.from b.from both.0 in
    let f : a.to ≡ b.to = child_eq_true a.to b.to both.1 in
    let one : Child → Pair = λ x. record { from = x; to = a.to } in
    let two : Child → Pair = λ x. record { from = b.from; to = x } in
    ap one e ∙ ap two f

-- ---- gateways

-- the gateway is held by its end, and exists
pub record Stands (p : Platform) (child : Child) (gateway : PointId) : Type 0 where
  pub held : child_holds (zone_tree p) child gateway ≡ true
  pub exists : gateway.0 < length (roads_of p).tree.homes

moved : (p : Platform) (c d : Child) (g h : PointId) → c ≡ d → g ≡ h → Stands p c g → Stands p d h
moved p c d g h e f s =
    let P : Child → Type 0 = λ x. Stands p x g in
    let Q : PointId → Type 0 = λ x. Stands p d x in
    subst Q f (subst P e s)

pub record GoodLocal (p : Platform) (l : Local) : Type 0 where
  pub start : Stands p l.pair.from l.start
  pub end : Stands p l.pair.to l.end

itself : (p : Platform) (point : PointId) → point.0 < length (roads_of p).tree.homes → Stands p (Point point) point
itself p point exists = record { held = grind (arith, nat_tests); exists = exists }

declared_good : (p : Platform) (ends : List LinkEnd) (both : Bool) (l : Local) → GoodLocal p l → Each (GoodLocal p) (row_locals ends both l)
declared_good p ends false l g = (g, tt)
declared_good p ends true l g = (g, (record { start = g.end; end = g.start }, tt))

not_false : (b : Bool) → not b ≡ false → b ≡ true
not_false true h = refl
not_false false h = absurd (cc)

-- every number of a point is that of a host or a router
pub points_count : (p : Platform) → length (roads_of p).tree.homes ≡ length p.hosts + length p.routers
points_count p =
    length-append (map (λ row. row.zone) p.hosts) (map (λ row. row.zone) p.routers)
    ∙ ap (λ n. n + length (map (λ row. row.zone) p.routers)) (length-map p.hosts (λ row. row.zone))
    ∙ ap (λ n. length p.hosts + n) (length-map p.routers (λ row. row.zone))

locals_good : (p : Platform) → IsPlatform p → first_along (zone_route_gateway_fault (zone_tree p)) 0 p.zone_routes ≡ None → Each (GoodLocal p) (roads_of p).locals
locals_good p kept none =
    let n = points_count p in
    let points : Each (λ r. GoodLocal p (route_local r)) p.routes = each_from (λ r. GoodLocal p (route_local r)) p.routes (λ k d few.
    let s = kept.routes k d few in
    record { start = itself p (get_or p.routes k d).src (omega (arith, n, s.src)); end = itself p (get_or p.routes k d).dst (omega (arith, n, s.dst)) }) in
    let rows : Each (λ r. GoodLocal p (zone_route_local r)) p.zone_routes = each_from (λ r. GoodLocal p (zone_route_local r)) p.zone_routes (λ k d few.
    let s = kept.zone_routes k d few in
    let t = each_told (zone_route_gateway_fault (zone_tree p)) 0 k k p.zone_routes d none few (omega arith) in
    let two = both_none _ _ t in
    record {
      start = record { held = not_false _ (not_told _ _ two.0); exists = omega (arith, n, s.gw_src) };
      end = record { held = not_false _ (not_told _ _ two.1); exists = omega (arith, n, s.gw_dst) };
    }) in
    each_append (GoodLocal p) (flat_map (λ row. row_locals (link_ends p.links) row.symmetrical (route_local row)) p.routes)
    (flat_map (λ row. row_locals (link_ends p.links) row.symmetrical (zone_route_local row)) p.zone_routes)
    (each_flat (GoodLocal p) (λ r. GoodLocal p (route_local r)) (λ row. row_locals (link_ends p.links) row.symmetrical (route_local row)) p.routes
    (λ r g. declared_good p (link_ends p.links) r.symmetrical (route_local r) g) points)
    (each_flat (GoodLocal p) (λ r. GoodLocal p (zone_route_local r)) (λ row. row_locals (link_ends p.links) row.symmetrical (zone_route_local row)) p.zone_routes
    (λ r g. declared_good p (link_ends p.links) r.symmetrical (zone_route_local r) g) rows)

abbrev pub GoodSpoke : Platform → SpokeRow → Type 0
GoodSpoke p s = Stands p s.child s.gateway

spokes_good : (p : Platform) → IsPlatform p → first_along (spoke_gateway_fault (zone_tree p)) 0 p.spokes ≡ None → Each (GoodSpoke p) p.spokes
spokes_good p kept none =
    let n = points_count p in
    each_from (GoodSpoke p) p.spokes (λ k d few.
    let s = kept.spokes k d few in
    let t = each_told (spoke_gateway_fault (zone_tree p)) 0 k k p.spokes d none few (omega arith) in
    record { held = not_false _ (not_told _ _ t); exists = omega (arith, n, s.gateway) })

pub record GoodPassage (p : Platform) (from to : Child) (way : Passage) : Type 0 where
  pub start : Stands p from way.start
  pub end : Stands p to way.end

full_good : (p : Platform) (from to : Child) (way : Passage) (o : Option Local) → declared_route (roads_of p).locals (record { from = from; to = to }) ≡ o
    → Each (GoodLocal p) (roads_of p).locals → by_declared o ≡ Some way → GoodPassage p from to way
full_good p from to way None found each is = absurd (cc)
full_good p from to way (Some l) found each is =
    let pair : Pair = record { from = from; to = to } in
    let r = each_found (GoodLocal p) (λ x. child_eq pair.from x.pair.from && child_eq pair.to x.pair.to) (roads_of p).locals l found each in
    let same : pair ≡ l.pair = pair_eq_true pair l.pair r.1 in
    let f : l.pair.from ≡ from = ap (λ q. q.from) (sym same) in
    let t : l.pair.to ≡ to = ap (λ q. q.to) (sym same) in
    let start : l.start ≡ way.start = cc in
    let end : l.end ≡ way.end = cc in
    record { start = moved p l.pair.from from l.start way.start f start r.0.start; end = moved p l.pair.to to l.end way.end t end r.0.end }

star_good : (p : Platform) (from to : Child) (way : Passage) (a b : Option SpokeRow) → local.spoke_at p.spokes from ≡ a → local.spoke_at p.spokes to ≡ b
    → Each (GoodSpoke p) p.spokes → by_spokes a b ≡ Some way → GoodPassage p from to way
star_good p from to way None b found other each is = absurd (cc)
star_good p from to way (Some a) None found other each is = absurd (cc)
star_good p from to way (Some a) (Some b) found other each is =
    let r = each_found (GoodSpoke p) (λ x. child_eq from x.child) p.spokes a found each in
    let s = each_found (GoodSpoke p) (λ x. child_eq to x.child) p.spokes b other each in
    let f : from ≡ a.child = child_eq_true from a.child r.1 in
    let t : to ≡ b.child = child_eq_true to b.child s.1 in
    let start : a.gateway ≡ way.start = cc in
    let end : b.gateway ≡ way.end = cc in
    record { start = moved p a.child from a.gateway way.start (sym f) start r.0; end = moved p b.child to b.gateway way.end (sym t) end s.0 }

-- both ends of a path that leads to another point are there
ends_there : (p : Platform) (steps : List PathRoute) (from to : ℕ) (path : List PathRoute) → Each (IsWithin p) steps → IsPath steps from to path → from ≢ to
    → (from < (counts_of p).points) × (to < (counts_of p).points)
ends_there p steps from to [] each is far = absurd (far is)
ends_there p steps from to (route ∷ path) each is far =
    let w = each_contained (IsWithin p) steps route each is.0 in
    let begins : route.from ≡ from = is.1 in
    let start : route.from < (counts_of p).points = w.0 in
    (omega arith, end_there steps route.to path each is.2 w.1)
  where
    end_there : (steps : List PathRoute) (at : ℕ) (rest : List PathRoute) → Each (IsWithin p) steps → IsPath steps at to rest → at < (counts_of p).points → to < (counts_of p).points
    end_there steps at [] each same there = let e : at ≡ to = same in omega arith
    end_there steps at (next ∷ rest) each on there = end_there steps next.to rest each on.2 (each_contained (IsWithin p) steps next each on.0).1

path_good : (p : Platform) → IsPlatform p → (from to : Child) (way : Passage) → by_path (path_routes (zone_tree p) (roads_of p).locals) from to ≡ Some way → GoodPassage p from to way
path_good p kept (Zone x) to way is = absurd (cc)
path_good p kept (Point a) (Zone x) way is = absurd (cc)
path_good p kept (Point a) (Point b) way is = go (a.0 == b.0) refl (least_path (path_routes (zone_tree p) (roads_of p).locals) a.0 b.0) refl is
  where
    go : (t : Bool) → (a.0 == b.0) ≡ t → (o : Option (List LinkId)) → least_path (path_routes (zone_tree p) (roads_of p).locals) a.0 b.0 ≡ o
        → cond t None (option_map (λ links. record { start = a; end = b; links = links }) o) ≡ Some way → GoodPassage p (Point a) (Point b) way
    go true e o f h = absurd (cc)
    go false e None f h = absurd (cc)
    go false e (Some links) f h =
        let far : a.0 ≢ b.0 = grind (arith, nat_tests) in
        let n = points_count p in
        let steps = path_routes (zone_tree p) (roads_of p).locals in
        let r = (least_found steps a.0 b.0 links f).reached in
        let ends = ends_there p steps a.0 b.0 r.0 (steps_join p kept) r.1 far in
        let start : a ≡ way.start = cc in
        let end : b ≡ way.end = cc in
        record {
          start = moved p (Point a) (Point a) a way.start refl start (itself p a (omega (arith, n, ends.0)));
          end = moved p (Point b) (Point b) b way.end refl end (itself p b (omega (arith, n, ends.1)));
        }

-- ---- a good platform

pub record IsGood (p : Platform) : Type 0 where
  pub kept : IsPlatform p
  pub tree : tree_fault p.zones ≡ None
  pub locals : Each (GoodLocal p) (roads_of p).locals
  pub spokes : Each (GoodSpoke p) p.spokes

pub good_from : (p : Platform) → IsPlatform p → zone_fault p ≡ None → IsGood p
good_from p kept none =
    let two = both_none (tree_fault p.zones) (row_fault (zone_tree p) p) none in
    let a = both_none (first_along (zone_route_gateway_fault (zone_tree p)) 0 p.zone_routes)
    (option_or (first_along (spoke_gateway_fault (zone_tree p)) 0 p.spokes) (option_or (first_along (child_zone_fault (zone_tree p)) 0 p.zones) (option_or (first_along (route_fault (zone_tree p)) 0 p.routes)
    (option_or (first_along (zone_route_fault (zone_tree p)) 0 p.zone_routes) (first_along (spoke_fault (zone_tree p)) 0 p.spokes))))) two.1 in
    let b = both_none (first_along (spoke_gateway_fault (zone_tree p)) 0 p.spokes) (option_or (first_along (child_zone_fault (zone_tree p)) 0 p.zones) (option_or (first_along (route_fault (zone_tree p)) 0 p.routes)
    (option_or (first_along (zone_route_fault (zone_tree p)) 0 p.zone_routes) (first_along (spoke_fault (zone_tree p)) 0 p.spokes)))) a.1 in
    record { kept = kept; tree = two.0; locals = locals_good p kept a.0; spokes = spokes_good p kept b.0 }

pub passage_good : (p : Platform) → IsGood p → (r : Routing) (from to : Child) (way : Passage) → passage (roads_of p) r from to ≡ Some way → GoodPassage p from to way
passage_good p good Full from to way is = full_good p from to way (declared_route (roads_of p).locals (record { from = from; to = to })) refl good.locals is
passage_good p good Star from to way is = star_good p from to way (local.spoke_at p.spokes from) (local.spoke_at p.spokes to) refl refl good.spokes is
passage_good p good Dijkstra from to way is = path_good p good.kept from to way is

-- ---- paths

pub home_exists : (p : Platform) → IsGood p → (a : PointId) → IsPoint (roads_of p) a → (home (roads_of p) a).0 < length p.zones
home_exists p good a there = ups.home_exists p good.kept a there

-- the path of a point, through as many levels as it is deep
pub path_of : (p : Platform) → IsGood p → (a : PointId) → IsPoint (roads_of p) a → (d : HasDepth p.zones (home (roads_of p) a)) → path_to (roads_of p) a ≡ path (suc d.depth) p.zones (home (roads_of p) a)
path_of p good a there d =
    let s = d.shallow in
    path_at p.zones (home (roads_of p) a) (home_exists p good a there) ∙ path_deep (suc d.depth) 16 p.zones (home (roads_of p) a) d.is (omega arith)

-- a zone on two paths has its whole path in common
pub common_front : (zones : List ZoneRow) (za zb x : ZoneId) (da : HasDepth zones za) (db : HasDepth zones zb) (xs ys : List ZoneId) (k j : ℕ)
    → xs ≡ path (suc da.depth) zones za → ys ≡ path (suc db.depth) zones zb → k < length xs → get_or xs k x ≡ x → j < length ys → get_or ys j x ≡ x → suc k ≤ shared xs ys
common_front zones za zb x da db xs ys k j e f inside at within here =
    let la : length xs ≡ suc da.depth = ap length e ∙ path_length (suc da.depth) zones za da.is in
    let lb : length ys ≡ suc db.depth = ap length f ∙ path_length (suc db.depth) zones zb db.is in
    let fa = path_front (suc da.depth) k zones za x da.is (omega arith) (ap (λ q. get_or q k x) (sym e) ∙ at) in
    let fb = path_front (suc db.depth) j zones zb x db.is (omega arith) (ap (λ q. get_or q j x) (sym f) ∙ here) in
    let same : suc k ≡ suc j = depth_once (suc k) (suc j) zones x fa.depth fb.depth in
    let P : ℕ → Type 0 = λ n. path n zones x ≡ take n (path (suc db.depth) zones zb) in
    let gb : path (suc k) zones x ≡ take (suc k) (path (suc db.depth) zones zb) = subst P (sym same) fb.front in
    let fronts : take (suc k) xs ≡ take (suc k) ys = ap (take (suc k)) e ∙ sym fa.front ∙ gb ∙ ap (take (suc k)) (sym f) in
    shared_front (suc k) xs ys fronts (omega arith) (omega arith)

shared_after : (zones : List ZoneRow) (za zb x : ZoneId) (da : HasDepth zones za) (db : HasDepth zones zb) (xs ys : List ZoneId) (k j : ℕ)
    → xs ≡ path (suc da.depth) zones za → ys ≡ path (suc db.depth) zones zb → k < length xs → get_or xs k x ≡ x → j < length ys → get_or ys j x ≡ x → suc j ≤ shared xs ys
shared_after zones za zb x da db xs ys k j e f inside at within here =
    let la : length xs ≡ suc da.depth = ap length e ∙ path_length (suc da.depth) zones za da.is in
    let lb : length ys ≡ suc db.depth = ap length f ∙ path_length (suc db.depth) zones zb db.is in
    let fa = path_front (suc da.depth) k zones za x da.is (omega arith) (ap (λ q. get_or q k x) (sym e) ∙ at) in
    let fb = path_front (suc db.depth) j zones zb x db.is (omega arith) (ap (λ q. get_or q j x) (sym f) ∙ here) in
    let same : suc k ≡ suc j = depth_once (suc k) (suc j) zones x fa.depth fb.depth in
    let c = common_front zones za zb x da db xs ys k j e f inside at within here in
    omega arith

pub shared_short : (xs ys : List ZoneId) → shared xs ys ≤ length xs
shared_short [] ys = omega arith
shared_short (x ∷ xs) [] = omega arith
shared_short (x ∷ xs) (y ∷ ys) = go (x.0 == y.0) (shared_short xs ys)
  where
    go : (t : Bool) → shared xs ys ≤ length xs → cond t (suc (shared xs ys)) 0 ≤ length (x ∷ xs)
    go true h = omega arith
    go false h = omega arith

-- ---- nested

front_deeper : (p : Platform) → IsGood p → (a b : PointId) (way : Passage) → IsPoint (roads_of p) a → IsPoint (roads_of p) b → passage_between (roads_of p) a b ≡ Some way
    → a.0 ≢ way.start.0 → depth_of_both (roads_of p) a b < depth_of_both (roads_of p) a way.start
front_deeper p good a b way there here is far =
    let m : Roads = roads_of p in
    let g = passage_good p good (routing m (leg m a b).zone) (leg m a b).from (leg m a b).to way is in
    go (leg m a b).from refl g.start
  where
    go : (c : Child) → (leg (roads_of p) a b).from ≡ c → Stands p c way.start → depth_of_both (roads_of p) a b < depth_of_both (roads_of p) a way.start
    go (Point q) e s =
        let same : a ≡ q = from_point (home (roads_of p) a) a b (path_to (roads_of p) a) (path_to (roads_of p) b) q e in
        let n : a.0 ≡ q.0 = ap (λ x. x.0) same in
        let h : (q.0 == way.start.0) ≡ true = s.held in
        let f : q.0 ≡ way.start.0 = grind (arith, nat_tests) in
        absurd (far (n ∙ f))
    go (Zone x) e s =
        let parts = from_parts (home (roads_of p) a) a b (path_to (roads_of p) a) (path_to (roads_of p) b) x e in
        let any = any_at (path_to (roads_of p) way.start) x s.held in
        let da = depth_here p.zones (home (roads_of p) a) good.tree (home_exists p good a there) in
        let dg = depth_here p.zones (home (roads_of p) way.start) good.tree (home_exists p good way.start s.exists) in
        common_front p.zones (home (roads_of p) a) (home (roads_of p) way.start) x da dg (path_to (roads_of p) a) (path_to (roads_of p) way.start)
        (depth_of_both (roads_of p) a b) any.0 (path_of p good a there da) (path_of p good way.start s.exists dg) parts.inside parts.at any.1 any.2

behind_deeper : (p : Platform) → IsGood p → (a b : PointId) (way : Passage) → IsPoint (roads_of p) a → IsPoint (roads_of p) b → passage_between (roads_of p) a b ≡ Some way
    → way.end.0 ≢ b.0 → depth_of_both (roads_of p) a b < depth_of_both (roads_of p) way.end b
behind_deeper p good a b way there here is far =
    let m : Roads = roads_of p in
    let g = passage_good p good (routing m (leg m a b).zone) (leg m a b).from (leg m a b).to way is in
    go (leg m a b).to refl g.end
  where
    go : (c : Child) → (leg (roads_of p) a b).to ≡ c → Stands p c way.end → depth_of_both (roads_of p) a b < depth_of_both (roads_of p) way.end b
    go (Point q) e s =
        let same : b ≡ q = to_point (home (roads_of p) a) a b (path_to (roads_of p) a) (path_to (roads_of p) b) q e in
        let n : b.0 ≡ q.0 = ap (λ x. x.0) same in
        let h : (q.0 == way.end.0) ≡ true = s.held in
        let f : q.0 ≡ way.end.0 = grind (arith, nat_tests) in
        absurd (far (sym f ∙ sym n))
    go (Zone x) e s =
        let parts = to_parts (home (roads_of p) a) a b (path_to (roads_of p) a) (path_to (roads_of p) b) x e in
        let any = any_at (path_to (roads_of p) way.end) x s.held in
        let db = depth_here p.zones (home (roads_of p) b) good.tree (home_exists p good b here) in
        let dg = depth_here p.zones (home (roads_of p) way.end) good.tree (home_exists p good way.end s.exists) in
        let fg = path_of p good way.end s.exists dg in
        let fb = path_of p good b here db in
        let k = shared_after p.zones (home (roads_of p) way.end) (home (roads_of p) b) x dg db (path_to (roads_of p) way.end) (path_to (roads_of p) b) any.0 (depth_of_both (roads_of p) a b)
        fg fb any.1 any.2 parts.inside parts.at in
        k

-- the root on the path of a point
pub record Top (p : Platform) (a : PointId) : Type 0 where
  pub root : ZoneId
  pub first : get_or (path_to (roads_of p) a) 0 root ≡ root
  pub exists : root.0 < length p.zones
  pub alone : parent_zone p.zones root ≡ None

top_of : (p : Platform) → IsGood p → (a : PointId) → IsPoint (roads_of p) a → Top p a
top_of p good a there =
    let za : ZoneId = home (roads_of p) a in
    let d = depth_here p.zones za good.tree (home_exists p good a there) in
    let e = path_of p good a there d in
    let n : length (path_to (roads_of p) a) ≡ suc d.depth = ap length e ∙ path_length (suc d.depth) p.zones za d.is in
    let x : ZoneId = get_or (path_to (roads_of p) a) 0 za in
    let at : get_or (path_to (roads_of p) a) 0 x ≡ x = got (path_to (roads_of p) a) 0 x za (omega arith) in
    let on : get_or (path (suc d.depth) p.zones za) 0 x ≡ x = ap (λ q. get_or q 0 x) (sym e) ∙ at in
    let f = path_front (suc d.depth) 0 p.zones za x d.is (omega arith) on in
    record {
      root = x;
      first = at;
      exists = exists_on (suc d.depth) 0 p.zones za x (parents_exist p good.kept) (home_exists p good a there) d.is (omega arith) on;
      alone = first_root p.zones x f.depth;
    }

pub root_shared : (p : Platform) → IsGood p → (a b : PointId) → IsPoint (roads_of p) a → IsPoint (roads_of p) b → 1 ≤ depth_of_both (roads_of p) a b
root_shared p good a b there here =
    let za : ZoneId = home (roads_of p) a in
    let zb : ZoneId = home (roads_of p) b in
    let da = depth_here p.zones za good.tree (home_exists p good a there) in
    let db = depth_here p.zones zb good.tree (home_exists p good b here) in
    let ea = path_of p good a there da in
    let eb = path_of p good b here db in
    let na : length (path_to (roads_of p) a) ≡ suc da.depth = ap length ea ∙ path_length (suc da.depth) p.zones za da.is in
    let nb : length (path_to (roads_of p) b) ≡ suc db.depth = ap length eb ∙ path_length (suc db.depth) p.zones zb db.is in
    let ta = top_of p good a there in
    let tb = top_of p good b here in
    let n : tb.root.0 ≡ ta.root.0 = root_once p.zones tb.root ta.root good.tree tb.exists ta.exists tb.alone ta.alone in
    let make : ℕ → ZoneId = λ k. record { 0 = k } in
    let same : tb.root ≡ ta.root = ap make n in
    let P : ZoneId → Type 0 = λ r. get_or (path_to (roads_of p) b) 0 r ≡ r in
    common_front p.zones za zb ta.root da db (path_to (roads_of p) a) (path_to (roads_of p) b) 0 0 ea eb (omega arith) ta.first (omega arith) (subst P same tb.first)

shallow : (p : Platform) → IsGood p → (a b : PointId) → IsPoint (roads_of p) a → IsPoint (roads_of p) b → depth_of_both (roads_of p) a b ≤ 16
shallow p good a b there here =
    let za : ZoneId = home (roads_of p) a in
    let d = depth_here p.zones za good.tree (home_exists p good a there) in
    let s = d.shallow in
    let n : length (path_to (roads_of p) a) ≡ suc d.depth = ap length (path_of p good a there d) ∙ path_length (suc d.depth) p.zones za d.is in
    let c = shared_short (path_to (roads_of p) a) (path_to (roads_of p) b) in
    omega arith

pub nested : (p : Platform) → IsGood p → IsNested (roads_of p)
nested p good = record {
  root = root_shared p good;
  shallow = shallow p good;
  start = λ a b way there here is. let g = passage_good p good (routing (roads_of p) (leg (roads_of p) a b).zone) (leg (roads_of p) a b).from (leg (roads_of p) a b).to way is in g.start.exists;
  end = λ a b way there here is. let g = passage_good p good (routing (roads_of p) (leg (roads_of p) a b).zone) (leg (roads_of p) a b).from (leg (roads_of p) a b).to way is in g.end.exists;
  front = front_deeper p good;
  behind = behind_deeper p good;
}
