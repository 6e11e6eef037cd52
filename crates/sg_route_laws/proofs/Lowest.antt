-- The paths part at the lowest zone that holds both points, and continue at its children.
use Rattle.std.proofs.Common.{◌≡◌, ◌<◌, ◌≤◌, ℕ, zero, suc, Bool, true, false, cond, List, [], ◌∷◌, ◌++◌, length, map, take, get_or, Option, None, Some, arith, refl, sym, ◌∙◌, ap}
use Rattle.std.specs.Prelude.{◌==◌, ◌||◌, option_and_then, slice_get}
use Rattle.std.specs.Option.{option_map_or}
use Rattle.std.proofs.lemmas.List.{get_or-take}
use Rattle.std.specs.List.{list_any}
use Rattle.std.proofs.lemmas.Bool.Decides.{nat_tests}
use Rattle.sg_base.specs.declared.ids.ZoneId.{ZoneId}
use Rattle.sg_base.specs.declared.ids.PointId.{PointId}
use Rattle.sg_base.specs.declared.ids.Child.{Child}
use Rattle.sg_base.specs.declared.ids.Child.TheVariants.{Point, Zone}
use Rattle.sg_platform_rows.specs.Platform.{Platform}
use Rattle.sg_platform_rows.specs.declared.rows.ZoneRow.{ZoneRow}
use Rattle.sg_zones.specs.Faults.{child_holds, zone_above}
use Rattle.sg_zones.specs.Paths.{parent_zone, path}
use Rattle.sg_zones.specs.Tree.{Tree, zone_tree, depth}
use Rattle.sg_zones.proofs.Cycles.{parents_exist}
use Rattle.sg_zones.proofs.TreeLemmas.{AboveIs, IsDepth, inner_of, path_deep, path_front, path_last, path_length}
use Rattle.sg_zones.proofs.GoodTree.{depth_here, exists_on, any_at, path_at}
use Rattle.sg_route.specs.Roads.{roads_of}
use Rattle.sg_route.specs.Leg.{lowest_leg}
use Rattle.sg_route.specs.Route.{leg}
use Rattle.sg_route_laws.specs.Laws.{IsChildOver, IsPoint, LegsAreLowest}
use Rattle.sg_route_laws.proofs.Nested.{depth_of_both, home, path_to, shared}
use Rattle.sg_route_laws.proofs.Parting.{from_parts, got, to_parts, zone_from, zone_to}
use Rattle.sg_route.proofs.LegLemmas.{from_point, to_point}
use Rattle.sg_route_laws.proofs.Good.{IsGood, common_front, home_exists, path_of, root_shared, shared_short}

parted_zone : (last : ZoneId) (a b : PointId) (xs ys : List ZoneId) → (lowest_leg last a b xs ys).zone ≡ get_or (last ∷ xs) (shared xs ys) last
parted_zone last a b [] ys = refl
parted_zone last a b (x ∷ xs) [] = refl
parted_zone last a b (x ∷ xs) (y ∷ ys) = go (x.0 == y.0) (parted_zone x a b xs ys) (shared_short xs ys)
  where
    go : (t : Bool) → (lowest_leg x a b xs ys).zone ≡ get_or (x ∷ xs) (shared xs ys) x → shared xs ys ≤ length xs
        → (cond t (lowest_leg x a b xs ys) (record { zone = last; from = Zone x; to = Zone y })).zone ≡ get_or (last ∷ (x ∷ xs)) (cond t (suc (shared xs ys)) 0) last
    go true h short = h ∙ got (x ∷ xs) (shared xs ys) x last (omega arith)
    go false h short = refl

other_short : (xs ys : List ZoneId) → shared xs ys ≤ length ys
other_short [] ys = omega arith
other_short (x ∷ xs) [] = omega arith
other_short (x ∷ xs) (y ∷ ys) = go (x.0 == y.0) (other_short xs ys)
  where
    go : (t : Bool) → shared xs ys ≤ length ys → cond t (suc (shared xs ys)) 0 ≤ length (y ∷ ys)
    go true h = omega arith
    go false h = omega arith

-- shared zones are the same on both paths
same_at : (xs ys : List ZoneId) (k : ℕ) (d : ZoneId) → k < shared xs ys → get_or xs k d ≡ get_or ys k d
same_at [] ys k d few = absurd (omega arith)
same_at (x ∷ xs) [] k d few = absurd (omega arith)
same_at (x ∷ xs) (y ∷ ys) k d few = go (x.0 == y.0) refl few (λ j more. same_at xs ys j d more) k refl
  where
    go : (t : Bool) → (x.0 == y.0) ≡ t → k < cond t (suc (shared xs ys)) 0 → ((j : ℕ) → j < shared xs ys → get_or xs j d ≡ get_or ys j d) → (i : ℕ) → i ≡ k → get_or (x ∷ xs) i d ≡ get_or (y ∷ ys) i d
    go true e few more zero f =
        let n : x.0 ≡ y.0 = grind (arith, nat_tests) in
        let make : ℕ → ZoneId = λ q. record { 0 = q } in
        ap make n
    go true e few more (suc i) f = more i (omega arith)
    go false e few more i f = absurd (omega arith)

among_at : (xs : List ZoneId) (k : ℕ) (z : ZoneId) → k < length xs → get_or xs k z ≡ z → list_any (λ x. x.0 == z.0) xs ≡ true
among_at [] k z few at = absurd (omega arith)
among_at (x ∷ xs) zero z few at = let n : x.0 ≡ z.0 = ap (λ q. q.0) at in go (x.0 == z.0) (grind (arith, nat_tests))
  where
    go : (t : Bool) → t ≡ true → (t || list_any (λ y. y.0 == z.0) xs) ≡ true
    go true e = refl
    go false e = absurd (cc)
among_at (x ∷ xs) (suc k) z few at = go (x.0 == z.0) (among_at xs k z (omega arith) at)
  where
    go : (t : Bool) → list_any (λ y. y.0 == z.0) xs ≡ true → (t || list_any (λ y. y.0 == z.0) xs) ≡ true
    go true h = refl
    go false h = h

-- a zone on a point's path has its place there as its depth
depth_at : (p : Platform) → IsGood p → (a : PointId) → IsPoint (roads_of p) a → (z : ZoneId) (k : ℕ) → k < length (path_to (roads_of p) a) → get_or (path_to (roads_of p) a) k z ≡ z
    → depth (zone_tree p) z ≡ suc k
depth_at p good a there z k inside at =
    let za : ZoneId = home (roads_of p) a in
    let d = depth_here p.zones za good.tree (home_exists p good a there) in
    let e = path_of p good a there d in
    let n : length (path_to (roads_of p) a) ≡ suc d.depth = ap length e ∙ path_length (suc d.depth) p.zones za d.is in
    let on : get_or (path (suc d.depth) p.zones za) k z ≡ z = ap (λ q. get_or q k z) (sym e) ∙ at in
    let s = d.shallow in
    let f = path_front (suc d.depth) k p.zones za z d.is (omega arith) on in
    let x = exists_on (suc d.depth) k p.zones za z (parents_exist p good.kept) (home_exists p good a there) d.is (omega arith) on in
    ap length (path_at p.zones z x ∙ path_deep (suc k) 16 p.zones z f.depth (omega arith)) ∙ path_length (suc k) p.zones z f.depth

-- ---- the children

pub parents_same : (zones : List ZoneRow) (i : ℕ) → get_or (map (λ row. row.parent) zones) i None ≡ option_and_then (λ row. row.parent) (slice_get zones i)
parents_same [] i = refl
parents_same (z ∷ zones) zero = refl
parents_same (z ∷ zones) (suc i) = parents_same zones i

-- on a path the zone above is the one before
above_on : (zones : List ZoneRow) (x z : ZoneId) (k : ℕ) (whole : List ZoneId) → IsDepth (suc (suc k)) zones x → path (suc (suc k)) zones x ≡ take (suc (suc k)) whole
    → get_or whole k z ≡ z → parent_zone zones x ≡ Some z
unfolding path
above_on zones x z k whole deep front at = go (parent_zone zones x) deep front (λ above h. path_length (suc k) zones above h) (λ above h. path_last k zones above z h)
  where
    go : (o : Option ZoneId) → AboveIs (IsDepth (suc k) zones) (suc k) o → option_map_or (path (suc k) zones) o [] ++ x ∷ [] ≡ take (suc (suc k)) whole
        → ((above : ZoneId) → IsDepth (suc k) zones above → length (path (suc k) zones above) ≡ suc k)
        → ((above : ZoneId) → IsDepth (suc k) zones above → get_or (path (suc k) zones above) k z ≡ above) → o ≡ Some z
    go None h e len last = absurd (omega (arith, h))
    go (Some above) h e len last =
        let n = len above h in
        let same : above ≡ z =
        sym (last above h) ∙ sym (inner_of (path (suc k) zones above) x z k (omega arith)) ∙ ap (λ q. get_or q k z) e ∙ get_or-take (suc (suc k)) whole k z (omega arith) ∙ at in
        ap (λ q. Some q) same

-- the zone after another on a point's path is its child
child_above : (p : Platform) → IsGood p → (c : PointId) → IsPoint (roads_of p) c → (x z : ZoneId) (k : ℕ) → suc k < length (path_to (roads_of p) c)
    → get_or (path_to (roads_of p) c) (suc k) x ≡ x → get_or (path_to (roads_of p) c) k z ≡ z → zone_above (zone_tree p) (Zone x) ≡ Some z
child_above p good c there x z k inside at before =
    let zc : ZoneId = home (roads_of p) c in
    let d = depth_here p.zones zc good.tree (home_exists p good c there) in
    let e = path_of p good c there d in
    let n : length (path_to (roads_of p) c) ≡ suc d.depth = ap length e ∙ path_length (suc d.depth) p.zones zc d.is in
    let on : get_or (path (suc d.depth) p.zones zc) (suc k) x ≡ x = ap (λ q. get_or q (suc k) x) (sym e) ∙ at in
    let f = path_front (suc d.depth) (suc k) p.zones zc x d.is (omega arith) on in
    parents_same p.zones x.0 ∙ above_on p.zones x z k (path (suc d.depth) p.zones zc) f.depth f.front (ap (λ q. get_or q k z) (sym e) ∙ before)

point_itself : (t : Tree) (q point : PointId) → point ≡ q → child_holds t (Point q) point ≡ true
point_itself t q point same = let n : q.0 ≡ point.0 = ap (λ x. x.0) (sym same) in grind (arith, nat_tests)

-- the last zone on the path of a point is its own
last_is_home : (p : Platform) → IsGood p → (c : PointId) → IsPoint (roads_of p) c → (last : ZoneId) → get_or (last ∷ path_to (roads_of p) c) (length (path_to (roads_of p) c)) last ≡ home (roads_of p) c
last_is_home p good c there last =
    let zc : ZoneId = home (roads_of p) c in
    let d = depth_here p.zones zc good.tree (home_exists p good c there) in
    let e = path_of p good c there d in
    let n : length (path_to (roads_of p) c) ≡ suc d.depth = ap length e ∙ path_length (suc d.depth) p.zones zc d.is in
    ap (λ i. get_or (last ∷ path_to (roads_of p) c) i last) n ∙ ap (λ q. get_or q d.depth last) e ∙ path_last d.depth p.zones zc last d.is

from_child : (p : Platform) → IsGood p → (a b : PointId) → IsPoint (roads_of p) a → (k : ℕ) → depth_of_both (roads_of p) a b ≡ suc k
    → get_or (path_to (roads_of p) a) k (leg (roads_of p) a b).zone ≡ (leg (roads_of p) a b).zone → (c : Child) → (leg (roads_of p) a b).from ≡ c
    → IsChildOver (zone_tree p) (leg (roads_of p) a b).zone a c
from_child p good a b there k common at (Point q) is =
    let m = roads_of p in
    let same : a ≡ q = from_point (home m a) a b (path_to m a) (path_to m b) q is in
    let own : (leg m a b).zone ≡ home m a = zone_from (home m a) a b (path_to m a) (path_to m b) q is ∙ last_is_home p good a there (home m a) in
    record { above = ap (λ z. Some z) (ap (home m) (sym same) ∙ sym own); held = point_itself (zone_tree p) q a same }
from_child p good a b there k common at (Zone x) is =
    let m = roads_of p in
    let parts = from_parts (home m a) a b (path_to m a) (path_to m b) x is in
    let inside = parts.inside in
    let here : get_or (path_to m a) (suc k) x ≡ x = ap (λ i. get_or (path_to m a) i x) (sym common) ∙ parts.at in
    record {
      above = child_above p good a there x (leg m a b).zone k (omega arith) here at;
      held = among_at (path_to m a) (suc k) x (omega arith) here;
    }

to_child : (p : Platform) → IsGood p → (a b : PointId) → IsPoint (roads_of p) b → (k : ℕ) → depth_of_both (roads_of p) a b ≡ suc k
    → get_or (path_to (roads_of p) b) k (leg (roads_of p) a b).zone ≡ (leg (roads_of p) a b).zone → (c : Child) → (leg (roads_of p) a b).to ≡ c
    → IsChildOver (zone_tree p) (leg (roads_of p) a b).zone b c
to_child p good a b there k common at (Point q) is =
    let m = roads_of p in
    let same : b ≡ q = to_point (home m a) a b (path_to m a) (path_to m b) q is in
    let own : (leg m a b).zone ≡ home m b = zone_to (home m a) a b (path_to m a) (path_to m b) q is ∙ last_is_home p good b there (home m a) in
    record { above = ap (λ z. Some z) (ap (home m) (sym same) ∙ sym own); held = point_itself (zone_tree p) q b same }
to_child p good a b there k common at (Zone x) is =
    let m = roads_of p in
    let parts = to_parts (home m a) a b (path_to m a) (path_to m b) x is in
    let inside = parts.inside in
    let here : get_or (path_to m b) (suc k) x ≡ x = ap (λ i. get_or (path_to m b) i x) (sym common) ∙ parts.at in
    record {
      above = child_above p good b there x (leg m a b).zone k (omega arith) here at;
      held = among_at (path_to m b) (suc k) x (omega arith) here;
    }

-- ---- the law

prev : (n : ℕ) → 1 ≤ n → (k : ℕ) × (n ≡ suc k)
prev zero h = absurd (omega arith)
prev (suc k) h = (k, refl)

pub legs_are_lowest : (p : Platform) → IsGood p → LegsAreLowest p
legs_are_lowest p good a b there here =
    let m = roads_of p in
    let za : ZoneId = home m a in
    let zb : ZoneId = home m b in
    let xs = path_to m a in
    let ys = path_to m b in
    let r = prev (depth_of_both m a b) (root_shared p good a b there here) in
    let sa = shared_short xs ys in
    let sb = other_short xs ys in
    let n = r.1 in
    let z : ZoneId = (leg m a b).zone in
    let f : z ≡ get_or xs r.0 za = parted_zone za a b xs ys ∙ ap (λ i. get_or (za ∷ xs) i za) n in
    let at : get_or xs r.0 z ≡ z = got xs r.0 z za (omega arith) ∙ sym f in
    let on : get_or ys r.0 z ≡ z = sym (same_at xs ys r.0 z (omega arith)) ∙ at in
    let da = depth_here p.zones za good.tree (home_exists p good a there) in
    let db = depth_here p.zones zb good.tree (home_exists p good b here) in
    record {
      holds_a = among_at xs r.0 z (omega arith) at;
      holds_b = among_at ys r.0 z (omega arith) on;
      lowest = λ other ha hb.
          let i = any_at xs other ha in
          let j = any_at ys other hb in
          let c = common_front p.zones za zb other da db xs ys i.0 j.0 (path_of p good a there da) (path_of p good b here db) i.1 i.2 j.1 j.2 in
          let dz = depth_at p good a there z r.0 (omega arith) at in
          let deep = depth_at p good a there other i.0 i.1 i.2 in
          omega arith;
      from = from_child p good a b there r.0 n at (leg m a b).from refl;
      to = to_child p good a b here r.0 n on (leg m a b).to refl;
    }
