-- The route between the gateways of two children of one Star zone.
use Rattle.std.proofs.Common.{◌≡◌, ◌≢◌, ℕ, zero, suc, Bool, true, false, cond, List, [], ◌∷◌, ◌++◌, length, take, drop, get_or, append_assoc, Option, Some, arith, refl, sym, ◌∙◌, ap, subst}
use Rattle.std.proofs.lemmas.Bool.Decides.{nat_tests}
use Rattle.std.proofs.lemmas.List.{append_cancel_left, append-nil, take-append-drop}
use Rattle.std.specs.Option.{option_map_or}
use Rattle.std.specs.Prelude.{◌==◌}
use Rattle.sg_base.specs.declared.ids.Child.{Child}
use Rattle.sg_base.specs.declared.ids.Child.TheVariants.{Point, Zone}
use Rattle.sg_base.specs.declared.ids.PointId.{PointId}
use Rattle.sg_base.specs.declared.ids.ZoneId.{ZoneId}
use Rattle.sg_platform_rows.specs.Platform.{Platform}
use Rattle.sg_platform_rows.specs.declared.rows.ZoneRow.{ZoneRow}
use Rattle.sg_route.specs.Equal.{child_eq}
use Rattle.sg_route.specs.Leg.{child_towards, lowest_leg}
use Rattle.sg_route.specs.Local.{spoke_at}
use Rattle.sg_route.specs.Roads.{Roads, roads_of}
use Rattle.sg_route.specs.Route.{Passage, by_spokes, leg, passage, passage_on, way, whole_way}
use Rattle.sg_route.proofs.Passages.{by_passage}
use Rattle.sg_route.specs.declared.leg.Leg.{Leg}
use Rattle.sg_route_laws.specs.Laws.{StarJoinsGateways}
use Rattle.sg_route.proofs.Each.{each_found}
use Rattle.sg_route_laws.proofs.Good.{GoodSpoke, IsGood, Stands, home_exists, path_of}
use Rattle.sg_route_laws.proofs.Levels.{whole_apart}
use Rattle.sg_route_laws.proofs.Lowest.{parents_same}
use Rattle.sg_route_laws.proofs.Nested.{home, path_to}
use Rattle.sg_route_laws.proofs.Parting.{got}
use Rattle.sg_route_laws.proofs.StarWays.{one_step}
use Rattle.sg_route.proofs.WalkLemmas.{direct}
use Rattle.sg_zones.proofs.GoodTree.{any_at, depth_here}
use Rattle.sg_zones.proofs.TreeLemmas.{AboveIs, IsDepth, depth_once, path_front, path_last, path_length}
use Rattle.sg_zones.specs.Faults.{zone_above}
use Rattle.sg_zones.specs.Paths.{parent_zone, path}
use Rattle.sg_zones.specs.Tree.{zone_tree}

-- ---- where two paths part after what they share

parted_behind : (last : ZoneId) (a b : PointId) (front xs ys : List ZoneId) → lowest_leg last a b (front ++ xs) (front ++ ys) ≡ lowest_leg (get_or (last ∷ front) (length front) last) a b xs ys
parted_behind last a b [] xs ys = refl
parted_behind last a b (z ∷ front) xs ys = go (z.0 == z.0) (grind (arith, nat_tests)) (parted_behind z a b front xs ys)
  where
    go : (t : Bool) → t ≡ true → lowest_leg z a b (front ++ xs) (front ++ ys) ≡ lowest_leg (get_or (z ∷ front) (length front) z) a b xs ys
        → cond t (lowest_leg z a b (front ++ xs) (front ++ ys)) (record { zone = last; from = Zone z; to = Zone z }) ≡ lowest_leg (get_or (last ∷ (z ∷ front)) (length (z ∷ front)) last) a b xs ys
    go true e h = h ∙ ap (λ k. lowest_leg k a b xs ys) (got (z ∷ front) (length front) z last (omega arith))
    go false e h = absurd (cc)

parted_now : (last : ZoneId) (a b : PointId) (xs ys : List ZoneId) → child_eq (child_towards a xs) (child_towards b ys) ≡ false → lowest_leg last a b xs ys ≡ record { zone = last; from = child_towards a xs; to = child_towards b ys }
parted_now last a b [] ys far = refl
parted_now last a b (x ∷ xs) [] far = refl
parted_now last a b (x ∷ xs) (y ∷ ys) far = go (x.0 == y.0) far
  where
    go : (t : Bool) → t ≡ false → cond t (lowest_leg x a b xs ys) (record { zone = last; from = Zone x; to = Zone y }) ≡ record { zone = last; from = Zone x; to = Zone y }
    go true e = absurd (cc)
    go false e = refl

-- ---- the path of a gateway goes through the zone to the child

-- after the path of the zone the path continues at this child
pub record GoesOn (zones : List ZoneRow) (zone : ZoneId) (child : Child) (point : PointId) (whole_way : List ZoneId) : Type 0 where
  pub depth : ℕ
  pub is : IsDepth (suc depth) zones zone
  pub rest : List ZoneId
  pub same : whole_way ≡ path (suc depth) zones zone ++ rest
  pub on : child_towards point rest ≡ child

above_depth : (zones : List ZoneRow) (x zone : ZoneId) (k : ℕ) → parent_zone zones x ≡ Some zone → IsDepth (suc k) zones x → IsDepth k zones zone
above_depth zones x zone k up is =
    let P : Option ZoneId → Type 0 = λ o. AboveIs (IsDepth k zones) k o in
    subst P up is

above_path : (zones : List ZoneRow) (x zone : ZoneId) (k : ℕ) → parent_zone zones x ≡ Some zone → path (suc k) zones x ≡ path k zones zone ++ x ∷ []
unfolding path
above_path zones x zone k up = ap (λ o. option_map_or (path k zones) o [] ++ x ∷ []) up

through_zone : (zones : List ZoneRow) (x zone : ZoneId) (point : PointId) (d k : ℕ) (whole_way : List ZoneId) → parent_zone zones x ≡ Some zone → IsDepth (suc k) zones x
    → path (suc k) zones x ≡ take (suc k) whole_way → GoesOn zones zone (Zone x) point whole_way
through_zone zones x zone point d zero whole_way up is front = absurd (above_depth zones x zone zero up is)
through_zone zones x zone point d (suc k) whole_way up is front =
    let rest = drop (suc (suc k)) whole_way in
    record {
      depth = k;
      is = above_depth zones x zone (suc k) up is;
      rest = x ∷ rest;
      same = sym (take-append-drop (suc (suc k)) whole_way) ∙ ap (λ xs. xs ++ rest) (sym front ∙ above_path zones x zone (suc k) up) ∙ append_assoc (path (suc k) zones zone) (x ∷ []) rest;
      on = refl;
    }

pub goes_on : (p : Platform) → IsGood p → (child : Child) (gateway : PointId) (zone : ZoneId) → Stands p child gateway → zone_above (zone_tree p) child ≡ Some zone
    → GoesOn p.zones zone child gateway (path_to (roads_of p) gateway)
goes_on p good (Point q) gateway zone stands above =
    let held : (q.0 == gateway.0) ≡ true = stands.held in
    let n : q.0 ≡ gateway.0 = grind (arith, nat_tests) in
    let make : ℕ → PointId = λ k. record { 0 = k } in
    let same : gateway ≡ q = ap make (sym n) in
    let home_q : home (roads_of p) q ≡ zone = cc in
    let at : home (roads_of p) gateway ≡ zone = ap (home (roads_of p)) same ∙ home_q in
    let d = depth_here p.zones (home (roads_of p) gateway) good.tree (home_exists p good gateway stands.exists) in
    let P : ZoneId → Type 0 = λ z. IsDepth (suc d.depth) p.zones z in
    record {
      depth = d.depth;
      is = subst P at d.is;
      rest = [];
      same = path_of p good gateway stands.exists d ∙ ap (path (suc d.depth) p.zones) at ∙ sym (append-nil (path (suc d.depth) p.zones zone));
      on = ap Point same;
    }
goes_on p good (Zone x) gateway zone stands above =
    let d = depth_here p.zones (home (roads_of p) gateway) good.tree (home_exists p good gateway stands.exists) in
    let e = path_of p good gateway stands.exists d in
    let n : length (path_to (roads_of p) gateway) ≡ suc d.depth = ap length e ∙ path_length (suc d.depth) p.zones (home (roads_of p) gateway) d.is in
    let any = any_at (path_to (roads_of p) gateway) x stands.held in
    let at : get_or (path (suc d.depth) p.zones (home (roads_of p) gateway)) any.0 x ≡ x = ap (λ q. get_or q any.0 x) (sym e) ∙ any.2 in
    let inside = any.1 in
    let f = path_front (suc d.depth) any.0 p.zones (home (roads_of p) gateway) x d.is (omega arith) at in
    through_zone p.zones x zone gateway d.depth any.0 (path_to (roads_of p) gateway) (sym (parents_same p.zones x.0) ∙ above) f.depth (f.front ∙ ap (take (suc any.0)) (sym e))

-- ---- the law

child_itself : (c : Child) → child_eq c c ≡ true
child_itself (Point q) = grind (arith, nat_tests)
child_itself (Zone x) = grind (arith, nat_tests)

-- gateways of different children are different
pub gateways_apart : (zones : List ZoneRow) (zone : ZoneId) (c d : Child) (g k : PointId) (path_of : PointId → List ZoneId) → GoesOn zones zone c g (path_of g) → GoesOn zones zone d k (path_of k)
    → child_eq c d ≡ false → g.0 ≢ k.0
gateways_apart zones zone c d g k path_of r s far e =
    let make : ℕ → PointId = λ n. record { 0 = n } in
    let same : g ≡ k = ap make e in
    let deep : suc r.depth ≡ suc s.depth = depth_once (suc r.depth) (suc s.depth) zones zone r.is s.is in
    let both : path (suc s.depth) zones zone ++ r.rest ≡ path (suc s.depth) zones zone ++ s.rest =
    sym (ap (λ n. path n zones zone ++ r.rest) deep) ∙ sym r.same ∙ ap path_of same ∙ s.same in
    let rest : r.rest ≡ s.rest = append_cancel_left (path (suc s.depth) zones zone) r.rest s.rest both in
    let one : c ≡ d = sym r.on ∙ ap (λ q. child_towards q r.rest) same ∙ ap (child_towards k) rest ∙ s.on in
    let t : child_eq c d ≡ true = ap (child_eq c) (sym one) ∙ child_itself c in
    cc

pub leg_between : (p : Platform) (zone : ZoneId) (c d : Child) (g k : PointId) → GoesOn p.zones zone c g (path_to (roads_of p) g) → GoesOn p.zones zone d k (path_to (roads_of p) k)
    → child_eq c d ≡ false → leg (roads_of p) g k ≡ record { zone = zone; from = c; to = d }
leg_between p zone c d g k r s far =
    let own : ZoneId = home (roads_of p) g in
    let front = path (suc r.depth) p.zones zone in
    let deep : suc s.depth ≡ suc r.depth = depth_once (suc s.depth) (suc r.depth) p.zones zone s.is r.is in
    let other : path_to (roads_of p) k ≡ front ++ s.rest = s.same ∙ ap (λ n. path n p.zones zone ++ s.rest) deep in
    let last : get_or (own ∷ front) (length front) own ≡ zone =
    ap (λ i. get_or (own ∷ front) i own) (path_length (suc r.depth) p.zones zone r.is) ∙ path_last r.depth p.zones zone own r.is in
    let apart : child_eq (child_towards g r.rest) (child_towards k s.rest) ≡ false = ap (λ x. child_eq x (child_towards k s.rest)) r.on ∙ ap (child_eq c) s.on ∙ far in
    let one : Child → Leg = λ x. record { zone = zone; from = x; to = child_towards k s.rest } in
    let two : Child → Leg = λ x. record { zone = zone; from = c; to = x } in
    ap (λ q. lowest_leg own g k q (path_to (roads_of p) k)) r.same ∙ ap (lowest_leg own g k (front ++ r.rest)) other ∙ parted_behind own g k front r.rest s.rest
    ∙ ap (λ z. lowest_leg z g k r.rest s.rest) last ∙ parted_now zone g k r.rest s.rest apart ∙ ap one r.on ∙ ap two s.on

pub star_joins_gateways : (p : Platform) → IsGood p → StarJoinsGateways p
star_joins_gateways p good from to zone found other far above over star =
    let m : Roads = roads_of p in
    let g : PointId = from.gateway in
    let k : PointId = to.gateway in
    let r = goes_on p good from.child g zone (each_found (GoodSpoke p) (λ x. child_eq from.child x.child) p.spokes from found good.spokes).0 above in
    let s = goes_on p good to.child k zone (each_found (GoodSpoke p) (λ x. child_eq to.child x.child) p.spokes to other good.spokes).0 over in
    let apart = gateways_apart p.zones zone from.child to.child g k (path_to m) r s far in
    let q : Passage = record { start = g; end = k; links = from.up ++ to.down } in
    let way_there : passage_on m (leg m g k) ≡ Some q =
    ap (passage_on m) (leg_between p zone from.child to.child g k r s far) ∙ ap (λ x. passage m x from.child to.child) star
    ∙ ap (λ o. by_spokes o (spoke_at p.spokes to.child)) found ∙ ap (λ o. by_spokes (Some from) o) other in
    whole_apart m g k apart ∙ one_step m g k ∙ ap (by_passage (way 15 m) g k (leg m g k)) way_there ∙ direct (way 15 m) g k (leg m g k) q refl refl
