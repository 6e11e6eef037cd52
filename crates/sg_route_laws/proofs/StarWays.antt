-- The route between two points of one Star zone.
use Rattle.std.proofs.Common.{◌≡◌, ℕ, suc, Bool, true, false, cond, List, [], ◌∷◌, ◌++◌, length, get_or, Some, arith, refl, sym, ◌∙◌, ap, subst}
use Rattle.std.proofs.lemmas.Bool.Decides.{nat_tests}
use Rattle.std.specs.Prelude.{◌==◌}
use Rattle.sg_base.specs.declared.ids.Child.{Child}
use Rattle.sg_base.specs.declared.ids.Child.TheVariants.{Point, Zone}
use Rattle.sg_base.specs.declared.ids.PointId.{PointId}
use Rattle.sg_base.specs.declared.ids.ZoneId.{ZoneId}
use Rattle.sg_platform_rows.specs.Platform.{Platform}
use Rattle.sg_platform_rows.specs.declared.rows.SpokeRow.{SpokeRow}
use Rattle.sg_route.specs.Equal.{child_eq}
use Rattle.sg_route.specs.Leg.{lowest_leg}
use Rattle.sg_route.specs.Local.{spoke_at}
use Rattle.sg_route.specs.Roads.{Roads, roads_of}
use Rattle.sg_route.specs.Route.{Passage, by_spokes, leg, passage, passage_on, way}
use Rattle.sg_route.proofs.Passages.{by_passage}
use Rattle.sg_route.specs.declared.leg.Leg.{Leg}
use Rattle.sg_route_laws.specs.Laws.{IsPoint, StarGoesUpAndDown}
use Rattle.sg_route.proofs.Each.{each_found}
use Rattle.sg_route.proofs.WalkLemmas.{direct}
use Rattle.sg_route_laws.proofs.Good.{GoodSpoke, IsGood, child_eq_true, home_exists, path_of}
use Rattle.sg_route_laws.proofs.Levels.{whole_apart}
use Rattle.sg_route_laws.proofs.Nested.{home, path_to}
use Rattle.sg_route_laws.proofs.Parting.{got}
use Rattle.sg_zones.proofs.GoodTree.{depth_here}
use Rattle.sg_zones.proofs.TreeLemmas.{path_last, path_length}
use Rattle.sg_zones.specs.Faults.{child_holds}
use Rattle.sg_zones.specs.Tree as tree
use Rattle.sg_zones.specs.Tree.{zone_tree}

same_nat : (n : ℕ) → (n == n) ≡ true
same_nat n = grind (arith, nat_tests)

-- if both paths are one, it ends at the lowest zone, and both points are its children
parted_same : (last : ZoneId) (a b : PointId) (xs : List ZoneId) → lowest_leg last a b xs xs ≡ record { zone = get_or (last ∷ xs) (length xs) last; from = Point a; to = Point b }
parted_same last a b [] = refl
parted_same last a b (x ∷ xs) = go (x.0 == x.0) (same_nat x.0) (parted_same x a b xs)
  where
    go : (t : Bool) → t ≡ true → lowest_leg x a b xs xs ≡ record { zone = get_or (x ∷ xs) (length xs) x; from = Point a; to = Point b }
        → cond t (lowest_leg x a b xs xs) (record { zone = last; from = Zone x; to = Zone x }) ≡ record { zone = get_or (last ∷ (x ∷ xs)) (length (x ∷ xs)) last; from = Point a; to = Point b }
    go true e h =
        let make : ZoneId → Leg = λ z. record { zone = z; from = Point a; to = Point b } in
        h ∙ ap make (got (x ∷ xs) (length xs) x last (omega arith))
    go false e h = absurd (cc)

pub leg_same : (p : Platform) → IsGood p → (a b : PointId) → IsPoint (roads_of p) a → home (roads_of p) a ≡ home (roads_of p) b
    → leg (roads_of p) a b ≡ record { zone = home (roads_of p) a; from = Point a; to = Point b }
leg_same p good a b there same =
    let m : Roads = roads_of p in
    let za : ZoneId = home m a in
    let xs : List ZoneId = path_to m a in
    let d = depth_here p.zones za good.tree (home_exists p good a there) in
    let e = path_of p good a there d in
    let n : length xs ≡ suc d.depth = ap length e ∙ path_length (suc d.depth) p.zones za d.is in
    let P : ZoneId → Leg = λ z. lowest_leg za a b xs (tree.path_in m.tree z) in
    let make : ZoneId → Leg = λ z. record { zone = z; from = Point a; to = Point b } in
    let last : get_or (za ∷ xs) (length xs) za ≡ za = ap (λ i. get_or (za ∷ xs) i za) n ∙ ap (λ q. get_or q d.depth za) e ∙ path_last d.depth p.zones za za d.is in
    ap P (sym same) ∙ parted_same za a b xs ∙ ap make last

-- the gateway of a point is itself
own_gateway : (p : Platform) → IsGood p → (a : PointId) (s : SpokeRow) → spoke_at p.spokes (Point a) ≡ Some s → a.0 ≡ s.gateway.0
own_gateway p good a s found =
    let r = each_found (GoodSpoke p) (λ x. child_eq (Point a) x.child) p.spokes s found good.spokes in
    let same : Point a ≡ s.child = child_eq_true (Point a) s.child r.1 in
    let P : Child → Type 0 = λ c. child_holds (zone_tree p) c s.gateway ≡ true in
    let held : (a.0 == s.gateway.0) ≡ true = subst P (sym same) r.0.held in
    grind (arith, nat_tests)

pub one_step : (m : Roads) (a b : PointId) → way 16 m a b ≡ by_passage (way 15 m) a b (leg m a b) (passage_on m (leg m a b))
unfolding way
one_step m a b = refl

pub star_goes_up_and_down : (p : Platform) → IsGood p → StarGoesUpAndDown p
star_goes_up_and_down p good a b from to isa isb far same star up down =
    let m : Roads = roads_of p in
    let l : Leg = record { zone = home m a; from = Point a; to = Point b } in
    let q : Passage = record { start = from.gateway; end = to.gateway; links = from.up ++ to.down } in
    let found : passage_on m (leg m a b) ≡ Some q =
    ap (passage_on m) (leg_same p good a b isa same) ∙ ap (λ r. passage m r (Point a) (Point b)) star
    ∙ ap (λ o. by_spokes o (spoke_at p.spokes (Point b))) up ∙ ap (λ o. by_spokes (Some from) o) down in
    whole_apart m a b far ∙ one_step m a b ∙ ap (by_passage (way 15 m) a b (leg m a b)) found
    ∙ direct (way 15 m) a b (leg m a b) q (own_gateway p good a from up) (sym (own_gateway p good b to down))
