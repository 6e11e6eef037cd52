-- The routes that a Full zone declares.
use Rattle.std.proofs.Common.{◌≡◌, true, Some, refl, sym, ◌∙◌, ap, subst, arith}
use Rattle.std.specs.Prelude.{◌==◌, ◌&&◌}
use Rattle.std.proofs.lemmas.Bool.Decides.{nat_tests}
use Rattle.sg_base.specs.declared.ids.Child.{Child}
use Rattle.sg_base.specs.declared.ids.Child.TheVariants.{Point}
use Rattle.sg_base.specs.declared.ids.PointId.{PointId}
use Rattle.sg_platform_rows.specs.Platform.{Platform}
use Rattle.sg_route.specs.Equal.{child_eq}
use Rattle.sg_route.specs.Local.{declared_route}
use Rattle.sg_route.specs.Roads.{Roads, roads_of}
use Rattle.sg_route.specs.Route.{Passage, leg, passage, passage_on, way}
use Rattle.sg_route.proofs.Passages.{by_declared, by_passage}
use Rattle.sg_route.specs.declared.locals.Local.{Local}
use Rattle.sg_route.specs.declared.locals.Pair.{Pair}
use Rattle.sg_route.proofs.Each.{each_found}
use Rattle.sg_route_laws.specs.Laws.{FullGoesAsDeclared, FullJoinsGateways}
use Rattle.sg_route_laws.proofs.Good.{GoodLocal, IsGood, Stands, pair_eq_true}
use Rattle.sg_route_laws.proofs.Levels.{whole_apart}
use Rattle.sg_route_laws.proofs.Nested.{path_to}
use Rattle.sg_route_laws.proofs.StarGateways.{gateways_apart, goes_on, leg_between}
use Rattle.sg_route_laws.proofs.StarWays.{leg_same, one_step}
use Rattle.sg_route.proofs.WalkLemmas.{direct}

-- the gateways of a local route that a pair has stand in the two of them
record StandsIn (p : Platform) (from to : Child) (l : Local) : Type 0 where
  start : Stands p from l.start
  end : Stands p to l.end

stands_in : (p : Platform) → IsGood p → (from to : Child) (l : Local) → declared_route (roads_of p).locals (record { from = from; to = to }) ≡ Some l → StandsIn p from to l
stands_in p good from to l found =
    let pair : Pair = record { from = from; to = to } in
    let r = each_found (GoodLocal p) (λ x. child_eq pair.from x.pair.from && child_eq pair.to x.pair.to) (roads_of p).locals l found good.locals in
    let same : l.pair ≡ pair = sym (pair_eq_true pair l.pair r.1) in
    let S : Pair → Type 0 = λ x. Stands p x.from l.start in
    let E : Pair → Type 0 = λ x. Stands p x.to l.end in
    record { start = subst S same r.0.start; end = subst E same r.0.end }

itself : (p : Platform) (a gateway : PointId) → Stands p (Point a) gateway → a.0 ≡ gateway.0
itself p a gateway stands = let held : (a.0 == gateway.0) ≡ true = stands.held in grind (arith, nat_tests)

pub full_goes_as_declared : (p : Platform) → IsGood p → FullGoesAsDeclared p
full_goes_as_declared p good a b l isa isb far same full found =
    let m : Roads = roads_of p in
    let s = stands_in p good (Point a) (Point b) l found in
    let q : Passage = record { start = l.start; end = l.end; links = l.links } in
    let there : passage_on m (leg m a b) ≡ Some q =
    ap (passage_on m) (leg_same p good a b isa same) ∙ ap (λ r. passage m r (Point a) (Point b)) full ∙ ap by_declared found in
    whole_apart m a b far ∙ one_step m a b ∙ ap (by_passage (way 15 m) a b (leg m a b)) there
    ∙ direct (way 15 m) a b (leg m a b) q (itself p a l.start s.start) (sym (itself p b l.end s.end))

pub full_joins_gateways : (p : Platform) → IsGood p → FullJoinsGateways p
full_joins_gateways p good from to l zone found far above over full =
    let m : Roads = roads_of p in
    let g : PointId = l.start in
    let k : PointId = l.end in
    let stands = stands_in p good from to l found in
    let r = goes_on p good from g zone stands.start above in
    let s = goes_on p good to k zone stands.end over in
    let apart = gateways_apart p.zones zone from to g k (path_to m) r s far in
    let q : Passage = record { start = g; end = k; links = l.links } in
    let there : passage_on m (leg m g k) ≡ Some q =
    ap (passage_on m) (leg_between p zone from to g k r s far) ∙ ap (λ x. passage m x from to) full ∙ ap by_declared found in
    whole_apart m g k apart ∙ one_step m g k ∙ ap (by_passage (way 15 m) g k (leg m g k)) there ∙ direct (way 15 m) g k (leg m g k) q refl refl
