-- Whole routes.
use Rattle.std.proofs.Common.{◌≡◌, ◌≢◌, ℕ, Bool, true, false, cond, List, [], length, Result, Ok, Err, arith, refl, sym, ◌∙◌, ap, subst}
use Rattle.std.specs.Prelude.{◌==◌, nat_lt, sum_by}
use Rattle.std.proofs.lemmas.Bool.Decides.{nat_tests}
use Rattle.sg_base.specs.declared.ids.PointId.{PointId}
use Rattle.sg_base.specs.declared.ids.LinkId.{LinkId}
use Rattle.sg_route.specs.declared.leg.Leg.{Leg}
use Rattle.sg_route.specs.declared.router.RouteFault.{RouteFault}
use Rattle.sg_route.specs.declared.router.RouteFault.TheVariants.{NoRoute, TooLong}
use Rattle.sg_route.specs.Roads.{Roads}
use Rattle.sg_zones.specs.Tree.{home, routing_in}
use Rattle.sg_route.specs.Route.{RouteLinks, Route, to_itself, unless_there, way, whole_way, route_of, route_or_fault, latency_of, LeavesRoute}
use Rattle.sg_route.specs.DistinctLinks.{distinct_links}
use Rattle.sg_route.specs.kept.Kept.{Kept, keep_all, KeepsWay}
use Rattle.sg_route.proofs.KeptLemmas.{IsKept, keep_all_is}
use Rattle.sg_route.proofs.WalkLemmas.{elsewhere}

pub whole_there : (m : Roads) (a b : PointId) → a.0 ≡ b.0 → whole_way m a b ≡ Ok (to_itself m (routing_in m.tree (home m.tree a)) a)
unfolding whole_way
whole_there m a b same = go (a.0 == b.0) (grind (arith, nat_tests))
  where
    go : (t : Bool) → t ≡ true → cond t (Ok (to_itself m (routing_in m.tree (home m.tree a)) a)) (way 16 m a b) ≡ Ok (to_itself m (routing_in m.tree (home m.tree a)) a)
    go t e = rw e refl

pub whole_elsewhere : (m : Roads) (a b : PointId) → a.0 ≢ b.0 → whole_way m a b ≡ unless_there (way 16 m) a b
unfolding whole_way
whole_elsewhere m a b apart = go (a.0 == b.0) (grind (arith, nat_tests)) ∙ sym (elsewhere (way 16 m) a b apart)
  where
    go : (t : Bool) → t ≡ false → cond t (Ok (to_itself m (routing_in m.tree (home m.tree a)) a)) (way 16 m a b) ≡ way 16 m a b
    go t e = rw e refl

judged_missing : (m : Roads) (w : RouteLinks) (leg : Leg) (old new : Kept) → KeepsWay w (Err leg) old new → LeavesRoute (route_or_fault m w) (Err (NoRoute leg.zone leg.from leg.to)) []
judged_missing m (Ok links) leg old new h = absurd (let q = h.0 in cc)
judged_missing m (Err missing) leg old new h =
    let fault : Leg → Result ℕ RouteFault = λ l. Err (NoRoute l.zone l.from l.to) in
    let e : leg ≡ missing = cc in
    (ap fault e, refl)

judged_ok : (m : Roads) (links : List LinkId) (kept : Kept) → IsKept [] links kept
    → ((kept.over ≡ true → LeavesRoute (route_or_fault m (Ok links)) (Err TooLong) []) × (kept.over ≡ false → LeavesRoute (route_or_fault m (Ok links)) (Ok (sum_by (latency_of m) kept.links)) kept.links))
judged_ok m links kept is = go (nat_lt 64 (length (distinct_links [] links))) is.over is.links
  where
    go : (t : Bool) → kept.over ≡ t → (kept.over ≡ false → kept.links ≡ distinct_links [] links)
        → (let r : Result Route RouteFault = cond t (Err TooLong) (Ok (record { links = distinct_links [] links; latency = sum_by (latency_of m) (distinct_links [] links) })) in
        (kept.over ≡ true → LeavesRoute r (Err TooLong) []) × (kept.over ≡ false → LeavesRoute r (Ok (sum_by (latency_of m) kept.links)) kept.links))
    go true e h = ((λ o. (refl, refl)), (λ o. absurd (cc)))
    go false e h = ((λ o. absurd (cc)), (λ o. (ap (λ xs. Ok (sum_by (latency_of m) xs)) (h o), h o)))

kept_of : (w : RouteLinks) (old new : Kept) (m : Roads) → old ≡ record { links = []; over = false } → KeepsWay w (Ok tt) old new
    → ((new.over ≡ true → LeavesRoute (route_or_fault m w) (Err TooLong) []) × (new.over ≡ false → LeavesRoute (route_or_fault m w) (Ok (sum_by (latency_of m) new.links)) new.links))
kept_of (Err missing) old new m start h = absurd (cc)
kept_of (Ok links) old new m start h =
    let e : keep_all (record { links = []; over = false }) links ≡ new = ap (λ k. keep_all k links) (sym start) ∙ sym h.1 in
    let P : Kept → Type 0 = λ k. IsKept [] links k in
    judged_ok m links new (subst P e (keep_all_is [] links (omega arith)))

pub routed_missing : (m : Roads) (a b : PointId) (leg : Leg) (old new : Kept) → KeepsWay (whole_way m a b) (Err leg) old new → LeavesRoute (route_of m a b) (Err (NoRoute leg.zone leg.from leg.to)) []
unfolding route_of
routed_missing m a b leg old new h = judged_missing m (whole_way m a b) leg old new h

pub routed_over : (m : Roads) (a b : PointId) (old new : Kept) → old ≡ record { links = []; over = false } → KeepsWay (whole_way m a b) (Ok tt) old new → new.over ≡ true → LeavesRoute (route_of m a b) (Err TooLong) []
unfolding route_of
routed_over m a b old new start h over = (kept_of (whole_way m a b) old new m start h).0 over

pub routed_kept : (m : Roads) (a b : PointId) (old new : Kept) → old ≡ record { links = []; over = false } → KeepsWay (whole_way m a b) (Ok tt) old new → new.over ≡ false
    → LeavesRoute (route_of m a b) (Ok (sum_by (latency_of m) new.links)) new.links
unfolding route_of
routed_kept m a b old new start h over = (kept_of (whole_way m a b) old new m start h).1 over

-- a refusal leaves no link
pub refused : (route : Result Route RouteFault) (fault : RouteFault) (result : Result ℕ RouteFault) (links : List LinkId) → LeavesRoute route (Err fault) [] → result ≡ Err fault → links ≡ [] → LeavesRoute route result links
refused route fault result links is told none =
    let P : Result ℕ RouteFault → Type 0 = λ r. LeavesRoute route r links in
    let Q : List LinkId → Type 0 = λ xs. LeavesRoute route (Err fault) xs in
    subst P (sym told) (subst Q (sym none) is)
