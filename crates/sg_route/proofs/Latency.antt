-- The latency of a route, and how many links it has.
use Rattle.std.proofs.Common.{◌≡◌, ◌+◌, ◌*◌, ◌≤◌, ℕ, Bool, true, false, cond, List, [], ◌∷◌, length, Ok, Err, arith, ap, refl}
use Rattle.std.proofs.lemmas.Bool.Decides.{nat_tests}
use Rattle.std.specs.Prelude.{fold, nat_lt, sum_by}
use Rattle.sg_base.specs.declared.ids.LinkId.{LinkId}
use Rattle.sg_base.specs.declared.ids.PointId.{PointId}
use Rattle.sg_platform_rows.specs.Ends.{ends_from, ends_of, link_end, link_ends}
use Rattle.sg_platform_rows.specs.Platform.{IsPlatform, Platform}
use Rattle.sg_platform_rows.specs.declared.ends.LinkEnd.{LinkEnd}
use Rattle.sg_platform_rows.specs.declared.rows.LinkRow.{LinkRow}
use Rattle.sg_platform_rows.specs.declared.rows.Policy.{Policy}
use Rattle.sg_platform_rows.specs.declared.rows.Policy.TheVariants.{Shared, Fatpipe, SplitDuplex}
use Rattle.sg_route.specs.DistinctLinks.{distinct_links}
use Rattle.sg_route.specs.Roads.{Roads, roads_of}
use Rattle.sg_route.specs.Route.{Route, RouteLinks, route_or_fault, latency_of, route_of, whole_way}
use Rattle.sg_route.specs.declared.router.RouteFault.TheVariants.{TooLong}
use Rattle.sg_route.proofs.Each.{each_at, each_from}
use Rattle.sg_zones.proofs.Each.{Each, each_append}

abbrev RowQuick : LinkRow → Type 0
RowQuick row = row.latency ≤ 1000000000000000

abbrev Quick : LinkEnd → Type 0
Quick end = end.latency ≤ 1000000000000000

own_quick : (first latency : ℕ) (policy : Policy) → latency ≤ 1000000000000000 → Each Quick (ends_of first latency policy)
own_quick first latency Shared h = (h, tt)
own_quick first latency Fatpipe h = (h, tt)
own_quick first latency SplitDuplex h = (h, (h, tt))

from_quick : (first : ℕ) (rows : List LinkRow) → Each RowQuick rows → Each Quick (ends_from first rows)
from_quick first [] each = tt
from_quick first (row ∷ rows) each =
    let own = ends_of first row.latency row.policy in
    each_append Quick own (ends_from (first + length own) rows) (own_quick first row.latency row.policy each.0) (from_quick (first + length own) rows each.1)

link_quick : (p : Platform) → IsPlatform p → (link : LinkId) → latency_of (roads_of p) link ≤ 1000000000000000
link_quick p kept link =
    let all = ends_from 0 p.links in
    let ends : Each Quick (link_ends p.links) =
    each_append Quick all (link_end (length all) 15000 ∷ []) (from_quick 0 p.links (each_from RowQuick p.links (λ k d few. (kept.links k d few).latency))) (omega arith, tt) in
    each_at Quick (link_ends p.links) (link_end 0 0) ends (omega arith) link.0

fold_quick : (f : LinkId → ℕ) (total : ℕ) (links : List LinkId) → ((link : LinkId) → f link ≤ 1000000000000000) → fold (λ sum link. sum + f link) total links ≤ total + length links * 1000000000000000
fold_quick f total [] h = omega arith
fold_quick f total (link ∷ links) h = omega (arith, h link, fold_quick f (total + f link) links h)

sum_quick : (f : LinkId → ℕ) (links : List LinkId) → ((link : LinkId) → f link ≤ 1000000000000000) → sum_by f links ≤ length links * 1000000000000000
sum_quick f links h = omega (arith, fold_quick f 0 links h)

-- at most 64 links, each of at most 10^15 ns
pub record IsQuick (r : Route) : Type 0 where
  pub few : length r.links ≤ 64
  pub latency : r.latency ≤ 64000000000000000

judged_quick : (m : Roads) (w : RouteLinks) (r : Route) → ((link : LinkId) → latency_of m link ≤ 1000000000000000) → route_or_fault m w ≡ Ok r → IsQuick r
judged_quick m (Err e) r h is = absurd (cc)
judged_quick m (Ok links) r h is = go (nat_lt 64 (length (distinct_links [] links))) refl is
  where
    go : (t : Bool) → nat_lt 64 (length (distinct_links [] links)) ≡ t
        → cond t (Err TooLong) (Ok (record { links = distinct_links [] links; latency = sum_by (latency_of m) (distinct_links [] links) })) ≡ Ok r → IsQuick r
    go true e f = absurd (cc)
    go false e f =
        let same : distinct_links [] links ≡ r.links = cc in
        let sum : sum_by (latency_of m) (distinct_links [] links) ≡ r.latency = cc in
        let few : length (distinct_links [] links) ≤ 64 = grind (arith, nat_tests) in
        let most = sum_quick (latency_of m) (distinct_links [] links) h in
        let n : length (distinct_links [] links) ≡ length r.links = ap length same in
        record { few = omega (arith, few, n); latency = omega (arith, few, most, sum) }

pub route_quick : (p : Platform) → IsPlatform p → (a b : PointId) (r : Route) → route_of (roads_of p) a b ≡ Ok r → IsQuick r
unfolding route_of
route_quick p kept a b r is = judged_quick (roads_of p) (whole_way (roads_of p) a b) r (link_quick p kept) is
