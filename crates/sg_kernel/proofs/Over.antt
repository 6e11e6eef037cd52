-- Routes over the links that a kernel is made with.
use Rattle.std.proofs.Common.{◌≡◌, ◌∙◌, sym, ap, ap₂, subst, refl, ℕ, ◌+◌, List, [], ◌∷◌, length, true, Ok, flat_map, arith}
use Rattle.std.proofs.lemmas.List.{length-append}
use Rattle.sg_platform_rows.specs.Ends.{ends_from, ends_of, link_end, link_ends}
use Rattle.sg_platform_rows.specs.Network.{bandwidth_over}
use Rattle.sg_platform_rows.specs.Platform.{Platform}
use Rattle.sg_platform_rows.specs.declared.network.Network.{Network}
use Rattle.sg_platform_rows.specs.declared.rows.LinkRow.{LinkRow}
use Rattle.sg_platform_rows.specs.declared.rows.Policy.{Policy}
use Rattle.sg_platform_rows.specs.declared.rows.Policy.TheVariants.{Shared, Fatpipe, SplitDuplex}
use Rattle.sg_route.specs.Roads.{Roads, roads_of}
use Rattle.sg_route.specs.Route.{Route, route_of}
use Rattle.sg_route.specs.Good.{IsGoodRoute, RoutesAreGood}
use Rattle.sg_kernel_calls.specs.Roads.{AreOver, IsOver}
use Rattle.sg_kernel_calls.specs.Setup.{caps_in, caps_of, link_cap, link_caps}

row_counts : (policy : Policy) (first latency bandwidth : ℕ) → length (ends_of first latency policy) ≡ length (caps_of policy bandwidth)
row_counts Shared first latency bandwidth = refl
row_counts Fatpipe first latency bandwidth = refl
row_counts SplitDuplex first latency bandwidth = refl

rows_count : (network : Network) (first : ℕ) (rows : List LinkRow) → length (ends_from first rows) ≡ length (flat_map (caps_in network) rows)
rows_count network first [] = refl
rows_count network first (row ∷ rows) =
    let here = ends_of first row.latency row.policy in
    length-append here (ends_from (first + length here) rows)
    ∙ ap₂ (λ (m n : ℕ). m + n) (row_counts row.policy first row.latency (bandwidth_over network row.bandwidth)) (rows_count network (first + length here) rows)
    ∙ sym (length-append (caps_in network row) (flat_map (caps_in network) rows))

-- a platform has a capacity for each of its links
pub links_count : (network : Network) (rows : List LinkRow) → length (link_ends rows) ≡ length (link_caps network rows)
links_count network rows =
    length-append (ends_from 0 rows) (link_end (length (ends_from 0 rows)) 15000 ∷ [])
    ∙ ap (λ (n : ℕ). n + 1) (rows_count network 0 rows)
    ∙ sym (length-append (flat_map (caps_in network) rows) (link_cap 498000000 true ∷ []))

good_is_over : (p : Platform) (route : Route) → IsGoodRoute p route → IsOver (length (link_ends p.links)) route
good_is_over p route good = record {
  some = λ none. let empty : length route.links ≡ 0 = ap length none in omega (arith, empty, good.some);
  few = good.few;
  exist = good.exist;
  latency = good.latency;
}

-- all routes of a platform are over the links that its kernel is made with
pub are_over : (p : Platform) (router : Roads) → router ≡ roads_of p → RoutesAreGood p → AreOver (length (link_ends p.links)) router
are_over p router is good a b route found =
    good_is_over p route (good a b route (subst (λ (r : Roads). route_of r a b ≡ Ok route) is found))
