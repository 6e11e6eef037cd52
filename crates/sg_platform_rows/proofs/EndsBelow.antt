-- The link that replaces another on the reverse route exists.
use Rattle.std.proofs.Common.{◌≡◌, ℕ, zero, suc, ◌+◌, ◌<◌, ◌≤◌, List, [], ◌∷◌, ◌++◌, length, length-append, get_or, reverse, arith}
use Rattle.std.proofs.lemmas.List.{length-map, length-reverse}
use Rattle.std.proofs.lemmas.List.Elements.{All-map}
use Rattle.std.specs.List.{AllByRecursion}
use Rattle.sg_base.specs.declared.ids.LinkId.{LinkId}
use Rattle.sg_platform_rows.specs.Ends.{back_of, ends_from, ends_of, link_end, link_ends, way_back}
use Rattle.sg_platform_rows.specs.Platform.{Counts, IsLinkList}
use Rattle.sg_platform_rows.specs.declared.ends.LinkEnd.{LinkEnd}
use Rattle.sg_platform_rows.specs.declared.rows.LinkRow.{LinkRow}
use Rattle.sg_platform_rows.specs.declared.rows.Policy.{Policy}
use Rattle.sg_platform_rows.specs.declared.rows.Policy.TheVariants.{Shared, Fatpipe, SplitDuplex}

abbrev BackBelow : ℕ → LinkEnd → Type 0
BackBelow n end = end.back.0 < n

abbrev Each : (LinkEnd → Type 0) → List LinkEnd → Type 0
Each P ends = AllByRecursion P ends

each_append : (P : LinkEnd → Type 0) (xs ys : List LinkEnd) → Each P xs → Each P ys → Each P (xs ++ ys)
each_append P [] ys p q = q
each_append P (x ∷ xs) ys p q = (p.0, each_append P xs ys p.1 q)

weaker : (m n : ℕ) (ends : List LinkEnd) → m ≤ n → Each (BackBelow m) ends → Each (BackBelow n) ends
weaker m n [] h each = tt
weaker m n (end ∷ ends) h each = (let below = each.0 in omega arith, weaker m n ends h each.1)

row_backs : (first latency : ℕ) (policy : Policy) → Each (BackBelow (first + length (ends_of first latency policy))) (ends_of first latency policy)
row_backs first latency Shared = (omega arith, tt)
row_backs first latency Fatpipe = (omega arith, tt)
row_backs first latency SplitDuplex = (omega arith, (omega arith, tt))

backs_from : (first : ℕ) (rows : List LinkRow) → Each (BackBelow (first + length (ends_from first rows))) (ends_from first rows)
backs_from first [] = tt
backs_from first (row ∷ rows) =
    let own = ends_of first row.latency row.policy in
    let rest = ends_from (first + length own) rows in
    let n : length (own ++ rest) ≡ length own + length rest = length-append own rest in
    let a = row_backs first row.latency row.policy in
    let b = backs_from (first + length own) rows in
    each_append (BackBelow (first + length (own ++ rest))) own rest
    (weaker (first + length own) (first + length (own ++ rest)) own (omega arith) a)
    (weaker (first + length own + length rest) (first + length (own ++ rest)) rest (omega arith) b)

pub link_ends_count : (rows : List LinkRow) → length (link_ends rows) ≡ length (ends_from 0 rows) + 1
link_ends_count rows = length-append (ends_from 0 rows) (link_end (length (ends_from 0 rows)) 15000 ∷ [])

backs : (rows : List LinkRow) → Each (BackBelow (length (link_ends rows))) (link_ends rows)
backs rows =
    let all = ends_from 0 rows in
    let last : List LinkEnd = link_end (length all) 15000 ∷ [] in
    let n = link_ends_count rows in
    each_append (BackBelow (length (link_ends rows))) all last (weaker (0 + length all) (length (link_ends rows)) all (omega arith) (backs_from 0 rows)) (omega arith, tt)

each_at : (P : LinkEnd → Type 0) (ends : List LinkEnd) (d : LinkEnd) → Each P ends → P d → (k : ℕ) → P (get_or ends k d)
each_at P [] d each h k = h
each_at P (end ∷ ends) d each h zero = each.0
each_at P (end ∷ ends) d each h (suc k) = each_at P ends d each.1 h k

back_below : (rows : List LinkRow) (link : LinkId) → (back_of (link_ends rows) link).0 < length (link_ends rows)
back_below rows link =
    let n = link_ends_count rows in
    each_at (BackBelow (length (link_ends rows))) (link_ends rows) (link_end 0 0) (backs rows) (omega arith) link.0

-- the reverse of 1 to 64 links is one
pub way_back_kept : (counts : Counts) (rows : List LinkRow) (links : List LinkId) → counts.links ≡ length (link_ends rows) → IsLinkList counts links → IsLinkList counts (way_back (link_ends rows) links)
way_back_kept counts rows links same kept =
    let ends = link_ends rows in
    let n = length-map (reverse links) (back_of ends) in
    let k = length-reverse links in
    record {
      some = omega (arith, n, k, kept.some);
      few = omega (arith, n, k, kept.few);
      each = All-map (λ link. link.0 < counts.links) (back_of ends) (reverse links) (λ i d within. omega (arith, same, back_below rows (get_or (reverse links) i d)));
    }
