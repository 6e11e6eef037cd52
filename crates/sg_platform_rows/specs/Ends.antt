-- The links that rows give, and their reverse.
use Rattle.std.specs.Prelude.{ℕ, ◌+◌, List, [], ◌∷◌, ◌++◌, length, map, reverse, slice_index_or}
use Rattle.sg_base.specs.declared.ids.LinkId.{LinkId}
use Rattle.sg_platform_rows.specs.declared.ends.LinkEnd.{LinkEnd}
use Rattle.sg_platform_rows.specs.declared.rows.LinkRow.{LinkRow}
use Rattle.sg_platform_rows.specs.declared.rows.Policy.{Policy}
use Rattle.sg_platform_rows.specs.declared.rows.Policy.TheVariants.{SplitDuplex}

-- a link, by the link that replaces it on the reverse route, and its latency
abbrev pub link_end : ℕ → ℕ → LinkEnd
link_end back latency = record { back = record { 0 = back }; latency = latency }

-- the links of one row, the first of them with this number: SPLITDUPLEX gives `_UP` and then `_DOWN`, each the other's
-- reverse
abbrev pub ends_of : ℕ → ℕ → Policy → List LinkEnd
ends_of first latency SplitDuplex = link_end (first + 1) latency ∷ (link_end first latency ∷ [])
ends_of first latency other = link_end first latency ∷ []

-- the links of the rows, in their order, numbered from this number on
abbrev pub ends_from : ℕ → List LinkRow → List LinkEnd
ends_from first [] = []
ends_from first (row ∷ rows) = ends_of first row.latency row.policy ++ ends_from (first + length (ends_of first row.latency row.policy)) rows

-- the links of the rows, and last the loopback, whose latency is 15,000 ns
abbrev pub link_ends : List LinkRow → List LinkEnd
link_ends rows = ends_from 0 rows ++ link_end (length (ends_from 0 rows)) 15000 ∷ []

-- the link that replaces this one on the reverse route
abbrev pub back_of : List LinkEnd → LinkId → LinkId
back_of ends link = (slice_index_or ends link.0 (link_end 0 0)).back

-- the reverse of links: in reverse order, each replaced by that of its other direction
abbrev pub way_back : List LinkEnd → List LinkId → List LinkId
way_back ends links = map (back_of ends) (reverse links)
