-- How many links there are.
use Rattle.std.proofs.Common.{◌+◌, ◌*◌, ◌≤◌, ℕ, List, [], ◌∷◌, length, length-append, arith}
use Rattle.sg_platform_rows.proofs.EndsBelow.{link_ends_count}
use Rattle.sg_platform_rows.specs.Ends.{ends_from, ends_of, link_ends}
use Rattle.sg_platform_rows.specs.declared.rows.LinkRow.{LinkRow}
use Rattle.sg_platform_rows.specs.declared.rows.Policy.{Policy}
use Rattle.sg_platform_rows.specs.declared.rows.Policy.TheVariants.{Shared, Fatpipe, SplitDuplex}

two_of : (first latency : ℕ) (policy : Policy) → length (ends_of first latency policy) ≤ 2
two_of first latency Shared = omega arith
two_of first latency Fatpipe = omega arith
two_of first latency SplitDuplex = omega arith

few_from : (first : ℕ) (rows : List LinkRow) → length (ends_from first rows) ≤ 2 * length rows
few_from first [] = omega arith
few_from first (row ∷ rows) =
    let own = ends_of first row.latency row.policy in
    omega (arith, length-append own (ends_from (first + length own) rows), two_of first row.latency row.policy, few_from (first + length own) rows)

-- a row gives two at most, and the loopback is one more
pub link_ends_few : (rows : List LinkRow) → length (link_ends rows) ≤ 2 * length rows + 1
link_ends_few rows = omega (arith, link_ends_count rows, few_from 0 rows)
