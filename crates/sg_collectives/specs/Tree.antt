-- The tree of the ranks, with rank 0 at its root.
use Rattle.std.specs.Prelude.{ℕ, ◌+◌, ◌-◌, ◌/◌, ◌%◌, ◌^◌, ◌==◌, List, map, if◌then◌else◌, nat_lt, nat_le, unwrap_or}
use Rattle.std.specs.List.{filter, find, range_with_len}

-- so many powers of two: 1, 2, 4, ..
abbrev pub powers : ℕ → List ℕ
powers count = map (λ k. 2 ^ k) (range_with_len 0 count)

-- the lowest set bit of a number above 0
unfoldable pub lowest_bit : ℕ → ℕ
lowest_bit number = unwrap_or (find (λ m. number / m % 2 == 1) (powers number)) 0

-- the lowest set bit of a rank; of rank 0 the least power of two that is at least the number of
-- members
unfoldable pub low : ℕ → ℕ → ℕ
low rank members = if rank == 0 then unwrap_or (find (λ m. nat_le members m) (powers (members + 1))) 0 else lowest_bit rank

-- whom a rank above 0 stands below
abbrev pub parent_rank : ℕ → ℕ
parent_rank rank = rank - lowest_bit rank

-- who stands right below a rank, rising: one member for each power of two below its lowest set bit
unfoldable pub children : ℕ → ℕ → List ℕ
children rank members =
    filter (λ child. nat_lt child members)
    (map (λ m. rank + m) (filter (λ m. nat_lt m (low rank members)) (powers (low rank members))))

-- so many ranks: 1, 2, 4, .. above this one
unfoldable pub doubling_from : ℕ → ℕ → List ℕ
doubling_from rank count = map (λ k. rank + 2 ^ k) (range_with_len 0 count)
