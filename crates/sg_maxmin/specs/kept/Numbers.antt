-- Numbers of flows: rows under numbers below a fixed one, and which numbers are free.
use Rattle.std.specs.Prelude.{◌≡◌, ◌≢◌, ℕ, ◌+◌, ◌-◌, ◌<◌, ◌≤◌, ◌^◌, Option, None, is_some, option_map, List, length, count_by, slice_index, slice_index_or}
use Rattle.sg_maxmin.specs.declared.flow_row.FlowRow.{FlowRow}

-- the row under a number
abbrev pub row_at : List (Option FlowRow) → ℕ → Option FlowRow
row_at rows id = slice_index_or rows id None

-- the row under a number, if there is one, becomes another, and the others stay
pub record ChangesRow (id : ℕ) (change : FlowRow → FlowRow) (old new : List (Option FlowRow)) : Type 0 where
  pub changed : row_at new id ≡ option_map change (row_at old id)
  pub others : (other : ℕ) → other ≢ id → row_at new other ≡ row_at old other
  pub len : length new ≡ length old

-- the same of each row
pub record ChangesRows (change : FlowRow → FlowRow) (old new : List (Option FlowRow)) : Type 0 where
  pub all : (key : ℕ) → row_at new key ≡ option_map change (row_at old key)
  pub len : length new ≡ length old

-- how many numbers have no row
abbrev pub free_count : List (Option FlowRow) → ℕ
free_count rows = length rows - count_by is_some rows

-- The first so many of the list are the numbers without a row, each once.
pub record AreFree (rows : List (Option FlowRow)) (free : List ℕ) (count : ℕ) : Type 0 where
  pub len : length free ≡ length rows
  pub counted : count_by is_some rows + count ≡ length rows
  pub in_range : (k : ℕ) → k < count → slice_index free k < length rows
  pub vacant : (k : ℕ) → k < count → row_at rows (slice_index free k) ≡ None
  pub once : (j k : ℕ) → j < k → k < count → slice_index free j ≢ slice_index free k
  pub few : length rows ≤ 2 ^ 32
