-- What one pass over the rows counts.
use Rattle.std.specs.Prelude.{◌≡◌, ℕ, ◌+◌, ◌-◌, ◌*◌, ◌/◌, ◌<◌, ◌≤◌, ◌&&◌, Option, None, Some, is_none, if◌then◌else◌, List, [], ◌++◌, All, map, filter, filter_map, flat_map, length, slice_index, slice_index_or, sum_by, option_to_list, option_map}
use Rattle.sg_maxmin.specs.declared.flow_row.FlowRow.{FlowRow}
use Rattle.sg_maxmin.specs.declared.uses.Use.{Use}
use Rattle.sg_maxmin.specs.Chain.{resources}
use Rattle.sg_maxmin.specs.Fill.{is_on, bounded, bound_level, level_of}
use Rattle.sg_maxmin.specs.Fixing.{Fixed}
use Rattle.sg_maxmin.specs.Sharing.{held}
use Rattle.sg_maxmin.specs.Step.{IsLeast, IsStepped}
use Rattle.sg_maxmin.specs.kept.Uses.{AreRows, IsOneChain, flow_of, flows_of, row_uses, share_by_level}

-- the rows that are there
abbrev pub rows_held : List (Option FlowRow) → List FlowRow
rows_held rows = filter_map (λ row. row) rows

-- the share of a row that is fixed at this level
abbrev pub row_share : FlowRow → Option ℕ → ℕ
row_share row None = 0
row_share row (Some level) = bounded row.bound (row.weight * level)

-- the sum of the fixed shares on the resource
abbrev pub taken_on : List (Option FlowRow) → List (Option Use) → ℕ → ℕ
taken_on rows uses resource = sum_by (λ row. if is_on resource (flow_of uses row) then row_share row row.level else 0) (rows_held rows)

-- the sum of the weights of the unfixed flows on it
abbrev pub waiting_on : List (Option FlowRow) → List (Option Use) → ℕ → ℕ
waiting_on rows uses resource = sum_by (λ row. if is_on resource (flow_of uses row) && is_none row.level then row.weight else 0) (rows_held rows)

-- both, at each resource
pub record AreCounted (capacities : List ℕ) (rows : List (Option FlowRow)) (uses : List (Option Use)) (left waiting : List ℕ) : Type 0 where
  pub left_len : length left ≡ length capacities
  pub waiting_len : length waiting ≡ length capacities
  pub left_is : (resource : ℕ) → resource < length capacities → slice_index left resource ≡ slice_index capacities resource - taken_on rows uses resource
  pub waiting_is : (resource : ℕ) → resource < length capacities → slice_index waiting resource ≡ waiting_on rows uses resource

-- the uses of a row are a chain, and each of its resources has a place in the list
pub record HasRowPlaces (uses : List (Option Use)) (row : FlowRow) (list : List ℕ) : Type 0 where
  pub chain : IsOneChain row.count uses row.first
  pub exist : All (λ resource. resource < length list) (row_uses uses row)

-- the limits of a row
abbrev pub row_limits : List ℕ → List ℕ → List (Option Use) → FlowRow → List ℕ
row_limits left waiting uses row = option_to_list (option_map (bound_level row.weight) row.bound) ++ map (λ c. slice_index left c / slice_index waiting c) (resources row.count uses row.first)

abbrev pub all_limits : List ℕ → List ℕ → List (Option Use) → List (Option FlowRow) → List ℕ
all_limits left waiting uses rows = flat_map (row_limits left waiting uses) (filter (λ row. is_none row.level) (rows_held rows))

-- what one row adds to the shares on a resource, and to the weights that wait there
abbrev pub row_taken : List (Option Use) → Option FlowRow → ℕ → ℕ
row_taken uses None resource = 0
row_taken uses (Some row) resource = if is_on resource (flow_of uses row) then row_share row row.level else 0

abbrev pub row_waiting : List (Option Use) → Option FlowRow → ℕ → ℕ
row_waiting uses None resource = 0
row_waiting uses (Some row) resource = if is_on resource (flow_of uses row) && is_none row.level then row.weight else 0

abbrev pub row_count : Option FlowRow → ℕ
row_count None = 0
row_count (Some row) = row.count

-- how many uses the rows have
abbrev pub count_of : List (Option FlowRow) → ℕ
count_of rows = sum_by (λ row. row.count) (rows_held rows)

-- at most so many visits
pub record LooksUpTo (looks before after : ℕ) : Type 0 where
  pub most : after ≤ before + looks
  pub least : before ≤ after

-- the step of a row
abbrev pub RowSteps : ℕ → (FlowRow → List ℕ) → Option FlowRow → Option FlowRow → Type 0
RowSteps low limits None after = after ≡ None
RowSteps low limits (Some row) after = (level : Option ℕ) × (after ≡ Some (record row { level = level })) × IsStepped low (IsLeast (Some low) (limits row)) row.level level

-- the row, fixed at this level
abbrev pub with_level : Option ℕ → FlowRow → FlowRow
with_level level row = record row { level = level }

-- the row, with the share of its level
abbrev pub with_share : FlowRow → FlowRow
with_share row = record row { share = share_by_level row }

-- the row without what `solve` gives it
abbrev pub without_share : FlowRow → FlowRow
without_share row = record row { level = None; share = 0 }

-- the limits of a row that isn't fixed
abbrev pub unfixed_limits : (FlowRow → List ℕ) → Option FlowRow → List ℕ
unfixed_limits limits None = []
unfixed_limits limits (Some row) = if is_none row.level then limits row else []

-- the same rows, except for their levels and shares
abbrev pub SameRows : List (Option FlowRow) → List (Option FlowRow) → Type 0
SameRows old new = (key : ℕ) → option_map without_share (slice_index_or new key None) ≡ option_map without_share (slice_index_or old key None)

-- each row is fixed at the level of its flow among the flows of all rows
abbrev pub AreRowLevels : List ℕ → List (Option Use) → List (Option FlowRow) → Type 0
AreRowLevels capacities uses rows = (key : ℕ) (row : FlowRow) → slice_index_or rows key None ≡ Some row → row.level ≡ Some (level_of capacities (held (flows_of rows uses)) (flow_of uses row))

-- each row has the share of its level
abbrev pub AreRowShares : List (Option FlowRow) → Type 0
AreRowShares rows = (key : ℕ) (row : FlowRow) → slice_index_or rows key None ≡ Some row → row.share ≡ share_by_level row

-- the max-min solve after so many steps: each row is as fixed as its flow
abbrev pub AreFixed : List (Option Use) → List (Option FlowRow) → Fixed → Type 0
AreFixed uses rows fixed = (key : ℕ) (row : FlowRow) → slice_index_or rows key None ≡ Some row → row.level ≡ fixed (flow_of uses row)

-- the rows, with a place for each resource in what is left and in how many wait
pub record HavePlaces (rows : List (Option FlowRow)) (uses : List (Option Use)) (left waiting : List ℕ) : Type 0 where
  pub capacities : List ℕ
  pub rows_are : AreRows capacities rows uses
  pub left_len : length left ≡ length capacities
  pub waiting_len : length waiting ≡ length capacities
