-- How a `System` keeps its flows: each has a chain of uses.
use Rattle.std.specs.Prelude.{◌≡◌, ℕ, ◌+◌, ◌-◌, ◌*◌, ◌^◌, ◌<◌, min, IfSome, Option, None, Some, List, ◌∷◌, length, map, slice_index_or, unwrap_or, option_map}
use Rattle.sg_maxmin.specs.declared.uses.Use.{Use}
use Rattle.sg_maxmin.specs.Chain.{IsChain, resources}
use Rattle.sg_maxmin.specs.Chained.{Chained}
use Rattle.sg_maxmin.specs.declared.flow_row.FlowRow.{FlowRow}
use Rattle.sg_maxmin.specs.Fill.{Flow, flow, bounded}
use Rattle.sg_maxmin.specs.Sharing.{IsFlow, AreBothWays}

-- the resources of a row
abbrev pub row_uses : List (Option Use) → FlowRow → List ℕ
row_uses uses row = resources row.count uses row.first

-- the flow that a row stands for
unfoldable pub flow_of : List (Option Use) → FlowRow → Flow
flow_of uses row = flow (row_uses uses row) row.weight row.bound

-- the share that the row's level gives it, as far as 64 bits go; none while it isn't fixed
abbrev pub share_by_level : FlowRow → ℕ
share_by_level row = min (bounded row.bound (row.weight * unwrap_or row.level 0)) (2 ^ 64 - 1)

-- the share that the row has
abbrev pub share_in : Option FlowRow → ℕ
share_in None = 0
share_in (Some row) = row.share

abbrev pub flows_of : List (Option FlowRow) → List (Option Use) → List (Option Flow)
flows_of rows uses = map (option_map (flow_of uses)) rows

-- each row's uses are its own, and exist
pub record AreRows (capacities : List ℕ) (rows : List (Option FlowRow)) (uses : List (Option Use)) : Type 0 where
  pub chains : (id : ℕ) (row : FlowRow) → slice_index_or rows id None ≡ Some row → IsChain id row.count uses row.first
  pub flows : (id : ℕ) (row : FlowRow) → slice_index_or rows id None ≡ Some row → IsFlow capacities (flow_of uses row)
  pub bounds_fit : (id : ℕ) (row : FlowRow) → slice_index_or rows id None ≡ Some row → IfSome row.bound (λ bound. bound < 2 ^ 64)

-- the rows of a system and the chains of their uses, and for each resource a place for what remains of it and for the weights that wait
-- there
pub record IsKept (capacities : List ℕ) (rows : List (Option FlowRow)) (chains : Chained) (left waiting : List ℕ) : Type 0 where
  pub are_rows : AreRows capacities rows chains.uses
  pub both : AreBothWays (flows_of rows chains.uses) chains.users
  pub users_len : length chains.users ≡ length capacities
  pub left_len : length left ≡ length capacities
  pub waiting_len : length waiting ≡ length capacities

-- so many uses of one flow in a row, and then no more
abbrev pub IsOneChain : ℕ → List (Option Use) → Option ℕ → Type 0
IsOneChain n uses at = (id : ℕ) × IsChain id n uses at

-- a use, and the chain after it; that is one visit
pub record GoesOn (n : ℕ) (uses : List (Option Use)) (at : Option ℕ) (one : Use) (before after : ℕ) : Type 0 where
  pub chain : IsOneChain (n - 1) uses one.next_of_flow
  pub list : resources n uses at ≡ one.resource ∷ resources (n - 1) uses one.next_of_flow
  pub looks : after ≡ before + 1
