-- The chain of a flow's uses.
use Rattle.std.specs.Prelude.{◌≡◌, ◌≢◌, ℕ, zero, suc, Option, None, Some, List, [], ◌∷◌, slice_index_or}
use Rattle.sg_maxmin.specs.declared.uses.Use.{Use}

abbrev pub resource_at : Option Use → ℕ
resource_at None = 0
resource_at (Some one) = one.resource

abbrev pub next_at : Option Use → Option ℕ
next_at None = None
next_at (Some one) = one.next_of_flow

abbrev pub IsOf : ℕ → Option Use → Type 0
IsOf flow None = ⊥
IsOf flow (Some one) = one.flow ≡ flow

-- the resources of so many uses in a row
unfoldable pub resources : ℕ → List (Option Use) → Option ℕ → List ℕ
resources zero uses at = []
resources (suc n) uses None = []
resources (suc n) uses (Some i) = resource_at (slice_index_or uses i None) ∷ resources n uses (next_at (slice_index_or uses i None))

-- so many uses of the flow in a row, and then no more
unfoldable pub IsChain : ℕ → ℕ → List (Option Use) → Option ℕ → Type 0
IsChain flow zero uses at = at ≡ None
IsChain flow (suc n) uses None = ⊥
IsChain flow (suc n) uses (Some i) = IsOf flow (slice_index_or uses i None) × IsChain flow n uses (next_at (slice_index_or uses i None))

-- the chain is as it was, over the same resources
pub record IsSameChain (old new : List (Option Use)) (flow n : ℕ) (at : Option ℕ) : Type 0 where
  pub chain : IsChain flow n new at
  pub over : resources n new at ≡ resources n old at

-- the chains of all other flows are as they were
abbrev pub KeepsChains : List (Option Use) → List (Option Use) → ℕ → Type 0
KeepsChains old new flow = (other n : ℕ) (at : Option ℕ) → other ≢ flow → IsChain other n old at → IsSameChain old new other n at
