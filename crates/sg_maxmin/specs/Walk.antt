-- Walks along chains of uses.
use Rattle.std.specs.Prelude.{◌≡◌, ℕ, zero, suc, Option, None, Some, List, [], ◌∷◌, slice_index_or}
use Rattle.sg_maxmin.specs.declared.uses.Use.{Use}

-- the next use of the same flow, and the next one on the same resource
abbrev pub next_of_flow : Use → Option ℕ
next_of_flow one = one.next_of_flow

abbrev pub next_on : Use → Option ℕ
next_on one = one.next_on

-- which resource is used, and by which flow
abbrev pub resource_of : Use → ℕ
resource_of one = one.resource

abbrev pub user_of : Use → ℕ
user_of one = one.flow

-- from this use on, one by one, the uses have these values, and no more follow
unfoldable pub Leads : (Use → Option ℕ) → (Use → ℕ) → List (Option Use) → Option ℕ → List ℕ → Type 0
Leads next value uses at [] = at ≡ None
Leads next value uses at (v ∷ values) = (i : ℕ) × (u : Use) × (at ≡ Some i) × (slice_index_or uses i None ≡ Some u) × (value u ≡ v) × Leads next value uses (next u) values

abbrev pub next_in : (Use → Option ℕ) → Option Use → Option ℕ
next_in next None = None
next_in next (Some one) = next one

-- how many uses follow, if no more than so many
unfoldable pub left_from : ℕ → (Use → Option ℕ) → List (Option Use) → Option ℕ → ℕ
left_from zero next uses at = 0
left_from (suc n) next uses None = 0
left_from (suc n) next uses (Some i) = suc (left_from n next uses (next_in next (slice_index_or uses i None)))
