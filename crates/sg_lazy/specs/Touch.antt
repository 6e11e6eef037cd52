-- Which flows a change touches.
use Rattle.std.specs.Prelude.{◌≡◌, ℕ, zero, suc, Bool, true, false, ◌&&◌, ◌||◌, if◌then◌else◌, List, Contains, sum_by, slice_index, IsTrue}
use Rattle.std.specs.List.{list_any}
use Rattle.sg_maxmin.specs.Fill.{Flow, is_on}

-- whether the flow uses one of these resources
abbrev pub touches : (ℕ → Bool) → Flow → Bool
touches reached flow = list_any reached flow.uses

-- these resources, and those that a flow shares with them
unfoldable pub spread : List Flow → (ℕ → Bool) → ℕ → Bool
spread flows reached resource = reached resource || list_any (λ flow. is_on resource flow && touches reached flow) flows

-- what is reached in so many steps
unfoldable pub reach : ℕ → List Flow → (ℕ → Bool) → ℕ → Bool
reach zero flows first = first
reach (suc n) flows first = spread flows (reach n flows first)

-- a flow that uses a reached resource has all of its resources reached
abbrev pub IsClosed : List Flow → (ℕ → Bool) → Type 0
IsClosed flows reached = (flow : Flow) → Contains flows flow → IsTrue (touches reached flow) → (resource : ℕ) → IsTrue (is_on resource flow) → IsTrue (reached resource)

-- on every resource that isn't reached the flows are the same, and offer the same
pub record SameBut (reached : ℕ → Bool) (past_capacities capacities : List ℕ) (past flows : List Flow) : Type 0 where
  pub same_capacities : (resource : ℕ) → reached resource ≡ false → slice_index past_capacities resource ≡ slice_index capacities resource
  pub same_flows : (resource : ℕ) → reached resource ≡ false → (amount : Flow → ℕ)
      → sum_by (λ flow. if is_on resource flow then amount flow else 0) past ≡ sum_by (λ flow. if is_on resource flow then amount flow else 0) flows

-- whether the flow uses any resource
abbrev pub has_uses : Flow → Bool
has_uses flow = list_any (λ resource. true) flow.uses
