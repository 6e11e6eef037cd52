-- What a rate update does to rates.
use Rattle.std.specs.Prelude.{◌≡◌, ◌≢◌, ℕ, ◌==◌, ◌||◌, ◌&&◌, not, Bool, true, false, if◌then◌else◌, List, AllPairs, slice_index}
use Rattle.sg_base.specs.MarkSet.{MarkSet, is_in, with_mark}

-- whether a flow that is rated counts as changed: it began, or what it is given is another rate
abbrev pub did_change : List ℕ → List ℕ → (ℕ → ℕ) → ℕ → Bool
did_change began rates given id = is_in id began || not (slice_index rates id == given id)

-- the same if it didn't end
abbrev pub is_changed : List ℕ → List ℕ → List ℕ → (ℕ → ℕ) → ℕ → Bool
is_changed began ended rates given id = not (is_in id ended) && did_change began rates given id

-- unless it ended a flow has the rate that it is given, and is noted if that changed
pub record WritesRate (began ended : List ℕ) (flow : ℕ) (given : ℕ → ℕ) (old new : List ℕ) (noted noted' : MarkSet) : Type 0 where
  pub rate : is_in flow ended ≡ false → slice_index new flow ≡ given flow
  pub others : (other : ℕ) → other ≢ flow → slice_index new other ≡ slice_index old other
  pub changed : noted' ≡ record noted { members = if is_changed began ended old given flow then with_mark flow noted.members else noted.members }

-- the flows that moved and didn't end have the rates that they are given, and those that changed are noted
pub record WritesRates (moved began ended : List ℕ) (given : ℕ → ℕ) (old new changed : List ℕ) : Type 0 where
  pub rates : (id : ℕ) → is_in id moved ≡ true → is_in id ended ≡ false → slice_index new id ≡ given id
  pub others : (other : ℕ) → is_in other moved ≡ false → slice_index new other ≡ slice_index old other
  pub changed_are : (id : ℕ) → is_in id changed ≡ (is_in id moved && is_changed began ended old given id)
  pub once : AllPairs (λ a b. a ≢ b) changed
