-- The size of a connected component, as sums over flow numbers, and the visits that it allows.
use Rattle.std.specs.Prelude.{ℕ, zero, suc, ◌+◌, ◌-◌, ◌*◌, Bool, Option, List, length, if◌then◌else◌}
use Rattle.sg_maxmin.specs.Fill.{Flow}
use Rattle.sg_maxmin.specs.Sharing.{flow_at, slot_part}

-- a sum over the numbers below one
unfoldable pub sum_below : (ℕ → ℕ) → ℕ → ℕ
sum_below amount zero = 0
sum_below amount (suc n) = sum_below amount n + amount n

abbrev pub joined_part : List (Option Flow) → (Flow → ℕ) → (ℕ → Bool) → ℕ → ℕ
joined_part slots amount passes id = if passes id then slot_part amount (flow_at slots id) else 0

-- how many flows are held whose numbers pass, and how many uses these have
abbrev pub joined_count : List (Option Flow) → (ℕ → Bool) → ℕ
joined_count slots passes = sum_below (joined_part slots (λ flow. 1) passes) (length slots)

abbrev pub joined_uses : List (Option Flow) → (ℕ → Bool) → ℕ
joined_uses slots passes = sum_below (joined_part slots (λ flow. length flow.uses) passes) (length slots)

-- the visits allowed for a component of so many flows with so many uses, after so many flows ended
abbrev pub spare_looks : ℕ → ℕ → ℕ → ℕ
spare_looks flows uses ended = 4 * ((flows + ended) * (flows + ended + 1)) + (flows + 4 * ended - 1) * uses
