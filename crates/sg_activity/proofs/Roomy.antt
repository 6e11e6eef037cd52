-- How many flows are to come, and how many uses of theirs.
use Rattle.std.proofs.Common.{◌≡◌, ℕ, ◌+◌, ◌<◌, ◌≤◌, Option, None, Some, List, length, set, sum_by, ap, arith}
use Rattle.std.proofs.lemmas.List.Sums.{sum_by-set, get_or-le-sum_by}
use Rattle.sg_activity_table.specs.declared.lives.Live.{Live}
use Rattle.sg_activity_table.specs.Pool.{slot_at, uses_ahead}
use Rattle.sg_activity.specs.kept.Sound.{slot_ahead, slot_uses}
use Rattle.sg_activity_table.specs.Kinds.{flows_ahead}

pub ahead_set : (slots : List (Option Live)) (key : ℕ) (slot : Option Live) → key < length slots → sum_by slot_ahead (set slots key slot) + slot_ahead (slot_at slots key) ≡ sum_by slot_ahead slots + slot_ahead slot
ahead_set slots key slot within = sum_by-set slot_ahead slots key slot None within

-- a latency that passes was counted
pub ahead_counted : (slots : List (Option Live)) (key : ℕ) (live : Live) → key < length slots → slot_at slots key ≡ Some live → flows_ahead live.kind ≤ sum_by slot_ahead slots
ahead_counted slots key live within at = omega (arith, get_or-le-sum_by slot_ahead slots key None within, ap slot_ahead at)

pub uses_set : (slots : List (Option Live)) (key : ℕ) (slot : Option Live) → key < length slots → sum_by slot_uses (set slots key slot) + slot_uses (slot_at slots key) ≡ sum_by slot_uses slots + slot_uses slot
uses_set slots key slot within = sum_by-set slot_uses slots key slot None within

-- and so were its uses
pub uses_counted : (slots : List (Option Live)) (key : ℕ) (live : Live) → key < length slots → slot_at slots key ≡ Some live → uses_ahead live.kind live.place ≤ sum_by slot_uses slots
uses_counted slots key live within at = omega (arith, get_or-le-sum_by slot_uses slots key None within, ap slot_uses at)
