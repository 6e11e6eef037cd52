-- The generator of the numbers of a churn: a linear congruence modulo 2^64, of which the high bits are drawn.
use Rattle.std.specs.Prelude.{ℕ, ◌+◌, ◌*◌, ◌/◌, ◌%◌, ◌^◌}

-- the state after a draw
abbrev pub next_state : ℕ → ℕ
next_state state = (6364136223846793005 * state + 1442695040888963407) % 2 ^ 64

-- the number that a draw gives from this state: below 2^31
abbrev pub drawn : ℕ → ℕ
drawn state = next_state state / 2 ^ 33
