-- How the slots of a scheduling round are cut into chunks, each for a worker.
use Rattle.std.specs.Prelude.{ℕ, ◌/◌, ◌*◌}
use Rattle.std.specs.Int.{div_ceil}

-- how many slots each chunk has, except the last, which may have fewer, for so many workers with one chunk each
abbrev pub chunk_size : ℕ → ℕ → ℕ
chunk_size seats workers = div_ceil seats workers

-- how many chunks of this size so many slots are
abbrev pub chunks : ℕ → ℕ → ℕ
chunks seats size = div_ceil seats size

-- how many slots the first half of the chunks has, which is the smaller one if their number is odd
abbrev pub seats_before_middle : ℕ → ℕ → ℕ
seats_before_middle seats size = chunks seats size / 2 * size
