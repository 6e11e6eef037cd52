-- The room of lines.
use Rattle.std.specs.Prelude.{ℕ, ◌+◌, ◌≤◌}
use Rattle.arrayvec.specs.ArrayString.{ArrayString, array_string_len}

-- so many bytes more have room
abbrev pub HasRoom : ℕ → ArrayString → ℕ → Type 0
HasRoom most lines bytes = array_string_len lines + bytes ≤ most

-- they gained so many bytes at most
abbrev pub GrowsBy : ArrayString → ArrayString → ℕ → Type 0
GrowsBy old new bytes = array_string_len new ≤ array_string_len old + bytes
