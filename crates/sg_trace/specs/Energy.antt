-- The text of an energy.
use Rattle.std.specs.Prelude.{ℕ, ◌-◌, List, ◌∷◌, ◌++◌, length, replicate, decimal}

-- whole joules, a point and the rest in twelve digits
abbrev pub energy_of : ℕ → ℕ → List ℕ
energy_of joules rest = decimal joules ++ 46 ∷ (replicate (12 - length (decimal rest)) 48 ++ decimal rest)
