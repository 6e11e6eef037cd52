-- The text of a date.
use Rattle.std.specs.Prelude.{ℕ, ◌/◌, ◌%◌, ◌-◌, List, ◌∷◌, ◌++◌, length, replicate, decimal}

-- a number below 10^9 in nine digits
abbrev pub nine_digits : ℕ → List ℕ
nine_digits n = replicate (9 - length (decimal n)) 48 ++ decimal n

-- a date or a duration in nanoseconds: seconds, a point and nine digits
abbrev pub date_of : ℕ → List ℕ
date_of ns = decimal (ns / 1000000000) ++ 46 ∷ nine_digits (ns % 1000000000)
