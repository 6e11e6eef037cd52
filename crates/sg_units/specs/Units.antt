-- The units of the readers: each name with its size in the reader's base unit.
use Rattle.std.specs.Prelude.{ℕ, ◌≤◌, ◌*◌, ◌^◌, Bool, ◌&&◌, nat_le, List, [], ◌∷◌, map, codes, bytes_eq, Option, option_map}
use Rattle.std.specs.Borrow.{Bor}
use Rattle.std.specs.List.{find, list_all}
use Rattle.sg_units.specs.declared.units.Ratio.{Ratio}

-- the units that a reader knows: the name of each, with its size as a fraction
abbrev pub Units : Type 0
Units = List (List ℕ × Ratio)

-- the fraction of a numerator and a denominator
abbrev pub ratio : ℕ → ℕ → Ratio
ratio numerator denominator = record { numerator = numerator; denominator = denominator }

-- a unit size that is a whole number of the base unit
abbrev pub whole : ℕ → Ratio
whole size = ratio size 1

-- the size of the unit of this name
abbrev pub size_of : Units → List ℕ → Option Ratio
size_of units name = option_map (λ u. u.1) (find (λ u. bytes_eq u.0 name) units)

-- the rows of a table in the code
abbrev pub rows : List (Bor (List ℕ) × ℕ × ℕ) → Units
rows table = map (λ r. (r.0.now, ratio r.1 r.2)) table

-- at most 10^15, over 1 to 8
pub record IsSize (size : Ratio) : Type 0 where
  pub numerator : size.numerator ≤ 10 ^ 15
  pub positive : 1 ≤ size.denominator
  pub denominator : size.denominator ≤ 8

abbrev pub is_size : Ratio → Bool
is_size size = nat_le size.numerator (10 ^ 15) && nat_le 1 size.denominator && nat_le size.denominator 8

abbrev pub are_sizes : Units → Bool
are_sizes units = list_all (λ u. is_size u.1) units

-- flops and bytes have no unit
abbrev pub amount_units : Units
amount_units = (codes "", whole 1) ∷ []

-- a factor has no unit, and is counted in millionths
abbrev pub factor_units : Units
factor_units = (codes "", whole (10 ^ 6)) ∷ []

-- in flops per second
abbrev pub speed_units : Units
speed_units = (codes "", whole 1) ∷ (codes "f", whole 1) ∷ (codes "kf", whole (10 ^ 3)) ∷ (codes "Mf", whole (10 ^ 6))
    ∷ (codes "Gf", whole (10 ^ 9)) ∷ (codes "Tf", whole (10 ^ 12)) ∷ (codes "Pf", whole (10 ^ 15)) ∷ []

-- in bytes per second
abbrev pub bandwidth_units : Units
bandwidth_units = (codes "", whole 1) ∷ (codes "Bps", whole 1) ∷ (codes "kBps", whole (10 ^ 3)) ∷ (codes "MBps", whole (10 ^ 6))
    ∷ (codes "GBps", whole (10 ^ 9)) ∷ (codes "TBps", whole (10 ^ 12)) ∷ (codes "KiBps", whole (2 ^ 10)) ∷ (codes "MiBps", whole (2 ^ 20))
    ∷ (codes "GiBps", whole (2 ^ 30)) ∷ (codes "bps", ratio 1 8) ∷ (codes "kbps", ratio (10 ^ 3) 8) ∷ (codes "Mbps", ratio (10 ^ 6) 8)
    ∷ (codes "Gbps", ratio (10 ^ 9) 8) ∷ []

-- in nanoseconds
abbrev pub time_units : Units
time_units = (codes "", whole (10 ^ 9)) ∷ (codes "ns", whole 1) ∷ (codes "us", whole (10 ^ 3)) ∷ (codes "ms", whole (10 ^ 6))
    ∷ (codes "s", whole (10 ^ 9)) ∷ (codes "m", whole (60 * 10 ^ 9)) ∷ (codes "h", whole (3600 * 10 ^ 9)) ∷ (codes "d", whole (86400 * 10 ^ 9))
    ∷ (codes "w", whole (604800 * 10 ^ 9)) ∷ []
