-- What a reader returns: the number as an exact fraction, times the unit, rounded down, or the first fault.
use Rattle.std.specs.Prelude.{ℕ, ◌+◌, ◌*◌, ◌/◌, ◌^◌, Bool, ◌==◌, ◌&&◌, nat_le, List, ◌++◌, length, Option, None, Some, Result, Ok, Err, if◌then◌else◌}
use Rattle.std.specs.Str.Parse.{digits_value}
use Rattle.sg_units.specs.declared.fault.AmountFault.{AmountFault}
use Rattle.sg_units.specs.declared.fault.AmountFault.TheVariants.{NotANumber, UnknownUnit, TooLarge}
use Rattle.sg_units.specs.declared.units.Ratio.{Ratio}
use Rattle.sg_units.specs.Number.{Number, number_of}
use Rattle.sg_units.specs.Units.{Units, size_of, amount_units, factor_units, speed_units, bandwidth_units, time_units}

-- all digits as one whole number, times 10 to the power, over 10 to the places, times the size of the unit, rounded
-- down; the places are those after the point, and a negative exponent adds to them
abbrev pub value_of : Number → Ratio → ℕ
value_of n size =
    let exponent = digits_value 10 n.exponent in
    let power = if n.is_negative then 0 else exponent in
    let places = length n.fraction + (if n.is_negative then exponent else 0) in
    digits_value 10 (n.whole ++ n.fraction) * 10 ^ power * size.numerator / (10 ^ places * size.denominator)

-- at most 20 digits before the exponent and 3 in it
abbrev pub is_short : Number → Bool
is_short n = nat_le (length n.whole + length n.fraction) 20 && nat_le (length n.exponent) 3

-- a value that does not exceed the greatest allowed, else the fault that it is too large
abbrev pub up_to : ℕ → ℕ → Result ℕ AmountFault
up_to greatest value = if nat_le value greatest then Ok value else Err TooLarge

-- the value of a number in the unit that was found, if it has few digits and is within the limit; or its fault
abbrev pub value_in_unit : ℕ → Number → Option Ratio → Result ℕ AmountFault
value_in_unit greatest n None = Err UnknownUnit
value_in_unit greatest n (Some size) = if is_short n then up_to greatest (value_of n size) else Err TooLarge

-- what a reader returns for a parsed number: its value, or its first fault
abbrev pub amount_or_fault : Units → ℕ → Number → Result ℕ AmountFault
amount_or_fault units greatest n = if length n.whole == 0 then Err NotANumber else value_in_unit greatest n (size_of units n.unit)

-- a reader, by its units and its greatest value
abbrev pub amount_by : Units → ℕ → List ℕ → Result ℕ AmountFault
amount_by units greatest text = amount_or_fault units greatest (number_of text)

-- flops or bytes
abbrev pub amount_of : List ℕ → Result ℕ AmountFault
amount_of = amount_by amount_units (10 ^ 15)

-- flops per second
abbrev pub speed_of : List ℕ → Result ℕ AmountFault
speed_of = amount_by speed_units (10 ^ 15)

-- bytes per second
abbrev pub bandwidth_of : List ℕ → Result ℕ AmountFault
bandwidth_of = amount_by bandwidth_units (10 ^ 15)

-- nanoseconds
abbrev pub time_of : List ℕ → Result ℕ AmountFault
time_of = amount_by time_units (10 ^ 18)

-- millionths
abbrev pub factor_of : List ℕ → Result ℕ AmountFault
factor_of = amount_by factor_units (10 ^ 9)
