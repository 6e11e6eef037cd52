-- What the parts of a number stand for.
use Rattle.std.specs.Prelude.{◌≡◌, ◌≤◌, ◌<◌, ◌+◌, ◌^◌, IsTrue, ℕ, List, [], length}
use Rattle.std.specs.Str.Parse.{AllDigits, digits_value}
use Rattle.sg_units.specs.Amount.{is_short}
use Rattle.sg_units.specs.declared.number.Number.{Number as Parts}
use Rattle.sg_units.specs.Number.{Number, digits, has_minus, number_of}

abbrev pub parts_of : Parts → Number
parts_of p = record {
  whole = p.whole.now;
  fraction = p.fraction.now;
  is_negative = p.is_negative;
  exponent = p.exponent.now;
  unit = p.unit.now;
}

-- each byte of its parts is a digit
pub record HasDigits (p : Parts) : Type 0 where
  pub whole : AllDigits 10 p.whole.now
  pub fraction : AllDigits 10 p.fraction.now
  pub exponent : AllDigits 10 p.exponent.now

-- so it is, and they are few
pub record HasFewDigits (p : Parts) : Type 0 where
  pub digits : HasDigits p
  pub short : IsTrue (is_short (parts_of p))

-- the text is digits alone, at most 18 of them, which write this number
pub record IsPlainNumber (text : List ℕ) (n : ℕ) : Type 0 where
  pub some : 0 < length text
  pub few : length text ≤ 18
  pub digits : AllDigits 10 text
  pub value : digits_value 10 text ≡ n

-- a number with these digits, neither a point nor an exponent, and this unit
abbrev pub plain_parts : List ℕ → List ℕ → Number
plain_parts whole unit = record {
  whole = whole;
  fraction = [];
  is_negative = has_minus unit;
  exponent = [];
  unit = unit;
}

-- the number of the text is digits alone, at most 18 of them, which write this number; this is its unit
pub record IsPlainFront (text : List ℕ) (n : ℕ) (unit : List ℕ) : Type 0 where
  pub some : 0 < length (digits text)
  pub few : length (digits text) ≤ 18
  pub number : number_of text ≡ plain_parts (digits text) unit
  pub value : digits_value 10 (digits text) ≡ n
  pub bound : n + 1 ≤ 10 ^ 18
