-- A number text is one or more digits, then optionally a point and one or more digits, then optionally `e` or `E`,
-- optionally a sign, and one or more digits. The longest front of a text that is a number text is its number, and
-- what follows is its unit.
use Rattle.std.specs.Prelude.{ℕ, Bool, ◌==◌, ◌||◌, List, [], drop, length, slice_index, if◌then◌else◌}
use Rattle.std.specs.Char.{is_ascii_digit}
use Rattle.std.specs.List.{take_while}

-- the digits at the front of a text
abbrev pub digits : List ℕ → List ℕ
digits text = take_while is_ascii_digit text

-- what follows the digits at the front of a text
abbrev pub after_digits : List ℕ → List ℕ
after_digits text = drop (length (digits text)) text

-- what follows a point at the front
abbrev pub after_point : List ℕ → List ℕ
after_point text = if slice_index text 0 == 46 then drop 1 text else []

-- whether an `e` or `E`, the mark of an exponent, is at the front
abbrev pub has_e : List ℕ → Bool
has_e text = slice_index text 0 == 101 || slice_index text 0 == 69

-- whether the second byte, which follows the mark of an exponent, is a minus
abbrev pub has_minus : List ℕ → Bool
has_minus text = slice_index text 1 == 45

-- what follows an `e` or `E` at the front and its sign, a plus or a minus; empty without such a mark
abbrev pub after_e : List ℕ → List ℕ
after_e text = if has_e text then drop (if slice_index text 1 == 43 || has_minus text then 2 else 1) text else []

-- what follows the digits after a mark; with no digit there, the mark is no part of the number
abbrev pub after_part : List ℕ → List ℕ → List ℕ
after_part text after_mark = if length (digits after_mark) == 0 then text else after_digits after_mark

-- a number text: the digits before the point, those after it, whether the exponent has a minus, the digits of the
-- exponent; and the unit after the number
pub record Number : Type 0 where
  pub whole : List ℕ
  pub fraction : List ℕ
  pub is_negative : Bool
  pub exponent : List ℕ
  pub unit : List ℕ

-- the number with these digits around the point, and the exponent and unit of the remaining text
abbrev pub with_exponent : List ℕ → List ℕ → List ℕ → Number
with_exponent whole fraction text = record {
  whole = whole;
  fraction = fraction;
  is_negative = has_minus text;
  exponent = digits (after_e text);
  unit = after_part text (after_e text);
}

-- the number with these digits before the point, and the rest read from the text after them
abbrev pub with_fraction : List ℕ → List ℕ → Number
with_fraction whole text = with_exponent whole (digits (after_point text)) (after_part text (after_point text))

-- the number of a text and its unit; with no digit at its front the text has none
abbrev pub number_of : List ℕ → Number
number_of text = with_fraction (digits text) (after_digits text)
