-- Texts of digits alone.
use Rattle.std.proofs.Common.{◌≡◌, ◌<◌, ◌≤◌, ◌+◌, ◌*◌, ◌/◌, ◌∙◌, sym, ap, ap₂, refl, ℕ, Bool, true, false, cond, List, [], ◌∷◌, ◌++◌, length, Ok, Err, Some, arith}
use Rattle.std.proofs.Math.Nat.{div-one}
use Rattle.std.proofs.lemmas.Bool.{le-leb, ne_eqb}
use Rattle.std.proofs.lemmas.Bool.Decides.{nat_tests}
use Rattle.std.proofs.lemmas.Grind.{common_steps}
use Rattle.std.proofs.lemmas.List.{append-nil}
use Rattle.std.specs.Char.{is_ascii_digit, digit_value}
use Rattle.std.specs.List.{prefix_len}
use Rattle.std.specs.Prelude.{◌==◌, ◌&&◌, ◌||◌, nat_le, slice_index}
use Rattle.std.specs.Str.Parse.{AllDigits, digits_value}
use Rattle.sg_units.proofs.Digits.{digit_from_value}
use Rattle.sg_units.specs.Amount.{amount_by, amount_or_fault, is_short, up_to, value_in_unit, value_of}
use Rattle.sg_units.specs.Number.{Number, after_digits, digits, has_e, has_minus, number_of, with_fraction}
use Rattle.sg_units.specs.Units.{Units, amount_units, size_of, whole}
use Rattle.sg_units.specs.declared.units.Ratio.{Ratio}
use Rattle.sg_units.specs.declared.fault.AmountFault.TheVariants.{NotANumber, TooLarge}
use Rattle.sg_units.specs.kept.Shown.{IsPlainFront, IsPlainNumber, plain_parts}

is_digit : (b : ℕ) → digit_value b < 10 → is_ascii_digit b ≡ true
is_digit b small = let range = digit_from_value b small in grind (arith, nat_tests)

-- all of it is its front of digits
front_len : (text : List ℕ) → AllDigits 10 text → prefix_len is_ascii_digit text ≡ length text
front_len [] all = refl
front_len (b ∷ text) all = rw (is_digit b all.0) (omega (arith, front_len text all.1))

front_all : (text : List ℕ) → AllDigits 10 text → digits text ≡ text
front_all text all = rw (front_len text all) (grind (arith, common_steps))

none_behind : (text : List ℕ) → AllDigits 10 text → after_digits text ≡ []
none_behind text all = rw (front_all text all) (grind (arith, common_steps))

-- the number of such a text
abbrev plain : List ℕ → Number
plain text = record { whole = text; fraction = []; is_negative = false; exponent = []; unit = [] }

number_plain : (text : List ℕ) → AllDigits 10 text → number_of text ≡ plain text
number_plain text all = ap₂ with_fraction (front_all text all) (none_behind text all)

value_plain : (text : List ℕ) → value_of (plain text) (whole 1) ≡ digits_value 10 text
value_plain text =
    let x : ℕ = digits_value 10 (text ++ []) in
    let one : x * 1 * 1 / 1 ≡ x = div-one (x * 1 * 1) ∙ omega arith in
    one ∙ ap (digits_value 10) (append-nil text)

short_plain : (greatest n : ℕ) (text : List ℕ) → length text ≤ 18 → digits_value 10 text ≡ n → n ≤ greatest → value_in_unit greatest (plain text) (Some (whole 1)) ≡ Ok n
short_plain greatest n text few is below =
    let long : length text + 0 ≤ 20 = omega arith in
    let short : is_short (plain text) ≡ true = ap (λ (b : Bool). b && true) (le-leb (length text + 0) 20 long) in
    let most : nat_le n greatest ≡ true = le-leb n greatest below in
    ap (λ (b : Bool). cond b (up_to greatest (value_of (plain text) (whole 1))) (Err TooLarge)) short
    ∙ ap (up_to greatest) (value_plain text ∙ is)
    ∙ ap (λ (b : Bool). cond b (Ok n) (Err TooLarge)) most

pub plain_amount : (greatest n : ℕ) (text : List ℕ) → IsPlainNumber text n → n ≤ greatest → Ok n ≡ amount_by amount_units greatest text
plain_amount greatest n text is below =
    let some : (length text == 0) ≡ false = ne_eqb (length text) 0 (λ e. absurd (omega (arith, e, is.some))) in
    sym (ap (amount_or_fault amount_units greatest) (number_plain text is.digits)
    ∙ ap (λ (b : Bool). cond b (Err NotANumber) (value_in_unit greatest (plain text) (Some (whole 1)))) some
    ∙ short_plain greatest n text is.few is.value below)

-- ---- digits alone, and a unit
or_no : (a b : Bool) → (a || b) ≡ false → (a ≡ false) × (b ≡ false)
or_no true b is = (is, cc)
or_no false b is = (refl, is)

-- with neither a point nor the mark of an exponent after the digits
front_parts : (whole unit : List ℕ) → (slice_index unit 0 == 46) ≡ false → has_e unit ≡ false → with_fraction whole unit ≡ plain_parts whole unit
front_parts whole unit point mark = rw (point, mark) refl

pub front_number : (text unit : List ℕ) → unit ≡ after_digits text → (slice_index unit 0 == 46 || has_e unit) ≡ false → number_of text ≡ plain_parts (digits text) unit
front_number text unit is clear =
    let both = or_no (slice_index unit 0 == 46) (has_e unit) clear in
    ap (with_fraction (digits text)) (sym is) ∙ front_parts (digits text) unit both.0 both.1

value_front : (minus : Bool) (digits unit : List ℕ) (size : Ratio) → value_of (record { whole = digits; fraction = []; is_negative = minus; exponent = []; unit = unit }) size
    ≡ digits_value 10 digits * size.numerator / size.denominator
value_front true digits unit size =
    let one : digits_value 10 (digits ++ []) * 1 ≡ digits_value 10 digits = omega (arith, ap (digits_value 10) (append-nil digits)) in
    let same : 1 * size.denominator ≡ size.denominator = omega arith in
    ap₂ (λ (a b : ℕ). a * size.numerator / b) one same
value_front false digits unit size =
    let one : digits_value 10 (digits ++ []) * 1 ≡ digits_value 10 digits = omega (arith, ap (digits_value 10) (append-nil digits)) in
    let same : 1 * size.denominator ≡ size.denominator = omega arith in
    ap₂ (λ (a b : ℕ). a * size.numerator / b) one same

front_in_unit : (units : Units) (greatest n : ℕ) (digits unit : List ℕ) (size : Ratio) → 0 < length digits → length digits ≤ 18 → digits_value 10 digits ≡ n → Some size ≡ size_of units unit
    → amount_or_fault units greatest (plain_parts digits unit) ≡ up_to greatest (n * size.numerator / size.denominator)
front_in_unit units greatest n digits unit size some few is found =
    let begun : (length digits == 0) ≡ false = ne_eqb (length digits) 0 (λ e. absurd (omega (arith, e, some))) in
    let long : length digits + 0 ≤ 20 = omega arith in
    let short : is_short (plain_parts digits unit) ≡ true = ap (λ (b : Bool). b && true) (le-leb (length digits + 0) 20 long) in
    ap (λ (b : Bool). cond b (Err NotANumber) (value_in_unit greatest (plain_parts digits unit) (size_of units unit))) begun
    ∙ ap (value_in_unit greatest (plain_parts digits unit)) (sym found)
    ∙ ap (λ (b : Bool). cond b (up_to greatest (value_of (plain_parts digits unit) size)) (Err TooLarge)) short
    ∙ ap (up_to greatest) (value_front (has_minus unit) digits unit size ∙ ap (λ (x : ℕ). x * size.numerator / size.denominator) is)

pub front_amount : (units : Units) (greatest n : ℕ) (text unit : List ℕ) (size : Ratio) → IsPlainFront text n unit → Some size ≡ size_of units unit → up_to greatest (n * size.numerator / size.denominator) ≡ amount_by units greatest text
front_amount units greatest n text unit size is found =
    sym (ap (amount_or_fault units greatest) is.number ∙ front_in_unit units greatest n (digits text) unit size is.some is.few is.value found)
