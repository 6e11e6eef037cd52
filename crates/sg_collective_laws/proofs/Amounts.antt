-- A decimal is a word, and is read as its number.
use Rattle.std.proofs.Common.{◌≡◌, ◌<◌, ◌≤◌, ◌+◌, ◌*◌, ◌/◌, ◌^◌, ◌∙◌, ap, refl, ℕ, Bool, true, false, cond, List, [], ◌∷◌, ◌++◌, length, take, drop, All, Some, Ok, Err, decimal, arith, append-nil, le-leb, ne_eqb}
use Rattle.std.specs.Char.{digit_value, is_ascii_digit}
use Rattle.std.specs.List.{prefix_len}
use Rattle.std.specs.Str.Parse.{AllDigits, digits_value}
use Rattle.std.proofs.lemmas.Bool.{and_from}
use Rattle.std.proofs.lemmas.Bool.Decides.{nat_tests}
use Rattle.std.proofs.lemmas.Fmt.{decimal_is_IsNumeral, length-decimal-le}
use Rattle.std.proofs.lemmas.List.Elements.{All-cons, All-nil}
use Rattle.sg_units.specs.Amount.{amount_of, amount_or_fault, up_to, value_in_unit, value_of}
use Rattle.sg_units.specs.Number.{Number, after_digits, digits, number_of, with_fraction}
use Rattle.sg_units.specs.Units.{amount_units}
use Rattle.sg_units.specs.declared.fault.AmountFault.TheVariants as amount
use Rattle.sg_units.proofs.Digits.{digit_from_value}
use Rattle.sg_collective_laws.proofs.Texts.{IsWord, is_word_byte}

-- ---- digits
word_from_value : (b : ℕ) → digit_value b < 10 → is_word_byte b ≡ true
word_from_value b small = let range = digit_from_value b small in grind (arith, nat_tests)

digit_from_small : (b : ℕ) → digit_value b < 10 → is_ascii_digit b ≡ true
digit_from_small b small = let range = digit_from_value b small in grind (arith, nat_tests)

word_bytes : (text : List ℕ) → AllDigits 10 text → All (λ b. is_word_byte b ≡ true) text
word_bytes [] all = All-nil (λ b. is_word_byte b ≡ true)
word_bytes (b ∷ text) all = All-cons (λ x. is_word_byte x ≡ true) b text (word_from_value b all.0) (word_bytes text all.1)

all_front : (text : List ℕ) → AllDigits 10 text → prefix_len is_ascii_digit text ≡ length text
all_front [] all = refl
all_front (b ∷ text) all =
    rw (digit_from_small b all.0) (omega (arith, all_front text all.1))

whole_front : (text : List ℕ) → AllDigits 10 text → digits text ≡ text
whole_front text all = ap (λ (n : ℕ). take n text) (all_front text all) ∙ take_whole text
  where
    take_whole : (text : List ℕ) → take (length text) text ≡ text
    take_whole [] = refl
    take_whole (b ∷ text) = ap (λ (l : List ℕ). b ∷ l) (take_whole text)

nothing_behind : (text : List ℕ) → AllDigits 10 text → after_digits text ≡ []
nothing_behind text all = ap (λ (l : List ℕ). drop (length l) text) (whole_front text all) ∙ drop_whole text
  where
    drop_whole : (text : List ℕ) → drop (length text) text ≡ []
    drop_whole [] = refl
    drop_whole (b ∷ text) = drop_whole text

-- ---- a whole number
whole_number : List ℕ → Number
whole_number text = record { whole = text; fraction = []; is_negative = false; exponent = []; unit = [] }

number_is : (text : List ℕ) → AllDigits 10 text → number_of text ≡ whole_number text
unfolding whole_number
number_is text all = λ i. with_fraction (whole_front text all i) (nothing_behind text all i)

value_is : (text : List ℕ) (n : ℕ) → digits_value 10 text ≡ n → value_of (whole_number text) (record { numerator = 1; denominator = 1 }) ≡ n
unfolding whole_number
value_is text n is =
    let joined : digits_value 10 (text ++ []) ≡ n = ap (digits_value 10) (append-nil text) ∙ is in
    by_one (digits_value 10 (text ++ [])) ∙ joined
  where
    by_one : (v : ℕ) → v * 1 * 1 / 1 ≡ v
    by_one v = omega arith

pub reads_decimal : (n : ℕ) → n ≤ 1000000000000000 → amount_of (decimal n) ≡ Ok n
unfolding whole_number
reads_decimal n small =
    let text : List ℕ = decimal n in
    let numeral = decimal_is_IsNumeral n (omega arith) in
    let short : length text ≤ 16 = length-decimal-le 16 n (omega arith) (omega arith) (omega arith) in
    ap (amount_or_fault amount_units (10 ^ 15)) (number_is text numeral.0.1)
    ∙ ap (λ (b : Bool). cond b (Err amount.NotANumber) (value_in_unit (10 ^ 15) (whole_number text) (Some (record { numerator = 1; denominator = 1 })))) (ne_eqb (length text) 0 (λ e. omega (arith, numeral.0.0)))
    ∙ ap (λ (b : Bool). cond b (up_to (10 ^ 15) (value_of (whole_number text) (record { numerator = 1; denominator = 1 }))) (Err amount.TooLarge)) (and_from _ true (le-leb (length text + 0) 20 (omega arith)) refl)
    ∙ ap (up_to (10 ^ 15)) (value_is text n numeral.1)
    ∙ ap (λ (b : Bool). cond b (Ok n) (Err amount.TooLarge)) (le-leb n (10 ^ 15) small)

pub decimal_is_word : (n : ℕ) → n ≤ 1000000000000000 → IsWord (decimal n)
decimal_is_word n small =
    let numeral = decimal_is_IsNumeral n (omega arith) in
    let short : length (decimal n) ≤ 16 = length-decimal-le 16 n (omega arith) (omega arith) (omega arith) in
    record { some = numeral.0.0; short = omega arith; bytes = word_bytes (decimal n) numeral.0.1 }
