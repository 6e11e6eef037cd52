-- Digits, and the number that they write.
use Rattle.std.proofs.Common.{◌≡◌, ◌<◌, ◌≤◌, ◌+◌, ◌-◌, ◌*◌, ◌^◌, ◌∙◌, suc, sym, ap, subst, ℕ, true, List, [], ◌∷◌, length, take, inl, inr, arith, add-one, get_or, drop}
use Rattle.std.proofs.Math.Seq.{drop-cons}
use Rattle.std.proofs.Math.Nat.{pow-suc, pow-le-pow_right, mul_assoc, mul_comm, mul-le-mul_left, mul-le-mul_right}
use Rattle.std.specs.Char.{is_ascii_digit, digit_value}
use Rattle.std.specs.List.{prefix_len}
use Rattle.std.specs.Str.Parse.{AllDigits, digits_value_after}
use Rattle.std.proofs.lemmas.Bool.{cases_Bool}
use Rattle.std.proofs.lemmas.Bool.Decides.{nat_tests}
use Rattle.std.proofs.lemmas.Grind.{common_steps}
use Rattle.sg_units.specs.Number.{digits}

-- an ASCII digit has its distance from '0' as its value
pub value_of_digit : (b : ℕ) → 48 ≤ b → b ≤ 57 → digit_value b ≡ b - 48
value_of_digit b least most = grind (arith, nat_tests)

pub digit_from_value : (b : ℕ) → digit_value b < 10 → (48 ≤ b) × (b ≤ 57)
digit_from_value b small = grind (arith, nat_tests)

pub value_from_test : (b : ℕ) → is_ascii_digit b ≡ true → digit_value b < 10
value_from_test b is = grind (arith, nat_tests)

take_next : (b k : ℕ) (text : List ℕ) → take (1 + k) (b ∷ text) ≡ b ∷ take k text
take_next b k text = let e : 1 + k ≡ suc k = omega arith in ap (λ n. take n (b ∷ text)) e

pub all_digits : (text : List ℕ) → AllDigits 10 (digits text)
all_digits [] = tt
all_digits (b ∷ text) = elim (cases_Bool (is_ascii_digit b)) [
  | inl is ↦ rw (is, take_next b (prefix_len is_ascii_digit text) text) (value_from_test b is, all_digits text)
  | inr isnt ↦ rw isnt tt
]

pub digits_by_length : (text : List ℕ) → take (length (digits text)) text ≡ digits text
digits_by_length text = grind (arith, common_steps)

-- one more digit of those that stand after a number
pub rest_at : (digits : List ℕ) (i : ℕ) → i < length digits → drop i digits ≡ get_or digits i 0 ∷ drop (i + 1) digits
rest_at digits i below = drop-cons digits i 0 below ∙ ap (λ k. get_or digits i 0 ∷ drop k digits) (sym (add-one i))

pub first_digit : (rest after : List ℕ) (b : ℕ) → rest ≡ b ∷ after → AllDigits 10 rest → digit_value b < 10
first_digit rest after b is all = (subst (AllDigits 10) is all).0

pub other_digits : (rest after : List ℕ) (b : ℕ) → rest ≡ b ∷ after → AllDigits 10 rest → AllDigits 10 after
other_digits rest after b is all = (subst (AllDigits 10) is all).1

pub read_next : (v b n : ℕ) (rest after : List ℕ) → rest ≡ b ∷ after → digit_value b < 10 → digits_value_after 10 v rest ≡ n → digits_value_after 10 (v * 10 + (b - 48)) after ≡ n
read_next v b n rest after is small read =
    let range = digit_from_value b small in
    ap (λ d. digits_value_after 10 (v * 10 + d) after) (sym (value_of_digit b range.0 range.1)) ∙ ap (λ l. digits_value_after 10 v l) (sym is) ∙ read

pub bound_next : (v b w : ℕ) (rest after : List ℕ) → rest ≡ b ∷ after → digit_value b < 10 → (v + 1) * 10 ^ length rest ≤ w → (v * 10 + (b - 48) + 1) * 10 ^ length after ≤ w
bound_next v b w rest after is small bound =
    let range = digit_from_value b small in
    let grown : v * 10 + (b - 48) + 1 ≤ (v + 1) * 10 = omega (arith, range.1) in
    let more : (v * 10 + (b - 48) + 1) * 10 ^ length after ≤ (v + 1) * 10 * 10 ^ length after = mul-le-mul_right (10 ^ length after) grown in
    let power : 10 ^ length rest ≡ 10 * 10 ^ length after = ap (λ l. 10 ^ length l) is ∙ pow-suc 10 (length after) ∙ mul_comm (10 ^ length after) 10 in
    let same : (v + 1) * 10 ^ length rest ≡ (v + 1) * 10 * 10 ^ length after = ap (λ x. (v + 1) * x) power ∙ sym (mul_assoc (v + 1) 10 (10 ^ length after)) in
    omega arith

pub next_within : (v b w : ℕ) (rest after : List ℕ) → rest ≡ b ∷ after → digit_value b < 10 → (v + 1) * 10 ^ length rest ≤ w → v * 10 + (b - 48) < w
next_within v b w rest after is small bound =
    let next = bound_next v b w rest after is small bound in
    let some : 1 ≤ 10 ^ length after = pow-le-pow_right {n = 10} (omega arith) {i = 0} {j = length after} (omega arith) in
    let more : (v * 10 + (b - 48) + 1) * 1 ≤ (v * 10 + (b - 48) + 1) * 10 ^ length after = mul-le-mul_left (v * 10 + (b - 48) + 1) some in
    omega arith

pub next_fits : (v b w : ℕ) (rest after : List ℕ) → rest ≡ b ∷ after → digit_value b < 10 → (v + 1) * 10 ^ length rest ≤ w → w < 2 ^ 120 → v * 10 + (b - 48) < 2 ^ 120
next_fits v b w rest after is small bound fits = omega (arith, next_within v b w rest after is small bound)

-- what up to 18 digits write
pub few_fit : (n : ℕ) → n ≤ 18 → 10 ^ n ≤ 10 ^ 18
few_fit n few = pow-le-pow_right {n = 10} (omega arith) {i = n} {j = 18} few
