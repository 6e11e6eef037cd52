-- How the parts of a number make its value.
use Rattle.std.proofs.Common.{◌≡◌, ◌<◌, ◌≤◌, ◌+◌, ◌-◌, ◌*◌, ◌/◌, ◌^◌, ◌∙◌, sym, ap, refl, ℕ, true, List, [], ◌∷◌, ◌++◌, length, None, Some, Ok, Err, inl, inr, arith}
use Rattle.std.specs.Prelude.{IsTrue, if◌then◌else◌}
use Rattle.std.specs.Char.{digit_value}
use Rattle.std.specs.Str.Parse.{digits_value, digits_value_after}
use Rattle.std.proofs.Math.Nat.{pow-le-pow_right, mul_assoc, mul_comm, mul-le-mul_right, div-div-eq-div-mul, div-lt_iff_lt-mul}
use Rattle.std.proofs.lemmas.Nat.{pow-add}
use Rattle.std.proofs.lemmas.Bool.{cases_lt}
use Rattle.std.proofs.lemmas.Bool.Decides.{nat_tests}
use Rattle.sg_units.specs.declared.fault.AmountFault.TheVariants.{TooLarge}
use Rattle.sg_units.specs.declared.units.Ratio.{Ratio}
use Rattle.sg_units.specs.Amount.{is_short, up_to, value_in_unit, value_of}
use Rattle.sg_units.specs.Number.{Number}
use Rattle.sg_units.specs.kept.Scaled.{if_at_most}

pub after_append : (n : ℕ) (a b : List ℕ) → digits_value_after 10 n (a ++ b) ≡ digits_value_after 10 (digits_value_after 10 n a) b
after_append n [] b = refl
after_append n (c ∷ cs) b = after_append (n * 10 + digit_value c) cs b

-- two parts of at most 20 digits together
pub two_parts : (r p w : ℕ) → r + 1 ≤ (0 + 1) * 10 ^ w → w + p ≤ 20 → (r + 1) * 10 ^ p ≤ 10 ^ 20
two_parts r p w bound few =
    let grown : (r + 1) * 10 ^ p ≤ (0 + 1) * 10 ^ w * 10 ^ p = mul-le-mul_right (10 ^ p) bound in
    let joined : (0 + 1) * 10 ^ w * 10 ^ p ≡ 1 * 10 ^ (w + p) = mul_assoc 1 (10 ^ w) (10 ^ p) ∙ ap (λ x. 1 * x) (sym (pow-add 10 w p)) in
    let few_digits : 10 ^ (w + p) ≤ 10 ^ 20 = pow-le-pow_right (omega arith) few in
    omega arith

pub few_in_all : (n : Number) → IsTrue (is_short n) → length n.whole + length n.fraction ≤ 20
few_in_all n short = grind (arith, nat_tests)

-- what the parts of a number and its unit were read as
pub record Read (n : Number) (size : Ratio) (d s p q : ℕ) : Type 0 where
  pub digits : d ≡ digits_value 10 (n.whole ++ n.fraction)
  pub times : s ≡ size.numerator
  pub power : p ≡ (if n.is_negative then 0 else digits_value 10 n.exponent)
  pub places : q ≡ length n.fraction + (if n.is_negative then digits_value 10 n.exponent else 0)

-- the product over the powers of ten and then over the unit's denominator is the value
value_by_steps : (n : Number) (size : Ratio) (d s p q : ℕ) → Read n size d s p q → d * s * 10 ^ p / 10 ^ q / size.denominator ≡ value_of n size
value_by_steps n size d s p q read =
    let turned : d * s * 10 ^ p ≡ d * 10 ^ p * s = mul_assoc d s (10 ^ p) ∙ ap (λ x. d * x) (mul_comm s (10 ^ p)) ∙ sym (mul_assoc d (10 ^ p) s) in
    div-div-eq-div-mul (d * s * 10 ^ p) (10 ^ q) size.denominator ∙ ap (λ x. x / (10 ^ q * size.denominator)) turned ∙ rw (read.digits, read.times, read.power, read.places) refl

-- a number below (g + 1) m has a quotient by m of at most g, and any other a greater one
within : (g m x : ℕ) → 1 ≤ m → x ≤ (g + 1) * m - 1 → x / m ≤ g
within g m x some below =
    let room : m ≤ (g + 1) * m = omega (arith, mul-le-mul_right {m = 1} {n = g + 1} m (omega arith)) in
    let less : x / m < g + 1 = (div-lt_iff_lt-mul {k = m} {x = x} {y = g + 1} some).1 (omega arith) in
    omega arith

beyond : (g m x : ℕ) → 1 ≤ m → (g + 1) * m - 1 < x → g < x / m
beyond g m x some above =
    elim (cases_lt (x / m) (g + 1)) [
      | inl less ↦ let small : x < (g + 1) * m = (div-lt_iff_lt-mul {k = m} {x = x} {y = g + 1} some).0 less in absurd (omega arith)
      | inr more ↦ omega arith
    ]

some_within : (most x v : ℕ) → Some v ≡ if_at_most most x → (v ≡ x) × (x ≤ most)
some_within most x v is = grind (arith, nat_tests)

none_beyond : (most x : ℕ) → None ≡ if_at_most most x → most < x
none_beyond most x is = grind (arith, nat_tests)

up_to_within : (g v : ℕ) → v ≤ g → Ok v ≡ up_to g v
up_to_within g v below = grind (arith, nat_tests)

up_to_beyond : (g v : ℕ) → g < v → Err TooLarge ≡ up_to g v
up_to_beyond g v above = grind (arith, nat_tests)

-- the two answers, from what was scaled
pub limited_some : (g v d s p q : ℕ) (n : Number) (size : Ratio) → Read n size d s p q → is_short n ≡ true → 1 ≤ size.denominator
    → Some v ≡ if_at_most ((g + 1) * size.denominator - 1) (d * s * 10 ^ p / 10 ^ q) → Ok (v / size.denominator) ≡ value_in_unit g n (Some size)
limited_some g v d s p q n size read short some is =
    let x = d * s * 10 ^ p / 10 ^ q in
    let found = some_within ((g + 1) * size.denominator - 1) x v is in
    let below : x / size.denominator ≤ g = within g size.denominator x some found.1 in
    rw (short, found.0) (up_to_within g (x / size.denominator) below ∙ ap (up_to g) (value_by_steps n size d s p q read))

pub limited_none : (g d s p q : ℕ) (n : Number) (size : Ratio) → Read n size d s p q → is_short n ≡ true → 1 ≤ size.denominator
    → None ≡ if_at_most ((g + 1) * size.denominator - 1) (d * s * 10 ^ p / 10 ^ q) → Err TooLarge ≡ value_in_unit g n (Some size)
limited_none g d s p q n size read short some is =
    let x = d * s * 10 ^ p / 10 ^ q in
    let above : g < x / size.denominator = beyond g size.denominator x some (none_beyond ((g + 1) * size.denominator - 1) x is) in
    rw short (up_to_beyond g (x / size.denominator) above ∙ ap (up_to g) (value_by_steps n size d s p q read))
