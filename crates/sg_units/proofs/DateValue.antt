-- The digits of a date text, without the point, write the nanoseconds.
use Rattle.std.proofs.Common.{◌≡◌, ◌∙◌, ◌+◌, ◌*◌, ◌-◌, ◌/◌, ◌%◌, ◌^◌, ◌<◌, ◌++◌, ℕ, List, [], ◌∷◌, length, refl, sym, arith, length-append, pow-suc, mod-lt, lit<}
use Rattle.std.specs.Prelude.{replicate, decimal, zero, suc}
use Rattle.std.specs.Char.{digit_value}
use Rattle.std.specs.Str.Parse.{digits_value, digits_value_after}
use Rattle.std.proofs.lemmas.Fmt.{decimal_is_IsNumeral_wide, length-decimal-le_wide}
use Rattle.std.proofs.lemmas.List.{length-replicate}
use Rattle.sg_units.specs.Date.{nine_digits}

after_append : (n : ℕ) (a b : List ℕ) → digits_value_after 10 n (a ++ b) ≡ digits_value_after 10 (digits_value_after 10 n a) b
after_append n [] b = refl
after_append n (c ∷ cs) b = after_append (n * 10 + digit_value c) cs b

shifted : (n d P Q Z A B : ℕ) → A ≡ (n * 10 + d) * P + Z → B ≡ (0 * 10 + d) * P + Z → Q ≡ P * 10 → A ≡ n * Q + B
shifted n d P Q Z A B a b q = rw (a, b, q) (omega arith)

after_is : (n : ℕ) (b : List ℕ) → digits_value_after 10 n b ≡ n * 10 ^ length b + digits_value_after 10 0 b
after_is n [] = omega arith
after_is n (c ∷ cs) =
    shifted n (digit_value c) (10 ^ length cs) (10 ^ length (c ∷ cs)) (digits_value_after 10 0 cs) (digits_value_after 10 n (c ∷ cs))
    (digits_value_after 10 0 (c ∷ cs)) (after_is (n * 10 + digit_value c) cs) (after_is (0 * 10 + digit_value c) cs) (pow-suc 10 (length cs))

zeros : (k : ℕ) (b : List ℕ) → digits_value 10 (replicate k 48 ++ b) ≡ digits_value 10 b
zeros zero b = refl
zeros (suc k) b = zeros k b

-- the nine digits write the number
pub nine_value : (n : ℕ) → n < 10 ^ 9 → digits_value 10 (nine_digits n) ≡ n
nine_value n h = zeros (9 - length (decimal n)) (decimal n) ∙ (decimal_is_IsNumeral_wide n (omega arith)).1

pub nine_length : (n : ℕ) → n < 10 ^ 9 → length (nine_digits n) ≡ 9
nine_length n h =
    let short = length-decimal-le_wide 9 n (omega arith) h (omega arith) in
    let zeros = length-replicate {A = ℕ} (9 - length (decimal n)) 48 in
    grind (arith, length-append, short, zeros)

-- the whole
pub date_value : (ns : ℕ) → ns < 10 ^ 33 → digits_value 10 (decimal (ns / 1000000000) ++ nine_digits (ns % 1000000000)) ≡ ns
date_value ns h =
    let q = ns / 1000000000 in
    let r = ns % 1000000000 in
    let small : r < 10 ^ 9 = mod-lt ns (lit< tt) in
    after_append 0 (decimal q) (nine_digits r) ∙ after_is (digits_value 10 (decimal q)) (nine_digits r)
    ∙ whole q r (digits_value 10 (decimal q)) (digits_value 10 (nine_digits r)) (length (nine_digits r))
    (decimal_is_IsNumeral_wide q (omega arith)).1 (nine_value r small) (nine_length r small) ∙ sym parts
  where
    whole : (q r x y n : ℕ) → x ≡ q → y ≡ r → n ≡ 9 → x * 10 ^ n + y ≡ q * 1000000000 + r
    whole q r x y n e f g = rw (e, f, g) refl

    parts : ns ≡ ns / 1000000000 * 1000000000 + ns % 1000000000
    parts = omega arith
