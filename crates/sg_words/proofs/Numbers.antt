-- How std's `parse` reads a number, beside the parser of the definition.
use Rattle.std.proofs.Common.{◌≡◌, ◌<◌, ◌&&◌, ◌^◌, ℕ, List, Bool, true, false, Some, None, refl, arith}
use Rattle.std.specs.Prelude.{if◌then◌else◌, nat_le, nat_lt, Ok, Err, Result}
use Rattle.std.specs.Str.Parse.{ParsesUnsigned, digits_value, without_leading_plus}
use Rattle.clap.specs.ValueTests.{is_numeral, is_unsigned_in}
use Rattle.clap.specs.declared.builder.value_parser.ValueParser.TheVariants as vp
use Rattle.clap.proofs.ValueTestLemmas.{accepts-Accepts, Accepts-accepts}
use Rattle.sg_words.specs.kept.Ranged.{number_in}
use Rattle.sg_words.proofs.Accepted.{both}

-- a number that `parse` reads, if it is in range
pub read_ok : (E : Type 0) (t : List ℕ) (r : Result ℕ E) (n least most : ℕ) → ParsesUnsigned 64 10 t r → r ≡ Ok n → (if nat_le least n && nat_le n most then Some n else None) ≡ number_in least most t
read_ok E t r n least most h is = with_it (rw is at h)
  where
    go : (a b : Bool) → a ≡ true → b ≡ true → (n : ℕ) → n ≡ digits_value 10 (without_leading_plus t)
        → (if nat_le least n && nat_le n most then Some n else None)
        ≡ (if a && (b && (nat_le least (digits_value 10 (without_leading_plus t)) && nat_le (digits_value 10 (without_leading_plus t)) most)) then Some (digits_value 10 (without_leading_plus t)) else None)
    go a b ea eb n e = rw (ea, eb, e) refl

    with_it : ParsesUnsigned {E = E} 64 10 t (Ok n) → (if nat_le least n && nat_le n most then Some n else None) ≡ number_in least most t
    with_it h =
        let small : digits_value 10 (without_leading_plus t) < 2 ^ 64 = h.0.1 in
        let all : is_unsigned_in 0 (2 ^ 64) t ≡ true = Accepts-accepts false (vp.Unsigned 0 (2 ^ 64)) t (h.0.0, small, omega arith, omega (arith, small)) in
        let first = both _ _ all in
        let second = both _ _ first.1 in
        go (is_numeral (without_leading_plus t)) (nat_lt (digits_value 10 (without_leading_plus t)) (2 ^ 64)) first.0 second.0 n h.1

-- a text that `parse` refuses
pub read_err : (E : Type 0) (t : List ℕ) (r : Result ℕ E) (e : E) (least most : ℕ) → ParsesUnsigned 64 10 t r → r ≡ Err e → None ≡ number_in least most t
read_err E t r e least most h is = go (is_unsigned_in least most t) refl (rw is at h)
  where
    go : (b : Bool) → is_unsigned_in least most t ≡ b → ParsesUnsigned 64 10 t (Err e) → None ≡ (if b then Some (digits_value 10 (without_leading_plus t)) else None)
    go true is h =
        let it = accepts-Accepts false (vp.Unsigned least most) t is in
        absurd (h (it.0, it.1))
    go false is h = refl
