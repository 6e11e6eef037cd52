-- What a search of bytes finds.
use Rattle.std.proofs.Common.{◌≡◌, ◌<◌, ℕ, Bool, true, false, List, length, get_or, Option, None, Some, inl, inr, arith}
use Rattle.std.specs.List.{position, position_or_len}
use Rattle.std.proofs.lemmas.Bool.{cases_Bool}
use Rattle.std.proofs.lemmas.Bool.Decides.{nat_tests}
use Rattle.std.proofs.lemmas.List.Sums.{position_or_len_is}
use Rattle.memchr.specs.Find.{IsFirstByte, Nowhere, Passes, is_byte}
use Rattle.sg_script.specs.Answer.{is_newline}

fails : (b : Bool) → (b ≡ true → ⊥) → b ≡ false
fails b isnt = elim (cases_Bool b) [ inl is ↦ absurd (isnt is) | inr other ↦ other ]

passed : (bytes : List ℕ) (i : ℕ) → Nowhere (Passes (is_byte 10) bytes) 0 i → (k : ℕ) → k < i → is_newline (get_or bytes k 0) ≡ false
passed bytes i none k below = fails (is_newline (get_or bytes k 0)) (none k (omega arith) below)

pub first_newline : (bytes : List ℕ) (found : Option ℕ) → IsFirstByte (is_byte 10) bytes found → found ≡ position is_newline bytes
first_newline bytes None none =
    let all : position_or_len is_newline bytes ≡ length bytes =
    position_or_len_is is_newline bytes (length bytes) 0 (omega arith) (passed bytes (length bytes) none) (λ less. absurd (omega (arith, less))) in
    grind (arith, nat_tests)
first_newline bytes (Some i) found =
    let less : i < length bytes = found.0.high in
    let at : position_or_len is_newline bytes ≡ i =
    position_or_len_is is_newline bytes i 0 (omega (arith, less)) (passed bytes i found.0.before) (λ _. found.1) in
    grind (arith, nat_tests)
