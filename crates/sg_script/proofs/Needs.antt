-- An open front needs a byte more, if one more comes.
use Rattle.std.proofs.Common.{◌≡◌, ◌<◌, ◌≤◌, ◌+◌, ◌∙◌, zero, suc, ap, refl, ℕ, Bool, true, false, ltb, List, ◌∷◌, ◌++◌, length, take, min, Option, None, Some, Result, Ok, Err, inl, inr, arith, length-append}
use Rattle.std.specs.List.{position_or_len, slice_split}
use Rattle.std.proofs.lemmas.Bool.{cases_lt}
use Rattle.std.proofs.lemmas.Bool.Decides.{nat_tests}
use Rattle.std.proofs.lemmas.List.Sums.{sum_by-cons}
use Rattle.std.specs.Prelude.{sum_by}
use Rattle.sg_script.specs.declared.fault.LineFault.TheVariants.{TooLong, NotAscii, UnknownActor, UnknownAction, ArgumentCount, BadAmount, TooManyLines, UnknownObject}
use Rattle.sg_script.specs.Known.{ScriptNames}
use Rattle.sg_script.proofs.Splits.{none_cases}
use Rattle.sg_script.specs.Answer.{deciding_line, is_newline, is_last_line, judgements}
use Rattle.sg_script.specs.kept.Front.{IsOpen}
use Rattle.sg_script.specs.Needed.{need_by, need_from, through, told_at}
use Rattle.sg_base.specs.declared.call.Action.{Action}
use Rattle.sg_script.specs.declared.fault.LineFault.{LineFault}
use Rattle.sg_script.proofs.Deciding.{with_newline}
use Rattle.sg_script.proofs.FrontLemmas.{some_part, uncut}

late_empty : (before : ℕ) (bytes : List ℕ) → before ≡ 100000000 → is_last_line true before bytes ≡ false → length bytes < 1
late_empty before bytes at_most not_bad = elim (cases_lt 0 (length bytes)) [
  | inl some ↦ grind (arith, nat_tests)
  | inr none ↦ omega (arith, none)
]

told_least : (late : Bool) (m start end : ℕ) (said : Result (Option Action) LineFault) → (late ≡ true → m < start + 1) → m < start + 4097 → m < end → m < told_at late start end said
told_least true m start end said first long whole = first refl
told_least false m start end (Ok said) first long whole = whole
told_least false m start end (Err TooLong) first long whole = long
told_least false m start end (Err NotAscii) first long whole = whole
told_least false m start end (Err UnknownActor) first long whole = whole
told_least false m start end (Err UnknownAction) first long whole = whole
told_least false m start end (Err ArgumentCount) first long whole = whole
told_least false m start end (Err BadAmount) first long whole = whole
told_least false m start end (Err TooManyLines) first long whole = whole
told_least false m start end (Err UnknownObject) first long whole = whole

-- the first line ends after an open front
through_least : (bytes part rest : List ℕ) (parts : List (List ℕ)) (n : ℕ) → slice_split is_newline (bytes ++ rest) ≡ (bytes ++ part) ∷ parts → 0 < length rest → length bytes < through (bytes ++ rest) (suc n)
through_least bytes part rest parts n cut some =
    let same : through (bytes ++ rest) (suc n) ≡ min (length (bytes ++ part) + 1 + sum_by with_newline (take n parts)) (length (bytes ++ rest)) =
    ap (λ (list : List (List ℕ)). min (sum_by with_newline (take (suc n) list)) (length (bytes ++ rest))) cut
    ∙ ap (λ (sum : ℕ). min sum (length (bytes ++ rest))) (sum_by-cons with_newline (bytes ++ part) (take n parts))
    in
    omega (arith, same, some, length-append bytes part, length-append bytes rest)

at_least : (before : ℕ) (bytes part rest : List ℕ) (parts : List (List ℕ)) (n : ℕ) (said : Result (Option Action) LineFault) → slice_split is_newline (bytes ++ rest) ≡ (bytes ++ part) ∷ parts → IsOpen before bytes → before ≤ 100000000 → 0 < length rest
    → length bytes < need_by before (bytes ++ rest) (Some (n, said))
at_least before bytes part rest parts zero said cut is few some =
    told_least (ltb 100000000 (before + 0 + 1)) (length bytes) (through (bytes ++ rest) 0) (through (bytes ++ rest) 1) said
    (λ late. let at_most : before ≡ 100000000 = grind (arith, nat_tests) in let none : length bytes < 1 = late_empty before bytes at_most is.not_bad in omega (arith, none))
    (omega (arith, is.short))
    (through_least bytes part rest parts 0 cut some)
at_least before bytes part rest parts (suc n) said cut is few some =
    let more : length bytes < through (bytes ++ rest) (suc n) = through_least bytes part rest parts n cut some in
    told_least (ltb 100000000 (before + suc n + 1)) (length bytes) (through (bytes ++ rest) (suc n)) (through (bytes ++ rest) (suc (suc n))) said
    (λ late. omega (arith, more))
    (omega (arith, more))
    (through_least bytes part rest parts (suc n) cut some)

by_least : (before : ℕ) (bytes part rest : List ℕ) (parts : List (List ℕ)) (at : Option (ℕ × Result (Option Action) LineFault)) → slice_split is_newline (bytes ++ rest) ≡ (bytes ++ part) ∷ parts → IsOpen before bytes → before ≤ 100000000 → 0 < length rest
    → length bytes < need_by before (bytes ++ rest) at
by_least before bytes part rest parts None cut is few some = omega (arith, some, length-append bytes rest)
by_least before bytes part rest parts (Some at) cut is few some = at_least before bytes part rest parts at.0 at.1 cut is few some

pub open_needs : (known : ScriptNames) (broken : Bool) (actor before earlier : ℕ) (bytes rest : List ℕ) → IsOpen before bytes → before ≤ 100000000 → 0 < length rest → length bytes < need_from known broken actor before (bytes ++ rest) earlier
open_needs known broken actor before earlier bytes rest is few some =
    let (part, parts, e) = some_part is_newline rest in
    let cut : slice_split is_newline (bytes ++ rest) ≡ (bytes ++ part) ∷ parts = uncut is_newline bytes rest part parts e (none_cases (position_or_len is_newline bytes) (length bytes) is.unended) in
    by_least before bytes part rest parts (deciding_line known actor earlier (judgements known before (bytes ++ rest) broken)) cut is few some
