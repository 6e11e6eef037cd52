-- From what was taken so far to the whole source, as it stands given at the end of a run.
use Rattle.std.proofs.Common.{◌≡◌, ◌-◌, ◌∙◌, sym, ap, refl, ℕ, List, [], ◌++◌, length, take, Some, arith, length-append}
use Rattle.std.proofs.lemmas.Grind.{common_steps}
use Rattle.std.proofs.lemmas.List.{append-nil}
use Rattle.sg_edge.specs.Files.{PartView, before, NoneLeft}
use Rattle.sg_edge.specs.Sources.{Source, Gives, bytes_given, is_broken}
use Rattle.sg_edge.specs.declared.files.Stage.{Stage}
use Rattle.sg_edge.specs.declared.files.Stage.TheVariants.{Fresh, Begun, Over, Broken}
use Rattle.sg_script.specs.Rest.{GoesOn}

front_taken : (taken rest : List ℕ) → take (length (taken ++ rest) - length rest) (taken ++ rest) ≡ taken
front_taken taken rest =
    let n : length (taken ++ rest) - length rest ≡ length taken = omega (arith, length-append taken rest) in
    rw n (grind (arith, common_steps))

by_stage : (taken left : List ℕ) (stage : Stage) (source : Source) → source.bytes ≡ bytes_given (taken ++ left) left stage → source.broken ≡ is_broken stage → (stage ≡ Over → left ≡ []) → GoesOn taken stage source
by_stage taken left Fresh source bytes broken over = record { rest = left; bytes = bytes; may = tt }
by_stage taken left Begun source bytes broken over = record { rest = left; bytes = bytes; may = tt }
by_stage taken left Over source bytes broken over = record { rest = left; bytes = bytes; may = (over refl, broken) }
by_stage taken left Broken source bytes broken over = record { rest = []; bytes = bytes ∙ front_taken taken left ∙ sym (append-nil taken); may = (refl, broken) }

pub given_goes_on : (taken : List ℕ) (old new : PartView) (source : Source) → old.left ≡ before taken new.left → (new.stage ≡ Over → NoneLeft new.left) → Gives old new source → GoesOn taken new.stage source
given_goes_on taken old new source left over gives =
    let all_is : Some gives.all ≡ Some (taken ++ gives.rest) = sym gives.told_old ∙ left ∙ ap (before taken) gives.told_new in
    let all : gives.all ≡ taken ++ gives.rest = cc in
    let bytes : source.bytes ≡ bytes_given (taken ++ gives.rest) gives.rest new.stage = gives.bytes ∙ ap (λ (l : List ℕ). bytes_given l gives.rest new.stage) all in
    by_stage taken gives.rest new.stage source bytes gives.broken (λ e. let none : NoneLeft (Some gives.rest) = rw gives.told_new at (over e) in none)
