-- What the bytes after a line need, and the line before them.
use Rattle.std.proofs.Common.{◌≡◌, ◌+◌, ◌-◌, ◌∙◌, suc, sym, ap, refl, ℕ, Bool, true, false, cond, ltb, List, [], ◌∷◌, length, take, min, Option, None, Some, Result, Ok, Err, arith}
use Rattle.std.specs.Prelude.{option_map, slice_get, sum_by}
use Rattle.std.specs.List.{slice_split}
use Rattle.std.proofs.lemmas.Bool.Decides.{nat_tests}
use Rattle.std.proofs.lemmas.List.Sums.{sum_by-cons}
use Rattle.sg_script.specs.declared.fault.LineFault.{LineFault}
use Rattle.sg_script.specs.declared.fault.LineFault.TheVariants.{TooLong, NotAscii, UnknownActor, UnknownAction, ArgumentCount, BadAmount, TooManyLines, UnknownObject}
use Rattle.sg_script.specs.declared.line.Entry.{Entry}
use Rattle.sg_script.specs.Known.{ScriptNames}
use Rattle.sg_base.specs.declared.call.Action.{Action}
use Rattle.sg_script.specs.Answer.{deciding_line, is_newline, judgements}
use Rattle.sg_script.specs.Line.{Judgement}
use Rattle.sg_script.specs.Needed.{need_by, need_from, through, told_at}
use Rattle.sg_script.specs.Operation.{line_actions}
use Rattle.sg_script.specs.kept.Front.{own_actions}

-- a line after one more
abbrev behind_one : ℕ × Result (Option Action) LineFault → ℕ × Result (Option Action) LineFault
behind_one at = (suc at.0, at.1)

-- a line in front moves all places after it
told_more : (late : Bool) (k start end : ℕ) (said : Result (Option Action) LineFault) → told_at late (k + start) (k + end) said ≡ k + told_at late start end said
told_more true k start end said = omega arith
told_more false k start end (Ok said) = refl
told_more false k start end (Err TooLong) = omega arith
told_more false k start end (Err NotAscii) = refl
told_more false k start end (Err UnknownActor) = refl
told_more false k start end (Err UnknownAction) = refl
told_more false k start end (Err ArgumentCount) = refl
told_more false k start end (Err BadAmount) = refl
told_more false k start end (Err TooManyLines) = refl
told_more false k start end (Err UnknownObject) = refl

-- a line with its newline
abbrev pub with_newline : List ℕ → ℕ
with_newline line = length line + 1

through_more : (line whole behind : List ℕ) (n : ℕ) → slice_split is_newline whole ≡ line ∷ slice_split is_newline behind → length whole ≡ length line + 1 + length behind → through whole (suc n) ≡ length line + 1 + through behind n
through_more line whole behind n cut size =
    let behind_it : ℕ = sum_by with_newline (take n (slice_split is_newline behind)) in
    let least : min (length line + 1 + behind_it) (length whole) ≡ length line + 1 + min behind_it (length behind) = omega (arith, size) in
    ap (λ (parts : List (List ℕ)). min (sum_by with_newline (take (suc n) parts)) (length whole)) cut
    ∙ ap (λ (sum : ℕ). min sum (length whole)) (sum_by-cons with_newline line (take n (slice_split is_newline behind))) ∙ least

needed_more : (before : ℕ) (line whole behind : List ℕ) (at : Option (ℕ × Result (Option Action) LineFault)) → slice_split is_newline whole ≡ line ∷ slice_split is_newline behind → length whole ≡ length line + 1 + length behind
    → need_by before whole (option_map behind_one at) ≡ length line + 1 + need_by (before + 1) behind at
needed_more before line whole behind None cut size = size
needed_more before line whole behind (Some at) cut size =
    let k : ℕ = length line + 1 in
    let number : before + suc at.0 + 1 ≡ before + 1 + at.0 + 1 = omega arith in
    let late : Bool = ltb 100000000 (before + 1 + at.0 + 1) in
    ap (λ (n : ℕ). told_at (ltb 100000000 n) (through whole (suc at.0)) (through whole (suc (suc at.0))) at.1) number
    ∙ ap (λ (start : ℕ). told_at late start (through whole (suc (suc at.0))) at.1) (through_more line whole behind at.0 cut size)
    ∙ ap (λ (end : ℕ). told_at late (k + through behind at.0) end at.1) (through_more line whole behind (suc at.0) cut size)
    ∙ told_more late k (through behind at.0) (through behind (suc at.0)) at.1

-- after the actions of a line the lines after it decide
passed_over : (known : ScriptNames) (actor later own : ℕ) (found : Option Action) (more : List Judgement)
    → cond (ltb (own + later) own) (Some (0, Ok found)) (option_map behind_one (deciding_line known actor (own + later - own) more)) ≡ option_map behind_one (deciding_line known actor later more)
passed_over known actor later own found more =
    let no : ltb (own + later) own ≡ false = grind (arith, nat_tests) in
    let same : own + later - own ≡ later = omega arith in
    rw (no, same) refl

pub deciding_more : (known : ScriptNames) (actor later : ℕ) (said : Option Entry) (more : List Judgement) → deciding_line known actor (own_actions known actor said + later) (Ok said ∷ more) ≡ option_map behind_one (deciding_line known actor later more)
deciding_more known actor later said more =
    let own : List Action = line_actions known actor said in
    passed_over known actor later (length own) (slice_get own (length own + later)) more

-- a line with its newline, after its actions
pub needs_more : (known : ScriptNames) (broken : Bool) (actor before later : ℕ) (line whole behind : List ℕ) (said : Option Entry)
    → slice_split is_newline whole ≡ line ∷ slice_split is_newline behind → length whole ≡ length line + 1 + length behind
    → judgements known before whole broken ≡ Ok said ∷ judgements known (before + 1) behind broken
    → need_from known broken actor before whole (own_actions known actor said + later) ≡ length line + 1 + need_from known broken actor (before + 1) behind later
needs_more known broken actor before later line whole behind said cut size all =
    let more : List Judgement = judgements known (before + 1) behind broken in
    ap (λ (js : List Judgement). need_by before whole (deciding_line known actor (own_actions known actor said + later) js)) all
    ∙ ap (need_by before whole) (deciding_more known actor later said more)
    ∙ needed_more before line whole behind (deciding_line known actor later more) cut size

-- the last line, after its actions
pub needs_last : (known : ScriptNames) (broken : Bool) (actor before later : ℕ) (whole : List ℕ) (said : Option Entry) → judgements known before whole broken ≡ Ok said ∷ [] → need_from known broken actor before whole (own_actions known actor said + later) ≡ length whole
needs_last known broken actor before later whole said all =
    ap (λ (js : List Judgement). need_by before whole (deciding_line known actor (own_actions known actor said + later) js)) all
    ∙ ap (need_by before whole) (deciding_more known actor later said [])

-- a bad line in front decides each fetch, and if there is no line the end does
pub needs_bad : (known : ScriptNames) (broken : Bool) (actor before : ℕ) (whole : List ℕ) (kind : LineFault) (others : List Judgement) → judgements known before whole broken ≡ Err kind ∷ others → (i j : ℕ) → need_from known broken actor before whole i ≡ need_from known broken actor before whole j
needs_bad known broken actor before whole kind others all i j =
    ap (λ (js : List Judgement). need_by before whole (deciding_line known actor i js)) all
    ∙ sym (ap (λ (js : List Judgement). need_by before whole (deciding_line known actor j js)) all)

pub needs_none : (known : ScriptNames) (broken : Bool) (actor before : ℕ) (whole : List ℕ) → judgements known before whole broken ≡ [] → (i j : ℕ) → need_from known broken actor before whole i ≡ need_from known broken actor before whole j
needs_none known broken actor before whole all i j =
    ap (λ (js : List Judgement). need_by before whole (deciding_line known actor i js)) all
    ∙ sym (ap (λ (js : List Judgement). need_by before whole (deciding_line known actor j js)) all)
