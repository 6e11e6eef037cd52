-- The line that decides a fetch gives the answer that all actions of the actor and the first bad line give.
use Rattle.std.proofs.Common.{◌≡◌, ◌<◌, ◌≤◌, ◌+◌, ◌-◌, ◌∙◌, zero, suc, ap, sym, refl, ℕ, Bool, true, false, List, [], ◌∷◌, ◌++◌, length, Option, None, Some, option_map, Result, Ok, Err, inl, inr, arith, le-ltb, lt-ltb}
use Rattle.std.specs.Prelude.{slice_get}
use Rattle.std.proofs.lemmas.Bool.{cases_lt}
use Rattle.sg_base.specs.declared.call.Action.{Action}
use Rattle.sg_edge.specs.Sources.{Source}
use Rattle.sg_script.specs.declared.fault.LineFault.{LineFault}
use Rattle.sg_script.specs.declared.fault.ScriptFault.TheVariants.{Line}
use Rattle.sg_script.specs.Answer.{answer_by, answer_of, deciding_line, judgements}
use Rattle.sg_script.specs.Known.{ScriptNames}
use Rattle.sg_script.specs.Line.{Judgement}
use Rattle.sg_script.specs.Operation.{line_actions}
use Rattle.sg_script.specs.kept.Answers.{answered_by, first_bad, script_actions}

-- an item of the first of two lists, or of the second
get_front : (own more : List Action) (i : ℕ) → i < length own → (action : Action) × (slice_get own i ≡ Some action) × (slice_get (own ++ more) i ≡ Some action)
get_front [] more i below = absurd (omega (arith, below))
get_front (action ∷ own) more zero below = (action, refl, refl)
get_front (action ∷ own) more (suc i) below = get_front own more i (omega (arith, below))

get_behind : (own more : List Action) (i : ℕ) → length own ≤ i → slice_get (own ++ more) i ≡ slice_get more (i - length own)
get_behind [] more i past = let same : i ≡ i - 0 = omega arith in ap (slice_get more) same
get_behind (action ∷ own) more zero past = absurd (omega (arith, past))
get_behind (action ∷ own) more (suc i) past =
    let same : i - length own ≡ suc i - length (action ∷ own) = omega arith in
    get_behind own more i (omega (arith, past)) ∙ ap (slice_get more) same

-- a line that decides, behind so many lines
abbrev behind : ℕ → ℕ × Result (Option Action) LineFault → ℕ × Result (Option Action) LineFault
behind before at = (before + at.0, at.1)

behind_more : (broken : Bool) (before : ℕ) (at : Option (ℕ × Result (Option Action) LineFault)) →
    answer_by broken (option_map (behind before) (option_map (λ at. (suc at.0, at.1)) at)) ≡ answer_by broken (option_map (behind (before + 1)) at)
behind_more broken before None = refl
behind_more broken before (Some (n, Ok action)) = refl
behind_more broken before (Some (n, Err kind)) =
    let same : before + suc n + 1 ≡ before + 1 + n + 1 = omega arith in
    ap (λ (number : ℕ). Err (Line number kind)) same

behind_none : (at : Option (ℕ × Result (Option Action) LineFault)) → option_map (behind 0) at ≡ at
behind_none None = refl
behind_none (Some at) = let same : 0 + at.0 ≡ at.0 = omega arith in ap (λ (n : ℕ). Some (n, at.1)) same

decided : (known : ScriptNames) (broken : Bool) (actor : ℕ) (all : List Judgement) (before earlier : ℕ) →
    answer_by broken (option_map (behind before) (deciding_line known actor earlier all))
    ≡ answered_by broken (first_bad before all) (slice_get (script_actions known actor all) earlier)
decided known true actor [] before earlier = refl
decided known false actor [] before earlier = refl
decided known broken actor (Err kind ∷ more) before earlier =
    let same : before + 0 + 1 ≡ before + 1 = omega arith in
    ap (λ (number : ℕ). Err (Line number kind)) same
decided known broken actor (Ok said ∷ more) before earlier =
    let own : List Action = line_actions known actor said in
    let later : ℕ = earlier - length own in
    elim (cases_lt earlier (length own)) [
      | inl below ↦
          let (action, one, whole) = get_front own (script_actions known actor more) earlier below in
          rw (lt-ltb earlier (length own) below, one, whole) refl
      | inr past ↦
          rw (le-ltb earlier (length own) past) (behind_more broken before (deciding_line known actor later more)
          ∙ decided known broken actor more (before + 1) later
          ∙ ap (answered_by broken (first_bad (before + 1) more)) (sym (get_behind own (script_actions known actor more) earlier past)))
    ]

pub answer_is : (known : ScriptNames) (source : Source) (actor earlier : ℕ) → answer_of known source actor earlier
    ≡ answered_by source.broken (first_bad 0 (judgements known 0 source.bytes source.broken))
    (slice_get (script_actions known actor (judgements known 0 source.bytes source.broken)) earlier)
answer_is known source actor earlier =
    let all : List Judgement = judgements known 0 source.bytes source.broken in
    ap (answer_by source.broken) (sym (behind_none (deciding_line known actor earlier all))) ∙ decided known source.broken actor all 0 earlier
