-- A fault is reported again to each later fetch.
use Rattle.std.proofs.Common.{◌≡◌, ◌∙◌, ◌≤◌, sym, refl, ℕ, Bool, List, Option, None, Some, Err, inl, inr, arith}
use Rattle.std.specs.Prelude.{slice_get}
use Rattle.std.proofs.lemmas.Option.{slice_get_cases, slice_get_past}
use Rattle.sg_base.specs.declared.call.Action.{Action}
use Rattle.sg_script.specs.Answer.{judgements}
use Rattle.sg_script.specs.kept.Answers.{answered_by, first_bad, script_actions}
use Rattle.sg_script.proofs.Answered.{answer_is}
use Rattle.sg_script.specs.Laws.{FaultsRepeat}
use Rattle.sg_script.specs.declared.fault.ScriptFault.{ScriptFault}

none_later : (actions : List Action) (earlier later : ℕ) → earlier ≤ later → slice_get actions earlier ≡ None → slice_get actions later ≡ None
none_later actions earlier later far none = elim (slice_get_cases actions earlier).1 [
  | inl at ↦ let is = sym at.2 ∙ none in cc
  | inr past ↦ slice_get_past actions later (omega (arith, far, past.0))
]

as_before : (broken : Bool) (bad : Option ScriptFault) (now then : Option Action) (fault : ScriptFault) → (now ≡ None → then ≡ None) → answered_by broken bad now ≡ Err fault → answered_by broken bad then ≡ Err fault
as_before broken bad (Some action) then fault none told = cc
as_before broken bad None then fault none told = rw (none refl) told

pub repeats : FaultsRepeat
repeats known source actor earlier later fault far told =
    let all = judgements known 0 source.bytes source.broken in
    answer_is known source actor later
    ∙ as_before source.broken (first_bad 0 all) _ _ fault (none_later (script_actions known actor all) earlier later far) (sym (answer_is known source actor earlier) ∙ told)
