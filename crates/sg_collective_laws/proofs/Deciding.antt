-- A source and the one with its collectives replaced answer alike.
use Rattle.std.proofs.Common.{◌≡◌, ◌≤◌, ◌∙◌, ap, sym, refl, subst, ℕ, Bool, true, false, List, Option, None, Some, option_map, map, flat_map}
use Rattle.std.specs.List.{slice_get, slice_split}
use Rattle.sg_base.specs.declared.call.Action.{Action}
use Rattle.sg_edge.specs.Sources.{Source}
use Rattle.sg_script.specs.Answer.{answer_of, is_newline, judgements}
use Rattle.sg_script.specs.kept.Answers.{answered_by, first_bad, script_actions}
use Rattle.sg_script.proofs.Answered.{answer_is}
use Rattle.sg_script.specs.Known.{ScriptNames}
use Rattle.sg_script.specs.Line.{Judgement, line_judgement}
use Rattle.sg_script.specs.declared.fault.ScriptFault.{ScriptFault}
use Rattle.sg_collective_laws.specs.Alike.{AnswerAlike, unnumbered_answer, unnumbered_fault}
use Rattle.sg_collective_laws.specs.Expanded.{expanded, line_count, lines_for}
use Rattle.sg_collective_laws.specs.Written.{Naming}
use Rattle.sg_collective_laws.proofs.Parts.{few_lines, judged_expanded, judged_few}
use Rattle.sg_collective_laws.proofs.Reading.{AreNamed}
use Rattle.sg_collective_laws.proofs.Replaced.{StandFor, lines_stand}

number_left_out : (broken : Bool) (bad : Option ScriptFault) (found : Option Action) →
    unnumbered_answer (answered_by broken bad found) ≡ answered_by broken (option_map unnumbered_fault bad) found
number_left_out broken bad (Some action) = refl
number_left_out broken (Some why) None = refl
number_left_out true None None = refl
number_left_out false None None = refl

by_judgements : (known : ScriptNames) (broken : Bool) (js ks : List Judgement) → StandFor known js ks → (actor earlier : ℕ) →
    unnumbered_answer (answered_by broken (first_bad 0 js) (slice_get (script_actions known actor js) earlier))
    ≡ unnumbered_answer (answered_by broken (first_bad 0 ks) (slice_get (script_actions known actor ks) earlier))
by_judgements known broken js ks stand actor earlier =
    number_left_out broken (first_bad 0 js) (slice_get (script_actions known actor js) earlier)
    ∙ (λ i. answered_by broken (stand.bad 0 0 i) (slice_get (stand.actions actor i) earlier))
    ∙ sym (number_left_out broken (first_bad 0 ks) (slice_get (script_actions known actor ks) earlier))

pub expanded_alike : (known : ScriptNames) (name : Naming) → AreNamed known name → (source : Source) → line_count source ≤ 100000000 →
    line_count (expanded known name source) ≤ 100000000 → AnswerAlike (answer_of known source) (answer_of known (expanded known name source))
expanded_alike known name are source few few' actor earlier =
    let lines : List (List ℕ) = few_lines source.broken (slice_split is_newline source.bytes) in
    let js : List Judgement = judgements known 0 source.bytes source.broken in
    let ks : List Judgement = judgements known 0 (expanded known name source).bytes source.broken in
    let here : js ≡ map (line_judgement known) lines = judged_few known source.bytes source.broken few in
    let there : ks ≡ map (line_judgement known) (flat_map (lines_for known name) lines) = judged_expanded known name are source few' in
    let one : StandFor known ks (map (line_judgement known) lines) = subst (λ (l : List Judgement). StandFor known l (map (line_judgement known) lines)) (sym there) (lines_stand known name are lines) in
    let stand : StandFor known ks js = subst (λ (l : List Judgement). StandFor known ks l) (sym here) one in
    ap unnumbered_answer (answer_is known source actor earlier) ∙ sym (by_judgements known source.broken ks js stand actor earlier)
    ∙ ap unnumbered_answer (sym (answer_is known (expanded known name source) actor earlier))
