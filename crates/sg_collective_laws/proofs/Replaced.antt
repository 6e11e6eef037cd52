-- Lines that stand for a script's lines give each actor the same actions, and meet the same first bad line.
use Rattle.std.proofs.Common.{◌≡◌, ◌+◌, ◌∙◌, ◌==◌, ap, sym, refl, subst, ℕ, Bool, true, false, cond, List, [], ◌∷◌, ◌++◌, length, map, flat_map, None, Some, option_map, Ok, Err, inl, inr, arith}
use Rattle.std.proofs.lemmas.Bool.{cases_Bool}
use Rattle.std.proofs.lemmas.List.{map-append}
use Rattle.sg_base.specs.declared.call.Action.{Action}
use Rattle.sg_base.specs.declared.ids.ActorId.{ActorId}
use Rattle.sg_collectives.specs.Members.{actions_of as collective_actions}
use Rattle.sg_script.specs.kept.Answers.{first_bad, script_actions}
use Rattle.sg_script.specs.Known.{ScriptNames}
use Rattle.sg_script.specs.Line.{Judgement, line_judgement}
use Rattle.sg_script.specs.Operation.{line_actions}
use Rattle.sg_script.specs.declared.operation.Operation.{Operation}
use Rattle.sg_script.specs.declared.operation.Operation.TheVariants.{Alone, Together}
use Rattle.sg_collective_laws.specs.Alike.{unnumbered_fault}
use Rattle.sg_collective_laws.specs.Expanded.{lines_asking, lines_for, lines_judged}
use Rattle.sg_collective_laws.specs.Written.{Naming, expansion_lines}
use Rattle.sg_collective_laws.proofs.Kept.{entry_kept}
use Rattle.sg_collective_laws.proofs.Reading.{AreNamed, entry_for, expansion_read}

-- the same actions for each actor, and the same first bad line except for its number
pub record StandFor (known : ScriptNames) (js ks : List Judgement) : Type 0 where
  pub actions : (actor : ℕ) → script_actions known actor js ≡ script_actions known actor ks
  pub bad : (before other : ℕ) → option_map unnumbered_fault (first_bad before js) ≡ option_map unnumbered_fault (first_bad other ks)

none_stand : (known : ScriptNames) → StandFor known [] []
none_stand known = record { actions = λ actor. refl; bad = λ before other. refl }

-- ---- one line more before both
one_more : (known : ScriptNames) (judged : Judgement) (js ks : List Judgement) → StandFor known js ks → StandFor known (judged ∷ js) (judged ∷ ks)
one_more known (Ok said) js ks stand = record {
  actions = λ actor. ap (λ (l : List Action). line_actions known actor said ++ l) (stand.actions actor);
  bad = λ before other. stand.bad (before + 1) (other + 1);
}
one_more known (Err kind) js ks stand = record { actions = λ actor. refl; bad = λ before other. refl }

-- ---- an expansion before the one, a collective line before the other
own_actions : (known : ScriptNames) (own : ActorId) (actions : List Action) (js : List Judgement) (actor : ℕ) → (own.0 == actor) ≡ true →
    script_actions known actor (map (entry_for own) actions ++ js) ≡ actions ++ script_actions known actor js
own_actions known own [] js actor is = refl
own_actions known own (action ∷ actions) js actor is =
    ap (λ (b : Bool). cond b (action ∷ []) [] ++ script_actions known actor (map (entry_for own) actions ++ js)) is
    ∙ ap (λ (l : List Action). action ∷ l) (own_actions known own actions js actor is)

other_actions : (known : ScriptNames) (own : ActorId) (actions : List Action) (js : List Judgement) (actor : ℕ) → (own.0 == actor) ≡ false →
    script_actions known actor (map (entry_for own) actions ++ js) ≡ script_actions known actor js
other_actions known own [] js actor isnt = refl
other_actions known own (action ∷ actions) js actor isnt =
    ap (λ (b : Bool). cond b (action ∷ []) [] ++ script_actions known actor (map (entry_for own) actions ++ js)) isnt
    ∙ other_actions known own actions js actor isnt

bad_behind : (own : ActorId) (actions : List Action) (js : List Judgement) (before : ℕ) →
    first_bad before (map (entry_for own) actions ++ js) ≡ first_bad (before + length actions) js
bad_behind own [] js before = ap (λ (n : ℕ). first_bad n js) {x = before} {y = before + length {A = Action} []} (omega arith)
bad_behind own (action ∷ actions) js before =
    bad_behind own actions js (before + 1)
    ∙ ap (λ (n : ℕ). first_bad n js) {x = before + 1 + length actions} {y = before + length (action ∷ actions)} (omega arith)

all_more : (known : ScriptNames) (own : ActorId) (operation : Operation) (actions : List Action) (js ks : List Judgement) →
    ((actor : ℕ) → line_actions known actor (Some (record { actor = own; operation = operation })) ≡ cond (own.0 == actor) actions []) →
    StandFor known js ks → StandFor known (map (entry_for own) actions ++ js) (Ok (Some (record { actor = own; operation = operation })) ∷ ks)
all_more known own operation actions js ks says stand = record {
  actions = λ actor. elim (cases_Bool (own.0 == actor)) [
    | inl is ↦
        own_actions known own actions js actor is ∙ ap (λ (l : List Action). actions ++ l) (stand.actions actor)
        ∙ ap (λ (b : Bool). cond b actions [] ++ script_actions known actor ks) (sym is)
        ∙ ap (λ (l : List Action). l ++ script_actions known actor ks) (sym (says actor))
    | inr isnt ↦
        other_actions known own actions js actor isnt ∙ stand.actions actor
        ∙ ap (λ (b : Bool). cond b actions [] ++ script_actions known actor ks) (sym isnt)
        ∙ ap (λ (l : List Action). l ++ script_actions known actor ks) (sym (says actor))
  ];
  bad = λ before other. ap (option_map unnumbered_fault) (bad_behind own actions js before) ∙ stand.bad (before + length actions) (other + 1);
}

-- ---- all lines
module _ (known : ScriptNames) (name : Naming) (are : AreNamed known name) where
  itself : (line : List ℕ) (judged : Judgement) (js ks : List Judgement) → line_judgement known line ≡ judged → StandFor known js ks →
      StandFor known (map (line_judgement known) (line ∷ []) ++ js) (judged ∷ ks)
  itself line judged js ks e stand =
      subst (λ (j : Judgement). StandFor known (j ∷ js) (judged ∷ ks)) (sym e) (one_more known judged js ks stand)

  asking : (line : List ℕ) (actor : ActorId) (operation : Operation) (js ks : List Judgement) →
      line_judgement known line ≡ Ok (Some (record { actor = actor; operation = operation })) → StandFor known js ks →
      StandFor known (map (line_judgement known) (lines_asking known name line actor operation) ++ js) (Ok (Some (record { actor = actor; operation = operation })) ∷ ks)
  asking line actor (Alone action) js ks e stand = itself line _ js ks e stand
  asking line actor (Together collective) js ks e stand =
      let kept = entry_kept known line (record { actor = actor; operation = Together collective }) e in
      let read : map (line_judgement known) (expansion_lines name known.members actor collective) ≡ map (entry_for actor) (collective_actions known.members actor.0 collective) =
      expansion_read known name are actor kept.0 collective kept.1 in
      subst (λ (l : List Judgement). StandFor known (l ++ js) (Ok (Some (record { actor = actor; operation = Together collective })) ∷ ks)) (sym read)
      (all_more known actor (Together collective) (collective_actions known.members actor.0 collective) js ks (λ a. refl) stand)

  judged_lines : (line : List ℕ) (judged : Judgement) (js ks : List Judgement) → line_judgement known line ≡ judged → StandFor known js ks →
      StandFor known (map (line_judgement known) (lines_judged known name line judged) ++ js) (judged ∷ ks)
  judged_lines line (Ok None) js ks e stand = itself line (Ok None) js ks e stand
  judged_lines line (Ok (Some entry)) js ks e stand = asking line entry.actor entry.operation js ks e stand
  judged_lines line (Err kind) js ks e stand = itself line (Err kind) js ks e stand

  pub lines_stand : (lines : List (List ℕ)) → StandFor known (map (line_judgement known) (flat_map (lines_for known name) lines)) (map (line_judgement known) lines)
  lines_stand [] = none_stand known
  lines_stand (line ∷ lines) =
      subst (λ (l : List Judgement). StandFor known l (line_judgement known line ∷ map (line_judgement known) lines))
      (sym (map-append (line_judgement known) (lines_for known name line) (flat_map (lines_for known name) lines)))
      (judged_lines line (line_judgement known line) (map (line_judgement known) (flat_map (lines_for known name) lines)) (map (line_judgement known) lines) refl (lines_stand lines))
