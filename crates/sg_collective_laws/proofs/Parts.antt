-- The lines of a source that has few enough of them, and those of the source with its collectives replaced.
use Rattle.std.proofs.Common.{◌≡◌, ◌<◌, ◌≤◌, ◌+◌, ◌∙◌, ◌||◌, ◌&&◌, ◌==◌, ap, sym, refl, ℕ, Bool, true, false, cond, List, [], ◌∷◌, ◌++◌, length, map, All, flat_map, None, Some, Ok, Err, nat_lt, arith, append-nil, length-append, le-ltb, lt-ltb, eqb-true}
use Rattle.std.specs.List.{slice_split}
use Rattle.std.proofs.lemmas.Bool.{and_parts}
use Rattle.std.proofs.lemmas.List.Elements.{All-append, All-cons, All-head, All-nil, All-tail}
use Rattle.std.proofs.lemmas.List.Splits.{length-slice_split}
use Rattle.sg_base.specs.declared.ids.ActorId.{ActorId}
use Rattle.sg_edge.specs.Sources.{Source}
use Rattle.sg_script.specs.Answer.{is_newline, judgement_of, judgements, line_judgements, lines_among}
use Rattle.sg_script.specs.Known.{ScriptNames}
use Rattle.sg_script.specs.Line.{Judgement, line_judgement, text_judgement, without_return}
use Rattle.sg_script.specs.declared.fault.LineFault.TheVariants as fault
use Rattle.sg_script.specs.declared.line.Entry.{Entry}
use Rattle.sg_script.specs.declared.operation.Operation.{Operation}
use Rattle.sg_script.specs.declared.operation.Operation.TheVariants.{Alone, Together}
use Rattle.sg_collective_laws.specs.Expanded.{expanded, expanded_parts, line_count, lines_asking, lines_for, lines_judged, rest_asking, rest_judged}
use Rattle.sg_collective_laws.specs.Written.{Naming, expansion_lines}
use Rattle.sg_collective_laws.proofs.Kept.{entry_kept}
use Rattle.sg_collective_laws.proofs.Reading.{AreNamed, expansion_plain}
use Rattle.sg_collective_laws.proofs.Texts.{Lacks, lacks_split, split_back}

-- ---- few lines
-- whether what stands after the last newline is a line, if few lines stand before it
abbrev ends_line : Bool → List ℕ → Bool
ends_line false rest = nat_lt 0 (length rest)
ends_line true rest = nat_lt 4096 (length rest)

abbrev pub few_lines : Bool → List (List ℕ) → List (List ℕ)
few_lines broken [] = []
few_lines broken (rest ∷ []) = cond (ends_line broken rest) (rest ∷ []) []
few_lines broken (line ∷ part ∷ parts) = line ∷ few_lines broken (part ∷ parts)

-- a rest that is judged as one line too many isn't there
not_last : (before : ℕ) (rest : List ℕ) (long last : Bool) → (last ≡ true → before ≡ 100000000) →
    before + length (cond (long || last) (rest ∷ []) []) ≤ 100000000 → cond (long || last) (rest ∷ []) [] ≡ cond long (rest ∷ []) []
not_last before rest true last at few = refl
not_last before rest false true at few = absurd (omega (arith, at refl))
not_last before rest false false at few = refl

lines_few : (broken : Bool) (before : ℕ) (parts : List (List ℕ)) → before + length (lines_among broken before parts) ≤ 100000000 →
    lines_among broken before parts ≡ few_lines broken parts
lines_few broken before [] few = refl
lines_few false before (rest ∷ []) few = refl
lines_few true before (rest ∷ []) few =
    not_last before rest (nat_lt 4096 (length rest)) (nat_lt 0 (length rest) && (before == 100000000))
    (λ holds. eqb-true before 100000000 (and_parts (nat_lt 0 (length rest)) (before == 100000000) holds).1) few
lines_few broken before (line ∷ part ∷ parts) few =
    ap (λ (l : List (List ℕ)). line ∷ l) (lines_few broken (before + 1) (part ∷ parts) (omega arith))

lines_judged_few : (known : ScriptNames) (before : ℕ) (lines : List (List ℕ)) → before + length lines ≤ 100000000 →
    line_judgements known before lines ≡ map (line_judgement known) lines
lines_judged_few known before [] few = refl
lines_judged_few known before (line ∷ lines) few =
    let first : judgement_of known (before + 1) line ≡ line_judgement known line =
    ap (λ (b : Bool). cond b (Err fault.TooManyLines) (line_judgement known line)) (le-ltb 100000000 (before + 1) (omega arith)) in
    let behind : line_judgements known (before + 1) lines ≡ map (line_judgement known) lines = lines_judged_few known (before + 1) lines (omega arith) in
    λ i. first i ∷ behind i

-- the judgements of a source with few enough lines are those of its lines, whatever their numbers
pub judged_few : (known : ScriptNames) (bytes : List ℕ) (broken : Bool) → length (lines_among broken 0 (slice_split is_newline bytes)) ≤ 100000000 →
    judgements known 0 bytes broken ≡ map (line_judgement known) (few_lines broken (slice_split is_newline bytes))
judged_few known bytes broken few =
    lines_judged_few known 0 (lines_among broken 0 (slice_split is_newline bytes)) (omega arith)
    ∙ ap (map (line_judgement known)) (lines_few broken 0 (slice_split is_newline bytes) (omega arith))

few_lines_append : (broken : Bool) (lines parts : List (List ℕ)) → 0 < length parts → few_lines broken (lines ++ parts) ≡ lines ++ few_lines broken parts
few_lines_append broken lines [] some = absurd (omega arith)
few_lines_append broken [] (part ∷ parts) some = refl
few_lines_append broken (line ∷ []) (part ∷ parts) some = refl
few_lines_append broken (line ∷ next ∷ lines) (part ∷ parts) some =
    ap (λ (l : List (List ℕ)). line ∷ l) (few_lines_append broken (next ∷ lines) (part ∷ parts) some)

-- lines that all end with a newline
few_lines_ended : (lines : List (List ℕ)) → few_lines false (lines ++ [] ∷ []) ≡ lines
few_lines_ended lines = few_lines_append false lines ([] ∷ []) (omega arith) ∙ append-nil lines

-- ---- replaced
module _ (known : ScriptNames) (name : Naming) where
  own_lines : (line : List ℕ) (judged : Judgement) → line_judgement known line ≡ judged → lines_judged known name line judged ≡ lines_for known name line
  own_lines line judged e = ap (lines_judged known name line) (sym e)

  -- a line that is too long stands for itself
  broken_rest : (rest : List ℕ) → few_lines true (rest ∷ []) ≡ flat_map (lines_for known name) (few_lines true (rest ∷ []))
  broken_rest rest = by (nat_lt 4096 (length rest)) refl
    where
      by : (b : Bool) → nat_lt 4096 (length rest) ≡ b → cond b (rest ∷ []) [] ≡ flat_map (lines_for known name) (cond b (rest ∷ []) [])
      by true e =
          let long : line_judgement known rest ≡ Err fault.TooLong = ap (λ (b : Bool). cond b (Err fault.TooLong) (text_judgement known (without_return rest))) e in
          sym (append-nil (rest ∷ [])) ∙ ap (λ (l : List (List ℕ)). l ++ []) (own_lines rest (Err fault.TooLong) long)
      by false e = refl

  kept_rest : (rest : List ℕ) → lines_for known name rest ≡ rest ∷ [] → few_lines false (rest ∷ []) ≡ flat_map (lines_for known name) (few_lines false (rest ∷ []))
  kept_rest rest same = by (nat_lt 0 (length rest))
    where
      by : (b : Bool) → cond b (rest ∷ []) [] ≡ flat_map (lines_for known name) (cond b (rest ∷ []) [])
      by true = sym (append-nil (rest ∷ [])) ∙ ap (λ (l : List (List ℕ)). l ++ []) (sym same)
      by false = refl

  collective_rest : (rest : List ℕ) (lines : List (List ℕ)) → lines_for known name rest ≡ lines → 0 < length rest →
      few_lines false (lines ++ [] ∷ []) ≡ flat_map (lines_for known name) (few_lines false (rest ∷ []))
  collective_rest rest lines same some =
      few_lines_ended lines ∙ sym (append-nil lines) ∙ ap (λ (l : List (List ℕ)). l ++ []) (sym same)
      ∙ ap (λ (b : Bool). flat_map (lines_for known name) (cond b (rest ∷ []) [])) (sym (lt-ltb 0 (length rest) some))

  some_rest : (rest : List ℕ) (entry : Entry) → line_judgement known rest ≡ Ok (Some entry) → 0 < length rest
  some_rest [] entry e = absurd (cc e)
  some_rest (b ∷ rest) entry e = omega arith

  asking_rest : (rest : List ℕ) (actor : ActorId) (operation : Operation) → line_judgement known rest ≡ Ok (Some (record { actor = actor; operation = operation })) →
      few_lines false (rest_asking known name rest actor operation) ≡ flat_map (lines_for known name) (few_lines false (rest ∷ []))
  asking_rest rest actor (Alone action) e = kept_rest rest (ap (lines_judged known name rest) e)
  asking_rest rest actor (Together collective) e =
      collective_rest rest (expansion_lines name known.members actor collective) (ap (lines_judged known name rest) e) (some_rest rest _ e)

  judged_rest : (rest : List ℕ) (judged : Judgement) → line_judgement known rest ≡ judged →
      few_lines false (rest_judged known name rest judged) ≡ flat_map (lines_for known name) (few_lines false (rest ∷ []))
  judged_rest rest (Ok None) e = kept_rest rest (ap (lines_judged known name rest) e)
  judged_rest rest (Ok (Some entry)) e = asking_rest rest entry.actor entry.operation e
  judged_rest rest (Err kind) e = kept_rest rest (ap (lines_judged known name rest) e)

  some_asking : (rest : List ℕ) (actor : ActorId) (operation : Operation) → 0 < length (rest_asking known name rest actor operation)
  some_asking rest actor (Alone action) = omega arith
  some_asking rest actor (Together collective) =
      omega (arith, length-append (expansion_lines name known.members actor collective) ([] ∷ []))

  some_judged : (rest : List ℕ) (judged : Judgement) → 0 < length (rest_judged known name rest judged)
  some_judged rest (Ok None) = omega arith
  some_judged rest (Ok (Some entry)) = some_asking rest entry.actor entry.operation
  some_judged rest (Err kind) = omega arith

  some_parts : (broken : Bool) (parts : List (List ℕ)) → 0 < length parts → 0 < length (expanded_parts known name broken parts)
  some_parts broken [] some = absurd (omega arith)
  some_parts true (rest ∷ []) some = omega arith
  some_parts false (rest ∷ []) some = some_judged rest (line_judgement known rest)
  some_parts broken (line ∷ part ∷ parts) some =
      omega (arith, length-append (lines_for known name line) (expanded_parts known name broken (part ∷ parts)), some_parts broken (part ∷ parts) (omega arith))

  -- the lines of the expanded parts are the lines that stand for those of the parts
  pub lines_expanded : (broken : Bool) (parts : List (List ℕ)) →
      few_lines broken (expanded_parts known name broken parts) ≡ flat_map (lines_for known name) (few_lines broken parts)
  lines_expanded broken [] = refl
  lines_expanded true (rest ∷ []) = broken_rest rest
  lines_expanded false (rest ∷ []) = judged_rest rest (line_judgement known rest) refl
  lines_expanded broken (line ∷ part ∷ parts) =
      few_lines_append broken (lines_for known name line) (expanded_parts known name broken (part ∷ parts)) (some_parts broken (part ∷ parts) (omega arith))
      ∙ ap (λ (l : List (List ℕ)). lines_for known name line ++ l) (lines_expanded broken (part ∷ parts))

-- ---- joined, and cut again
module _ (known : ScriptNames) (name : Naming) (are : AreNamed known name) where
  plain_asking : (line : List ℕ) (actor : ActorId) (operation : Operation) → line_judgement known line ≡ Ok (Some (record { actor = actor; operation = operation })) →
      Lacks is_newline line → All (Lacks is_newline) (lines_asking known name line actor operation)
  plain_asking line actor (Alone action) e lacks = All-cons (Lacks is_newline) line [] lacks (All-nil (Lacks is_newline))
  plain_asking line actor (Together collective) e lacks =
      let kept = entry_kept known line (record { actor = actor; operation = Together collective }) e in
      expansion_plain known name are actor kept.0 collective kept.1

  plain_judged : (line : List ℕ) (judged : Judgement) → line_judgement known line ≡ judged → Lacks is_newline line → All (Lacks is_newline) (lines_judged known name line judged)
  plain_judged line (Ok None) e lacks = All-cons (Lacks is_newline) line [] lacks (All-nil (Lacks is_newline))
  plain_judged line (Ok (Some entry)) e lacks = plain_asking line entry.actor entry.operation e lacks
  plain_judged line (Err kind) e lacks = All-cons (Lacks is_newline) line [] lacks (All-nil (Lacks is_newline))

  rest_plain_asking : (rest : List ℕ) (actor : ActorId) (operation : Operation) → line_judgement known rest ≡ Ok (Some (record { actor = actor; operation = operation })) →
      Lacks is_newline rest → All (Lacks is_newline) (rest_asking known name rest actor operation)
  rest_plain_asking rest actor (Alone action) e lacks = All-cons (Lacks is_newline) rest [] lacks (All-nil (Lacks is_newline))
  rest_plain_asking rest actor (Together collective) e lacks =
      All-append (Lacks is_newline) (expansion_lines name known.members actor collective) ([] ∷ []) (plain_asking rest actor (Together collective) e lacks)
      (All-cons (Lacks is_newline) [] [] (All-nil (λ b. is_newline b ≡ false)) (All-nil (Lacks is_newline)))

  rest_plain_judged : (rest : List ℕ) (judged : Judgement) → line_judgement known rest ≡ judged → Lacks is_newline rest → All (Lacks is_newline) (rest_judged known name rest judged)
  rest_plain_judged rest (Ok None) e lacks = All-cons (Lacks is_newline) rest [] lacks (All-nil (Lacks is_newline))
  rest_plain_judged rest (Ok (Some entry)) e lacks = rest_plain_asking rest entry.actor entry.operation e lacks
  rest_plain_judged rest (Err kind) e lacks = All-cons (Lacks is_newline) rest [] lacks (All-nil (Lacks is_newline))

  plain_parts : (broken : Bool) (parts : List (List ℕ)) → All (Lacks is_newline) parts → All (Lacks is_newline) (expanded_parts known name broken parts)
  plain_parts broken [] all = All-nil (Lacks is_newline)
  plain_parts true (rest ∷ []) all = all
  plain_parts false (rest ∷ []) all = rest_plain_judged rest (line_judgement known rest) refl (All-head (Lacks is_newline) rest [] all)
  plain_parts broken (line ∷ part ∷ parts) all =
      All-append (Lacks is_newline) (lines_for known name line) (expanded_parts known name broken (part ∷ parts))
      (plain_judged line (line_judgement known line) refl (All-head (Lacks is_newline) line (part ∷ parts) all))
      (plain_parts broken (part ∷ parts) (All-tail (Lacks is_newline) line (part ∷ parts) all))

  -- the parts of the expanded source
  pub parts_expanded : (source : Source) →
      slice_split is_newline (expanded known name source).bytes ≡ expanded_parts known name source.broken (slice_split is_newline source.bytes)
  parts_expanded source =
      let parts : List (List ℕ) = slice_split is_newline source.bytes in
      split_back is_newline 10 refl (expanded_parts known name source.broken parts)
      (some_parts known name source.broken parts (omega (arith, length-slice_split is_newline source.bytes)))
      (plain_parts source.broken parts (lacks_split is_newline source.bytes))

  -- the judgements of the expanded source are those of the lines that stand for the lines of the source
  pub judged_expanded : (source : Source) → line_count (expanded known name source) ≤ 100000000 →
      judgements known 0 (expanded known name source).bytes source.broken
      ≡ map (line_judgement known) (flat_map (lines_for known name) (few_lines source.broken (slice_split is_newline source.bytes)))
  judged_expanded source few =
      let parts : List (List ℕ) = slice_split is_newline source.bytes in
      judged_few known (expanded known name source).bytes source.broken few
      ∙ ap (λ (ps : List (List ℕ)). map (line_judgement known) (few_lines source.broken ps)) (parts_expanded source)
      ∙ ap (map (line_judgement known)) (lines_expanded known name source.broken parts)
