-- What stands at the front of bytes of which more may come.
use Rattle.std.proofs.Common.{◌≡◌, ◌<◌, ◌≤◌, ◌+◌, ◌∙◌, suc, sym, ap, refl, ℕ, Bool, true, false, ◌||◌, ◌&&◌, eqb, ltb, List, [], ◌∷◌, ◌++◌, length, take, drop, None, Some, Err, inl, inr, ◌⊎◌, arith, length-append, length-drop}
use Rattle.std.specs.List.{position, position_or_len, slice_split, onto_first}
use Rattle.std.specs.Prelude.{IsOk}
use Rattle.std.proofs.lemmas.Bool.{cases_Bool, cases_lt}
use Rattle.std.proofs.lemmas.Bool.Decides.{nat_tests}
use Rattle.std.proofs.lemmas.Grind.{common_steps}
use Rattle.std.proofs.lemmas.List.{append-nil}
use Rattle.std.proofs.lemmas.List.Splits.{slice_split-cons_no, slice_split-cons_yes}
use Rattle.sg_edge.specs.declared.files.Stage.TheVariants.{Over}
use Rattle.sg_script.specs.declared.fault.LineFault.{LineFault}
use Rattle.sg_script.specs.declared.fault.LineFault.TheVariants.{TooLong, TooManyLines}
use Rattle.sg_script.specs.Known.{ScriptNames}
use Rattle.sg_script.specs.Line.{Judgement}
use Rattle.sg_script.proofs.Splits.{first_yes, first_no, some_cases, none_cases}
use Rattle.sg_script.specs.Answer.{is_newline, is_last_line, lines_among, line_judgements, judgement_of, judgements}
use Rattle.sg_script.specs.Rest.{May}
use Rattle.sg_script.specs.kept.Front.{Leads}
use Rattle.sg_script.specs.Needed.{need_from}
use Rattle.sg_script.proofs.Deciding.{needs_last, needs_more}
use Rattle.std.specs.Result.{is_ok}

-- there is always a first part
pub some_part : (p : ℕ → Bool) (xs : List ℕ) → (part : List ℕ) × (parts : List (List ℕ)) × (slice_split p xs ≡ part ∷ parts)
some_part p [] = ([], [], refl)
some_part p (b ∷ xs) = elim (cases_Bool (p b)) [
  | inl is ↦ ([], slice_split p xs, slice_split-cons_yes p b xs is)
  | inr isnt ↦
      let (part, parts, e) = some_part p xs in
      (b ∷ part, parts, slice_split-cons_no p b xs isnt ∙ ap (onto_first b) e)
]

behind : (p : ℕ → Bool) (b k : ℕ) (xs ys : List ℕ) → take (1 + k) (b ∷ xs) ∷ slice_split p (drop (1 + k + 1) (b ∷ xs) ++ ys) ≡ (b ∷ take k xs) ∷ slice_split p (drop (k + 1) xs ++ ys)
behind p b k xs ys =
    let one : 1 + k ≡ suc k = omega arith in
    let two : 1 + k + 1 ≡ suc (k + 1) = omega arith in
    ap (λ n. take n (b ∷ xs) ∷ slice_split p (drop (1 + k + 1) (b ∷ xs) ++ ys)) one ∙ ap (λ n. take (suc k) (b ∷ xs) ∷ slice_split p (drop n (b ∷ xs) ++ ys)) two

-- the first element that passes cuts whatever follows
cut_at : (p : ℕ → Bool) (xs ys : List ℕ) → position_or_len p xs < length xs → slice_split p (xs ++ ys) ≡ take (position_or_len p xs) xs ∷ slice_split p (drop (position_or_len p xs + 1) xs ++ ys)
cut_at p [] ys h = absurd (omega arith)
cut_at p (b ∷ xs) ys h = elim (cases_Bool (p b)) [
  | inl is ↦ slice_split-cons_yes p b (xs ++ ys) is ∙ sym (ap (λ k. take k (b ∷ xs) ∷ slice_split p (drop (k + 1) (b ∷ xs) ++ ys)) (first_yes p b xs is))
  | inr isnt ↦
      let shorter : position_or_len p xs < length xs = omega (arith, first_no p b xs isnt) in
      slice_split-cons_no p b (xs ++ ys) isnt ∙ ap (onto_first b) (cut_at p xs ys shorter) ∙ sym (behind p b (position_or_len p xs) xs ys) ∙ sym (ap (λ k. take k (b ∷ xs) ∷ slice_split p (drop (k + 1) (b ∷ xs) ++ ys)) (first_no p b xs isnt))
]

-- elements of which none passes go before the first part
pub uncut : (p : ℕ → Bool) (xs ys part : List ℕ) (parts : List (List ℕ)) → slice_split p ys ≡ part ∷ parts → length xs ≤ position_or_len p xs → slice_split p (xs ++ ys) ≡ (xs ++ part) ∷ parts
uncut p [] ys part parts e h = e
uncut p (b ∷ xs) ys part parts e h = elim (cases_Bool (p b)) [
  | inl is ↦ absurd (omega (arith, first_yes p b xs is))
  | inr isnt ↦
      let further : length xs ≤ position_or_len p xs = omega (arith, first_no p b xs isnt) in
      slice_split-cons_no p b (xs ++ ys) isnt ∙ ap (onto_first b) (uncut p xs ys part parts e further)
]

-- a line with its newline, and the lines after it
among_more : (broken : Bool) (before : ℕ) (line ys : List ℕ) → lines_among broken before (line ∷ slice_split is_newline ys) ≡ line ∷ lines_among broken (before + 1) (slice_split is_newline ys)
among_more broken before line ys =
    let (part, parts, e) = some_part is_newline ys in
    ap (λ (list : List (List ℕ)). lines_among broken before (line ∷ list)) e ∙ ap (λ (list : List (List ℕ)). line ∷ lines_among broken (before + 1) list) (sym e)

taken_length : (i : ℕ) (bytes : List ℕ) → i < length bytes → length (take i bytes) ≡ i
taken_length i bytes h = grind (arith, common_steps)

pub below : (bytes : List ℕ) (i : ℕ) → position is_newline bytes ≡ Some i → i < length bytes
below bytes i e =
    let (lt, is) = some_cases (position_or_len is_newline bytes) (length bytes) i e in
    omega arith

pub leads_newline : (known : ScriptNames) (before : ℕ) (bytes : List ℕ) (i : ℕ) (rest : List ℕ) (broken : Bool) → position is_newline bytes ≡ Some i → Leads known before bytes i (i + 1) rest broken
leads_newline known before bytes i rest broken e =
    let (lt, is) = some_cases (position_or_len is_newline bytes) (length bytes) i e in
    let cut : slice_split is_newline (bytes ++ rest) ≡ take i bytes ∷ slice_split is_newline (drop (i + 1) bytes ++ rest) = cut_at is_newline bytes rest lt ∙ ap (λ k. take k bytes ∷ slice_split is_newline (drop (k + 1) bytes ++ rest)) is in
    record {
      others = judgements known (before + 1) (drop (i + 1) bytes ++ rest) broken;
      all = ap (λ (list : List (List ℕ)). line_judgements known before (lines_among broken before list)) cut ∙ ap (line_judgements known before) (among_more broken before (take i bytes) (drop (i + 1) bytes ++ rest));
      behind = λ _. refl;
      needs = λ actor later said is.
          needs_more known broken actor before later (take i bytes) (bytes ++ rest) (drop (i + 1) bytes ++ rest) said cut (omega (arith, length-append bytes rest, length-append (drop (i + 1) bytes) rest, length-drop (i + 1) bytes, taken_length i bytes (below bytes i e), below bytes i e))
          (ap (λ (list : List (List ℕ)). line_judgements known before (lines_among broken before list)) cut ∙ ap (line_judgements known before) (among_more broken before (take i bytes) (drop (i + 1) bytes ++ rest)) ∙ ap (λ (j : Judgement). j ∷ judgements known (before + 1) (drop (i + 1) bytes ++ rest) broken) is)
          ∙ ap (λ (n : ℕ). n + 1 + need_from known broken actor (before + 1) (drop (i + 1) bytes ++ rest) later) (taken_length i bytes (below bytes i e));
    }

-- a line that is bad however it continues
pub record IsBad (known : ScriptNames) (before : ℕ) (bytes : List ℕ) : Type 0 where
  pub kind : LineFault
  pub whole : judgement_of known (before + 1) bytes ≡ Err kind
  pub longer : (more : List ℕ) → judgement_of known (before + 1) (bytes ++ more) ≡ Err kind
  pub last : (broken : Bool) (more : List ℕ) → is_last_line broken before (bytes ++ more) ≡ true

cases_bad : (before n : ℕ) → (ltb 4096 n || (ltb 0 n && eqb before 100000000)) ≡ true → (4096 < n) ⊎ ((0 < n) × (before ≡ 100000000))
cases_bad before n e = elim (cases_lt 4096 n) [
  | inl lt ↦ inl lt
  | inr le ↦ inr (grind (arith, nat_tests), grind (arith, nat_tests))
]

last_long : (broken : Bool) (before : ℕ) (bytes : List ℕ) → 4096 < length bytes → is_last_line broken before bytes ≡ true
last_long false before bytes h = grind (arith, nat_tests)
last_long true before bytes h = grind (arith, nat_tests)

last_late : (broken : Bool) (before : ℕ) (bytes : List ℕ) → 0 < length bytes → before ≡ 100000000 → is_last_line broken before bytes ≡ true
last_late false before bytes h e = grind (arith, nat_tests)
last_late true before bytes h e = grind (arith, nat_tests)

judged_long : (known : ScriptNames) (before : ℕ) (bytes : List ℕ) → 4096 < length bytes → before < 100000000 → judgement_of known (before + 1) bytes ≡ Err TooLong
judged_long known before bytes h few = grind (arith, nat_tests)

judged_late : (known : ScriptNames) (before : ℕ) (bytes : List ℕ) → 100000000 ≤ before → judgement_of known (before + 1) bytes ≡ Err TooManyLines
judged_late known before bytes h = grind (arith, nat_tests)

is_bad : (known : ScriptNames) (before : ℕ) (bytes : List ℕ) → is_last_line true before bytes ≡ true → IsBad known before bytes
is_bad known before bytes e = elim (cases_bad before (length bytes) e) [
  | inl long ↦ elim (cases_lt before 100000000) [
    | inl few ↦ record {
      kind = TooLong;
      whole = judged_long known before bytes long few;
      longer = λ more. judged_long known before (bytes ++ more) (omega (arith, length-append bytes more)) few;
      last = λ broken more. last_long broken before (bytes ++ more) (omega (arith, length-append bytes more));
    }
    | inr late ↦ record {
      kind = TooManyLines;
      whole = judged_late known before bytes late;
      longer = λ more. judged_late known before (bytes ++ more) late;
      last = λ broken more. last_long broken before (bytes ++ more) (omega (arith, length-append bytes more));
    }
  ]
  | inr late ↦ record {
    kind = TooManyLines;
    whole = judged_late known before bytes (omega (arith, late.1));
    longer = λ more. judged_late known before (bytes ++ more) (omega (arith, late.1));
    last = λ broken more. last_late broken before (bytes ++ more) (omega (arith, late.0, length-append bytes more)) late.1;
  }
]

-- a part that is a line wherever it stands is the first line
first_line : (broken : Bool) (before : ℕ) (line : List ℕ) (parts : List (List ℕ)) → is_last_line broken before line ≡ true → (more : List (List ℕ)) × (lines_among broken before (line ∷ parts) ≡ line ∷ more)
first_line broken before line [] last = ([], rw last refl)
first_line broken before line (part ∷ parts) last = (lines_among broken (before + 1) (part ∷ parts), refl)

take_whole : (bytes : List ℕ) → take (length bytes) bytes ≡ bytes
take_whole bytes = grind (arith, common_steps)

err_not_ok : (j : Judgement) (kind : LineFault) → j ≡ Err kind → IsOk j → ⊥
err_not_ok j kind e ok = let h = rw e at ok in cc

pub leads_bad : (known : ScriptNames) (before : ℕ) (bytes rest : List ℕ) (broken : Bool) → position is_newline bytes ≡ None → is_last_line true before bytes ≡ true → Leads known before bytes (length bytes) (length bytes) rest broken
leads_bad known before bytes rest broken none bad =
    let is : IsBad known before bytes = is_bad known before bytes bad in
    let (part, parts, e) = some_part is_newline rest in
    let (more, first) = first_line broken before (bytes ++ part) parts (is.last broken part) in
    let cut : slice_split is_newline (bytes ++ rest) ≡ (bytes ++ part) ∷ parts = uncut is_newline bytes rest part parts e (none_cases (position_or_len is_newline bytes) (length bytes) none) in
    let same : judgement_of known (before + 1) (bytes ++ part) ≡ judgement_of known (before + 1) (take (length bytes) bytes) = is.longer part ∙ sym is.whole ∙ ap (judgement_of known (before + 1)) (sym (take_whole bytes)) in
    record {
      others = line_judgements known (before + 1) more;
      all = ap (λ (list : List (List ℕ)). line_judgements known before (lines_among broken before list)) cut ∙ ap (line_judgements known before) first ∙ ap (λ (j : Judgement). j ∷ line_judgements known (before + 1) more) same;
      needs = λ actor later said good. absurd (err_not_ok _ is.kind (ap (judgement_of known (before + 1)) (take_whole bytes) ∙ is.whole) (ap is_ok good));
      behind = λ ok. absurd (err_not_ok _ is.kind (ap (judgement_of known (before + 1)) (take_whole bytes) ∙ is.whole) ok);
    }

drop_whole : (bytes : List ℕ) → drop (length bytes) bytes ++ [] ≡ []
drop_whole bytes = grind (arith, common_steps)

leads_end : (known : ScriptNames) (before : ℕ) (bytes : List ℕ) → position is_newline bytes ≡ None → 0 < length bytes → Leads known before bytes (length bytes) (length bytes) [] false
leads_end known before bytes none some =
    let cut : slice_split is_newline (bytes ++ []) ≡ (bytes ++ []) ∷ [] = uncut is_newline bytes [] [] [] refl (none_cases (position_or_len is_newline bytes) (length bytes) none) in
    let whole : bytes ++ [] ≡ take (length bytes) bytes = append-nil bytes ∙ sym (take_whole bytes) in
    let last : is_last_line false before (take (length bytes) bytes) ≡ true = ap (is_last_line false before) (take_whole bytes) ∙ grind (arith, nat_tests) in
    record {
      others = [];
      all = ap (λ (list : List (List ℕ)). line_judgements known before (lines_among false before list)) (cut ∙ ap (λ (line : List ℕ). line ∷ []) whole) ∙ rw last refl;
      behind = λ _. ap (λ (b : List ℕ). judgements known (before + 1) b false) (sym (drop_whole bytes));
      needs = λ actor later said is.
          let size : length (bytes ++ []) ≡ length bytes + 0 = omega (arith, length-append bytes []) in
          needs_last known false actor before later (bytes ++ []) said
          (ap (λ (list : List (List ℕ)). line_judgements known before (lines_among false before list)) (cut ∙ ap (λ (line : List ℕ). line ∷ []) whole) ∙ rw last (ap (λ (j : Judgement). j ∷ []) is))
          ∙ size
          ∙ ap (λ (b : List ℕ). length bytes + need_from known false actor (before + 1) b later) (sym (drop_whole bytes));
    }

pub leads_last : (known : ScriptNames) (before : ℕ) (bytes rest : List ℕ) (broken : Bool) → position is_newline bytes ≡ None → 0 < length bytes → May Over rest broken → Leads known before bytes (length bytes) (length bytes) rest broken
leads_last known before bytes rest broken none some may = rw (may.0, may.1) (leads_end known before bytes none some)

pub is_short : (before : ℕ) (bytes : List ℕ) → is_last_line true before bytes ≡ false → length bytes ≤ 4096
is_short before bytes e = elim (cases_lt 4096 (length bytes)) [
  | inl lt ↦ grind (arith, nat_tests)
  | inr le ↦ le
]
