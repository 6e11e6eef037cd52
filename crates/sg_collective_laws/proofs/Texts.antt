-- Texts that are joined of words, or of lines.
use Rattle.std.proofs.Common.{◌≡◌, ◌<◌, ◌≤◌, ◌+◌, ◌-◌, ◌*◌, ◌∙◌, ap, refl, subst, ℕ, Bool, true, false, cond, not, ◌&&◌, List, [], ◌∷◌, ◌++◌, length, take, All, filter, inl, inr, arith, length-append, ne_eqb, lt-ltb}
use Rattle.std.specs.List.{join_with_byte, list_all, onto_first, slice_split}
use Rattle.std.specs.Prelude.{slice_index}
use Rattle.std.proofs.lemmas.Bool.{and_from, and_parts, cases_Bool, not-true}
use Rattle.std.proofs.lemmas.List.Elements.{All-append, All-cons, All-head, All-nil, All-same, All-tail, All-weaker}
use Rattle.std.proofs.lemmas.List.Splits.{slice_split-cons_no, slice_split-cons_yes, slice_split_at, slice_split_none}
use Rattle.sg_script.specs.Answer.{is_newline}
use Rattle.sg_script.specs.Line.{is_plain, without_return}
use Rattle.sg_script.specs.Words.{is_blank}
use Rattle.sg_script.proofs.WordLemmas.{is_some_word}

-- none of the bytes passes
abbrev pub Lacks : (ℕ → Bool) → List ℕ → Type 0
Lacks p text = All (λ b. p b ≡ false) text

-- ---- joined, and cut again
pub split_joined : (p : ℕ → Bool) (c : ℕ) → p c ≡ true → (word : List ℕ) (words : List (List ℕ)) → All (Lacks p) (word ∷ words) →
    slice_split p (join_with_byte c (word ∷ words)) ≡ word ∷ words
split_joined p c is word [] all = slice_split_none p word (All-head (Lacks p) word [] all)
split_joined p c is word (next ∷ words) all =
    slice_split_at p word c (join_with_byte c (next ∷ words)) (All-head (Lacks p) word (next ∷ words) all) is
    ∙ ap (λ (rest : List (List ℕ)). word ∷ rest) (split_joined p c is next words (All-tail (Lacks p) word (next ∷ words) all))

pub split_back : (p : ℕ → Bool) (c : ℕ) → p c ≡ true → (parts : List (List ℕ)) → 0 < length parts → All (Lacks p) parts →
    slice_split p (join_with_byte c parts) ≡ parts
split_back p c is [] some all = absurd (omega arith)
split_back p c is (part ∷ parts) some all = split_joined p c is part parts all

pub all_joined : (P : ℕ → Type 0) (c : ℕ) → P c → (words : List (List ℕ)) → All (All P) words → All P (join_with_byte c words)
all_joined P c at [] all = All-nil P
all_joined P c at (word ∷ []) all = All-head (All P) word [] all
all_joined P c at (word ∷ next ∷ words) all =
    All-append P word (c ∷ join_with_byte c (next ∷ words)) (All-head (All P) word (next ∷ words) all)
    (All-cons P c (join_with_byte c (next ∷ words)) at (all_joined P c at (next ∷ words) (All-tail (All P) word (next ∷ words) all)))

abbrev IsShort : List ℕ → Type 0
IsShort word = length word ≤ 64

pub short_joined : (c : ℕ) (words : List (List ℕ)) → All IsShort words → length (join_with_byte c words) ≤ 65 * length words
short_joined c [] all = omega arith
short_joined c (word ∷ []) all = let first : length word ≤ 64 = All-head IsShort word [] all in omega arith
short_joined c (word ∷ next ∷ words) all =
    let first : length word ≤ 64 = All-head IsShort word (next ∷ words) all in
    let more : length (join_with_byte c (next ∷ words)) ≤ 65 * length (next ∷ words) = short_joined c (next ∷ words) (All-tail IsShort word (next ∷ words) all) in
    let whole : length (word ++ (c ∷ join_with_byte c (next ∷ words))) ≡ length word + length (c ∷ join_with_byte c (next ∷ words)) = length-append word (c ∷ join_with_byte c (next ∷ words)) in
    omega arith

-- ---- the parts of a text
onto_lacks : (p : ℕ → Bool) (b : ℕ) (parts : List (List ℕ)) → p b ≡ false → All (Lacks p) parts → All (Lacks p) (onto_first b parts)
onto_lacks p b [] isnt all = All-cons (Lacks p) (b ∷ []) [] (All-cons (λ x. p x ≡ false) b [] isnt (All-nil (λ x. p x ≡ false))) (All-nil (Lacks p))
onto_lacks p b (part ∷ parts) isnt all =
    All-cons (Lacks p) (b ∷ part) parts (All-cons (λ x. p x ≡ false) b part isnt (All-head (Lacks p) part parts all)) (All-tail (Lacks p) part parts all)

pub lacks_split : (p : ℕ → Bool) (text : List ℕ) → All (Lacks p) (slice_split p text)
lacks_split p [] = All-cons (Lacks p) [] [] (All-nil (λ x. p x ≡ false)) (All-nil (Lacks p))
lacks_split p (b ∷ text) = elim (cases_Bool (p b)) [
  | inl is ↦
      All-same (Lacks p) (slice_split p (b ∷ text)) ([] ∷ slice_split p text) (slice_split-cons_yes p b text is)
      (All-cons (Lacks p) [] (slice_split p text) (All-nil (λ x. p x ≡ false)) (lacks_split p text))
  | inr isnt ↦
      All-same (Lacks p) (slice_split p (b ∷ text)) (onto_first b (slice_split p text)) (slice_split-cons_no p b text isnt)
      (onto_lacks p b (slice_split p text) isnt (lacks_split p text))
]

-- ---- tests of bytes
pub kept_words : (words : List (List ℕ)) → All (λ word. 0 < length word) words → filter is_some_word words ≡ words
kept_words [] all = refl
kept_words (word ∷ words) all =
    ap (λ (b : Bool). cond b (word ∷ filter is_some_word words) (filter is_some_word words)) (lt-ltb 0 (length word) (All-head (λ w. 0 < length w) word words all))
    ∙ ap (λ (l : List (List ℕ)). word ∷ l) (kept_words words (All-tail (λ w. 0 < length w) word words all))

pub passes_all : (p : ℕ → Bool) (text : List ℕ) → All (λ b. p b ≡ true) text → list_all p text ≡ true
passes_all p [] all = refl
passes_all p (b ∷ text) all =
    and_from (p b) (list_all p text) (All-head (λ x. p x ≡ true) b text all) (passes_all p text (All-tail (λ x. p x ≡ true) b text all))

pub plain_is_no_newline : (b : ℕ) → is_plain b ≡ true → is_newline b ≡ false
plain_is_no_newline b is = ne_eqb b 10 (λ e. let bad : false ≡ true = subst (λ (x : ℕ). is_plain x ≡ true) e is in absurd (cc bad))

pub no_return : (text : List ℕ) → All (λ b. is_plain b ≡ true) text → without_return text ≡ text
no_return [] all = refl
no_return (b ∷ text) all =
    let end : ℕ = slice_index (b ∷ text) (length (b ∷ text) - 1) in
    let last : is_plain end ≡ true = all (length (b ∷ text) - 1) 0 (omega arith) in
    ap (λ (t : Bool). cond t (take (length (b ∷ text) - 1) (b ∷ text)) (b ∷ text))
    (ne_eqb end 13 (λ e. let bad : false ≡ true = subst (λ (x : ℕ). is_plain x ≡ true) e last in absurd (cc bad)))

-- ---- words of a line
-- plain, and no blank
abbrev pub is_word_byte : ℕ → Bool
is_word_byte b = is_plain b && not (is_blank b)

pub record IsWord (text : List ℕ) : Type 0 where
  pub some : 0 < length text
  pub short : length text ≤ 64
  pub bytes : All (λ b. is_word_byte b ≡ true) text

pub word_plain : (text : List ℕ) → IsWord text → All (λ b. is_plain b ≡ true) text
word_plain text is =
    All-weaker (λ b. is_word_byte b ≡ true) (λ b. is_plain b ≡ true) (λ b holds. (and_parts (is_plain b) (not (is_blank b)) holds).0) text is.bytes

pub word_whole : (text : List ℕ) → IsWord text → Lacks is_blank text
word_whole text is =
    All-weaker (λ b. is_word_byte b ≡ true) (λ b. is_blank b ≡ false)
    (λ b holds. not-true (is_blank b) (and_parts (is_plain b) (not (is_blank b)) holds).1) text is.bytes
