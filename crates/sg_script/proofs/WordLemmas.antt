-- The first word of a text.
use Rattle.std.proofs.Common.{◌≡◌, ◌≢◌, ◌<◌, ◌∙◌, ap, sym, ℕ, false, List, [], ◌∷◌, length, arith}
use Rattle.std.specs.Prelude.{Bool, bytes_eq, filter, nat_eq, nat_lt}
use Rattle.std.specs.Cmp.Lexicographic.{pointwise}
use Rattle.std.specs.List.{slice_split, starts_with}
use Rattle.std.proofs.lemmas.Bool.{false_from_ne_true}
use Rattle.std.proofs.lemmas.List.{take_all}
use Rattle.std.proofs.lemmas.Slice.Eq.{bytes_eq-Decides}
use Rattle.std.proofs.lemmas.Bool.Decides.{nat_tests}
use Rattle.sg_script.specs.Words.{words, is_blank}

-- a part between blanks that is a word
abbrev pub is_some_word : List ℕ → Bool
is_some_word part = nat_lt 0 (length part)

kept : (word : List ℕ) (more : List (List ℕ)) → 0 < length word → filter is_some_word (word ∷ more) ≡ word ∷ filter is_some_word more
kept [] more some = absurd (omega arith)
kept (b ∷ word) more some = grind (arith, nat_tests)

pub words_kept : (text word more : List ℕ) → 0 < length word → slice_split is_blank text ≡ word ∷ slice_split is_blank more → words text ≡ word ∷ words more
words_kept text word more some e = ap (filter is_some_word) e ∙ kept word (slice_split is_blank more) some

pub words_whole : (text : List ℕ) → 0 < length text → slice_split is_blank text ≡ text ∷ [] → words text ≡ text ∷ []
words_whole text some e = ap (filter is_some_word) e ∙ kept text [] some

pub words_lead : (text more : List ℕ) → slice_split is_blank text ≡ [] ∷ slice_split is_blank more → words text ≡ words more
words_lead text more e = ap (filter is_some_word) e

-- ---- two words
pub same_word : (word verb : List ℕ) → length word ≡ length verb → starts_with nat_eq word verb ≡ bytes_eq verb word
same_word word verb e = ap (pointwise nat_eq verb) (take_all (length verb) word (omega (arith, e)))

pub other_length : (word verb : List ℕ) → length word ≢ length verb → bytes_eq verb word ≡ false
other_length word verb other = false_from_ne_true (bytes_eq verb word) (λ same. other (ap length (sym ((bytes_eq-Decides verb word).0 same))))
