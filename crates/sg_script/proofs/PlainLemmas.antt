-- Bytes that may stand in a line.
use Rattle.std.proofs.Common.{◌≡◌, ◌≤◌, sym, refl, ℕ, zero, suc, Bool, true, false, true≢false, not, ◌&&◌, ◌||◌, List, [], ◌∷◌, length, take, drop, None, Some, inl, inr, arith}
use Rattle.std.specs.Prelude.{◌-◌, ◌==◌, slice_index}
use Rattle.std.specs.List.{list_all, position, position_or_len}
use Rattle.std.proofs.lemmas.Bool.{cases_Bool}
use Rattle.sg_script.specs.Answer.{is_newline}
use Rattle.sg_script.specs.Line.{is_plain, without_return}
use Rattle.sg_script.specs.kept.Front.{is_text, is_within}
use Rattle.sg_script.proofs.Splits.{first_yes, first_no, none_cases, some_cases}

left : (a b : Bool) → (a && b) ≡ true → a ≡ true
left true b h = refl
left false b h = h

right : (a b : Bool) → (a && b) ≡ true → b ≡ true
right true b h = h
right false b h = absurd (true≢false (sym h))

both : (a b : Bool) → a ≡ true → b ≡ true → (a && b) ≡ true
both true b is h = h
both false b is h = is

-- ---- parts of a list of which all pass
pub all_dropped : (p : ℕ → Bool) (n : ℕ) (xs : List ℕ) → list_all p xs ≡ true → list_all p (drop n xs) ≡ true
all_dropped p zero xs all = all
all_dropped p (suc n) [] all = refl
all_dropped p (suc n) (b ∷ xs) all = all_dropped p n xs (right (p b) (list_all p xs) all)

pub all_taken : (p : ℕ → Bool) (n : ℕ) (xs : List ℕ) → list_all p xs ≡ true → list_all p (take n xs) ≡ true
all_taken p zero xs all = refl
all_taken p (suc n) [] all = refl
all_taken p (suc n) (b ∷ xs) all = both (p b) (list_all p (take n xs)) (left (p b) (list_all p xs) all) (all_taken p n xs (right (p b) (list_all p xs) all))

-- ---- the line at the front
unbroken : (n : ℕ) (xs : List ℕ) → n ≤ position_or_len is_newline xs → list_all is_within (take n xs) ≡ true
unbroken zero xs h = refl
unbroken (suc n) [] h = refl
unbroken (suc n) (b ∷ xs) h = elim (cases_Bool (is_newline b)) [
  | inl is ↦ absurd (omega (arith, first_yes is_newline b xs is, h))
  | inr isnt ↦ rw isnt (unbroken n xs (omega (arith, first_no is_newline b xs isnt, h)))
]

-- up to its newline, or with none
pub unbroken_some : (bytes : List ℕ) (len : ℕ) → position is_newline bytes ≡ Some len → list_all is_within (take len bytes) ≡ true
unbroken_some bytes len at =
    let (lt, is) = some_cases (position_or_len is_newline bytes) (length bytes) len at in
    unbroken len bytes (omega (arith, is))

pub unbroken_none : (bytes : List ℕ) → position is_newline bytes ≡ None → list_all is_within (take (length bytes) bytes) ≡ true
unbroken_none bytes none = unbroken (length bytes) bytes (none_cases (position_or_len is_newline bytes) (length bytes) none)

-- text with no newline in it is plain
plain_byte : (b : ℕ) → is_text b ≡ true → is_within b ≡ true → is_plain b ≡ true
plain_byte b text within = cases (is_plain b) (is_newline b) text within
  where
    cases : (p n : Bool) → (p || n) ≡ true → not n ≡ true → p ≡ true
    cases true n text within = refl
    cases false true text within = within
    cases false false text within = text

plain_bytes : (xs : List ℕ) → list_all is_text xs ≡ true → list_all is_within xs ≡ true → list_all is_plain xs ≡ true
plain_bytes [] text within = refl
plain_bytes (b ∷ xs) text within =
    both (is_plain b) (list_all is_plain xs)
    (plain_byte b (left (is_text b) (list_all is_text xs) text) (left (is_within b) (list_all is_within xs) within))
    (plain_bytes xs (right (is_text b) (list_all is_text xs) text) (right (is_within b) (list_all is_within xs) within))

pub plain_line : (bytes : List ℕ) (len : ℕ) → list_all is_text bytes ≡ true → list_all is_within (take len bytes) ≡ true → list_all is_plain (take len bytes) ≡ true
plain_line bytes len text within = plain_bytes (take len bytes) (all_taken is_text len bytes text) within

-- so it is without its carriage return
pub plain_without : (line : List ℕ) → list_all is_plain line ≡ true → list_all is_plain (without_return line) ≡ true
plain_without line all = elim (cases_Bool (slice_index line (length line - 1) == 13)) [
  | inl is ↦ rw is (all_taken is_plain (length line - 1) line all)
  | inr isnt ↦ rw isnt all
]
