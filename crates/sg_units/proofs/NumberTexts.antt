-- The number of a text is the longest front that writes one.
use Rattle.std.proofs.Common.{◌≡◌, ◌<◌, ◌≤◌, ◌+◌, ◌∙◌, ◌⊎◌, ◌==◌, suc, sym, ap, subst, refl, ℕ, Bool, true, false, List, [], ◌∷◌, ◌++◌, length, take, inl, inr, arith, append_assoc, length-append}
use Rattle.std.specs.Prelude.{slice_index}
use Rattle.std.specs.Char.{is_ascii_digit, digit_value}
use Rattle.std.specs.List.{prefix_len}
use Rattle.std.specs.Str.Parse.{AllDigits, IsNumeral}
use Rattle.std.proofs.lemmas.Bool.{cases_Bool}
use Rattle.std.proofs.lemmas.Bool.Decides.{nat_tests}
use Rattle.std.proofs.lemmas.Grind.{common_steps}
use Rattle.std.proofs.lemmas.List.{take-append-drop}
use Rattle.sg_units.specs.Number.{Number, number_of, digits, after_digits, after_point, after_e, after_part, has_e, has_minus}
use Rattle.sg_units.specs.NumberText.{WritesFraction, WritesExponent, IsSign, Writes, IsLongestNumber}
use Rattle.sg_units.proofs.Digits.{all_digits, digits_by_length, digit_from_value}

-- digits

test_from_value : (b : ℕ) → digit_value b < 10 → is_ascii_digit b ≡ true
test_from_value b small = let range = digit_from_value b small in grind (arith, nat_tests)

take_next : (b k : ℕ) (text : List ℕ) → take (1 + k) (b ∷ text) ≡ b ∷ take k text
take_next b k text = let e : 1 + k ≡ suc k = omega arith in ap (λ n. take n (b ∷ text)) e

digits_front : (w r : List ℕ) → AllDigits 10 w → digits (w ++ r) ≡ w ++ digits r
digits_front [] r all = refl
digits_front (b ∷ w) r all =
    rw (test_from_value b all.0) (take_next b (prefix_len is_ascii_digit (w ++ r)) (w ++ r) ∙ ap (λ (l : List ℕ). b ∷ l) (digits_front w r all.1))

after_front : (w r : List ℕ) → AllDigits 10 w → after_digits (w ++ r) ≡ after_digits r
after_front [] r all = refl
after_front (b ∷ w) r all =
    rw (test_from_value b all.0, take_next b (prefix_len is_ascii_digit (w ++ r)) (w ++ r)) (after_front w r all.1)

after_other : (b : ℕ) (r : List ℕ) → is_ascii_digit b ≡ false → after_digits (b ∷ r) ≡ b ∷ r
after_other b r isnt = rw isnt refl

split_digits : (text : List ℕ) → text ≡ digits text ++ after_digits text
split_digits text = sym (ap (λ (l : List ℕ). l ++ after_digits text) (sym (digits_by_length text)) ∙ take-append-drop (length (digits text)) text)

after_shorter : (text : List ℕ) → length (after_digits text) ≤ length text
after_shorter text = grind (arith, common_steps)

is_byte : (b n : ℕ) → (b == n) ≡ true → b ≡ n
is_byte b n is = grind (arith, nat_tests)

no_digits : (text : List ℕ) → (length (digits text) == 0) ≡ true → digits text ≡ []
no_digits text none = let zero_long : length (digits text) ≡ 0 = is_byte (length (digits text)) 0 none in grind (arith, common_steps)

some_digits : (text : List ℕ) → (length (digits text) == 0) ≡ false → IsNumeral 10 (digits text)
some_digits text some = (grind (arith, nat_tests), all_digits text)

-- the parts of a text

record Part (P : List ℕ → Type 0) (text rest : List ℕ) : Type 0 where
  front : List ℕ
  is : text ≡ front ++ rest
  holds : P front

fraction_part : (text : List ℕ) → Part (WritesFraction (digits (after_point text))) text (after_part text (after_point text))
fraction_part [] = record { front = []; is = refl; holds = refl }
fraction_part (b ∷ text) = elim (cases_Bool (b == 46)) [
  | inl is ↦ rw is (elim (cases_Bool (length (digits text) == 0)) [
    | inl none ↦ rw none record { front = []; is = refl; holds = no_digits text none }
    | inr some ↦ rw some record { front = b ∷ digits text; is = ap (λ (l : List ℕ). b ∷ l) (split_digits text); holds = (is_byte b 46 is, refl, some_digits text some) }
  ])
  | inr isnt ↦ rw isnt record { front = []; is = refl; holds = refl }
]

-- the digits after an e and its sign
marked_part : (text after : List ℕ) (b : ℕ) (sign : List ℕ) (negative : Bool) → (b ≡ 101) ⊎ (b ≡ 69) → IsSign negative sign → text ≡ b ∷ (sign ++ after)
    → Part (WritesExponent negative (digits after)) text (after_part text after)
marked_part text after b sign negative e is_sign is = elim (cases_Bool (length (digits after) == 0)) [
  | inl none ↦ rw none record { front = []; is = refl; holds = no_digits after none }
  | inr some ↦ rw some record {
    front = b ∷ (sign ++ digits after);
    is = is ∙ ap (λ (l : List ℕ). b ∷ l) (ap (λ (l : List ℕ). sign ++ l) (split_digits after) ∙ sym (append_assoc sign (digits after) (after_digits after)));
    holds = (e, (sign, is_sign, refl), some_digits after some);
  }
]

is_e : (b : ℕ) → has_e (b ∷ []) ≡ true → (b ≡ 101) ⊎ (b ≡ 69)
is_e b is = elim (cases_Bool (b == 101)) [
  | inl small ↦ inl (is_byte b 101 small)
  | inr other ↦ inr (is_byte b 69 (grind (arith, nat_tests)))
]

no_exponent : (text : List ℕ) (negative : Bool) → after_e text ≡ [] → Part (WritesExponent negative (digits (after_e text))) text (after_part text (after_e text))
no_exponent text negative none = rw none record { front = []; is = refl; holds = refl }

exponent_part : (text : List ℕ) → Part (WritesExponent (has_minus text) (digits (after_e text))) text (after_part text (after_e text))
exponent_part [] = record { front = []; is = refl; holds = refl }
exponent_part (b ∷ []) = elim (cases_Bool (has_e (b ∷ []))) [
  | inl is ↦ rw is record { front = []; is = refl; holds = refl }
  | inr isnt ↦ rw isnt record { front = []; is = refl; holds = refl }
]
exponent_part (b ∷ s ∷ text) = elim (cases_Bool (has_e (b ∷ []))) [
  | inl is ↦ elim (cases_Bool (s == 43)) [
    | inl plus ↦
        let other : (s == 45) ≡ false = let same = is_byte s 43 plus in grind (arith, nat_tests) in
        rw (is, plus, other) (marked_part (b ∷ s ∷ text) text b (43 ∷ []) false (is_e b is) (inr refl) (ap (λ x. b ∷ x ∷ text) (is_byte s 43 plus)))
    | inr other ↦ elim (cases_Bool (s == 45)) [
      | inl minus ↦ rw (is, other, minus) (marked_part (b ∷ s ∷ text) text b (45 ∷ []) true (is_e b is) refl (ap (λ x. b ∷ x ∷ text) (is_byte s 45 minus)))
      | inr neither ↦ rw (is, other, neither) (marked_part (b ∷ s ∷ text) (s ∷ text) b [] false (is_e b is) (inl refl) refl)
    ]
  ]
  | inr isnt ↦ rw isnt record { front = []; is = refl; holds = refl }
]

-- no other front is longer

part_shorter : (text after : List ℕ) → length after ≤ length text → length (after_part text after) ≤ length text
part_shorter text after shorter = elim (cases_Bool (length (digits after) == 0)) [
  | inl none ↦ rw none (omega arith)
  | inr some ↦ rw some (omega (arith, shorter, after_shorter after))
]

after_numeral : (text ds rest : List ℕ) → IsNumeral 10 ds → after_part text (ds ++ rest) ≡ after_digits rest
after_numeral text ds rest numeral =
    let some : (length (digits (ds ++ rest)) == 0) ≡ false =
    let front = digits_front ds rest numeral.1 in
    let long : length (digits (ds ++ rest)) ≡ length ds + length (digits rest) = ap length front ∙ length-append ds (digits rest) in
    let positive : 0 < length ds = numeral.0 in
    grind (arith, nat_tests)
    in
    rw some (after_front ds rest numeral.1)

after_e_shorter : (text : List ℕ) → length (after_e text) ≤ length text
after_e_shorter text = elim (cases_Bool (has_e text)) [
  | inl is ↦ rw is (grind (arith, common_steps))
  | inr isnt ↦ rw isnt (omega arith)
]

after_point_shorter : (text : List ℕ) → length (after_point text) ≤ length text
after_point_shorter text = elim (cases_Bool (slice_index text 0 == 46)) [
  | inl is ↦ rw is (grind (arith, common_steps))
  | inr isnt ↦ rw isnt (omega arith)
]

-- what follows the exponent of a text, and what follows its fraction and exponent
abbrev unit_after : List ℕ → List ℕ
unit_after text = after_part text (after_e text)

abbrev unit_from : List ℕ → List ℕ
unit_from text = unit_after (after_part text (after_point text))

unit_after_shorter : (text : List ℕ) → length (unit_after text) ≤ length text
unit_after_shorter text = part_shorter text (after_e text) (after_e_shorter text)

unit_from_shorter : (text : List ℕ) → length (unit_from text) ≤ length text
unit_from_shorter text =
    let fraction = part_shorter text (after_point text) (after_point_shorter text) in
    omega (arith, fraction, unit_after_shorter (after_part text (after_point text)))

e_tests : (b : ℕ) → (b ≡ 101) ⊎ (b ≡ 69) → (has_e (b ∷ []) ≡ true) × ((b == 46) ≡ false) × (is_ascii_digit b ≡ false)
e_tests b (inl small) = rw small (refl, refl, refl)
e_tests b (inr capital) = rw capital (refl, refl, refl)

digit_no_sign : (d : ℕ) → digit_value d < 10 → ((d == 43) ≡ false) × ((d == 45) ≡ false)
digit_no_sign d small = let range = digit_from_value d small in (grind (arith, nat_tests), grind (arith, nat_tests))

-- after an e and its sign stand the digits
after_e_front : (negative : Bool) (b : ℕ) (sign ds rest : List ℕ) → (b ≡ 101) ⊎ (b ≡ 69) → IsSign negative sign → IsNumeral 10 ds → after_e (b ∷ (sign ++ (ds ++ rest))) ≡ ds ++ rest
after_e_front true b sign ds rest e is numeral = rw (is, (e_tests b e).0) refl
after_e_front false b sign ds rest e (inr is) numeral = rw (is, (e_tests b e).0) refl
after_e_front false b sign [] rest e (inl is) numeral = absurd (omega (arith, numeral.0))
after_e_front false b sign (d ∷ ds) rest e (inl is) numeral =
    let no = digit_no_sign d numeral.1.0 in
    rw (is, (e_tests b e).0, no.0, no.1) refl

unit_behind_exponent : (negative : Bool) (b : ℕ) (ds text rest : List ℕ) → WritesExponent negative ds (b ∷ text) → length (unit_after (b ∷ (text ++ rest))) ≤ length rest
unit_behind_exponent negative b ds text rest (e, (sign, is_sign, is), numeral) =
    let whole : b ∷ (text ++ rest) ≡ b ∷ (sign ++ (ds ++ rest)) = ap (λ (l : List ℕ). b ∷ l) (ap (λ (l : List ℕ). l ++ rest) is ∙ append_assoc sign ds rest) in
    let after = after_e_front negative b sign ds rest e is_sign numeral in
    let unit : unit_after (b ∷ (sign ++ (ds ++ rest))) ≡ after_digits rest =
    ap (λ l. after_part (b ∷ (sign ++ (ds ++ rest))) l) after ∙ after_numeral (b ∷ (sign ++ (ds ++ rest))) ds rest numeral
    in
    rw (whole, unit) (after_shorter rest)

-- after the digits of the whole part
behind_exponent : (negative : Bool) (ds exponent rest : List ℕ) → WritesExponent negative ds exponent → length (unit_after (after_digits (exponent ++ rest))) ≤ length rest
behind_exponent negative ds [] rest writes = omega (arith, unit_after_shorter (after_digits rest), after_shorter rest)
behind_exponent negative ds (b ∷ exponent) rest writes =
    rw (after_other b (exponent ++ rest) (e_tests b writes.0).2) (unit_behind_exponent negative b ds exponent rest writes)

no_fraction : (negative : Bool) (ds exponent rest : List ℕ) → WritesExponent negative ds exponent → length (unit_from (after_digits (exponent ++ rest))) ≤ length rest
no_fraction negative ds [] rest writes = omega (arith, unit_from_shorter (after_digits rest), after_shorter rest)
no_fraction negative ds (b ∷ exponent) rest writes =
    rw (after_other b (exponent ++ rest) (e_tests b writes.0).2, (e_tests b writes.0).1) (unit_behind_exponent negative b ds exponent rest writes)

behind_whole : (negative : Bool) (fs ds fraction exponent rest : List ℕ) → WritesFraction fs fraction → WritesExponent negative ds exponent
    → length (unit_from (after_digits (fraction ++ (exponent ++ rest)))) ≤ length rest
behind_whole negative fs ds [] exponent rest writes_fraction writes = no_fraction negative ds exponent rest writes
behind_whole negative fs ds (b ∷ fraction) exponent rest (point, is, numeral) writes =
    let after : after_part (46 ∷ (fs ++ (exponent ++ rest))) (fs ++ (exponent ++ rest)) ≡ after_digits (exponent ++ rest) = after_numeral (46 ∷ (fs ++ (exponent ++ rest))) fs (exponent ++ rest) numeral in
    rw (point, is, after) (behind_exponent negative ds exponent rest writes)

unit_is_shortest : (other : Number) (front rest : List ℕ) → Writes other front → length (number_of (front ++ rest)).unit ≤ length rest
unit_is_shortest other front rest writes =
    let text : front ++ rest ≡ other.whole ++ (writes.fraction ++ (writes.exponent ++ rest)) =
    ap (λ (l : List ℕ). l ++ rest) writes.parts ∙ append_assoc other.whole (writes.fraction ++ writes.exponent) rest
    ∙ ap (λ (l : List ℕ). other.whole ++ l) (append_assoc writes.fraction writes.exponent rest)
    in
    let after : after_digits (front ++ rest) ≡ after_digits (writes.fraction ++ (writes.exponent ++ rest)) =
    ap after_digits text ∙ after_front other.whole (writes.fraction ++ (writes.exponent ++ rest)) writes.is_whole.1
    in
    rw after (behind_whole other.is_negative other.fraction other.exponent writes.fraction writes.exponent rest writes.is_fraction writes.is_exponent)

pub longest_number : (text : List ℕ) → 0 < length (digits text) → IsLongestNumber text (number_of text)
longest_number text some =
    let behind = after_digits text in
    let fraction = fraction_part behind in
    let exponent = exponent_part (after_part behind (after_point behind)) in
    let number : List ℕ = digits text ++ (fraction.front ++ exponent.front) in
    let split : text ≡ number ++ (number_of text).unit =
    split_digits text ∙ ap (λ (l : List ℕ). digits text ++ l) (fraction.is ∙ ap (λ (l : List ℕ). fraction.front ++ l) exponent.is
    ∙ sym (append_assoc fraction.front exponent.front (number_of text).unit)) ∙ sym (append_assoc (digits text) (fraction.front ++ exponent.front) (number_of text).unit)
    in
    record {
      number = number;
      split = split;
      writes = record {
        fraction = fraction.front;
        exponent = exponent.front;
        parts = refl;
        is_whole = (some, all_digits text);
        is_fraction = fraction.holds;
        is_exponent = exponent.holds;
      };
      longest = λ other front rest is writes.
          let unit : length (number_of text).unit ≤ length rest = subst (λ l. length (number_of l).unit ≤ length rest) (sym is) (unit_is_shortest other front rest writes) in
          let left : length text ≡ length number + length (number_of text).unit = ap length split ∙ length-append number (number_of text).unit in
          let right : length text ≡ length front + length rest = ap length is ∙ length-append front rest in
          omega (arith, unit, left, right);
    }
