-- The digits of a number, and a point before the last nine.
use Rattle.std.proofs.Common.{◌≡◌, ◌∙◌, ◌+◌, ◌*◌, ◌-◌, ◌/◌, ◌%◌, ◌^◌, ◌<◌, ◌≤◌, ◌++◌, ℕ, List, [], ◌∷◌, length, take, drop, sym, ap, inl, inr, arith, append_assoc, length-append, pow-suc, mod-lt, lit<}
use Rattle.std.specs.Prelude.{replicate, decimal, zero, suc}
use Rattle.std.specs.Str.Parse.{digits_value}
use Rattle.std.proofs.Math.Nat.{mod-eq_of_lt, mul-add-mod_self_left, div-div-eq-div-mul, div-add-mod, mod-le, mul_comm, mul_assoc, pow-le-pow_right}
use Rattle.std.proofs.Math.Seq.{take-append_seam, drop-append_seam}
use Rattle.std.proofs.lemmas.Bool.{cases_lt}
use Rattle.std.proofs.lemmas.Fmt.{decimal_digit, decimal_step_wide, length-decimal-le_wide}
use Rattle.std.proofs.lemmas.List.{replicate-append-replicate}
use Rattle.sg_units.specs.Date.{nine_digits, date_of}
use Rattle.sg_units.proofs.DateValue.{date_value, nine_length}

-- a number in at least so many digits
abbrev pub padded : ℕ → ℕ → List ℕ
padded k n = replicate (k - length (decimal n)) 48 ++ decimal n

-- one digit more
longer : (k d : ℕ) (ds : List ℕ) → replicate (suc (suc k) - length (ds ++ d ∷ [])) 48 ++ (ds ++ d ∷ []) ≡ (replicate (suc k - length ds) 48 ++ ds) ++ d ∷ []
longer k d ds =
    let len : length (ds ++ d ∷ []) ≡ length ds + 1 = length-append ds (d ∷ []) in
    let less : suc (suc k) - length (ds ++ d ∷ []) ≡ suc k - length ds = omega arith in
    ap (λ n. replicate n 48 ++ (ds ++ d ∷ [])) less ∙ sym (append_assoc (replicate (suc k - length ds) 48) ds (d ∷ []))

padded_more : (k r : ℕ) → 10 ≤ r → r < 10 ^ 64 → padded (suc (suc k)) r ≡ padded (suc k) (r / 10) ++ (48 + r % 10) ∷ []
padded_more k r many h =
    ap (λ ds. replicate (suc (suc k) - length ds) 48 ++ ds) (decimal_step_wide r many h) ∙ longer k (48 + r % 10) (decimal (r / 10))

padded_digit : (k r : ℕ) → r < 10 → padded (suc k) r ≡ replicate k 48 ++ (48 + r) ∷ []
padded_digit k r few =
    let one_less : suc k - 1 ≡ k = omega arith in
    ap (λ ds. replicate (suc k - length ds) 48 ++ ds) (decimal_digit r few) ∙ ap (λ n. replicate n 48 ++ (48 + r) ∷ []) one_less

one_zero_more : (k : ℕ) → replicate {A = ℕ} (suc k) 48 ≡ replicate k 48 ++ 48 ∷ []
one_zero_more k = let more : k + 1 ≡ suc k = omega arith in ap (λ n. replicate {A = ℕ} n 48) (sym more) ∙ sym (replicate-append-replicate {A = ℕ} k 1 48)

padded_few : (k r : ℕ) → r < 10 → padded (suc (suc k)) r ≡ padded (suc k) (r / 10) ++ (48 + r % 10) ∷ []
padded_few k r few =
    let none : r / 10 ≡ 0 = omega arith in
    let same : r % 10 ≡ r = omega arith in
    padded_digit (suc k) r few ∙ ap (λ z. z ++ (48 + r) ∷ []) (one_zero_more k ∙ sym (padded_digit k 0 (lit< tt)))
    ∙ ap (λ q. padded (suc k) q ++ (48 + r) ∷ []) (sym none) ∙ ap (λ d. padded (suc k) (r / 10) ++ (48 + d) ∷ []) (sym same)

padded_step : (k r : ℕ) → r < 10 ^ 64 → padded (suc (suc k)) r ≡ padded (suc k) (r / 10) ++ (48 + r % 10) ∷ []
padded_step k r h = elim (cases_lt r 10) [ inl few ↦ padded_few k r few | inr many ↦ padded_more k r many h ]

-- a number's last digit, and its other last digits
last_digit : (n p q : ℕ) → q ≡ p * 10 → n % q % 10 ≡ n % 10
last_digit n p q e =
    let whole : q * (n / q) + n % q ≡ n = div-add-mod n q in
    let tens : q * (n / q) ≡ 10 * (p * (n / q)) = ap (λ x. x * (n / q)) (e ∙ mul_comm p 10) ∙ mul_assoc 10 p (n / q) in
    omega arith

other_digits : (n p q : ℕ) → 0 < p → q ≡ p * 10 → n % q / 10 ≡ n / 10 % p
other_digits n p q some e =
    let whole : q * (n / q) + n % q ≡ n = div-add-mod n q in
    let tens : q * (n / q) ≡ 10 * (p * (n / q)) = ap (λ x. x * (n / q)) (e ∙ mul_comm p 10) ∙ mul_assoc 10 p (n / q) in
    let positive : 0 < q = omega arith in
    let less : n % q < q = mod-lt n positive in
    let small : n % q / 10 < p = omega arith in
    let parts : p * (n / q) + n % q / 10 ≡ n / 10 = omega arith in
    sym (mod-eq_of_lt small) ∙ sym (mul-add-mod_self_left p (n / q) (n % q / 10)) ∙ ap (λ x. x % p) parts

-- the last digits of a number, and those before them
pub split : (k n : ℕ) → 10 ^ suc k ≤ n → n < 10 ^ 64 → decimal n ≡ decimal (n / 10 ^ suc k) ++ padded (suc k) (n % 10 ^ suc k)
split zero n long h =
    decimal_step_wide n long h ∙ ap (λ ds. decimal (n / 10) ++ ds) (sym (padded_digit 0 (n % 10) (mod-lt n (lit< tt))))
split (suc k) n long h =
    let p = 10 ^ suc k in
    let q = 10 ^ suc (suc k) in
    let e : q ≡ p * 10 = pow-suc 10 (suc k) in
    let some : 1 ≤ p = pow-le-pow_right {n = 10} (omega arith) {i = 0} {j = suc k} (omega arith) in
    let many : 10 ≤ n = omega arith in
    let rest : p ≤ n / 10 = omega arith in
    let least : n / 10 < 10 ^ 64 = omega arith in
    let less : n % q ≤ n = mod-le n q in
    let small : n % q < 10 ^ 64 = omega arith in
    let before : n / 10 / p ≡ n / q = div-div-eq-div-mul n 10 p ∙ ap (λ x. n / x) (mul_comm 10 p ∙ sym e) in
    decimal_step_wide n many h ∙ ap (λ ds. ds ++ (48 + n % 10) ∷ []) (split k (n / 10) rest least)
    ∙ append_assoc (decimal (n / 10 / p)) (padded (suc k) (n / 10 % p)) ((48 + n % 10) ∷ [])
    ∙ ap (λ ds. decimal (n / 10 / p) ++ ds) (ap (λ r. padded (suc k) r ++ (48 + n % 10) ∷ []) (sym (other_digits n p q some e)) ∙ ap (λ d. padded (suc k) (n % q / 10) ++ (48 + d) ∷ []) (sym (last_digit n p q e)) ∙ sym (padded_step k (n % q) small))
    ∙ ap (λ b. decimal b ++ padded (suc (suc k)) (n % q)) before

-- below a second
pub second_more : (r : ℕ) → r < 10 ^ 9 → decimal (1000000000 + r) ≡ 49 ∷ nine_digits r
second_more r h =
    let one : (1000000000 + r) / 1000000000 ≡ 1 = omega arith in
    let rest : (1000000000 + r) % 1000000000 ≡ r = omega arith in
    split 8 (1000000000 + r) (omega arith) (omega arith) ∙ ap (λ q. decimal q ++ nine_digits ((1000000000 + r) % 1000000000)) one
    ∙ ap (λ ds. ds ++ nine_digits ((1000000000 + r) % 1000000000)) (decimal_digit 1 (lit< tt)) ∙ ap (λ x. 49 ∷ nine_digits x) rest

pub below_second : (ns : ℕ) → ns < 10 ^ 9 → 48 ∷ 46 ∷ nine_digits ns ≡ date_of ns
below_second ns h =
    let none : 0 ≡ ns / 1000000000 = omega arith in
    let same : ns ≡ ns % 1000000000 = omega arith in
    ap (λ ds. ds ++ 46 ∷ nine_digits ns) (sym (decimal_digit 0 (lit< tt))) ∙ ap (λ q. decimal q ++ 46 ∷ nine_digits ns) none
    ∙ ap (λ r. decimal (ns / 1000000000) ++ 46 ∷ nine_digits r) same

-- from a second on
pub from_second : (ns : ℕ) → 10 ^ 9 ≤ ns → ns < 10 ^ 33 → decimal ns ≡ decimal (ns / 1000000000) ++ nine_digits (ns % 1000000000)
from_second ns long h = split 8 ns long (omega arith)

cut : (a b ds : List ℕ) → ds ≡ a ++ b → length b ≡ 9 → (9 ≤ length ds) × (take (length ds - 9) ds ++ 46 ∷ drop (length ds - 9) ds ≡ a ++ 46 ∷ b)
cut a b ds is nine =
    let len : length ds ≡ length a + 9 = ap length is ∙ length-append a b ∙ ap (λ n. length a + n) nine in
    let place : length ds - 9 ≡ length a = omega arith in
    (omega arith, rw (place, is) (ap (λ l. l ++ 46 ∷ drop (length a) (a ++ b)) (take-append_seam a b) ∙ ap (λ l. a ++ 46 ∷ l) (drop-append_seam a b)))

pub pointed : (ns : ℕ) → 10 ^ 9 ≤ ns → ns < 10 ^ 33 → (9 ≤ length (decimal ns)) × (take (length (decimal ns) - 9) (decimal ns) ++ 46 ∷ drop (length (decimal ns) - 9) (decimal ns) ≡ date_of ns)
pointed ns long h =
    cut (decimal (ns / 1000000000)) (nine_digits (ns % 1000000000)) (decimal ns) (from_second ns long h) (nine_length (ns % 1000000000) (mod-lt ns (lit< tt)))

-- the whole
pub date_length : (ns : ℕ) → ns < 10 ^ 33 → length (date_of ns) ≤ 34
date_length ns h =
    let q = ns / 1000000000 in
    let few : length (decimal q) ≤ 24 = length-decimal-le_wide 24 q (omega arith) (omega arith) (omega arith) in
    let nine : length (nine_digits (ns % 1000000000)) ≡ 9 = nine_length (ns % 1000000000) (mod-lt ns (lit< tt)) in
    let all : length (date_of ns) ≡ length (decimal q) + length (46 ∷ nine_digits (ns % 1000000000)) = length-append (decimal q) (46 ∷ nine_digits (ns % 1000000000)) in
    omega arith

pub date_parts : (ns : ℕ) (old new : List ℕ) → ns < 10 ^ 33 → new ≡ old ++ date_of ns → (seconds : List ℕ) × (rest : List ℕ) × (new ≡ old ++ (seconds ++ 46 ∷ rest)) × (length rest ≡ 9) × (digits_value 10 (seconds ++ rest) ≡ ns)
date_parts ns old new h is = (
  decimal (ns / 1000000000),
  nine_digits (ns % 1000000000),
  is,
  nine_length (ns % 1000000000) (mod-lt ns (lit< tt)),
  date_value ns h,
)
