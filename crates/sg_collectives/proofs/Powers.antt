-- Powers of two, and numbers as odd or even multiples of them.
use Rattle.std.proofs.Common.{◌≡◌, ℕ, zero, suc, ◌+◌, ◌-◌, ◌*◌, ◌/◌, ◌%◌, ◌^◌, ◌<◌, ◌≤◌, inl, inr, Bool, true, false, cond, leb, List, [], ◌∷◌, length, get_or, Some, None, unwrap_or, refl, sym, ap, subst, ◌∙◌, eqb, eq-eqb, ne_eqb, le-leb, leb-true, pow_pos, pow_mono, pow-add, arith}
use Rattle.std.specs.List.{find}
use Rattle.std.proofs.Math.Nat.{pow-suc, mul-div_cancel_left, eq_of_mul-eq-mul_left}
use Rattle.std.proofs.lemmas.Bool.{cases_lt, cases_eq, cases_Bool}
use Rattle.std.proofs.lemmas.List.FromFn.{get_or-map-range_with_len, length-map-range_with_len}
use Rattle.std.proofs.lemmas.List.Recursion.{found_at}
use Rattle.sg_collectives.specs.Tree.{low, lowest_bit, powers}

-- ---- powers
pub below_power : (k : ℕ) → k < 2 ^ k
below_power zero = omega arith
below_power (suc k) = omega (arith, below_power k, pow-suc 2 k)

pub exponent_less : (j k : ℕ) → 2 ^ j < 2 ^ k → j < k
exponent_less j k less = elim (cases_lt j k) [ inl below ↦ below | inr above ↦ absurd (omega (arith, pow_mono above)) ]

-- a power as an even multiple of a smaller one
split_power : (j k : ℕ) → j < k → 2 ^ k ≡ 2 ^ j * (2 ^ (k - j - 1) * 2)
split_power j k less =
    let d : ℕ = k - j - 1 in
    let e : k ≡ j + suc d = omega arith in
    ap (λ n. 2 ^ n) e ∙ pow-add 2 j (suc d) ∙ ap (λ x. 2 ^ j * x) (pow-suc 2 d)

-- ---- multiples
pub record IsOddTimes (number k : ℕ) : Type 0 where
  pub half : ℕ
  pub is : number ≡ 2 ^ k * (2 * half + 1)

pub record IsEvenTimes (number k : ℕ) : Type 0 where
  pub half : ℕ
  pub is : number ≡ 2 ^ k * (2 * half)

odd_here : (number : ℕ) → number % 2 ≡ 1 → number ≡ 2 ^ 0 * (2 * (number / 2) + 1)
odd_here number odd = omega arith

doubled : (number z x h : ℕ) → z ≡ x * 2 → number / 2 ≡ x * (2 * h + 1) → number % 2 ≡ 0 →
    number ≡ z * (2 * h + 1)
doubled number z x h e q even = rw e (omega arith)

pub odd_part : (fuel number : ℕ) → number ≤ fuel → 0 < number → (k : ℕ) × IsOddTimes number k
odd_part zero number few some = absurd (omega arith)
odd_part (suc fuel) number few some = elim (cases_eq (number % 2) 1) [
  | inl odd ↦ (0, record { half = number / 2; is = odd_here number odd })
  | inr other ↦
      let even : number % 2 ≡ 0 = omega arith in
      let rest : (k : ℕ) × IsOddTimes (number / 2) k = odd_part fuel (number / 2) (omega arith) (omega arith) in (
        suc rest.0,
        record {
          half = rest.1.half;
          is = doubled number (2 ^ suc rest.0) (2 ^ rest.0) rest.1.half (pow-suc 2 rest.0) rest.1.is even;
        },
      )
]

apart : (x d p h : ℕ) → 0 < x → x * (2 * p + 1) ≡ (x * d) * (2 * h) → ⊥
apart x d p h some e =
    let cancelled : 2 * p + 1 ≡ d * (2 * h) = eq_of_mul-eq-mul_left x some (2 * p + 1) (d * (2 * h)) (omega arith) in
    omega arith

-- an odd multiple of a power is an even one of smaller powers alone
pub even_below_odd : (number i k p h : ℕ) → number ≡ 2 ^ i * (2 * p + 1) →
    number ≡ 2 ^ k * (2 * h) → k < i
even_below_odd number i k p h odd even = elim (cases_lt k i) [
  | inl below ↦ below
  | inr above ↦
      let e : k ≡ i + (k - i) = omega arith in
      let power : 2 ^ k ≡ 2 ^ i * 2 ^ (k - i) = ap (λ n. 2 ^ n) e ∙ pow-add 2 i (k - i) in
      absurd (apart (2 ^ i) (2 ^ (k - i)) p h (pow_pos i) (sym odd ∙ even ∙ ap (λ x. x * (2 * h)) power))
]

pub even_from_odd : (number i k p : ℕ) → number ≡ 2 ^ i * (2 * p + 1) → k < i → IsEvenTimes number k
even_from_odd number i k p odd less = record {
  half = 2 ^ (i - k - 1) * (2 * p + 1);
  is = regroup number (2 ^ i) (2 ^ k) (2 ^ (i - k - 1)) p (split_power k i less) odd;
}
  where
    regroup : (number y x d p : ℕ) → y ≡ x * (d * 2) → number ≡ y * (2 * p + 1) →
        number ≡ x * (2 * (d * (2 * p + 1)))
    regroup number y x d p e odd = odd ∙ rw e (omega arith)

-- ---- the lowest set bit
first_is : (test : ℕ → Bool) (numbers : List ℕ) (i : ℕ) → i < length numbers →
    ((k : ℕ) → k < i → test (get_or numbers k 0) ≡ false) → test (get_or numbers i 0) ≡ true →
    unwrap_or (find test numbers) 0 ≡ get_or numbers i 0
first_is test numbers i within before at =
    ap (λ o. unwrap_or o 0) (found_at (find test) test Some None refl (λ _ _. refl) numbers i 0 within before at)

power_at : (count k : ℕ) → k < count → get_or (powers count) k 0 ≡ 2 ^ k
power_at count k less = get_or-map-range_with_len (λ j. 2 ^ j) 0 count k k 0 less (omega arith)

length-powers : (count : ℕ) → length (powers count) ≡ count
length-powers count = length-map-range_with_len (λ j. 2 ^ j) 0 count

pub lowest_by_bits : (number k : ℕ) → k < number → number / 2 ^ k % 2 ≡ 1 →
    ((j : ℕ) → j < k → number / 2 ^ j % 2 ≡ 0) → lowest_bit number ≡ 2 ^ k
unfolding lowest_bit
lowest_by_bits number k within at below =
    let test : ℕ → Bool = λ m. eqb (number / m % 2) 1 in
    first_is test (powers number) k (omega (arith, length-powers number))
    (λ j less. subst (λ m. test m ≡ false) (sym (power_at number j (omega arith)))
    (ne_eqb (number / 2 ^ j % 2) 1 (λ e. omega (arith, below j less, e))))
    (subst (λ m. test m ≡ true) (sym (power_at number k within)) (eq-eqb (number / 2 ^ k % 2) 1 at))
    ∙ power_at number k within

quotient : (number x y : ℕ) → 0 < x → number ≡ x * y → number / x ≡ y
quotient number x y some e = ap (λ n. n / x) e ∙ mul-div_cancel_left y some

odd_rest : (q p : ℕ) → q ≡ 2 * p + 1 → q % 2 ≡ 1
odd_rest q p e = omega arith

even_rest : (q p : ℕ) → q ≡ 2 * p → q % 2 ≡ 0
even_rest q p e = omega arith

pub power_within : (number k : ℕ) → IsOddTimes number k → 2 ^ k ≤ number
power_within number k odd = omega (arith, odd.is)

pub lowest_is : (number k : ℕ) → IsOddTimes number k → lowest_bit number ≡ 2 ^ k
lowest_is number k odd =
    lowest_by_bits number k (omega (arith, below_power k, power_within number k odd))
    (odd_rest (number / 2 ^ k) odd.half (quotient number (2 ^ k) (2 * odd.half + 1) (pow_pos k) odd.is))
    (λ j less.
    let even : IsEvenTimes number j = even_from_odd number k j odd.half odd.is less in
    even_rest (number / 2 ^ j) even.half (quotient number (2 ^ j) (2 * even.half) (pow_pos j) even.is))

pub lowest_within : (number : ℕ) → 0 < number → (0 < lowest_bit number) × (lowest_bit number ≤ number)
lowest_within number some =
    let part : (k : ℕ) × IsOddTimes number k = odd_part number number (omega arith) some in
    let is : lowest_bit number ≡ 2 ^ part.0 = lowest_is number part.0 part.1 in
    (omega (arith, is, pow_pos part.0), omega (arith, is, power_within number part.0 part.1))

-- ---- of rank 0
first_passes : (test : ℕ → Bool) (numbers : List ℕ) (i : ℕ) → i < length numbers →
    test (get_or numbers i 0) ≡ true → test (unwrap_or (find test numbers) 0) ≡ true
first_passes test [] i within passes = absurd (omega arith)
first_passes test (x ∷ numbers) zero within passes =
    subst (λ y. test y ≡ true) (sym (ap (λ b. unwrap_or (cond b (Some x) (find test numbers)) 0) passes)) passes
first_passes test (x ∷ numbers) (suc i) within passes = elim (cases_Bool (test x)) [
  | inl holds ↦ subst (λ y. test y ≡ true) (sym (ap (λ b. unwrap_or (cond b (Some x) (find test numbers)) 0) holds)) holds
  | inr fails ↦
      subst (λ y. test y ≡ true) (sym (ap (λ b. unwrap_or (cond b (Some x) (find test numbers)) 0) fails))
      (first_passes test numbers i (omega arith) passes)
]

pub low_of_root : (members : ℕ) → members ≤ low 0 members
unfolding low
low_of_root members =
    let test : ℕ → Bool = λ m. leb members m in
    leb-true members (unwrap_or (find test (powers (members + 1))) 0) (first_passes test (powers (members + 1)) members
    (omega (arith, length-powers (members + 1)))
    (subst (λ m. test m ≡ true) (sym (power_at (members + 1) members (omega arith)))
    (le-leb members (2 ^ members) (omega (arith, below_power members)))))
