-- How the number of binary digits grows.
use Rattle.std.proofs.Common.{◌≡◌, ℕ, zero, suc, ◌+◌, ◌-◌, ◌*◌, ◌/◌, ◌<◌, ◌≤◌, ◌⊎◌, inl, inr, refl, ap, ◌∙◌, arith}
use Rattle.std.proofs.lemmas.Int.Digits.{length-digits_of_step}
use Rattle.sg_heap.specs.Agenda.{digits}

none_or_some : (n : ℕ) → (n ≡ 0) ⊎ (0 < n)
none_or_some n = grind arith

digits_zero : digits 0 ≡ 0
unfolding digits
digits_zero = refl

-- half of a number has one digit less
digits_half : (n : ℕ) → 0 < n → digits n ≡ digits (n / 2) + 1
unfolding digits
digits_half n some = length-digits_of_step 2 n (omega arith) some

grows : (most a b : ℕ) → a ≤ most → a ≤ b → digits a ≤ digits b
grows zero a b p h = let none : digits a ≡ 0 = ap digits (none_is a p) ∙ digits_zero in omega (arith, none)
  where
    none_is : (a : ℕ) → a ≤ 0 → a ≡ 0
    none_is a p = omega (arith, p)
grows (suc most) a b p h = elim (none_or_some a) [
  | inl e ↦ let none : digits a ≡ 0 = ap digits e ∙ digits_zero in omega (arith, none)
  | inr some ↦
      let rest : digits (a / 2) ≤ digits (b / 2) = grows most (a / 2) (b / 2) (omega arith) (omega arith) in
      omega (arith, rest, digits_half a some, digits_half b (omega arith))
]

pub digits-le : (a b : ℕ) → a ≤ b → digits a ≤ digits b
digits-le a b h = grows a a b (omega arith) h

-- twice as much has one more digit
digits-double : (n m : ℕ) → 0 < n → 2 * n ≤ m → digits n + 1 ≤ digits m
digits-double n m some h = omega (arith, digits_half m (omega arith), digits-le n (m / 2) (omega arith))

-- one step up in a heap
pub digits-parent : (at : ℕ) → 0 < at → digits ((at - 1) / 2) + 1 ≤ digits at
digits-parent at some = omega (arith, digits_half at some, digits-le ((at - 1) / 2) (at / 2) (omega arith))

-- one step down
pub digits-child : (at child : ℕ) → (child - 1) / 2 ≡ at → at < child → digits (at + 1) + 1 ≤ digits (child + 1)
digits-child at child h k = digits-double (at + 1) (child + 1) (omega arith) (omega arith)
