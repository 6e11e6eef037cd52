-- A number times and over powers of ten, step by step.
use Rattle.std.proofs.Common.{◌≡◌, ◌<◌, ◌≤◌, ◌+◌, ◌-◌, ◌*◌, ◌/◌, ◌^◌, ◌∙◌, zero, suc, sym, ap, ℕ, None, Some, arith, add-one}
use Rattle.std.proofs.Math.Nat.{pow-suc, pow-le-pow_right, mul_assoc, div-div-eq-div-mul, mul-le-mul_left, mul-div_left, mul-div-mul_left, mul_comm}
use Rattle.std.proofs.lemmas.Nat.{pow-add}
use Rattle.std.proofs.lemmas.Bool.Decides.{nat_tests}
use Rattle.sg_units.specs.kept.Scaled.{if_at_most}

pub pow_next : (i : ℕ) → 10 ^ (i + 1) ≡ 10 ^ i * 10
pow_next i = rw add-one (pow-suc 10 i)

pub raise_step : (v n i : ℕ) → v ≡ n * 10 ^ i → v * 10 ≡ n * 10 ^ (i + 1)
raise_step v n i is = ap (λ x. x * 10) is ∙ mul_assoc n (10 ^ i) 10 ∙ ap (λ x. n * x) (sym (pow_next i))

pub lower_step : (v n i : ℕ) → v ≡ n / 10 ^ i → v / 10 ≡ n / 10 ^ (i + 1)
lower_step v n i is = ap (λ x. x / 10) is ∙ div-div-eq-div-mul n (10 ^ i) 10 ∙ ap (λ x. n / x) (sym (pow_next i))

pub raise_over : (v n i p most : ℕ) → v ≡ n * 10 ^ i → i ≤ p → most < v → None ≡ if_at_most most (n * 10 ^ p)
raise_over v n i p most is below over =
    let more : n * 10 ^ i ≤ n * 10 ^ p = mul-le-mul_left n (pow-le-pow_right (omega arith) below) in
    over_all (n * 10 ^ p) (omega arith)
  where
    over_all : (m : ℕ) → most < m → None ≡ if_at_most most m
    over_all m large = grind (arith, nat_tests)

pub ten_positive : (k : ℕ) → 0 < 10 ^ k
ten_positive zero = omega arith
ten_positive (suc k) = rw pow-suc (omega (arith, ten_positive k))

-- ten to a power cancels
pub cancel_up : (n up down : ℕ) → down ≤ up → n * 10 ^ up / 10 ^ down ≡ n * 10 ^ (up - down)
cancel_up n up down below =
    let split : up ≡ (up - down) + down = omega arith in
    ap (λ k. n * 10 ^ k / 10 ^ down) split ∙ ap (λ x. n * x / 10 ^ down) (pow-add 10 (up - down) down) ∙ ap (λ x. x / 10 ^ down) (sym (mul_assoc n (10 ^ (up - down)) (10 ^ down))) ∙ mul-div_left (n * 10 ^ (up - down)) (ten_positive down)

pub cancel_down : (n up down : ℕ) → up ≤ down → n * 10 ^ up / 10 ^ down ≡ n / 10 ^ (down - up)
cancel_down n up down below =
    let split : down ≡ up + (down - up) = omega arith in
    ap (λ k. n * 10 ^ up / 10 ^ k) split ∙ ap (λ x. n * 10 ^ up / x) (pow-add 10 up (down - up)) ∙ ap (λ x. x / (10 ^ up * 10 ^ (down - up))) (mul_comm n (10 ^ up)) ∙ mul-div-mul_left n (10 ^ (down - up)) (ten_positive up)

pub none_above : (most n m : ℕ) → most < n → m ≡ n → None ≡ if_at_most most m
none_above most n m over is = rw is (grind (arith, nat_tests))

pub some_below : (most n m : ℕ) → n ≤ most → m ≡ n → Some n ≡ if_at_most most m
some_below most n m below is = rw is (grind (arith, nat_tests))
