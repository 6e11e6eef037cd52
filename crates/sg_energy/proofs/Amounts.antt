-- Whole joules and a rest, over seconds and what is below one: nothing is lost.
use Rattle.std.proofs.Common.{◌≡◌, ℕ, ◌+◌, ◌*◌, ◌/◌, ◌%◌, ◌^◌, ap, ◌∙◌, arith}

-- a power over whole seconds and over the rest of a span
split_span : (power span : ℕ) → power * span ≡ power * (span / 1000000000) * 1000000000 + power * (span % 1000000000)
split_span power span =
    let e : span ≡ span / 1000000000 * 1000000000 + span % 1000000000 = omega arith in
    ap (λ n. power * n) e ∙ parts power (span / 1000000000) (span % 1000000000)
  where
    parts : (p a b : ℕ) → p * (a * 1000000000 + b) ≡ p * a * 1000000000 + p * b
    parts p a b = omega arith

-- a joule is 1,000 thousandths of 10^9 milliwatt-nanoseconds each
gathered : (joules millijoules rest : ℕ) → (joules + millijoules / 1000 + rest / 1000000000000) * 10 ^ 12 + rest % 1000000000000 ≡ joules * 10 ^ 12 + millijoules / 1000 * 10 ^ 12 + rest
gathered joules millijoules rest = omega arith

thousands : (millijoules : ℕ) → millijoules / 1000 * 10 ^ 12 + millijoules % 1000 * 1000000000 ≡ millijoules * 1000000000
thousands millijoules = omega arith

-- The energy that was there and that of a span, in whole joules and a rest.
pub energy_grows : (joules rest power span millijoules sum : ℕ) → millijoules ≡ power * (span / 1000000000)
    → sum ≡ rest + millijoules % 1000 * 1000000000 + power * (span % 1000000000)
    → (joules + millijoules / 1000 + sum / 1000000000000) * 10 ^ 12 + sum % 1000000000000 ≡ joules * 10 ^ 12 + rest + power * span
energy_grows joules rest power span millijoules sum m s =
    omega (arith, gathered joules millijoules sum, thousands millijoules, split_span power span, ap (λ n. n * 1000000000) m, m, s)
