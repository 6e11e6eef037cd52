-- A host's meter as its power is set, and over stretches of time.
use Rattle.std.proofs.Common.{◌≡◌, ℕ, ◌+◌, ◌-◌, ◌*◌, ◌≤◌, ◌==◌, Bool, true, false, cond, [], ◌∷◌, inl, inr, ◌⊎◌, refl, sym, ap, subst, ◌∙◌, arith}
use Rattle.std.proofs.lemmas.List.Sums.{sum_by-cons}
use Rattle.sg_energy.specs.Meter.{Metered, energy_at, with_power}
use Rattle.sg_energy.specs.Laws.{Stretch, Dated, after_one, after_all, energy_now, LazyIsWhole, SetIsPast, SetPowerIsUsed}

spread : (a b c : ℕ) → a * (b + c) ≡ a * b + a * c
spread a b c = omega arith

-- a power is used over both of two spans
two_spans : (power since date later : ℕ) → since ≤ date → date ≤ later → power * (later - since) ≡ power * (date - since) + power * (later - date)
two_spans power since date later h g =
    let e : later - since ≡ (date - since) + (later - date) = omega (arith, h, g) in
    ap (λ n. power * n) e ∙ spread power (date - since) (later - date)

either : (b : Bool) → (b ≡ true) ⊎ (b ≡ false)
either true = inl refl
either false = inr refl

same : (a b : ℕ) → (a == b) ≡ true → a ≡ b
same a b e = grind (arith, e)

abbrev set_to : ℕ → ℕ → Metered → Metered
set_to power date m = record { power = power; since = date; energy = energy_at m date }

-- how with_power goes
with_same : (m : Metered) (power date : ℕ) → (power == m.power) ≡ true → with_power power date m ≡ m
with_same m power date e = ap (λ b. cond b m (set_to power date m)) e

with_other : (m : Metered) (power date : ℕ) → (power == m.power) ≡ false → with_power power date m ≡ set_to power date m
with_other m power date e = ap (λ b. cond b m (set_to power date m)) e

pub set_power_is_used : SetPowerIsUsed
set_power_is_used m power date later h g = elim (either (power == m.power)) [
  | inl e ↦
      ap (λ (n : Metered). energy_at n later) (with_same m power date e)
      ∙ omega (arith, two_spans m.power m.since date later h g, ap (λ n. n * (later - date)) (same power m.power e))
  | inr e ↦ ap (λ (n : Metered). energy_at n later) (with_other m power date e)
]

pub set_is_past : SetIsPast
set_is_past m power date h = elim (either (power == m.power)) [
  | inl e ↦ subst (λ (n : Metered). n.since ≤ date) (sym (with_same m power date e)) h
  | inr e ↦ subst (λ (n : Metered). n.since ≤ date) (sym (with_other m power date e)) (omega arith)
]

-- one stretch
one : (stretch : Stretch) (dated : Dated) → dated.meter.since ≤ dated.date → energy_now (after_one stretch dated) ≡ energy_now dated + stretch.power * stretch.span
one stretch dated h =
    let e : dated.date + stretch.span - dated.date ≡ stretch.span = omega arith in
    set_power_is_used dated.meter stretch.power dated.date (dated.date + stretch.span) h (omega arith)
    ∙ ap (λ n. energy_now dated + stretch.power * n) e

one_past : (stretch : Stretch) (dated : Dated) → dated.meter.since ≤ dated.date → (after_one stretch dated).meter.since ≤ (after_one stretch dated).date
one_past stretch dated h = omega (arith, set_is_past dated.meter stretch.power dated.date h)

pub lazy_is_whole : LazyIsWhole
unfolding after_all
lazy_is_whole [] dated h = omega arith
lazy_is_whole (stretch ∷ rest) dated h =
    lazy_is_whole rest (after_one stretch dated) (one_past stretch dated h)
    ∙ omega (arith, one stretch dated h, sum_by-cons (λ (s : Stretch). s.power * s.span) stretch rest)
