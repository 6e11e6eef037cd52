-- The activity of an id.
use Rattle.std.proofs.Common.{◌≡◌, ◌≢◌, ℕ, zero, suc, ◌+◌, ◌⊎◌, inl, inr, cond, eq-eqb, ne_eqb, Option, None, Some, option_map, option_and_then, List, [], ◌∷◌, refl, sym, ap, ◌∙◌, arith}
use Rattle.sg_activity_table.specs.declared.lives.Live.{Live}
use Rattle.sg_activity_table.specs.Pool.{slot_at, IsMissing}
use Rattle.sg_activity.specs.kept.State.{key_from, told_at}
use Rattle.sg_activity.specs.kept.Sound.{AreApart}
use Rattle.sg_activity.proofs.Listing.{some_same, eq_cases}

found : (slots : List (Option Live)) (first serial k : ℕ) (live : Live) → slot_at slots k ≡ Some live → live.serial ≡ serial → ((j : ℕ) (other : Live) → slot_at slots j ≡ Some other → other.serial ≡ serial → j ≡ k) → key_from first serial slots ≡ Some (first + k)
unfolding key_from
found [] first serial k live at is alone = absurd (cc at)
found (None ∷ rest) first serial zero live at is alone = absurd (cc at)
found (None ∷ rest) first serial (suc k) live at is alone =
    let e : suc first + k ≡ first + suc k = omega arith in
    found rest (suc first) serial k live at is (λ j other a s. omega (arith, alone (suc j) other a s)) ∙ ap Some e
found (Some x ∷ rest) first serial zero live at is alone =
    let e : first ≡ first + 0 = omega arith in
    ap (λ b. cond b (Some first) (key_from (suc first) serial rest)) (eq-eqb x.serial serial (ap (λ (l : Live). l.serial) (some_same at) ∙ is)) ∙ ap Some e
found (Some x ∷ rest) first serial (suc k) live at is alone =
    let e : suc first + k ≡ first + suc k = omega arith in
    ap (λ b. cond b (Some first) (key_from (suc first) serial rest)) (ne_eqb x.serial serial (λ s. absurd (omega (arith, alone 0 x refl s))))
    ∙ found rest (suc first) serial k live at is (λ j other a s. omega (arith, alone (suc j) other a s)) ∙ ap Some e

missed : (slots : List (Option Live)) (first serial : ℕ) → ((k : ℕ) (live : Live) → slot_at slots k ≡ Some live → live.serial ≢ serial) → key_from first serial slots ≡ None
unfolding key_from
missed [] first serial none = refl
missed (None ∷ rest) first serial none = missed rest (suc first) serial (λ k live at. none (suc k) live at)
missed (Some x ∷ rest) first serial none =
    ap (λ b. cond b (Some first) (key_from (suc first) serial rest)) (ne_eqb x.serial serial (none 0 x refl)) ∙ missed rest (suc first) serial (λ k live at. none (suc k) live at)

-- an activity of the id, and its key
pub record Sought (slots : List (Option Live)) (serial : ℕ) : Type 0 where
  pub key : ℕ
  pub live : Live
  pub at : slot_at slots key ≡ Some live
  pub is : live.serial ≡ serial

none_more : (x : Live) (rest : List (Option Live)) (serial : ℕ) → x.serial ≢ serial → IsMissing rest serial → IsMissing (Some x ∷ rest) serial
none_more x rest serial not none zero live at is = not (ap (λ (l : Live). l.serial) (some_same at) ∙ is)
none_more x rest serial not none (suc k) live at is = none k live at is

none_still : (rest : List (Option Live)) (serial : ℕ) → IsMissing rest serial → IsMissing (None ∷ rest) serial
none_still rest serial none zero live at is = absurd (cc at)
none_still rest serial none (suc k) live at is = none k live at is

pub sought : (slots : List (Option Live)) (serial : ℕ) → Sought slots serial ⊎ IsMissing slots serial
sought [] serial = inr (λ k live at. absurd (cc at))
sought (None ∷ rest) serial = elim (sought rest serial) [
  | inl s ↦ inl (record { key = suc s.key; live = s.live; at = s.at; is = s.is })
  | inr none ↦ inr (none_still rest serial none)
]
sought (Some x ∷ rest) serial = elim (eq_cases x.serial serial) [
  | inl e ↦ inl (record { key = 0; live = x; at = refl; is = e })
  | inr ne ↦ elim (sought rest serial) [
    | inl s ↦ inl (record { key = suc s.key; live = s.live; at = s.at; is = s.is })
    | inr none ↦ inr (none_more x rest serial ne none)
  ]
]

module _ {Y : Type 0} (tell : ℕ → Live → Y) (slots : List (Option Live)) where
  pub told_found : (serial k : ℕ) (live : Live) → AreApart slots → slot_at slots k ≡ Some live → live.serial ≡ serial → told_at tell slots serial ≡ Some (tell k live)
  told_found serial k live apart at is =
      let e : 0 + k ≡ k = omega arith in
      ap (option_and_then (λ key. option_map (tell key) (slot_at slots key))) (found slots 0 serial k live at is (λ j other a s. apart j k other live a at (s ∙ sym is)) ∙ ap Some e)
      ∙ ap (option_map (tell k)) at

  pub told_missed : (serial : ℕ) → IsMissing slots serial → told_at tell slots serial ≡ None
  told_missed serial none = ap (option_and_then (λ key. option_map (tell key) (slot_at slots key))) (missed slots 0 serial none)

-- if there is a value for an activity id, there is an activity of it
pub told_from : {Y : Type 0} (tell : ℕ → Live → Y) (slots : List (Option Live)) (serial : ℕ) (y : Y) → AreApart slots → told_at tell slots serial ≡ Some y → (s : Sought slots serial) × (tell s.key s.live ≡ y)
told_from tell slots serial y apart e = elim (sought slots serial) [
  | inl s ↦ (s, some_same (sym (told_found tell slots serial s.key s.live apart s.at s.is) ∙ e))
  | inr none ↦ absurd (cc (sym (told_missed tell slots serial none) ∙ e))
]

pub told_none : {Y : Type 0} (tell : ℕ → Live → Y) (slots : List (Option Live)) (serial : ℕ) → AreApart slots → told_at tell slots serial ≡ None → IsMissing slots serial
told_none tell slots serial apart e = elim (sought slots serial) [
  | inl s ↦ absurd (cc (sym (told_found tell slots serial s.key s.live apart s.at s.is) ∙ e))
  | inr none ↦ none
]

-- the value is the same if each activity of the id has one with the same value in its place
pub told_alike : {Y : Type 0} (tell other : ℕ → Live → Y) (slots others : List (Option Live)) (serial : ℕ) → AreApart slots → AreApart others →
    ((s : Sought slots serial) → (live : Live) × (slot_at others s.key ≡ Some live) × (live.serial ≡ serial) × (other s.key live ≡ tell s.key s.live)) → (Sought others serial → Sought slots serial) →
    told_at other others serial ≡ told_at tell slots serial
told_alike tell other slots others serial apart apart' there back = elim (sought slots serial) [
  | inl s ↦ let r = there s in told_found other others serial s.key r.0 apart' r.1 r.2 ∙ ap Some r.3 ∙ sym (told_found tell slots serial s.key s.live apart s.at s.is)
  | inr none ↦ told_missed other others serial (λ k live at is. let s = back (record { key = k; live = live; at = at; is = is }) in none s.key s.live s.at s.is) ∙ sym (told_missed tell slots serial none)
]
