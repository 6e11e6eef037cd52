-- The next entry of a profile is later.
use Rattle.std.proofs.Common.{◌≡◌, ℕ, ◌+◌, ◌-◌, ◌*◌, ◌<◌, ◌≤◌, ◌==◌, ◌^◌, Bool, true, false, cond, Option, None, Some, length, option_map, slice_get, slice_index, IfSome, refl, sym, ap, subst, ◌∙◌, eqb-true, arith}
use Rattle.std.specs.Option.{option_map_or}
use Rattle.std.proofs.lemmas.Option.{get_or_from_slice_get, slice_get_within}
use Rattle.sg_profile.specs.declared.turn.Turn.{Turn}
use Rattle.sg_profile.specs.Laws.{EntriesRise}
use Rattle.sg_profile.specs.declared.profile.Profile.{Profile}
use Rattle.sg_profile.specs.Profiles.{IsSchedule, next_entry_date, turn_time}
use Rattle.sg_profile.proofs.Cases.{turn_over}

mapped : (k : ℕ) (o : Option ℕ) (a : ℕ) → option_map (λ date. k + date) o ≡ Some a → (x : ℕ) × ((o ≡ Some x) × (a ≡ k + x))
mapped k None a e = absurd (cc e)
mapped k (Some x) a e = (x, (refl, cc e))

-- A date of its turn is left, and this is it.
pub record IsLeftAt (profile : Profile) (turn : Turn) (date : ℕ) : Type 0 where
  pub within : turn.entry < length profile.dates
  pub date_is : date ≡ turn.number * turn_time profile + slice_index profile.dates turn.entry

pub date_left : (profile : Profile) (turn : Turn) (date : ℕ) → next_entry_date profile turn ≡ Some date → IsLeftAt profile turn date
date_left profile turn date e =
    let m = mapped (turn.number * turn_time profile) (slice_get profile.dates turn.entry) date e in
    record {
      within = slice_get_within profile.dates turn.entry m.0 m.1.0;
      date_is = m.1.1 ∙ ap (λ (x : ℕ). turn.number * turn_time profile + x) (sym (get_or_from_slice_get profile.dates turn.entry m.0 0 m.1.0));
    }

one_more : (n t : ℕ) → (n + 1) * t ≡ n * t + t
one_more n t = omega arith

-- the time of a turn, if another one follows
pub time_is : (profile : Profile) (gap : ℕ) → profile.gap ≡ Some gap → turn_time profile ≡ slice_index profile.dates (length profile.dates - 1) + gap
time_is profile gap some = ap (λ (o : Option ℕ). option_map_or (λ gap. slice_index profile.dates (length profile.dates - 1) + gap) o 0) some

pub gap_wide : (profile : Profile) (gap : ℕ) → IsSchedule profile → profile.gap ≡ Some gap → (1 ≤ gap) × (gap ≤ 10 ^ 18)
gap_wide profile gap is some = subst (λ (o : Option ℕ). IfSome o (λ gap. (1 ≤ gap) × (gap ≤ 10 ^ 18))) some is.gap

pub date_small : (profile : Profile) (i : ℕ) → IsSchedule profile → i < length profile.dates → slice_index profile.dates i ≤ 10 ^ 18
date_small profile i is within = is.dates i 0 within

pub entries_rise : EntriesRise
entries_rise p t a b is at next = by (t.entry + 1 == length p.dates) refl
  where
    here : IsLeftAt p t a
    here = date_left p t a at

    turn_by : Bool → Turn
    turn_by c = cond c (turn_over p.gap t) (record t { entry = t.entry + 1 })

    over : (g : Option ℕ) → p.gap ≡ g → t.entry + 1 ≡ length p.dates → next_entry_date p (turn_over g t) ≡ Some b → (a < b) × (b ≤ a + 2 * 10 ^ 18)
    over None none ends there =
        let left : IsLeftAt p (record t { entry = t.entry + 1 }) b = date_left p (record t { entry = t.entry + 1 }) b there in
        absurd (omega (arith, ends, left.within))
    over (Some gap) some ends there =
        let left : IsLeftAt p (record { number = t.number + 1; entry = 0 }) b = date_left p (record { number = t.number + 1; entry = 0 }) b there in
        let place : length p.dates - 1 ≡ t.entry = omega (arith, ends) in
        let last : slice_index p.dates (length p.dates - 1) ≡ slice_index p.dates t.entry = ap (λ (i : ℕ). slice_index p.dates i) place in
        let time = time_is p gap some in
        let wide = gap_wide p gap is some in
        let first = date_small p 0 is left.within in
        let more = one_more t.number (turn_time p) in
        (omega (arith, here.date_is, left.date_is, last, time, wide.0, more), omega (arith, here.date_is, left.date_is, last, time, wide.1, first, more))

    by : (c : Bool) → (t.entry + 1 == length p.dates) ≡ c → (a < b) × (b ≤ a + 2 * 10 ^ 18)
    by true e = over p.gap refl (eqb-true (t.entry + 1) (length p.dates) e) (subst (λ (c : Bool). next_entry_date p (turn_by c) ≡ Some b) e next)
    by false e =
        let left : IsLeftAt p (record t { entry = t.entry + 1 }) b = date_left p (record t { entry = t.entry + 1 }) b (subst (λ (c : Bool). next_entry_date p (turn_by c) ≡ Some b) e next) in
        let less : slice_index p.dates t.entry < slice_index p.dates (t.entry + 1) = is.rising t.entry left.within in
        let small = date_small p (t.entry + 1) is left.within in
        (omega (arith, here.date_is, left.date_is, less), omega (arith, here.date_is, left.date_is, small))
