-- Dates: the next one, the move to it, and what completes then.
use Rattle.std.proofs.Common.{◌≡◌, ◌≢◌, ℕ, zero, suc, ◌+◌, ◌-◌, ◌*◌, ◌==◌, ◌<◌, ◌≤◌, ◌⊎◌, inl, inr, true, false, Option, None, Some, option_map, map, get_or, IsTrue, refl, sym, ap, ap₂, subst, ◌∙◌, arith, true≢false}
use Rattle.std.specs.Option.{IfSome}
use Rattle.std.proofs.Math.Nat.{mul-le-mul_left}
use Rattle.sg_base.specs.MarkSet.{is_in}
use Rattle.sg_heap.specs.Agenda.{Key, IsLeast, IsNoLater, key_at}
use Rattle.sg_activity_table.specs.declared.lives.Live.{Live}
use Rattle.sg_activity_table.specs.Slots.{listed, passes, serials, is_over_after}
use Rattle.sg_activity.specs.Task.{Task}
use Rattle.sg_activity.specs.Underway.{rate, wait, wait_in, next_in, due_in, passed, later}
use Rattle.sg_activity.specs.Doing.{later_in, IsNext, IsUpTo}
use Rattle.sg_activity.specs.kept.Stamps.{left_at}
use Rattle.sg_activity_table.specs.Pool.{IsMissing, slot_at}
use Rattle.sg_activity.specs.kept.State.{State, task_of, stamp_of, date_of, dated, due_at, is_dated, is_now, is_so, told_at, told_by, under_of, doing_of}
use Rattle.sg_activity.specs.kept.Sound.{IsKept}
use Rattle.sg_activity_table.proofs.Listed.{length-listed, at_listed, past_listed, same_listed}
use Rattle.sg_activity.proofs.Listing.{eq_cases, some_same, serials_alike, soonest_none, soonest_is, up_to_each, map_listed}
use Rattle.sg_activity.proofs.Lookup.{Sought, sought, told_found, told_missed, told_from}
use Rattle.sg_activity.proofs.Pairing.{there_within}
use Rattle.sg_activity.proofs.Rates.{rate_told, wait_told, task_there}
use Rattle.sg_activity.proofs.Stamps.{IsWait, is_wait, left_steps_lem, due_stays_by, wait_by_some}
use Rattle.sg_activity.proofs.Told.{doing_same}

less_or : (i n : ℕ) → (i < n) ⊎ (n ≤ i)
less_or i n = grind arith

wait_small : (rate left span : ℕ) → wait rate left ≡ Some span → span ≤ left
wait_small rate left span e = go rate span (is_wait rate left span e)
  where
    times : (a b c : ℕ) → b ≤ c → a * b ≤ a * c
    times a b c le = mul-le-mul_left a le

    one : (b : ℕ) → b * 1 ≡ b
    one b = omega arith

    turn : (a b : ℕ) → a * b ≡ b * a
    turn a b = omega arith

    none : (b : ℕ) → 0 * b ≡ 0
    none b = omega arith

    go : (rate span : ℕ) → IsWait rate left span → span ≤ left
    go zero span h = elim (less_or 0 span) [
      | inl some ↦ absurd (omega (arith, h.short 0 some, h.enough, none span))
      | inr small ↦ omega (arith, small)
    ]
    go (suc r) span h = elim (less_or 0 span) [
      | inl some ↦ omega (arith, some, h.short (span - 1) (omega (arith, some)), times (span - 1) 1 (suc r) (omega arith), one (span - 1), turn (span - 1) (suc r))
      | inr small ↦ omega (arith, small)
    ]

module _ (s : State) (is : IsKept s) (set : IsTrue s.settled) where
  -- once the rates are up to date each activity has its date in the agenda
  dated_all : (key : ℕ) (live : Live) → slot_at s.slots key ≡ Some live → key_at s.keys key ≡ date_of live
  dated_all key live at = (is.each key live at).dated ∙ ap (λ l. dated l key live) (is.none_fresh set)

  due_now : (key : ℕ) (live : Live) → slot_at s.slots key ≡ Some live → due_at live ≡ option_map (λ span. s.date + span) (wait_in (under_of s) (task_of s key live))
  due_now key live at =
      let h = is.each key live at in
      due_stays_by live.kind live.kept live.rate live.stamp s.date h.stamped h.in_time
      ∙ ap (option_map (λ span. s.date + span)) (sym (wait_told s is set key live at))

  key_now : (key : ℕ) (live : Live) → slot_at s.slots key ≡ Some live → key_at s.keys key ≡ option_map (λ due. record { date = due; serial = live.serial }) (option_map (λ span. s.date + span) (wait_in (under_of s) (task_of s key live)))
  key_now key live at = dated_all key live at ∙ ap (option_map (λ due. record { date = due; serial = live.serial })) (due_now key live at)

  -- the activity of a phase, by the place of its id
  live_of : (i : ℕ) (t : Task) → get_or (under_of s).tasks i None ≡ Some t → (f : Sought s.slots (i + 1)) × (task_of s f.key f.live ≡ t)
  live_of i t e =
      let less : i < s.drawn = omega (arith, there_within (under_of s).tasks i t e, length-listed s.drawn (λ j. told_at (task_of s) s.slots (j + 1))) in
      told_from (task_of s) s.slots (i + 1) t is.apart (sym (at_listed s.drawn (λ j. told_at (task_of s) s.slots (j + 1)) i None less) ∙ e)

  -- ---- the next date
  pub none_next : ((slot : ℕ) → key_at s.keys slot ≡ None) → next_in (under_of s) ≡ None
  none_next none = soonest_none (wait_in (under_of s)) (under_of s).tasks (λ i t e.
      let f = live_of i t e in
      ap (wait_in (under_of s)) (sym f.1) ∙ never f.0.live.serial (wait_in (under_of s) (task_of s f.0.key f.0.live)) (sym (key_now f.0.key f.0.live f.0.at) ∙ none f.0.key))
    where
      never : (n : ℕ) (o : Option ℕ) → option_map {U = Key} (λ due. record { date = due; serial = n }) (option_map (λ span. s.date + span) o) ≡ None → o ≡ None
      never n None e = refl
      never n (Some x) e = absurd (cc e)

  spans : (serial : ℕ) (o : Option ℕ) (key : Key) → option_map (λ due. record { date = due; serial = serial }) (option_map (λ span. s.date + span) o) ≡ Some key → (span : ℕ) × (o ≡ Some span) × (s.date + span ≡ key.date) × (serial ≡ key.serial)
  spans serial None key e = absurd (cc e)
  spans serial (Some span) key e = (span, refl, ap (λ (k : Key). k.date) (some_same e), ap (λ (k : Key). k.serial) (some_same e))

  live_at_key : (slot : ℕ) (key : Key) → key_at s.keys slot ≡ Some key → (live : Live) × (slot_at s.slots slot ≡ Some live)
  live_at_key slot key e = go (slot_at s.slots slot) refl
    where
      go : (o : Option Live) → slot_at s.slots slot ≡ o → (live : Live) × (slot_at s.slots slot ≡ Some live)
      go None none = absurd (cc (sym (is.idle slot none) ∙ e))
      go (Some live) at = (live, at)

  no_later : (key its : Key) → IsNoLater key its → key.date ≤ its.date
  no_later key its (inl less) = omega (arith, less)
  no_later key its (inr same) = omega (arith, same.0)

  pub next_told : (slot room : ℕ) (key : Key) → IsLeast s.keys slot key → IsNext (doing_of s room) key.date
  next_told slot room key least =
      let l = live_at_key slot key least.there in
      let live = l.0 in
      let h = is.each slot live l.1 in
      let w = spans live.serial (wait_in (under_of s) (task_of s slot live)) key (sym (key_now slot live l.1) ∙ least.there) in
      let span : w.0 ≡ key.date - s.date = omega (arith, w.2) in
      let back : live.serial - 1 + 1 ≡ live.serial = omega (arith, h.from) in
      let small : w.0 ≤ left_at live.kept live.rate live.stamp s.date = wait_small live.rate (left_at live.kept live.rate live.stamp s.date) w.0 (wait_by_some live.kind (wait live.rate (left_at live.kept live.rate live.stamp s.date)) w.0 (sym (wait_told s is set slot live l.1) ∙ w.1)) in
      record {
        from = omega (arith, w.2);
        in_time = soonest_is (wait_in (under_of s)) (under_of s).tasks (live.serial - 1) w.0 (task_of s slot live) (task_there s is slot live l.1) w.1
            (λ i t m e v.
            let f = live_of i t e in
            let its : key_at s.keys f.0.key ≡ Some (record { date = s.date + m; serial = f.0.live.serial }) =
            key_now f.0.key f.0.live f.0.at ∙ ap (λ o. option_map (λ due. record { date = due; serial = f.0.live.serial }) (option_map (λ span. s.date + span) o)) (ap (wait_in (under_of s)) f.1 ∙ v) in
            omega (arith, no_later key (record { date = s.date + m; serial = f.0.live.serial }) (least.least f.0.key (record { date = s.date + m; serial = f.0.live.serial }) its), w.2))
            ∙ ap Some span;
        soon = omega (arith, w.2, small, h.small);
      }

  -- ---- going to a date
  module _ (date : ℕ) (from : s.date ≤ date) (upto : IsUpTo (date - s.date) (next_in (under_of s))) where
    abbrev span : ℕ
    span = date - s.date

    not_past : (o : Option ℕ) → IsUpTo span o → IfSome (option_map (λ w. s.date + w) o) (λ due. date ≤ due)
    not_past None h = tt
    not_past (Some w) h = omega (arith, h, from)

    pub gone_kept : IsKept (record s { date = date; arrived = true })
    gone_kept = record {
      each = λ key live at.
          let h = is.each key live at in
          record {
            from = h.from;
            to = h.to;
            stamped = omega (arith, h.stamped, from);
            in_time = subst (λ o. IfSome o (λ due. date ≤ due)) (sym (due_now key live at))
                (not_past (wait_in (under_of s) (task_of s key live)) (up_to_each (wait_in (under_of s)) (under_of s).tasks span (live.serial - 1) (task_of s key live) upto (task_there s is key live at)));
            small = h.small;
            few_bytes = h.few_bytes;
            weighs = h.weighs;
            paced = h.paced;
            placed = h.placed;
            fits = h.fits;
            counted = h.counted;
            flow = λ full. let f = h.flow full in record { marked = f.marked; runs = f.runs; limit = f.limit; within = f.within; known = f.known };
            dated = h.dated;
          };
      idle = is.idle;
      apart = is.apart;
      back = λ id running e. let b = is.back id running e in record { live = b.live; there = b.there; full = b.full; is = b.is };
      fresh = is.fresh;
      fresh_now = λ key live at marked. absurd (true≢false (sym marked ∙ ap (is_in key) (is.none_fresh set)));
      none_fresh = is.none_fresh;
      rates = is.rates;
    }

    task_gone : (serial : ℕ) → told_at (task_of (record s { date = date; arrived = true })) s.slots serial ≡ option_map (passed (under_of s) span) (told_at (task_of s) s.slots serial)
    task_gone serial = elim (sought s.slots serial) [
      | inl f ↦
          let h = is.each f.key f.live f.at in
          told_found (task_of (record s { date = date; arrived = true })) s.slots serial f.key f.live is.apart f.at f.is
          ∙ ap (λ n. Some (record (task_of s f.key f.live) { left = n }))
          (left_steps_lem f.live.kept f.live.rate f.live.stamp s.date date h.stamped from ∙ ap (λ r. left_at f.live.kept f.live.rate f.live.stamp s.date - r * span) (sym (rate_told s is set f.key f.live f.at)))
          ∙ sym (ap (option_map (passed (under_of s) span)) (told_found (task_of s) s.slots serial f.key f.live is.apart f.at f.is))
      | inr none ↦ told_missed (task_of (record s { date = date; arrived = true })) s.slots serial none ∙ sym (ap (option_map (passed (under_of s) span)) (told_missed (task_of s) s.slots serial none))
    ]

    at_date : (serial : ℕ) (o : Option ℕ) → is_dated date (option_map (λ due. record { date = due; serial = serial }) (option_map (λ w. s.date + w) o)) ≡ is_over_after o span
    at_date serial None = refl
    at_date serial (Some w) = same w
      where
        same : (w : ℕ) → (s.date + w == date) ≡ (w == date - s.date)
        same w = elim (eq_cases w (date - s.date)) [
          | inl e ↦ eqb_yes (s.date + w) date (omega (arith, e, from)) ∙ sym (eqb_yes w (date - s.date) e)
          | inr ne ↦ eqb_no (s.date + w) date (λ e. ne (omega (arith, e))) ∙ sym (eqb_no w (date - s.date) ne)
        ]
          where
            eqb_yes : (a b : ℕ) → a ≡ b → (a == b) ≡ true
            eqb_yes a b e = grind arith

            eqb_no : (a b : ℕ) → a ≢ b → (a == b) ≡ false
            eqb_no a b ne = grind arith

    due_there : (i : ℕ) → (i < s.drawn) ⊎ (s.drawn ≤ i) →
        passes is_so (get_or (told_by (is_now (record s { date = date; arrived = true })) (record s { date = date; arrived = true })) i None) ≡ passes (λ t. is_over_after (wait_in (under_of s) t) span) (get_or (under_of s).tasks i None)
    due_there i (inr more) =
        ap (passes is_so) (past_listed s.drawn (λ j. told_at (is_now (record s { date = date; arrived = true })) s.slots (j + 1)) i None more)
        ∙ sym (ap (passes (λ t. is_over_after (wait_in (under_of s) t) span)) (past_listed s.drawn (λ j. told_at (task_of s) s.slots (j + 1)) i None more))
    due_there i (inl less) =
        let new = record s { date = date; arrived = true } in
        ap (passes is_so) (at_listed s.drawn (λ j. told_at (is_now new) s.slots (j + 1)) i None less)
        ∙ at_serial (sought s.slots (i + 1))
        ∙ sym (ap (passes (λ t. is_over_after (wait_in (under_of s) t) span)) (at_listed s.drawn (λ j. told_at (task_of s) s.slots (j + 1)) i None less))
      where
        at_serial : Sought s.slots (i + 1) ⊎ IsMissing s.slots (i + 1) → passes is_so (told_at (is_now (record s { date = date; arrived = true })) s.slots (i + 1)) ≡ passes (λ t. is_over_after (wait_in (under_of s) t) span) (told_at (task_of s) s.slots (i + 1))
        at_serial (inl f) =
            ap (passes is_so) (told_found (is_now (record s { date = date; arrived = true })) s.slots (i + 1) f.key f.live is.apart f.at f.is)
            ∙ ap (is_dated date) (key_now f.key f.live f.at) ∙ at_date f.live.serial (wait_in (under_of s) (task_of s f.key f.live))
            ∙ sym (ap (passes (λ t. is_over_after (wait_in (under_of s) t) span)) (told_found (task_of s) s.slots (i + 1) f.key f.live is.apart f.at f.is))
        at_serial (inr none) =
            ap (passes is_so) (told_missed (is_now (record s { date = date; arrived = true })) s.slots (i + 1) none)
            ∙ sym (ap (passes (λ t. is_over_after (wait_in (under_of s) t) span)) (told_missed (task_of s) s.slots (i + 1) none))

    pub gone_told : (room : ℕ) → doing_of (record s { date = date; arrived = true }) room ≡ later_in (date - s.date) (doing_of s room)
    unfolding listed
    gone_told room =
        let new = record s { date = date; arrived = true } in
        let u = under_of s in
        let tasks : told_by (task_of new) new ≡ map (option_map (passed u span)) u.tasks =
        same_listed s.drawn (λ j. told_at (task_of new) s.slots (j + 1)) (λ j. option_map (passed u span) (told_at (task_of s) s.slots (j + 1))) (λ j less. task_gone (j + 1))
        ∙ sym (map_listed s.drawn (option_map (passed u span)) (λ j. told_at (task_of s) s.slots (j + 1))) in
        let when : date ≡ s.date + (date - s.date) = omega (arith, from) in
        doing_same (under_of new) (later (date - s.date) u) (serials is_so 1 (told_by (is_now new) new)) (due_in (date - s.date) u) s.settled s.settled room room (told_by stamp_of new) (told_by stamp_of s)
        (ap₂ (λ d t. record u { date = d; tasks = t }) when tasks)
        (serials_alike is_so (λ t. is_over_after (wait_in u t) span) 1 (told_by (is_now new) new) u.tasks (length-listed s.drawn (λ j. told_at (is_now new) s.slots (j + 1)) ∙ sym (length-listed s.drawn (λ j. told_at (task_of s) s.slots (j + 1)))) (λ i. due_there i (less_or i s.drawn)))
        refl refl refl
