-- The rates are brought up to date: all stays consistent, and what remains of each activity is as before.
use Rattle.std.proofs.Common.{◌≡◌, ℕ, zero, suc, map, replicate, option_and_then, ◌+◌, ◌-◌, ◌*◌, ◌==◌, ◌^◌, ◌<◌, ◌⊎◌, inl, inr, Bool, true, false, not, cond, ◌||◌, ◌&&◌, true≢false, Option, None, Some, option_map, List, [], ◌∷◌, length, get_or, slice_index, sum_by, All, IsTrue, IsSome, refl, sym, ap, ap₂, subst, ◌∙◌, arith, ◌≢◌}
use Rattle.sg_base.specs.declared.ids.LinkId.{LinkId}
use Rattle.sg_base.specs.MarkSet.{MarkSet, is_in}
use Rattle.sg_heap.specs.Agenda.{Key, key_at}
use Rattle.sg_maxmin.specs.Fill.{share_of}
use Rattle.sg_lazy.specs.Lazily.{Lazily, IsSettled, DidChange}
use Rattle.sg_lazy.specs.RunningFlow.{RunningFlow, running_at, flow_under, flows_in}
use Rattle.sg_activity_table.specs.declared.lives.Live.{Live}
use Rattle.sg_activity.specs.Links.{capacities_of}
use Rattle.sg_activity.specs.Task.{Task}
use Rattle.sg_activity_table.specs.Kinds.{takes_share}
use Rattle.sg_activity.specs.Stamp.{Stamp, rerated, rerated_at, all_rerated}
use Rattle.sg_activity.specs.Underway.{Underway, rate, with_rates_updated}
use Rattle.sg_activity.specs.Doing.{settled_in}
use Rattle.sg_activity.specs.kept.Stamps.{left_at}
use Rattle.sg_activity_table.specs.Pool.{Pool, slot_at}
use Rattle.sg_activity.specs.kept.State.{State, links_at, task_from, task_of, stamp_of, asked_by, date_of, is_so, key_from, is_marked, told_at, told_by, changed_at, changed_by, under_of, doing_of}
use Rattle.sg_activity.specs.kept.Sound.{IsHeld, AreApart, IsKept, slot_ahead, slot_uses, run_of}
use Rattle.sg_activity.specs.kept.Renewal.{IsKeyed, HaveKeys, rate_in, is_among, restamped, is_renewed, AreRestamped, AreSmall, date_in}
use Rattle.sg_activity_table.proofs.Listed.{length-listed, same_listed}
use Rattle.sg_activity.proofs.Listing.{eq_cases, some_same}
use Rattle.sg_activity_table.specs.Slots.{listed, passes}
use Rattle.sg_activity.proofs.Stamps.{fresh_in_time}
use Rattle.sg_activity.proofs.Lookup.{Sought, sought, told_alike, told_found, told_missed}
use Rattle.sg_activity_table.specs.Pool.{IsMissing}
use Rattle.sg_activity.proofs.Rates.{rate_told, task_missed}
use Rattle.sg_activity.proofs.Stamping.{is_another, is_same, rerated_there}
use Rattle.std.proofs.lemmas.List.{get_or_default}
use Rattle.sg_activity.proofs.Pairing.{sum_alike}
use Rattle.sg_activity.proofs.Told.{member_at, doing_same, made_same}

mapped_false : (n : ℕ) (f : ℕ → Option Bool) → ((i : ℕ) → passes is_so (f i) ≡ false) → map (passes is_so) (listed n f) ≡ replicate n false
unfolding listed
mapped_false zero f h = refl
mapped_false (suc n) f h = ap₂ (λ b l. b ∷ l) (h 0) (mapped_false n (λ i. f (suc i)) (λ i. h (suc i)))

-- an activity that was there before it was restamped, and which of the two it is
pub record WasStamped (flows : List ℕ) (runs : List (Option RunningFlow)) (date : ℕ) (slots : List (Option Live)) (key : ℕ) (live : Live) : Type 0 where
  pub old : Live
  pub there : slot_at slots key ≡ Some old
  pub which : (is_among flows old ≡ true) × (live ≡ record old { kept = left_at old.kept old.rate old.stamp date; stamp = date; rate = rate_in (running_at runs old.flow) }) ⊎ (is_among flows old ≡ false) × (live ≡ old)

pub was_stamped : (flows : List ℕ) (runs : List (Option RunningFlow)) (date : ℕ) (slots : List (Option Live)) (key : ℕ) (live : Live) → option_map (restamped flows runs date) (slot_at slots key) ≡ Some live → WasStamped flows runs date slots key live
was_stamped flows runs date slots key live e = go (slot_at slots key) refl e
  where
    go : (o : Option Live) → slot_at slots key ≡ o → option_map (restamped flows runs date) o ≡ Some live → WasStamped flows runs date slots key live
    go None at z = absurd (cc z)
    go (Some old) at z = record { old = old; there = at; which = cases (is_among flows old) refl (some_same z) }
      where
        cases : (b : Bool) → is_among flows old ≡ b → cond b (record old { kept = left_at old.kept old.rate old.stamp date; stamp = date; rate = rate_in (running_at runs old.flow) }) old ≡ live →
            (is_among flows old ≡ true) × (live ≡ record old { kept = left_at old.kept old.rate old.stamp date; stamp = date; rate = rate_in (running_at runs old.flow) }) ⊎ (is_among flows old ≡ false) × (live ≡ old)
        cases true b w = inl (b, sym w)
        cases false b w = inr (b, sym w)

among_full : (flows : List ℕ) (live : Live) → is_among flows live ≡ true → (takes_share live.kind ≡ true) × (is_in live.flow flows ≡ true)
among_full flows live e = go (takes_share live.kind) (is_in live.flow flows) e
  where
    go : (a b : Bool) → (a && b) ≡ true → (a ≡ true) × (b ≡ true)
    go true true z = (refl, refl)
    go true false z = absurd (true≢false (sym z))
    go false b z = absurd (true≢false (sym z))

not_among : (flows : List ℕ) (live : Live) → takes_share live.kind ≡ true → is_among flows live ≡ false → is_in live.flow flows ≡ false
not_among flows live full e = ap (λ b. b && is_in live.flow flows) (sym full) ∙ e

pub serial_stamped : (flows : List ℕ) (runs : List (Option RunningFlow)) (date : ℕ) (live : Live) → (restamped flows runs date live).serial ≡ live.serial
serial_stamped flows runs date live = go (is_among flows live)
  where
    go : (b : Bool) → (cond b (record live { kept = left_at live.kept live.rate live.stamp date; stamp = date; rate = rate_in (running_at runs live.flow) }) live).serial ≡ live.serial
    go true = refl
    go false = refl

pub neither : (a b : Bool) → (a || b) ≡ false → (a ≡ false) × (b ≡ false)
neither true b e = absurd (true≢false e)
neither false b e = (refl, e)

-- a flow that runs as before, and isn't among the changed, keeps its rate and had begun before
kept_rate : (old new : Lazily) (id : ℕ) (was now : RunningFlow) → IsSettled old new → running_at old.slots id ≡ Some was → running_at new.slots id ≡ Some now → is_in id new.changed ≡ false → now.rate ≡ was.rate
kept_rate old new id was now by a b not = elim (eq_cases now.rate was.rate) [
  | inl e ↦ e
  | inr ne ↦ absurd (true≢false (sym ((by.changes id).1 (subst (λ o. DidChange o (running_at new.slots id)) (sym a) (subst (λ o. DidChange (Some was) o) (sym b) (inr ne)))) ∙ not))
]

module _ (s : State) (lazy new : Lazily) (pool : Pool) (marks : MarkSet) (keys : List (Option Key)) (is : IsKept s) (runs : lazy.slots ≡ s.runs) (caps : lazy.capacities ≡ capacities_of s.capacities) (by : IsSettled lazy new)
    (fresh : marks.members ≡ s.fresh) (old : Pool) (slots : old.slots ≡ s.slots) (stamped : AreRestamped old pool new s.date)
    (dated : (key : ℕ) → key_at keys key ≡ cond (is_in key marks.members || is_renewed new.changed (slot_at old.slots key)) (date_in (slot_at pool.slots key)) (key_at s.keys key)) where
  abbrev pub settled_state : State
  settled_state = record s { slots = pool.slots; keys = keys; runs = new.slots; fresh = []; ended = new.ended; resources = new.resources; settled = true; arrived = false }

  was_at : (key : ℕ) (live : Live) → slot_at pool.slots key ≡ Some live → WasStamped new.changed new.slots s.date s.slots key live
  was_at key live at = was_stamped new.changed new.slots s.date s.slots key live (ap (λ l. option_map (restamped new.changed new.slots s.date) (slot_at l key)) (sym slots) ∙ sym (stamped.slots key) ∙ at)

  -- the flow under a number, before and after
  runs_now : (id : ℕ) (r : RunningFlow) → running_at s.runs id ≡ Some r → (q : RunningFlow) × (running_at new.slots id ≡ Some q) × (q.flow ≡ r.flow) × (q.began ≡ false) × (q.marked ≡ false)
  runs_now id r e = go (running_at new.slots id) refl
    where
      under : flow_under new.slots id ≡ Some r.flow
      under = by.flows id ∙ ap (λ l. flow_under l id) runs ∙ ap (option_map (λ (q : RunningFlow). q.flow)) e

      go : (o : Option RunningFlow) → running_at new.slots id ≡ o → (q : RunningFlow) × (running_at new.slots id ≡ Some q) × (q.flow ≡ r.flow) × (q.began ≡ false) × (q.marked ≡ false)
      go None z = absurd (cc (sym under ∙ ap (option_map (λ (q : RunningFlow). q.flow)) z))
      go (Some q) z = (q, z, some_same (sym (ap (option_map (λ (p : RunningFlow). p.flow)) z) ∙ under), by.settled id q z, by.unmarked id q z)

  ran_before : (id : ℕ) (q : RunningFlow) → running_at new.slots id ≡ Some q → (r : RunningFlow) × (running_at s.runs id ≡ Some r)
  ran_before id q e = go (running_at s.runs id) refl
    where
      go : (o : Option RunningFlow) → running_at s.runs id ≡ o → (r : RunningFlow) × (running_at s.runs id ≡ Some r)
      go (Some r) z = (r, z)
      go None z = absurd (cc (sym (ap (option_map (λ (q : RunningFlow). q.flow)) e) ∙ by.flows id ∙ ap (λ l. flow_under l id) runs ∙ ap (option_map (λ (q : RunningFlow). q.flow)) z))

  -- as a flow runs that isn't marked
  same_run : (key : ℕ) (live : Live) (q : RunningFlow) (n : ℕ) → q.flow ≡ asked_by s key live → q.rate ≡ n → q.began ≡ false → q.marked ≡ false →
      Some q ≡ Some (record { flow = asked_by s key live; rate = n; began = false; marked = false })
  same_run key live q n a b c d =
      ap (λ x. Some (record { flow = x; rate = q.rate; began = q.began; marked = q.marked })) a ∙ ap (λ x. Some (record { flow = asked_by s key live; rate = x; began = q.began; marked = q.marked })) b
      ∙ ap₂ (λ x m. Some (record { flow = asked_by s key live; rate = n; began = x; marked = m })) c d

  date_there : (key : ℕ) (live : Live) (w : WasStamped new.changed new.slots s.date s.slots key live) → slot_at pool.slots key ≡ Some live → key_at keys key ≡ date_of live
  date_there key live w at = dated key ∙ go (is_in key marks.members || is_renewed new.changed (slot_at old.slots key)) refl
    where
      go : (b : Bool) → (is_in key marks.members || is_renewed new.changed (slot_at old.slots key)) ≡ b → cond b (date_in (slot_at pool.slots key)) (key_at s.keys key) ≡ date_of live
      go true e = ap date_in at
      go false e =
          let both = neither (is_in key marks.members) (is_renewed new.changed (slot_at old.slots key)) e in
          let stale : is_in key s.fresh ≡ false = ap (is_in key) (sym fresh) ∙ both.0 in
          let same : live ≡ w.old = elim w.which [
            | inl c ↦ absurd (true≢false (sym c.0 ∙ ap (is_renewed new.changed) (sym (ap (λ l. slot_at l key) slots ∙ w.there)) ∙ both.1))
            | inr c ↦ c.1
          ] in
          (is.each key w.old w.there).dated ∙ ap (λ b. cond b None (date_of w.old)) stale ∙ ap date_of (sym same)

  each : (key : ℕ) (live : Live) → slot_at pool.slots key ≡ Some live → IsHeld settled_state key live
  each key live at = go (was_at key live at)
    where
      go : WasStamped new.changed new.slots s.date s.slots key live → IsHeld settled_state key live
      go w = elim w.which [
        | inl c ↦
            let h = is.each key w.old w.there in
            let full = among_full new.changed w.old c.0 in
            subst (IsHeld settled_state key) (sym c.1) (record {
              from = h.from;
              to = h.to;
              stamped = omega arith;
              in_time = fresh_in_time w.old.kind s.date (rate_in (running_at new.slots w.old.flow)) (left_at w.old.kept w.old.rate w.old.stamp s.date);
              small = omega (arith, h.small);
              few_bytes = h.few_bytes;
              weighs = h.weighs;
              paced = λ empty. absurd (true≢false (sym full.0 ∙ empty));
              placed = h.placed;
              fits = h.fits;
              counted = h.counted;
              flow = λ _.
                  let has = h.flow full.0 in
                  let r = runs_now w.old.flow (run_of s key w.old has.marked) has.runs in
                  record {
                    marked = false;
                    runs = r.1 ∙ same_run key w.old r.0 (rate_in (running_at new.slots w.old.flow)) r.2 (ap rate_in (sym r.1)) r.3 r.4;
                    limit = has.limit;
                    within = has.within;
                    known = has.known;
                  };
              dated = date_there key (record w.old { kept = left_at w.old.kept w.old.rate w.old.stamp s.date; stamp = s.date; rate = rate_in (running_at new.slots w.old.flow) })
                  (record { old = w.old; there = w.there; which = inl (c.0, refl) }) (at ∙ ap Some c.1);
            })
        | inr c ↦
            let h = is.each key w.old w.there in
            subst (IsHeld settled_state key) (sym c.1) (record {
              from = h.from;
              to = h.to;
              stamped = h.stamped;
              in_time = h.in_time;
              small = h.small;
              few_bytes = h.few_bytes;
              weighs = h.weighs;
              paced = h.paced;
              placed = h.placed;
              fits = h.fits;
              counted = h.counted;
              flow = λ full.
                  let has = h.flow full in
                  let r = runs_now w.old.flow (run_of s key w.old has.marked) has.runs in
                  let rate = kept_rate lazy new w.old.flow (run_of s key w.old has.marked) r.0 by (ap (λ l. running_at l w.old.flow) runs ∙ has.runs) r.1 (not_among new.changed w.old full c.0) in
                  record {
                    marked = false;
                    runs = r.1 ∙ same_run key w.old r.0 w.old.rate r.2 rate r.3 r.4;
                    limit = has.limit;
                    within = has.within;
                    known = has.known;
                  };
              dated = date_there key w.old (record { old = w.old; there = w.there; which = inr (c.0, refl) }) (at ∙ ap Some c.1);
            })
      ]

  serial_was : (key : ℕ) (live : Live) (w : WasStamped new.changed new.slots s.date s.slots key live) → w.old.serial ≡ live.serial
  serial_was key live w = elim w.which [
    | inl c ↦ sym (ap (λ (l : Live). l.serial) c.1)
    | inr c ↦ sym (ap (λ (l : Live). l.serial) c.1)
  ]

  apart : AreApart pool.slots
  apart i j one other a b e =
      let p = was_at i one a in
      let q = was_at j other b in
      is.apart i j p.old q.old p.there q.there (serial_was i one p ∙ e ∙ sym (serial_was j other q))

  there_now : (key : ℕ) (live : Live) → slot_at s.slots key ≡ Some live → slot_at pool.slots key ≡ Some (restamped new.changed new.slots s.date live)
  there_now key live at = stamped.slots key ∙ ap (option_map (restamped new.changed new.slots s.date)) (ap (λ l. slot_at l key) slots ∙ at)

  abbrev taken : Live → Live
  taken live = record live { kept = left_at live.kept live.rate live.stamp s.date; stamp = s.date; rate = rate_in (running_at new.slots live.flow) }

  pub settled_kept : IsKept settled_state
  settled_kept = record {
    each = each;
    idle = λ key none.
        let was : slot_at s.slots key ≡ None = back (slot_at s.slots key) (ap (λ l. option_map (restamped new.changed new.slots s.date) (slot_at l key)) (sym slots) ∙ sym (stamped.slots key) ∙ none) in
        dated key ∙ gone (is_in key marks.members || is_renewed new.changed (slot_at old.slots key)) key none (is.idle key was);
    apart = apart;
    back = λ id q e.
        let r = ran_before id q e in
        let of = is.back id r.0 r.1 in
        record {
          live = restamped new.changed new.slots s.date of.live;
          there = there_now (slice_index s.by_flow id) of.live of.there;
          full = kind_stays (λ (l : Live). IsTrue (takes_share l.kind)) of.live of.full of.full;
          is = kind_stays (λ (l : Live). l.flow ≡ id) of.live of.is of.is;
        };
    fresh = λ key marked. absurd (true≢false (sym marked));
    fresh_now = λ key live at marked. absurd (true≢false (sym marked));
    none_fresh = λ _. refl;
    rates = λ _ id q e. by.rates id q e ∙ ap (λ c. share_of c (flows_in new.slots) q.flow) (by.capacities_kept ∙ caps);
  }
    where
      back : (o : Option Live) → option_map (restamped new.changed new.slots s.date) o ≡ None → o ≡ None
      back None e = refl
      back (Some l) e = absurd (cc e)

      gone : (b : Bool) (key : ℕ) → slot_at pool.slots key ≡ None → key_at s.keys key ≡ None → cond b (date_in (slot_at pool.slots key)) (key_at s.keys key) ≡ None
      gone true key none idle = ap date_in none
      gone false key none idle = idle

      kind_stays : (P : Live → Type 0) (live : Live) → P (taken live) → P live → P (restamped new.changed new.slots s.date live)
      kind_stays P live p q = go (is_among new.changed live)
        where
          go : (b : Bool) → P (cond b (taken live) live)
          go true = p
          go false = q

  left_now : (links : List LinkId) (live : Live) → task_from s.date links (restamped new.changed new.slots s.date live) ≡ task_from s.date links live
  left_now links live = go (is_among new.changed live)
    where
      same : (left rate : ℕ) → left - rate * (s.date - s.date) ≡ left
      same left rate = let e : s.date - s.date ≡ 0 = omega arith in ap (λ n. left - rate * n) e ∙ none rate
        where
          none : (rate : ℕ) → left - rate * 0 ≡ left
          none rate = omega arith

      go : (b : Bool) → task_from s.date links (cond b (taken live) live) ≡ task_from s.date links live
      go true = ap (λ n. record (task_from s.date links live) { left = n }) (same (left_at live.kept live.rate live.stamp s.date) (rate_in (running_at new.slots live.flow)))
      go false = refl

  none_changed : changed_by settled_state ≡ replicate (length (told_by (task_of s) s)) false
  none_changed =
      mapped_false s.drawn (λ i. told_at (changed_at [] new.slots) pool.slots (i + 1)) (λ i. not_so (key_from 0 (i + 1) pool.slots))
      ∙ ap (λ n. replicate n false) (sym (length-listed s.drawn (λ i. told_at (task_of s) s.slots (i + 1))))
    where
      unmarked : (id : ℕ) (o : Option RunningFlow) → running_at new.slots id ≡ o → is_marked o ≡ false
      unmarked id None e = refl
      unmarked id (Some r) e = by.unmarked id r e

      and_none : (a b : Bool) → b ≡ false → (a && b) ≡ false
      and_none true b e = e
      and_none false b e = refl

      some_so : (key : ℕ) (o : Option Live) → passes is_so (option_map (changed_at [] new.slots key) o) ≡ false
      some_so key None = refl
      some_so key (Some live) = and_none (takes_share live.kind) (is_marked (running_at new.slots live.flow)) (unmarked live.flow (running_at new.slots live.flow) refl)

      not_so : (o : Option ℕ) → passes is_so (option_and_then (λ key. option_map (changed_at [] new.slots key) (slot_at pool.slots key)) o) ≡ false
      not_so None = refl
      not_so (Some key) = some_so key (slot_at pool.slots key)

  under_told : under_of settled_state ≡ with_rates_updated (under_of s)
  under_told =
      made_same s.date s.date s.capacities s.capacities s.on s.on (told_by (task_of settled_state) settled_state) (told_by (task_of s) s) (changed_by settled_state) (replicate (length (told_by (task_of s) s)) false) new.ended [] new.resources [] refl refl refl
      (same_listed s.drawn (λ i. told_at (task_of settled_state) pool.slots (i + 1)) (λ i. told_at (task_of s) s.slots (i + 1)) (λ i less.
      told_alike (task_of s) (task_of settled_state) s.slots pool.slots (i + 1) is.apart apart
      (λ f. (restamped new.changed new.slots s.date f.live, there_now f.key f.live f.at, serial_stamped new.changed new.slots s.date f.live ∙ f.is, left_now (links_at s.ways f.key) f.live))
      (λ f. let w = was_at f.key f.live f.at in record { key = f.key; live = w.old; at = w.there; is = serial_was f.key f.live w ∙ f.is })))
      none_changed by.none_ended by.no_resources

  rate_settled : (under : Underway) (task : Task) → rate (with_rates_updated under) task ≡ rate under task
  unfolding rate
  rate_settled under task = refl

  -- ---- stamps
  -- the rate that is kept now is that of the phase
  rate_now : (key : ℕ) (live : Live) → slot_at s.slots key ≡ Some live → (restamped new.changed new.slots s.date live).rate ≡ rate (under_of s) (task_of s key live)
  rate_now key live at =
      sym (rate_told settled_state settled_kept refl key (restamped new.changed new.slots s.date live) (there_now key live at))
      ∙ ap₂ rate under_told (left_now (links_at s.ways key) live) ∙ rate_settled (under_of s) (task_of s key live)

  module _ (key : ℕ) (live : Live) (at : slot_at s.slots key ≡ Some live) (full : takes_share live.kind ≡ true) where
    abbrev now : ℕ
    now = rate (under_of s) (task_of s key live)

    chosen : (b : Bool) → is_in live.flow new.changed ≡ b → (cond b (taken live) live).rate ≡ now
    chosen b e = ap (λ c. (cond c (taken live) live).rate) (sym (ap₂ (λ a d. a && d) full e)) ∙ rate_now key live at

    -- one that isn't listed keeps its rate
    kept_so : is_in live.flow new.changed ≡ false → not (now == live.rate) ≡ false
    kept_so e = is_same now live.rate (sym (chosen false e))

    -- One that is listed has another rate, or began: then its stamp is of now, and may be the same.
    began_so : is_in live.flow new.changed ≡ true → IsTrue (is_in key s.fresh) ⊎ (now ≢ live.rate)
    began_so e =
        let has = (is.each key live at).flow full in
        go has.marked (running_at new.slots live.flow) refl (subst (λ o. DidChange o (running_at new.slots live.flow)) (ap (λ l. running_at l live.flow) runs ∙ has.runs) ((by.changes live.flow).0 e))
      where
        go : (marked : Bool) (o : Option RunningFlow) → running_at new.slots live.flow ≡ o → DidChange (Some (run_of s key live marked)) o → IsTrue (is_in key s.fresh) ⊎ (now ≢ live.rate)
        go marked None z d = absurd d
        go marked (Some q) z (inl b) = inl b
        go marked (Some q) z (inr ne) = inr (λ same. ne (ap rate_in (sym z) ∙ chosen true e ∙ same))

    abbrev at_now : Stamp
    at_now = record { left = left_at live.kept live.rate live.stamp s.date; date = s.date; rate = now }

    taken_so : IsTrue (is_in key s.fresh) ⊎ (now ≢ live.rate) → at_now ≡ cond (not (now == live.rate)) at_now (stamp_of key live)
    taken_so (inr ne) = sym (ap (λ b. cond b at_now (stamp_of key live)) (is_another now live.rate ne))
    taken_so (inl fresh) = elim (eq_cases now live.rate) [
      | inl same ↦ here (is.fresh_now key live at fresh) same ∙ sym (ap (λ b. cond b at_now (stamp_of key live)) (is_same now live.rate same))
      | inr ne ↦ sym (ap (λ b. cond b at_now (stamp_of key live)) (is_another now live.rate ne))
    ]
      where
        none : (left rate : ℕ) → left - rate * 0 ≡ left
        none left rate = omega arith

        still : (left rate date : ℕ) → left_at left rate date date ≡ left
        still left rate date = let e : date - date ≡ 0 = omega arith in ap (λ n. left - rate * n) e ∙ none left rate

        here : live.stamp ≡ s.date → now ≡ live.rate → at_now ≡ stamp_of key live
        here stamp same =
            ap (λ n. record { left = n; date = s.date; rate = now }) (ap (λ d. left_at live.kept live.rate d s.date) stamp ∙ still live.kept live.rate s.date)
            ∙ ap₂ (λ d r. record { left = live.kept; date = d; rate = r }) (sym stamp) same

    pub rerated_full : (b : Bool) → is_in live.flow new.changed ≡ b → stamp_of key (cond b (taken live) live) ≡ cond (not (now == live.rate)) at_now (stamp_of key live)
    rerated_full true e = ap (λ r. record { left = left_at live.kept live.rate live.stamp s.date; date = s.date; rate = r }) (chosen true e) ∙ taken_so (began_so e)
    rerated_full false e = sym (ap (λ b. cond b at_now (stamp_of key live)) (kept_so e))

  rerated_now : (key : ℕ) (live : Live) → slot_at s.slots key ≡ Some live → stamp_of key (restamped new.changed new.slots s.date live) ≡ rerated (under_of s) (task_of s key live) (stamp_of key live)
  rerated_now key live at = go (takes_share live.kind) refl
    where
      at_rate : Stamp
      at_rate = record { left = left_at live.kept live.rate live.stamp s.date; date = s.date; rate = rate (under_of s) (task_of s key live) }

      kept : (b : Bool) → takes_share live.kind ≡ b → stamp_of key (restamped new.changed new.slots s.date live) ≡ stamp_of key (cond (b && is_in live.flow new.changed) (taken live) live)
      kept b e = ap (λ a. stamp_of key (cond (a && is_in live.flow new.changed) (taken live) live)) e

      told : (b : Bool) → takes_share live.kind ≡ b → cond (b && not (rate (under_of s) (task_of s key live) == live.rate)) at_rate (stamp_of key live) ≡ rerated (under_of s) (task_of s key live) (stamp_of key live)
      told b e = sym (ap (λ a. cond (a && not (rate (under_of s) (task_of s key live) == live.rate)) at_rate (stamp_of key live)) e)

      go : (b : Bool) → takes_share live.kind ≡ b → stamp_of key (restamped new.changed new.slots s.date live) ≡ rerated (under_of s) (task_of s key live) (stamp_of key live)
      go false e = kept false e ∙ told false e
      go true e = kept true e ∙ rerated_full key live at e (is_in live.flow new.changed) refl ∙ told true e

  stamps_told : told_by stamp_of settled_state ≡ all_rerated (under_of s) (told_by stamp_of s)
  stamps_told =
      same_listed s.drawn (λ i. told_at stamp_of pool.slots (i + 1)) (λ i. rerated_at (under_of s) (told_by stamp_of s) (i + 1)) (λ i less. at_serial (i + 1) (omega arith) (sought s.slots (i + 1)))
      ∙ ap (λ n. listed n (λ i. rerated_at (under_of s) (told_by stamp_of s) (i + 1))) (sym (length-listed s.drawn (λ i. told_at (task_of s) s.slots (i + 1))))
    where
      at_serial : (serial : ℕ) → 0 < serial → Sought s.slots serial ⊎ IsMissing s.slots serial → told_at stamp_of pool.slots serial ≡ rerated_at (under_of s) (told_by stamp_of s) serial
      at_serial serial from (inl f) =
          told_found stamp_of pool.slots serial f.key (restamped new.changed new.slots s.date f.live) apart (there_now f.key f.live f.at) (serial_stamped new.changed new.slots s.date f.live ∙ f.is)
          ∙ ap Some (rerated_now f.key f.live f.at) ∙ sym (rerated_there s is f.key f.live f.at) ∙ ap (rerated_at (under_of s) (told_by stamp_of s)) f.is
      at_serial serial from (inr none) =
          told_missed stamp_of pool.slots serial (λ k live at e. let w = was_at k live at in none k w.old w.there (serial_was k live w ∙ e))
          ∙ sym (ap (option_and_then (λ task. option_map (rerated (under_of s) task) (get_or (told_by stamp_of s) (serial - 1) None))) (task_missed s is serial from none))

  pub settled_told : (room : ℕ) → doing_of settled_state room ≡ settled_in (doing_of s room)
  settled_told room =
      doing_same (under_of settled_state) (with_rates_updated (under_of s)) [] [] true true room room (told_by stamp_of settled_state) (all_rerated (under_of s) (told_by stamp_of s)) under_told refl refl refl stamps_told

-- ---- before
pub keyed_flows : (s : State) (lazy new : Lazily) → IsKept s → lazy.slots ≡ s.runs → IsSettled lazy new → HaveKeys s.slots s.by_flow new s.date
keyed_flows s lazy new is runs by id changed = go (running_at lazy.slots id) (running_at new.slots id) refl refl ((by.changes id).0 changed)
  where
    go : (a b : Option RunningFlow) → running_at lazy.slots id ≡ a → running_at new.slots id ≡ b → DidChange a b → IsKeyed s.slots s.by_flow new s.date id
    go None b e f d = absurd d
    go (Some r) None e f d = absurd d
    go (Some r) (Some q) e f d =
        let of = is.back id r (ap (λ l. running_at l id) (sym runs) ∙ e) in
        let h = is.each (slice_index s.by_flow id) of.live of.there in
        record {
          runs = subst (λ o. IsSome o) (sym f) refl;
          within = subst (λ n. n < length s.by_flow) of.is (h.flow of.full).within;
          live = of.live;
          there = of.there;
          full = of.full;
          is = of.is;
          stamped = h.stamped;
          alone = λ key other at full same. sym ((is.each key other at).flow full).known ∙ ap (slice_index s.by_flow) same;
        }

-- each amount is small before, and each stamp
pub small_before : (s : State) → IsKept s → s.date < 10 ^ 34 → AreSmall s.slots × (s.date < 10 ^ 34)
small_before s is early = (
  λ key live at. let h = is.each key live at in record {
    amount = h.small;
    stamp = omega (arith, early, h.stamped);
  },
  early,
)

-- and after
pub small_lives : (s : State) (flows : List ℕ) (runs : List (Option RunningFlow)) (slots : List (Option Live)) → IsKept s → s.date < 10 ^ 34 → ((key : ℕ) → slot_at slots key ≡ option_map (restamped flows runs s.date) (slot_at s.slots key)) → AreSmall slots
small_lives s flows runs slots is early stamped key live at =
    let w = was_stamped flows runs s.date s.slots key live (sym (stamped key) ∙ at) in
    let h = is.each key w.old w.there in
    elim w.which [
      | inl c ↦ record {
        amount = omega (arith, h.small, ap (λ (l : Live). l.kept) c.1);
        stamp = omega (arith, early, ap (λ (l : Live). l.stamp) c.1);
      }
      | inr c ↦ record {
        amount = omega (arith, h.small, ap (λ (l : Live). l.kept) c.1);
        stamp = omega (arith, early, h.stamped, ap (λ (l : Live). l.stamp) c.1);
      }
    ]

-- ---- what the marks name
and_first : (a b : Bool) → (a && b) ≡ true → a ≡ true
and_first true b e = refl
and_first false b e = absurd (true≢false (sym e))

-- each key that is still marked is one
pub marked_below : (s : State) (flows members : List ℕ) (slots : List (Option Live)) → IsKept s → ((key : ℕ) → is_in key members ≡ (is_in key s.fresh && not (is_renewed flows (slot_at s.slots key)))) → length slots ≡ length s.slots → All (λ key. key < length slots) members
marked_below s flows members slots is marked long k d within =
    let key = get_or members k 0 in
    let there : key < length s.slots = is.fresh key (and_first (is_in key s.fresh) (not (is_renewed flows (slot_at s.slots key))) (sym (marked key) ∙ member_at members k within)) in
    let less : key < length slots = omega (arith, there, long) in
    subst (λ n. n < length slots) (get_or_default members k 0 d within) less

-- what a slot adds to a sum doesn't change as its rate does
module _ (f : Option Live → ℕ) (same : (live : Live) (kept stamp rate : ℕ) → f (Some (record live { kept = kept; stamp = stamp; rate = rate })) ≡ f (Some live)) where
  slot_same : (flows : List ℕ) (runs : List (Option RunningFlow)) (date : ℕ) (o : Option Live) → f (option_map (restamped flows runs date) o) ≡ f o
  slot_same flows runs date None = refl
  slot_same flows runs date (Some live) = go (is_among flows live)
    where
      go : (b : Bool) → f (Some (cond b (record live { kept = left_at live.kept live.rate live.stamp date; stamp = date; rate = rate_in (running_at runs live.flow) }) live)) ≡ f (Some live)
      go true = same live (left_at live.kept live.rate live.stamp date) date (rate_in (running_at runs live.flow))
      go false = refl

  sum_stamped : (flows : List ℕ) (runs : List (Option RunningFlow)) (date : ℕ) (old new : List (Option Live)) → ((key : ℕ) → slot_at new key ≡ option_map (restamped flows runs date) (slot_at old key)) → length new ≡ length old → sum_by f new ≡ sum_by f old
  sum_stamped flows runs date old new stamped long = sum_alike f f new old None None long (λ i. ap f (stamped i) ∙ slot_same flows runs date (slot_at old i))

-- as many flows are to come, over as many links
pub ahead_stamped : (flows : List ℕ) (runs : List (Option RunningFlow)) (date : ℕ) (old new : List (Option Live)) → ((key : ℕ) → slot_at new key ≡ option_map (restamped flows runs date) (slot_at old key)) → length new ≡ length old → sum_by slot_ahead new ≡ sum_by slot_ahead old
ahead_stamped = sum_stamped slot_ahead (λ live kept stamp rate. refl)

pub uses_stamped : (flows : List ℕ) (runs : List (Option RunningFlow)) (date : ℕ) (old new : List (Option Live)) → ((key : ℕ) → slot_at new key ≡ option_map (restamped flows runs date) (slot_at old key)) → length new ≡ length old → sum_by slot_uses new ≡ sum_by slot_uses old
uses_stamped = sum_stamped slot_uses (λ live kept stamp rate. refl)
