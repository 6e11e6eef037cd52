-- One activity replaces another: all stays consistent, and what contracts see changes at its id alone.
use Rattle.std.proofs.Common.{◌≡◌, ◌≢◌, ℕ, ◌+◌, ◌-◌, ◌<◌, ◌≤◌, inl, inr, false, cond, ◌||◌, true≢false, Option, None, Some, List, [], ◌∷◌, ◌++◌, length, set, slice_index, IsTrue, IsSome, refl, sym, ap, ap₂, subst, ◌∙◌, arith}
use Rattle.sg_base.specs.declared.ids.LinkId.{LinkId}
use Rattle.sg_base.specs.MarkSet.{is_in}
use Rattle.sg_heap.specs.Agenda.{key_at}
use Rattle.sg_maxmin.specs.Sharing.{HasLimit}
use Rattle.sg_lazy.specs.RunningFlow.{running_at}
use Rattle.sg_activity_table.specs.declared.lives.Live.{Live}
use Rattle.sg_activity.specs.Links.{Capacities}
use Rattle.sg_activity_table.specs.Slots.{listed, passes, serials}
use Rattle.sg_activity.specs.Task.{flow_of}
use Rattle.sg_activity_table.specs.Kinds.{takes_share}
use Rattle.sg_activity_table.specs.Pool.{IsMissing, slot_at}
use Rattle.sg_activity.specs.kept.State.{State, links_at, place_of, task_from, task_of, asked_by, date_of, due_at, is_now, is_dated, is_so, told_at, told_by}
use Rattle.sg_activity.specs.kept.Sound.{IsPlace, IsHeld, AreApart, IsKept, place_at}
use Rattle.sg_activity.specs.kept.Turns.{Turns}
use Rattle.std.specs.Option.{IfSome}
use Rattle.sg_activity_table.proofs.Listed.{same_listed, set_listed, at_listed}
use Rattle.sg_activity.proofs.Listing.{eq_cases, listed_more}
use Rattle.sg_activity.proofs.Lookup.{told_found, told_missed, told_alike}
use Rattle.sg_activity.proofs.Serials.{serials_push, serials_set}

pub not_there : {X : Type 0} (o : Option X) → IsSome o → o ≡ None → ⊥
not_there None some none = true≢false (sym some)
not_there (Some x) some none = cc none

-- what is asked for doesn't depend on the date
pub asked_same : (c d : Capacities) (date later : ℕ) (links others : List LinkId) (live : Live) → c ≡ d → links ≡ others → flow_of c (task_from date links live) ≡ flow_of d (task_from later others live)
asked_same c d date later links others live e l =
    ap (λ w. flow_of w (task_from date links live)) e ∙ ap (λ w. flow_of d (task_from date w live)) l

-- an activity elsewhere is held as it was
pub held_still : (s new : State) (k : ℕ) (live : Live) → new.capacities ≡ s.capacities → new.date ≡ s.date → s.drawn ≤ new.drawn → links_at new.ways k ≡ links_at s.ways k → key_at new.keys k ≡ key_at s.keys k → is_in k new.fresh ≡ is_in k s.fresh → length s.by_flow ≤ length new.by_flow →
    (IsTrue (takes_share live.kind) → (running_at new.runs live.flow ≡ running_at s.runs live.flow) × (slice_index new.by_flow live.flow ≡ slice_index s.by_flow live.flow)) → IsHeld s k live → IsHeld new k live
held_still s new k live caps date drawn ways keys fresh long flows is =
    let asked : asked_by new k live ≡ asked_by s k live = asked_same new.capacities s.capacities new.date s.date (links_at new.ways k) (links_at s.ways k) live caps ways in
    record {
      from = is.from;
      to = omega (arith, is.to, drawn);
      stamped = omega (arith, is.stamped, date);
      in_time = subst (λ n. IfSome (due_at live) (λ due. n ≤ due)) (sym date) is.in_time;
      small = is.small;
      few_bytes = is.few_bytes;
      weighs = is.weighs;
      paced = is.paced;
      placed = subst (λ c. IsPlace c (place_at new k live)) (sym caps) (subst (λ l. IsPlace s.capacities (place_of live.place l)) (sym ways) is.placed);
      fits = is.fits;
      counted = λ latency. omega (arith, is.counted latency, ap length ways);
      flow = λ full.
          let has = is.flow full in
          let stays = flows full in
          record {
            marked = has.marked;
            runs = stays.0 ∙ has.runs ∙ ap₂ (λ f b. Some (record { flow = f; rate = live.rate; began = b; marked = b || has.marked })) (sym asked) (sym fresh);
            limit = subst HasLimit (sym asked) has.limit;
            within = omega (arith, has.within, long);
            known = stays.1 ∙ has.known;
          };
      dated = keys ∙ is.dated ∙ ap (λ b. cond b None (date_of live)) (sym fresh);
    }

pub turned_apart : (s new : State) (key serial : ℕ) (slot : Option Live) → IsKept s → Turns s new key serial slot → AreApart new.slots
turned_apart s new key serial slot is by i j one other a b e = elim (eq_cases i key) [
  | inl h ↦ elim (eq_cases j key) [
    | inl k ↦ h ∙ sym k
    | inr nk ↦ absurd (by.alone j other nk (sym (by.others j nk) ∙ b) (sym e ∙ by.is one (sym by.here ∙ ap (slot_at new.slots) (sym h) ∙ a)))
  ]
  | inr nh ↦ elim (eq_cases j key) [
    | inl k ↦ absurd (by.alone i one nh (sym (by.others i nh) ∙ a) (e ∙ by.is other (sym by.here ∙ ap (slot_at new.slots) (sym k) ∙ b)))
    | inr nk ↦ is.apart i j one other (sym (by.others i nh) ∙ a) (sym (by.others j nk) ∙ b) e
  ]
]

pub turned : (s new : State) (key serial : ℕ) (slot : Option Live) → IsKept s → Turns s new key serial slot → IsKept new
turned s new key serial slot is by = record {
  each = λ k live at. elim (eq_cases k key) [
    | inl e ↦ subst (λ n. IsHeld new n live) (sym e) (by.holds live (sym by.here ∙ ap (slot_at new.slots) (sym e) ∙ at))
    | inr ne ↦
        let was = sym (by.others k ne) ∙ at in
        held_still s new k live by.capacities by.date by.drawn (by.ways k ne) (by.keys k ne) (by.fresh k ne) by.by_flow_long (by.flows k live ne was) (is.each k live was)
  ];
  idle = λ k none. elim (eq_cases k key) [
    | inl e ↦ ap (key_at new.keys) e ∙ by.no_key
    | inr ne ↦ by.keys k ne ∙ is.idle k (sym (by.others k ne) ∙ none)
  ];
  apart = turned_apart s new key serial slot is by;
  back = by.back;
  fresh = λ k marked. elim (eq_cases k key) [
    | inl e ↦ omega (arith, e, by.within)
    | inr ne ↦ omega (arith, is.fresh k (sym (by.fresh k ne) ∙ marked), by.longer)
  ];
  fresh_now = λ k live at marked. elim (eq_cases k key) [
    | inl e ↦ by.stamped live (sym by.here ∙ ap (slot_at new.slots) (sym e) ∙ at)
    | inr ne ↦ is.fresh_now k live (sym (by.others k ne) ∙ at) (sym (by.fresh k ne) ∙ marked) ∙ sym by.date
  ];
  none_fresh = λ set. absurd (true≢false (sym set ∙ by.unsettled));
  rates = λ set. absurd (true≢false (sym set ∙ by.unsettled));
}

-- ---- what contracts see
module _ (s new : State) (key serial : ℕ) (slot : Option Live) (is : IsKept s) (by : Turns s new key serial slot) where
  pub told_other : {Y : Type 0} (tell other : ℕ → Live → Y) (n : ℕ) → n ≢ serial → ((k : ℕ) (live : Live) → k ≢ key → slot_at s.slots k ≡ Some live → other k live ≡ tell k live) → told_at other new.slots n ≡ told_at tell s.slots n
  told_other tell other n ne same = told_alike tell other s.slots new.slots n is.apart (turned_apart s new key serial slot is by)
      (λ f. let away : f.key ≢ key = (λ e. ne (sym f.is ∙ by.was f.live (ap (slot_at s.slots) (sym e) ∙ f.at))) in (f.live, by.others f.key away ∙ f.at, f.is, same f.key f.live away f.at))
      (λ f. let away : f.key ≢ key = (λ e. ne (sym f.is ∙ by.is f.live (sym by.here ∙ ap (slot_at new.slots) (sym e) ∙ f.at))) in record { key = f.key; live = f.live; at = sym (by.others f.key away) ∙ f.at; is = f.is })

  pub told_here : {Y : Type 0} (other : ℕ → Live → Y) (live : Live) → slot ≡ Some live → told_at other new.slots serial ≡ Some (other key live)
  told_here other live e = told_found other new.slots serial key live (turned_apart s new key serial slot is by) (by.here ∙ e) (by.is live e)

  pub told_gone : {Y : Type 0} (other : ℕ → Live → Y) → slot ≡ None → told_at other new.slots serial ≡ None
  told_gone other e = told_missed other new.slots serial (λ k live at. elim (eq_cases k key) [
    | inl h ↦ absurd (cc (sym e ∙ sym by.here ∙ ap (slot_at new.slots) (sym h) ∙ at))
    | inr ne ↦ by.alone k live ne (sym (by.others k ne) ∙ at)
  ])

  pub told_set : {Y : Type 0} (tell other : ℕ → Live → Y) → new.drawn ≡ s.drawn → 0 < serial → serial ≤ s.drawn → ((k : ℕ) (live : Live) → k ≢ key → slot_at s.slots k ≡ Some live → other k live ≡ tell k live) →
      told_by other new ≡ set (told_by tell s) (serial - 1) (told_at other new.slots serial)
  told_set tell other drawn from to same =
      let back : serial - 1 + 1 ≡ serial = omega (arith, from) in
      ap (λ n. listed n (λ i. told_at other new.slots (i + 1))) drawn
      ∙ set_listed s.drawn (λ i. told_at tell s.slots (i + 1)) (λ i. told_at other new.slots (i + 1)) (serial - 1) (told_at other new.slots serial) (omega (arith, from, to)) (ap (told_at other new.slots) back)
      (λ i ne. told_other tell other (i + 1) (λ e. ne (omega (arith, e))) same)

  pub told_pushed : {Y : Type 0} (tell other : ℕ → Live → Y) → new.drawn ≡ s.drawn + 1 → serial ≡ s.drawn + 1 → ((k : ℕ) (live : Live) → k ≢ key → slot_at s.slots k ≡ Some live → other k live ≡ tell k live) →
      told_by other new ≡ told_by tell s ++ told_at other new.slots serial ∷ []
  told_pushed tell other drawn is_next same =
      ap (λ n. listed n (λ i. told_at other new.slots (i + 1))) drawn
      ∙ listed_more s.drawn (λ i. told_at other new.slots (i + 1))
      ∙ ap₂ (λ l x. l ++ x ∷ []) (same_below s.drawn (λ i less. told_other tell other (i + 1) (λ e. absurd (omega (arith, e, less, is_next))) same)) (ap (told_at other new.slots) (sym is_next))
    where
      same_below : (n : ℕ) → ((i : ℕ) → i < n → told_at other new.slots (i + 1) ≡ told_at tell s.slots (i + 1)) → listed n (λ i. told_at other new.slots (i + 1)) ≡ listed n (λ i. told_at tell s.slots (i + 1))
      same_below n h = same_listed n (λ i. told_at other new.slots (i + 1)) (λ i. told_at tell s.slots (i + 1)) h

  tasks_elsewhere : (k : ℕ) (live : Live) → k ≢ key → slot_at s.slots k ≡ Some live → task_of new k live ≡ task_of s k live
  tasks_elsewhere k live ne at = ap₂ (λ d l. task_from d l live) by.date (by.ways k ne)

  now_elsewhere : (k : ℕ) (live : Live) → k ≢ key → slot_at s.slots k ≡ Some live → is_now new k live ≡ is_now s k live
  now_elsewhere k live ne at = ap₂ is_dated by.date (by.keys k ne)

  pub tasks_set : new.drawn ≡ s.drawn → 0 < serial → serial ≤ s.drawn → told_by (task_of new) new ≡ set (told_by (task_of s) s) (serial - 1) (told_at (task_of new) new.slots serial)
  tasks_set drawn from to = told_set (task_of s) (task_of new) drawn from to tasks_elsewhere

  pub tasks_pushed : new.drawn ≡ s.drawn + 1 → serial ≡ s.drawn + 1 → told_by (task_of new) new ≡ told_by (task_of s) s ++ told_at (task_of new) new.slots serial ∷ []
  tasks_pushed drawn is_next = told_pushed (task_of s) (task_of new) drawn is_next tasks_elsewhere

  -- nothing completes at the activity id
  not_now : passes is_so (told_at (is_now new) new.slots serial) ≡ false
  not_now = cases slot refl
    where
      cases : (o : Option Live) → slot ≡ o → passes is_so (told_at (is_now new) new.slots serial) ≡ false
      cases None e = ap (passes is_so) (told_gone (is_now new) e)
      cases (Some live) e = ap (passes is_so) (told_here (is_now new) live e) ∙ ap (is_dated new.date) by.no_key

  pub due_set : new.drawn ≡ s.drawn → 0 < serial → serial ≤ s.drawn → told_by (is_now new) new ≡ set (told_by (is_now s) s) (serial - 1) (told_at (is_now new) new.slots serial)
  due_set drawn from to = told_set (is_now s) (is_now new) drawn from to now_elsewhere

  pub due_pushed : new.drawn ≡ s.drawn + 1 → serial ≡ s.drawn + 1 → serials is_so 1 (told_by (is_now new) new) ≡ serials is_so 1 (told_by (is_now s) s)
  due_pushed drawn is_next = ap (serials is_so 1) (told_pushed (is_now s) (is_now new) drawn is_next now_elsewhere) ∙ serials_push is_so 1 (told_by (is_now s) s) (told_at (is_now new) new.slots serial) not_now

  -- nothing completed at the activity id
  pub due_still : new.drawn ≡ s.drawn → 0 < serial → serial ≤ s.drawn → passes is_so (told_at (is_now s) s.slots serial) ≡ false → serials is_so 1 (told_by (is_now new) new) ≡ serials is_so 1 (told_by (is_now s) s)
  due_still drawn from to nothing =
      ap (serials is_so 1) (due_set drawn from to)
      ∙ serials_set is_so 1 (told_by (is_now s) s) (serial - 1) (told_at (is_now new) new.slots serial)
      (ap (passes is_so) (at_listed s.drawn (λ i. told_at (is_now s) s.slots (i + 1)) (serial - 1) None (omega (arith, from, to)) ∙ ap (told_at (is_now s) s.slots) back) ∙ nothing) not_now
    where
      back : serial - 1 + 1 ≡ serial
      back = omega (arith, from)

  pub due_stays : new.drawn ≡ s.drawn → 0 < serial → serial ≤ s.drawn → slot_at s.slots key ≡ None → serials is_so 1 (told_by (is_now new) new) ≡ serials is_so 1 (told_by (is_now s) s)
  due_stays drawn from to none = due_still drawn from to (ap (passes is_so) (told_missed (is_now s) s.slots serial missing))
    where
      missing : IsMissing s.slots serial
      missing k live at e = elim (eq_cases k key) [
        | inl h ↦ cc (sym none ∙ ap (slot_at s.slots) (sym h) ∙ at)
        | inr ne ↦ by.alone k live ne at e
      ]

  pub not_now_any : passes is_so (told_at (is_now new) new.slots serial) ≡ false
  not_now_any = not_now
