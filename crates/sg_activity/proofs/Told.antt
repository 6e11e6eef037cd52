-- What is kept stands for what the definitions say, as a phase comes, as one follows another and as one goes.
use Rattle.std.proofs.Common.{◌≡◌, ◌≢◌, ℕ, zero, suc, ◌+◌, ◌-◌, ◌*◌, ◌==◌, ◌<◌, ◌≤◌, inl, inr, Bool, true, false, cond, ◌||◌, ◌&&◌, is_some, Option, None, Some, option_to_list, List, [], ◌∷◌, ◌++◌, length, map, set, get_or, IsTrue, option_map, refl, sym, ap, ap₂, ◌∙◌, arith}
use Rattle.std.proofs.lemmas.List.{map-append, map-set, append-nil}
use Rattle.std.proofs.lemmas.List.Folds.{list_any-append}
use Rattle.sg_base.specs.declared.ids.LinkId.{LinkId}
use Rattle.sg_base.specs.MarkSet.{is_in, with_mark}
use Rattle.sg_maxmin.specs.Fill.{Flow}
use Rattle.sg_lazy.specs.RunningFlow.{running_at}
use Rattle.sg_activity_table.specs.declared.lives.Live.{Live}
use Rattle.sg_activity.specs.Links.{Capacities, Switches}
use Rattle.sg_activity_table.specs.Slots.{passes, serials}
use Rattle.sg_activity.specs.Stamp.{Stamp, stamped, anew}
use Rattle.sg_activity.specs.Task.{Task, flow_in, task_at}
use Rattle.sg_activity_table.specs.Kinds.{pace, takes_share}
use Rattle.sg_activity.specs.Underway.{Underway, started, with_task}
use Rattle.sg_activity.specs.Doing.{Doing, started_in, begun_in}
use Rattle.sg_activity_table.specs.Pool.{slot_at}
use Rattle.sg_activity.specs.kept.Stamps.{left_at}
use Rattle.sg_activity.specs.kept.State.{State, links_at, task_from, task_of, stamp_of, is_now, is_so, told_at, told_by, is_marked, changed_at, changed_by, under_of, doing_of}
use Rattle.sg_activity.specs.kept.Sound.{IsKept}
use Rattle.sg_activity.specs.kept.Turns.{Turns}
use Rattle.sg_activity_table.proofs.Listed.{at_listed}
use Rattle.sg_activity.proofs.Listing.{bool_cases}
use Rattle.sg_activity.proofs.Turned.{told_here, told_gone, told_set, told_pushed, tasks_set, tasks_pushed, due_pushed, due_stays}

-- ---- marks
pub new_mark : (number : ℕ) (xs : List ℕ) → is_in number xs ≡ false → with_mark number xs ≡ xs ++ number ∷ []
new_mark number xs e = rw e refl

eqb_same : (a : ℕ) → (a == a) ≡ true
eqb_same a = grind arith

eqb_other : (a b : ℕ) → b ≢ a → (a == b) ≡ false
eqb_other a b ne = grind arith

or_none : (b : Bool) → (b || (false || false)) ≡ b
or_none true = refl
or_none false = refl

or_one : (b : Bool) → (b || (true || false)) ≡ true
or_one true = refl
or_one false = refl

pub in_more : (number k : ℕ) (xs : List ℕ) → k ≢ number → is_in k (xs ++ number ∷ []) ≡ is_in k xs
in_more number k xs ne = list_any-append (λ member. member == k) xs (number ∷ []) ∙ ap (λ b. is_in k xs || (b || false)) (eqb_other number k ne) ∙ or_none (is_in k xs)

pub in_last : (number : ℕ) (xs : List ℕ) → is_in number (xs ++ number ∷ []) ≡ true
in_last number xs = list_any-append (λ member. member == number) xs (number ∷ []) ∙ ap (λ b. is_in number xs || (b || false)) (eqb_same number) ∙ or_one (is_in number xs)

pub member_at : (xs : List ℕ) (k : ℕ) → k < length xs → is_in (get_or xs k 0) xs ≡ true
member_at [] k h = absurd (omega (arith, h))
member_at (x ∷ xs) zero h = head x xs
  where
    head : (x : ℕ) (xs : List ℕ) → is_in x (x ∷ xs) ≡ true
    head x xs = grind arith
member_at (x ∷ xs) (suc k) h = later (get_or xs k 0) x xs (member_at xs k (omega (arith, h)))
  where
    later : (y x : ℕ) (xs : List ℕ) → is_in y xs ≡ true → is_in y (x ∷ xs) ≡ true
    later y x xs i = grind arith

pub mark_self : (number : ℕ) (xs : List ℕ) → is_in number (with_mark number xs) ≡ true
mark_self number xs = elim (bool_cases (is_in number xs)) [
  | inl e ↦ (let same : with_mark number xs ≡ xs = rw e refl in ap (is_in number) same ∙ e)
  | inr e ↦ ap (is_in number) (new_mark number xs e) ∙ in_last number xs
]

pub mark_other : (number k : ℕ) (xs : List ℕ) → k ≢ number → is_in k (with_mark number xs) ≡ is_in k xs
mark_other number k xs ne = elim (bool_cases (is_in number xs)) [
  | inl e ↦ (let same : with_mark number xs ≡ xs = rw e refl in ap (is_in k) same)
  | inr e ↦ ap (is_in k) (new_mark number xs e) ∙ in_more number k xs ne
]

-- ---- records
abbrev pub made : ℕ → Capacities → Switches → List (Option Task) → List Bool → List Flow → List ℕ → Underway
made date capacities on tasks changed ended resources = record { date = date; capacities = capacities; on = on; tasks = tasks; marks = record { changed = changed; ended = ended; resources = resources }; energy = [] }

pub made_same : (d d' : ℕ) (c c' : Capacities) (o o' : Switches) (t t' : List (Option Task)) (b b' : List Bool) (e e' : List Flow) (f f' : List ℕ) → d ≡ d' → c ≡ c' → o ≡ o' → t ≡ t' → b ≡ b' → e ≡ e' → f ≡ f' → made d c o t b e f ≡ made d' c' o' t' b' e' f'
made_same d d' c c' o o' t t' b b' e e' f f' p q z r u v w =
    ap (λ x. made x c o t b e f) p ∙ ap (λ x. made d' x o t b e f) q ∙ ap (λ x. made d' c' x t b e f) z ∙ ap (λ x. made d' c' o' x b e f) r ∙ ap (λ x. made d' c' o' t' x e f) u ∙ ap (λ x. made d' c' o' t' b' x f) v ∙ ap (λ x. made d' c' o' t' b' e' x) w

abbrev pub doing_from : Underway → List ℕ → Bool → ℕ → List (Option Stamp) → Doing
doing_from under due settled room stamps = record { under = under; due = due; settled = settled; room = room; stamps = stamps }

pub doing_same : (u u' : Underway) (d d' : List ℕ) (b b' : Bool) (n n' : ℕ) (t t' : List (Option Stamp)) → u ≡ u' → d ≡ d' → b ≡ b' → n ≡ n' → t ≡ t' → doing_from u d b n t ≡ doing_from u' d' b' n' t'
doing_same u u' d d' b b' n n' t t' p q r v w =
    ap (λ x. doing_from x d b n t) p ∙ ap (λ x. doing_from u' x b n t) q ∙ ap (λ x. doing_from u' d' x n t) r ∙ ap (λ x. doing_from u' d' b' x t) v ∙ ap (λ x. doing_from u' d' b' n' x) w

-- ---- stamps
abbrev stamp_from : ℕ → ℕ → ℕ → Stamp
stamp_from left date rate = record { left = left; date = date; rate = rate }

stamp_same : (a a' b b' c c' : ℕ) → a ≡ a' → b ≡ b' → c ≡ c' → stamp_from a b c ≡ stamp_from a' b' c'
stamp_same a a' b b' c c' p q r = ap (λ x. stamp_from x b c) p ∙ ap (λ x. stamp_from a' x c) q ∙ ap (λ x. stamp_from a' b' x) r

-- of a phase that begins, is suspended or resumed at a date
stamp_now : (key date : ℕ) (links : List LinkId) (live : Live) → live.stamp ≡ date → (IsTrue (takes_share live.kind) → live.rate ≡ 0) → (takes_share live.kind ≡ false → live.rate ≡ pace live.kind) → stamp_of key live ≡ stamped date (task_from date links live)
stamp_now key date links live at full empty =
    stamp_same live.kept (left_at live.kept live.rate live.stamp date) live.stamp date live.rate (cond (takes_share live.kind) 0 (pace live.kind)) (sym (ap (λ n. left_at live.kept live.rate n date) at ∙ still live.kept live.rate date)) at (rates (takes_share live.kind) refl)
  where
    none : (kept rate : ℕ) → kept - rate * 0 ≡ kept
    none kept rate = omega arith

    still : (kept rate date : ℕ) → left_at kept rate date date ≡ kept
    still kept rate date = let e : date - date ≡ 0 = omega arith in ap (λ n. kept - rate * n) e ∙ none kept rate

    rates : (b : Bool) → takes_share live.kind ≡ b → ◌≡◌ {A = ℕ} live.rate (cond b 0 (pace live.kind))
    rates true e = full e
    rates false e = empty e

-- the task under an activity id
pub task_told : (s : State) (serial : ℕ) → 0 < serial → serial ≤ s.drawn → task_at (told_by (task_of s) s) serial ≡ told_at (task_of s) s.slots serial
task_told s serial from to =
    let back : serial - 1 + 1 ≡ serial = omega (arith, from) in
    at_listed s.drawn (λ i. told_at (task_of s) s.slots (i + 1)) (serial - 1) None (omega (arith, from, to)) ∙ ap (told_at (task_of s) s.slots) back

module _ (s new : State) (key serial : ℕ) (slot : Option Live) (is : IsKept s) (by : Turns s new key serial slot) where
  -- elsewhere the same is marked
  changed_elsewhere : (k : ℕ) (live : Live) → k ≢ key → slot_at s.slots k ≡ Some live → changed_at new.fresh new.runs k live ≡ changed_at s.fresh s.runs k live
  changed_elsewhere k live ne at = ap₂ (λ f m. f || m) (by.fresh k ne) (marked (takes_share live.kind) refl)
    where
      marked : (b : Bool) → takes_share live.kind ≡ b → (takes_share live.kind && is_marked (running_at new.runs live.flow)) ≡ (takes_share live.kind && is_marked (running_at s.runs live.flow))
      marked true e = ap (λ o. takes_share live.kind && is_marked o) (by.flows k live ne at e).0
      marked false e = ap (λ b. b && is_marked (running_at new.runs live.flow)) e ∙ sym (ap (λ b. b && is_marked (running_at s.runs live.flow)) e)

  -- by activity id what is marked
  pub changed_set : new.drawn ≡ s.drawn → 0 < serial → serial ≤ s.drawn → changed_by new ≡ set (changed_by s) (serial - 1) (passes is_so (told_at (changed_at new.fresh new.runs) new.slots serial))
  changed_set drawn from to =
      ap (map (passes is_so)) (told_set s new key serial slot is by (changed_at s.fresh s.runs) (changed_at new.fresh new.runs) drawn from to changed_elsewhere)
      ∙ map-set (passes is_so) (told_by (changed_at s.fresh s.runs) s) (serial - 1) (told_at (changed_at new.fresh new.runs) new.slots serial)

  changed_pushed : new.drawn ≡ s.drawn + 1 → serial ≡ s.drawn + 1 → changed_by new ≡ changed_by s ++ passes is_so (told_at (changed_at new.fresh new.runs) new.slots serial) ∷ []
  changed_pushed drawn is_next =
      ap (map (passes is_so)) (told_pushed s new key serial slot is by (changed_at s.fresh s.runs) (changed_at new.fresh new.runs) drawn is_next changed_elsewhere)
      ∙ map-append (passes is_so) (told_by (changed_at s.fresh s.runs) s) (told_at (changed_at new.fresh new.runs) new.slots serial ∷ [])

  pub changed_here : (live : Live) → slot ≡ Some live → is_in key new.fresh ≡ true → passes is_so (told_at (changed_at new.fresh new.runs) new.slots serial) ≡ true
  changed_here live e fresh =
      ap (passes is_so) (told_here s new key serial slot is by (changed_at new.fresh new.runs) live e)
      ∙ ap (λ b. b || (takes_share live.kind && is_marked (running_at new.runs live.flow))) fresh

  pub changed_gone : slot ≡ None → passes is_so (told_at (changed_at new.fresh new.runs) new.slots serial) ≡ false
  changed_gone e = ap (passes is_so) (told_gone s new key serial slot is by (changed_at new.fresh new.runs) e)

  -- the stamp of what is under the key now
  stamp_here : (live : Live) → slot ≡ Some live → told_at stamp_of new.slots serial ≡ Some (stamped new.date (task_of new key live))
  stamp_here live e = told_here s new key serial slot is by stamp_of live e ∙ ap Some (stamp_now key new.date (links_at new.ways key) live (by.stamped live e) (by.unrated live e) (by.holds live e).paced)

  -- by activity id the stamps
  stamps_pushed : (live : Live) → slot ≡ Some live → new.drawn ≡ s.drawn + 1 → serial ≡ s.drawn + 1 → told_by stamp_of new ≡ told_by stamp_of s ++ Some (stamped s.date (task_of new key live)) ∷ []
  stamps_pushed live e drawn is_next =
      told_pushed s new key serial slot is by stamp_of stamp_of drawn is_next (λ k live ne at. refl)
      ∙ ap (λ o. told_by stamp_of s ++ o ∷ []) (stamp_here live e) ∙ ap (λ d. told_by stamp_of s ++ Some (stamped d (task_of new key live)) ∷ []) by.date

  pub stamps_set : (under : Underway) → under_of new ≡ under → new.drawn ≡ s.drawn → 0 < serial → serial ≤ s.drawn → told_by stamp_of new ≡ anew serial under (told_by stamp_of s)
  stamps_set under e drawn from to =
      told_set s new key serial slot is by stamp_of stamp_of drawn from to (λ k live ne at. refl)
      ∙ ap (set (told_by stamp_of s) (serial - 1)) (here slot refl ∙ sym (ap (option_map (stamped new.date)) (task_told new serial from (omega (arith, to, drawn)))))
      ∙ ap (λ (u : Underway). anew serial u (told_by stamp_of s)) e
    where
      here : (o : Option Live) → slot ≡ o → told_at stamp_of new.slots serial ≡ option_map (stamped new.date) (told_at (task_of new) new.slots serial)
      here None f = told_gone s new key serial slot is by stamp_of f ∙ sym (ap (option_map (stamped new.date)) (told_gone s new key serial slot is by (task_of new) f))
      here (Some live) f = stamp_here live f ∙ sym (ap (option_map (stamped new.date)) (told_here s new key serial slot is by (task_of new) live f))

  -- the next activity id begins
  pub started_told : (live : Live) (room : ℕ) → slot ≡ Some live → new.drawn ≡ s.drawn + 1 → serial ≡ s.drawn + 1 → is_in key new.fresh ≡ true → new.ended ≡ s.ended → doing_of new (room - 1) ≡ started_in (task_of new key live) (doing_of s room)
  started_told live room e drawn is_next fresh ended =
      let under : under_of new ≡ started (task_of new key live) (under_of s) =
      made_same new.date s.date new.capacities s.capacities new.on s.on (told_by (task_of new) new) (told_by (task_of s) s ++ Some (task_of new key live) ∷ []) (changed_by new) (changed_by s ++ true ∷ []) new.ended s.ended new.resources s.resources by.date by.capacities by.on
      (tasks_pushed s new key serial slot is by drawn is_next ∙ ap (λ o. told_by (task_of s) s ++ o ∷ []) (told_here s new key serial slot is by (task_of new) live e))
      (changed_pushed drawn is_next ∙ ap (λ b. changed_by s ++ b ∷ []) (changed_here live e fresh)) ended by.resources in
      doing_same (under_of new) (started (task_of new key live) (under_of s)) (cond new.arrived (serials is_so 1 (told_by (is_now new) new)) []) (cond s.arrived (serials is_so 1 (told_by (is_now s) s)) []) new.settled false (room - 1) (room - 1)
      (told_by stamp_of new) (told_by stamp_of s ++ Some (stamped s.date (task_of new key live)) ∷ []) under
      (ap₂ (λ b l. cond b l []) by.arrived (due_pushed s new key serial slot is by drawn is_next)) by.unsettled refl (stamps_pushed live e drawn is_next)

  -- under an activity id that was drawn another phase is running, or none
  pub under_set : (x : Option Task) → new.drawn ≡ s.drawn → 0 < serial → serial ≤ s.drawn → told_at (task_of new) new.slots serial ≡ x → (is_some (told_at (task_of s) s.slots serial) || is_some x) ≡ true → passes is_so (told_at (changed_at new.fresh new.runs) new.slots serial) ≡ is_some x →
      new.ended ≡ s.ended ++ option_to_list (flow_in s.capacities (told_at (task_of s) s.slots serial)) → under_of new ≡ with_task serial x (under_of s)
  under_set x drawn from to told some changed ended =
      let before = task_at (told_by (task_of s) s) serial in
      made_same new.date s.date new.capacities s.capacities new.on s.on (told_by (task_of new) new) (set (told_by (task_of s) s) (serial - 1) x) (changed_by new) (cond (is_some before || is_some x) (set (changed_by s) (serial - 1) (is_some x)) (changed_by s))
      new.ended (s.ended ++ option_to_list (flow_in s.capacities before)) new.resources s.resources by.date by.capacities by.on
      (tasks_set s new key serial slot is by drawn from to ∙ ap (set (told_by (task_of s) s) (serial - 1)) told)
      (changed_set drawn from to ∙ ap (set (changed_by s) (serial - 1)) changed
      ∙ sym (ap (λ b. cond b (set (changed_by s) (serial - 1) (is_some x)) (changed_by s)) (ap (λ o. is_some o || is_some x) (task_told s serial from to) ∙ some)))
      (ended ∙ ap (λ o. s.ended ++ option_to_list (flow_in s.capacities o)) (sym (task_told s serial from to))) by.resources

  pub begun_told : (live : Live) (room : ℕ) → slot ≡ Some live → new.drawn ≡ s.drawn → 0 < serial → serial ≤ s.drawn → told_at (task_of s) s.slots serial ≡ None → slot_at s.slots key ≡ None → is_in key new.fresh ≡ true → new.ended ≡ s.ended →
      doing_of new (room - 1) ≡ begun_in serial (task_of new key live) (doing_of s room)
  begun_told live room e drawn from to idle none fresh ended =
      let under : under_of new ≡ with_task serial (Some (task_of new key live)) (under_of s) =
      under_set (Some (task_of new key live)) drawn from to (told_here s new key serial slot is by (task_of new) live e) (ap (λ o. is_some o || true) idle) (changed_here live e fresh)
      (ended ∙ sym (append-nil s.ended) ∙ ap (λ o. s.ended ++ option_to_list (flow_in s.capacities o)) (sym idle)) in
      doing_same (under_of new) (with_task serial (Some (task_of new key live)) (under_of s)) (cond new.arrived (serials is_so 1 (told_by (is_now new) new)) []) (cond s.arrived (serials is_so 1 (told_by (is_now s) s)) []) new.settled false (room - 1) (room - 1)
      (told_by stamp_of new) (anew serial (with_task serial (Some (task_of new key live)) (under_of s)) (told_by stamp_of s)) under
      (ap₂ (λ b l. cond b l []) by.arrived (due_stays s new key serial slot is by drawn from to none)) by.unsettled refl
      (stamps_set (with_task serial (Some (task_of new key live)) (under_of s)) under drawn from to)
