-- The flows that are kept are those of the running phases, at their rates.
use Rattle.std.proofs.Common.{◌≡◌, ℕ, zero, suc, ◌+◌, ◌-◌, ◌<◌, ◌≤◌, ◌⊎◌, inl, inr, Bool, true, false, cond, ◌||◌, ◌&&◌, Option, None, Some, option_map, List, [], ◌∷◌, length, map, get_or, filter_map, slice_index, IsTrue, refl, sym, ap, ap₂, subst, ◌∙◌, arith}
use Rattle.std.specs.List.{cons_option}
use Rattle.std.specs.Prelude.{Contains}
use Rattle.std.proofs.lemmas.Option.{cond_some}
use Rattle.std.proofs.Math.ListN.{get_or-map}
use Rattle.sg_base.specs.MarkSet.{is_in}
use Rattle.sg_maxmin.specs.Fill.{Flow, share_of}
use Rattle.sg_maxmin.specs.Laws.{HaveLimits, HaveSameSums}
use Rattle.sg_maxmin.specs.Sharing.{HasLimit, held}
use Rattle.sg_maxmin.proofs.Members.{In, In-from_contains}
use Rattle.sg_maxmin.proofs.Shares.{shares_same_lem}
use Rattle.sg_maxmin.proofs.Held.{is_held_lem}
use Rattle.sg_lazy.specs.RunningFlow.{RunningFlow, running_at, running_flows, flows_in}
use Rattle.sg_lazy.specs.Work.{work}
use Rattle.sg_activity_table.specs.declared.lives.Live.{Live}
use Rattle.sg_activity.specs.Links.{Capacities, capacities_of}
use Rattle.sg_activity_table.specs.Slots.{passes}
use Rattle.sg_activity.specs.Task.{Task, flow_in, flow_of, flows, task_at}
use Rattle.sg_activity_table.specs.Kinds.{takes_share, pace, is_held}
use Rattle.sg_activity.specs.Underway.{rate, wait, wait_in, running_under, runnings, work_of}
use Rattle.sg_activity.specs.kept.Stamps.{left_at}
use Rattle.sg_activity_table.specs.Pool.{slot_at, IsMissing}
use Rattle.sg_activity.specs.kept.State.{State, task_of, asked_by, serial_in, serial_at, is_so, told_at, told_by, is_marked, changed_at, under_of}
use Rattle.sg_activity.specs.kept.Sound.{IsFlowOf, IsKept, run_of}
use Rattle.sg_activity_table.proofs.Listed.{length-listed, at_listed, past_listed}
use Rattle.sg_activity.proofs.Listing.{some_same}
use Rattle.sg_activity.proofs.Lookup.{Sought, told_found, told_from, told_missed}
use Rattle.sg_activity.proofs.Pairing.{part, paired_sums, there_within, sum_by-there, sum_alike}
use Rattle.sg_activity.proofs.Told.{task_told}
use Rattle.sg_activity.proofs.Works.{SameRunning, work_same}

less_or : (i n : ℕ) → (i < n) ⊎ (n ≤ i)
less_or i n = grind arith

filled_flow : (c : Capacities) (t : Task) → IsTrue (takes_share t.kind) → flow_in c (Some t) ≡ Some (flow_of c t)
filled_flow c t full = ap (λ b. cond b (Some (flow_of c t)) None) full

module _ (s : State) (is : IsKept s) where
  -- the phase of an activity stands under its id
  pub task_there : (key : ℕ) (live : Live) → slot_at s.slots key ≡ Some live → task_at (under_of s).tasks live.serial ≡ Some (task_of s key live)
  task_there key live at =
      let h = is.each key live at in
      task_told s live.serial h.from h.to ∙ told_found (task_of s) s.slots live.serial key live is.apart at refl

  -- nothing stands under an id that no activity has
  pub task_missed : (serial : ℕ) → 0 < serial → IsMissing s.slots serial → task_at (under_of s).tasks serial ≡ None
  task_missed serial from none = elim (less_or (serial - 1) s.drawn) [
    | inl less ↦
        let back : serial - 1 + 1 ≡ serial = omega (arith, from) in
        at_listed s.drawn (λ i. told_at (task_of s) s.slots (i + 1)) (serial - 1) None less ∙ ap (told_at (task_of s) s.slots) back ∙ told_missed (task_of s) s.slots serial none
    | inr more ↦ past_listed s.drawn (λ i. told_at (task_of s) s.slots (i + 1)) (serial - 1) None more
  ]

  -- whether its flow is marked stands there too
  changed_there : (key : ℕ) (live : Live) → slot_at s.slots key ≡ Some live → get_or (under_of s).marks.changed (live.serial - 1) false ≡ changed_at s.fresh s.runs key live
  changed_there key live at =
      let h = is.each key live at in
      let back : live.serial - 1 + 1 ≡ live.serial = omega (arith, h.from) in
      get_or-map (passes is_so) (told_by (changed_at s.fresh s.runs) s) (live.serial - 1) None
      ∙ ap (passes is_so) (at_listed s.drawn (λ i. told_at (changed_at s.fresh s.runs) s.slots (i + 1)) (live.serial - 1) None (omega (arith, h.from, h.to)) ∙ ap (told_at (changed_at s.fresh s.runs) s.slots) back ∙ told_found (changed_at s.fresh s.runs) s.slots live.serial key live is.apart at refl)

  marked_there : (key : ℕ) (live : Live) (at : slot_at s.slots key ≡ Some live) (full : IsTrue (takes_share live.kind)) → get_or (under_of s).marks.changed (live.serial - 1) false ≡ (is_in key s.fresh || ((is.each key live at).flow full).marked)
  marked_there key live at full =
      let has = (is.each key live at).flow full in
      changed_there key live at
      ∙ ap₂ (λ b o. is_in key s.fresh || (b && is_marked o)) full has.runs
      ∙ twice (is_in key s.fresh) has.marked
    where
      twice : (a b : Bool) → (a || (true && (a || b))) ≡ (a || b)
      twice true b = refl
      twice false b = refl

  pub drawn_told : length (under_of s).tasks ≡ s.drawn
  drawn_told = length-listed s.drawn (λ i. told_at (task_of s) s.slots (i + 1))

  running_there : (key : ℕ) (live : Live) → slot_at s.slots key ≡ Some live → IsTrue (takes_share live.kind) →
      running_under (under_of s) live.serial ≡ Some (record { flow = asked_by s key live; rate = 0; began = false; marked = get_or (under_of s).marks.changed (live.serial - 1) false })
  running_there key live at full =
      ap (λ o. option_map (λ flow. record { flow = flow; rate = 0; began = false; marked = get_or (under_of s).marks.changed (live.serial - 1) false }) (flow_in s.capacities o)) (task_there key live at)
      ∙ ap (option_map (λ flow. record { flow = flow; rate = 0; began = false; marked = get_or (under_of s).marks.changed (live.serial - 1) false })) (filled_flow s.capacities (task_of s key live) full)

  running_place : (i : ℕ) → i < s.drawn → get_or (runnings (under_of s)) i None ≡ running_under (under_of s) (i + 1)
  running_place i less = at_listed (length (under_of s).tasks) (λ j. running_under (under_of s) (j + 1)) i None (omega (arith, less, drawn_told))

  abbrev place : ℕ → ℕ
  place id = serial_at s.slots (slice_index s.by_flow id) - 1

  place_is : (id : ℕ) (of : IsFlowOf s id) → place id ≡ of.live.serial - 1
  place_is id of = ap (λ o. serial_in o - 1) of.there

  run_is : (id : ℕ) (of : IsFlowOf s id) (running : RunningFlow) → running_at s.runs id ≡ Some running → running ≡ run_of s (slice_index s.by_flow id) of.live ((is.each (slice_index s.by_flow id) of.live of.there).flow of.full).marked
  run_is id of running e = some_same (sym e ∙ ap (running_at s.runs) (sym of.is) ∙ ((is.each (slice_index s.by_flow id) of.live of.there).flow of.full).runs)

  to : (amount : Flow → Bool → ℕ) (id : ℕ) (running : RunningFlow) → running_at s.runs id ≡ Some running →
      (r : RunningFlow) × (get_or (runnings (under_of s)) (place id) None ≡ Some r) × (amount running.flow running.marked ≡ amount r.flow r.marked)
  to amount id running e =
      let of = is.back id running e in
      let key = slice_index s.by_flow id in
      let h = is.each key of.live of.there in
      let back : place id + 1 ≡ of.live.serial = omega (arith, place_is id of, h.from) in (
        record { flow = asked_by s key of.live; rate = 0; began = false; marked = get_or (under_of s).marks.changed (of.live.serial - 1) false },
        running_place (place id) (omega (arith, back, h.to)) ∙ ap (running_under (under_of s)) back ∙ running_there key of.live of.there of.full,
        ap (λ (r : RunningFlow). amount r.flow r.marked) (run_is id of running e)
            ∙ ap (amount (asked_by s key of.live)) (sym (marked_there key of.live of.there of.full)),
      )

  own : (i j : ℕ) (one other : RunningFlow) → running_at s.runs i ≡ Some one → running_at s.runs j ≡ Some other → place i ≡ place j → i ≡ j
  own i j one other a b e =
      let p = is.back i one a in
      let q = is.back j other b in
      let h = is.each (slice_index s.by_flow i) p.live p.there in
      let k = is.each (slice_index s.by_flow j) q.live q.there in
      let serials : p.live.serial ≡ q.live.serial = omega (arith, e, place_is i p, place_is j q, h.from, k.from) in
      let keys : slice_index s.by_flow i ≡ slice_index s.by_flow j = is.apart (slice_index s.by_flow i) (slice_index s.by_flow j) p.live q.live p.there q.there serials in
      let lives : p.live ≡ q.live = some_same (sym p.there ∙ ap (slot_at s.slots) keys ∙ q.there) in
      sym p.is ∙ ap (λ (l : Live). l.flow) lives ∙ q.is

  some_flow : (mark : Bool) (o : Option Task) (r : RunningFlow) → option_map (λ flow. record { flow = flow; rate = 0; began = false; marked = mark }) (flow_in s.capacities o) ≡ Some r → (t : Task) × (o ≡ Some t) × IsTrue (takes_share t.kind)
  some_flow mark None r e = absurd (cc e)
  some_flow mark (Some t) r e = cases (takes_share t.kind) refl e
    where
      cases : (b : Bool) → takes_share t.kind ≡ b → option_map (λ flow. record { flow = flow; rate = 0; began = false; marked = mark }) (cond b (Some (flow_of s.capacities t)) None) ≡ Some r → (u : Task) × (Some t ≡ Some u) × IsTrue (takes_share u.kind)
      cases true full z = (t, refl, full)
      cases false full z = absurd (cc z)

  -- the activity of an id that runs
  runs_under : (serial : ℕ) (r : RunningFlow) → 0 < serial → serial ≤ s.drawn → running_under (under_of s) serial ≡ Some r → (f : Sought s.slots serial) × IsTrue (takes_share f.live.kind)
  runs_under serial r from to e =
      let t = some_flow (get_or (under_of s).marks.changed (serial - 1) false) (task_at (under_of s).tasks serial) r e in
      let f = told_from (task_of s) s.slots serial t.0 is.apart (sym (task_told s serial from to) ∙ t.1) in
      (f.0, ap (λ (u : Task). takes_share u.kind) f.1 ∙ t.2)

  from : (j : ℕ) (r : RunningFlow) → get_or (runnings (under_of s)) j None ≡ Some r → (i : ℕ) × (x : RunningFlow) × (running_at s.runs i ≡ Some x) × (place i ≡ j)
  from j r e =
      let less : j < s.drawn = omega (arith, there_within (runnings (under_of s)) j r e, length-listed (length (under_of s).tasks) (λ k. running_under (under_of s) (k + 1)), drawn_told) in
      let f = runs_under (j + 1) r (omega arith) (omega (arith, less)) (sym (running_place j less) ∙ e) in
      let key = f.0.key in
      let has = (is.each key f.0.live f.0.at).flow f.1 in
      (f.0.live.flow, run_of s key f.0.live has.marked, has.runs, ap (λ k. serial_at s.slots k - 1) has.known ∙ ap (λ o. serial_in o - 1) f.0.at ∙ back f.0.is)
    where
      back : {n : ℕ} → n ≡ j + 1 → n - 1 ≡ j
      back e = omega (arith, e)

  pub same_running : SameRunning (running_flows s.runs) (filter_map (λ slot. slot) (runnings (under_of s)))
  same_running amount =
      let f : RunningFlow → ℕ = λ (r : RunningFlow). amount r.flow r.marked in
      sum_by-there f (λ slot. slot) s.runs
      ∙ paired_sums f f s.runs (runnings (under_of s)) place (record { to = to amount; own = own; from = from })
      ∙ sym (sum_by-there f (λ slot. slot) (runnings (under_of s)))

  pub work_told : work (running_flows s.runs) s.ended s.resources ≡ work_of (under_of s)
  unfolding work_of
  work_told = work_same (running_flows s.runs) (filter_map (λ slot. slot) (runnings (under_of s))) same_running s.ended s.resources

  -- ---- the flows
  flow_parts : (h : Flow → ℕ) (o : Option RunningFlow) → part h (option_map (λ (r : RunningFlow). r.flow) o) ≡ part (λ (r : RunningFlow). h r.flow) o
  flow_parts h None = refl
  flow_parts h (Some r) = refl

  made_parts : (h : Flow → ℕ) (b : Bool) (o : Option Flow) → part (λ (r : RunningFlow). h r.flow) (option_map (λ flow. record { flow = flow; rate = 0; began = false; marked = b }) o) ≡ part h o
  made_parts h b None = refl
  made_parts h b (Some f) = refl

  sums : HaveSameSums (flows_in s.runs) (flows s.capacities (under_of s).tasks)
  unfolding flows
  sums h =
      let g : RunningFlow → ℕ = λ (r : RunningFlow). h r.flow in
      let tasks = (under_of s).tasks in
      sum_by-there h (option_map (λ (r : RunningFlow). r.flow)) s.runs
      ∙ sum_alike (λ o. part h (option_map (λ (r : RunningFlow). r.flow) o)) (part g) s.runs s.runs None None refl (λ i. flow_parts h (get_or s.runs i None))
      ∙ sym (sum_by-there g (λ slot. slot) s.runs)
      ∙ same_running (λ f b. h f)
      ∙ sum_by-there g (λ slot. slot) (runnings (under_of s))
      ∙ sum_alike (part g) (λ t. part h (flow_in s.capacities t)) (runnings (under_of s)) tasks None None (length-listed (length tasks) (λ k. running_under (under_of s) (k + 1))) (λ i. alike i (less_or i (length tasks)))
      ∙ sym (sum_by-there h (flow_in s.capacities) tasks)
    where
      back : (i : ℕ) → i + 1 - 1 ≡ i
      back i = omega arith

      alike : (i : ℕ) → (i < length (under_of s).tasks) ⊎ (length (under_of s).tasks ≤ i) → part (λ (r : RunningFlow). h r.flow) (get_or (runnings (under_of s)) i None) ≡ part h (flow_in s.capacities (get_or (under_of s).tasks i None))
      alike i (inl less) =
          ap (part (λ (r : RunningFlow). h r.flow)) (at_listed (length (under_of s).tasks) (λ j. running_under (under_of s) (j + 1)) i None less)
          ∙ made_parts h (get_or (under_of s).marks.changed (i + 1 - 1) false) (flow_in s.capacities (task_at (under_of s).tasks (i + 1)))
          ∙ ap (λ n. part h (flow_in s.capacities (get_or (under_of s).tasks n None))) (back i)
      alike i (inr more) =
          ap (part (λ (r : RunningFlow). h r.flow)) (past_listed (length (under_of s).tasks) (λ j. running_under (under_of s) (j + 1)) i None more)
          ∙ sym (ap (λ o. part h (flow_in s.capacities o)) (past_listed s.drawn (λ j. told_at (task_of s) s.slots (j + 1)) i None (omega (arith, more, drawn_told))))

  in_cons_option : {Y : Type 0} (o : Option Y) (ys : List Y) (y : Y) → In y (cons_option o ys) → (o ≡ Some y) ⊎ In y ys
  in_cons_option None ys y i = inr i
  in_cons_option (Some x) ys y (inl e) = inl (ap (λ w. Some w) e)
  in_cons_option (Some x) ys y (inr i) = inr i

  -- each flow is that of a running phase
  flow_from : (c : Capacities) (tasks : List (Option Task)) (f : Flow) → In f (flows c tasks) → (i : ℕ) × (t : Task) × (get_or tasks i None ≡ Some t) × IsTrue (takes_share t.kind) × (flow_of c t ≡ f)
  unfolding flows
  flow_from c [] f i = absurd i
  flow_from c (None ∷ tasks) f i = let r = flow_from c tasks f i in (suc r.0, r.1, r.2, r.3, r.4)
  flow_from c (Some t ∷ tasks) f i = elim (in_cons_option (flow_in c (Some t)) (filter_map (flow_in c) tasks) f i) [
    | inl e ↦ let both = cond_some (takes_share t.kind) (flow_of c t) f e in (0, t, refl, both.0, both.1)
    | inr j ↦ let r = flow_from c tasks f j in (suc r.0, r.1, r.2, r.3, r.4)
  ]

  pub limits : HaveLimits (flows s.capacities (under_of s).tasks)
  limits f there =
      let r = flow_from s.capacities (under_of s).tasks f (In-from_contains (flows s.capacities (under_of s).tasks) f there) in
      let less : r.0 < s.drawn = omega (arith, there_within (under_of s).tasks r.0 r.1 r.2, drawn_told) in
      let told = told_from (task_of s) s.slots (r.0 + 1) r.1 is.apart (sym (at_listed s.drawn (λ j. told_at (task_of s) s.slots (j + 1)) r.0 None less) ∙ r.2) in
      let full : IsTrue (takes_share told.0.live.kind) = ap (λ (t : Task). takes_share t.kind) told.1 ∙ r.3 in
      subst HasLimit (ap (flow_of s.capacities) told.1 ∙ r.4) ((is.each told.0.key told.0.live told.0.at).flow full).limit

  mapped_held : (runs : List (Option RunningFlow)) → held (map (option_map (λ (r : RunningFlow). r.flow)) runs) ≡ flows_in runs
  mapped_held [] = refl
  mapped_held (None ∷ runs) = mapped_held runs
  mapped_held (Some r ∷ runs) = ap (λ l. r.flow ∷ l) (mapped_held runs)

  mapped_there : (runs : List (Option RunningFlow)) (id : ℕ) (r : RunningFlow) → running_at runs id ≡ Some r → get_or (map (option_map (λ (q : RunningFlow). q.flow)) runs) id None ≡ Some r.flow
  mapped_there [] id r e = absurd (cc e)
  mapped_there (x ∷ runs) zero r e = ap (option_map (λ (q : RunningFlow). q.flow)) e
  mapped_there (x ∷ runs) (suc id) r e = mapped_there runs id r e

  pub rate_told : IsTrue s.settled → (key : ℕ) (live : Live) → slot_at s.slots key ≡ Some live → rate (under_of s) (task_of s key live) ≡ live.rate
  unfolding rate
  rate_told set key live at = cases (takes_share live.kind) refl
    where
      cases : (b : Bool) → takes_share live.kind ≡ b → ◌≡◌ {A = ℕ} (cond b (share_of (capacities_of s.capacities) (flows s.capacities (under_of s).tasks) (asked_by s key live)) (pace live.kind)) live.rate
      cases true full =
          let has = (is.each key live at).flow full in
          sym (is.rates set live.flow (run_of s key live has.marked) has.runs
          ∙ shares_same_lem (capacities_of s.capacities) (flows_in s.runs) (flows s.capacities (under_of s).tasks) (asked_by s key live) sums limits
          (subst (λ l. Contains l (asked_by s key live)) (mapped_held s.runs) (is_held_lem (map (option_map (λ (r : RunningFlow). r.flow)) s.runs) live.flow (asked_by s key live) (mapped_there s.runs live.flow (run_of s key live has.marked) has.runs))))
      cases false empty = sym ((is.each key live at).paced empty)

  pub wait_told : IsTrue s.settled → (key : ℕ) (live : Live) → slot_at s.slots key ≡ Some live → wait_in (under_of s) (task_of s key live) ≡ cond (is_held live.kind) None (wait live.rate (left_at live.kept live.rate live.stamp s.date))
  wait_told set key live at = ap (λ r. cond (is_held live.kind) None (wait r (left_at live.kept live.rate live.stamp s.date))) (rate_told set key live at)
