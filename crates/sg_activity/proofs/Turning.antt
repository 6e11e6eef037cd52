-- How starts and ends of phases change what is kept.
use Rattle.std.proofs.Common.{◌≡◌, ◌≢◌, ℕ, ◌+◌, ◌-◌, ◌*◌, ◌^◌, ◌<◌, ◌≤◌, ◌||◌, Bool, true, false, cond, true≢false, is_some, Option, None, Some, option_map, option_to_list, List, [], ◌∷◌, ◌++◌, length, set, length-set, get_or-set_same, slice_index, IsTrue, refl, sym, ap, ap₂, subst, ◌∙◌, arith}
use Rattle.std.proofs.lemmas.List.{append-nil}
use Rattle.sg_base.specs.declared.ids.LinkId.{LinkId}
use Rattle.sg_base.specs.Limits.{IsPriority}
use Rattle.sg_base.specs.MarkSet.{is_in, with_mark}
use Rattle.sg_heap.specs.Agenda.{Key, key_at}
use Rattle.sg_maxmin.specs.Fill.{Flow}
use Rattle.sg_maxmin.specs.Sharing.{HasLimit}
use Rattle.sg_lazy.specs.RunningFlow.{RunningFlow, running_at}
use Rattle.sg_activity_table.specs.declared.kinds.PhaseKind.{PhaseKind}
use Rattle.sg_activity_table.specs.declared.kinds.PhaseKind.TheVariants as phase
use Rattle.sg_activity_table.specs.declared.lives.Live.{Live}
use Rattle.sg_activity.specs.Links.{Capacities}
use Rattle.sg_activity.specs.Task.{Task, flow_in, flow_of, next_phase, rekinded}
use Rattle.sg_activity_table.specs.Kinds.{takes_share, pace, is_held}
use Rattle.sg_activity.specs.Underway.{with_task}
use Rattle.sg_activity.specs.kept.Stamps.{left_at, due_of}
use Rattle.sg_activity_table.specs.Pool.{links_of, slot_at}
use Rattle.sg_activity.specs.kept.State.{State, links_at, place_of, task_from, task_of, asked_by, told_at, under_of}
use Rattle.sg_activity.specs.kept.Sound.{IsPlace, IsPlaceOf, IsHeld, IsFlowOf, IsKept, place_at}
use Rattle.sg_activity_table.specs.Kinds.{flows_ahead}
use Rattle.sg_activity.specs.kept.Turns.{Turns}
use Rattle.sg_activity.proofs.Listing.{some_same}
use Rattle.sg_activity.proofs.Lookup.{told_found}
use Rattle.sg_activity.proofs.Starts.{held_unfilled, held_filled, back_still, flows_came, back_came, flows_went, back_went, fresh_serial, idle_serial, own_serial, set_here, set_there}
use Rattle.sg_activity.proofs.Told.{mark_self, mark_other, under_set, changed_here, changed_gone}
use Rattle.sg_activity.proofs.Turned.{told_here, told_gone}

pub left_fresh : (kept rate date : ℕ) → left_at kept rate date date ≡ kept
left_fresh kept rate date = let e : date - date ≡ 0 = omega arith in ap (λ n. kept - rate * n) e ∙ none rate
  where
    none : (rate : ℕ) → kept - rate * 0 ≡ kept
    none rate = omega arith

-- what is under a free key
nothing_there : {X : Type 0} (o : Option X) → o ≡ None → (x : X) → o ≡ Some x → ⊥
nothing_there o none x e = cc (sym none ∙ e)

-- ---- states
abbrev pub begun_state : State → ℕ → ℕ → Live → (ℕ → List LinkId) → List (Option Key) → List (Option RunningFlow) → List ℕ → State
begun_state s drawn key live ways keys runs by_flow = record s {
  drawn = drawn;
  slots = set s.slots key (Some live);
  ways = ways;
  keys = keys;
  runs = runs;
  by_flow = by_flow;
  fresh = with_mark key s.fresh;
  settled = false;
}

abbrev pub ended_state : State → ℕ → (ℕ → List LinkId) → List (Option RunningFlow) → List Flow → State
ended_state s key ways runs ended = record s {
  slots = set s.slots key None;
  ways = ways;
  keys = set s.keys key None;
  runs = runs;
  ended = ended;
  settled = false;
}

abbrev pub held_state : State → ℕ → Live → List (Option RunningFlow) → List Flow → State
held_state s key live runs ended = record s {
  slots = set s.slots key (Some live);
  keys = set s.keys key None;
  runs = runs;
  fresh = with_mark key s.fresh;
  ended = ended;
  settled = false;
}

-- what begins under a key and an activity id
pub record Begins (s : State) (drawn key : ℕ) (live : Live) (keys : List (Option Key)) : Type 0 where
  pub key_in : key < length s.slots
  pub from : 0 < live.serial
  pub to : live.serial ≤ drawn
  pub more : s.drawn ≤ drawn
  pub stamp : live.stamp ≡ s.date
  pub small : live.kept ≤ 10 ^ 24
  pub bytes : live.bytes ≤ 10 ^ 15
  pub fits : IsPlaceOf live.kind live.place
  pub weighs : IsPriority live.weight
  pub unfilled : (old : Live) → slot_at s.slots key ≡ Some old → takes_share old.kind ≡ false
  pub was : (old : Live) → slot_at s.slots key ≡ Some old → old.serial ≡ live.serial
  pub alone : (k : ℕ) (other : Live) → k ≢ key → slot_at s.slots k ≡ Some other → other.serial ≢ live.serial
  pub no_key : key_at keys key ≡ None
  pub others : (k : ℕ) → k ≢ key → key_at keys k ≡ key_at s.keys k

-- a flow begins
pub flow_turns : (s : State) (drawn key : ℕ) (live : Live) (keys : List (Option Key)) → IsKept s → Begins s drawn key live keys → IsTrue (takes_share live.kind) → live.rate ≡ 0 → running_at s.runs live.flow ≡ None → live.flow < length s.runs → live.flow < length s.by_flow →
    HasLimit (flow_of s.capacities (task_from s.date (links_at s.ways key) live)) → IsPlace s.capacities (place_at s key live) →
    Turns s (begun_state s drawn key live s.ways keys (set s.runs live.flow (Some (record { flow = flow_of s.capacities (task_from s.date (links_at s.ways key) live); rate = 0; began = true; marked = true }))) (set s.by_flow live.flow key)) key live.serial (Some live)
flow_turns s drawn key live keys is b full rate idle id_in by_in limit placed = record {
  capacities = refl;
  resources = refl;
  on = refl;
  date = refl;
  drawn = b.more;
  unsettled = refl;
  arrived = refl;
  longer = omega (arith, length-set s.slots key (Some live));
  within = omega (arith, b.key_in, length-set s.slots key (Some live));
  here = here;
  others = others;
  ways = λ k ne. refl;
  keys = b.others;
  no_key = b.no_key;
  fresh = λ k ne. mark_other key k s.fresh ne;
  by_flow_long = omega (arith, length-set s.by_flow live.flow key);
  flows = λ k other ne at filled. flows_came s key live.flow is run idle k other at filled;
  back = back_came s key live.flow is new run live idle b.unfilled by_in refl refl others here full refl;
  holds = λ l e. subst (IsHeld new key) (some_same e) (held_filled new key live full b.from b.to b.stamp b.small b.bytes b.weighs
      (set_here s.runs live.flow (Some run) id_in ∙ ap (λ r. Some (record { flow = asked; rate = r; began = true; marked = true })) (sym rate)) limit placed b.fits (omega (arith, by_in, length-set s.by_flow live.flow key))
      (get_or-set_same s.by_flow live.flow key 0 by_in) (mark_self key s.fresh) b.no_key);
  was = b.was;
  is = λ l e. ap (λ (x : Live). x.serial) (sym (some_same e));
  stamped = λ l e. ap (λ (x : Live). x.stamp) (sym (some_same e)) ∙ b.stamp;
  unrated = λ l e _. ap (λ (x : Live). x.rate) (sym (some_same e)) ∙ rate;
  alone = b.alone;
}
  where
    asked : Flow
    asked = flow_of s.capacities (task_from s.date (links_at s.ways key) live)

    run : RunningFlow
    run = record { flow = asked; rate = 0; began = true; marked = true }

    new : State
    new = begun_state s drawn key live s.ways keys (set s.runs live.flow (Some run)) (set s.by_flow live.flow key)

    here : slot_at (set s.slots key (Some live)) key ≡ Some live
    here = set_here s.slots key (Some live) b.key_in

    others : (k : ℕ) → k ≢ key → slot_at (set s.slots key (Some live)) k ≡ slot_at s.slots k
    others k ne = set_there s.slots key k (Some live) ne

-- a sleep or a latency begins
pub time_turns : (s : State) (drawn key : ℕ) (live : Live) (ways : ℕ → List LinkId) → IsKept s → Begins s drawn key live s.keys → slot_at s.slots key ≡ None → takes_share live.kind ≡ false → live.rate ≡ pace live.kind → ((k : ℕ) → k ≢ key → links_at ways k ≡ links_at s.ways k) →
    IsPlace s.capacities (place_of live.place (links_at ways key)) → (live.kind ≡ phase.Latency → length (links_at ways key) ≤ links_of live.place) → Turns s (begun_state s drawn key live ways s.keys s.runs s.by_flow) key live.serial (Some live)
time_turns s drawn key live ways is b free empty rate ways_same placed counted = record {
  capacities = refl;
  resources = refl;
  on = refl;
  date = refl;
  drawn = b.more;
  unsettled = refl;
  arrived = refl;
  longer = omega (arith, length-set s.slots key (Some live));
  within = omega (arith, b.key_in, length-set s.slots key (Some live));
  here = set_here s.slots key (Some live) b.key_in;
  others = others;
  ways = ways_same;
  keys = b.others;
  no_key = b.no_key;
  fresh = λ k ne. mark_other key k s.fresh ne;
  by_flow_long = omega arith;
  flows = λ k other ne at filled. (refl, refl);
  back = λ id r e. back_still s new key id (λ old at. absurd (nothing_there (slot_at s.slots key) free old at)) others refl (is.back id r e);
  holds = λ l e. subst (IsHeld new key) (some_same e) (held_unfilled new key live empty b.from b.to b.stamp rate b.small b.bytes b.weighs placed b.fits counted (mark_self key s.fresh) b.no_key);
  was = b.was;
  is = λ l e. ap (λ (x : Live). x.serial) (sym (some_same e));
  stamped = λ l e. ap (λ (x : Live). x.stamp) (sym (some_same e)) ∙ b.stamp;
  unrated = λ l e full. absurd (true≢false (sym full ∙ ap (λ (x : Live). takes_share x.kind) (sym (some_same e)) ∙ empty));
  alone = b.alone;
}
  where
    new : State
    new = begun_state s drawn key live ways s.keys s.runs s.by_flow

    others : (k : ℕ) → k ≢ key → slot_at (set s.slots key (Some live)) k ≡ slot_at s.slots k
    others k ne = set_there s.slots key k (Some live) ne

-- what happens to the flows as an activity is done
pub data Went (s : State) (live : Live) (runs : List (Option RunningFlow)) : Type 0 where
  with_flow : IsTrue (takes_share live.kind) → runs ≡ set s.runs live.flow None → Went s live runs
  without : takes_share live.kind ≡ false → runs ≡ s.runs → Went s live runs

-- an activity is done
pub end_turns : (s : State) (key : ℕ) (live : Live) (ways : ℕ → List LinkId) (runs : List (Option RunningFlow)) (ended : List Flow) → IsKept s → slot_at s.slots key ≡ Some live → key < length s.slots → key < length s.keys → ((k : ℕ) → k ≢ key → links_at ways k ≡ links_at s.ways k) → Went s live runs → Turns s (ended_state s key ways runs ended) key live.serial None
end_turns s key live ways runs ended is at key_in keys_in ways_same went = record {
  capacities = refl;
  resources = refl;
  on = refl;
  date = refl;
  drawn = omega arith;
  unsettled = refl;
  arrived = refl;
  longer = omega (arith, length-set s.slots key None);
  within = omega (arith, key_in, length-set s.slots key None);
  here = set_here s.slots key None key_in;
  others = others;
  ways = ways_same;
  keys = λ k ne. set_there s.keys key k None ne;
  no_key = set_here s.keys key None keys_in;
  fresh = λ k ne. refl;
  by_flow_long = omega arith;
  flows = λ k other ne at' filled. flows went k other ne at' filled;
  back = λ id r e. back went id r e;
  holds = λ l e. absurd (cc e);
  was = λ old e. ap (λ (x : Live). x.serial) (some_same (sym e ∙ at));
  is = λ l e. absurd (cc e);
  stamped = λ l e. absurd (cc e);
  unrated = λ l e _. absurd (cc e);
  alone = λ k other ne at'. own_serial s key live is at k other ne at';
}
  where
    others : (k : ℕ) → k ≢ key → slot_at (set s.slots key None) k ≡ slot_at s.slots k
    others k ne = set_there s.slots key k None ne

    flows : Went s live runs → (k : ℕ) (other : Live) → k ≢ key → slot_at s.slots k ≡ Some other → IsTrue (takes_share other.kind) → (running_at runs other.flow ≡ running_at s.runs other.flow) × (slice_index s.by_flow other.flow ≡ slice_index s.by_flow other.flow)
    flows (with_flow full e) k other ne at' filled = (ap (λ l. running_at l other.flow) e ∙ flows_went s key live.flow is live at full refl k other ne at' filled, refl)
    flows (without empty e) k other ne at' filled = (ap (λ l. running_at l other.flow) e, refl)

    back : Went s live runs → (id : ℕ) (r : RunningFlow) → running_at runs id ≡ Some r → IsFlowOf (ended_state s key ways runs ended) id
    back (with_flow full e) id r z = back_went s key live.flow is (ended_state s key ways runs ended) live at full refl e refl others id r z
    back (without empty e) id r z = back_still s (ended_state s key ways runs ended) key id (λ old at' filled. absurd (true≢false (sym filled ∙ ap (λ (l : Live). takes_share l.kind) (some_same (sym at' ∙ at)) ∙ empty))) others refl (is.back id r (ap (λ l. running_at l id) (sym e) ∙ z))

-- ---- what follows
latency_next : (kind : PhaseKind) (task : Task) → kind ≡ phase.Latency → next_phase kind task ≡ Some (record task { kind = phase.Flow; left = task.bytes * 1000000000 })
latency_next phase.Latency task e = refl
latency_next phase.Flow task e = absurd (cc e)
latency_next phase.Exec task e = absurd (cc e)
latency_next phase.Timer task e = absurd (cc e)
latency_next phase.Kept task e = absurd (cc e)

pub last_next : (kind : PhaseKind) (task : Task) → flows_ahead kind ≡ 0 → next_phase kind task ≡ None
last_next phase.Latency task none = absurd (omega (arith, none))
last_next phase.Flow task none = refl
last_next phase.Exec task none = refl
last_next phase.Timer task none = refl
last_next phase.Kept task none = refl

unfilled_flow : (c : Capacities) (t : Task) → takes_share t.kind ≡ false → flow_in c (Some t) ≡ None
unfilled_flow c t empty = ap (λ b. cond b (Some (flow_of c t)) None) empty

filled_flow : (c : Capacities) (t : Task) → IsTrue (takes_share t.kind) → flow_in c (Some t) ≡ Some (flow_of c t)
filled_flow c t full = ap (λ b. cond b (Some (flow_of c t)) None) full

-- a phase takes the place of one that took no share
again_under : (s : State) (key : ℕ) (old live : Live) (keys : List (Option Key)) (runs : List (Option RunningFlow)) (by_flow : List ℕ) → IsKept s → slot_at s.slots key ≡ Some old → takes_share old.kind ≡ false → live.serial ≡ old.serial →
    Turns s (begun_state s s.drawn key live s.ways keys runs by_flow) key live.serial (Some live) → under_of (begun_state s s.drawn key live s.ways keys runs by_flow) ≡ with_task old.serial (Some (task_from s.date (links_at s.ways key) live)) (under_of s)
again_under s key old live keys runs by_flow is at empty serial by =
    let new = begun_state s s.drawn key live s.ways keys runs by_flow in
    let h = is.each key old at in
    let before : told_at (task_of s) s.slots live.serial ≡ Some (task_of s key old) = told_found (task_of s) s.slots live.serial key old is.apart at (sym serial) in
    under_set s new key live.serial (Some live) is by (Some (task_of new key live)) refl (omega (arith, h.from, serial)) (omega (arith, h.to, serial)) (told_here s new key live.serial (Some live) is by (task_of new) live refl)
    (ap (λ o. is_some o || true) before) (changed_here s new key live.serial (Some live) is by live refl (mark_self key s.fresh))
    (sym (append-nil s.ended) ∙ ap (λ o. s.ended ++ option_to_list o) (sym (ap (flow_in s.capacities) before ∙ unfilled_flow s.capacities (task_of s key old) empty)))
    ∙ ap (λ n. with_task n (Some (task_of new key live)) (under_of s)) serial

-- after a latency the bytes flow
pub flow_under : (s : State) (key : ℕ) (old live : Live) (keys : List (Option Key)) (runs : List (Option RunningFlow)) (by_flow : List ℕ) → IsKept s → slot_at s.slots key ≡ Some old → old.kind ≡ phase.Latency →
    live ≡ record old { kind = phase.Flow; kept = old.bytes * 1000000000; stamp = s.date; rate = 0; flow = live.flow } →
    Turns s (begun_state s s.drawn key live s.ways keys runs by_flow) key live.serial (Some live) → under_of (begun_state s s.drawn key live s.ways keys runs by_flow) ≡ with_task old.serial (next_phase old.kind (task_of s key old)) (under_of s)
flow_under s key old live keys runs by_flow is at latency live_is by =
    let place : task_from s.date (links_at s.ways key) (record old { kind = phase.Flow; kept = old.bytes * 1000000000; stamp = s.date; rate = 0; flow = live.flow }) ≡ record (task_of s key old) { kind = phase.Flow; left = old.bytes * 1000000000 } =
    ap (λ n. record { kind = phase.Flow; left = n; place = place_of old.place (links_at s.ways key); weight = old.weight; bound = old.bound; bytes = old.bytes }) (left_fresh (old.bytes * 1000000000) 0 s.date) in
    let next : Some (task_from s.date (links_at s.ways key) live) ≡ next_phase old.kind (task_of s key old) = ap Some (ap (task_from s.date (links_at s.ways key)) live_is ∙ place) ∙ sym (latency_next old.kind (task_of s key old) latency) in
    again_under s key old live keys runs by_flow is at (ap takes_share latency) (ap (λ (l : Live). l.serial) live_is) by
    ∙ ap (λ o. with_task old.serial o (under_of s)) next

left_kept : (kept rate stamp now : ℕ) → rate ≡ 0 → left_at kept rate stamp now ≡ kept
left_kept kept rate stamp now e = ap (λ r. kept - r * (now - stamp)) e ∙ none (now - stamp)
  where
    none : (n : ℕ) → kept - 0 * n ≡ kept
    none n = omega arith

-- a suspended execution is resumed
pub resumed_under : (s : State) (key : ℕ) (old live : Live) (runs : List (Option RunningFlow)) (by_flow : List ℕ) → IsKept s → slot_at s.slots key ≡ Some old → old.kind ≡ phase.Kept →
    live ≡ record old { kind = phase.Exec; stamp = s.date; rate = 0; flow = live.flow } →
    Turns s (begun_state s s.drawn key live s.ways s.keys runs by_flow) key live.serial (Some live) → under_of (begun_state s s.drawn key live s.ways s.keys runs by_flow) ≡ with_task old.serial (Some (rekinded phase.Exec (task_of s key old))) (under_of s)
resumed_under s key old live runs by_flow is at kept live_is by =
    let stopped : old.rate ≡ 0 = (is.each key old at).paced (ap takes_share kept) ∙ ap pace kept in
    let place : task_from s.date (links_at s.ways key) (record old { kind = phase.Exec; stamp = s.date; rate = 0; flow = live.flow }) ≡ rekinded phase.Exec (task_of s key old) =
    ap (λ n. record { kind = phase.Exec; left = n; place = place_of old.place (links_at s.ways key); weight = old.weight; bound = old.bound; bytes = old.bytes }) (left_fresh old.kept 0 s.date ∙ sym (left_kept old.kept old.rate old.stamp s.date stopped)) in
    again_under s key old live s.keys runs by_flow is at (ap takes_share kept) (ap (λ (l : Live). l.serial) live_is) by
    ∙ ap (λ t. with_task old.serial (Some t) (under_of s)) (ap (task_from s.date (links_at s.ways key)) live_is ∙ place)

-- the activity is done, or given up
pub end_under : (s : State) (key : ℕ) (live : Live) (ways : ℕ → List LinkId) (runs : List (Option RunningFlow)) (ended : List Flow) → IsKept s → slot_at s.slots key ≡ Some live →
    ended ≡ s.ended ++ option_to_list (flow_in s.capacities (Some (task_of s key live))) → Turns s (ended_state s key ways runs ended) key live.serial None → under_of (ended_state s key ways runs ended) ≡ with_task live.serial None (under_of s)
end_under s key live ways runs ended is at ended_is by =
    let new = ended_state s key ways runs ended in
    let h = is.each key live at in
    let before = told_found (task_of s) s.slots live.serial key live is.apart at refl in
    under_set s new key live.serial None is by None refl h.from h.to (told_gone s new key live.serial None is by (task_of new) refl) (ap (λ o. is_some o || false) before) (changed_gone s new key live.serial None is by refl)
    (ended_is ∙ ap (λ o. s.ended ++ option_to_list (flow_in s.capacities o)) (sym before))

pub ended_filled : (s : State) (key : ℕ) (live : Live) → IsTrue (takes_share live.kind) → s.ended ++ asked_by s key live ∷ [] ≡ s.ended ++ option_to_list (flow_in s.capacities (Some (task_of s key live)))
ended_filled s key live full = ap (λ o. s.ended ++ option_to_list o) (sym (filled_flow s.capacities (task_of s key live) full))

pub ended_unfilled : (s : State) (key : ℕ) (live : Live) → takes_share live.kind ≡ false → s.ended ≡ s.ended ++ option_to_list (flow_in s.capacities (Some (task_of s key live)))
ended_unfilled s key live empty = sym (append-nil s.ended) ∙ ap (λ o. s.ended ++ option_to_list o) (sym (unfilled_flow s.capacities (task_of s key live) empty))

-- ---- an execution is suspended
pub held_turns : (s : State) (key : ℕ) (old live : Live) (ended : List Flow) → IsKept s → slot_at s.slots key ≡ Some old → IsTrue (takes_share old.kind) → key < length s.slots → key < length s.keys → live.serial ≡ old.serial → live.stamp ≡ s.date → takes_share live.kind ≡ false →
    IsHeld (held_state s key live (set s.runs old.flow None) ended) key live → Turns s (held_state s key live (set s.runs old.flow None) ended) key live.serial (Some live)
held_turns s key old live ended is at full key_in keys_in serial stamp empty held = record {
  capacities = refl;
  resources = refl;
  on = refl;
  date = refl;
  drawn = omega arith;
  unsettled = refl;
  arrived = refl;
  longer = omega (arith, length-set s.slots key (Some live));
  within = omega (arith, key_in, length-set s.slots key (Some live));
  here = set_here s.slots key (Some live) key_in;
  others = others;
  ways = λ k ne. refl;
  keys = λ k ne. set_there s.keys key k None ne;
  no_key = set_here s.keys key None keys_in;
  fresh = λ k ne. mark_other key k s.fresh ne;
  by_flow_long = omega arith;
  flows = λ k other ne at' filled. (flows_went s key old.flow is old at full refl k other ne at' filled, refl);
  back = back_went s key old.flow is (held_state s key live (set s.runs old.flow None) ended) old at full refl refl refl others;
  holds = λ l e. subst (IsHeld (held_state s key live (set s.runs old.flow None) ended) key) (some_same e) held;
  was = λ other e. ap (λ (x : Live). x.serial) (some_same (sym e ∙ at)) ∙ sym serial;
  is = λ l e. ap (λ (x : Live). x.serial) (sym (some_same e));
  stamped = λ l e. ap (λ (x : Live). x.stamp) (sym (some_same e)) ∙ stamp;
  unrated = λ l e taken. absurd (true≢false (sym taken ∙ ap (λ (x : Live). takes_share x.kind) (sym (some_same e)) ∙ empty));
  alone = λ k other ne at' e. own_serial s key old is at k other ne at' (e ∙ serial);
}
  where
    others : (k : ℕ) → k ≢ key → slot_at (set s.slots key (Some live)) k ≡ slot_at s.slots k
    others k ne = set_there s.slots key k (Some live) ne

pub held_under : (s : State) (key : ℕ) (old live : Live) (runs : List (Option RunningFlow)) (ended : List Flow) → IsKept s → slot_at s.slots key ≡ Some old → old.kind ≡ phase.Exec →
    live ≡ record old { kind = phase.Kept; kept = left_at old.kept old.rate old.stamp s.date; stamp = s.date; rate = 0 } →
    ended ≡ s.ended ++ option_to_list (flow_in s.capacities (Some (task_of s key old))) → Turns s (held_state s key live runs ended) key live.serial (Some live) →
    under_of (held_state s key live runs ended) ≡ with_task old.serial (Some (rekinded phase.Kept (task_of s key old))) (under_of s)
held_under s key old live runs ended is at exec live_is ended_is by =
    let new = held_state s key live runs ended in
    let h = is.each key old at in
    let serial : live.serial ≡ old.serial = ap (λ (l : Live). l.serial) live_is in
    let before : told_at (task_of s) s.slots live.serial ≡ Some (task_of s key old) = told_found (task_of s) s.slots live.serial key old is.apart at (sym serial) in
    let place : task_from s.date (links_at s.ways key) (record old { kind = phase.Kept; kept = left_at old.kept old.rate old.stamp s.date; stamp = s.date; rate = 0 }) ≡ rekinded phase.Kept (task_of s key old) =
    ap (λ n. record { kind = phase.Kept; left = n; place = place_of old.place (links_at s.ways key); weight = old.weight; bound = old.bound; bytes = old.bytes }) (left_fresh (left_at old.kept old.rate old.stamp s.date) 0 s.date) in
    under_set s new key live.serial (Some live) is by (Some (task_of new key live)) refl (omega (arith, h.from, serial)) (omega (arith, h.to, serial)) (told_here s new key live.serial (Some live) is by (task_of new) live refl)
    (ap (λ o. is_some o || true) before) (changed_here s new key live.serial (Some live) is by live refl (mark_self key s.fresh))
    (ended_is ∙ ap (λ o. s.ended ++ option_to_list (flow_in s.capacities o)) (sym before))
    ∙ ap₂ (λ n t. with_task n (Some t) (under_of s)) serial (ap (task_from s.date (links_at s.ways key)) live_is ∙ place)

-- ---- what begins
-- the next activity id begins
pub new_begins : (s : State) (key : ℕ) (live : Live) → IsKept s → key < length s.slots → slot_at s.slots key ≡ None → live.serial ≡ s.drawn + 1 → live.stamp ≡ s.date → live.kept ≤ 10 ^ 24 → live.bytes ≤ 10 ^ 15 → IsPriority live.weight → IsPlaceOf live.kind live.place → Begins s (s.drawn + 1) key live s.keys
new_begins s key live is within free serial stamp small bytes weighs fits = record {
  key_in = within;
  from = omega (arith, serial);
  to = omega (arith, serial);
  more = omega arith;
  stamp = stamp;
  small = small;
  bytes = bytes;
  fits = fits;
  weighs = weighs;
  unfilled = λ old at. absurd (nothing_there (slot_at s.slots key) free old at);
  was = λ old at. absurd (nothing_there (slot_at s.slots key) free old at);
  alone = λ k other ne at. fresh_serial s live.serial is (omega (arith, serial)) k other at;
  no_key = is.idle key free;
  others = λ k ne. refl;
}

-- an activity begins whose id was drawn, and which isn't running
pub idle_begins : (s : State) (key : ℕ) (live : Live) → IsKept s → key < length s.slots → slot_at s.slots key ≡ None → 0 < live.serial → live.serial ≤ s.drawn → told_at (task_of s) s.slots live.serial ≡ None → live.stamp ≡ s.date → live.kept ≤ 10 ^ 24 → live.bytes ≤ 10 ^ 15 → IsPriority live.weight → IsPlaceOf live.kind live.place →
    Begins s s.drawn key live s.keys
idle_begins s key live is within free from to idle stamp small bytes weighs fits = record {
  key_in = within;
  from = from;
  to = to;
  more = omega arith;
  stamp = stamp;
  small = small;
  bytes = bytes;
  fits = fits;
  weighs = weighs;
  unfilled = λ old at. absurd (nothing_there (slot_at s.slots key) free old at);
  was = λ old at. absurd (nothing_there (slot_at s.slots key) free old at);
  alone = λ k other ne at. idle_serial s live.serial is idle k other at;
  no_key = is.idle key free;
  others = λ k ne. refl;
}

-- a flow follows its latency
pub flow_begins : (s : State) (key : ℕ) (old live : Live) → IsKept s → slot_at s.slots key ≡ Some old → old.kind ≡ phase.Latency → key < length s.slots → key < length s.keys → live.serial ≡ old.serial → live.stamp ≡ s.date → live.kept ≡ old.bytes * 1000000000 → live.bytes ≡ old.bytes → live.weight ≡ old.weight → IsPlaceOf live.kind live.place →
    Begins s s.drawn key live (set s.keys key None)
flow_begins s key old live is at latency within keys_in serial stamp kept bytes weight fits =
    let h = is.each key old at in
    record {
      key_in = within;
      from = omega (arith, h.from, serial);
      to = omega (arith, h.to, serial);
      more = omega arith;
      stamp = stamp;
      small = omega (arith, kept, h.few_bytes);
      bytes = omega (arith, bytes, h.few_bytes);
      fits = fits;
      weighs = subst IsPriority (sym weight) h.weighs;
      unfilled = λ other at'. ap (λ (l : Live). takes_share l.kind) (some_same (sym at' ∙ at)) ∙ ap takes_share latency;
      was = λ other at'. ap (λ (l : Live). l.serial) (some_same (sym at' ∙ at)) ∙ sym serial;
      alone = λ k other ne at' e. own_serial s key old is at k other ne at' (e ∙ serial);
      no_key = set_here s.keys key None keys_in;
      others = λ k ne. set_there s.keys key k None ne;
    }

-- a suspended execution never completes
pub undated_kept : (s : State) (key : ℕ) (live : Live) → IsKept s → slot_at s.slots key ≡ Some live → live.kind ≡ phase.Kept → key_at s.keys key ≡ None
undated_kept s key live is at held = (is.each key live at).dated ∙ undue (is_in key s.fresh) live.kind held
  where
    key_by : PhaseKind → Option Key
    key_by kind = option_map (λ due. record { date = due; serial = live.serial }) (cond (is_held kind) None (due_of live.stamp live.kept live.rate))

    undue : (b : Bool) (kind : PhaseKind) → kind ≡ phase.Kept → cond b None (key_by kind) ≡ None
    undue true kind e = refl
    undue false kind e = ap key_by e

-- a suspended execution is resumed
pub resumed_begins : (s : State) (key : ℕ) (old live : Live) → IsKept s → slot_at s.slots key ≡ Some old → old.kind ≡ phase.Kept → key < length s.slots → live.serial ≡ old.serial → live.stamp ≡ s.date → live.kept ≡ old.kept → live.bytes ≡ old.bytes → live.weight ≡ old.weight → IsPlaceOf live.kind live.place → Begins s s.drawn key live s.keys
resumed_begins s key old live is at held within serial stamp kept bytes weight fits =
    let h = is.each key old at in
    record {
      key_in = within;
      from = omega (arith, h.from, serial);
      to = omega (arith, h.to, serial);
      more = omega arith;
      stamp = stamp;
      small = omega (arith, kept, h.small);
      bytes = omega (arith, bytes, h.few_bytes);
      fits = fits;
      weighs = subst IsPriority (sym weight) h.weighs;
      unfilled = λ other at'. ap (λ (l : Live). takes_share l.kind) (some_same (sym at' ∙ at)) ∙ ap takes_share held;
      was = λ other at'. ap (λ (l : Live). l.serial) (some_same (sym at' ∙ at)) ∙ sym serial;
      alone = λ k other ne at' e. own_serial s key old is at k other ne at' (e ∙ serial);
      no_key = undated_kept s key old is at held;
      others = λ k ne. refl;
    }

-- ---- states whose parts are the same
abbrev pub state_with : State → ℕ → Bool → List (Option Live) → (ℕ → List LinkId) → List (Option Key) → List (Option RunningFlow) → List ℕ → List ℕ → List Flow → List ℕ → State
state_with s drawn settled slots ways keys runs by_flow fresh ended resources = record s { drawn = drawn; settled = settled; slots = slots; ways = ways; keys = keys; runs = runs; by_flow = by_flow; fresh = fresh; ended = ended; resources = resources }

pub state_same : (s : State) (drawn : ℕ) (settled : Bool) (a a' : List (Option Live)) (b b' : ℕ → List LinkId) (c c' : List (Option Key)) (d d' : List (Option RunningFlow)) (e e' f f' : List ℕ) (g g' : List Flow) (h h' : List ℕ) →
    a ≡ a' → b ≡ b' → c ≡ c' → d ≡ d' → e ≡ e' → f ≡ f' → g ≡ g' → h ≡ h' → state_with s drawn settled a b c d e f g h ≡ state_with s drawn settled a' b' c' d' e' f' g' h'
state_same s drawn settled a a' b b' c c' d d' e e' f f' g g' h h' p q r t u v w x =
    ap (λ y. state_with s drawn settled y b c d e f g h) p ∙ ap (λ y. state_with s drawn settled a' y c d e f g h) q ∙ ap (λ y. state_with s drawn settled a' b' y d e f g h) r ∙ ap (λ y. state_with s drawn settled a' b' c' y e f g h) t
    ∙ ap (λ y. state_with s drawn settled a' b' c' d' y f g h) u ∙ ap (λ y. state_with s drawn settled a' b' c' d' e' y g h) v ∙ ap (λ y. state_with s drawn settled a' b' c' d' e' f' y h) w ∙ ap (λ y. state_with s drawn settled a' b' c' d' e' f' g' y) x
