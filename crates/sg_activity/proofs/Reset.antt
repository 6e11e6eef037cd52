-- A capacity is another now.
use Rattle.std.proofs.Common.{◌≡◌, ℕ, ◌+◌, ◌==◌, ◌<◌, inl, inr, Bool, true, false, not, cond, ◌||◌, ◌&&◌, true≢false, Option, None, Some, option_map, List, [], ◌∷◌, length, set, get_or, get_or-set_same, All, IsTrue, IsSome, refl, sym, ap, ap₂, subst, ◌∙◌, arith}
use Rattle.std.proofs.lemmas.List.{get_or_default, set-get_or}
use Rattle.std.proofs.Math.ListN.{get_or-map}
use Rattle.sg_base.specs.MarkSet.{is_in, with_mark}
use Rattle.sg_maxmin.specs.Chained.{times, users_on}
use Rattle.sg_maxmin.specs.Fill.{Flow}
use Rattle.sg_maxmin.specs.Sharing.{HasLimit}
use Rattle.sg_lazy.specs.Lazily.{Lazily, with_capacity, with_other_capacity}
use Rattle.sg_lazy.specs.RunningFlow.{RunningFlow, is_same_bound, running_at}
use Rattle.sg_activity.specs.declared.activity_state.Kept.{Kept}
use Rattle.sg_activity_table.specs.declared.lives.Live.{Live}
use Rattle.sg_activity.specs.Links.{Capacities, capacities_of, machines}
use Rattle.sg_activity_table.specs.Slots.{listed, passes}
use Rattle.sg_activity.specs.Task.{Task, flow_of}
use Rattle.sg_activity_table.specs.Kinds.{takes_share}
use Rattle.sg_activity.specs.Underway.{is_rebound, with_capacities}
use Rattle.sg_activity.specs.kept.Index.{IsIndexed, used_at, used_by}
use Rattle.sg_activity.specs.kept.Rows.{Indexed, row_at, way_in}
use Rattle.sg_activity_table.specs.Pool.{slot_at}
use Rattle.sg_activity.specs.kept.Bounds.{HasFlows, Rebounds, Resets, is_rebound_at, rebound_to}
use Rattle.sg_activity.specs.kept.Sound.{HasFlow, HasRoom, IsKept, IsPlace, IsSound, place_at, run_of}
use Rattle.sg_activity.specs.kept.State.{State, asked_by, changed_at, changed_by, is_marked, is_so, place_of, task_from, links_at, state_of, task_of, told_at, told_by, under_of, ways_of}
use Rattle.sg_activity.specs.kept.Whole.{IsUsed}
use Rattle.sg_activity.proofs.Moved.{IsMoved, bound_moved, flow_bound, in_times, place_moved, rebound_moved, rebound_some, uses_moved, weight_moved, bound_at}
use Rattle.sg_activity_table.proofs.Pooled.{within_there}
use Rattle.sg_activity.proofs.Bounds.{some_is}
use Rattle.sg_activity.proofs.Routed.{sooner_more}
use Rattle.sg_activity_table.proofs.Listed.{at_listed, length-listed, same_listed}
use Rattle.sg_activity.proofs.Listing.{map_listed}
use Rattle.sg_activity.proofs.Lookup.{sought, told_found, told_missed}
use Rattle.sg_activity.proofs.Told.{made_same, member_at}

-- ---- who is on a thing
abbrev pub AreBothWays : Indexed → Type 0
AreBothWays index = (key thing : ℕ) → times key (users_on index.users thing) ≡ times thing (row_at index.rows key)

module _ (kept : Kept) (index : Indexed) (used : IsUsed kept index) (both : AreBothWays index) (thing : ℕ) where
  -- those on it are activities
  pub users_below : All (λ key. key < length kept.lives.slots) (users_on index.users thing)
  users_below k d within =
      let users = users_on index.users thing in
      let key = get_or users k 0 in
      let there : is_in thing (row_at index.rows key) ≡ true = sym (in_times key thing users (row_at index.rows key) (both key thing)) ∙ member_at users k within in
      subst (λ n. n < length kept.lives.slots) (get_or_default users k 0 d within) (within_there kept.lives.slots key (go key (slot_at kept.lives.slots key) refl there))
    where
      go : (key : ℕ) (o : Option Live) → slot_at kept.lives.slots key ≡ o → is_in thing (row_at index.rows key) ≡ true → IsSome (slot_at kept.lives.slots key)
      go key None e there = absurd (true≢false (sym there ∙ ap (is_in thing) (used.rows key ∙ ap (used_by (length kept.hosts.items) (length kept.links.items) (links_at (ways_of kept) key)) e)))
      go key (Some live) e there = subst IsSome (sym e) refl

  -- and each that uses it is there
  pub is_user : (key : ℕ) (live : Live) → slot_at kept.lives.slots key ≡ Some live → is_in key (users_on index.users thing) ≡ is_in thing (used_at (length kept.hosts.items) (length kept.links.items) (place_at (state_of kept) key live))
  is_user key live at =
      in_times key thing (users_on index.users thing) (row_at index.rows key) (both key thing)
      ∙ ap (is_in thing) (used.rows key ∙ ap (used_by (length kept.hosts.items) (length kept.links.items) (links_at (ways_of kept) key)) at)

flow_is : (f g : Flow) → f.uses ≡ g.uses → f.weight ≡ g.weight → f.bound ≡ g.bound → f ≡ g
flow_is f g u w b =
    ap (λ x. record { uses = x; weight = f.weight; bound = f.bound }) u ∙ ap (λ x. record { uses = g.uses; weight = x; bound = f.bound }) w ∙ ap (λ x. record { uses = g.uses; weight = g.weight; bound = x }) b

or_false : (b : Bool) → (b || false) ≡ b
or_false true = refl
or_false false = refl

or_or : (a b c : Bool) → ((a || b) || c) ≡ (a || (b || c))
or_or true b c = refl
or_or false b c = refl

eqb_is : (a b : ℕ) → (a == b) ≡ true → a ≡ b
eqb_is a b e = grind arith

same_self : (b : Option ℕ) → is_same_bound b b ≡ true
same_self None = refl
same_self (Some a) = eqb_self a
  where
    eqb_self : (a : ℕ) → (a == a) ≡ true
    eqb_self a = grind arith

-- what a capacity changes, be it the same or another
capacity_lazy : (s : Lazily) (resource value : ℕ) → with_capacity s resource value ≡ record s { capacities = set s.capacities resource value; resources = cond (get_or s.capacities resource 0 == value) s.resources (with_mark resource s.resources) }
capacity_lazy s resource value = go (get_or s.capacities resource 0 == value) refl
  where
    go : (b : Bool) → (get_or s.capacities resource 0 == value) ≡ b → cond b s (with_other_capacity s resource value) ≡ record s { capacities = set s.capacities resource value; resources = cond b s.resources (with_mark resource s.resources) }
    go true e = ap (λ c. record s { capacities = c }) (sym (set-get_or s.capacities resource 0) ∙ ap (set s.capacities resource) (eqb_is (get_or s.capacities resource 0) value e))
    go false e = refl

-- ---- all stays consistent
module _ (s : State) (capacities : Capacities) (resource : ℕ) (runs : List (Option RunningFlow)) (resources : List ℕ) (is : IsKept s) (moved : IsMoved s.capacities capacities resource)
    (rebound : (key : ℕ) (live : Live) → slot_at s.slots key ≡ Some live → IsTrue (takes_share live.kind) →
    running_at runs live.flow ≡ cond (is_rebound_at s.capacities (resource ∷ []) (place_at s key live)) (option_map (rebound_to (flow_of capacities (task_of s key live)).bound) (running_at s.runs live.flow)) (running_at s.runs live.flow))
    (back : (id : ℕ) → IsSome (running_at runs id) → IsSome (running_at s.runs id)) where
  abbrev pub reset_state : State
  reset_state = record s { capacities = capacities; runs = runs; resources = resources; settled = false }

  -- what is asked for, except for its bound
  asked_with : (key : ℕ) (live : Live) (bound : ℕ) → (asked_by reset_state key live).bound ≡ Some bound → record (asked_by s key live) { bound = Some bound } ≡ asked_by reset_state key live
  asked_with key live bound e =
      let task = task_of s key live in
      flow_is (record (asked_by s key live) { bound = Some bound }) (asked_by reset_state key live) (sym (uses_moved s.capacities capacities resource moved task task.place)) (sym (weight_moved s.capacities capacities resource moved task task.place)) (sym e)

  bound_there : (key : ℕ) (live : Live) → is_rebound_at s.capacities (resource ∷ []) (place_at s key live) ≡ true → IsSome (asked_by reset_state key live).bound
  bound_there key live e =
      let task = task_of s key live in
      let some = rebound_some capacities (resource ∷ []) task.place (rebound_moved s.capacities capacities resource moved (resource ∷ []) task.place ∙ e) in
      subst IsSome (sym (flow_bound capacities task task.place)) (sooner_more (bound_at capacities task.place) task.bound some)

  -- whether the bound is another
  abbrev differs : ℕ → Live → Bool
  differs key live = not (is_same_bound (asked_by s key live).bound (asked_by reset_state key live).bound)

  -- the flow of what the capacity bounds, and of what it doesn't
  runs_on : (key : ℕ) (live : Live) → slot_at s.slots key ≡ Some live → IsTrue (takes_share live.kind) → (has : HasFlow s key live) → is_rebound_at s.capacities (resource ∷ []) (place_at s key live) ≡ true →
      running_at runs live.flow ≡ Some (run_of reset_state key live (has.marked || differs key live))
  runs_on key live at full has e =
      let r = some_is (asked_by reset_state key live).bound (bound_there key live e) in
      let other = not (is_same_bound (asked_by s key live).bound (Some r.0)) in
      rebound key live at full ∙ ap (λ b. cond b (option_map (rebound_to (asked_by reset_state key live).bound) (running_at s.runs live.flow)) (running_at s.runs live.flow)) e
      ∙ ap₂ (λ b o. option_map (rebound_to b) o) r.1 has.runs
      ∙ ap (λ f. Some (record { flow = f; rate = live.rate; began = is_in key s.fresh; marked = (is_in key s.fresh || has.marked) || other })) (asked_with key live r.0 r.1)
      ∙ ap (λ m. Some (record { flow = asked_by reset_state key live; rate = live.rate; began = is_in key s.fresh; marked = m }))
      (or_or (is_in key s.fresh) has.marked other ∙ ap (λ b. is_in key s.fresh || (has.marked || not (is_same_bound (asked_by s key live).bound b))) (sym r.1))

  runs_off : (key : ℕ) (live : Live) → slot_at s.slots key ≡ Some live → IsTrue (takes_share live.kind) → (has : HasFlow s key live) → is_rebound_at s.capacities (resource ∷ []) (place_at s key live) ≡ false →
      running_at runs live.flow ≡ Some (run_of s key live has.marked)
  runs_off key live at full has e =
      rebound key live at full ∙ ap (λ b. cond b (option_map (rebound_to (asked_by reset_state key live).bound) (running_at s.runs live.flow)) (running_at s.runs live.flow)) e ∙ has.runs

  asked_off : (key : ℕ) (live : Live) → is_rebound_at s.capacities (resource ∷ []) (place_at s key live) ≡ false → asked_by reset_state key live ≡ asked_by s key live
  asked_off key live e =
      let task = task_of s key live in
      flow_is (asked_by reset_state key live) (asked_by s key live) (uses_moved s.capacities capacities resource moved task task.place) (weight_moved s.capacities capacities resource moved task task.place) (bound_moved s.capacities capacities resource moved task task.place e)

  flow_held : (key : ℕ) (live : Live) → slot_at s.slots key ≡ Some live → IsTrue (takes_share live.kind) → HasFlow s key live → HasFlow reset_state key live
  flow_held key live at full has = cases (is_rebound_at s.capacities (resource ∷ []) (place_at s key live)) refl
    where
      task : Task
      task = task_of s key live

      uses_are : (asked_by reset_state key live).uses ≡ (asked_by s key live).uses
      uses_are = uses_moved s.capacities capacities resource moved task task.place

      limit : (x : Bool) → is_rebound_at s.capacities (resource ∷ []) (place_at s key live) ≡ x → HasLimit (asked_by reset_state key live)
      limit x e = record {
        weighs = subst (λ n. 0 < n) (sym (weight_moved s.capacities capacities resource moved task task.place)) has.limit.weighs;
        bounds = λ none. some x e none;
      }
        where
          some : (x : Bool) → is_rebound_at s.capacities (resource ∷ []) (place_at s key live) ≡ x → (asked_by reset_state key live).uses ≡ [] → IsSome (asked_by reset_state key live).bound
          some true e none = bound_there key live e
          some false e none = subst IsSome (sym (bound_moved s.capacities capacities resource moved task task.place e)) (has.limit.bounds (sym uses_are ∙ none))

      cases : (x : Bool) → is_rebound_at s.capacities (resource ∷ []) (place_at s key live) ≡ x → HasFlow reset_state key live
      cases true e = record { marked = has.marked || differs key live; runs = runs_on key live at full has e; limit = limit true e; within = has.within; known = has.known }
      cases false e =
          record {
            marked = has.marked;
            runs = runs_off key live at full has e ∙ ap (λ f. Some (record { flow = f; rate = live.rate; began = is_in key s.fresh; marked = is_in key s.fresh || has.marked })) (sym (asked_off key live e));
            limit = limit false e;
            within = has.within;
            known = has.known;
          }

  -- ---- what is marked
  changed_as : (key : ℕ) (live : Live) → slot_at s.slots key ≡ Some live → changed_at s.fresh runs key live ≡ (changed_at s.fresh s.runs key live || is_rebound s.capacities capacities (task_of s key live))
  changed_as key live at = cases (takes_share live.kind) refl
    where
      fresh : Bool
      fresh = is_in key s.fresh

      none : (a : Bool) → (a || false) ≡ ((a || false) || false)
      none true = refl
      none false = refl

      twice : (a b c : Bool) → (a || (a || (b || c))) ≡ ((a || (a || b)) || c)
      twice true b c = refl
      twice false b c = sym (or_or false b c)

      cases : (b : Bool) → takes_share live.kind ≡ b → changed_at s.fresh runs key live ≡ (changed_at s.fresh s.runs key live || is_rebound s.capacities capacities (task_of s key live))
      cases false e =
          ap (λ b. is_in key s.fresh || (b && is_marked (running_at runs live.flow))) e ∙ none (is_in key s.fresh)
          ∙ sym (ap (λ b. (is_in key s.fresh || (b && is_marked (running_at s.runs live.flow))) || (b && differs key live)) e)
      cases true full =
          ap (λ b. is_in key s.fresh || (b && is_marked (running_at runs live.flow))) full
          ∙ on ((is.each key live at).flow full) (is_rebound_at s.capacities (resource ∷ []) (place_at s key live)) refl
          ∙ sym (ap (λ b. (is_in key s.fresh || (b && is_marked (running_at s.runs live.flow))) || (b && differs key live)) full)
        where
          on : HasFlow s key live → (x : Bool) → is_rebound_at s.capacities (resource ∷ []) (place_at s key live) ≡ x →
              (is_in key s.fresh || is_marked (running_at runs live.flow)) ≡ ((is_in key s.fresh || is_marked (running_at s.runs live.flow)) || differs key live)
          on has true e =
              ap (λ o. is_in key s.fresh || is_marked o) (runs_on key live at full has e) ∙ twice (is_in key s.fresh) has.marked (differs key live)
              ∙ sym (ap (λ o. (is_in key s.fresh || is_marked o) || differs key live) has.runs)
          on has false e =
              ap (λ o. is_in key s.fresh || is_marked o) (runs_off key live at full has e ∙ sym has.runs)
              ∙ sym (or_false (is_in key s.fresh || is_marked (running_at s.runs live.flow)))
              ∙ ap (λ b. (is_in key s.fresh || is_marked (running_at s.runs live.flow)) || b) (sym (ap (λ (f : Flow). not (is_same_bound (asked_by s key live).bound f.bound)) (asked_off key live e) ∙ ap not (same_self (asked_by s key live).bound)))

  abbrev rebinds : Task → Bool
  rebinds = is_rebound s.capacities capacities

  changed_told : (serial : ℕ) → passes is_so (told_at (changed_at s.fresh runs) s.slots serial) ≡ (passes is_so (told_at (changed_at s.fresh s.runs) s.slots serial) || passes rebinds (told_at (task_of s) s.slots serial))
  changed_told serial = elim (sought s.slots serial) [
    | inl f ↦
        ap (passes is_so) (told_found (changed_at s.fresh runs) s.slots serial f.key f.live is.apart f.at f.is) ∙ changed_as f.key f.live f.at
        ∙ sym (ap₂ (λ a o. passes is_so a || passes rebinds o) (told_found (changed_at s.fresh s.runs) s.slots serial f.key f.live is.apart f.at f.is) (told_found (task_of s) s.slots serial f.key f.live is.apart f.at f.is))
    | inr none ↦
        ap (passes is_so) (told_missed (changed_at s.fresh runs) s.slots serial none)
        ∙ sym (ap₂ (λ a o. passes is_so a || passes rebinds o) (told_missed (changed_at s.fresh s.runs) s.slots serial none) (told_missed (task_of s) s.slots serial none))
  ]

  changed_listed : changed_by reset_state ≡ listed (length (told_by (task_of s) s)) (λ i. get_or (changed_by s) i false || passes rebinds (get_or (told_by (task_of s) s) i None))
  changed_listed =
      map_listed s.drawn (passes is_so) (λ i. told_at (changed_at s.fresh runs) s.slots (i + 1))
      ∙ same_listed s.drawn (λ i. passes is_so (told_at (changed_at s.fresh runs) s.slots (i + 1))) (λ i. get_or (changed_by s) i false || passes rebinds (get_or (told_by (task_of s) s) i None))
      (λ i less. changed_told (i + 1)
      ∙ sym (ap₂ (λ a o. a || passes rebinds o)
      (get_or-map (passes is_so) (told_by (changed_at s.fresh s.runs) s) i None ∙ ap (passes is_so) (at_listed s.drawn (λ j. told_at (changed_at s.fresh s.runs) s.slots (j + 1)) i None less))
      (at_listed s.drawn (λ j. told_at (task_of s) s.slots (j + 1)) i None less)))
      ∙ ap (λ n. listed n (λ i. get_or (changed_by s) i false || passes rebinds (get_or (told_by (task_of s) s) i None))) (sym (length-listed s.drawn (λ i. told_at (task_of s) s.slots (i + 1))))

  pub reset_told : resources ≡ cond (get_or (capacities_of s.capacities) resource 0 == get_or (capacities_of capacities) resource 0) s.resources (with_mark resource s.resources) → under_of reset_state ≡ with_capacities capacities resource (under_of s)
  reset_told marked =
      made_same s.date s.date capacities capacities s.on s.on (told_by (task_of s) s) (told_by (task_of s) s) (changed_by reset_state) (listed (length (told_by (task_of s) s)) (λ i. get_or (changed_by s) i false || passes rebinds (get_or (told_by (task_of s) s) i None)))
      s.ended s.ended resources (cond (get_or (capacities_of s.capacities) resource 0 == get_or (capacities_of capacities) resource 0) s.resources (with_mark resource s.resources)) refl refl refl refl changed_listed refl marked

  pub reset_kept : IsKept reset_state
  reset_kept = record {
    each = λ key live at.
        let h = is.each key live at in
        record {
          from = h.from;
          to = h.to;
          stamped = h.stamped;
          in_time = h.in_time;
          small = h.small;
          few_bytes = h.few_bytes;
          weighs = h.weighs;
          paced = h.paced;
          placed = place_moved s.capacities capacities resource moved (place_at s key live) h.placed;
          fits = h.fits;
          counted = h.counted;
          flow = λ full. flow_held key live at full (h.flow full);
          dated = h.dated;
        };
    idle = is.idle;
    apart = is.apart;
    back = λ id running e.
        let r = some_is (running_at s.runs id) (back id (subst IsSome (sym e) refl)) in
        let of = is.back id r.0 r.1 in
        record { live = of.live; there = of.there; full = of.full; is = of.is };
    fresh = is.fresh;
    fresh_now = is.fresh_now;
    none_fresh = λ set. absurd (true≢false (sym set));
    rates = λ set. absurd (true≢false (sym set));
  }

-- ---- what is kept
module _ (kept mid : Kept) (capacities : Capacities) (resource value : ℕ) (sound : IsSound kept) (used : IsUsed kept kept.index) (moved : IsMoved (state_of kept).capacities capacities resource) (rest : mid ≡ record kept { hosts = mid.hosts; links = mid.links; lazy = mid.lazy })
    (caps : machines mid.hosts.items mid.links.items ≡ capacities) (given : mid.lazy ≡ with_capacity kept.lazy resource value) (within : resource < length (capacities_of (state_of kept).capacities)) (offered : set (capacities_of (state_of kept).capacities) resource value ≡ capacities_of capacities) where
  abbrev s : State
  s = state_of kept

  abbrev resources_now : List ℕ
  resources_now = cond (get_or kept.lazy.capacities resource 0 == value) kept.lazy.resources (with_mark resource kept.lazy.resources)

  lazy : mid.lazy ≡ record kept.lazy { capacities = set kept.lazy.capacities resource value; resources = resources_now }
  lazy = given ∙ capacity_lazy kept.lazy resource value

  -- as many hosts are there
  hosts_long : length mid.hosts.items ≡ length kept.hosts.items
  hosts_long = ap (λ (c : Capacities). length c.hosts) caps ∙ moved.hosts

  pub flows_reset : HasFlows mid
  flows_reset = subst HasFlows (sym rest) (record {
    places = λ key live at.
        subst (λ n. IsPlace (machines mid.hosts.items mid.links.items) (place_of live.place (way_in n (row_at kept.index.rows key)))) (sym hosts_long)
        (subst (λ c. IsPlace c (place_at s key live)) (sym caps) (place_moved s.capacities capacities resource moved (place_at s key live) (sound.are.each key live at).placed));
    runs = λ key live at full. subst IsSome (sym (ap (λ (l : Lazily). running_at l.slots live.flow) lazy ∙ ((sound.are.each key live at).flow full).runs)) refl;
    own = λ key live at full. ((sound.are.each key live at).flow full).known;
    rows = λ key live at.
        used.rows key ∙ ap (used_by (length kept.hosts.items) (length kept.links.items) (links_at s.ways key)) at
        ∙ ap₂ (λ n m. used_by n m (links_at s.ways key) (Some live)) (sym moved.hosts) (sym moved.links)
        ∙ ap₂ (λ (c : Capacities) (n : ℕ). used_by (length c.hosts) (length c.links) (way_in n (row_at kept.index.rows key)) (Some live)) (sym caps) (sym hosts_long);
    rows_long = sound.room.rows_long;
  })

  module _ (new : Kept) (keys : List ℕ) (by : Rebounds mid new keys) (covers : (key : ℕ) (live : Live) → slot_at kept.lives.slots key ≡ Some live → is_in key keys ≡ is_rebound_at s.capacities (resource ∷ []) (place_at s key live)) where
    abbrev with_lazy : Lazily → Kept
    with_lazy l = record kept { hosts = mid.hosts; links = mid.links; lazy = l; settled = false }

    new_rest : record new { settled = false } ≡ with_lazy new.lazy
    new_rest = ap (λ (m : Kept). record m { settled = false }) by.rest ∙ ap (λ (m : Kept). record m { lazy = new.lazy; settled = false }) rest

    new_lazy : new.lazy ≡ record kept.lazy { capacities = set kept.lazy.capacities resource value; resources = resources_now; slots = new.lazy.slots }
    new_lazy = by.lazy ∙ ap (λ (l : Lazily). record l { slots = new.lazy.slots }) lazy

    rebound : (key : ℕ) (live : Live) → slot_at s.slots key ≡ Some live → IsTrue (takes_share live.kind) →
        running_at new.lazy.slots live.flow ≡ cond (is_rebound_at s.capacities (resource ∷ []) (place_at s key live)) (option_map (rebound_to (flow_of capacities (task_of s key live)).bound) (running_at s.runs live.flow)) (running_at s.runs live.flow)
    rebound key live at full =
        let bound : (asked_by (state_of mid) key live).bound ≡ (flow_of capacities (task_of s key live)).bound =
        ap (λ (m : Kept). (asked_by (state_of m) key live).bound) rest
        ∙ ap (λ n. (flow_of (machines mid.hosts.items mid.links.items) (task_from s.date (way_in n (row_at kept.index.rows key)) live)).bound) hosts_long
        ∙ ap (λ c. (flow_of c (task_of s key live)).bound) caps in
        let same : running_at mid.lazy.slots live.flow ≡ running_at s.runs live.flow = ap (λ (l : Lazily). running_at l.slots live.flow) lazy in
        by.runs key live (ap (λ (m : Kept). slot_at m.lives.slots key) rest ∙ at) full
        ∙ ap₂ (λ b o. cond (is_in key keys) (option_map (rebound_to b) o) o) bound same
        ∙ ap (λ x. cond x (option_map (rebound_to (flow_of capacities (task_of s key live)).bound) (running_at s.runs live.flow)) (running_at s.runs live.flow)) (covers key live at)

    back : (id : ℕ) → IsSome (running_at new.lazy.slots id) → IsSome (running_at s.runs id)
    back id some = subst (λ (l : Lazily). IsSome (running_at l.slots id)) lazy (by.back id some)

    state_is : state_of (record new { settled = false }) ≡ record s { capacities = capacities; runs = new.lazy.slots; resources = new.lazy.resources; settled = false }
    state_is =
        ap state_of new_rest
        ∙ ap (λ n. record s { capacities = machines mid.hosts.items mid.links.items; ways = λ key. way_in n (row_at kept.index.rows key); runs = new.lazy.slots; ended = new.lazy.ended; resources = new.lazy.resources; settled = false }) hosts_long
        ∙ ap₂ (λ c e. record s { capacities = c; runs = new.lazy.slots; ended = e; resources = new.lazy.resources; settled = false }) caps (ap (λ (l : Lazily). l.ended) new_lazy)

    -- the resource is marked if its capacity is another
    resources_are : new.lazy.resources ≡ cond (get_or (capacities_of s.capacities) resource 0 == get_or (capacities_of capacities) resource 0) s.resources (with_mark resource s.resources)
    resources_are =
        ap (λ (l : Lazily). l.resources) new_lazy
        ∙ ap₂ (λ l v. cond (get_or l resource 0 == v) s.resources (with_mark resource s.resources)) sound.room.capacities
        (sym (get_or-set_same (capacities_of s.capacities) resource value 0 within) ∙ ap (λ l. get_or l resource 0) offered)

    room : HasRoom (with_lazy new.lazy)
    room = record {
      capacities = ap (λ (l : Lazily). l.capacities) new_lazy ∙ ap (λ l. set l resource value) sound.room.capacities ∙ offered ∙ sym (ap capacities_of caps);
      few = sound.room.few;
      early = sound.room.early;
      flows = sound.room.flows;
      flow_room = omega (arith, sound.room.flow_room, ap (λ (l : Lazily). l.flow_room) new_lazy);
      uses = sound.room.uses;
      use_room = omega (arith, sound.room.use_room, ap (λ (l : Lazily). l.use_room) new_lazy);
      keys_free = sound.room.keys_free;
      rows_long = sound.room.rows_long;
      agenda_long = sound.room.agenda_long;
      fresh_room = sound.room.fresh_room;
      by_flow_long = omega (arith, sound.room.by_flow_long, by.long, ap (λ (l : Lazily). length l.slots) lazy);
    }

    pub resets : Resets kept (record new { settled = false }) capacities resource
    resets = record {
      state = state_is;
      told = ap under_of state_is ∙ reset_told s capacities resource new.lazy.slots new.lazy.resources sound.are moved rebound back resources_are;
      sound = record {
        are = subst IsKept (sym state_is) (reset_kept s capacities resource new.lazy.slots new.lazy.resources sound.are moved rebound back);
        room = subst HasRoom (sym new_rest) room;
      };
      index = ap (λ (k : Kept). k.index) new_rest;
      room = ap (λ (k : Kept). k.room) new_rest;
    }

-- what is used stays
pub used_reset : (kept new : Kept) (capacities : Capacities) (resource : ℕ) → IsMoved (state_of kept).capacities capacities resource → Resets kept new capacities resource → IsUsed kept kept.index → IsUsed new new.index
used_reset kept new capacities resource moved by is =
    subst (λ (s : State). IsIndexed s.capacities s.slots s.ways new.room new.index) (sym by.state) (subst (IsIndexed capacities kept.lives.slots (ways_of kept) new.room) (sym by.index) (record {
      rows = λ key. is.rows key ∙ ap₂ (λ n m. used_by n m (links_at (ways_of kept) key) (slot_at kept.lives.slots key)) (sym moved.hosts) (sym moved.links);
      long = is.long;
      things = is.things ∙ ap₂ (λ h l. h + l + h) (sym moved.hosts) (sym moved.links);
      uses_free = omega (arith, is.uses_free, by.room);
    }))
