-- There is more room, and all else is as it was.
use Rattle.std.proofs.Common.{◌≡◌, ℕ, suc, ◌+◌, ◌*◌, ◌≤◌, cond, ◌||◌, ◌&&◌, Option, None, Some, option_map, List, [], ◌∷◌, map, length, sum_by, slice_index, refl, sym, ap, ap₂, subst, ◌∙◌, arith}
use Rattle.std.specs.List.{cons_option}
use Rattle.sg_base.specs.declared.ids.LinkId.{LinkId}
use Rattle.sg_base.specs.MarkSet.{is_in}
use Rattle.sg_heap.specs.Agenda.{Key, key_at}
use Rattle.sg_maxmin.specs.Fill.{share_of}
use Rattle.sg_lazy.specs.RunningFlow.{RunningFlow, running_at, flows_in}
use Rattle.sg_activity_table.specs.declared.lives.Live.{Live}
use Rattle.std.proofs.lemmas.List.Sums.{sum_by-cons}
use Rattle.sg_activity.specs.declared.activity_state.Kept.{Kept}
use Rattle.sg_activity.specs.Links.{capacities_of, machines}
use Rattle.sg_activity.specs.kept.Grows.{Grows}
use Rattle.sg_activity_table.specs.Kinds.{takes_share}
use Rattle.sg_activity_table.specs.Slots.{passes, serials}
use Rattle.sg_activity_table.specs.Pool.{slot_at}
use Rattle.sg_activity.specs.kept.State.{State, state_of, links_at, task_from, task_of, stamp_of, is_now, is_dated, is_so, told_at, told_by, is_marked, changed_at, changed_by, under_of, doing_of, ways_of}
use Rattle.sg_activity.specs.kept.Sound.{AreApart, IsKept, IsSound, slot_ahead, slot_uses}
use Rattle.sg_activity.proofs.Indexing.{ways_grown}
use Rattle.sg_activity_table.proofs.Listed.{same_listed}
use Rattle.sg_activity.proofs.Lookup.{told_alike}
use Rattle.sg_activity.proofs.Told.{doing_same, made_same}
use Rattle.sg_activity.proofs.Turned.{held_still}

none_in : (runs : List (Option RunningFlow)) → ((id : ℕ) → running_at runs id ≡ None) → flows_in runs ≡ []
none_in [] h = refl
none_in (None ∷ runs) h = none_in runs (λ id. h (suc id))
none_in (Some r ∷ runs) h = absurd (cc (h 0))

-- places without a flow at the end don't matter
flows_same : (old new : List (Option RunningFlow)) → ((id : ℕ) → running_at new id ≡ running_at old id) → flows_in new ≡ flows_in old
flows_same [] new h = none_in new h
flows_same (o ∷ old) [] h = sym (none_in (o ∷ old) (λ id. sym (h id)))
flows_same (o ∷ old) (n ∷ new) h = ap₂ (λ x l. cons_option (option_map (λ (r : RunningFlow). r.flow) x) l) (h 0) (flows_same old new (λ id. h (suc id)))

module _ (s : State) (slots : List (Option Live)) (ways : ℕ → List LinkId) (keys : List (Option Key)) (runs : List (Option RunningFlow)) (by_flow : List ℕ) (is : IsKept s)
    (same_slots : (k : ℕ) → slot_at slots k ≡ slot_at s.slots k) (same_links : (k : ℕ) → links_at ways k ≡ links_at s.ways k) (same_keys : (k : ℕ) → key_at keys k ≡ key_at s.keys k) (same_runs : (id : ℕ) → running_at runs id ≡ running_at s.runs id) (same_flows : (id : ℕ) → slice_index by_flow id ≡ slice_index s.by_flow id)
    (longer : length s.by_flow ≤ length by_flow) (more_slots : length s.slots ≤ length slots) where
  abbrev pub grown : State
  grown = record s { slots = slots; ways = ways; keys = keys; runs = runs; by_flow = by_flow }

  apart : AreApart slots
  apart i j one other a b e = is.apart i j one other (sym (same_slots i) ∙ a) (sym (same_slots j) ∙ b) e

  pub grown_kept : IsKept grown
  grown_kept = record {
    each = λ k live at. held_still s grown k live refl refl (omega arith) (same_links k) (same_keys k) refl longer (λ full. (same_runs live.flow, same_flows live.flow)) (is.each k live (sym (same_slots k) ∙ at));
    idle = λ k none. same_keys k ∙ is.idle k (sym (same_slots k) ∙ none);
    apart = apart;
    back = λ id r e.
        let of = is.back id r (sym (same_runs id) ∙ e) in
        record { live = of.live; there = ap (slot_at slots) (same_flows id) ∙ same_slots (slice_index s.by_flow id) ∙ of.there; full = of.full; is = of.is };
    fresh = λ k marked. omega (arith, is.fresh k marked, more_slots);
    fresh_now = λ k live at marked. is.fresh_now k live (sym (same_slots k) ∙ at) marked;
    none_fresh = is.none_fresh;
    rates = λ set id r e. is.rates set id r (sym (same_runs id) ∙ e) ∙ ap (λ l. share_of (capacities_of s.capacities) l r.flow) (sym (flows_same s.runs runs same_runs));
  }

  tell_same : {Y : Type 0} (tell other : ℕ → Live → Y) → ((k : ℕ) (live : Live) → other k live ≡ tell k live) → told_by other grown ≡ told_by tell s
  tell_same tell other same = same_listed s.drawn (λ i. told_at other slots (i + 1)) (λ i. told_at tell s.slots (i + 1)) (λ i less. told_alike tell other s.slots slots (i + 1) is.apart apart
      (λ f. (f.live, same_slots f.key ∙ f.at, f.is, same f.key f.live)) (λ f. record { key = f.key; live = f.live; at = sym (same_slots f.key) ∙ f.at; is = f.is }))

  pub grown_told : (room : ℕ) → doing_of grown room ≡ doing_of s room
  grown_told room =
      doing_same (under_of grown) (under_of s) (cond s.arrived (serials is_so 1 (told_by (is_now grown) grown)) []) (cond s.arrived (serials is_so 1 (told_by (is_now s) s)) []) s.settled s.settled room room (told_by stamp_of grown) (told_by stamp_of s)
      (made_same s.date s.date s.capacities s.capacities s.on s.on (told_by (task_of grown) grown) (told_by (task_of s) s) (changed_by grown) (changed_by s) s.ended s.ended s.resources s.resources refl refl refl
      (tell_same (task_of s) (task_of grown) (λ k live. ap (λ l. task_from s.date l live) (same_links k)))
      (ap (map (passes is_so)) (tell_same (changed_at s.fresh s.runs) (changed_at s.fresh runs) (λ k live. ap (λ o. is_in k s.fresh || (takes_share live.kind && is_marked o)) (same_runs live.flow)))) refl refl)
      (ap (λ l. cond s.arrived (serials is_so 1 l) []) (tell_same (is_now s) (is_now grown) (λ k live. ap (is_dated s.date) (same_keys k)))) refl refl (tell_same stamp_of stamp_of (λ k live. refl))

-- what free keys don't add to
module _ (f : Option Live → ℕ) (free : f None ≡ 0) where
  no_sum : (slots : List (Option Live)) → ((k : ℕ) → slot_at slots k ≡ None) → sum_by f slots ≡ 0
  no_sum [] h = refl
  no_sum (None ∷ slots) h = omega (arith, sum_by-cons f None slots, free, no_sum slots (λ k. h (suc k)))
  no_sum (Some x ∷ slots) h = absurd (cc (h 0))

  sum_same : (old new : List (Option Live)) → ((k : ℕ) → slot_at new k ≡ slot_at old k) → sum_by f new ≡ sum_by f old
  sum_same [] new h = no_sum new h
  sum_same (o ∷ old) [] h = sym (no_sum (o ∷ old) (λ k. sym (h k)))
  sum_same (o ∷ old) (n ∷ new) h = omega (arith, sum_by-cons f o old, sum_by-cons f n new, ap f (h 0), sum_same old new (λ k. h (suc k)))

module _ (kept new : Kept) (room flows uses : ℕ) (sound : IsSound kept) (g : Grows kept new) where
  abbrev s : State
  s = state_of kept

  state_is : state_of (record new { room = room; flows = flows; uses = uses }) ≡ grown s new.lives.slots (ways_of new) new.agenda new.lazy.slots new.by_flow.items sound.are g.slots (ways_grown kept new g) g.keys g.runs g.by_flow g.longer g.slots_long
  state_is =
      ap (λ (k : Kept). record (state_of k) { slots = new.lives.slots; ways = ways_of new; keys = new.agenda; runs = new.lazy.slots; by_flow = new.by_flow.items; fresh = new.fresh.members; ended = new.lazy.ended; resources = new.lazy.resources }) g.rest
      ∙ ap₂ (λ f e. record s { slots = new.lives.slots; ways = ways_of new; keys = new.agenda; runs = new.lazy.slots; by_flow = new.by_flow.items; fresh = f; ended = e; resources = new.lazy.resources }) g.fresh g.ended
      ∙ ap (λ r. record s { slots = new.lives.slots; ways = ways_of new; keys = new.agenda; runs = new.lazy.slots; by_flow = new.by_flow.items; resources = r }) g.resources

  pub sound_grown : flows ≡ room + sum_by slot_ahead kept.lives.slots → flows ≤ new.lazy.flow_room → uses ≡ 64 * room + sum_by slot_uses kept.lives.slots → uses ≤ new.lazy.use_room → room ≤ new.lives.room → IsSound (record new { room = room; flows = flows; uses = uses })
  sound_grown count flow_room uses_count use_room keys_free = record {
    are = subst IsKept (sym state_is) (grown_kept s new.lives.slots (ways_of new) new.agenda new.lazy.slots new.by_flow.items sound.are g.slots (ways_grown kept new g) g.keys g.runs g.by_flow g.longer g.slots_long);
    room = record {
      capacities = g.capacities ∙ sound.room.capacities ∙ sym (ap (λ (k : Kept). capacities_of (machines k.hosts.items k.links.items)) g.rest);
      few = omega (arith, sound.room.few, ap (λ (k : Kept). k.drawn) g.rest);
      early = omega (arith, sound.room.early, ap (λ (k : Kept). k.date) g.rest);
      flows = count ∙ ap (λ n. room + n) (sym (sum_same slot_ahead refl kept.lives.slots new.lives.slots g.slots));
      uses = uses_count ∙ ap (λ n. 64 * room + n) (sym (sum_same slot_uses refl kept.lives.slots new.lives.slots g.slots));
      flow_room = flow_room;
      use_room = use_room;
      keys_free = keys_free;
      rows_long = g.rows_long;
      agenda_long = g.agenda_long;
      fresh_room = g.fresh_room;
      by_flow_long = g.by_flow_long;
    };
  }

  pub grown_doing : (n : ℕ) → doing_of (state_of (record new { room = room; flows = flows; uses = uses })) n ≡ doing_of s n
  grown_doing n = ap (λ st. doing_of st n) state_is ∙ grown_told s new.lives.slots (ways_of new) new.agenda new.lazy.slots new.by_flow.items sound.are g.slots (ways_grown kept new g) g.keys g.runs g.by_flow g.longer g.slots_long n
