-- A phase comes, follows another, or goes.
use Rattle.std.proofs.Common.{◌≡◌, ◌≢◌, ℕ, ◌^◌, ◌<◌, ◌≤◌, inl, inr, true, false, cond, ◌||◌, true≢false, Option, None, Some, List, length, set, get_or, get_or-set_same, get_or-set_other, slice_index, IsTrue, IsSome, refl, sym, ap, subst, ◌∙◌, arith}
use Rattle.std.specs.Option.{IfSome}
use Rattle.sg_base.specs.Limits.{IsPriority}
use Rattle.sg_base.specs.MarkSet.{is_in}
use Rattle.sg_heap.specs.Agenda.{key_at}
use Rattle.sg_maxmin.specs.Sharing.{HasLimit}
use Rattle.sg_lazy.specs.RunningFlow.{RunningFlow, running_at}
use Rattle.sg_activity_table.specs.declared.kinds.PhaseKind.TheVariants as phase
use Rattle.sg_activity_table.specs.declared.lives.Live.{Live}
use Rattle.sg_activity_table.specs.Kinds.{takes_share, pace}
use Rattle.sg_activity_table.specs.Pool.{links_of, slot_at}
use Rattle.sg_activity.specs.kept.State.{State, links_at, task_of, asked_by, date_of, dated, due_at, told_at}
use Rattle.sg_activity.specs.kept.Sound.{IsPlace, IsPlaceOf, IsHeld, IsFlowOf, IsKept, place_at}
use Rattle.sg_activity.proofs.Listing.{some_same}
use Rattle.sg_activity.proofs.Lookup.{told_none}
use Rattle.sg_activity.proofs.Pairing.{set_cases}
use Rattle.sg_activity.proofs.Stamps.{fresh_in_time}
use Rattle.sg_activity.proofs.Turned.{not_there}

-- a phase that begins now isn't dated yet
pub undated : (fresh : List ℕ) (key : ℕ) (live : Live) → is_in key fresh ≡ true → dated fresh key live ≡ None
undated fresh key live e = ap (λ b. cond b None (date_of live)) e

-- of an activity that takes no share
pub held_unfilled : (new : State) (key : ℕ) (live : Live) → takes_share live.kind ≡ false → 0 < live.serial → live.serial ≤ new.drawn → live.stamp ≡ new.date → live.rate ≡ pace live.kind → live.kept ≤ 10 ^ 24 → live.bytes ≤ 10 ^ 15 → IsPriority live.weight →
    IsPlace new.capacities (place_at new key live) → IsPlaceOf live.kind live.place → (live.kind ≡ phase.Latency → length (links_at new.ways key) ≤ links_of live.place) → is_in key new.fresh ≡ true → key_at new.keys key ≡ None → IsHeld new key live
held_unfilled new key live empty from to stamp rate small bytes weighs placed fits counted fresh no_key = record {
  from = from;
  to = to;
  stamped = omega (arith, stamp);
  in_time = subst (λ n. IfSome (due_at live) (λ due. n ≤ due)) stamp (fresh_in_time live.kind live.stamp live.rate live.kept);
  small = small;
  few_bytes = bytes;
  weighs = weighs;
  paced = λ _. rate;
  placed = placed;
  fits = fits;
  counted = counted;
  flow = λ full. absurd (true≢false (sym full ∙ empty));
  dated = no_key ∙ sym (undated new.fresh key live fresh);
}

-- of one whose flow begins
pub held_filled : (new : State) (key : ℕ) (live : Live) → IsTrue (takes_share live.kind) → 0 < live.serial → live.serial ≤ new.drawn → live.stamp ≡ new.date → live.kept ≤ 10 ^ 24 → live.bytes ≤ 10 ^ 15 → IsPriority live.weight →
    running_at new.runs live.flow ≡ Some (record { flow = asked_by new key live; rate = live.rate; began = true; marked = true }) → HasLimit (asked_by new key live) → IsPlace new.capacities (place_at new key live) → IsPlaceOf live.kind live.place → live.flow < length new.by_flow → slice_index new.by_flow live.flow ≡ key → is_in key new.fresh ≡ true → key_at new.keys key ≡ None → IsHeld new key live
held_filled new key live full from to stamp small bytes weighs runs limit placed fits within known fresh no_key = record {
  from = from;
  to = to;
  stamped = omega (arith, stamp);
  in_time = subst (λ n. IfSome (due_at live) (λ due. n ≤ due)) stamp (fresh_in_time live.kind live.stamp live.rate live.kept);
  small = small;
  few_bytes = bytes;
  weighs = weighs;
  paced = λ empty. absurd (true≢false (sym full ∙ empty));
  placed = placed;
  fits = fits;
  counted = λ latency. absurd (true≢false (sym full ∙ ap takes_share latency));
  flow = λ _. record {
    marked = true;
    runs = runs ∙ ap (λ b. Some (record { flow = asked_by new key live; rate = live.rate; began = b; marked = b || true })) (sym fresh);
    limit = limit;
    within = within;
    known = known;
  };
  dated = no_key ∙ sym (undated new.fresh key live fresh);
}

-- ---- the flows of the others
-- no activity except this one has a flow of this key
away : (s : State) (key id : ℕ) → ((live : Live) → slot_at s.slots key ≡ Some live → IsTrue (takes_share live.kind) → live.flow ≢ id) → (of : IsFlowOf s id) → slice_index s.by_flow id ≢ key
away s key id not of e = not of.live (ap (slot_at s.slots) (sym e) ∙ of.there) of.full of.is

pub back_still : (s new : State) (key id : ℕ) → ((live : Live) → slot_at s.slots key ≡ Some live → IsTrue (takes_share live.kind) → live.flow ≢ id) → ((k : ℕ) → k ≢ key → slot_at new.slots k ≡ slot_at s.slots k) → slice_index new.by_flow id ≡ slice_index s.by_flow id → IsFlowOf s id → IsFlowOf new id
back_still s new key id not others known of = record {
  live = of.live;
  there = ap (slot_at new.slots) known ∙ others (slice_index s.by_flow id) (away s key id not of) ∙ of.there;
  full = of.full;
  is = of.is;
}

module _ (s : State) (key id : ℕ) (is : IsKept s) where
  other_flow : running_at s.runs id ≡ None → (k : ℕ) (live : Live) → slot_at s.slots k ≡ Some live → IsTrue (takes_share live.kind) → live.flow ≢ id
  other_flow free k live at full e = not_there (running_at s.runs live.flow) (subst (λ o. IsSome o) (sym ((is.each k live at).flow full).runs) refl) (ap (running_at s.runs) e ∙ free)

  -- a flow came under a number
  pub flows_came : (running : RunningFlow) → running_at s.runs id ≡ None → (k : ℕ) (live : Live) → slot_at s.slots k ≡ Some live → IsTrue (takes_share live.kind) →
      (running_at (set s.runs id (Some running)) live.flow ≡ running_at s.runs live.flow) × (slice_index (set s.by_flow id key) live.flow ≡ slice_index s.by_flow live.flow)
  flows_came running free k live at full =
      let ne = other_flow free k live at full in
      (get_or-set_other s.runs id live.flow (Some running) None ne, get_or-set_other s.by_flow id live.flow key 0 ne)

  pub back_came : (new : State) (running : RunningFlow) (live : Live) → running_at s.runs id ≡ None → ((old : Live) → slot_at s.slots key ≡ Some old → takes_share old.kind ≡ false) → id < length s.by_flow → new.runs ≡ set s.runs id (Some running) → new.by_flow ≡ set s.by_flow id key → ((k : ℕ) → k ≢ key → slot_at new.slots k ≡ slot_at s.slots k) →
      slot_at new.slots key ≡ Some live → IsTrue (takes_share live.kind) → live.flow ≡ id → (n : ℕ) (r : RunningFlow) → running_at new.runs n ≡ Some r → IsFlowOf new n
  back_came new running live free empty within runs known others here full flow n r e = elim (set_cases s.runs id n (Some running) r (sym (ap (λ l. running_at l n) runs) ∙ e)) [
    | inl c ↦ record {
      live = live;
      there = ap (slot_at new.slots) (ap (λ l. slice_index l n) known ∙ ap (slice_index (set s.by_flow id key)) c.0 ∙ get_or-set_same s.by_flow id key 0 within) ∙ here;
      full = full;
      is = flow ∙ sym c.0;
    }
    | inr c ↦ back_still s new key n (λ old at filled. absurd (true≢false (sym filled ∙ empty old at))) others (ap (λ l. slice_index l n) known ∙ get_or-set_other s.by_flow id n key 0 c.0) (is.back n r c.1)
  ]

  -- the flow under the number of an activity went
  pub flows_went : (old : Live) → slot_at s.slots key ≡ Some old → IsTrue (takes_share old.kind) → old.flow ≡ id → (k : ℕ) (live : Live) → k ≢ key → slot_at s.slots k ≡ Some live → IsTrue (takes_share live.kind) →
      running_at (set s.runs id None) live.flow ≡ running_at s.runs live.flow
  flows_went old at full flow k live ne at' full' =
      get_or-set_other s.runs id live.flow None None (λ e. ne (sym ((is.each k live at').flow full').known ∙ ap (slice_index s.by_flow) (e ∙ sym flow) ∙ ((is.each key old at).flow full).known))

  pub back_went : (new : State) (old : Live) → slot_at s.slots key ≡ Some old → IsTrue (takes_share old.kind) → old.flow ≡ id → new.runs ≡ set s.runs id None → new.by_flow ≡ s.by_flow → ((k : ℕ) → k ≢ key → slot_at new.slots k ≡ slot_at s.slots k) →
      (n : ℕ) (r : RunningFlow) → running_at new.runs n ≡ Some r → IsFlowOf new n
  back_went new old at full flow runs known others n r e = elim (set_cases s.runs id n None r (sym (ap (λ l. running_at l n) runs) ∙ e)) [
    | inl c ↦ absurd (cc c.1)
    | inr c ↦ back_still s new key n (λ live at' _ same. c.0 (sym same ∙ ap (λ (l : Live). l.flow) (some_same (sym at' ∙ at)) ∙ flow)) others (ap (λ l. slice_index l n) known) (is.back n r c.1)
  ]

-- ---- activity ids
pub fresh_serial : (s : State) (serial : ℕ) → IsKept s → s.drawn < serial → (k : ℕ) (other : Live) → slot_at s.slots k ≡ Some other → other.serial ≢ serial
fresh_serial s serial is above k other at e = omega (arith, (is.each k other at).to, e, above)

pub idle_serial : (s : State) (serial : ℕ) → IsKept s → told_at (task_of s) s.slots serial ≡ None → (k : ℕ) (other : Live) → slot_at s.slots k ≡ Some other → other.serial ≢ serial
idle_serial s serial is idle = told_none (task_of s) s.slots serial is.apart idle

pub own_serial : (s : State) (key : ℕ) (live : Live) → IsKept s → slot_at s.slots key ≡ Some live → (k : ℕ) (other : Live) → k ≢ key → slot_at s.slots k ≡ Some other → other.serial ≢ live.serial
own_serial s key live is at k other ne at' e = ne (is.apart k key other live at' at e)

-- ---- keys
pub set_here : {X : Type 0} (xs : List (Option X)) (k : ℕ) (y : Option X) → k < length xs → get_or (set xs k y) k None ≡ y
set_here xs k y within = get_or-set_same xs k y None within

pub set_there : {X : Type 0} (xs : List (Option X)) (k n : ℕ) (y : Option X) → n ≢ k → get_or (set xs k y) n None ≡ get_or xs n None
set_there xs k n y ne = get_or-set_other xs k n y None ne
