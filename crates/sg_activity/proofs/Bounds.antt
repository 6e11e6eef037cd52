-- Bounds of activities as they are set anew, one after the other.
use Rattle.std.proofs.lemmas.List.{set-get_or}
use Rattle.std.proofs.Common.{◌≡◌, ◌≢◌, ℕ, ◌==◌, ◌<◌, inl, inr, Bool, true, false, not, cond, ◌||◌, true≢false, Option, None, Some, option_map, List, [], ◌∷◌, ◌++◌, length, length-set, set, get_or-set_same, get_or-set_other, slice_index, IsTrue, IsSome, refl, sym, ap, ap₂, subst, ◌∙◌, arith}
use Rattle.std.proofs.lemmas.List.Folds.{list_any-append}
use Rattle.sg_base.specs.MarkSet.{is_in}
use Rattle.sg_lazy.specs.Lazily.{Lazily, with_bound, with_other_bound}
use Rattle.sg_lazy.specs.RunningFlow.{RunningFlow, bounded_by, has_bound, is_same_bound, running_at}
use Rattle.sg_activity.specs.declared.activity_state.Kept.{Kept}
use Rattle.sg_activity_table.specs.declared.lives.Live.{Live}
use Rattle.sg_activity_table.specs.Kinds.{takes_share}
use Rattle.sg_activity_table.specs.Pool.{slot_at}
use Rattle.sg_activity.specs.kept.Bounds.{HasFlows, Rebounds, rebound_by, rebound_to}
use Rattle.sg_activity.specs.kept.State.{asked_by, state_of}
use Rattle.sg_activity.proofs.Listing.{eq_cases, some_same}
use Rattle.sg_activity.proofs.Pairing.{there_within}

in_one : (key : ℕ) → is_in key (key ∷ []) ≡ true
in_one key = grind arith

not_in_one : (k key : ℕ) → k ≢ key → is_in k (key ∷ []) ≡ false
not_in_one k key ne = grind arith

pub some_is : {X : Type 0} (o : Option X) → IsSome o → (x : X) × (o ≡ Some x)
some_is None some = absurd (cc some)
some_is (Some x) some = (x, refl)

eqb_is : (a b : ℕ) → (a == b) ≡ true → a ≡ b
eqb_is a b e = grind arith

or_true : (b : Bool) → (b || true) ≡ true
or_true true = refl
or_true false = refl

or_false : (b : Bool) → (b || false) ≡ b
or_false true = refl
or_false false = refl

same_is : (old : Option ℕ) (bound : ℕ) → is_same_bound old (Some bound) ≡ true → old ≡ Some bound
same_is None bound e = absurd (true≢false (sym e))
same_is (Some a) bound e = ap (λ n. Some n) (eqb_is a bound e)

-- a flow that has the bound stays as it is, and one that hasn't is marked
rebound_same : (bound : ℕ) (r : RunningFlow) → is_same_bound r.flow.bound (Some bound) ≡ true → rebound_to (Some bound) r ≡ r
rebound_same bound r e =
    ap₂ (λ b m. record r { flow = record r.flow { bound = b }; marked = m }) (sym (same_is r.flow.bound bound e)) (ap (λ b. r.marked || not b) e ∙ or_false r.marked)

rebound_other : (bound : ℕ) (r : RunningFlow) → is_same_bound r.flow.bound (Some bound) ≡ false → rebound_to (Some bound) r ≡ bounded_by bound r
rebound_other bound r e = ap (λ m. record r { flow = record r.flow { bound = Some bound }; marked = m }) (ap (λ b. r.marked || not b) e ∙ or_true r.marked)

-- what a bound changes, be it the same or another
bound_lazy : (s : Lazily) (id bound : ℕ) → IsSome (running_at s.slots id) → with_bound s id bound ≡ record s { slots = set s.slots id (option_map (rebound_to (Some bound)) (running_at s.slots id)) }
bound_lazy s id bound some =
    let r = some_is (running_at s.slots id) some in
    go r.0 r.1 (is_same_bound r.0.flow.bound (Some bound)) refl
  where
    go : (r : RunningFlow) → running_at s.slots id ≡ Some r → (b : Bool) → is_same_bound r.flow.bound (Some bound) ≡ b → with_bound s id bound ≡ record s { slots = set s.slots id (option_map (rebound_to (Some bound)) (running_at s.slots id)) }
    go r at true e =
        ap (λ b. cond b s (with_other_bound s id bound)) (ap (has_bound bound) at ∙ e)
        ∙ ap (λ l. record s { slots = l }) (sym (set-get_or s.slots id None) ∙ ap (set s.slots id) (at ∙ ap (λ x. Some x) (sym (rebound_same bound r e)) ∙ sym (ap (option_map (rebound_to (Some bound))) at)))
    go r at false e =
        ap (λ b. cond b s (with_other_bound s id bound)) (ap (has_bound bound) at ∙ e)
        ∙ ap (λ o. record s { slots = set s.slots id o }) (ap (option_map (bounded_by bound)) at ∙ ap (λ x. Some x) (sym (rebound_other bound r e)) ∙ sym (ap (option_map (rebound_to (Some bound))) at))

bounded_is : (bound : ℕ) (b : Option ℕ) (o : Option RunningFlow) → b ≡ Some bound → option_map (rebound_to (Some bound)) o ≡ option_map (rebound_to b) o
bounded_is bound b None e = refl
bounded_is bound b (Some r) e = ap (λ c. Some (rebound_to c r)) (sym e)

-- the flow of one activity gets its bound
pub rebound_one : (kept : Kept) (lazy : Lazily) (key bound : ℕ) (live : Live) → HasFlows kept → slot_at kept.lives.slots key ≡ Some live → IsTrue (takes_share live.kind) → (asked_by (state_of kept) key live).bound ≡ Some bound → lazy ≡ with_bound kept.lazy live.flow bound →
    Rebounds kept (record kept { lazy = lazy }) (key ∷ [])
rebound_one kept lazy key bound live has at full bound_is by = record {
  rest = refl;
  lazy = is ∙ ap (λ l. record kept.lazy { slots = l }) (sym slots_are);
  long = ap length slots_are ∙ length-set slots live.flow one;
  runs = λ k other at' full'. elim (eq_cases k key) [
    | inl e ↦
        let same : live ≡ other = some_same (sym at ∙ ap (slot_at kept.lives.slots) (sym e) ∙ at') in
        subst (λ n. Fits n other) (sym e) (subst (Fits key) same here)
    | inr ne ↦
        let away : other.flow ≢ live.flow = (λ e. ne (sym (has.own k other at' full') ∙ ap (slice_index kept.by_flow.items) e ∙ has.own key live at full)) in
        ap (λ l. running_at l other.flow) slots_are ∙ get_or-set_other slots live.flow other.flow one None away
        ∙ sym (ap (λ b. cond b (rebound_by kept k other (running_at slots other.flow)) (running_at slots other.flow)) (not_in_one k key ne))
  ];
  back = λ id some. elim (eq_cases id live.flow) [
    | inl e ↦ subst (λ n. IsSome (running_at slots n)) (sym e) (has.runs key live at full)
    | inr ne ↦ subst IsSome (ap (λ l. running_at l id) slots_are ∙ get_or-set_other slots live.flow id one None ne) some
  ];
}
  where
    slots : List (Option RunningFlow)
    slots = kept.lazy.slots

    one : Option RunningFlow
    one = option_map (rebound_to (Some bound)) (running_at slots live.flow)

    is : lazy ≡ record kept.lazy { slots = set slots live.flow one }
    is = by ∙ bound_lazy kept.lazy live.flow bound (has.runs key live at full)

    slots_are : lazy.slots ≡ set slots live.flow one
    slots_are = ap (λ (l : Lazily). l.slots) is

    Fits : ℕ → Live → Type 0
    Fits n other = running_at lazy.slots other.flow ≡ cond (is_in n (key ∷ [])) (rebound_by kept n other (running_at slots other.flow)) (running_at slots other.flow)

    within : live.flow < length slots
    within = let r = some_is (running_at slots live.flow) (has.runs key live at full) in there_within slots live.flow r.0 r.1

    here : Fits key live
    here =
        ap (λ l. running_at l live.flow) slots_are ∙ get_or-set_same slots live.flow one None within
        ∙ bounded_is bound (asked_by (state_of kept) key live).bound (running_at slots live.flow) bound_is
        ∙ sym (ap (λ b. cond b (rebound_by kept key live (running_at slots live.flow)) (running_at slots live.flow)) (in_one key))

-- no bound is set
pub rebound_none : (kept new : Kept) → new ≡ kept → Rebounds kept new []
rebound_none kept new same = subst (λ k. Rebounds kept k []) (sym same) (record {
  rest = refl;
  lazy = refl;
  long = refl;
  runs = λ key live at full. refl;
  back = λ id some. some;
})

twice : (b : Option ℕ) (o : Option RunningFlow) → option_map (rebound_to b) (option_map (rebound_to b) o) ≡ option_map (rebound_to b) o
twice None None = refl
twice None (Some r) = refl
twice (Some n) None = refl
twice (Some n) (Some r) = ap (λ m. Some (record r { flow = record r.flow { bound = Some n }; marked = m })) (ap (λ b. (r.marked || not (is_same_bound r.flow.bound (Some n))) || not b) (eqb_self n) ∙ or_false (r.marked || not (is_same_bound r.flow.bound (Some n))))
  where
    eqb_self : (n : ℕ) → (n == n) ≡ true
    eqb_self n = grind arith

-- one more gets its bound
pub rebound_on : (old mid new : Kept) (keys : List ℕ) (key : ℕ) → Rebounds old mid keys → Rebounds mid new (key ∷ []) → Rebounds old new (keys ++ key ∷ [])
rebound_on old mid new keys key a b = record {
  rest = b.rest ∙ ap (λ (m : Kept). record m { lazy = new.lazy }) a.rest;
  lazy = b.lazy ∙ ap (λ (l : Lazily). record l { slots = new.lazy.slots }) a.lazy;
  long = b.long ∙ a.long;
  runs = λ k live at full.
      let at_mid = ap (λ (m : Kept). slot_at m.lives.slots k) a.rest ∙ at in
      let bound : (asked_by (state_of mid) k live).bound ≡ (asked_by (state_of old) k live).bound = ap (λ (m : Kept). (asked_by (state_of m) k live).bound) a.rest in
      step (asked_by (state_of old) k live).bound (is_in k keys) (is_in k (key ∷ [])) (running_at old.lazy.slots live.flow) (running_at mid.lazy.slots live.flow) (running_at new.lazy.slots live.flow) (a.runs k live at full)
      (b.runs k live at_mid full ∙ ap (λ c. cond (is_in k (key ∷ [])) (option_map (rebound_to c) (running_at mid.lazy.slots live.flow)) (running_at mid.lazy.slots live.flow)) bound)
      ∙ sym (ap (λ c. cond c (rebound_by old k live (running_at old.lazy.slots live.flow)) (running_at old.lazy.slots live.flow)) (list_any-append (λ member. member == k) keys (key ∷ [])));
  back = λ id some. a.back id (b.back id some);
}
  where
    step : (b : Option ℕ) (x y : Bool) (first second third : Option RunningFlow) → second ≡ cond x (option_map (rebound_to b) first) first → third ≡ cond y (option_map (rebound_to b) second) second → third ≡ cond (x || y) (option_map (rebound_to b) first) first
    step b true true first second third e f = f ∙ ap (option_map (rebound_to b)) e ∙ twice b first
    step b true false first second third e f = f ∙ e
    step b false true first second third e f = f ∙ ap (option_map (rebound_to b)) e
    step b false false first second third e f = f ∙ e

some_kept : (b : Option ℕ) (x : Bool) (o : Option RunningFlow) → IsSome o → IsSome (cond x (option_map (rebound_to b) o) o)
some_kept b x None some = absurd (cc some)
some_kept b true (Some r) some = refl
some_kept b false (Some r) some = refl

-- all still have their flows
pub flows_still : (old mid : Kept) (keys : List ℕ) → HasFlows old → Rebounds old mid keys → HasFlows mid
flows_still old mid keys has a =
    subst HasFlows (sym a.rest) (record {
      places = has.places;
      runs = λ key live at full. subst IsSome (sym (a.runs key live at full)) (some_kept (asked_by (state_of old) key live).bound (is_in key keys) (running_at old.lazy.slots live.flow) (has.runs key live at full));
      own = has.own;
      rows = has.rows;
      rows_long = has.rows_long;
    })
