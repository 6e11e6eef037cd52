-- What the levels say of the rates stays right.
use Rattle.std.proofs.Common.{◌≡◌, ℕ, ◌<◌, ◌≤◌, ◌^◌, ◌⊎◌, inl, inr, Bool, true, false, true≢false, Option, Some, IsSome, IfSome, List, [], length, get_or, set, get_or-set_same, get_or-set_other, refl, sym, ap, ap₂, subst, ◌∙◌, arith}
use Rattle.sg_base.specs.MarkSet.{is_in, with_mark}
use Rattle.sg_maxmin.specs.Fill.{Flow, flow}
use Rattle.sg_maxmin.specs.Sharing.{Sharing, IsSound, flow_at, uses_in}
use Rattle.sg_maxmin_levels.specs.declared.levels.Levels.{Levels}
use Rattle.sg_maxmin_levels.specs.Kept.{IsBetween, IsFresh, IsStarted, IsWithin, NotesChanged}
use Rattle.sg_maxmin.specs.Numbered.{bound_at, flow_in, level_at, slot_bound, slot_weight, weight_at}
use Rattle.sg_maxmin_solve.proofs.Growing.{grows_mark, mark_cases, stays}
use Rattle.sg_maxmin_solve.specs.declared.parts.Parts.{Parts}
use Rattle.sg_maxmin_solve.specs.Component.{AreIn}
use Rattle.sg_maxmin_solve.specs.Parts.{IsReady}
use Rattle.sg_maxmin_solve.proofs.Rows.{into}
use Rattle.sg_lazy.specs.kept.Leveled.{AreLeveled, rate_at, rate_of}
use Rattle.sg_maxmin.proofs.Listed.{mark_there, bool_cases, eq_cases, some_of, none_some}

abbrev of_slot : Option Flow → Flow
of_slot slot = flow (uses_in slot) (slot_weight slot) (slot_bound slot)

-- a flow's rate is that of its slot and its level
pub rate_same : (old new : List (Option Flow)) (levels levels' : List (Option ℕ)) (id : ℕ) → flow_at new id ≡ flow_at old id → level_at levels' id ≡ level_at levels id → rate_at new levels' id ≡ rate_at old levels id
rate_same old new levels levels' id e l = ap₂ rate_of (ap of_slot e) l

pub flow_is : (slots : List (Option Flow)) (id : ℕ) (f : Flow) → flow_at slots id ≡ Some f → flow_in slots id ≡ f
flow_is slots id f e = ap of_slot e

pub weight_told : (slots : List (Option Flow)) (id w : ℕ) → IsSome (flow_at slots id) → IfSome (flow_at slots id) (λ (f : Flow). w ≡ f.weight) → w ≡ weight_at slots id
weight_told slots id w some told =
    let f = some_of (flow_at slots id) some in
    subst (λ o. IfSome o (λ (f : Flow). w ≡ f.weight)) f.1 told ∙ sym (ap slot_weight f.1)

pub bound_is_told : (slots : List (Option Flow)) (id : ℕ) (b : Option ℕ) → IsSome (flow_at slots id) → IfSome (flow_at slots id) (λ (f : Flow). b ≡ f.bound) → b ≡ bound_at slots id
bound_is_told slots id b some told =
    let f = some_of (flow_at slots id) some in
    subst (λ o. IfSome o (λ (f : Flow). b ≡ f.bound)) f.1 told ∙ sym (ap slot_bound f.1)

-- what isn't noted now wasn't
pub off_before : (id : ℕ) (old new : List ℕ) → (is_in id old ≡ true → is_in id new ≡ true) → is_in id new ≡ false → is_in id old ≡ false
off_before id old new grows off = elim (bool_cases (is_in id old)) [
  | inr q ↦ q
  | inl q ↦ absurd (true≢false (sym (grows q) ∙ off))
]

pub widen : (p q p' q' : ℕ → Bool) (all : Levels) → ((id : ℕ) → p id ≡ true → p' id ≡ true) → ((r : ℕ) → q r ≡ true → q' r ≡ true) → IsWithin p q all → IsWithin p' q' all
widen p q p' q' all f g w = record {
  active = λ r e. g r (w.active r e);
  moved = λ id e. f id (w.moved id e);
  stale = λ id e. f id (w.stale id e);
}

-- Flows change, and what changes is noted.
pub leveled_on : (s t : Sharing) (old new : Levels) (rates rates' began began' marked marked' resources resources' : List ℕ) → AreLeveled s old rates began marked resources → IsBetween t new → NotesChanged s t old new →
    IsWithin (λ id. is_in id marked') (λ r. is_in r resources') new → ((id : ℕ) → is_in id began' ≡ true → (is_in id began ≡ true) ⊎ (is_in id new.moved.members ≡ true)) →
    ((id : ℕ) (f : Flow) → flow_at s.slots id ≡ Some f → get_or rates' id 0 ≡ get_or rates id 0) → ((c : ℕ) → get_or t.capacities c 0 < 2 ^ 64) → AreLeveled t new rates' began' marked' resources'
leveled_on s t old new rates rates' began began' marked marked' resources resources' was between changed within begun same fit = record {
  between = between;
  within = within;
  begun = λ id e. elim (begun id e) [
    | inl b ↦ changed.grows id (was.begun id b)
    | inr m ↦ m
  ];
  rates_are = λ id f e off.
      let k = changed.same id f e off in
      same id f k.0 ∙ was.rates_are id f k.0 (off_before id old.moved.members new.moved.members (changed.grows id) off) ∙ sym (rate_same s.slots t.slots old.levels.items new.levels.items id (e ∙ sym k.0) k.1);
  fit = fit;
}

pub start_leveled : (s t : Sharing) (old new : Levels) (rates began marked resources : List ℕ) (id : ℕ) (its : Flow) → AreLeveled s old rates began marked resources → IsStarted s t id its → IsBetween t new → NotesChanged s t old new →
    ((p q : ℕ → Bool) → p id ≡ true → IsWithin p q old → IsWithin p q new) → AreLeveled t new (set rates id 0) (with_mark id began) (with_mark id marked) resources
start_leveled s t old new rates began marked resources id its was started between changed within =
    leveled_on s t old new rates (set rates id 0) began (with_mark id began) marked (with_mark id marked) resources resources was between changed
    (within (λ k. is_in k (with_mark id marked)) (λ r. is_in r resources) (mark_there id marked) (widen (λ k. is_in k marked) (λ r. is_in r resources) (λ k. is_in k (with_mark id marked)) (λ r. is_in r resources) old (λ k e. stays k marked (with_mark id marked) (grows_mark id marked) e) (λ r e. e) was.within))
    (λ k e. elim (mark_cases k id began e) [
      | inl b ↦ inl b
      | inr q ↦ inr (subst (λ n. is_in n new.moved.members ≡ true) (sym q) (elim (bool_cases (is_in id new.moved.members)) [
        | inl on ↦ on
        | inr off ↦ absurd (none_some (sym started.free ∙ (changed.same id its started.added.changed off).0))
      ]))
    ])
    (λ k f e. get_or-set_other rates id k 0 0 (λ q. none_some (sym started.free ∙ ap (flow_at s.slots) (sym q) ∙ e)))
    (λ c. subst (λ caps. get_or caps c 0 < 2 ^ 64) (sym started.capacities) (was.fit c))

pub bound_leveled : (s t : Sharing) (old new : Levels) (rates began marked resources : List ℕ) (id : ℕ) → AreLeveled s old rates began marked resources → t.capacities ≡ s.capacities → IsBetween t new → NotesChanged s t old new →
    ((p q : ℕ → Bool) → p id ≡ true → IsWithin p q old → IsWithin p q new) → AreLeveled t new rates began (with_mark id marked) resources
bound_leveled s t old new rates began marked resources id was caps between changed within =
    leveled_on s t old new rates rates began began marked (with_mark id marked) resources resources was between changed
    (within (λ k. is_in k (with_mark id marked)) (λ r. is_in r resources) (mark_there id marked) (widen (λ k. is_in k marked) (λ r. is_in r resources) (λ k. is_in k (with_mark id marked)) (λ r. is_in r resources) old (λ k e. stays k marked (with_mark id marked) (grows_mark id marked) e) (λ r e. e) was.within))
    (λ k e. inl e) (λ k f e. refl) (λ c. subst (λ xs. get_or xs c 0 < 2 ^ 64) (sym caps) (was.fit c))

pub capacity_leveled : (s t : Sharing) (old new : Levels) (rates began marked resources : List ℕ) (resource capacity : ℕ) → AreLeveled s old rates began marked resources → resource < length s.capacities → capacity < 2 ^ 64 → t.capacities ≡ set s.capacities resource capacity →
    IsBetween t new → NotesChanged s t old new → ((p q : ℕ → Bool) → q resource ≡ true → IsWithin p q old → IsWithin p q new) → AreLeveled t new rates began marked (with_mark resource resources)
capacity_leveled s t old new rates began marked resources resource capacity was below small caps between changed within =
    leveled_on s t old new rates rates began began marked marked resources (with_mark resource resources) was between changed
    (within (λ k. is_in k marked) (λ r. is_in r (with_mark resource resources)) (mark_there resource resources) (widen (λ k. is_in k marked) (λ r. is_in r resources) (λ k. is_in k marked) (λ r. is_in r (with_mark resource resources)) old (λ k e. e) (λ r e. stays r resources (with_mark resource resources) (grows_mark resource resources) e) was.within))
    (λ k e. inl e) (λ k f e. refl)
    (λ c. subst (λ xs. get_or xs c 0 < 2 ^ 64) (sym caps) (elim (eq_cases c resource) [
      | inl q ↦ subst (λ n. n < 2 ^ 64) (sym (ap (λ k. get_or (set s.capacities resource capacity) k 0) q ∙ get_or-set_same s.capacities resource capacity 0 below)) small
      | inr ne ↦ subst (λ n. n < 2 ^ 64) (sym (get_or-set_other s.capacities resource c capacity 0 ne)) (was.fit c)
    ]))

pub roomier_leveled : (s t : Sharing) (old new : Levels) (rates rates' began began' marked marked' resources resources' : List ℕ) → AreLeveled s old rates began marked resources → t.capacities ≡ s.capacities → IsBetween t new → NotesChanged s t old new →
    ((p q : ℕ → Bool) → IsWithin p q old → IsWithin p q new) → ((i : ℕ) → get_or rates' i 0 ≡ get_or rates i 0) → began' ≡ began → marked' ≡ marked → resources' ≡ resources → AreLeveled t new rates' began' marked' resources'
roomier_leveled s t old new rates rates' began began' marked marked' resources resources' was caps between changed within same eb em er =
    subst (λ b. AreLeveled t new rates' b marked' resources') (sym eb) (subst (λ m. AreLeveled t new rates' began m resources') (sym em) (subst (λ r. AreLeveled t new rates' began marked r) (sym er)
    (leveled_on s t old new rates rates' began began marked marked resources resources was between changed (within (λ k. is_in k marked) (λ r. is_in r resources) was.within)
    (λ k e. inl e) (λ k f e. same k) (λ c. subst (λ xs. get_or xs c 0 < 2 ^ 64) (sym caps) (was.fit c)))))

pub fresh_leveled : (s : Sharing) (kept : Levels) (rates b m r : List ℕ) → IsSound s → s.slots ≡ [] → IsFresh (length s.capacities) kept → ((p q : ℕ → Bool) → IsWithin p q kept) → ((c : ℕ) → get_or s.capacities c 0 < 2 ^ 64) → b ≡ [] → m ≡ [] → r ≡ [] → AreLeveled s kept rates b m r
fresh_leveled s kept rates b m r sound none fresh nothing fit eb em er = record {
  between = fresh s sound none refl;
  within = nothing (λ id. is_in id m) (λ c. is_in c r);
  begun = λ id e. absurd (true≢false (sym e ∙ ap (is_in id) eb));
  rates_are = λ id f e off. absurd (none_some (sym (ap (λ xs. flow_at xs id) none) ∙ e));
  fit = fit;
}

-- Once nothing is active, stale or noted, and all rates are those of the levels, nothing need be marked.
pub still_leveled : (s : Sharing) (kept : Levels) (rates b m r : List ℕ) → IsBetween s kept → ((p q : ℕ → Bool) → IsWithin p q kept) → ((id : ℕ) (f : Flow) → flow_at s.slots id ≡ Some f → get_or rates id 0 ≡ rate_at s.slots kept.levels.items id) → ((c : ℕ) → get_or s.capacities c 0 < 2 ^ 64) → b ≡ [] → m ≡ [] → r ≡ [] → AreLeveled s kept rates b m r
still_leveled s kept rates b m r between nothing rates_are fit eb em er = record {
  between = between;
  within = nothing (λ id. is_in id m) (λ c. is_in c r);
  begun = λ id e. absurd (true≢false (sym e ∙ ap (is_in id) eb));
  rates_are = λ id f e off. rates_are id f e;
  fit = fit;
}

-- What two stretches of time note.
pub notes_none : (s : Sharing) (all : Levels) → NotesChanged s s all all
notes_none s all = record { grows = λ id e. e; same = λ id f e off. (e, refl) }

pub notes_on : (s t u : Sharing) (a b z : Levels) → NotesChanged s t a b → NotesChanged t u b z → NotesChanged s u a z
notes_on s t u a b z first then = record {
  grows = λ id e. then.grows id (first.grows id e);
  same = λ id f e off.
      let k = then.same id f e off in
      let j = first.same id f k.0 (off_before id b.moved.members z.moved.members (then.grows id) off) in
      (j.0, k.1 ∙ j.1);
}

-- What is noted, stale or active passes if all that is marked does, and what is active is marked.
pub pending_within : (a b : Levels) (marked resources active : List ℕ) (p q : ℕ → Bool) → IsWithin (λ id. is_in id marked) (λ r. is_in r resources) a → (((p q : ℕ → Bool) → ((r : ℕ) → q r ≡ true) → IsWithin p q a → IsWithin p q b)) → AreIn b.active.members active → ((id : ℕ) → is_in id marked ≡ true → p id ≡ true) → ((r : ℕ) → is_in r active ≡ true → q r ≡ true) → IsWithin p q b
pending_within a b marked resources active p q was stays' there flows rows =
    let w = stays' p (λ r. true) (λ r. refl) (widen (λ id. is_in id marked) (λ r. is_in r resources) p (λ r. true) a flows (λ r e. refl) was) in
    record {
      active = λ r e. rows r (into b.active.members active r there e);
      moved = w.moved;
      stale = w.stale;
    }

pub ready_on : (parts : Parts) (n m n' m' : ℕ) → n' ≡ n → m' ≡ m → IsReady n m parts → IsReady n' m' parts
ready_on parts n m n' m' e f r = subst (λ k. IsReady k m' parts) (sym e) (subst (λ k. IsReady n k parts) (sym f) r)

pub ready_less : (parts : Parts) (n n' m m' : ℕ) → n' ≤ n → m' ≡ m → IsReady n m parts → IsReady n' m' parts
ready_less parts n n' m m' less e r = ready_fewer parts n n' m' less (subst (λ k. IsReady n k parts) (sym e) r)
  where
    ready_fewer : (parts : Parts) (n n' m : ℕ) → n' ≤ n → IsReady n m parts → IsReady n' m parts
    ready_fewer parts n n' m less r = record { touched = omega (arith, less, r.touched); fixed = omega (arith, less, r.fixed); reached = r.reached; filling = r.filling }

-- what holds if nothing is marked holds of these, which are empty
pub no_marks : (P : List ℕ → List ℕ → List ℕ → Type 0) (b m r : List ℕ) → b ≡ [] → m ≡ [] → r ≡ [] → P [] [] [] → P b m r
no_marks P b m r eb em er p = subst (λ x. P x m r) (sym eb) (subst (λ x. P [] x r) (sym em) (subst (P [] []) (sym er) p))
