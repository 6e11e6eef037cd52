-- What a start, an end and a change leave.
use Rattle.std.proofs.Common.{◌≡◌, ℕ, ◌<◌, ◌≤◌, ◌⊎◌, inl, inr, Bool, true, false, true≢false, cond, Option, None, Some, IsSome, IfSome, option_map, List, [], ◌∷◌, ◌++◌, map, length, get_or, set, Contains, get_or-set_same, get_or-set_other, refl, sym, ap, ap₂, subst, ◌∙◌, arith}
use Rattle.sg_base.specs.MarkSet.{is_in, with_mark}
use Rattle.sg_maxmin.specs.Fill.{Flow}
use Rattle.sg_maxmin.specs.Sharing.{Sharing, IsSound, Changes, flow_at}
use Rattle.sg_maxmin.proofs.Members.{In-from_contains, contains_from_In, In-append_left, In-append_right}
use Rattle.sg_lazy.specs.RunningFlow.{RunningFlow, bounded_by, running_at}
use Rattle.sg_lazy.specs.kept.Keeping.{AreKept}
use Rattle.sg_lazy.specs.kept.Held.{IsLazy, listed, running_of, running_in, flow_or_none, ended_in}
use Rattle.sg_maxmin_solve.proofs.Growing.{mark_cases, grows_mark, stays}
use Rattle.sg_lazy.proofs.Keeps.{start_keeps, end_keeps, capacity_keeps, bound_keeps}
use Rattle.sg_maxmin_solve.proofs.Listing.{is_in_other, map_same, new_mark}
use Rattle.sg_lazy.proofs.Listed.{length_listed, at_listed, past_listed, set_listed}
use Rattle.sg_maxmin.proofs.Listed.{mark_there, eq_cases, bool_cases, some_of, none_some, some_same}
use Rattle.sg_maxmin.proofs.Users.{in_is}

-- what is free didn't end
pub free_not_ended : (slots : List (Option Flow)) (ended : List ℕ) (id : ℕ) → ((id : ℕ) → is_in id ended ≡ true → IsSome (flow_at slots id)) → flow_at slots id ≡ None → is_in id ended ≡ false
free_not_ended slots ended id are free = elim (bool_cases (is_in id ended)) [
  | inr e ↦ e
  | inl e ↦ let s = some_of (flow_at slots id) (are id e) in absurd (none_some (sym free ∙ s.1))
]

pub start_slots : (old new : List (Option Flow)) (rates began marked ended : List ℕ) (id : ℕ) (flow : Flow) → Changes old new id (Some flow) → length new ≡ length old → id < length old → id < length rates → is_in id ended ≡ false
    → running_in new (set rates id 0) (with_mark id began) (with_mark id marked) ended ≡ set (running_in old rates began marked ended) id (Some (record { flow = flow; rate = 0; began = true; marked = true }))
start_slots old new rates began marked ended id flow changes len h long free =
    ap (λ k. listed k (running_of new (set rates id 0) (with_mark id began) (with_mark id marked) ended)) len
    ∙ set_listed (length old) (running_of old rates began marked ended) (running_of new (set rates id 0) (with_mark id began) (with_mark id marked) ended) id (Some (record { flow = flow; rate = 0; began = true; marked = true })) h
    (rw (free, changes.changed, get_or-set_same rates id 0 0 long, mark_there id began, mark_there id marked) refl)
    (λ other ne. rw (changes.others other ne, get_or-set_other rates id other 0 0 ne, is_in_other other id began ne, is_in_other other id marked ne) refl)

pub ended_same : (old new : List (Option Flow)) (ended : List ℕ) (id : ℕ) (slot : Option Flow) → Changes old new id slot → is_in id ended ≡ false → ended_in new ended ≡ ended_in old ended
ended_same old new ended id slot changes free = map_same (λ id. flow_or_none (flow_at new id)) (λ id. flow_or_none (flow_at old id)) ended (λ x i. ap flow_or_none (changes.others x (λ e. true≢false (sym (in_is x ended i) ∙ ap (λ k. is_in k ended) e ∙ free))))

pub start_lazy : (s t : Sharing) (rates began marked ended resources : List ℕ) (id : ℕ) (flow : Flow) → IsLazy s rates began marked ended resources → flow_at s.slots id ≡ None → id < length s.slots → id < length rates → Changes s.slots t.slots id (Some flow) → length t.slots ≡ length s.slots
    → t.capacities ≡ s.capacities → IsSound t → IsLazy t (set rates id 0) (with_mark id began) (with_mark id marked) ended resources
start_lazy s t rates began marked ended resources id flow lazy free below long changes len same sound =
    let off = free_not_ended s.slots ended id lazy.ended_are free in
    record {
      sound = sound;
      ended_are = λ other e. subst IsSome (sym (changes.others other (λ q. true≢false (sym e ∙ ap (λ k. is_in k ended) q ∙ off)))) (lazy.ended_are other e);
      marked_are = λ other e. elim (eq_cases other id) [
        | inl q ↦ subst IsSome (sym (ap (flow_at t.slots) q ∙ changes.changed)) refl
        | inr ne ↦ subst IsSome (sym (changes.others other ne)) (lazy.marked_are other (sym (is_in_other other id marked ne) ∙ e))
      ];
      began_are = λ other e. elim (mark_cases other id began e) [
        | inl k ↦ stays other marked (with_mark id marked) (grows_mark id marked) (lazy.began_are other k)
        | inr q ↦ subst (λ n. is_in n (with_mark id marked) ≡ true) (sym q) (mark_there id marked)
      ];
      kept =
          subst (λ c. AreKept c (running_in t.slots (set rates id 0) (with_mark id began) (with_mark id marked) ended) (ended_in t.slots ended) resources) (sym same)
          (subst (λ r. AreKept s.capacities r (ended_in t.slots ended) resources) (sym (start_slots s.slots t.slots rates began marked ended id flow changes len below long off))
          (subst (λ gone. AreKept s.capacities (set (running_in s.slots rates began marked ended) id (Some (record { flow = flow; rate = 0; began = true; marked = true }))) gone resources) (sym (ended_same s.slots t.slots ended id (Some flow) changes off))
          (start_keeps s.capacities (running_in s.slots rates began marked ended) (ended_in s.slots ended) resources id (record { flow = flow; rate = 0; began = true; marked = true }) lazy.kept (omega (arith, below, length_listed (length s.slots) (running_of s.slots rates began marked ended)))
          (at_listed (length s.slots) (running_of s.slots rates began marked ended) id None below ∙ rw (off, free) refl) refl (sound.flows id flow changes.changed).limit)));
    }

-- what runs is below the room, is held and didn't end
pub record IsHere (slots : List (Option Flow)) (rates began marked ended : List ℕ) (id : ℕ) (running : RunningFlow) : Type 0 where
  pub below : id < length slots
  pub off : is_in id ended ≡ false
  pub held : flow_at slots id ≡ Some running.flow
  pub rated : running.rate ≡ get_or rates id 0
  pub started : running.began ≡ is_in id began
  pub noted : running.marked ≡ is_in id marked

pub is_here : (slots : List (Option Flow)) (rates began marked ended : List ℕ) (id : ℕ) (running : RunningFlow) → running_at (running_in slots rates began marked ended) id ≡ Some running → IsHere slots rates began marked ended id running
is_here slots rates began marked ended id running at = elim (below_cases id (length slots)) [
  | inr past ↦ absurd (none_some (sym (past_listed (length slots) (running_of slots rates began marked ended) id None past) ∙ at))
  | inl h ↦ from (is_in id ended) refl (flow_at slots id) refl h (sym (at_listed (length slots) (running_of slots rates began marked ended) id None h) ∙ at)
]
  where
    below_cases : (a b : ℕ) → (a < b) ⊎ (b ≤ a)
    below_cases a b = grind arith

    from : (b : Bool) → is_in id ended ≡ b → (o : Option Flow) → flow_at slots id ≡ o → id < length slots → cond b None (option_map (λ held. record { flow = held; rate = get_or rates id 0; began = is_in id began; marked = is_in id marked }) o) ≡ Some running → IsHere slots rates began marked ended id running
    from true e o q h is = absurd (none_some is)
    from false e None q h is = absurd (none_some is)
    from false e (Some flow) q h is = let s = some_same (record { flow = flow; rate = get_or rates id 0; began = is_in id began; marked = is_in id marked }) running is in record { below = h; off = e; held = q ∙ ap (λ (r : RunningFlow). Some r.flow) s; rated = sym (ap (λ (r : RunningFlow). r.rate) s); started = sym (ap (λ (r : RunningFlow). r.began) s); noted = sym (ap (λ (r : RunningFlow). r.marked) s) }

pub end_slots : (slots : List (Option Flow)) (rates began marked ended : List ℕ) (id : ℕ) → id < length slots → running_in slots rates began marked (with_mark id ended) ≡ set (running_in slots rates began marked ended) id None
end_slots slots rates began marked ended id h = set_listed (length slots) (running_of slots rates began marked ended) (running_of slots rates began marked (with_mark id ended)) id None h
    (rw (mark_there id ended) refl)
    (λ other ne. rw (is_in_other other id ended ne) refl)

pub ended_more : (slots : List (Option Flow)) (ended : List ℕ) (id : ℕ) (flow : Flow) → is_in id ended ≡ false → flow_at slots id ≡ Some flow → ended_in slots (with_mark id ended) ≡ ended_in slots ended ++ flow ∷ []
ended_more slots ended id flow off held = ap (ended_in slots) (new_mark id ended off) ∙ map_end (λ id. flow_or_none (flow_at slots id)) ended id ∙ ap (λ o. ended_in slots ended ++ flow_or_none o ∷ []) held
  where
    map_end : {X Y : Type 0} (f : X → Y) (xs : List X) (x : X) → map f (xs ++ x ∷ []) ≡ map f xs ++ f x ∷ []
    map_end f [] x = refl
    map_end f (y ∷ xs) x = ap (λ ys. f y ∷ ys) (map_end f xs x)

-- the order of what ended doesn't matter
other_order : (caps : List ℕ) (slots : List (Option RunningFlow)) (ended others : List Flow) (resources : List ℕ) → ((flow : Flow) → Contains ended flow → Contains others flow) → AreKept caps slots ended resources → AreKept caps slots others resources
other_order caps slots ended others resources all k = record {
  past_capacities = k.past_capacities;
  past = k.past;
  past_limits = k.past_limits;
  limits = k.limits;
  there = k.there;
  rates = k.rates;
  same_capacities = λ c u. k.same_capacities c (record { unused = u.unused; gone = λ f i. u.gone f (all f i); same = u.same });
  same_flows = λ c u. k.same_flows c (record { unused = u.unused; gone = λ f i. u.gone f (all f i); same = u.same });
}

pub end_lazy : (s : Sharing) (rates began marked ended resources : List ℕ) (id : ℕ) (running : RunningFlow) → IsLazy s rates began marked ended resources → running_at (running_in s.slots rates began marked ended) id ≡ Some running → IsLazy s rates began marked (with_mark id ended) resources
end_lazy s rates began marked ended resources id running lazy at =
    let here = is_here s.slots rates began marked ended id running at in
    let runs = running_in s.slots rates began marked ended in
    record {
      sound = lazy.sound;
      ended_are = λ other e. elim (mark_cases other id ended e) [
        | inl k ↦ lazy.ended_are other k
        | inr q ↦ subst IsSome (sym (ap (flow_at s.slots) q ∙ here.held)) refl
      ];
      marked_are = lazy.marked_are;
      began_are = lazy.began_are;
      kept =
          subst (λ r. AreKept s.capacities r (ended_in s.slots (with_mark id ended)) resources) (sym (end_slots s.slots rates began marked ended id here.below))
          (subst (λ gone. AreKept s.capacities (set runs id None) gone resources) (sym (ended_more s.slots ended id running.flow here.off here.held))
          (other_order s.capacities (set runs id None) (running.flow ∷ ended_in s.slots ended) (ended_in s.slots ended ++ running.flow ∷ []) resources
          (λ f i. elim (In-from_contains (running.flow ∷ ended_in s.slots ended) f i) [
            | inl e ↦ contains_from_In (ended_in s.slots ended ++ running.flow ∷ []) f (In-append_right (ended_in s.slots ended) (running.flow ∷ []) f (inl e))
            | inr k ↦ contains_from_In (ended_in s.slots ended ++ running.flow ∷ []) f (In-append_left (ended_in s.slots ended) (running.flow ∷ []) f k)
          ])
          (end_keeps s.capacities runs (ended_in s.slots ended) resources id running lazy.kept (omega (arith, here.below, length_listed (length s.slots) (running_of s.slots rates began marked ended))) at)));
    }

-- another capacity
pub capacity_lazy : (s t : Sharing) (rates began marked ended resources : List ℕ) (resource capacity : ℕ) → IsLazy s rates began marked ended resources → t ≡ record s { capacities = set s.capacities resource capacity } → IsSound t →
    IsLazy t rates began marked ended (with_mark resource resources)
capacity_lazy s t rates began marked ended resources resource capacity lazy is sound =
    subst (λ (x : Sharing). IsSound x → IsLazy x rates began marked ended (with_mark resource resources)) (sym is) (λ well. record {
      sound = well;
      ended_are = lazy.ended_are;
      marked_are = lazy.marked_are;
      began_are = lazy.began_are;
      kept = capacity_keeps s.capacities (running_in s.slots rates began marked ended) (ended_in s.slots ended) resources resource capacity lazy.kept;
    }) sound

-- another bound
pub bound_told : (s t : Sharing) (id bound : ℕ) (held : Flow) → flow_at s.slots id ≡ Some held → IfSome (flow_at s.slots id) (λ (f : Flow). t ≡ record s { slots = set s.slots id (Some (record f { bound = Some bound })) }) → t ≡ record s { slots = set s.slots id (Some (record held { bound = Some bound })) }
bound_told s t id bound held is out = subst (λ o. IfSome o (λ (f : Flow). t ≡ record s { slots = set s.slots id (Some (record f { bound = Some bound })) })) is out

pub written : (old new : List (Option Flow)) (id : ℕ) (slot : Option Flow) → id < length old → new ≡ set old id slot → Changes old new id slot
written old new id slot h e = record { changed = ap (λ xs. flow_at xs id) e ∙ get_or-set_same old id slot None h; others = λ other ne. ap (λ xs. flow_at xs other) e ∙ get_or-set_other old id other slot None ne }

pub bound_slots : (old new : List (Option Flow)) (rates began marked ended : List ℕ) (id bound : ℕ) (running : RunningFlow) → IsHere old rates began marked ended id running → Changes old new id (Some (record running.flow { bound = Some bound })) → length new ≡ length old →
    running_in new rates began (with_mark id marked) ended ≡ set (running_in old rates began marked ended) id (Some (bounded_by bound running))
bound_slots old new rates began marked ended id bound running here changes len =
    ap (λ k. listed k (running_of new rates began (with_mark id marked) ended)) len
    ∙ set_listed (length old) (running_of old rates began marked ended) (running_of new rates began (with_mark id marked) ended) id (Some (bounded_by bound running)) here.below
    (rw (here.off, changes.changed, mark_there id marked) (ap₂ (λ r b. Some (record { flow = record running.flow { bound = Some bound }; rate = r; began = b; marked = true })) (sym here.rated) (sym here.started)))
    (λ other ne. rw (changes.others other ne, is_in_other other id marked ne) refl)

pub bound_lazy : (s t : Sharing) (rates began marked ended resources : List ℕ) (id bound : ℕ) (running : RunningFlow) → IsLazy s rates began marked ended resources → running_at (running_in s.slots rates began marked ended) id ≡ Some running →
    Changes s.slots t.slots id (Some (record running.flow { bound = Some bound })) → length t.slots ≡ length s.slots → t.capacities ≡ s.capacities → IsSound t → IsLazy t rates began (with_mark id marked) ended resources
bound_lazy s t rates began marked ended resources id bound running lazy at changes len same sound =
    let here = is_here s.slots rates began marked ended id running at in
    let runs = running_in s.slots rates began marked ended in
    record {
      sound = sound;
      ended_are = λ other e. subst IsSome (sym (changes.others other (λ q. true≢false (sym e ∙ ap (λ k. is_in k ended) q ∙ here.off)))) (lazy.ended_are other e);
      marked_are = λ other e. elim (eq_cases other id) [
        | inl q ↦ subst IsSome (sym (ap (flow_at t.slots) q ∙ changes.changed)) refl
        | inr ne ↦ subst IsSome (sym (changes.others other ne)) (lazy.marked_are other (sym (is_in_other other id marked ne) ∙ e))
      ];
      began_are = λ other e. stays other marked (with_mark id marked) (grows_mark id marked) (lazy.began_are other e);
      kept =
          subst (λ c. AreKept c (running_in t.slots rates began (with_mark id marked) ended) (ended_in t.slots ended) resources) (sym same)
          (subst (λ r. AreKept s.capacities r (ended_in t.slots ended) resources) (sym (bound_slots s.slots t.slots rates began marked ended id bound running here changes len))
          (subst (λ gone. AreKept s.capacities (set runs id (Some (bounded_by bound running))) gone resources) (sym (ended_same s.slots t.slots ended id (Some (record running.flow { bound = Some bound })) changes here.off))
          (bound_keeps s.capacities runs (ended_in s.slots ended) resources id bound running lazy.kept (omega (arith, here.below, length_listed (length s.slots) (running_of s.slots rates began marked ended))) at)));
    }
