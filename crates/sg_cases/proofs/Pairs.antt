-- Flows that run in both, as one starts, and as one ends.
use Rattle.std.proofs.Common.{◌≡◌, ◌≢◌, ℕ, ◌<◌, ◌≤◌, ◌⊎◌, inl, inr, Option, None, Some, IsSome, is_some, List, length, get_or, set, get_or-set_same, get_or-set_other, sym, ap, subst, ◌∙◌, arith}
use Rattle.std.proofs.lemmas.Grind.{get_or-set_at}
use Rattle.std.proofs.lemmas.List.{get_or_past}
use Rattle.sg_maxmin.specs.Sharing.{Sharing, flow_at}
use Rattle.sg_lazy.specs.RunningFlow.{RunningFlow, running_at}
use Rattle.sg_lazy.specs.Lazily.{Lazily}
use Rattle.sg_cases.specs.Pairs.{ArePaired, twin_of}
use Rattle.sg_maxmin.proofs.Listed.{eq_cases}

none_some : {X : Type 0} (x : X) → None ≡ Some x → ⊥
none_some x h = cc h

same_number : (i j : ℕ) → Some i ≡ Some j → i ≡ j
same_number i j h = cc h

is_none : {X : Type 0} (o : Option X) → o ≡ None → IsSome o → ⊥
is_none None e h = cc h
is_none (Some x) e h = none_some x (sym e)

-- what is there stays there, if one that is there is written
pub still_there : {X : Type 0} (xs : List (Option X)) (id : ℕ) (y : Option X) (other : ℕ) → IsSome y → IsSome (get_or xs other None) → IsSome (get_or (set xs id y) other None)
still_there xs id y other some h = elim (eq_cases other id) [
  | inr ne ↦ ap is_some (get_or-set_other xs id other y None ne) ∙ h
  | inl q ↦ ap is_some (get_or-set_at xs id other y None q (below q (below_cases other (length xs)))) ∙ some
]
  where
    below_cases : (a b : ℕ) → (a < b) ⊎ (b ≤ a)
    below_cases a b = grind arith

    below : other ≡ id → (other < length xs) ⊎ (length xs ≤ other) → id < length xs
    below q (inl l) = omega (arith, q, l)
    below q (inr past) = absurd (is_none (get_or xs other None) (get_or_past xs other None past) h)

-- each flow runs on in its place, and no number changes its twin
pub pairs_stay : (a b : Lazily) (s t : Sharing) (twins twins' : List (Option ℕ)) → ArePaired a s twins → length b.capacities ≡ length a.capacities → length t.capacities ≡ length s.capacities → ((id : ℕ) → IsSome (running_at a.slots id) → IsSome (running_at b.slots id)) → ((id : ℕ) → IsSome (flow_at s.slots id) → IsSome (flow_at t.slots id)) →
    ((id : ℕ) → twin_of twins' id ≡ twin_of twins id) → ArePaired b t twins'
pairs_stay a b s t twins twins' paired caps whole_caps run held same = record {
  lazy_resources = caps ∙ paired.lazy_resources;
  whole_resources = whole_caps ∙ paired.whole_resources;
  run = λ id twin e. run id (paired.run id twin (sym (same id) ∙ e));
  held = λ id twin e. held twin (paired.held id twin (sym (same id) ∙ e));
  apart = λ id other twin e f. paired.apart id other twin (sym (same id) ∙ e) (sym (same other) ∙ f);
}

-- one starts
pub pairs_start : (a b : Lazily) (s t : Sharing) (twins : List (Option ℕ)) (id twin : ℕ) (running : RunningFlow) → ArePaired a s twins → length b.capacities ≡ length a.capacities → length t.capacities ≡ length s.capacities → id < length a.slots → id < length twins → b.slots ≡ set a.slots id (Some running) → flow_at s.slots twin ≡ None → IsSome (flow_at t.slots twin) →
    ((other : ℕ) → other ≢ twin → flow_at t.slots other ≡ flow_at s.slots other) → ArePaired b t (set twins id (Some twin))
pairs_start a b s t twins id twin running paired caps whole_caps below long runs free there others = record {
  lazy_resources = caps ∙ paired.lazy_resources;
  whole_resources = whole_caps ∙ paired.whole_resources;
  run = λ other w e. elim (eq_cases other id) [
    | inl q ↦ ap is_some (ap (running_at b.slots) q ∙ ap (λ slots. running_at slots id) runs ∙ get_or-set_same a.slots id (Some running) None below)
    | inr ne ↦ ap is_some (ap (λ slots. running_at slots other) runs ∙ get_or-set_other a.slots id other (Some running) None ne) ∙ paired.run other w (before other w ne e)
  ];
  held = λ other w e. elim (eq_cases other id) [
    | inl q ↦ subst (λ n. IsSome (flow_at t.slots n)) (here other w q e) there
    | inr ne ↦ ap is_some (others w (apart_from other w ne e)) ∙ paired.held other w (before other w ne e)
  ];
  apart = λ one other w e f. elim (eq_cases one id) [
    | inl q ↦ elim (eq_cases other id) [
      | inl p ↦ q ∙ sym p
      | inr ne ↦ absurd (apart_from other w ne f (sym (here one w q e)))
    ]
    | inr ne ↦ elim (eq_cases other id) [
      | inl p ↦ absurd (apart_from one w ne e (sym (here other w p f)))
      | inr off ↦ paired.apart one other w (before one w ne e) (before other w off f)
    ]
  ];
}
  where
    before : (other w : ℕ) → other ≢ id → twin_of (set twins id (Some twin)) other ≡ Some w → twin_of twins other ≡ Some w
    before other w ne e = sym (get_or-set_other twins id other (Some twin) None ne) ∙ e

    here : (other w : ℕ) → other ≡ id → twin_of (set twins id (Some twin)) other ≡ Some w → twin ≡ w
    here other w q e = same_number twin w (sym (get_or-set_same twins id (Some twin) None long) ∙ sym (ap (twin_of (set twins id (Some twin))) q) ∙ e)

    apart_from : (other w : ℕ) → other ≢ id → twin_of (set twins id (Some twin)) other ≡ Some w → w ≢ twin
    apart_from other w ne e q = is_none (flow_at s.slots w) (ap (flow_at s.slots) q ∙ free) (paired.held other w (sym (get_or-set_other twins id other (Some twin) None ne) ∙ e))

-- one ends
pub pairs_end : (a b : Lazily) (s t : Sharing) (twins : List (Option ℕ)) (id twin : ℕ) → ArePaired a s twins → length b.capacities ≡ length a.capacities → length t.capacities ≡ length s.capacities → twin_of twins id ≡ Some twin → id < length twins → b.slots ≡ set a.slots id None → ((other : ℕ) → other ≢ twin → flow_at t.slots other ≡ flow_at s.slots other) →
    ArePaired b t (set twins id None)
pairs_end a b s t twins id twin paired caps whole_caps is long runs others = record {
  lazy_resources = caps ∙ paired.lazy_resources;
  whole_resources = whole_caps ∙ paired.whole_resources;
  run = λ other w e. let ne = off other w e in ap is_some (ap (λ slots. running_at slots other) runs ∙ get_or-set_other a.slots id other None None ne) ∙ paired.run other w (before other w ne e);
  held = λ other w e. let ne = off other w e in ap is_some (others w (λ q. ne (paired.apart other id twin (before other w ne e ∙ ap Some q) is))) ∙ paired.held other w (before other w ne e);
  apart = λ one other w e f. paired.apart one other w (before one w (off one w e) e) (before other w (off other w f) f);
}
  where
    off : (other w : ℕ) → twin_of (set twins id None) other ≡ Some w → other ≢ id
    off other w e q = none_some w (sym (get_or-set_same twins id None None long) ∙ sym (ap (twin_of (set twins id None)) q) ∙ e)

    before : (other w : ℕ) → other ≢ id → twin_of (set twins id None) other ≡ Some w → twin_of twins other ≡ Some w
    before other w ne e = sym (get_or-set_other twins id other None None ne) ∙ e
