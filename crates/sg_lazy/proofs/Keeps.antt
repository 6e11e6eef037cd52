-- What is kept outlives starts, ends and changes, and a rate update makes all rates those of the whole.
use Rattle.std.proofs.Common.{◌≡◌, ◌≢◌, ℕ, ◌+◌, ◌<◌, ◌⊎◌, inl, inr, Bool, true, false, cond, true≢false, Option, None, Some, IsTrue, List, [], ◌∷◌, Contains, length, set, sum_by, get_or-set_same, get_or-set_other, refl, sym, ap, subst, ◌∙◌, arith}
use Rattle.std.specs.List.{list_any}
use Rattle.sg_maxmin.specs.Fill.{Flow, is_on, share_of}
use Rattle.sg_maxmin.specs.Laws.{HaveLimits}
use Rattle.sg_maxmin.specs.Sharing.{HasLimit}
use Rattle.sg_maxmin.proofs.Members.{In, In-from_contains, contains_from_In, list_any_in}
use Rattle.sg_maxmin.proofs.Rises.{is_on_uses}
use Rattle.sg_lazy.specs.Touch.{touches, has_uses, SameBut}
use Rattle.sg_lazy.proofs.Parts.{keeps_rate_lem, touched_rate_lem, free_rate_lem}
use Rattle.sg_base.specs.MarkSet.{is_in, with_mark}
use Rattle.sg_lazy.specs.RunningFlow.{RunningFlow, bounded_by, running_at, flows_in}
use Rattle.sg_lazy.specs.kept.Keeping.{IsUnmarked, StartKeeps, EndKeeps, CapacityKeeps, BoundKeeps, SettlesRates, SettleKeeps}
use Rattle.sg_maxmin_solve.proofs.Listing.{is_in_other}
use Rattle.sg_lazy.proofs.Slots.{In-flows, In-flows_back, sum_written}
use Rattle.sg_maxmin.proofs.Listed.{mark_there, bool_cases, eq_cases}

-- what stands in a list of slots of which one was written
module _ (slots : List (Option RunningFlow)) (id : ℕ) (new : Option RunningFlow) (h : id < length slots) where
  here : running_at (set slots id new) id ≡ new
  here = get_or-set_same slots id new None h

  there : (other : ℕ) → other ≢ id → running_at (set slots id new) other ≡ running_at slots other
  there other ne = get_or-set_other slots id other new None ne

  -- a fact of all running flows
  each : (P : RunningFlow → Type 0) → ((other : ℕ) (r : RunningFlow) → other ≢ id → running_at slots other ≡ Some r → P r) → ((r : RunningFlow) → new ≡ Some r → P r) → (other : ℕ) (r : RunningFlow) → running_at (set slots id new) other ≡ Some r → P r
  each P old now other r e = elim (eq_cases other id) [
    | inl q ↦ now r (sym here ∙ ap (running_at (set slots id new)) (sym q) ∙ e)
    | inr ne ↦ old other r ne (sym (there other ne) ∙ e)
  ]

on_part : (c : ℕ) (h : Flow → ℕ) (f : Flow) → is_on c f ≡ false → cond (is_on c f) (h f) 0 ≡ 0
on_part c h f e = ap (λ b. cond b (h f) 0) e

some_same : (a b : RunningFlow) → Some a ≡ Some b → a ≡ b
some_same a b h = cc h

pub start_keeps : StartKeeps
start_keeps caps slots ended resources id running k h none marked limit = record {
  past_capacities = k.past_capacities;
  past = k.past;
  past_limits = k.past_limits;
  limits = each slots id (Some running) h (λ r. HasLimit r.flow) (λ other r ne e. k.limits other r e) (λ r e. subst (λ (x : RunningFlow). HasLimit x.flow) (some_same running r e) limit);
  there = each slots id (Some running) h (λ r. r.marked ≡ false → Contains k.past r.flow) (λ other r ne e. k.there other r e) (λ r e b. absurd (true≢false (sym marked ∙ ap (λ (x : RunningFlow). x.marked) (some_same running r e) ∙ b)));
  rates = each slots id (Some running) h (λ r. r.marked ≡ false → r.rate ≡ share_of k.past_capacities k.past r.flow) (λ other r ne e. k.rates other r e) (λ r e b. absurd (true≢false (sym marked ∙ ap (λ (x : RunningFlow). x.marked) (some_same running r e) ∙ b)));
  same_capacities = λ c u. k.same_capacities c (before c u);
  same_flows = λ c u g.
      let g' : Flow → ℕ = λ f. cond (is_on c f) (g f) 0 in
      let off : g' running.flow ≡ 0 = on_part c g running.flow (u.unused id running (here slots id (Some running) h) marked) in
      k.same_flows c (before c u) g ∙ unchanged (sum_by g' (flows_in slots)) (sum_by g' (flows_in (set slots id (Some running)))) (g' running.flow) (sum_written g' slots id (Some running) None h none) off;
}
  where
    unchanged : (a b d : ℕ) → b + 0 ≡ a + d → d ≡ 0 → a ≡ b
    unchanged a b d e z = omega arith

    other_one : (other : ℕ) (r : RunningFlow) → running_at slots other ≡ Some r → other ≢ id
    other_one other r e q = let w : None ≡ Some r = sym none ∙ ap (running_at slots) (sym q) ∙ e in cc

    before : (c : ℕ) → IsUnmarked (set slots id (Some running)) ended resources c → IsUnmarked slots ended resources c
    before c u = record { unused = λ other r e b. u.unused other r (there slots id (Some running) h other (other_one other r e) ∙ e) b; gone = u.gone; same = u.same }

pub end_keeps : EndKeeps
end_keeps caps slots ended resources id running k h is = record {
  past_capacities = k.past_capacities;
  past = k.past;
  past_limits = k.past_limits;
  limits = each slots id None h (λ r. HasLimit r.flow) (λ other r ne e. k.limits other r e) (λ r e. cc);
  there = each slots id None h (λ r. r.marked ≡ false → Contains k.past r.flow) (λ other r ne e. k.there other r e) (λ r e. cc);
  rates = each slots id None h (λ r. r.marked ≡ false → r.rate ≡ share_of k.past_capacities k.past r.flow) (λ other r ne e. k.rates other r e) (λ r e. cc);
  same_capacities = λ c u. k.same_capacities c (before c u);
  same_flows = λ c u g.
      let g' : Flow → ℕ = λ f. cond (is_on c f) (g f) 0 in
      let off : g' running.flow ≡ 0 = on_part c g running.flow (mine c u) in
      k.same_flows c (before c u) g ∙ unchanged (sum_by g' (flows_in slots)) (sum_by g' (flows_in (set slots id None))) (g' running.flow) (sum_written g' slots id None (Some running) h is) off;
}
  where
    unchanged : (a b d : ℕ) → b + d ≡ a + 0 → d ≡ 0 → a ≡ b
    unchanged a b d e z = omega arith

    mine : (c : ℕ) → IsUnmarked (set slots id None) (running.flow ∷ ended) resources c → is_on c running.flow ≡ false
    mine c u = u.gone running.flow (contains_from_In (running.flow ∷ ended) running.flow (inl refl))

    before : (c : ℕ) → IsUnmarked (set slots id None) (running.flow ∷ ended) resources c → IsUnmarked slots ended resources c
    before c u = record {
      unused = λ other r e b. elim (eq_cases other id) [
        | inl q ↦ subst (λ (x : RunningFlow). is_on c x.flow ≡ false) (some_same running r (sym is ∙ ap (running_at slots) (sym q) ∙ e)) (mine c u)
        | inr ne ↦ u.unused other r (there slots id None h other ne ∙ e) b
      ];
      gone = λ f i. u.gone f (contains_from_In (running.flow ∷ ended) f (inr (In-from_contains ended f i)));
      same = u.same;
    }

pub capacity_keeps : CapacityKeeps
capacity_keeps caps slots ended resources resource capacity k = record {
  past_capacities = k.past_capacities;
  past = k.past;
  past_limits = k.past_limits;
  limits = k.limits;
  there = k.there;
  rates = k.rates;
  same_capacities = λ c u. k.same_capacities c (before c u) ∙ sym (get_or-set_other caps resource c capacity 0 (other c u));
  same_flows = λ c u. k.same_flows c (before c u);
}
  where
    other : (c : ℕ) → IsUnmarked slots ended (with_mark resource resources) c → c ≢ resource
    other c u e = true≢false (sym (mark_there resource resources) ∙ ap (λ n. is_in n (with_mark resource resources)) (sym e) ∙ u.same)

    before : (c : ℕ) → IsUnmarked slots ended (with_mark resource resources) c → IsUnmarked slots ended resources c
    before c u = record { unused = u.unused; gone = u.gone; same = sym (is_in_other c resource resources (other c u)) ∙ u.same }

pub bound_keeps : BoundKeeps
bound_keeps caps slots ended resources id bound running k h is = record {
  past_capacities = k.past_capacities;
  past = k.past;
  past_limits = k.past_limits;
  limits = each slots id (Some new) h (λ r. HasLimit r.flow) (λ other r ne e. k.limits other r e) (λ r e. subst (λ (x : RunningFlow). HasLimit x.flow) (some_same new r e) (record { weighs = (k.limits id running is).weighs; bounds = λ none. refl }));
  there = each slots id (Some new) h (λ r. r.marked ≡ false → Contains k.past r.flow) (λ other r ne e. k.there other r e) (λ r e b. absurd (true≢false (ap (λ (x : RunningFlow). x.marked) (some_same new r e) ∙ b)));
  rates = each slots id (Some new) h (λ r. r.marked ≡ false → r.rate ≡ share_of k.past_capacities k.past r.flow) (λ other r ne e. k.rates other r e) (λ r e b. absurd (true≢false (ap (λ (x : RunningFlow). x.marked) (some_same new r e) ∙ b)));
  same_capacities = λ c u. k.same_capacities c (before c u);
  same_flows = λ c u g.
      let g' : Flow → ℕ = λ f. cond (is_on c f) (g f) 0 in
      k.same_flows c (before c u) g
      ∙ unchanged (sum_by g' (flows_in slots)) (sum_by g' (flows_in (set slots id (Some new)))) (g' running.flow) (g' new.flow) (sum_written g' slots id (Some new) (Some running) h is) (on_part c g running.flow (mine c u)) (on_part c g new.flow (mine c u));
}
  where
    new : RunningFlow
    new = bounded_by bound running

    unchanged : (a b d e : ℕ) → b + d ≡ a + e → d ≡ 0 → e ≡ 0 → a ≡ b
    unchanged a b d e s y z = omega arith

    mine : (c : ℕ) → IsUnmarked (set slots id (Some new)) ended resources c → is_on c running.flow ≡ false
    mine c u = u.unused id new (here slots id (Some new) h) refl

    before : (c : ℕ) → IsUnmarked (set slots id (Some new)) ended resources c → IsUnmarked slots ended resources c
    before c u = record {
      unused = λ other r e b. elim (eq_cases other id) [
        | inl q ↦ subst (λ (x : RunningFlow). is_on c x.flow ≡ false) (some_same running r (sym is ∙ ap (running_at slots) (sym q) ∙ e)) (mine c u)
        | inr ne ↦ u.unused other r (there slots id (Some new) h other ne ∙ e) b
      ];
      gone = u.gone;
      same = u.same;
    }

-- a marked flow that uses something is touched
some_use : (f : Flow) → f.uses ≢ [] → (c : ℕ) × In c f.uses
some_use f ne = first f.uses ne
  where
    first : (xs : List ℕ) → xs ≢ [] → (c : ℕ) × In c xs
    first [] n = absurd (n refl)
    first (x ∷ xs) n = (x, inl refl)

empty_cases : (xs : List ℕ) → (xs ≡ []) ⊎ (xs ≢ [])
empty_cases [] = inl refl
empty_cases (x ∷ xs) = inr (λ e. cc)

abbrev has_some : List ℕ → Bool
has_some xs = list_any (λ c. true) xs

uses_some : (xs : List ℕ) → xs ≢ [] → has_some xs ≡ true
uses_some [] ne = absurd (ne refl)
uses_some (x ∷ xs) ne = refl

untouched : (reached : ℕ → Bool) (xs : List ℕ) (c : ℕ) → In c xs → list_any reached xs ≡ false → reached c ≡ false
untouched reached xs c i e = elim (bool_cases (reached c)) [ inr q ↦ q | inl q ↦ absurd (true≢false (sym (list_any_in reached xs c i q) ∙ e)) ]

pub settles_rates_lem : SettlesRates
settles_rates_lem caps slots ended resources reached id old rate k closed marked is rated = elim (bool_cases (touches reached old.flow)) [
  | inl e ↦ rated.touched e ∙ touched_rate_lem caps flows reached old.flow limits closed mine e
  | inr e ↦ elim (empty_cases old.flow.uses) [
    | inl none ↦ sym (free_rate_lem caps flows old.flow rate limits mine none (rated.free none))
    | inr some ↦ rated.others e some ∙ k.rates id old is (not_marked id old is some e)
        ∙ keeps_rate_lem k.past_capacities caps k.past flows reached old.flow k.past_limits limits closed same past mine (uses_some old.flow.uses some) e
  ]
]
  where
    flows : List Flow
    flows = flows_in slots

    limits : HaveLimits (flows_in slots)
    limits f i = let b = In-flows_back slots f (In-from_contains (flows_in slots) f i) in subst HasLimit b.3 (k.limits b.0 b.1 b.2)

    mine : Contains (flows_in slots) old.flow
    mine = contains_from_In (flows_in slots) old.flow (In-flows slots id old is)

    not_marked : (id : ℕ) (r : RunningFlow) → running_at slots id ≡ Some r → r.flow.uses ≢ [] → touches reached r.flow ≡ false → r.marked ≡ false
    not_marked id r is some e = elim (bool_cases r.marked) [
      | inr b ↦ b
      | inl b ↦
          let u = some_use r.flow some in
          absurd (true≢false (sym (is_on_uses u.0 r.flow u.1) ∙ (marked u.0 (untouched reached r.flow.uses u.0 u.1 e)).unused id r is b))
    ]

    same : SameBut reached k.past_capacities caps k.past (flows_in slots)
    same = record { same_capacities = λ c e. k.same_capacities c (marked c e); same_flows = λ c e. k.same_flows c (marked c e) }

    past : (other : Flow) → Contains (flows_in slots) other → IsTrue (has_uses other) → touches reached other ≡ false → Contains k.past other
    past other i some e =
        let b = In-flows_back slots other (In-from_contains (flows_in slots) other i) in
        subst (Contains k.past) b.3 (k.there b.0 b.1 b.2 (not_marked b.0 b.1 b.2 (λ q. true≢false (sym some ∙ ap has_some (sym (ap (λ (x : Flow). x.uses) b.3) ∙ q))) (ap (touches reached) b.3 ∙ e)))

pub settle_keeps : SettleKeeps
settle_keeps caps slots limits rates = record {
  past_capacities = caps;
  past = flows_in slots;
  past_limits = λ f i. let b = In-flows_back slots f (In-from_contains (flows_in slots) f i) in subst HasLimit b.3 (limits b.0 b.1 b.2);
  limits = limits;
  there = λ id r e b. contains_from_In (flows_in slots) r.flow (In-flows slots id r e);
  rates = λ id r e b. rates id r e;
  same_capacities = λ c u. refl;
  same_flows = λ c u h. refl;
}
