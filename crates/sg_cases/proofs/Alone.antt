-- Flows that each use one resource: one that begins touches those on its own.
use Rattle.std.proofs.Common.{◌≡◌, ◌==◌, ℕ, zero, suc, ◌+◌, ◌*◌, ◌<◌, ◌≤◌, ◌⊎◌, inl, inr, Bool, true, false, true≢false, cond, ◌||◌, ◌&&◌, eqb, eq-eqb, eqb-true, Option, None, Some, List, [], ◌∷◌, map, length, set, get_or-set_same, get_or-set_other, sum_by, refl, sym, ap, subst, ◌∙◌, arith}
use Rattle.std.specs.List.{list_any}
use Rattle.std.proofs.lemmas.List.Sums.{sum_by-cons}
use Rattle.std.proofs.Math.Nat.{mul-le-mul}
use Rattle.sg_base.specs.MarkSet.{is_in}
use Rattle.sg_maxmin.specs.Fill.{Flow, is_on}
use Rattle.sg_maxmin.proofs.Members.{In, In-map_back, list_any_in, list_any_back}
use Rattle.sg_maxmin.proofs.Sums.{sum_by_le}
use Rattle.sg_lazy.specs.Touch.{touches, reach}
use Rattle.sg_lazy.specs.RunningFlow.{RunningFlow, running_at, running_flows, flows_in}
use Rattle.sg_cases.specs.OneEach.{users_of}
use Rattle.sg_lazy.specs.Work.{is_marked, is_joined, touched_count, touched_uses, work}
use Rattle.sg_lazy.proofs.Reached.{or_true, both_true, spread_cases}
use Rattle.sg_lazy.proofs.Slots.{sum_written}
use Rattle.sg_maxmin.proofs.Listed.{eq_cases}

-- if no flow uses two resources, spreading reaches nothing more
reaches_first : (flows : List Flow) (first : ℕ → Bool) → ((f : Flow) → In f flows → (a b : ℕ) → is_on a f ≡ true → is_on b f ≡ true → a ≡ b) → (n c : ℕ) → reach n flows first c ≡ true → first c ≡ true
unfolding reach
reaches_first flows first one zero c e = e
reaches_first flows first one (suc n) c e =
    elim (spread_cases flows (reach n flows first) c e) [
      | inl r ↦ reaches_first flows first one n c r
      | inr g ↦
          let u = list_any_back (reach n flows first) g.0.uses g.3 in
          let on : is_on u.0 g.0 ≡ true = list_any_in (λ used. used == u.0) g.0.uses u.0 u.1 (eq-eqb u.0 u.0 refl) in
          reaches_first flows first one n c (subst (λ k. reach n flows first k ≡ true) (one g.0 g.1 u.0 c on g.2) u.2)
    ]

abbrev UsesOne : Flow → Type 0
UsesOne f = (resource : ℕ) × (f.uses ≡ resource ∷ [])

or_none : (b : Bool) → (b || false) ≡ true → b ≡ true
or_none true e = e
or_none false e = e

on_one : (f : Flow) (resource c : ℕ) → f.uses ≡ resource ∷ [] → is_on c f ≡ true → resource ≡ c
on_one f resource c u e = eqb-true resource c (or_none (eqb resource c) (sym (ap (list_any (λ used. used == c)) u) ∙ e))

on_it : (f : Flow) (resource : ℕ) → f.uses ≡ resource ∷ [] → is_on resource f ≡ true
on_it f resource u = ap (list_any (λ used. used == resource)) u ∙ ap (λ b. b || false) (eq-eqb resource resource refl)

on_same : (f : Flow) → UsesOne f → (a b : ℕ) → is_on a f ≡ true → is_on b f ≡ true → a ≡ b
on_same f one a b p q = sym (on_one f one.0 a one.1 p) ∙ on_one f one.0 b one.1 q

-- if all that is marked uses one resource, and no other's capacity changed, a flow in the same connected component uses
-- it too
joined_on : (running : List RunningFlow) (resources : List ℕ) (resource : ℕ) → ((r : RunningFlow) → In r running → UsesOne r.flow) → ((r : RunningFlow) → In r running → r.marked ≡ true → r.flow.uses ≡ resource ∷ []) → ((c : ℕ) → is_in c resources ≡ true → resource ≡ c) →
    (r : RunningFlow) → In r running → is_joined running [] resources r ≡ true → is_on resource r.flow ≡ true
unfolding is_joined
joined_on running resources resource one marked only r i e =
    let flows = map (λ (s : RunningFlow). s.flow) running in
    let first = is_marked running [] resources in
    elim (or_true r.marked (touches (reach (length running) flows first) r.flow) e) [
      | inl b ↦ on_it r.flow resource (marked r i b)
      | inr t ↦
          let u = list_any_back (reach (length running) flows first) r.flow.uses t in
          let its = reaches_first flows first (λ f j. let k = In-map_back (λ (s : RunningFlow). s.flow) running f j in subst (λ (x : Flow). (a b : ℕ) → is_on a x ≡ true → is_on b x ≡ true → a ≡ b) k.2 (on_same k.0.flow (one k.0 k.1))) (length running) u.0 u.2 in
          let same : resource ≡ u.0 = elim (or_true (list_any (λ q. q.marked && is_on u.0 q.flow) running) (is_in u.0 resources) its) [
            | inr c ↦ only u.0 c
            | inl any ↦
                let k = list_any_back (λ q. q.marked && is_on u.0 q.flow) running any in
                let b = both_true k.0.marked (is_on u.0 k.0.flow) k.2 in
                on_one k.0.flow resource u.0 (marked k.0 k.1 b.0) b.1
          ] in
          subst (λ c. is_on c r.flow ≡ true) (sym same) (list_any_in (λ used. used == u.0) r.flow.uses u.0 u.1 (eq-eqb u.0 u.0 refl))
    ]

-- ---- counts
In-running_back : (slots : List (Option RunningFlow)) (r : RunningFlow) → In r (running_flows slots) → (id : ℕ) × (running_at slots id ≡ Some r)
In-running_back [] r i = absurd i
In-running_back (None ∷ slots) r i = let k = In-running_back slots r i in (suc k.0, k.1)
In-running_back (Some s ∷ slots) r (inl e) = (zero, ap Some e)
In-running_back (Some s ∷ slots) r (inr i) = let k = In-running_back slots r i in (suc k.0, k.1)

sum_running : (g : Flow → ℕ) (slots : List (Option RunningFlow)) → sum_by (λ (r : RunningFlow). g r.flow) (running_flows slots) ≡ sum_by g (flows_in slots)
sum_running g [] = refl
sum_running g (None ∷ slots) = sum_running g slots
sum_running g (Some r ∷ slots) = omega (arith, sum_by-cons (λ (s : RunningFlow). g s.flow) r (running_flows slots), sum_by-cons g r.flow (flows_in slots), sum_running g slots)

one_le : (p q : Bool) → (p ≡ true → q ≡ true) → cond p 1 0 ≤ cond q 1 0
one_le true q h = rw (h refl) (omega arith)
one_le false q h = omega arith

count_le : (running : List RunningFlow) (resources : List ℕ) (resource : ℕ) → ((r : RunningFlow) → In r running → is_joined running [] resources r ≡ true → is_on resource r.flow ≡ true) →
    touched_count running [] resources ≤ sum_by (λ (r : RunningFlow). cond (is_on resource r.flow) 1 0) running
count_le running resources resource h = omega (arith, sum_by_le (λ r. cond (is_joined running [] resources r) 1 0) (λ r. cond (is_on resource r.flow) 1 0) running (λ r i. one_le (is_joined running [] resources r) (is_on resource r.flow) (h r i)))

uses_le : (running : List RunningFlow) (resources : List ℕ) (resource : ℕ) → ((r : RunningFlow) → In r running → UsesOne r.flow) → ((r : RunningFlow) → In r running → is_joined running [] resources r ≡ true → is_on resource r.flow ≡ true) →
    touched_uses running [] resources ≤ sum_by (λ (r : RunningFlow). cond (is_on resource r.flow) 1 0) running
uses_le running resources resource one h = omega (arith, sum_by_le (λ r. cond (is_joined running [] resources r) (length r.flow.uses) 0) (λ r. cond (is_on resource r.flow) 1 0) running (λ r i. by_one r (one r i) (h r i)))
  where
    by_one : (r : RunningFlow) → UsesOne r.flow → (is_joined running [] resources r ≡ true → is_on resource r.flow ≡ true) → cond (is_joined running [] resources r) (length r.flow.uses) 0 ≤ cond (is_on resource r.flow) 1 0
    by_one r u k = subst (λ n. cond (is_joined running [] resources r) n 0 ≤ cond (is_on resource r.flow) 1 0) (sym (ap length u.1)) (one_le (is_joined running [] resources r) (is_on resource r.flow) k)

few_looks : (m u : ℕ) → m ≤ 2 → u ≤ 2 → 4 * (m + 1) * (m + u) ≤ 48
few_looks m u h k =
    let one : 4 * (m + 1) ≤ 12 = omega (arith, h) in
    let two : m + u ≤ 4 = omega (arith, h, k) in
    omega (arith, mul-le-mul one two)

-- A flow that begins on a resource with one flow at most, if nothing else began or ended: two flows are touched, and
-- have two uses.
pub second_works : (slots : List (Option RunningFlow)) (id resource : ℕ) (second : RunningFlow) → id < length slots → running_at slots id ≡ None → second.flow.uses ≡ resource ∷ [] →
    ((other : ℕ) (r : RunningFlow) → running_at slots other ≡ Some r → UsesOne r.flow) → ((other : ℕ) (r : RunningFlow) → running_at slots other ≡ Some r → r.marked ≡ false) → users_of resource slots ≤ 1 →
    work (running_flows (set slots id (Some second))) [] [] ≤ 48
unfolding work
second_works slots id resource second below free uses one calm few =
    let running = running_flows (set slots id (Some second)) in
    let each = λ (r : RunningFlow) (i : In r running). In-running_back (set slots id (Some second)) r i in
    let ones : (r : RunningFlow) → In r running → UsesOne r.flow = λ r i. elim (written_cases (each r i).0 r (each r i).1) [ inl s ↦ (resource, ap (λ (x : RunningFlow). x.flow.uses) (sym s) ∙ uses) | inr at ↦ one (each r i).0 r at ] in
    let begun : (r : RunningFlow) → In r running → r.marked ≡ true → r.flow.uses ≡ resource ∷ [] = λ r i b. elim (written_cases (each r i).0 r (each r i).1) [
      | inl s ↦ ap (λ (x : RunningFlow). x.flow.uses) (sym s) ∙ uses
      | inr at ↦ absurd (true≢false (sym b ∙ calm (each r i).0 r at))
    ] in
    let on = joined_on running [] resource ones begun (λ c e. absurd (true≢false (sym e))) in
    let g = λ (f : Flow). cond (is_on resource f) 1 0 in
    let here : g second.flow ≡ 1 = ap (λ b. cond b 1 0) (on_it second.flow resource uses) in
    let two : sum_by (λ (r : RunningFlow). g r.flow) running ≤ 2 = omega (arith, sum_running g (set slots id (Some second)), sum_written g slots id (Some second) None below free, here, few) in
    few_looks (touched_count running [] []) (touched_uses running [] []) (omega (arith, count_le running [] resource on, two)) (omega (arith, uses_le running [] resource ones on, two))
  where
    same : (a b : RunningFlow) → Some a ≡ Some b → a ≡ b
    same a b h = cc h

    written_cases : (other : ℕ) (r : RunningFlow) → running_at (set slots id (Some second)) other ≡ Some r → (second ≡ r) ⊎ (running_at slots other ≡ Some r)
    written_cases other r at = elim (eq_cases other id) [
      | inl e ↦ inl (same second r (sym (get_or-set_same slots id (Some second) None below) ∙ sym (ap (running_at (set slots id (Some second))) e) ∙ at))
      | inr ne ↦ inr (sym (get_or-set_other slots id other (Some second) None ne) ∙ at)
    ]
