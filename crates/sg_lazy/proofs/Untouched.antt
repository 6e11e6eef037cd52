-- A flow that no change touches has the rate of the whole.
use Rattle.std.proofs.Common.{◌≡◌, ℕ, suc, inl, inr, Bool, true, false, true≢false, ◌||◌, ◌&&◌, Option, Some, List, map, length, refl, sym, ap, subst, ◌∙◌}
use Rattle.std.specs.List.{list_any}
use Rattle.std.proofs.lemmas.List.{length-map}
use Rattle.sg_base.specs.MarkSet.{is_in}
use Rattle.sg_maxmin.specs.Fill.{Flow, is_on, share_of}
use Rattle.sg_maxmin.proofs.Members.{In, In-map, In-from_contains, list_any_in}
use Rattle.sg_lazy.specs.Touch.{touches, reach, IsClosed}
use Rattle.sg_lazy.specs.RunningFlow.{RunningFlow, running_at, running_flows, flows_in}
use Rattle.sg_lazy.specs.Work.{is_marked, is_joined}
use Rattle.sg_lazy.specs.kept.Keeping.{AreKept, IsUnmarked}
use Rattle.sg_lazy.proofs.Keeps.{settles_rates_lem}
use Rattle.sg_lazy.proofs.Looks.{In-held, first_reached, next_reached, both_true}
use Rattle.sg_lazy.proofs.Parts.{free_rate_lem}
use Rattle.sg_lazy.proofs.Reached.{all_reached_lem}
use Rattle.sg_lazy.proofs.Slots.{In-flows_back}
use Rattle.sg_maxmin.proofs.Listed.{bool_cases, some_of}

neither_left : (a b : Bool) → (a || b) ≡ false → a ≡ false
neither_left true b e = absurd (true≢false e)
neither_left false b e = refl

neither_right : (a b : Bool) → (a || b) ≡ false → b ≡ false
neither_right true b e = absurd (true≢false e)
neither_right false b e = e

module _ (caps : List ℕ) (slots : List (Option RunningFlow)) (ended : List Flow) (resources : List ℕ) (k : AreKept caps slots ended resources) where
  abbrev run : List RunningFlow
  run = running_flows slots

  abbrev flows : List Flow
  flows = map (λ (r : RunningFlow). r.flow) run

  abbrev first : ℕ → Bool
  first = is_marked run ended resources

  abbrev close : ℕ → Bool
  close = reach (length run) flows first

  joined_is : (r : RunningFlow) → is_joined run ended resources r ≡ (r.marked || touches close r.flow)
  unfolding is_joined
  joined_is r = refl

  run_closed : (c : ℕ) (r : RunningFlow) → In r run → is_on c r.flow ≡ true → touches close r.flow ≡ true → close c ≡ true
  run_closed c r i u t =
      subst (λ n. reach n flows first c ≡ true) (length-map run (λ (r : RunningFlow). r.flow)) (all_reached_lem flows first (suc (length run)) c (next_reached (length run) flows first c r.flow (In-map (λ (r : RunningFlow). r.flow) run r i) u t))

  closed : IsClosed (flows_in slots) close
  closed f i t c u =
      let b = In-flows_back slots f (In-from_contains (flows_in slots) f i) in
      run_closed c b.1 (In-held slots b.0 b.1 b.2) (ap (is_on c) b.3 ∙ u) (ap (touches close) b.3 ∙ t)

  not_first : (c : ℕ) → close c ≡ false → first c ≡ false
  not_first c e = elim (bool_cases (first c)) [ inr q ↦ q | inl q ↦ absurd (true≢false (sym (first_reached (length run) flows first c q) ∙ e)) ]

  unmarked : (c : ℕ) → close c ≡ false → IsUnmarked slots ended resources c
  unmarked c e =
      let n = not_first c e in
      let a = list_any (λ (r : RunningFlow). r.marked && is_on c r.flow) run in
      let l = neither_left a (list_any (is_on c) ended || is_in c resources) n in
      let m = neither_right a (list_any (is_on c) ended || is_in c resources) n in
      record {
        unused = λ id r at marked. elim (bool_cases (is_on c r.flow)) [
          | inr q ↦ q
          | inl q ↦ absurd (true≢false (sym (list_any_in (λ (r : RunningFlow). r.marked && is_on c r.flow) run r (In-held slots id r at) (both_true r.marked (is_on c r.flow) marked q)) ∙ l))
        ];
        gone = λ f i. elim (bool_cases (is_on c f)) [
          | inr q ↦ q
          | inl q ↦ absurd (true≢false (sym (list_any_in (is_on c) ended f (In-from_contains ended f i) q) ∙ neither_left (list_any (is_on c) ended) (is_in c resources) m))
        ];
        same = neither_right (list_any (is_on c) ended) (is_in c resources) m;
      }

  pub untouched_keeps : (id : ℕ) (r : RunningFlow) → running_at slots id ≡ Some r → is_joined run ended resources r ≡ false → r.rate ≡ share_of caps (flows_in slots) r.flow
  untouched_keeps id r at e =
      let j = sym (joined_is r) ∙ e in
      let m = neither_left r.marked (touches close r.flow) j in
      let t = neither_right r.marked (touches close r.flow) j in
      settles_rates_lem caps slots ended resources close id r r.rate k closed unmarked at (record {
        touched = λ q. absurd (true≢false (sym q ∙ t));
        free = λ none.
            let b = some_of r.flow.bound ((k.limits id r at).bounds none) in
            b.1 ∙ ap Some (sym (k.rates id r at m ∙ free_rate_lem k.past_capacities k.past r.flow b.0 k.past_limits (k.there id r at m) none b.1));
        others = λ q some. refl;
      })
