-- If nothing changed since the last rate update, a rate update has nothing to do.
use Rattle.std.proofs.Common.{◌≡◌, ℕ, false, true≢false, not, eq-eqb, Option, Some, List, [], ◌∷◌, length, get_or, refl, sym, ap, subst, ◌∙◌, arith}
use Rattle.std.specs.List.{list_any}
use Rattle.sg_maxmin.specs.Fill.{Flow, share_of}
use Rattle.sg_maxmin.specs.Sharing.{Sharing, flow_at}
use Rattle.sg_lazy.specs.RunningFlow.{RunningFlow, running_at, flows_in}
use Rattle.sg_lazy.specs.Touch.{IsClosed}
use Rattle.sg_maxmin_levels.specs.declared.levels.Levels.{Levels}
use Rattle.sg_lazy.specs.kept.Leveled.{AreLeveled}
use Rattle.sg_lazy.specs.kept.Keeping.{IsUnmarked}
use Rattle.sg_lazy.specs.kept.Held.{IsLazy, IsRefilled, IsWithout, running_in}
use Rattle.sg_lazy.proofs.Keeps.{settles_rates_lem}
use Rattle.sg_lazy.proofs.Parts.{free_rate_lem}
use Rattle.sg_lazy.proofs.Settled.{held_runs, runs_held}
use Rattle.sg_maxmin.proofs.Listed.{some_of, some_same}

pub none_in : (xs : List ℕ) → length xs ≡ 0 → xs ≡ []
none_in [] e = refl
none_in (x ∷ xs) e = absurd (omega (arith, e))

none_touches : (xs : List ℕ) → list_any (λ (c : ℕ). false) xs ≡ false
none_touches [] = refl
none_touches (x ∷ xs) = none_touches xs

-- nothing ended
pub without_none : (s : Sharing) → IsWithout s s []
without_none s = record {
  slots = λ id. refl;
  slots_len = refl;
  capacities = refl;
  flow_room = omega arith;
  use_room = omega arith;
}

module _ (s : Sharing) (rates : List ℕ) (lazy : IsLazy s rates [] [] [] []) where
  abbrev running : List (Option RunningFlow)
  running = running_in s.slots rates [] [] []

  unmarked : (c : ℕ) → IsUnmarked (running_in s.slots rates [] [] []) [] [] c
  unmarked c = record {
    unused = λ id r at marked. absurd (true≢false (sym marked ∙ is_unmarked id r at));
    gone = λ flow i. absurd (omega (arith, i.1));
    same = refl;
  }
    where
      is_unmarked : (id : ℕ) (r : RunningFlow) → running_at (running_in s.slots rates [] [] []) id ≡ Some r → r.marked ≡ false
      is_unmarked id r at =
          let held = runs_held s s rates [] [] [] (without_none s) lazy.sound id r at in
          ap (λ (k : RunningFlow). k.marked) (some_same r (record { flow = r.flow; rate = get_or rates id 0; began = false; marked = false }) (sym at ∙ held_runs s s rates [] [] [] (without_none s) lazy.sound id r.flow held))

  closed : IsClosed (flows_in (running_in s.slots rates [] [] [])) (λ c. false)
  closed flow i t c u = absurd (true≢false (sym t ∙ none_touches flow.uses))

  rate_is : (id : ℕ) (flow : Flow) → flow_at s.slots id ≡ Some flow → get_or rates id 0 ≡ share_of s.capacities (flows_in (running_in s.slots rates [] [] [])) flow
  rate_is id flow e =
      let k = lazy.kept in
      let old : RunningFlow = record { flow = flow; rate = get_or rates id 0; began = false; marked = false } in
      let at : running_at (running_in s.slots rates [] [] []) id ≡ Some old = held_runs s s rates [] [] [] (without_none s) lazy.sound id flow e in
      settles_rates_lem s.capacities (running_in s.slots rates [] [] []) [] [] (λ c. false) id old (get_or rates id 0) k closed (λ c off. unmarked c) at (record {
        touched = λ q. absurd (true≢false (sym q ∙ none_touches flow.uses));
        free = λ none.
            let b = some_of flow.bound ((k.limits id old at).bounds none) in
            b.1 ∙ ap Some (sym (k.rates id old at refl ∙ free_rate_lem k.past_capacities k.past flow b.0 k.past_limits (k.there id old at refl) none b.1));
        others = λ q some. refl;
      })

  -- all rates stay, and none changed
  pub idle_refilled : IsRefilled s s [] [] [] rates rates []
  idle_refilled = record {
    without = without_none s;
    sound = lazy.sound;
    rates_are = rate_is;
    changed_are = λ id flow e. sym (ap not (eq-eqb (get_or rates id 0) (get_or rates id 0) refl));
    unchanged = λ id e. refl;
    once = λ i j d a b. absurd (omega (arith, b));
  }

pub refilled_none : (s : Sharing) (rates b m e r x : List ℕ) → b ≡ [] → m ≡ [] → e ≡ [] → r ≡ [] → x ≡ [] → IsLazy s rates b m e r → IsRefilled s s b m e rates rates x
refilled_none s rates b m e r x eb em ee er ex lazy =
    subst (λ b. IsRefilled s s b m e rates rates x) (sym eb) (subst (λ m. IsRefilled s s [] m e rates rates x) (sym em) (subst (λ e. IsRefilled s s [] [] e rates rates x) (sym ee)
    (subst (λ x. IsRefilled s s [] [] [] rates rates x) (sym ex) (idle_refilled s rates
    (subst (λ b. IsLazy s rates b [] [] []) eb (subst (λ m. IsLazy s rates b m [] []) em (subst (λ e. IsLazy s rates b m e []) ee (subst (λ r. IsLazy s rates b m e r) er lazy))))))))

pub leveled_none : (s : Sharing) (levels : Levels) (rates b m r : List ℕ) → b ≡ [] → m ≡ [] → r ≡ [] → AreLeveled s levels rates b m r → AreLeveled s levels rates [] [] []
leveled_none s levels rates b m r eb em er leveled = subst (λ b. AreLeveled s levels rates b [] []) eb (subst (λ m. AreLeveled s levels rates b m []) em (subst (λ r. AreLeveled s levels rates b m r) er leveled))
