-- How a max-min solve starts, and that its result fits.
use Rattle.std.proofs.Common.{◌≡◌, ◌≢◌, ℕ, suc, ◌+◌, ◌-◌, ◌*◌, ◌^◌, ◌<◌, ◌≤◌, inl, inr, Bool, true, false, cond, true≢false, eqb, Option, None, Some, IsSome, List, [], ◌∷◌, length, get_or, sum_by, AllPairs, mul-le-mul_right, lit<, refl, sym, ap, subst, ◌∙◌, arith}
use Rattle.std.specs.List.{list_any}
use Rattle.std.proofs.lemmas.List.Sums.{sum_by-cons}
use Rattle.std.proofs.lemmas.List.Elements.{All-get_or}
use Rattle.sg_base.specs.MarkSet.{is_in}
use Rattle.sg_maxmin.specs.Fill.{Flow, is_on, share_of}
use Rattle.sg_maxmin.specs.Fixing.{share_of_fixed}
use Rattle.sg_maxmin.specs.Laws.{HaveLimits}
use Rattle.sg_maxmin.specs.Chained.{times}
use Rattle.sg_maxmin.specs.Sharing.{Sharing, HasLimit, uses_at, flow_at}
use Rattle.sg_maxmin.proofs.Members.{In, In-map_back, In-from_contains, contains_from_In}
use Rattle.sg_maxmin.proofs.Sums.{le-sum_by}
use Rattle.sg_maxmin.proofs.Rises.{is_on_uses}
use Rattle.sg_maxmin.proofs.Proved.{is_fair_lem}
use Rattle.sg_maxmin_solve.specs.Component.{Covers}
use Rattle.sg_maxmin.specs.Numbered.{flow_in, weight_at}
use Rattle.sg_maxmin_solve.specs.Filling.{AreCounted, ArePart, IsMoreBy, fixed_at, flows_at, taken_on, waiting_on, waits_with, weight_of, weight_on}
use Rattle.sg_maxmin_solve.proofs.Rows.{few_held, into}
use Rattle.sg_maxmin.proofs.Listed.{at_in, bool_cases, in_at, some_of, times-once}
use Rattle.sg_maxmin.proofs.Users.{flow_in_is, in_is, rows_once, weighs}

sum-at : (f h : ℕ → ℕ) (xs : List ℕ) → ((i : ℕ) → i < length xs → f (get_or xs i 0) ≤ h (get_or xs i 0)) → sum_by f xs ≤ sum_by h xs
sum-at f h [] e = omega arith
sum-at f h (x ∷ xs) e = omega (arith, sum_by-cons f x xs, sum_by-cons h x xs, e 0 (omega arith), sum-at f h xs (λ i k. e (suc i) (omega arith)))

sum-each : (k : ℕ) (xs : List ℕ) → sum_by (λ (x : ℕ). k) xs ≡ length xs * k
sum-each k [] = none k
  where
    none : (k : ℕ) → sum_by (λ (x : ℕ). k) [] ≡ 0 * k
    none k = omega arith
sum-each k (x ∷ xs) = sum_by-cons (λ (x : ℕ). k) x xs ∙ ap (λ n. k + n) (sum-each k xs) ∙ more k (length xs)
  where
    more : (k n : ℕ) → k + n * k ≡ suc n * k
    more k n = omega arith

at_most : (b : Bool) (w : ℕ) → cond b 1 0 * w ≤ w
at_most true w = omega arith
at_most false w = omega arith

le_both : {a b : ℕ} → a ≤ b → b ≤ a → a ≡ b
le_both p q = omega (arith, p, q)

module _ (s : Sharing) (touched reached : List ℕ) (part : ArePart s touched) (covers : Covers (uses_at s.slots) touched reached) where
  light : (id c : ℕ) → weight_on s.slots id c ≤ 2 ^ 32 - 1
  light id c =
      let w = (weighs s part.sound id).1 in
      let one : weight_on s.slots id c ≤ weight_at s.slots id = subst (λ n. n * weight_at s.slots id ≤ weight_at s.slots id) (sym (times-once (uses_at s.slots id) c (rows_once s part.sound id))) (at_most (list_any (λ d. eqb d c) (uses_at s.slots id)) (weight_at s.slots id)) in
      less (weight_on s.slots id c) (weight_at s.slots id) one w
    where
      less : (a b : ℕ) → a ≤ b → b < 2 ^ 32 → a ≤ 2 ^ 32 - 1
      less a b h l = omega (arith, h, l)

  few : (c : ℕ) → weight_of s.slots touched c ≤ length touched * (2 ^ 32 - 1)
  few c = subst (λ n. weight_of s.slots touched c ≤ n) (sum-each (2 ^ 32 - 1) touched) (sum-at (λ id. weight_on s.slots id c) (λ id. 2 ^ 32 - 1) touched (λ i h. light (get_or touched i 0) c))

  pub nowhere : (c : ℕ) → is_in c reached ≡ false → weight_of s.slots touched c ≡ 0
  nowhere c off = le_both (subst (λ n. weight_of s.slots touched c ≤ n) (sum-each 0 touched ∙ none (length touched)) (sum-at (λ id. weight_on s.slots id c) (λ id. 0) touched (λ i h. not_there (get_or touched i 0) (in_at (get_or touched i 0) touched i h refl)))) (omega arith)
    where
      none : (n : ℕ) → n * 0 ≡ 0
      none n = omega arith

      not_there : (id : ℕ) → is_in id touched ≡ true → weight_on s.slots id c ≤ 0
      not_there id t = elim (bool_cases (list_any (λ d. eqb d c) (uses_at s.slots id))) [
        | inl e ↦ absurd (true≢false (sym (into (uses_at s.slots id) reached c (covers id t) e) ∙ off))
        | inr e ↦ subst (λ n. n * weight_at s.slots id ≤ 0) (sym (times-once (uses_at s.slots id) c (rows_once s part.sound id) ∙ ap {B = ℕ} (λ b. cond b 1 0) e)) (omega arith)
      ]

  pub fits : (waiting : List ℕ) (once : AllPairs (λ a b. a ≢ b) touched) (c : ℕ) → ((i : ℕ) → i < length reached → get_or waiting (get_or reached i 0) 0 ≡ 0) → get_or waiting c 0 < 2 ^ 64 → get_or waiting c 0 + weight_of s.slots touched c < 2 ^ 64
  fits waiting once c zeros small = elim (bool_cases (is_in c reached)) [
    | inl e ↦
        let at = at_in c reached e in
        let none : get_or waiting c 0 ≡ 0 = ap (λ n. get_or waiting n 0) (sym at.2) ∙ zeros at.0 at.1 in
        let most : length touched ≤ 2 ^ 32 = omega (arith, few_held s.slots touched once (λ i h. All-get_or (λ id. IsSome (flow_at s.slots id)) touched i 0 h part.held), part.sound.few) in
        bounded (get_or waiting c 0) (weight_of s.slots touched c) (length touched) none (few c) most
    | inr e ↦ omega (arith, nowhere c e, small)
  ]
    where
      bounded : (a w n : ℕ) → a ≡ 0 → w ≤ n * (2 ^ 32 - 1) → n ≤ 2 ^ 32 → a + w < 2 ^ 64
      bounded a w n z h m =
          let top : n * (2 ^ 32 - 1) ≤ 2 ^ 32 * (2 ^ 32 - 1) = mul-le-mul_right (2 ^ 32 - 1) m in
          let big : 2 ^ 32 * (2 ^ 32 - 1) < 2 ^ 64 = lit< tt in
          omega (arith, z, h, top, big)

  pub starts : (left waiting waiting' : List ℕ) (fixed : List (Option ℕ)) → ((i : ℕ) → i < length reached → get_or left (get_or reached i 0) 0 ≡ get_or s.capacities (get_or reached i 0) 0) → ((i : ℕ) → i < length reached → get_or waiting (get_or reached i 0) 0 ≡ 0) →
      ((i : ℕ) → i < length touched → fixed_at fixed (get_or touched i 0) ≡ None) → IsMoreBy (weight_of s.slots touched) waiting waiting' → AreCounted s fixed touched left waiting' (λ c. is_in c reached)
  starts left waiting waiting' fixed l zeros none w = record {
    left_is = λ c r. let at = at_in c reached r in take_none (get_or left c 0) (get_or s.capacities c 0) (taken_on s.slots fixed touched c) (subst (λ c. get_or left c 0 ≡ get_or s.capacities c 0) at.2 (l at.0 at.1)) (none_taken c);
    waiting_is = λ c r. let at = at_in c reached r in add_none (get_or waiting' c 0) (get_or waiting c 0) (weight_of s.slots touched c) (waiting_on s.slots fixed touched c) (w c) (subst (λ c. get_or waiting c 0 ≡ 0) at.2 (zeros at.0 at.1)) (all_wait c);
  }
    where
      take_none : (a b t : ℕ) → a ≡ b → t ≡ 0 → a ≡ b - t
      take_none a b t e z = omega arith

      add_none : (a b w x : ℕ) → a ≡ b + w → b ≡ 0 → x ≡ w → a ≡ x
      add_none a b w x e z q = omega arith

      nil : (n k : ℕ) → n * 0 ≡ 0
      nil n k = omega arith

      none_taken : (c : ℕ) → taken_on s.slots fixed touched c ≡ 0
      none_taken c = le_both (subst (λ n. taken_on s.slots fixed touched c ≤ n) (sum-each 0 touched ∙ nil (length touched) 0) (sum-at (λ id. times c (uses_at s.slots id) * share_of_fixed (flow_in s.slots id) (fixed_at fixed id)) (λ id. 0) touched
          (λ i h. let id = get_or touched i 0 in subst (λ (o : Option ℕ). times c (uses_at s.slots id) * share_of_fixed (flow_in s.slots id) o ≤ 0) (sym (none i h)) (omega arith)))) (omega arith)

      all_wait : (c : ℕ) → waiting_on s.slots fixed touched c ≡ weight_of s.slots touched c
      all_wait c = le_both
          (sum-at (λ id. times c (uses_at s.slots id) * waits_with (flow_in s.slots id) (fixed_at fixed id)) (λ id. weight_on s.slots id c) touched (λ i h. let id = get_or touched i 0 in subst (λ (o : Option ℕ). times c (uses_at s.slots id) * waits_with (flow_in s.slots id) o ≤ weight_on s.slots id c) (sym (none i h)) (omega arith)))
          (sum-at (λ id. weight_on s.slots id c) (λ id. times c (uses_at s.slots id) * waits_with (flow_in s.slots id) (fixed_at fixed id)) touched (λ i h. let id = get_or touched i 0 in subst (λ (o : Option ℕ). weight_on s.slots id c ≤ times c (uses_at s.slots id) * waits_with (flow_in s.slots id) o) (sym (none i h)) (omega arith)))

-- ---- a share is no more than the capacity of a resource that the flow uses
pub share_fits : (capacities : List ℕ) (flows : List Flow) (flow : Flow) → HaveLimits flows → In flow flows → flow.bound ≡ None → ((c : ℕ) → In c flow.uses → get_or capacities c 0 < 2 ^ 64) → share_of capacities flows flow < 2 ^ 64
share_fits capacities flows flow limits among free small = first flow.uses refl
  where
    use_it : (c : ℕ) → In c flow.uses → share_of capacities flows flow < 2 ^ 64
    use_it c u =
        let fair = is_fair_lem capacities flows limits in
        let part : Flow → ℕ = λ f. cond (is_on c f) (share_of capacities flows f) 0 in
        let mine : part flow ≡ share_of capacities flows flow = ap (λ b. cond b (share_of capacities flows flow) 0) (is_on_uses c flow u) in
        omega (arith, le-sum_by part flows flow among, mine, fair.within c, small c u)

    none_some : {b : ℕ} → None ≡ Some b → ⊥
    none_some e = cc

    some_bound : (o : Option ℕ) → flow.bound ≡ o → IsSome o → share_of capacities flows flow < 2 ^ 64
    some_bound None e h = absurd (true≢false (sym h))
    some_bound (Some b) e h = absurd (none_some (sym free ∙ e))

    first : (xs : List ℕ) → flow.uses ≡ xs → share_of capacities flows flow < 2 ^ 64
    first [] e = some_bound flow.bound refl ((limits flow (contains_from_In flows flow among)).bounds e)
    first (c ∷ xs) e = use_it c (subst (In c) (sym e) (inl refl))

-- something limits each touched flow
pub part_limits : (s : Sharing) (touched : List ℕ) → ArePart s touched → HaveLimits (flows_at s.slots touched)
part_limits s touched part f i =
    let b = In-map_back (flow_in s.slots) touched f (In-from_contains (flows_at s.slots touched) f i) in
    let at = at_in b.0 touched (in_is b.0 touched b.1) in
    let k = some_of (flow_at s.slots b.0) (subst (λ n. IsSome (flow_at s.slots n)) at.2 (All-get_or (λ id. IsSome (flow_at s.slots id)) touched at.0 0 at.1 part.held)) in
    subst HasLimit (sym (flow_in_is s.slots b.0 k.0 k.1) ∙ b.2) (part.sound.flows b.0 k.0 k.1).limit
