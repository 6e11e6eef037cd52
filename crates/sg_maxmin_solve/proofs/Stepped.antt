-- The passes of one step over the touched flows are a step of the max-min solve.
use Rattle.std.proofs.Common.{◌≡◌, ◌≢◌, ℕ, ◌+◌, ◌-◌, ◌*◌, ◌/◌, ◌≤◌, inl, inr, Bool, true, false, cond, ◌&&◌, is_none, Option, None, Some, option_map, option_to_list, List, [], ◌∷◌, ◌++◌, map, filter, flat_map, get_or, sum_by, AllPairs, refl, sym, ap, ap₂, subst, ◌∙◌, arith}
use Rattle.std.proofs.lemmas.List.Sums.{sum_by-cons}
use Rattle.sg_maxmin.specs.Fill.{Flow, bound_level, is_on, least}
use Rattle.sg_maxmin.specs.Fixing.{Fixed, share_of_fixed, taken, waiting, resource_level, flow_limits, lowest_limit, step}
use Rattle.sg_maxmin.specs.Chained.{times}
use Rattle.sg_maxmin.specs.Sharing.{Sharing, uses_at}
use Rattle.sg_maxmin.proofs.Members.{In, In-map, In-from_contains, contains_from_In}
use Rattle.sg_maxmin.proofs.Sums.{sum_by_same}
use Rattle.sg_maxmin.proofs.OneStep.{least_le, least_in, lowest_le, step_fixed, step_at, was, gets, waits, step_cases}
use Rattle.sg_maxmin.specs.Numbered.{bound_at, flow_in, weight_at}
use Rattle.sg_maxmin.specs.Step.{IsLeast, IsStepped}
use Rattle.sg_maxmin_solve.specs.Filling.{AreCounted, fixed_at, flows_at, limits_at, taken_on, unfixed_limits, waiting_on, waits_with}
use Rattle.sg_maxmin.proofs.Listed.{times-once}

pub sum_by-map : {X Y : Type 0} (h : Y → ℕ) (f : X → Y) (xs : List X) → sum_by h (map f xs) ≡ sum_by (λ x. h (f x)) xs
sum_by-map h f [] = refl
sum_by-map h f (x ∷ xs) = sum_by-cons h (f x) (map f xs) ∙ ap (λ s. h (f x) + s) (sum_by-map h f xs) ∙ sym (sum_by-cons (λ y. h (f y)) x xs)

both_cond : (b d : Bool) (w : ℕ) → cond (b && d) w 0 ≡ cond b 1 0 * cond d w 0
both_cond true true w = omega arith
both_cond true false w = refl
both_cond false true w = omega arith
both_cond false false w = refl

times_cond : (b : Bool) (x : ℕ) → cond b x 0 ≡ cond b 1 0 * x
times_cond true x = omega arith
times_cond false x = omega arith

given_is : (flow : Flow) (o : Option ℕ) → share_of_fixed flow o ≡ share_of_fixed flow o
given_is flow None = refl
given_is flow (Some level) = refl

-- a pass over the flows that fixes some is a step
step_case : (caps : List ℕ) (flows : List Flow) (fixed : Fixed) (f : Flow) (low : ℕ) (list : List ℕ) (before after : Option ℕ) → fixed f ≡ before → flow_limits caps flows fixed f ≡ list → In f flows → lowest_limit caps flows fixed ≡ low →
    IsStepped low (IsLeast (Some low) list) before after → after ≡ step caps flows fixed f
step_case caps flows fixed f low list (Some x) after e lim i low_is h = h ∙ sym (step_fixed caps flows fixed f x e)
step_case caps flows fixed f low list None after e lim i low_is (inl h) =
    let at : In low list = In-from_contains list low h.0.0 in
    let at' : In (lowest_limit caps flows fixed) (flow_limits caps flows fixed f) = subst (λ ys. In (lowest_limit caps flows fixed) ys) (sym lim) (subst (λ w. In w list) (sym low_is) at) in
    h.1 ∙ ap (λ w. Some w) (sym low_is) ∙ sym (step_at caps flows fixed f e at')
step_case caps flows fixed f low list None after e lim i low_is (inr h) =
    elim (step_cases caps flows fixed f) [
      | was x p q ↦ cc (sym e ∙ p)
      | gets p q at ↦
          let there : In low list = subst (λ w. In w list) low_is (subst (λ ys. In (lowest_limit caps flows fixed) ys) lim at) in
          absurd (h.0 (contains_from_In list low there, λ x k. subst (λ w. w ≤ x) low_is (lowest_le caps flows fixed f x i e (subst (λ ys. In x ys) (sym lim) (In-from_contains list x k)))))
      | waits p q away ↦ h.1 ∙ sym q
    ]

module _ (s : Sharing) (fixed : List (Option ℕ)) (touched : List ℕ) (state : Fixed) (once : (f : ℕ) → In f touched → AllPairs (λ a b. a ≢ b) (uses_at s.slots f)) (are : (f : ℕ) → In f touched → state (flow_in s.slots f) ≡ fixed_at fixed f) where
  abbrev flows : List Flow
  flows = flows_at s.slots touched

  taken_is : (c : ℕ) → taken flows state c ≡ taken_on s.slots fixed touched c
  unfolding taken
  taken_is c =
      sum_by-map (λ flow. cond (is_on c flow) (share_of_fixed flow (state flow)) 0) (flow_in s.slots) touched
      ∙ sum_by_same (λ f. cond (is_on c (flow_in s.slots f)) (share_of_fixed (flow_in s.slots f) (state (flow_in s.slots f))) 0) (λ f. times c (uses_at s.slots f) * share_of_fixed (flow_in s.slots f) (fixed_at fixed f)) touched
      (λ f i. times_cond (is_on c (flow_in s.slots f)) (share_of_fixed (flow_in s.slots f) (state (flow_in s.slots f)))
      ∙ ap₂ (λ n x. n * x) (sym (times-once (uses_at s.slots f) c (once f i))) (given_is (flow_in s.slots f) (state (flow_in s.slots f)) ∙ ap (share_of_fixed (flow_in s.slots f)) (are f i)))

  waiting_is : (c : ℕ) → waiting flows state c ≡ waiting_on s.slots fixed touched c
  unfolding waiting
  waiting_is c =
      sum_by-map (λ flow. cond (is_on c flow && is_none (state flow)) flow.weight 0) (flow_in s.slots) touched
      ∙ sum_by_same (λ f. cond (is_on c (flow_in s.slots f) && is_none (state (flow_in s.slots f))) (weight_at s.slots f) 0) (λ f. times c (uses_at s.slots f) * waits_with (flow_in s.slots f) (fixed_at fixed f)) touched
      (λ f i. both_cond (is_on c (flow_in s.slots f)) (is_none (state (flow_in s.slots f))) (weight_at s.slots f)
      ∙ ap₂ (λ n o. n * waits_with (flow_in s.slots f) o) (sym (times-once (uses_at s.slots f) c (once f i))) (are f i))

  module _ (left waiting' levels : List ℕ) (reached : ℕ → Bool) (counted : AreCounted s fixed touched left waiting' reached) (leveled : (c : ℕ) → reached c ≡ true → get_or levels c 0 ≡ get_or left c 0 / get_or waiting' c 0)
      (covers : (f c : ℕ) → In f touched → In c (uses_at s.slots f) → reached c ≡ true) where
    pub level_is : (c : ℕ) → reached c ≡ true → resource_level s.capacities flows state c ≡ get_or levels c 0
    unfolding resource_level
    level_is c r = ap₂ (λ a b. (get_or s.capacities c 0 - a) / b) (taken_is c) (waiting_is c) ∙ sym (ap₂ (λ a b. a / b) (counted.left_is c r) (counted.waiting_is c r)) ∙ sym (leveled c r)

    map_same : (f h : ℕ → ℕ) (xs : List ℕ) → ((x : ℕ) → In x xs → f x ≡ h x) → map f xs ≡ map h xs
    map_same f h [] e = refl
    map_same f h (x ∷ xs) e = ap₂ (λ y ys. y ∷ ys) (e x (inl refl)) (map_same f h xs (λ y i. e y (inr i)))

    pub limits_are : (f : ℕ) → In f touched → flow_limits s.capacities flows state (flow_in s.slots f) ≡ limits_at s.slots levels f
    unfolding flow_limits
    limits_are f i = ap (λ xs. option_to_list (option_map (bound_level (weight_at s.slots f)) (bound_at s.slots f)) ++ xs) (map_same (resource_level s.capacities flows state) (λ c. get_or levels c 0) (uses_at s.slots f) (λ c k. level_is c (covers f c i k)))

    all_same : (part : List ℕ) → ((f : ℕ) → In f part → In f touched) → flat_map (flow_limits s.capacities flows state) (filter (λ flow. is_none (state flow)) (map (flow_in s.slots) part)) ≡ unfixed_limits s.slots fixed levels part
    all_same [] h = refl
    all_same (f ∷ part) h =
        let here = limits_are f (h f (inl refl)) in
        let rest = all_same part (λ k i. h k (inr i)) in
        let fs = filter (λ flow. is_none (state flow)) (map (flow_in s.slots) part) in
        let lim = flow_limits s.capacities flows state in
        subst (λ o. flat_map lim (cond (is_none o) (flow_in s.slots f ∷ fs) fs) ≡ unfixed_limits s.slots fixed levels (f ∷ part)) (sym (are f (h f (inl refl))))
        (elim (is_none (fixed_at fixed f)) as (λ b. flat_map lim (cond b (flow_in s.slots f ∷ fs) fs) ≡ cond b (limits_at s.slots levels f) [] ++ unfixed_limits s.slots fixed levels part) [
          | true ↦ ap₂ (λ a b. a ++ b) here rest
          | false ↦ rest
        ])

    pub lowest_is : (low : ℕ) → IsLeast (Some low) (unfixed_limits s.slots fixed levels touched) → lowest_limit s.capacities flows state ≡ low
    unfolding lowest_limit
    lowest_is low h = ap least (all_same touched (λ f i. i)) ∙ is_least (unfixed_limits s.slots fixed levels touched) h
      where
        is_least : (xs : List ℕ) → IsLeast (Some low) xs → least xs ≡ low
        is_least xs g = omega (arith, least_le xs low (In-from_contains xs low g.0), g.1 (least xs) (contains_from_In xs (least xs) (least_in xs low (In-from_contains xs low g.0))))

    -- after fix_all the levels are those of the next step
    pub next_fixed : (new : List (Option ℕ)) (low : ℕ) → IsLeast (Some low) (unfixed_limits s.slots fixed levels touched) → ((f : ℕ) → In f touched → IsStepped low (IsLeast (Some low) (limits_at s.slots levels f)) (fixed_at fixed f) (fixed_at new f)) →
        (f : ℕ) → In f touched → step s.capacities flows state (flow_in s.slots f) ≡ fixed_at new f
    next_fixed new low h stepped f i = sym (step_case s.capacities flows state (flow_in s.slots f) low (limits_at s.slots levels f) (fixed_at fixed f) (fixed_at new f) (are f i) (limits_are f i) (In-map (flow_in s.slots) touched f i) (lowest_is low h) (stepped f i))
