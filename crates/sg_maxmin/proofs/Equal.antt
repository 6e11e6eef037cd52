-- If each weight is 1, the weighted max-min shares are the unweighted ones.
use Rattle.std.proofs.Common.{◌≡◌, ℕ, zero, suc, ◌-◌, ◌*◌, ◌/◌, ◌≤◌, ◌==◌, Bool, true, false, cond, ◌&&◌, Option, None, Some, is_none, option_map, option_to_list, List, [], ◌∷◌, ◌++◌, map, filter, flat_map, length, slice_index, refl, sym, ap, ap₂, subst, ◌∙◌, inl, inr, arith}
use Rattle.std.specs.Option.{unwrap_or}
use Rattle.std.specs.List.{list_any}
use Rattle.sg_maxmin.specs.Fill.{Flow, is_on, bounded, share_at, bound_level, least, share_of}
use Rattle.sg_maxmin.specs.Fixing.{Fixed, share_of_fixed, taken, waiting, resource_level, flow_limits, lowest_limit, is_limited_at, step, steps_from, unfixed}
use Rattle.sg_maxmin.specs.Unweighted.{equal_taken, equal_waiting, equal_level, equal_limits, equal_lowest, is_equal_limit, equal_step, equal_steps, equal_share, FillsEqually}
use Rattle.sg_maxmin.proofs.Members.{In, contains_from_In}
use Rattle.sg_maxmin.proofs.Sums.{sum_by_same}
use Rattle.sg_maxmin.proofs.Staged.{level_is_fixed_lem}
use Rattle.sg_maxmin.proofs.OneStep.{limit_bound, lowest_le, was, gets, waits, step_cases}

bound_one : (b : ℕ) → bound_level 1 b ≡ b
unfolding bound_level
bound_one b = omega arith

-- a share is the level, if the level is within the bound
share_is : (f : Flow) (l : ℕ) → f.weight ≡ 1 → ((b : ℕ) → f.bound ≡ Some b → l ≤ b) → share_at f l ≡ l
unfolding share_at
share_is f l one h = ap (λ w. bounded f.bound (w * l)) one ∙ within f.bound h
  where
    within : (o : Option ℕ) → ((b : ℕ) → o ≡ Some b → l ≤ b) → bounded o (1 * l) ≡ l
    within None k = omega arith
    within (Some b) k = omega (arith, k b refl)

map_same : {X : Type 0} (f g : X → ℕ) (xs : List X) → ((x : X) → In x xs → f x ≡ g x) → map f xs ≡ map g xs
map_same f g [] h = refl
map_same f g (y ∷ xs) h = ap₂ (λ a b. a ∷ b) (h y (inl refl)) (map_same f g xs (λ x i. h x (inr i)))

flat_same : {X : Type 0} (p q : X → Bool) (f g : X → List ℕ) (xs : List X) → ((x : X) → In x xs → (p x ≡ q x) × (f x ≡ g x)) → flat_map f (filter p xs) ≡ flat_map g (filter q xs)
flat_same p q f g [] h = refl
flat_same p q f g (y ∷ xs) h =
    let rest = flat_same p q f g xs (λ x i. h x (inr i)) in
    let here = h y (inl refl) in
    subst (λ b. flat_map f (cond b (y ∷ filter p xs) (filter p xs)) ≡ flat_map g (cond (q y) (y ∷ filter q xs) (filter q xs))) (sym here.0)
    (elim (q y) as (λ b. flat_map f (cond b (y ∷ filter p xs) (filter p xs)) ≡ flat_map g (cond b (y ∷ filter q xs) (filter q xs))) [
      | true ↦ ap₂ (λ a b. a ++ b) here.1 rest
      | false ↦ rest
    ])

some_same : {x y : ℕ} → Some x ≡ Some y → x ≡ y
some_same e = cc

module _ (caps : List ℕ) (flows : List Flow) (one : (f : Flow) → In f flows → f.weight ≡ 1) where
  -- the flows are fixed alike, none above its bound
  record AreAlike (a b : Fixed) : Type 0 where
    same : (f : Flow) → In f flows → a f ≡ b f
    within : (f : Flow) → In f flows → (l bound : ℕ) → a f ≡ Some l → f.bound ≡ Some bound → l ≤ bound

  share_same : (a b : Fixed) → AreAlike a b → (f : Flow) → In f flows → share_of_fixed f (a f) ≡ unwrap_or (b f) 0
  share_same a b alike f i = at (a f) refl ∙ ap (λ o. unwrap_or o 0) (alike.same f i)
    where
      at : (o : Option ℕ) → a f ≡ o → share_of_fixed f o ≡ unwrap_or o 0
      at None e = refl
      at (Some l) e = share_is f l (one f i) (λ bound is. alike.within f i l bound e is)

  taken_same : (a b : Fixed) (c : ℕ) → AreAlike a b → taken flows a c ≡ equal_taken flows b c
  unfolding taken equal_taken
  taken_same a b c alike =
      sum_by_same (λ f. cond (is_on c f) (share_of_fixed f (a f)) 0) (λ f. cond (is_on c f) (unwrap_or (b f) 0) 0) flows
      (λ f i. ap (λ s. cond (is_on c f) s 0) (share_same a b alike f i))

  waiting_same : (a b : Fixed) (c : ℕ) → AreAlike a b → waiting flows a c ≡ equal_waiting flows b c
  unfolding waiting equal_waiting
  waiting_same a b c alike =
      sum_by_same (λ f. cond (is_on c f && is_none (a f)) f.weight 0) (λ f. cond (is_on c f && is_none (b f)) 1 0) flows
      (λ f i. ap₂ (λ o w. cond (is_on c f && is_none o) w 0) (alike.same f i) (one f i))

  level_same : (a b : Fixed) (c : ℕ) → AreAlike a b → resource_level caps flows a c ≡ equal_level caps flows b c
  unfolding resource_level equal_level
  level_same a b c alike = ap₂ (λ t w. (slice_index caps c - t) / w) (taken_same a b c alike) (waiting_same a b c alike)

  limits_same : (a b : Fixed) → AreAlike a b → (f : Flow) → In f flows → flow_limits caps flows a f ≡ equal_limits caps flows b f
  unfolding flow_limits equal_limits
  limits_same a b alike f i = ap₂ (λ xs ys. xs ++ ys) (first f.bound) (map_same (resource_level caps flows a) (equal_level caps flows b) f.uses (λ c j. level_same a b c alike))
    where
      first : (o : Option ℕ) → option_to_list (option_map (bound_level f.weight) o) ≡ option_to_list o
      first None = refl
      first (Some bound) = ap (λ n. n ∷ []) (ap (λ w. bound_level w bound) (one f i) ∙ bound_one bound)

  lowest_same : (a b : Fixed) → AreAlike a b → lowest_limit caps flows a ≡ equal_lowest caps flows b
  unfolding lowest_limit equal_lowest
  lowest_same a b alike =
      ap least (flat_same (λ f. is_none (a f)) (λ f. is_none (b f)) (flow_limits caps flows a) (equal_limits caps flows b) flows
      (λ f i. (ap is_none (alike.same f i), limits_same a b alike f i)))

  step_same : (a b : Fixed) → AreAlike a b → (f : Flow) → In f flows → step caps flows a f ≡ equal_step caps flows b f
  unfolding step equal_step is_limited_at is_equal_limit
  step_same a b alike f i =
      let low = lowest_same a b alike in
      let at : is_limited_at caps flows a (lowest_limit caps flows a) f ≡ is_equal_limit caps flows b (equal_lowest caps flows b) f = ap₂ (λ n ls. list_any (λ l. l == n) ls) low (limits_same a b alike f i) in
      ap₂ (λ n t. cond (is_none (a f) && t) (Some n) (a f)) low at
      ∙ ap (λ o. cond (is_none o && is_equal_limit caps flows b (equal_lowest caps flows b) f) (Some (equal_lowest caps flows b)) o) (alike.same f i)

  step_alike : (a b : Fixed) → AreAlike a b → AreAlike (step caps flows a) (equal_step caps flows b)
  step_alike a b alike = record {
    same = step_same a b alike;
    within = λ f i l bound e is.
        elim (step_cases caps flows a f) [
          | was x p q ↦ omega (arith, alike.within f i x bound p is, some_same (sym q ∙ e))
          | gets p q at ↦
              let low = lowest_le caps flows a f (bound_level f.weight bound) i p (limit_bound caps flows a f bound is) in
              omega (arith, low, some_same (sym q ∙ e), ap (λ w. bound_level w bound) (one f i) ∙ bound_one bound)
          | waits p q away ↦ cc (sym q ∙ e)
        ];
  }

  steps_alike : (n : ℕ) (a b : Fixed) → AreAlike a b → AreAlike (steps_from n caps flows a) (equal_steps n caps flows b)
  unfolding steps_from equal_steps
  steps_alike zero a b alike = alike
  steps_alike (suc n) a b alike = steps_alike n (step caps flows a) (equal_step caps flows b) (step_alike a b alike)

  shares_same : (f : Flow) → In f flows → share_of caps flows f ≡ equal_share caps flows f
  unfolding equal_share
  shares_same f i =
      let alike = steps_alike (length flows) unfixed unfixed (record { same = λ g j. refl; within = λ g j l bound e is. cc e }) in
      let o = steps_from (length flows) caps flows unfixed f in
      ap (share_at f) (level_is_fixed_lem caps flows f)
      ∙ share_is f (unwrap_or o 0) (one f i) (λ bound is. within o bound (λ l e. alike.within f i l bound e is))
      ∙ ap (λ p. unwrap_or p 0) (alike.same f i)
    where
      within : (o : Option ℕ) (bound : ℕ) → ((l : ℕ) → o ≡ Some l → l ≤ bound) → unwrap_or o 0 ≤ bound
      within None bound h = omega arith
      within (Some l) bound h = h l refl

pub fills_equally_lem : FillsEqually
fills_equally_lem caps flows one = map_same (share_of caps flows) (equal_share caps flows) flows (shares_same caps flows (λ f i. one f (contains_from_In flows f i)))
