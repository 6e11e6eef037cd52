-- The max-min solve doesn't depend on the order of the resources: step by step the same flows are fixed.
use Rattle.std.proofs.Common.{◌≡◌, ℕ, zero, suc, ◌+◌, ◌-◌, ◌*◌, ◌/◌, inl, inr, Bool, true, false, cond, ◌&&◌, Option, None, Some, is_none, true≢false, List, [], ◌∷◌, ◌++◌, map, filter, flat_map, length, sum_by, refl, sym, ap, ap₂, subst, ◌∙◌, arith}
use Rattle.std.specs.Option.{unwrap_or}
use Rattle.std.specs.List.{AllZip}
use Rattle.std.proofs.lemmas.List.Sums.{sum_by-cons}
use Rattle.std.proofs.lemmas.List.Sorted.{Contains-permutation, IsPermutation-sym}
use Rattle.std.proofs.lemmas.Slice.Zip.{AllZip-long}
use Rattle.sg_maxmin.specs.Fill.{Flow, is_on, least, level_of, share_of, share_at, bounded, bound_level}
use Rattle.sg_maxmin.specs.Fixing.{Fixed, taken, waiting, resource_level, flow_limits, lowest_limit, is_limited_at, step, steps_from, unfixed, share_of_fixed}
use Rattle.sg_maxmin.specs.Relisted.{IsUsed, IsMoved, AreRelisted, FillsInAnyOrder}
use Rattle.sg_maxmin.proofs.Members.{In, In-from_contains, contains_from_In, In-append_left, In-append_right, In-append_cases, In-map, In-map_back, list_any_in}
use Rattle.sg_maxmin.proofs.Staged.{level_is_fixed_lem}
use Rattle.sg_maxmin.proofs.OneStep.{limit_bound, limit_level, limit_cases, least_le, least_in, is_at_in, is_at_back}
use Rattle.sg_maxmin.proofs.Rises.{is_on_uses}
use Rattle.sg_maxmin.proofs.Fairness.{uses_is_on}

-- ---- two lists, place by place
both : {X Y : Type 0} (R S T : X → Y → Type 0) (xs : List X) (ys : List Y) → ((x : X) (y : Y) → In x xs → R x y → S x y → T x y) → AllZip R xs ys → AllZip S xs ys → AllZip T xs ys
both R S T [] [] h r s = tt
both R S T [] (y ∷ ys) h r s = absurd r
both R S T (x ∷ xs) [] h r s = absurd r
both R S T (x ∷ xs) (y ∷ ys) h r s = (h x y (inl refl) r.0 s.0, both R S T xs ys (λ x' y' i. h x' y' (inr i)) r.1 s.1)

sums_zip : {X Y : Type 0} (f : X → ℕ) (g : Y → ℕ) (xs : List X) (ys : List Y) → AllZip (λ x y. f x ≡ g y) xs ys → sum_by f xs ≡ sum_by g ys
sums_zip f g [] [] r = refl
sums_zip f g [] (y ∷ ys) r = absurd r
sums_zip f g (x ∷ xs) [] r = absurd r
sums_zip f g (x ∷ xs) (y ∷ ys) r = sum_by-cons f x xs ∙ ap₂ (λ a b. a + b) r.0 (sums_zip f g xs ys r.1) ∙ sym (sum_by-cons g y ys)

maps_zip : {X Y Z : Type 0} (f : X → Z) (g : Y → Z) (xs : List X) (ys : List Y) → AllZip (λ x y. f x ≡ g y) xs ys → map f xs ≡ map g ys
maps_zip f g [] [] r = refl
maps_zip f g [] (y ∷ ys) r = absurd r
maps_zip f g (x ∷ xs) [] r = absurd r
maps_zip f g (x ∷ xs) (y ∷ ys) r = ap₂ (λ a b. a ∷ b) r.0 (maps_zip f g xs ys r.1)

-- the two lists have the same members
abbrev HaveSame : List ℕ → List ℕ → Type 0
HaveSame xs ys = (n : ℕ) → (In n xs → In n ys) × (In n ys → In n xs)

same_append : (ls ms ns os : List ℕ) → HaveSame ls ms → HaveSame ns os → HaveSame (ls ++ ns) (ms ++ os)
same_append ls ms ns os front back n = (
  λ i. elim (In-append_cases ls ns n i) [ inl k ↦ In-append_left ms os n ((front n).0 k) | inr k ↦ In-append_right ms os n ((back n).0 k) ],
  λ i. elim (In-append_cases ms os n i) [ inl k ↦ In-append_left ls ns n ((front n).1 k) | inr k ↦ In-append_right ls ns n ((back n).1 k) ],
)

-- the lists of those that meet a test
same_flat : {X Y : Type 0} (p : X → Bool) (q : Y → Bool) (f : X → List ℕ) (g : Y → List ℕ) (xs : List X) (ys : List Y) →
    AllZip (λ x y. (p x ≡ q y) × HaveSame (f x) (g y)) xs ys → HaveSame (flat_map f (filter p xs)) (flat_map g (filter q ys))
same_flat p q f g [] [] r = λ n. (λ i. i, λ i. i)
same_flat p q f g [] (y ∷ ys) r = absurd r
same_flat p q f g (x ∷ xs) [] r = absurd r
same_flat p q f g (x ∷ xs) (y ∷ ys) r = passes (p x) (q y) r.0.0 (same_flat p q f g xs ys r.1)
  where
    passes : (a b : Bool) → a ≡ b → HaveSame (flat_map f (filter p xs)) (flat_map g (filter q ys)) →
        HaveSame (flat_map f (cond a (x ∷ filter p xs) (filter p xs))) (flat_map g (cond b (y ∷ filter q ys) (filter q ys)))
    passes true true e rest = same_append (f x) (g y) (flat_map f (filter p xs)) (flat_map g (filter q ys)) r.0.1 rest
    passes true false e rest = absurd (true≢false e)
    passes false true e rest = absurd (true≢false (sym e))
    passes false false e rest = rest

least_same : (xs ys : List ℕ) → HaveSame xs ys → least xs ≡ least ys
least_same [] [] h = refl
least_same [] (y ∷ ys) h = absurd ((h y).1 (inl refl))
least_same (x ∷ xs) [] h = absurd ((h x).0 (inl refl))
least_same (x ∷ xs) (y ∷ ys) h =
    let one = least (x ∷ xs) in
    let other = least (y ∷ ys) in
    omega (arith, least_le (y ∷ ys) one ((h one).0 (least_in (x ∷ xs) x (inl refl))), least_le (x ∷ xs) other ((h other).1 (least_in (y ∷ ys) y (inl refl))))

same_test : (a b : Bool) → (a ≡ true → b ≡ true) → (b ≡ true → a ≡ true) → a ≡ b
same_test true true there back = refl
same_test true false there back = sym (there refl)
same_test false true there back = back refl
same_test false false there back = refl

-- ---- a flow and the same flow with its resources at other places
moved_use : (place : ℕ → ℕ) (f g : Flow) → IsMoved place f g → (c : ℕ) → In c f.uses → In (place c) g.uses
moved_use place f g is c i =
    In-from_contains g.uses (place c) (Contains-permutation (map place f.uses) g.uses (place c) is.uses (contains_from_In (map place f.uses) (place c) (In-map place f.uses c i)))

use_moved : (place : ℕ → ℕ) (f g : Flow) → IsMoved place f g → (d : ℕ) → In d g.uses → (c : ℕ) × In c f.uses × (place c ≡ d)
use_moved place f g is d i =
    In-map_back place f.uses d
    (In-from_contains (map place f.uses) d (Contains-permutation g.uses (map place f.uses) d (IsPermutation-sym (map place f.uses) g.uses is.uses) (contains_from_In g.uses d i)))

used : (flows : List Flow) (f : Flow) (c : ℕ) → In f flows → In c f.uses → IsUsed flows c
used flows f c i u = list_any_in (is_on c) flows f i (is_on_uses c f u)

-- what is fixed of the one list, and of the other
abbrev AreFixedAlike : List Flow → List Flow → Fixed → Fixed → Type 0
AreFixedAlike flows others a b = AllZip (λ f g. a f ≡ b g) flows others

module _ (place : ℕ → ℕ) (caps relisted : List ℕ) (flows moved : List Flow) (are : AreRelisted place caps relisted flows moved) where
  on_same : (f g : Flow) (c : ℕ) → In f flows → IsMoved place f g → IsUsed flows c → is_on c f ≡ is_on (place c) g
  on_same f g c i is u =
      same_test (is_on c f) (is_on (place c) g)
      (λ on. is_on_uses (place c) g (moved_use place f g is c (uses_is_on c f on)))
      (λ on.
      let r = use_moved place f g is (place c) (uses_is_on (place c) g on) in
      is_on_uses c f (subst (λ d. In d f.uses) (are.own r.0 c (used flows f r.0 i r.1) u r.2) r.1))

  share_moved : (f g : Flow) → IsMoved place f g → (o : Option ℕ) → share_of_fixed f o ≡ share_of_fixed g o
  unfolding share_at
  share_moved f g is None = refl
  share_moved f g is (Some l) = ap₂ (λ bound weight. bounded bound (weight * l)) (sym is.bound) (sym is.weight)

  sum_same : (x : Flow → Bool → Option ℕ → ℕ) → ((f g : Flow) → IsMoved place f g → (on : Bool) (o : Option ℕ) → x f on o ≡ x g on o) →
      (a b : Fixed) (c : ℕ) → AreFixedAlike flows moved a b → IsUsed flows c → sum_by (λ f. x f (is_on c f) (a f)) flows ≡ sum_by (λ g. x g (is_on (place c) g) (b g)) moved
  sum_same x same a b c alike u =
      sums_zip (λ f. x f (is_on c f) (a f)) (λ g. x g (is_on (place c) g) (b g)) flows moved
      (both (IsMoved place) (λ f g. a f ≡ b g) (λ f g. x f (is_on c f) (a f) ≡ x g (is_on (place c) g) (b g)) flows moved
      (λ f g i is e. ap₂ (x f) (on_same f g c i is u) e ∙ same f g is (is_on (place c) g) (b g)) are.each alike)

  level_same : (a b : Fixed) (c : ℕ) → AreFixedAlike flows moved a b → IsUsed flows c → resource_level caps flows a c ≡ resource_level relisted moved b (place c)
  unfolding resource_level taken waiting
  level_same a b c alike u =
      ap₂ (λ n d. n / d)
      (ap₂ (λ n d. n - d) (sym (are.capacity c u)) (sum_same (λ f on o. cond on (share_of_fixed f o) 0) (λ f g is on o. ap (λ s. cond on s 0) (share_moved f g is o)) a b c alike u))
      (sum_same (λ f on o. cond (on && is_none o) f.weight 0) (λ f g is on o. ap (λ w. cond (on && is_none o) w 0) (sym is.weight)) a b c alike u)

  limits_same : (a b : Fixed) (f g : Flow) → AreFixedAlike flows moved a b → In f flows → IsMoved place f g → HaveSame (flow_limits caps flows a f) (flow_limits relisted moved b g)
  limits_same a b f g alike i is l = (
    λ m. elim (limit_cases caps flows a f l m) [
      | inl e ↦ subst (λ n. In n (flow_limits relisted moved b g)) (ap (λ w. bound_level w e.0) is.weight ∙ e.2) (limit_bound relisted moved b g e.0 (is.bound ∙ e.1))
      | inr r ↦
          subst (λ n. In n (flow_limits relisted moved b g)) (sym (level_same a b r.0 alike (used flows f r.0 i r.1)) ∙ r.2)
          (limit_level relisted moved b g (place r.0) (moved_use place f g is r.0 r.1))
    ],
    λ m. elim (limit_cases relisted moved b g l m) [
      | inl e ↦ subst (λ n. In n (flow_limits caps flows a f)) (ap (λ w. bound_level w e.0) (sym is.weight) ∙ e.2) (limit_bound caps flows a f e.0 (sym is.bound ∙ e.1))
      | inr r ↦
          let u = use_moved place f g is r.0 r.1 in
          subst (λ n. In n (flow_limits caps flows a f)) (level_same a b u.0 alike (used flows f u.0 i u.1) ∙ ap (resource_level relisted moved b) u.2 ∙ r.2)
          (limit_level caps flows a f u.0 u.1)
    ],
  )

  lowest_same : (a b : Fixed) → AreFixedAlike flows moved a b → lowest_limit caps flows a ≡ lowest_limit relisted moved b
  unfolding lowest_limit
  lowest_same a b alike =
      least_same (flat_map (flow_limits caps flows a) (filter (λ f. is_none (a f)) flows)) (flat_map (flow_limits relisted moved b) (filter (λ g. is_none (b g)) moved))
      (same_flat (λ f. is_none (a f)) (λ g. is_none (b g)) (flow_limits caps flows a) (flow_limits relisted moved b) flows moved
      (both (IsMoved place) (λ f g. a f ≡ b g) (λ f g. (is_none (a f) ≡ is_none (b g)) × HaveSame (flow_limits caps flows a f) (flow_limits relisted moved b g)) flows moved
      (λ f g i is e. (ap is_none e, limits_same a b f g alike i is)) are.each alike))

  at_same : (a b : Fixed) (low : ℕ) (f g : Flow) → AreFixedAlike flows moved a b → In f flows → IsMoved place f g → is_limited_at caps flows a low f ≡ is_limited_at relisted moved b low g
  at_same a b low f g alike i is =
      let same = limits_same a b f g alike i is low in
      same_test (is_limited_at caps flows a low f) (is_limited_at relisted moved b low g)
      (λ at. is_at_in relisted moved b low g (same.0 (is_at_back caps flows a low f at)))
      (λ at. is_at_in caps flows a low f (same.1 (is_at_back relisted moved b low g at)))

  step_same : (a b : Fixed) → AreFixedAlike flows moved a b → AreFixedAlike flows moved (step caps flows a) (step relisted moved b)
  unfolding step
  step_same a b alike =
      both (IsMoved place) (λ f g. a f ≡ b g) (λ f g. step caps flows a f ≡ step relisted moved b g) flows moved (λ f g i is e. one f g i is e) are.each alike
    where
      one : (f g : Flow) → In f flows → IsMoved place f g → a f ≡ b g → step caps flows a f ≡ step relisted moved b g
      one f g i is e =
          let low = lowest_same a b alike in
          ap₂ (λ low' o. cond (is_none o && is_limited_at caps flows a low' f) (Some low') o) low e
          ∙ ap (λ at. cond (is_none (b g) && at) (Some (lowest_limit relisted moved b)) (b g)) (at_same a b (lowest_limit relisted moved b) f g alike i is)

  steps_same : (n : ℕ) (a b : Fixed) → AreFixedAlike flows moved a b → AreFixedAlike flows moved (steps_from n caps flows a) (steps_from n relisted moved b)
  unfolding steps_from
  steps_same zero a b alike = alike
  steps_same (suc n) a b alike = steps_same n (step caps flows a) (step relisted moved b) (step_same a b alike)

  levels_same : AllZip (λ f g. level_of caps flows f ≡ level_of relisted moved g) flows moved
  levels_same =
      let long : length moved ≡ length flows = AllZip-long (IsMoved place) flows moved are.each in
      let start = both (IsMoved place) (IsMoved place) (λ f g. unfixed f ≡ unfixed g) flows moved (λ f g i is is'. refl) are.each are.each in
      both (IsMoved place) (λ f g. steps_from (length flows) caps flows unfixed f ≡ steps_from (length flows) relisted moved unfixed g)
      (λ f g. level_of caps flows f ≡ level_of relisted moved g) flows moved
      (λ f g i is e. level_is_fixed_lem caps flows f ∙ ap (λ o. unwrap_or o 0) e ∙ ap (λ n. unwrap_or (steps_from n relisted moved unfixed g) 0) (sym long)
      ∙ sym (level_is_fixed_lem relisted moved g)) are.each (steps_same (length flows) unfixed unfixed start)

  shares_same : AllZip (λ f g. share_of caps flows f ≡ share_of relisted moved g) flows moved
  shares_same =
      both (IsMoved place) (λ f g. level_of caps flows f ≡ level_of relisted moved g) (λ f g. share_of caps flows f ≡ share_of relisted moved g) flows moved
      (λ f g i is e. ap (share_at f) e ∙ share_moved f g is (Some (level_of relisted moved g))) are.each levels_same

pub fills_in_any_order_lem : FillsInAnyOrder
fills_in_any_order_lem place caps relisted flows moved are = sym (maps_zip (share_of caps flows) (share_of relisted moved) flows moved (shares_same place caps relisted flows moved are))
