-- One more flow is fixed, and what the parts of a step do together.
use Rattle.std.proofs.Common.{◌≡◌, ◌≢◌, ℕ, zero, suc, ◌+◌, ◌-◌, ◌*◌, ◌<◌, inl, inr, Bool, true, false, true≢false, cond, is_none, Option, None, Some, IsSome, option_to_list, List, [], ◌∷◌, map, length, get_or, set, sum_by, AllPairs, Contains, get_or-set_same, get_or-set_other, refl, sym, ap, subst, ◌∙◌, arith}
use Rattle.std.proofs.lemmas.List.Sums.{sum_by-cons}
use Rattle.sg_base.specs.MarkSet.{is_in}
use Rattle.sg_maxmin.specs.Chained.{times, users_on}
use Rattle.sg_maxmin.specs.Fill.{share_at}
use Rattle.sg_maxmin.specs.Fixing.{share_of_fixed}
use Rattle.sg_maxmin.specs.Sharing.{Sharing, uses_at}
use Rattle.sg_maxmin.proofs.Members.{In, In-from_contains, contains_from_In, In-append_left, In-append_right, In-append_cases, In-map, In-map_back}
use Rattle.sg_maxmin.proofs.Sums.{sum_by_same}
use Rattle.sg_maxmin_solve.specs.declared.filling.Filling.{Filling}
use Rattle.sg_maxmin_solve.specs.Component.{AreIn}
use Rattle.sg_maxmin.specs.Numbered.{flow_in}
use Rattle.sg_maxmin.specs.Step.{IsLeast, IsStepped}
use Rattle.sg_maxmin_solve.specs.Filling.{AreAbove, AreCounted, AreFixed, AreJoined, FixesFlow, HasPlaces, IsLessBy, KeepsCount, MayStep, StepsPartly, bound_limit, fixed_at, limits_at, taken_on, unfixed_uses, waiting_on, waits_with, weight_on}
use Rattle.sg_maxmin_solve.proofs.Rows.{into}
use Rattle.sg_maxmin.proofs.Listed.{at_in, bool_cases, eq_cases, in_at, same_in, times_out}
use Rattle.sg_maxmin.proofs.Users.{in_is, is_in_In}

-- ---- a sum in which one part differs
apart : (x : ℕ) (xs : List ℕ) → AllPairs (λ a b. a ≢ b) (x ∷ xs) → (y : ℕ) → In y xs → x ≢ y
apart x xs once y i e = let r = at_in y xs (in_is y xs i) in once 0 (suc r.0) 0 (omega arith) (omega (arith, r.1)) (e ∙ sym r.2)

rest : (x : ℕ) (xs : List ℕ) → AllPairs (λ a b. a ≢ b) (x ∷ xs) → AllPairs (λ a b. a ≢ b) xs
rest x xs once = λ i j d a b. once (suc i) (suc j) d (omega (arith, a)) (omega (arith, b))

pub sum_one : (a b : ℕ → ℕ) (f : ℕ) (xs : List ℕ) → AllPairs (λ x y. x ≢ y) xs → In f xs → ((x : ℕ) → x ≢ f → b x ≡ a x) → sum_by b xs + a f ≡ sum_by a xs + b f
sum_one a b f [] once i same = absurd i
sum_one a b f (x ∷ xs) once (inl e) same =
    let others = sum_by_same b a xs (λ y i. same y (λ q. apart x xs once y i (e ∙ sym q))) in
    omega (arith, sum_by-cons a x xs, sum_by-cons b x xs, others, ap a e, ap b e)
sum_one a b f (x ∷ xs) once (inr i) same =
    omega (arith, sum_by-cons a x xs, sum_by-cons b x xs, same x (apart x xs once f i), sum_one a b f xs (rest x xs once) i same)

-- ---- what may happen to a flow in a part of a step
pub may_stay : (low : ℕ) (at : Type 0) (o : Option ℕ) → MayStep low at o o
may_stay low at None = inr refl
may_stay low at (Some x) = refl

may_on : (low : ℕ) (at : Type 0) (a b c : Option ℕ) → MayStep low at a b → MayStep low at b c → MayStep low at a c
may_on low at (Some x) b c p q = subst (λ o. MayStep low at o c) p q
may_on low at None b c (inl p) q = inl (p.0, subst (λ o. MayStep low at o c) p.1 q)
may_on low at None b c (inr p) q = subst (λ o. MayStep low at o c) p q

none_some : {x : ℕ} → None ≡ Some x → ⊥
none_some e = cc

not_none : (o : Option ℕ) → IsSome o → o ≡ None → ⊥
not_none None h e = absurd (true≢false (sym h))
not_none (Some x) h e = none_some (sym e)

pub was_none : (low : ℕ) (at : Type 0) (a b : Option ℕ) → MayStep low at a b → b ≡ None → a ≡ None
was_none low at None b h e = refl
was_none low at (Some x) b h e = absurd (none_some (sym e ∙ h))

pub some_stays : (low : ℕ) (at : Type 0) (a b : Option ℕ) → MayStep low at a b → IsSome a → IsSome b
some_stays low at None b h s = absurd (true≢false (sym s))
some_stays low at (Some x) b h s = subst IsSome (sym h) refl

pub level_stays : (low : ℕ) (at : Type 0) (a b : Option ℕ) (x : ℕ) → MayStep low at a b → a ≡ Some x → b ≡ Some x
level_stays low at None b x h e = absurd (none_some e)
level_stays low at (Some y) b x h e = h ∙ e

-- if whoever is at the level was fixed, it is a step
pub may_step : (low : ℕ) (at : Type 0) (a b : Option ℕ) → MayStep low at a b → (at → IsSome b) → IsStepped low at a b
may_step low at (Some x) b h all = h
may_step low at None b (inl h) all = inl h
may_step low at None b (inr h) all = inr ((λ p. not_none b (all p) h), h)

-- ---- parts of a step, one after the other
pub partly_same : (s : Sharing) (low : ℕ) (a : Filling) → HasPlaces s a → StepsPartly s low a a
partly_same s low a places = record {
  places = places;
  levels = refl;
  flows = λ id. may_stay low (IsLeast (Some low) (limits_at s.slots a.levels.items id)) (fixed_at a.fixed.items id);
  stays = λ c h. record { fresh = h; left = refl; waiting = refl; key = refl };
  fewer = λ c. omega arith;
  gone = λ c e. e;
}

pub partly_on : (s : Sharing) (low : ℕ) (a b c : Filling) → StepsPartly s low a b → StepsPartly s low b c → StepsPartly s low a c
partly_on s low a b c p q = record {
  places = q.places;
  levels = q.levels ∙ p.levels;
  flows = λ id. may_on low (IsLeast (Some low) (limits_at s.slots a.levels.items id)) (fixed_at a.fixed.items id) (fixed_at b.fixed.items id) (fixed_at c.fixed.items id) (p.flows id)
      (subst (λ (ls : List ℕ). MayStep low (IsLeast (Some low) (limits_at s.slots ls id)) (fixed_at b.fixed.items id) (fixed_at c.fixed.items id)) p.levels (q.flows id));
  stays = λ n h.
      let y = q.stays n h in
      let x = p.stays n y.fresh in
      record { fresh = x.fresh; left = y.left ∙ x.left; waiting = y.waiting ∙ x.waiting; key = y.key ∙ x.key };
  fewer = λ n. omega (arith, p.fewer n, q.fewer n);
  gone = λ n e. q.gone n (p.gone n e);
}

pub fixed_stay : (s : Sharing) (low : ℕ) (row : List ℕ) (a b : Filling) → StepsPartly s low a b → AreFixed row a → AreFixed row b
fixed_stay s low row a b p all = λ i h. let id = get_or row i 0 in some_stays low (IsLeast (Some low) (limits_at s.slots a.levels.items id)) (fixed_at a.fixed.items id) (fixed_at b.fixed.items id) (p.flows id) (all i h)

pub count_same : (s : Sharing) (touched : List ℕ) (a : Filling) (x : ℕ) → KeepsCount s touched a a x x
count_same s touched a x = record { counted = λ reached h. h; looks = omega arith }

-- if nothing is fixed
pub fixes_same : (s : Sharing) (flow low : ℕ) (a : Filling) (x : ℕ) → HasPlaces s a → FixesFlow s flow low a a x x
fixes_same s flow low a x places = record {
  fixes = record { partly = partly_same s low a places; agenda = refl; holds = refl };
  count = λ touched once there. count_same s touched a x;
}

-- ---- one flow is fixed
module _ (s : Sharing) (fixed : List (Option ℕ)) (f low : ℕ) (below : f < length fixed) (none : fixed_at fixed f ≡ None) where
  abbrev now : List (Option ℕ)
  now = set fixed f (Some low)

  here : fixed_at now f ≡ Some low
  here = get_or-set_same fixed f (Some low) None below

  away : (x : ℕ) → x ≢ f → fixed_at now x ≡ fixed_at fixed x
  away x ne = get_or-set_other fixed f x (Some low) None ne

  pub one_steps : (levels : List ℕ) → IsLeast (Some low) (limits_at s.slots levels f) → (id : ℕ) → MayStep low (IsLeast (Some low) (limits_at s.slots levels id)) (fixed_at fixed id) (fixed_at now id)
  one_steps levels at id = elim (eq_cases id f) [
    | inl e ↦ subst (λ n. MayStep low (IsLeast (Some low) (limits_at s.slots levels n)) (fixed_at fixed n) (fixed_at now n)) (sym e)
        (subst (λ (o : Option ℕ). MayStep low (IsLeast (Some low) (limits_at s.slots levels f)) o (fixed_at now f)) (sym none) (inl (at, here)))
    | inr ne ↦ subst (λ (o : Option ℕ). MayStep low (IsLeast (Some low) (limits_at s.slots levels id)) (fixed_at fixed id) o) (sym (away id ne)) (may_stay low (IsLeast (Some low) (limits_at s.slots levels id)) (fixed_at fixed id))
  ]

  module _ (touched : List ℕ) (once : AllPairs (λ a b. a ≢ b) touched) (there : In f touched) where
    part_one : (part : Option ℕ → ℕ → ℕ) → sum_by (λ x. part (fixed_at now x) x) touched + part None f ≡ sum_by (λ x. part (fixed_at fixed x) x) touched + part (Some low) f
    part_one part =
        let is = sum_one (λ x. part (fixed_at fixed x) x) (λ x. part (fixed_at now x) x) f touched once there (λ x ne. ap (λ o. part o x) (away x ne)) in
        subst (λ (o : Option ℕ). sum_by (λ x. part (fixed_at now x) x) touched + part None f ≡ sum_by (λ x. part (fixed_at fixed x) x) touched + part o f) here
        (subst (λ (o : Option ℕ). sum_by (λ x. part (fixed_at now x) x) touched + part o f ≡ sum_by (λ x. part (fixed_at fixed x) x) touched + part (fixed_at now f) f) none is)

    pub counted_one : (left left' waiting waiting' : List ℕ) (reached : ℕ → Bool) → IsLessBy (λ c. times c (uses_at s.slots f) * share_at (flow_in s.slots f) low) left left' → IsLessBy (weight_on s.slots f) waiting waiting' →
        AreCounted s fixed touched left waiting reached → AreCounted s now touched left' waiting' reached
    counted_one left left' waiting waiting' reached l w counted = record {
      left_is = λ c r. less (get_or left' c 0) (get_or left c 0) (get_or s.capacities c 0) (taken_on s.slots fixed touched c) (times c (uses_at s.slots f) * share_at (flow_in s.slots f) low) (taken_on s.slots now touched c) (times c (uses_at s.slots f))
          (l c) (counted.left_is c r) (part_one (λ o x. times c (uses_at s.slots x) * share_of_fixed (flow_in s.slots x) o));
      waiting_is = λ c r. fewer (get_or waiting' c 0) (get_or waiting c 0) (waiting_on s.slots fixed touched c) (weight_on s.slots f c) (waiting_on s.slots now touched c) (times c (uses_at s.slots f))
          (w c) (counted.waiting_is c r) (part_one (λ o x. times c (uses_at s.slots x) * waits_with (flow_in s.slots x) o));
    }
      where
        less : (a' a b t g u n : ℕ) → a' ≡ a - g → a ≡ b - t → u + n * 0 ≡ t + g → a' ≡ b - u
        less a' a b t g u n e f h = omega arith

        fewer : (a' a t g u n : ℕ) → a' ≡ a - g → a ≡ t → u + g ≡ t + n * 0 → a' ≡ u
        fewer a' a t g u n e f h = omega arith

    pub unfixed_one : unfixed_uses s.slots now touched + length (uses_at s.slots f) ≡ unfixed_uses s.slots fixed touched + 0
    unfixed_one = part_one (λ o x. cond (is_none o) (length (uses_at s.slots x)) 0)

-- what a flow doesn't use stays
pub off_stays : (old new row marks : List ℕ) (share c : ℕ) → get_or new c 0 ≡ get_or old c 0 - times c row * share → AreIn row marks → is_in c marks ≡ false → get_or new c 0 ≡ get_or old c 0
off_stays old new row marks share c e there off = elim (bool_cases (is_in c row)) [
  | inl i ↦ absurd (true≢false (sym (into row marks c there i) ∙ off))
  | inr o ↦ e ∙ ap (λ n. get_or old c 0 - n * share) (times_out c row o) ∙ minus (get_or old c 0) share
]
  where
    minus : (a s : ℕ) → a - 0 * s ≡ a
    minus a s = omega arith

-- ---- who is at the level
pub level_in : (s : Sharing) (levels : List ℕ) (id c low : ℕ) → is_in c (uses_at s.slots id) ≡ true → get_or levels c 0 ≡ low → Contains (limits_at s.slots levels id) low
level_in s levels id c low i e =
    let limits = limits_at s.slots levels id in
    let there : In (get_or levels c 0) limits = In-append_right (option_to_list (bound_limit s.slots id)) (map (λ c. get_or levels c 0) (uses_at s.slots id)) (get_or levels c 0) (In-map (λ c. get_or levels c 0) (uses_at s.slots id) c (is_in_In c (uses_at s.slots id) i)) in
    contains_from_In limits low (subst (λ n. In n limits) e there)

at_bound : (o : Option ℕ) (low : ℕ) → In low (option_to_list o) → o ≡ Some low
at_bound None low i = absurd i
at_bound (Some x) low (inl e) = ap Some e
at_bound (Some x) low (inr i) = absurd i

-- a flow at the level has its bound there, or is on a resource that is there
pub all_at : (s : Sharing) (touched reached levels : List ℕ) (new : Filling) (low f : ℕ) → AreJoined s touched reached → is_in f touched ≡ true →
    ((i : ℕ) → i < length reached → get_or levels (get_or reached i 0) 0 ≡ low → AreFixed (users_on s.users (get_or reached i 0)) new) →
    (bound_limit s.slots f ≡ Some low → IsSome (fixed_at new.fixed.items f)) → IsLeast (Some low) (limits_at s.slots levels f) → IsSome (fixed_at new.fixed.items f)
all_at s touched reached levels new low f joined there on bound at =
    elim (In-append_cases (option_to_list (bound_limit s.slots f)) (map (λ c. get_or levels c 0) (uses_at s.slots f)) low (In-from_contains (limits_at s.slots levels f) low at.0)) [
      | inl i ↦ bound (at_bound (bound_limit s.slots f) low i)
      | inr i ↦
          let b = In-map_back (λ c. get_or levels c 0) (uses_at s.slots f) low i in
          let used = in_is b.0 (uses_at s.slots f) b.1 in
          let r = at_in b.0 reached (into (uses_at s.slots f) reached b.0 (joined.closed.covers f there) used) in
          let user = same_in b.0 f (uses_at s.slots f) (users_on s.users b.0) (sym (joined.part.sound.both f b.0)) used in
          let u = at_in f (users_on s.users (get_or reached r.0 0)) (subst (λ n. is_in f (users_on s.users n) ≡ true) (sym r.2) user) in
          subst (λ n. IsSome (fixed_at new.fixed.items n)) u.2 (on r.0 r.1 (ap (λ n. get_or levels n 0) r.2 ∙ b.2) u.0 u.1)
    ]

-- what is at this level or above stays so while flows are fixed
pub above_still : (s : Sharing) (row part : List ℕ) (low : ℕ) (a b : Filling) → StepsPartly s low a b → ((id : ℕ) → is_in id part ≡ true → is_in id row ≡ true) → AreAbove s row low a → AreAbove s part low b
above_still s row part low a b p within above id i none x k =
    above id (within id i) (was_none low (IsLeast (Some low) (limits_at s.slots a.levels.items id)) (fixed_at a.fixed.items id) (fixed_at b.fixed.items id) (p.flows id) none) x
    (subst (λ (ls : List ℕ). Contains (limits_at s.slots ls id) x) p.levels k)

pub in_one : (id n : ℕ) → is_in id (n ∷ []) ≡ true → id ≡ n
in_one id n h = one (at_in id (n ∷ []) h)
  where
    one : (i : ℕ) × (i < length (n ∷ [])) × (get_or (n ∷ []) i 0 ≡ id) → id ≡ n
    one (zero, h, e) = sym e
    one (suc i, h, e) = absurd (omega (arith, h))

pub in_one_self : (n : ℕ) → is_in n (n ∷ []) ≡ true
in_one_self n = in_at n (n ∷ []) 0 (omega arith) refl

pub bound_in : (s : Sharing) (levels : List ℕ) (id low : ℕ) → bound_limit s.slots id ≡ Some low → Contains (limits_at s.slots levels id) low
bound_in s levels id low e = contains_from_In (limits_at s.slots levels id) low (In-append_left (option_to_list (bound_limit s.slots id)) (map (λ c. get_or levels c 0) (uses_at s.slots id)) low (subst (λ (o : Option ℕ). In low (option_to_list o)) (sym e) (inl refl)))
