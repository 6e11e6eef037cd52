-- A flow that is alone on its resources is a component by itself, and its level is the least of its limits.
use Rattle.std.proofs.Common.{◌≡◌, ◌≢◌, ℕ, zero, suc, ◌-◌, ◌/◌, ◌<◌, ◌≤◌, inl, inr, Bool, true, false, true≢false, cond, ◌||◌, eqb, eq-eqb, eqb-true, is_none, Option, None, Some, Contains, IsSome, option_map, option_to_list, List, [], ◌∷◌, ◌++◌, map, length, get_or, drop, slice_index, AllPairs, refl, sym, ap, ap₂, subst, ◌∙◌, arith}
use Rattle.std.proofs.lemmas.List.Quantifiers.{all_pairs_push}
use Rattle.std.proofs.lemmas.List.Sums.{sum_by-cons}
use Rattle.sg_base.specs.MarkSet.{is_in}
use Rattle.sg_maxmin.specs.declared.uses.Use.{Use}
use Rattle.sg_maxmin.specs.Chained.{users_on}
use Rattle.sg_maxmin.specs.Walk.{next_on, user_of}
use Rattle.sg_maxmin.specs.Fill.{Flow, bound_level, level_of}
use Rattle.sg_maxmin.specs.Fixing.{resource_level, flow_limits, lowest_limit, share_of_fixed, step, steps_from, unfixed}
use Rattle.sg_maxmin.specs.Sharing.{Sharing, uses_at}
use Rattle.sg_maxmin.proofs.Members.{In, In-append_cases, In-append_left, In-append_right, In-from_contains, In-map, In-map_back, contains_from_In}
use Rattle.sg_maxmin.proofs.OneStep.{limit_bound, limit_cases, limit_level, lowest_in, lowest_le, step_at}
use Rattle.sg_maxmin.proofs.Proved.{level_fixed}
use Rattle.sg_maxmin.proofs.HeldLevels.{at_no}
use Rattle.sg_maxmin.proofs.Walked.{IsWalk, looked, over}
use Rattle.sg_maxmin.specs.Numbered.{below_at, bound_at, flow_in, row_level, row_taken, row_waiting, weight_at}
use Rattle.sg_maxmin_solve.specs.declared.component.Component.{Component}
use Rattle.sg_maxmin_solve.specs.Alone.{IsAlone, alone_limits, whole_level}
use Rattle.sg_maxmin_solve.specs.Component.{IsClosedBy, MarksRow, Spreads}
use Rattle.sg_maxmin.specs.Step.{IsLeast}
use Rattle.sg_maxmin_solve.specs.Filling.{AreJoined, bound_limit, fixed_at, flows_at}
use Rattle.sg_maxmin_solve.specs.Holds.{IsNoted}
use Rattle.sg_maxmin_solve.proofs.Filled.{or_cases, or_left, or_right}
use Rattle.sg_maxmin_solve.proofs.Growing.{all_stay}
use Rattle.sg_maxmin_solve.proofs.Joined.{row_is}
use Rattle.sg_maxmin_solve.proofs.Rows.{any_default, into}
use Rattle.sg_maxmin.proofs.Listed.{at_in, bool_cases, in_at, none_some, same_in, some_same}
use Rattle.sg_maxmin.proofs.Users.{in_is}

-- ---- a row of one
single : (row : List ℕ) (x : ℕ) → 0 < length row → length row ≤ 1 → x ≡ get_or row 0 0 → row ≡ x ∷ []
single [] x some few e = absurd (omega (arith, some))
single (y ∷ []) x some few e = ap (λ n. n ∷ []) (sym e)
single (y ∷ z ∷ row) x some few e = absurd (omega (arith, few))

-- a use that is the first on its resource, and that none follows, is the only one
pub only_user : (uses : List (Option Use)) (row : List ℕ) (at : Option ℕ) (i : ℕ) (one : Use) → IsWalk next_on user_of uses row 0 at → at ≡ Some i → get_or uses i None ≡ Some one → one.next_on ≡ None → row ≡ one.flow ∷ []
only_user uses row at i one walk e there none =
    let g = looked next_on user_of uses row 0 at walk i one e there in
    single row one.flow (omega (arith, g.less)) (over next_on user_of uses row 1 one.next_on none g.leads) g.is

pub in_single : (x y : ℕ) → is_in x (y ∷ []) ≡ true → x ≡ y
in_single x y i = let at = at_in x (y ∷ []) i in from at.0 at.1 at.2
  where
    from : (k : ℕ) → k < 1 → get_or (y ∷ []) k 0 ≡ x → x ≡ y
    from zero h e = sym e
    from (suc k) h e = absurd (omega arith)

pub is_here : (x : ℕ) → is_in x (x ∷ []) ≡ true
is_here x = in_at x (x ∷ []) 0 (omega arith) refl

first_step : (caps : List ℕ) (flows : List Flow) (f : Flow) → steps_from 1 caps flows unfixed f ≡ step caps flows unfixed f
unfolding steps_from
first_step caps flows f = refl

-- ---- the level of a resource with the flow alone on it
taken_single : (s : Sharing) (fixed : ℕ → Option ℕ) (flow : ℕ) → fixed flow ≡ None → row_taken s.slots fixed (flow ∷ []) ≡ 0
unfolding row_taken
taken_single s fixed flow none = omega (arith, sum_by-cons (λ id. share_of_fixed (flow_in s.slots id) (fixed id)) flow [], ap (share_of_fixed (flow_in s.slots flow)) none)

waiting_single : (s : Sharing) (fixed : ℕ → Option ℕ) (flow : ℕ) → fixed flow ≡ None → row_waiting s.slots fixed (flow ∷ []) ≡ weight_at s.slots flow
unfolding row_waiting
waiting_single s fixed flow none = omega (arith, sum_by-cons (λ id. cond (is_none (fixed id)) (weight_at s.slots id) 0) flow [], ap (λ o. cond (is_none o) (weight_at s.slots flow) 0) none)

row_single : (s : Sharing) (c : ℕ) (fixed : ℕ → Option ℕ) (flow : ℕ) → fixed flow ≡ None → row_level (slice_index s.capacities c) s.slots fixed (flow ∷ []) ≡ whole_level s flow c
unfolding row_level
row_single s c fixed flow none = ap₂ (λ t w. (slice_index s.capacities c - t) / w) (taken_single s fixed flow none) (waiting_single s fixed flow none) ∙ ap (λ n. n / weight_at s.slots flow) (minus (slice_index s.capacities c))
  where
    minus : (n : ℕ) → n - 0 ≡ n
    minus n = omega arith

module _ (s : Sharing) (flow low : ℕ) (reached : List ℕ) (joined : AreJoined s (flow ∷ []) reached) (alone : IsAlone s flow low) where
  abbrev its : Flow
  its = flow_in s.slots flow

  here : is_in flow (flow ∷ []) ≡ true
  here = is_here flow

  uses_reached : (c : ℕ) → In c (uses_at s.slots flow) → is_in c reached ≡ true
  uses_reached c u = into (uses_at s.slots flow) reached c (joined.closed.covers flow here) (in_is c (uses_at s.slots flow) u)

  -- the flow uses all that is reached
  pub reached_used : (c : ℕ) → is_in c reached ≡ true → is_in c (uses_at s.slots flow) ≡ true
  reached_used c r =
      let row = users_on s.users c in
      let first = get_or row 0 0 in
      let i : is_in first row ≡ true = in_at first row 0 (joined.used c r) refl in
      let e : first ≡ flow = in_single first flow (into row (flow ∷ []) first (joined.closed.covered c r) i) in
      same_in flow c row (uses_at s.slots flow) (joined.part.sound.both flow c) (subst (λ n. is_in n row ≡ true) e i)

  pub reached_only : (c : ℕ) → is_in c reached ≡ true → users_on s.users c ≡ flow ∷ []
  reached_only c r = alone.only c (reached_used c r)

  level_whole : (c : ℕ) → In c (uses_at s.slots flow) → resource_level s.capacities (flows_at s.slots (flow ∷ [])) unfixed c ≡ whole_level s flow c
  level_whole c u =
      sym (row_is s (flow ∷ []) reached joined unfixed c (uses_reached c u))
      ∙ ap (λ row. row_level (slice_index s.capacities c) s.slots (λ id. None) row) (alone.only c (in_is c (uses_at s.slots flow) u))
      ∙ row_single s c (λ id. None) flow refl

  abbrev all : List ℕ
  all = alone_limits s flow (uses_at s.slots flow)

  into_limits : (x : ℕ) → In x all → In x (flow_limits s.capacities (flows_at s.slots (flow ∷ [])) unfixed its)
  into_limits x i = elim (In-append_cases (option_to_list (bound_limit s.slots flow)) (map (whole_level s flow) (uses_at s.slots flow)) x i) [
    | inl b ↦ of_bound (bound_at s.slots flow) refl b
    | inr m ↦
        let k = In-map_back (whole_level s flow) (uses_at s.slots flow) x m in
        subst (λ y. In y (flow_limits s.capacities (flows_at s.slots (flow ∷ [])) unfixed its)) (level_whole k.0 k.1 ∙ k.2) (limit_level s.capacities (flows_at s.slots (flow ∷ [])) unfixed its k.0 k.1)
  ]
    where
      of_bound : (o : Option ℕ) → bound_at s.slots flow ≡ o → In x (option_to_list (option_map (bound_level (weight_at s.slots flow)) o)) → In x (flow_limits s.capacities (flows_at s.slots (flow ∷ [])) unfixed its)
      of_bound None e b = absurd b
      of_bound (Some bound) e (inl q) = subst (λ y. In y (flow_limits s.capacities (flows_at s.slots (flow ∷ [])) unfixed its)) q (limit_bound s.capacities (flows_at s.slots (flow ∷ [])) unfixed its bound e)
      of_bound (Some bound) e (inr b) = absurd b

  from_limits : (x : ℕ) → In x (flow_limits s.capacities (flows_at s.slots (flow ∷ [])) unfixed its) → In x all
  from_limits x m = elim (limit_cases s.capacities (flows_at s.slots (flow ∷ [])) unfixed its x m) [
    | inl e ↦
        In-append_left (option_to_list (bound_limit s.slots flow)) (map (whole_level s flow) (uses_at s.slots flow)) x
        (subst (λ o. In x (option_to_list (option_map (bound_level (weight_at s.slots flow)) o))) (sym e.1) (inl e.2))
    | inr r ↦
        In-append_right (option_to_list (bound_limit s.slots flow)) (map (whole_level s flow) (uses_at s.slots flow)) x
        (subst (λ y. In y (map (whole_level s flow) (uses_at s.slots flow))) (sym (level_whole r.0 r.1) ∙ r.2) (In-map (whole_level s flow) (uses_at s.slots flow) r.0 r.1))
  ]

  -- its level is the least of its limits
  pub alone_level : level_of s.capacities (flows_at s.slots (flow ∷ [])) its ≡ low
  alone_level =
      let flows = flows_at s.slots (flow ∷ []) in
      let there : In its flows = inl refl in
      let at : In low (flow_limits s.capacities flows unfixed its) = into_limits low (In-from_contains all low alone.least.0) in
      let k = lowest_in s.capacities flows unfixed its low there refl at in
      let one : its ≡ k.0 = same k.0 k.1 in
      let least : In (lowest_limit s.capacities flows unfixed) (flow_limits s.capacities flows unfixed its) = subst (λ g. In (lowest_limit s.capacities flows unfixed) (flow_limits s.capacities flows unfixed g)) (sym one) k.3 in
      let is : lowest_limit s.capacities flows unfixed ≡ low =
      omega (arith, lowest_le s.capacities flows unfixed its low there refl at, alone.least.1 (lowest_limit s.capacities flows unfixed) (contains_from_In all (lowest_limit s.capacities flows unfixed) (from_limits (lowest_limit s.capacities flows unfixed) least))) in
      level_fixed 1 s.capacities flows its low (omega arith) (first_step s.capacities flows its ∙ step_at s.capacities flows unfixed its refl least ∙ ap (λ x. Some x) is)
    where
      same : (g : Flow) → In g (flows_at s.slots (flow ∷ [])) → flow_in s.slots flow ≡ g
      same g (inl e) = e
      same g (inr i) = absurd i

  -- a resource holds the flow if that is its level
  pub alone_noted : (fixed : List (Option ℕ)) (c : ℕ) → is_in c reached ≡ true → fixed_at fixed flow ≡ Some low → (hold : Option ℕ) → hold ≡ cond (eqb (whole_level s flow c) low) (Some low) None →
      IsNoted (slice_index s.capacities c) s.slots fixed (users_on s.users c) hold
  alone_noted fixed c r is hold e = subst (λ row. IsNoted (slice_index s.capacities c) s.slots fixed row hold) (sym (reached_only c r)) (record {
    user = λ x h. (flow, here, is ∙ sym (at x h).1 ∙ h);
    met = λ x h. full x (some_same low x (sym (at x h).1 ∙ h)) ∙ (at x h).0 ∙ some_same low x (sym (at x h).1 ∙ h);
    told = λ id x i f m.
        let q : low ≡ x = some_same low x (sym is ∙ subst (λ n. fixed_at fixed n ≡ Some x) (in_single id flow i) f) in
        let lev : whole_level s flow c ≡ low = sym (full x q) ∙ m ∙ sym q in
        e ∙ ap (λ b. cond b (Some low) None) (eq-eqb (whole_level s flow c) low lev) ∙ ap (λ y. Some y) q;
    done = λ some id i. subst (λ n. IsSome (fixed_at fixed n)) (sym (in_single id flow i)) (subst IsSome (sym is) refl);
  })
    where
      at : (x : ℕ) → hold ≡ Some x → (whole_level s flow c ≡ low) × (hold ≡ Some low)
      at x h = elim (bool_cases (eqb (whole_level s flow c) low)) [
        | inl b ↦ (eqb-true (whole_level s flow c) low b, e ∙ ap (λ b. cond b (Some low) None) b)
        | inr b ↦ absurd (none_some (sym (e ∙ ap (λ b. cond b (Some low) None) b) ∙ h))
      ]

      full : (x : ℕ) → low ≡ x → row_level (slice_index s.capacities c) s.slots (below_at fixed x) (flow ∷ []) ≡ whole_level s flow c
      full x q = row_single s c (below_at fixed x) flow (at_no fixed x flow low is (omega (arith, q)))

-- ---- what comes with the flow is closed
-- the resources that were reached, and its own
abbrev or_its : Sharing → Component → ℕ → ℕ → Bool
or_its s a flow c = is_in c a.reached.members || is_in c (uses_at s.slots flow)

pub alone_closed : (s : Sharing) (a z : Component) (flow low : ℕ) → IsClosedBy s a → Spreads s a z → MarksRow (uses_at s.slots flow) a.reached z.reached → z.touched.members ≡ a.touched.members ++ flow ∷ [] → IsAlone s flow low → IsClosedBy s z
alone_closed s a z flow low closed spreads marks touched alone = record {
  covers = spreads.covers;
  covered = λ c r. elim (or_cases (is_in c a.reached.members) (is_in c (uses_at s.slots flow)) (marks.least (or_its s a flow)
      (λ i h. or_right (is_in (get_or (uses_at s.slots flow) i 0) a.reached.members) (is_in (get_or (uses_at s.slots flow) i 0) (uses_at s.slots flow)) (in_at (get_or (uses_at s.slots flow) i 0) (uses_at s.slots flow) i h refl))
      (λ c k. or_left (is_in c a.reached.members) (is_in c (uses_at s.slots flow)) k) c r)) [
        | inl k ↦ all_stay (users_on s.users c) a.touched.members z.touched.members spreads.touched (closed.covered c k)
        | inr k ↦ λ i h.
            let e = alone.only c k in
            let row = users_on s.users c in
            let n = get_or row i 0 in
            let is : n ≡ flow = in_single n flow (subst (λ xs. is_in n xs ≡ true) e (in_at n row i h refl)) in
            subst (λ m. is_in m z.touched.members ≡ true) (sym is) (subst (λ xs. is_in flow xs ≡ true) (sym touched) (in_is flow (a.touched.members ++ flow ∷ []) (In-append_right a.touched.members (flow ∷ []) flow (inl refl))))
      ];
}

-- and is the flow itself
pub alone_came : (old new : List ℕ) (flow : ℕ) → new ≡ old ++ flow ∷ [] → drop (length old) new ≡ flow ∷ []
alone_came old new flow e = ap (drop (length old)) e ∙ past old
  where
    past : (xs : List ℕ) → drop (length xs) (xs ++ flow ∷ []) ≡ flow ∷ []
    past [] = refl
    past (x ∷ xs) = past xs

-- the least of what is no list, or of a list of one
pub least_list : (o : Option ℕ) → IsLeast o (option_to_list o ++ [])
least_list None = refl
least_list (Some x) = ((0, omega arith, refl), λ y i. one y i)
  where
    one : (y : ℕ) → Contains (x ∷ []) y → x ≤ y
    one y i = elim (In-from_contains (x ∷ []) y i) [ inl e ↦ omega (arith, e) | inr k ↦ absurd k ]

pub alone_once : (old new : List ℕ) (flow : ℕ) → new ≡ old ++ flow ∷ [] → AllPairs (λ a b. a ≢ b) old → is_in flow old ≡ false → AllPairs (λ a b. a ≢ b) new
alone_once old new flow e once off = subst (AllPairs (λ a b. a ≢ b)) (sym e) (all_pairs_push (λ a b. a ≢ b) old flow once (λ k d h q. true≢false (sym (in_at flow old k h (any_default old k 0 d h ∙ q)) ∙ off)))
