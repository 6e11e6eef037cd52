-- The levels where a flow waits, and the bounds of unfixed flows, are what limits the unfixed flows.
use Rattle.std.proofs.Common.{◌≡◌, ℕ, zero, suc, ◌*◌, ◌<◌, ◌≤◌, ◌⊎◌, inl, inr, true, false, cond, eqb, eq-eqb, ne_eqb, is_none, Option, None, Some, option_to_list, List, [], ◌∷◌, ◌++◌, map, get_or, sum_by, refl, sym, ap, subst, ◌∙◌, arith}
use Rattle.std.proofs.lemmas.List.Sums.{sum_by-cons}
use Rattle.sg_base.specs.MarkSet.{is_in}
use Rattle.sg_maxmin.specs.Chained.{times}
use Rattle.sg_maxmin.specs.Sharing.{Sharing, uses_at}
use Rattle.sg_maxmin.proofs.Members.{In, In-from_contains, contains_from_In, In-append_left, In-append_right, In-append_cases, In-map, In-map_back, In-flat_map, In-flat_map_back}
use Rattle.sg_maxmin.proofs.Sums.{le-sum_by}
use Rattle.sg_maxmin.specs.Numbered.{flow_in, weight_at}
use Rattle.sg_maxmin.specs.Step.{IsLeast, least_with}
use Rattle.sg_maxmin_solve.specs.Filling.{AreCounted, AreJoined, bound_limit, fixed_at, level_where, limits_at, unfixed_bounds, unfixed_limits, waited_levels, waiting_on, waits_with}
use Rattle.sg_maxmin_solve.proofs.Rows.{into}
use Rattle.sg_maxmin.proofs.Listed.{bool_cases, eq_cases, times_in, times_out}
use Rattle.sg_maxmin.proofs.Users.{in_is, is_in_In, weighs}
use Rattle.sg_maxmin.proofs.Least.{least_push}

-- lists with the same members have the same least one
least_same : (o : Option ℕ) (xs ys : List ℕ) → ((x : ℕ) → In x xs → In x ys) → ((x : ℕ) → In x ys → In x xs) → IsLeast o xs → IsLeast o ys
least_same None xs ys to from e = none ys (λ x i. subst (In x) e (from x i))
  where
    none : (ys : List ℕ) → ((x : ℕ) → In x ys → ⊥) → ys ≡ []
    none [] h = refl
    none (y ∷ ys) h = absurd (h y (inl refl))
least_same (Some l) xs ys to from h = (contains_from_In ys l (to l (In-from_contains xs l h.0)), λ x c. h.1 x (contains_from_In xs x (from x (In-from_contains ys x c))))

some_part : (f : ℕ → ℕ) (xs : List ℕ) → (sum_by f xs ≡ 0 → ⊥) → (x : ℕ) × In x xs × (f x ≡ 0 → ⊥)
some_part f [] h = absurd (h refl)
some_part f (x ∷ xs) h = elim (zero_cases (f x)) [
  | inr p ↦ (x, inl refl, p)
  | inl z ↦ let r = some_part f xs (λ e. h (omega (arith, sum_by-cons f x xs, z, e))) in (r.0, inr r.1, r.2)
]
  where
    zero_cases : (n : ℕ) → (n ≡ 0) ⊎ (n ≡ 0 → ⊥)
    zero_cases n = grind arith

none_cases : (o : Option ℕ) → (is_none o ≡ true) ⊎ (is_none o ≡ false)
none_cases o = bool_cases (is_none o)

module _ (s : Sharing) (fixed : List (Option ℕ)) (touched reached left waiting levels : List ℕ) (joined : AreJoined s touched reached) (counted : AreCounted s fixed touched left waiting (λ c. is_in c reached)) where
  abbrev part : ℕ → ℕ → ℕ
  part c id = times c (uses_at s.slots id) * waits_with (flow_in s.slots id) (fixed_at fixed id)

  -- if something waits an unfixed flow does
  waits_there : (c : ℕ) → is_in c reached ≡ true → (get_or waiting c 0 ≡ 0 → ⊥) → (id : ℕ) × In id touched × (is_none (fixed_at fixed id) ≡ true) × (is_in c (uses_at s.slots id) ≡ true)
  waits_there c r some =
      let p = some_part (part c) touched (λ e. some (counted.waiting_is c r ∙ e)) in
      (p.0, p.1, unfixed p.0 p.2, used p.0 p.2)
    where
      nothing : (n : ℕ) → n * 0 ≡ 0
      nothing n = omega arith

      none_of : (n : ℕ) → 0 * n ≡ 0
      none_of n = omega arith

      unfixed : (id : ℕ) → (part c id ≡ 0 → ⊥) → is_none (fixed_at fixed id) ≡ true
      unfixed id p = elim (none_cases (fixed_at fixed id)) [
        | inl e ↦ e
        | inr e ↦ absurd (p (ap {B = ℕ} (λ b. times c (uses_at s.slots id) * cond b (weight_at s.slots id) 0) e ∙ nothing (times c (uses_at s.slots id))))
      ]

      used : (id : ℕ) → (part c id ≡ 0 → ⊥) → is_in c (uses_at s.slots id) ≡ true
      used id p = elim (bool_cases (is_in c (uses_at s.slots id))) [
        | inl e ↦ e
        | inr e ↦ absurd (p (ap (λ n. n * waits_with (flow_in s.slots id) (fixed_at fixed id)) (times_out c (uses_at s.slots id) e) ∙ none_of (waits_with (flow_in s.slots id) (fixed_at fixed id))))
      ]

  -- if an unfixed flow is, something waits
  pub there_waits : (c id : ℕ) → is_in c reached ≡ true → In id touched → is_none (fixed_at fixed id) ≡ true → is_in c (uses_at s.slots id) ≡ true → get_or waiting c 0 ≡ 0 → ⊥
  there_waits c id r i none used z =
      let w = (weighs s joined.part.sound id).0 in
      let is : part c id ≡ times c (uses_at s.slots id) * weight_at s.slots id = ap {B = ℕ} (λ b. times c (uses_at s.slots id) * cond b (weight_at s.slots id) 0) none in
      no (part c id) (waiting_on s.slots fixed touched c) (times c (uses_at s.slots id)) (weight_at s.slots id) (le-sum_by (part c) touched id i) is (sym (counted.waiting_is c r) ∙ z) (times_in c (uses_at s.slots id) used) w
    where
      no : (p t n w : ℕ) → p ≤ t → p ≡ n * w → t ≡ 0 → 0 < n → 0 < w → ⊥
      no p t n w h e z a b = zero_product n w (omega (arith, h, e, z)) a b
        where
          zero_product : (n w : ℕ) → n * w ≡ 0 → 0 < n → 0 < w → ⊥
          zero_product zero w e a b = omega arith
          zero_product (suc n) w e a b = omega arith

  abbrev levels_there : ℕ → List ℕ
  levels_there c = cond (eqb (get_or waiting c 0) 0) [] (get_or levels c 0 ∷ [])

  abbrev limits_there : ℕ → List ℕ
  limits_there id = cond (is_none (fixed_at fixed id)) (limits_at s.slots levels id) []

  abbrev bounds_there : ℕ → List ℕ
  bounds_there id = cond (is_none (fixed_at fixed id)) (option_to_list (bound_limit s.slots id)) []

  zero_test : (n : ℕ) → (eqb n 0 ≡ true) × (n ≡ 0) ⊎ (eqb n 0 ≡ false) × (n ≡ 0 → ⊥)
  zero_test n = elim (eq_cases n 0) [ inl e ↦ inl (eq-eqb n 0 e, e) | inr ne ↦ inr (ne_eqb n 0 ne, ne) ]

  in_limits : (id x : ℕ) → In id touched → is_none (fixed_at fixed id) ≡ true → In x (limits_at s.slots levels id) → In x (unfixed_limits s.slots fixed levels touched)
  in_limits id x i none k = In-flat_map limits_there touched id x i (subst (λ b. In x (cond b (limits_at s.slots levels id) [])) (sym none) k)

  to : (x : ℕ) → In x (waited_levels waiting levels reached ++ unfixed_bounds s.slots fixed touched) → In x (unfixed_limits s.slots fixed levels touched)
  to x i = elim (In-append_cases (waited_levels waiting levels reached) (unfixed_bounds s.slots fixed touched) x i) [
    | inl k ↦
        let b = In-flat_map_back levels_there reached x k in
        from_level b.0 b.1 b.2
    | inr k ↦
        let b = In-flat_map_back bounds_there touched x k in
        from_bound b.0 b.1 (fixed_at fixed b.0) refl b.2
  ]
    where
      from_level : (c : ℕ) → In c reached → In x (levels_there c) → In x (unfixed_limits s.slots fixed levels touched)
      from_level c r k = elim (zero_test (get_or waiting c 0)) [
        | inl z ↦ absurd (subst (λ b. In x (cond b [] (get_or levels c 0 ∷ []))) z.0 k)
        | inr n ↦
            let w = waits_there c (in_is c reached r) n.1 in
            let here : In x (get_or levels c 0 ∷ []) = subst (λ b. In x (cond b [] (get_or levels c 0 ∷ []))) n.0 k in
            in_limits w.0 x w.1 w.2 (In-append_right (option_to_list (bound_limit s.slots w.0)) (map (λ c. get_or levels c 0) (uses_at s.slots w.0)) x
            (subst (λ y. In y (map (λ c. get_or levels c 0) (uses_at s.slots w.0))) (only here) (In-map (λ c. get_or levels c 0) (uses_at s.slots w.0) c (is_in_In c (uses_at s.slots w.0) w.3))))
      ]
        where
          only : {y : ℕ} → In x (y ∷ []) → y ≡ x
          only (inl e) = e
          only (inr i) = absurd i

      from_bound : (id : ℕ) → In id touched → (o : Option ℕ) → fixed_at fixed id ≡ o → In x (bounds_there id) → In x (unfixed_limits s.slots fixed levels touched)
      from_bound id i (Some l) e k = absurd (subst (λ (o : Option ℕ). In x (cond (is_none o) (option_to_list (bound_limit s.slots id)) [])) e k)
      from_bound id i None e k =
          in_limits id x i (ap is_none e) (In-append_left (option_to_list (bound_limit s.slots id)) (map (λ c. get_or levels c 0) (uses_at s.slots id)) x (subst (λ (o : Option ℕ). In x (cond (is_none o) (option_to_list (bound_limit s.slots id)) [])) e k))

  from : (x : ℕ) → In x (unfixed_limits s.slots fixed levels touched) → In x (waited_levels waiting levels reached ++ unfixed_bounds s.slots fixed touched)
  from x k = let b = In-flat_map_back limits_there touched x k in go b.0 b.1 (fixed_at fixed b.0) refl b.2
    where
      go : (id : ℕ) → In id touched → (o : Option ℕ) → fixed_at fixed id ≡ o → In x (limits_there id) → In x (waited_levels waiting levels reached ++ unfixed_bounds s.slots fixed touched)
      go id i (Some l) e k = absurd (subst (λ (o : Option ℕ). In x (cond (is_none o) (limits_at s.slots levels id) [])) e k)
      go id i None e k = elim (In-append_cases (option_to_list (bound_limit s.slots id)) (map (λ c. get_or levels c 0) (uses_at s.slots id)) x (subst (λ (o : Option ℕ). In x (cond (is_none o) (limits_at s.slots levels id) [])) e k)) [
        | inl h ↦ In-append_right (waited_levels waiting levels reached) (unfixed_bounds s.slots fixed touched) x
            (In-flat_map bounds_there touched id x i (subst (λ (o : Option ℕ). In x (cond (is_none o) (option_to_list (bound_limit s.slots id)) [])) (sym e) h))
        | inr h ↦
            let b = In-map_back (λ c. get_or levels c 0) (uses_at s.slots id) x h in
            let used = in_is b.0 (uses_at s.slots id) b.1 in
            let r = into (uses_at s.slots id) reached b.0 (joined.closed.covers id (in_is id touched i)) used in
            In-append_left (waited_levels waiting levels reached) (unfixed_bounds s.slots fixed touched) x (In-flat_map levels_there reached b.0 x (is_in_In b.0 reached r) (waited b.0 (there_waits b.0 id r i (ap is_none e) used) b.2))
      ]
        where
          waited : (c : ℕ) → (get_or waiting c 0 ≡ 0 → ⊥) → get_or levels c 0 ≡ x → In x (levels_there c)
          waited c some e = elim (zero_test (get_or waiting c 0)) [
            | inl z ↦ absurd (some z.1)
            | inr n ↦ subst (λ b. In x (cond b [] (get_or levels c 0 ∷ []))) (sym n.0) (inl e)
          ]

  pub least_waited : (o : Option ℕ) → IsLeast o (waited_levels waiting levels reached ++ unfixed_bounds s.slots fixed touched) → IsLeast o (unfixed_limits s.slots fixed levels touched)
  least_waited o h = least_same o (waited_levels waiting levels reached ++ unfixed_bounds s.slots fixed touched) (unfixed_limits s.slots fixed levels touched) to from h

-- one more level, if a flow waits
pub level_more : (o : Option ℕ) (waiting level : ℕ) (list : List ℕ) → (waiting ≡ 0 → ⊥) → IsLeast o list → IsLeast (Some (least_with o level)) (list ++ level_where waiting level)
level_more o waiting level list some h = subst (λ b. IsLeast (Some (least_with o level)) (list ++ cond b [] (level ∷ []))) (sym (ne_eqb waiting 0 some)) (least_push o list level h)
