-- A level that no bound of an unfixed flow is below.
use Rattle.std.proofs.Common.{◌≡◌, ℕ, ◌≤◌, inl, inr, cond, is_none, Option, None, Some, option_to_list, List, [], ◌∷◌, ◌++◌, Contains, refl, sym, subst, arith}
use Rattle.std.proofs.lemmas.List.Elements.{Contains-append_left, Contains-append_cases}
use Rattle.sg_base.specs.MarkSet.{is_in}
use Rattle.sg_maxmin.specs.Sharing.{Sharing}
use Rattle.sg_maxmin.proofs.Members.{In, In-from_contains, contains_from_In, In-flat_map, In-flat_map_back}
use Rattle.sg_maxmin_solve.specs.declared.filling.Filling.{Filling}
use Rattle.sg_maxmin_solve.specs.declared.limits.Low.{Low}
use Rattle.sg_maxmin.specs.Step.{IsLeast}
use Rattle.sg_maxmin_solve.specs.Filling.{AreCounted, AreJoined, IsFloor, IsLow, IsOver, StepsPartly, bound_limit, fixed_at, limits_at, unfixed_bounds, unfixed_limits, waited_levels}
use Rattle.sg_maxmin_solve.proofs.Fixing.{was_none}
use Rattle.sg_maxmin_solve.proofs.Waited.{least_waited}

nothing : (ys : List ℕ) → ((x : ℕ) → In x ys → ⊥) → ys ≡ []
nothing [] h = refl
nothing (y ∷ ys) h = absurd (h y (inl refl))

pub floor_least : (o : Option ℕ) (xs : List ℕ) → IsLeast o xs → IsFloor o xs
floor_least None xs e = e
floor_least (Some least) xs h = h.1

pub floor_zero : (xs : List ℕ) → IsFloor (Some 0) xs
floor_zero xs = λ x i. omega arith

floor_within : (o : Option ℕ) (xs ys : List ℕ) → ((x : ℕ) → In x ys → In x xs) → IsFloor o xs → IsFloor o ys
floor_within None xs ys from e = nothing ys (λ x i. subst (In x) e (from x i))
floor_within (Some floor) xs ys from h = λ x i. h x (contains_from_In xs x (from x (In-from_contains ys x i)))

-- it stays one if no more flows are unfixed
pub floor_fewer : (o : Option ℕ) (s : Sharing) (old new : List (Option ℕ)) (touched : List ℕ) → ((id : ℕ) → In id touched → fixed_at new id ≡ None → fixed_at old id ≡ None) → IsFloor o (unfixed_bounds s.slots old touched) → IsFloor o (unfixed_bounds s.slots new touched)
floor_fewer o s old new touched was = floor_within o (unfixed_bounds s.slots old touched) (unfixed_bounds s.slots new touched) from
  where
    go : (x id : ℕ) → In id touched → (o : Option ℕ) → fixed_at new id ≡ o → In x (cond (is_none o) (option_to_list (bound_limit s.slots id)) []) → In x (unfixed_bounds s.slots old touched)
    go x id i (Some level) e k = absurd k
    go x id i None e k =
        In-flat_map (λ id. cond (is_none (fixed_at old id)) (option_to_list (bound_limit s.slots id)) []) touched id x i (subst (λ (o : Option ℕ). In x (cond (is_none o) (option_to_list (bound_limit s.slots id)) [])) (sym (was id i e)) k)

    from : (x : ℕ) → In x (unfixed_bounds s.slots new touched) → In x (unfixed_bounds s.slots old touched)
    from x k =
        let b = In-flat_map_back (λ id. cond (is_none (fixed_at new id)) (option_to_list (bound_limit s.slots id)) []) touched x k in
        go x b.0 b.1 (fixed_at new b.0) refl b.2

pub floor_partly : (o : Option ℕ) (s : Sharing) (low : ℕ) (a b : Filling) (touched : List ℕ) → StepsPartly s low a b → IsFloor o (unfixed_bounds s.slots a.fixed.items touched) → IsFloor o (unfixed_bounds s.slots b.fixed.items touched)
floor_partly o s low a b touched p =
    floor_fewer o s a.fixed.items b.fixed.items touched (λ id i e. was_none low (IsLeast (Some low) (limits_at s.slots a.levels.items id)) (fixed_at a.fixed.items id) (fixed_at b.fixed.items id) (p.flows id) e)

-- above the level no bound is at it
pub over_bound : (s : Sharing) (fixed : List (Option ℕ)) (touched : List ℕ) (floor : Option ℕ) (low : ℕ) → IsFloor floor (unfixed_bounds s.slots fixed touched) → IsOver floor low → (id : ℕ) → In id touched → fixed_at fixed id ≡ None → bound_limit s.slots id ≡ Some low → ⊥
over_bound s fixed touched floor low h over id i none at = no floor h over
  where
    there : In low (unfixed_bounds s.slots fixed touched)
    there =
        In-flat_map (λ id. cond (is_none (fixed_at fixed id)) (option_to_list (bound_limit s.slots id)) []) touched id low i
        (subst (λ (o : Option ℕ). In low (cond (is_none o) (option_to_list (bound_limit s.slots id)) [])) (sym none) (subst (λ (o : Option ℕ). In low (option_to_list o)) (sym at) (inl refl)))

    no : (floor : Option ℕ) → IsFloor floor (unfixed_bounds s.slots fixed touched) → IsOver floor low → ⊥
    no None e o = subst (In low) e there
    no (Some f) k o = absurd (omega (arith, k low (contains_from_In (unfixed_bounds s.slots fixed touched) low there), o))

-- a level below all bounds is the least of both
pub over_least : (level : ℕ) (floor : Option ℕ) (xs ys : List ℕ) → IsLeast (Some level) xs → IsFloor floor ys → IsOver floor level → IsLeast (Some level) (xs ++ ys)
over_least level floor xs ys h k o = (
  Contains-append_left xs ys level h.0,
  λ x i. elim (Contains-append_cases xs ys x i) [ inl j ↦ h.1 x j | inr j ↦ above floor k o x j ],
)
  where
    above : (floor : Option ℕ) → IsFloor floor ys → IsOver floor level → (x : ℕ) → Contains ys x → level ≤ x
    above None e o x j = absurd (subst (In x) e (In-from_contains ys x j))
    above (Some f) k o x j = omega (arith, k x j, o)

-- what limits the unfixed flows are the levels where a flow waits, and the bounds
pub low_waited : (s : Sharing) (fixed : List (Option ℕ)) (touched reached left waiting levels : List ℕ) → AreJoined s touched reached → AreCounted s fixed touched left waiting (λ c. is_in c reached) → (o : Option Low) →
    IsLow o (waited_levels waiting levels reached ++ unfixed_bounds s.slots fixed touched) (unfixed_bounds s.slots fixed touched) → IsLow o (unfixed_limits s.slots fixed levels touched) (unfixed_bounds s.slots fixed touched)
low_waited s fixed touched reached left waiting levels joined counted None h = least_waited s fixed touched reached left waiting levels joined counted None h
low_waited s fixed touched reached left waiting levels joined counted (Some low) h = (least_waited s fixed touched reached left waiting levels joined counted (Some low.level) h.0, h.1)
