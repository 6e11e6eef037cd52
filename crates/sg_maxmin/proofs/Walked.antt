-- A walk along a chain of uses.
use Rattle.std.proofs.Common.{◌≡◌, ℕ, zero, suc, ◌<◌, ◌≤◌, Option, None, Some, IsSome, List, [], ◌∷◌, length, length-drop, get_or, drop, refl, sym, ap, subst, ◌∙◌, arith}
use Rattle.sg_maxmin.specs.declared.uses.Use.{Use}
use Rattle.sg_maxmin.specs.Walk.{Leads, next_in, left_from}

-- how far it is to the end
pub left_is : (n : ℕ) (next : Use → Option ℕ) (value : Use → ℕ) (uses : List (Option Use)) (at : Option ℕ) (list : List ℕ) → Leads next value uses at list → length list ≤ n → left_from n next uses at ≡ length list
unfolding Leads left_from
left_is zero next value uses at [] h few = refl
left_is zero next value uses at (c ∷ cs) h few = absurd (omega (arith, few))
left_is (suc n) next value uses at [] h few = ap (left_from (suc n) next uses) h
left_is (suc n) next value uses at (c ∷ cs) h few =
    let rest : Leads next value uses (next_in next (get_or uses h.0 None)) cs = subst (λ o. Leads next value uses (next_in next o) cs) (sym h.3) h.5 in
    ap (left_from (suc n) next uses) h.2 ∙ ap suc (left_is n next value uses (next_in next (get_or uses h.0 None)) cs rest (omega (arith, few)))

-- what stands at the end of a walk, and one step before
pub record Goes (next : Use → Option ℕ) (value : Use → ℕ) (uses : List (Option Use)) (row : List ℕ) (k i : ℕ) (u : Use) : Type 0 where
  pub less : k < length row
  pub there : get_or uses i None ≡ Some u
  pub is : value u ≡ get_or row k 0
  pub leads : Leads next value uses (next u) (drop (suc k) row)

some_same : {X : Type 0} (a b : X) → Some a ≡ Some b → a ≡ b
some_same a b h = cc h

none_some : {X : Type 0} {x : X} → None ≡ Some x → ⊥
none_some e = cc

pub goes : (next : Use → Option ℕ) (value : Use → ℕ) (uses : List (Option Use)) (row : List ℕ) (k i : ℕ) (at : Option ℕ) → at ≡ Some i → Leads next value uses at (drop k row) → (u : Use) × Goes next value uses row k i u
unfolding Leads
goes next value uses [] zero i at e h = absurd (none_some (sym h ∙ e))
goes next value uses [] (suc k) i at e h = absurd (none_some (sym h ∙ e))
goes next value uses (c ∷ row) zero i at e h = (h.1, record { less = omega arith; there = ap (λ j. get_or uses j None) (some_same i h.0 (sym e ∙ h.2)) ∙ h.3; is = h.4; leads = h.5 })
goes next value uses (c ∷ row) (suc k) i at e h =
    let r = goes next value uses row k i at e h in
    (r.0, record { less = omega (arith, r.1.less); there = r.1.there; is = r.1.is; leads = r.1.leads })

pub over : (next : Use → Option ℕ) (value : Use → ℕ) (uses : List (Option Use)) (row : List ℕ) (k : ℕ) (at : Option ℕ) → at ≡ None → Leads next value uses at (drop k row) → length row ≤ k
unfolding Leads
over next value uses [] k at e h = omega arith
over next value uses (c ∷ row) zero at e h = absurd (none_some (sym e ∙ h.2))
over next value uses (c ∷ row) (suc k) at e h = omega (arith, over next value uses row k at e h)

-- the same of the use that was visited
pub goes_at : (next : Use → Option ℕ) (value : Use → ℕ) (uses : List (Option Use)) (row : List ℕ) (k i : ℕ) (at : Option ℕ) (u : Use) → at ≡ Some i → Leads next value uses at (drop k row) → get_or uses i None ≡ Some u → Goes next value uses row k i u
goes_at next value uses row k i at u e h is = let r = goes next value uses row k i at e h in subst (Goes next value uses row k i) (some_same r.0 u (sym r.1.there ∙ is)) r.1

pub none_of : (o : Option ℕ) → ((i : ℕ) → o ≡ Some i → ⊥) → o ≡ None
none_of None h = refl
none_of (Some i) h = absurd (h i refl)

pub smaller : (next : Use → Option ℕ) (value : Use → ℕ) (uses : List (Option Use)) (row : List ℕ) (k i : ℕ) (at : Option ℕ) (u : Use) → at ≡ Some i → Leads next value uses at (drop k row) → length row ≤ length uses → get_or uses i None ≡ Some u → left_from (length uses) next uses (next u) < left_from (length uses) next uses at
smaller next value uses row k i at u e h fits is =
    let g = goes_at next value uses row k i at u e h is in
    omega (arith, left_is (length uses) next value uses (next u) (drop (suc k) row) g.leads (omega (arith, fits, length-drop (suc k) row)), left_is (length uses) next value uses at (drop k row) h (omega (arith, fits, length-drop k row)), length-drop (suc k) row, length-drop k row, g.less)

-- a walk along a row, of which so many are after
pub record IsWalk (next : Use → Option ℕ) (value : Use → ℕ) (uses : List (Option Use)) (row : List ℕ) (k : ℕ) (at : Option ℕ) : Type 0 where
  pub leads : Leads next value uses at (drop k row)
  pub within : k ≤ length row
  pub fits : length row ≤ length uses

pub walk_from : (next : Use → Option ℕ) (value : Use → ℕ) (uses : List (Option Use)) (row : List ℕ) (at : Option ℕ) → Leads next value uses at row → length row ≤ length uses → IsWalk next value uses row 0 at
walk_from next value uses row at leads few = record { leads = leads; within = omega arith; fits = few }

module _ (next : Use → Option ℕ) (value : Use → ℕ) (uses : List (Option Use)) (row : List ℕ) (k : ℕ) (at : Option ℕ) (walk : IsWalk next value uses row k at) where
  pub can_look : (i : ℕ) → at ≡ Some i → IsSome (get_or uses i None)
  can_look i e = let r = goes next value uses row k i at e walk.leads in subst IsSome (sym r.1.there) refl

  pub looked : (i : ℕ) (u : Use) → at ≡ Some i → get_or uses i None ≡ Some u → Goes next value uses row k i u
  looked i u e is = goes_at next value uses row k i at u e walk.leads is

  pub walk_on : (i : ℕ) (u : Use) → at ≡ Some i → get_or uses i None ≡ Some u → IsWalk next value uses row (suc k) (next u)
  walk_on i u e is = let r = looked i u e is in record { leads = r.leads; within = omega (arith, r.less); fits = walk.fits }

  pub nearer : (i : ℕ) (u : Use) → at ≡ Some i → get_or uses i None ≡ Some u → left_from (length uses) next uses (next u) < left_from (length uses) next uses at
  nearer i u e is = smaller next value uses row k i at u e walk.leads walk.fits is

  pub walked : ((i : ℕ) → at ≡ Some i → ⊥) → k ≡ length row
  walked none = omega (arith, over next value uses row k at (none_of at none) walk.leads, walk.within)
