-- Levels at which all flows are held are the max-min levels.
use Rattle.std.proofs.Common.{◌≡◌, ℕ, zero, suc, ◌+◌, ◌-◌, ◌/◌, ◌<◌, ◌≤◌, ◌⊎◌, inl, inr, cond, lt-ltb, le-ltb, is_none, IfSome, Option, None, Some, option_map, List, [], ◌∷◌, length, slice_index, sum_by, refl, sym, ap, ap₂, subst, ◌∙◌, arith, le_trans}
use Rattle.std.proofs.lemmas.List.Sums.{sum_by-cons}
use Rattle.sg_base.specs.MarkSet.{is_in}
use Rattle.sg_maxmin.specs.Chained.{users_on}
use Rattle.sg_maxmin.specs.Fill.{Flow, level_of, bound_level}
use Rattle.sg_maxmin.specs.Fixing.{share_of_fixed, resource_level, flow_limits}
use Rattle.sg_maxmin.specs.Laws.{HaveLimits}
use Rattle.sg_maxmin.specs.Sharing.{Sharing, IsSound, flow_at, held, uses_at}
use Rattle.sg_maxmin.proofs.Members.{In, In-from_contains}
use Rattle.sg_maxmin.proofs.Sums.{sum_by_same, le-sum_by}
use Rattle.sg_maxmin.proofs.Held.{held_in}
use Rattle.sg_maxmin.proofs.OneStep.{limit_cases, limit_bound, limit_level}
use Rattle.sg_maxmin.proofs.Leveled.{below as below_share, below_yes, below_no, IsLeveled, share_of_leveled}
use Rattle.sg_maxmin.proofs.Proved.{limited_from}
use Rattle.sg_maxmin.specs.Numbered.{below_at, flow_in, level_at, row_level, row_taken, row_waiting, weight_at, when_below}
use Rattle.sg_maxmin.specs.Held.{AreHeld, HeldIsFilling, IsAtMost, IsCause, IsUnder, by_bound, by_resource}
use Rattle.sg_maxmin.proofs.Listed.{at_in, none_some, same_in, some_same}
use Rattle.sg_maxmin.proofs.Users.{on_held, in_is, is_in_In, uses_held, flow_in_is, weighs}
use Rattle.sg_maxmin.proofs.OnRow.{row_tells_lem}

-- ---- which flows are fixed
yes_below : (o : Option ℕ) (t x : ℕ) → o ≡ Some x → x < t → when_below o t ≡ Some x
unfolding when_below
yes_below None t x e h = absurd (none_some e)
yes_below (Some y) t x e h = let q : y ≡ x = some_same y x e in rw (lt-ltb y t (omega (arith, q, h))) e

no_below : (o : Option ℕ) (t x : ℕ) → o ≡ Some x → t ≤ x → when_below o t ≡ None
unfolding when_below
no_below None t x e h = refl
no_below (Some y) t x e h = let q : y ≡ x = some_same y x e in rw (le-ltb y t (omega (arith, q, h))) refl

pub at_yes : (levels : List (Option ℕ)) (t id x : ℕ) → level_at levels id ≡ Some x → x < t → below_at levels t id ≡ Some x
at_yes levels t id x e h = yes_below (level_at levels id) t x e h

pub at_no : (levels : List (Option ℕ)) (t id x : ℕ) → level_at levels id ≡ Some x → t ≤ x → below_at levels t id ≡ None
at_no levels t id x e h = no_below (level_at levels id) t x e h

-- ---- a row sees its flows alone
pub taken_same : (slots : List (Option Flow)) (a b : ℕ → Option ℕ) (row : List ℕ) → ((id : ℕ) → In id row → a id ≡ b id) → row_taken slots a row ≡ row_taken slots b row
unfolding row_taken
taken_same slots a b row h = sum_by_same _ _ row (λ id i. ap (share_of_fixed (flow_in slots id)) (h id i))

pub waiting_same : (slots : List (Option Flow)) (a b : ℕ → Option ℕ) (row : List ℕ) → ((id : ℕ) → In id row → a id ≡ b id) → row_waiting slots a row ≡ row_waiting slots b row
unfolding row_waiting
waiting_same slots a b row h = sum_by_same _ _ row (λ id i. ap (λ o. cond (is_none o) (weight_at slots id) 0) (h id i))

pub row_same : (capacity : ℕ) (slots : List (Option Flow)) (a b : ℕ → Option ℕ) (row : List ℕ) → ((id : ℕ) → In id row → a id ≡ b id) → row_level capacity slots a row ≡ row_level capacity slots b row
unfolding row_level
row_same capacity slots a b row h = ap₂ (λ t w. (capacity - t) / w) (taken_same slots a b row h) (waiting_same slots a b row h)

-- a flow that waits counts
pub waiting_some : (slots : List (Option Flow)) (fixed : ℕ → Option ℕ) (row : List ℕ) (id : ℕ) → In id row → 0 < weight_at slots id → fixed id ≡ None → 0 < row_waiting slots fixed row
unfolding row_waiting
waiting_some slots fixed row id i pos e =
    let one : 1 ≤ cond (is_none (fixed id)) (weight_at slots id) 0 = rw e (omega (arith, pos)) in
    le_trans one (le-sum_by (λ id. cond (is_none (fixed id)) (weight_at slots id) 0) row id i)

sum_some : (h : ℕ → ℕ) (row : List ℕ) → 0 < sum_by h row → (id : ℕ) × In id row × (0 < h id)
sum_some h [] pos = absurd (omega (arith, pos))
sum_some h (y ∷ row) pos = cases (h y) refl (sum_some h row)
  where
    cases : (n : ℕ) → h y ≡ n → (0 < sum_by h row → (id : ℕ) × In id row × (0 < h id)) → (id : ℕ) × In id (y ∷ row) × (0 < h id)
    cases zero e more = let r = more (omega (arith, sum_by-cons h y row, e, pos)) in (r.0, inr r.1, r.2)
    cases (suc n) e more = (y, inl refl, omega (arith, e))

none_waits : (o : Option ℕ) (w : ℕ) → 0 < cond (is_none o) w 0 → o ≡ None
none_waits None w pos = refl
none_waits (Some x) w pos = absurd (omega (arith, pos))

-- if a weight waits, a flow does
pub waits_one : (slots : List (Option Flow)) (fixed : ℕ → Option ℕ) (row : List ℕ) → 0 < row_waiting slots fixed row → (id : ℕ) × In id row × (fixed id ≡ None)
unfolding row_waiting
waits_one slots fixed row pos = let r = sum_some (λ id. cond (is_none (fixed id)) (weight_at slots id) 0) row pos in (r.0, r.1, none_waits (fixed r.0) (weight_at slots r.0) r.2)

-- ---- what is held
pub held_back : (slots : List (Option Flow)) (f : Flow) → In f (held slots) → (id : ℕ) × (flow_at slots id ≡ Some f)
held_back [] f i = absurd i
held_back (None ∷ slots) f i = let r = held_back slots f i in (suc r.0, r.1)
held_back (Some g ∷ slots) f (inl e) = (0, ap (λ x. Some x) e)
held_back (Some g ∷ slots) f (inr i) = let r = held_back slots f i in (suc r.0, r.1)

pub held_limits : (s : Sharing) → IsSound s → HaveLimits (held s.slots)
held_limits s sound f there = let r = held_back s.slots f (In-from_contains (held s.slots) f there) in (sound.flows r.0 f r.1).limit

pub three : (a b : ℕ) → (a < b) ⊎ ((a ≡ b) ⊎ (b < a))
three a b = grind arith

bound_cases : (o : Option ℕ) (g : ℕ → ℕ) (x : ℕ) → option_map g o ≡ Some x → (b : ℕ) × (o ≡ Some b) × (g b ≡ x)
bound_cases None g x e = absurd (none_some e)
bound_cases (Some b) g x e = (b, refl, some_same (g b) x e)

under_from : (hold : Option ℕ) (t x : ℕ) → IsAtMost (Some x) hold → t < x → IsUnder t hold
under_from None t x most h = tt
under_from (Some y) t x most h = omega (arith, most, h)

pub users_of : (s : Sharing) → IsSound s → (id c : ℕ) (flow : Flow) → flow_at s.slots id ≡ Some flow → In c flow.uses → In id (users_on s.users c)
users_of s sound id c flow e i = is_in_In id (users_on s.users c) (same_in c id (uses_at s.slots id) (users_on s.users c) (sym (sound.both id c)) (ap (is_in c) (uses_held s.slots id flow e) ∙ in_is c flow.uses i))

pub exists_of : (s : Sharing) → IsSound s → (id c : ℕ) (flow : Flow) → flow_at s.slots id ≡ Some flow → In c flow.uses → c < length s.capacities
exists_of s sound id c flow e i =
    let at = at_in c flow.uses (in_is c flow.uses i) in
    subst (λ n. n < length s.capacities) at.2 ((sound.flows id flow e).exist at.0 0 at.1)

module _ (s : Sharing) (levels : List (Option ℕ)) (holds : ℕ → Option ℕ) (sound : IsSound s) (are : AreHeld s levels holds) where
  abbrev flows : List Flow
  flows = held s.slots

  abbrev filled : Flow → ℕ
  filled = level_of s.capacities (held s.slots)

  leveled : IsLeveled s.capacities (held s.slots) (level_of s.capacities (held s.slots))
  leveled = share_of_leveled s.capacities (held s.slots) (limited_from s.capacities (held s.slots) (held_limits s sound))

  abbrev Agree : ℕ → Type 0
  Agree t = (id : ℕ) (flow : Flow) → flow_at s.slots id ≡ Some flow → below_at levels t id ≡ below_share t (level_of s.capacities (held s.slots)) flow

  -- if the levels agree below t, so do the levels of the resources
  seen : (t c : ℕ) → Agree t → resource_level s.capacities (held s.slots) (below_share t (level_of s.capacities (held s.slots))) c ≡ row_level (slice_index s.capacities c) s.slots (below_at levels t) (users_on s.users c)
  seen t c agree =
      row_tells_lem s (below_share t (level_of s.capacities (held s.slots))) c sound
      ∙ row_same (slice_index s.capacities c) s.slots (λ id. below_share t (level_of s.capacities (held s.slots)) (flow_in s.slots id)) (below_at levels t) (users_on s.users c)
      (λ id i.
      let f = on_held s sound c id (in_is id (users_on s.users c) i) in
      ap (below_share t (level_of s.capacities (held s.slots))) (flow_in_is s.slots id f.0 f.1) ∙ sym (agree id f.0 f.1))

  -- the max-min level isn't lower
  not_lower : (t id x : ℕ) (flow : Flow) → Agree t → flow_at s.slots id ≡ Some flow → level_at levels id ≡ Some x → level_of s.capacities (held s.slots) flow ≡ t → t < x → ⊥
  not_lower t id x flow agree e is filled_is over =
      let i = held_in s.slots id flow e in
      let at = subst (λ w. In w (flow_limits s.capacities (held s.slots) (below_share w (level_of s.capacities (held s.slots))) flow)) filled_is (leveled.met flow i) in
      elim (limit_cases s.capacities (held s.slots) (below_share t (level_of s.capacities (held s.slots))) flow t at) [
        | inl b ↦
            let within : IsAtMost (Some x) (Some (bound_level flow.weight b.0)) = subst (λ o. IsAtMost (Some x) (option_map (bound_level flow.weight) o)) b.1 (subst (λ o. IsAtMost o (option_map (bound_level flow.weight) flow.bound)) is (are.within id flow e)) in
            omega (arith, within, b.2, over)
        | inr r ↦
            let c = r.0 in
            let most = subst (λ o. IsAtMost o (holds c)) is (are.under id c flow e (in_is c flow.uses r.1)) in
            let waits = waiting_some s.slots (below_at levels t) (users_on s.users c) id (users_of s sound id c flow e r.1) (weighs s sound id).0 (at_no levels t id x is (omega (arith, over))) in
            let above = (are.resources c (exists_of s sound id c flow e r.1)).above t (under_from (holds c) t x most over) waits in
            omega (arith, above, seen t c agree, r.2)
      ]

  -- nor higher
  not_higher : (t id : ℕ) (flow : Flow) → Agree t → flow_at s.slots id ≡ Some flow → IsCause holds flow t → t < level_of s.capacities (held s.slots) flow → ⊥
  not_higher t id flow agree e (by_bound is) over =
      let b = bound_cases flow.bound (bound_level flow.weight) t is in
      omega (arith, b.2, leveled.above flow (held_in s.slots id flow e) t over (bound_level flow.weight b.0) (limit_bound s.capacities (held s.slots) (below_share t (level_of s.capacities (held s.slots))) flow b.0 b.1))
  not_higher t id flow agree e (by_resource c used is) over =
      let i = is_in_In c flow.uses used in
      let met = subst (λ o. IfSome o (λ x. (0 < row_waiting s.slots (below_at levels x) (users_on s.users c)) × (row_level (slice_index s.capacities c) s.slots (below_at levels x) (users_on s.users c) ≡ x))) is (are.resources c (exists_of s sound id c flow e i)).met in
      let a = below_share t (level_of s.capacities (held s.slots)) in
      omega (arith, met.1, seen t c agree, leveled.above flow (held_in s.slots id flow e) t over (resource_level s.capacities (held s.slots) a c) (limit_level s.capacities (held s.slots) a flow c i))

  agree_at : (t : ℕ) → Agree t
  agree_at zero id flow e = let k = are.cause id flow e in at_no levels 0 id k.0 k.1 (omega arith) ∙ sym (below_no 0 (level_of s.capacities (held s.slots)) flow (omega arith))
  agree_at (suc t) id flow e =
      let same = agree_at t in
      let k = are.cause id flow e in
      let x = k.0 in
      let q = level_of s.capacities (held s.slots) in
      elim (three x t) [
        | inl less ↦ elim (three (q flow) t) [
          | inl less' ↦ at_yes levels (suc t) id x k.1 (omega (arith, less)) ∙ sym (at_yes levels t id x k.1 less) ∙ same id flow e ∙ below_yes t q flow less' ∙ sym (below_yes (suc t) q flow (omega (arith, less')))
          | inr more ↦
              let no' : t ≤ q flow = elim more [ inl e ↦ omega (arith, e) | inr h ↦ omega (arith, h) ] in
              cc (sym (at_yes levels t id x k.1 less) ∙ same id flow e ∙ below_no t q flow no')
        ]
        | inr more ↦
            let no' : t ≤ x = elim more [ inl e ↦ omega (arith, e) | inr h ↦ omega (arith, h) ] in
            elim (three (q flow) t) [
              | inl less' ↦ cc (sym (at_no levels t id x k.1 no') ∙ same id flow e ∙ below_yes t q flow less')
              | inr more' ↦
                  elim more [
                    | inl d ↦ elim more' [
                      | inl d' ↦ at_yes levels (suc t) id x k.1 (omega (arith, d)) ∙ ap (λ w. Some w) (d ∙ sym d') ∙ sym (below_yes (suc t) q flow (omega (arith, d')))
                      | inr over ↦ absurd (not_higher t id flow same e (subst (IsCause holds flow) d k.2) over)
                    ]
                    | inr over ↦ elim more' [
                      | inl d' ↦ absurd (not_lower t id x flow same e k.1 d' over)
                      | inr over' ↦ at_no levels (suc t) id x k.1 (omega (arith, over)) ∙ sym (below_no (suc t) q flow (omega (arith, over')))
                    ]
                  ]
            ]
      ]

  pub held_level : (id : ℕ) (flow : Flow) → flow_at s.slots id ≡ Some flow → level_at levels id ≡ Some (level_of s.capacities (held s.slots) flow)
  held_level id flow e =
      let k = are.cause id flow e in
      let q = level_of s.capacities (held s.slots) in
      let t = k.0 + q flow + 1 in
      k.1 ∙ sym (at_yes levels t id k.0 k.1 (omega arith)) ∙ agree_at t id flow e ∙ below_yes t q flow (omega arith)

pub held_is_filling_lem : HeldIsFilling
held_is_filling_lem s levels holds sound are id flow e = held_level s levels holds sound are id flow e
