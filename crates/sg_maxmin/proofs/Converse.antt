-- The max-min levels are those at which all flows are held.
use Rattle.std.proofs.Common.{◌≡◌, ℕ, ◌<◌, ◌≤◌, inl, inr, true, IfSome, Option, None, Some, option_map, List, length, slice_index, refl, sym, ap, subst, ◌∙◌, arith}
use Rattle.sg_base.specs.MarkSet.{is_in}
use Rattle.sg_maxmin.specs.Chained.{users_on}
use Rattle.sg_maxmin.specs.Fill.{Flow, level_of, bound_level}
use Rattle.sg_maxmin.specs.Fixing.{resource_level}
use Rattle.sg_maxmin.specs.Sharing.{Sharing, IsSound, flow_at, held}
use Rattle.sg_maxmin.proofs.Members.{In}
use Rattle.sg_maxmin.proofs.Held.{held_in, is_held_lem}
use Rattle.sg_maxmin.proofs.OneStep.{limit_cases, limit_level}
use Rattle.sg_maxmin.proofs.Leveled.{below as below_share, below_yes, below_no, IsLeveled, share_of_leveled}
use Rattle.sg_maxmin.proofs.Proved.{limited_from}
use Rattle.sg_maxmin.specs.Numbered.{below_at, flow_in, level_at, row_level, row_waiting}
use Rattle.sg_maxmin.specs.Held.{AreHeld, FillingIsHeld, IsAtMost, IsCause, IsHold, by_bound, by_resource, FullHolds, OthersHoldNone}
use Rattle.sg_maxmin.proofs.Listed.{lt_cases, none_some, some_same}
use Rattle.sg_maxmin.proofs.Users.{on_held, in_is, is_in_In, flow_in_is, weighs}
use Rattle.sg_maxmin.proofs.Balance.{filling_balances_lem, on_uses, same_below}
use Rattle.sg_maxmin.proofs.OnRow.{row_tells_lem}
use Rattle.sg_maxmin.proofs.HeldLevels.{three, waits_one, at_yes, at_no, row_same, waiting_some, held_limits, users_of, exists_of}

module _ (s : Sharing) (levels : List (Option ℕ)) (sound : IsSound s) (are : (id : ℕ) (flow : Flow) → flow_at s.slots id ≡ Some flow → level_at levels id ≡ Some (level_of s.capacities (held s.slots) flow)) where
  pub leveled : IsLeveled s.capacities (held s.slots) (level_of s.capacities (held s.slots))
  leveled = share_of_leveled s.capacities (held s.slots) (limited_from s.capacities (held s.slots) (held_limits s sound))

  pub agree : (t id : ℕ) (flow : Flow) → flow_at s.slots id ≡ Some flow → below_at levels t id ≡ below_share t (level_of s.capacities (held s.slots)) flow
  agree t id flow e =
      let q = level_of s.capacities (held s.slots) in
      elim (lt_cases (q flow) t) [
        | inl less ↦ at_yes levels t id (q flow) (are id flow e) less ∙ sym (below_yes t q flow less)
        | inr more ↦ at_no levels t id (q flow) (are id flow e) more ∙ sym (below_no t q flow more)
      ]

  pub seen : (t c : ℕ) → resource_level s.capacities (held s.slots) (below_share t (level_of s.capacities (held s.slots))) c ≡ row_level (slice_index s.capacities c) s.slots (below_at levels t) (users_on s.users c)
  seen t c =
      let q = level_of s.capacities (held s.slots) in
      row_tells_lem s (below_share t q) c sound
      ∙ row_same (slice_index s.capacities c) s.slots (λ id. below_share t q (flow_in s.slots id)) (below_at levels t) (users_on s.users c)
      (λ id i.
      let f = on_held s sound c id (in_is id (users_on s.users c) i) in
      ap (below_share t q) (flow_in_is s.slots id f.0 f.1) ∙ sym (agree t id f.0 f.1))

  -- a resource is above each level that one of its users exceeds
  over : (t id c : ℕ) → is_in id (users_on s.users c) ≡ true → (x : ℕ) → level_at levels id ≡ Some x → t < x → t < row_level (slice_index s.capacities c) s.slots (below_at levels t) (users_on s.users c)
  over t id c i x e under =
      let q = level_of s.capacities (held s.slots) in
      let f = on_held s sound c id i in
      let is : x ≡ q f.0 = some_same x (q f.0) (sym e ∙ are id f.0 f.1) in
      let a = below_share t q in
      omega (arith, seen t c, leveled.above f.0 (held_in s.slots id f.0 f.1) t (omega (arith, under, is)) (resource_level s.capacities (held s.slots) a c) (limit_level s.capacities (held s.slots) a f.0 c (on_uses c f.0 f.2)))

  -- and no lower than its users
  no_lower : (id c : ℕ) → is_in id (users_on s.users c) ≡ true → (x : ℕ) → level_at levels id ≡ Some x → x ≤ row_level (slice_index s.capacities c) s.slots (below_at levels x) (users_on s.users c)
  no_lower id c i x e =
      let q = level_of s.capacities (held s.slots) in
      let f = on_held s sound c id i in
      let is : q f.0 ≡ x = some_same (q f.0) x (sym (are id f.0 f.1) ∙ e) in
      let holds = (filling_balances_lem s.capacities (held s.slots) (held_limits s sound)).holds f.0 c (is_held_lem s.slots id f.0 f.1) f.2 in
      omega (arith, seen x c, subst (λ y. y ≤ resource_level s.capacities (held s.slots) (below_share y q) c) is (subst (λ a. q f.0 ≤ resource_level s.capacities (held s.slots) a c) (sym (same_below q (q f.0))) holds))

  pub full_holds : (id c x : ℕ) → is_in id (users_on s.users c) ≡ true → level_at levels id ≡ Some x → row_level (slice_index s.capacities c) s.slots (below_at levels x) (users_on s.users c) ≡ x → IsHold (slice_index s.capacities c) s.slots levels (users_on s.users c) (Some x)
  full_holds id c x i e full = record {
    above = λ t u w. over t id c i x e u;
    met = (waiting_some s.slots (below_at levels x) (users_on s.users c) id (is_in_In id (users_on s.users c) i) (weighs s sound id).0 (at_no levels x id x e (omega arith)), full);
  }

  pub other_holds : (c : ℕ) → ((id x : ℕ) → is_in id (users_on s.users c) ≡ true → level_at levels id ≡ Some x → row_level (slice_index s.capacities c) s.slots (below_at levels x) (users_on s.users c) ≡ x → ⊥) → IsHold (slice_index s.capacities c) s.slots levels (users_on s.users c) None
  other_holds c none = record {
    above = λ t u w.
        let k = waits_one s.slots (below_at levels t) (users_on s.users c) w in
        let i = in_is k.0 (users_on s.users c) k.1 in
        let f = on_held s sound c k.0 i in
        let x = level_of s.capacities (held s.slots) f.0 in
        let e = are k.0 f.0 f.1 in
        elim (three t x) [
          | inl less ↦ over t k.0 c i x e less
          | inr (inl same) ↦ omega (
            arith,
            subst (λ y. y ≤ row_level (slice_index s.capacities c) s.slots (below_at levels y) (users_on s.users c)) (sym same) (no_lower k.0 c i x e),
            (let ne : (row_level (slice_index s.capacities c) s.slots (below_at levels t) (users_on s.users c) ≡ t) → ⊥ = λ z. none k.0 t i (e ∙ ap (λ y. Some y) (sym same)) z in ne),
          )
          | inr (inr more) ↦ absurd (none_some (sym k.2 ∙ at_yes levels t k.0 x e more))
        ];
    met = tt;
  }

module _ (s : Sharing) (levels : List (Option ℕ)) (holds : ℕ → Option ℕ) (sound : IsSound s) (are : (id : ℕ) (flow : Flow) → flow_at s.slots id ≡ Some flow → level_at levels id ≡ Some (level_of s.capacities (held s.slots) flow))
    (holds_are : (c : ℕ) → c < length s.capacities → IsHold (slice_index s.capacities c) s.slots levels (users_on s.users c) (holds c)) where
  abbrev filled : Flow → ℕ
  filled = level_of s.capacities (held s.slots)

  most : (id c : ℕ) (flow : Flow) → flow_at s.slots id ≡ Some flow → In c flow.uses → (hold : Option ℕ) → holds c ≡ hold → IsAtMost (Some (level_of s.capacities (held s.slots) flow)) hold
  most id c flow e i None is = tt
  most id c flow e i (Some h) is =
      let q = level_of s.capacities (held s.slots) in
      elim (lt_cases h (q flow)) [
        | inr ok ↦ ok
        | inl less ↦
            let met = subst (λ o. IfSome o (λ x. (0 < row_waiting s.slots (below_at levels x) (users_on s.users c)) × (row_level (slice_index s.capacities c) s.slots (below_at levels x) (users_on s.users c) ≡ x))) is (holds_are c (exists_of s sound id c flow e i)).met in
            absurd (omega (arith, met.1, seen s levels sound are h c, (leveled s levels sound are).above flow (held_in s.slots id flow e) h less (resource_level s.capacities (held s.slots) (below_share h q) c) (limit_level s.capacities (held s.slots) (below_share h q) flow c i)))
      ]

  caused : (id c : ℕ) (flow : Flow) → flow_at s.slots id ≡ Some flow → In c flow.uses → resource_level s.capacities (held s.slots) (below_share (level_of s.capacities (held s.slots) flow) (level_of s.capacities (held s.slots))) c ≡ level_of s.capacities (held s.slots) flow → (hold : Option ℕ) → holds c ≡ hold →
      hold ≡ Some (level_of s.capacities (held s.slots) flow)
  caused id c flow e i at hold is =
      let q = level_of s.capacities (held s.slots) in
      let x = q flow in
      let waits = waiting_some s.slots (below_at levels x) (users_on s.users c) id (users_of s sound id c flow e i) (weighs s sound id).0 (at_no levels x id x (are id flow e) (omega arith)) in
      let kept = subst (IsHold (slice_index s.capacities c) s.slots levels (users_on s.users c)) is (holds_are c (exists_of s sound id c flow e i)) in
      from hold kept (most id c flow e i hold is) waits
    where
      from : (hold : Option ℕ) → IsHold (slice_index s.capacities c) s.slots levels (users_on s.users c) hold → IsAtMost (Some (level_of s.capacities (held s.slots) flow)) hold →
          0 < row_waiting s.slots (below_at levels (level_of s.capacities (held s.slots) flow)) (users_on s.users c) → hold ≡ Some (level_of s.capacities (held s.slots) flow)
      from None kept up waits = absurd (omega (arith, kept.above (level_of s.capacities (held s.slots) flow) tt waits, seen s levels sound are (level_of s.capacities (held s.slots) flow) c, at))
      from (Some h) kept up waits = elim (lt_cases (level_of s.capacities (held s.slots) flow) h) [
        | inl less ↦ absurd (omega (arith, kept.above (level_of s.capacities (held s.slots) flow) less waits, seen s levels sound are (level_of s.capacities (held s.slots) flow) c, at))
        | inr more ↦ let is' : h ≡ level_of s.capacities (held s.slots) flow = omega (arith, up, more) in ap (λ x. Some x) is'
      ]

  bound_most : (id : ℕ) (flow : Flow) → flow_at s.slots id ≡ Some flow → (bound : Option ℕ) → flow.bound ≡ bound → IsAtMost (Some (level_of s.capacities (held s.slots) flow)) (option_map (bound_level flow.weight) bound)
  bound_most id flow e None is = tt
  bound_most id flow e (Some b) is = (filling_balances_lem s.capacities (held s.slots) (held_limits s sound)).within flow b (is_held_lem s.slots id flow e) is

  cause_of : (id : ℕ) (flow : Flow) → flow_at s.slots id ≡ Some flow → IsCause holds flow (level_of s.capacities (held s.slots) flow)
  cause_of id flow e =
      let q = level_of s.capacities (held s.slots) in
      elim (limit_cases s.capacities (held s.slots) (below_share (q flow) q) flow (q flow) ((leveled s levels sound are).met flow (held_in s.slots id flow e))) [
        | inl b ↦ by_bound (ap (option_map (bound_level flow.weight)) b.1 ∙ ap (λ x. Some x) b.2)
        | inr r ↦ by_resource r.0 (in_is r.0 flow.uses r.1) (caused id r.0 flow e r.1 r.2 (holds r.0) refl)
      ]

  pub filling_held : AreHeld s levels holds
  filling_held = record {
    resources = holds_are;
    within = λ id flow e. subst (λ o. IsAtMost o (option_map (bound_level flow.weight) flow.bound)) (sym (are id flow e)) (bound_most id flow e flow.bound refl);
    under = λ id c flow e i. subst (λ o. IsAtMost o (holds c)) (sym (are id flow e)) (most id c flow e (is_in_In c flow.uses i) (holds c) refl);
    cause = λ id flow e. (level_of s.capacities (held s.slots) flow, are id flow e, cause_of id flow e);
  }

pub filling_is_held_lem : FillingIsHeld
filling_is_held_lem s levels holds sound are holds_are = filling_held s levels holds sound are holds_are

pub full_holds_lem : FullHolds
full_holds_lem s levels c id x sound are i e full = full_holds s levels sound are id c x i e full

pub others_hold_none_lem : OthersHoldNone
others_hold_none_lem s levels c sound are none = other_holds s levels sound are c none
