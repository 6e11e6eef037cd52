-- What a max-min solve notes is where each resource holds its flows.
use Rattle.std.proofs.Common.{◌≡◌, ℕ, true, Option, None, Some, option_map, List, [], ◌∷◌, map, get_or, slice_index, suc, zero, refl, sym, ap, subst, ◌∙◌}
use Rattle.sg_base.specs.MarkSet.{is_in}
use Rattle.sg_maxmin.specs.Chained.{users_on}
use Rattle.sg_maxmin.specs.Fill.{Flow, level_of}
use Rattle.sg_maxmin.specs.Sharing.{Sharing, IsSound, held}
use Rattle.sg_maxmin.specs.Numbered.{below_at, flow_in, level_at, row_level, when_below}
use Rattle.sg_maxmin.specs.Held.{AreFilled, IsHold}
use Rattle.sg_maxmin.proofs.OneHold.{hold_is_local_lem}
use Rattle.sg_maxmin.proofs.Converse.{full_holds_lem, others_hold_none_lem}
use Rattle.sg_maxmin.proofs.HeldLevels.{row_same}
use Rattle.sg_maxmin_solve.specs.declared.filling.Filling.{Filling}
use Rattle.sg_maxmin_solve.specs.Filling.{AreJoined, AreLeveled, fixed_at, flows_at}
use Rattle.sg_maxmin_solve.specs.Holds.{AreNoted, IsNoted}
use Rattle.sg_maxmin_solve.proofs.Joined.{level_whole, user_there}
use Rattle.sg_maxmin.proofs.Listed.{at_in}
use Rattle.sg_maxmin.proofs.Users.{flow_in_is, in_is, on_held}

-- the levels of all flows
whole_levels : Sharing → List (Option ℕ)
whole_levels s = map (option_map (level_of s.capacities (held s.slots))) s.slots

at_map : (g : Flow → ℕ) (slots : List (Option Flow)) (id : ℕ) → get_or (map (option_map g) slots) id None ≡ option_map g (get_or slots id None)
at_map g [] id = refl
at_map g (o ∷ slots) zero = refl
at_map g (o ∷ slots) (suc id) = at_map g slots id

whole_filled : (s : Sharing) → AreFilled s (whole_levels s)
unfolding whole_levels
whole_filled s id flow e = at_map (level_of s.capacities (held s.slots)) s.slots id ∙ ap (option_map (level_of s.capacities (held s.slots))) e

-- if the levels on a resource are those of the whole, what is noted of it is its hold
pub holds_of : (s : Sharing) → IsSound s → (c : ℕ) (fixed : List (Option ℕ)) (hold : Option ℕ) →
    ((id : ℕ) → is_in id (users_on s.users c) ≡ true → fixed_at fixed id ≡ Some (level_of s.capacities (held s.slots) (flow_in s.slots id))) →
    IsNoted (slice_index s.capacities c) s.slots fixed (users_on s.users c) hold → IsHold (slice_index s.capacities c) s.slots fixed (users_on s.users c) hold
holds_of s sound c fixed hold are noted =
    hold_is_local_lem cap s.slots s.slots (whole_levels s) fixed row hold (λ id i. (refl, same id i)) (from hold noted)
  where
    row : List ℕ
    row = users_on s.users c

    cap : ℕ
    cap = slice_index s.capacities c

    same : (id : ℕ) → is_in id (users_on s.users c) ≡ true → level_at fixed id ≡ level_at (whole_levels s) id
    same id i =
        let f = on_held s sound c id i in
        are id i ∙ ap (λ g. Some (level_of s.capacities (held s.slots) g)) (flow_in_is s.slots id f.0 f.1) ∙ sym (whole_filled s id f.0 f.1)

    level_same : (x : ℕ) → row_level (slice_index s.capacities c) s.slots (below_at (whole_levels s) x) (users_on s.users c) ≡ row_level (slice_index s.capacities c) s.slots (below_at fixed x) (users_on s.users c)
    level_same x = row_same (slice_index s.capacities c) s.slots (below_at (whole_levels s) x) (below_at fixed x) (users_on s.users c) (λ id i. ap (λ o. when_below o x) (sym (same id (in_is id (users_on s.users c) i))))

    from : (o : Option ℕ) → IsNoted (slice_index s.capacities c) s.slots fixed (users_on s.users c) o → IsHold (slice_index s.capacities c) s.slots (whole_levels s) (users_on s.users c) o
    from None noted = others_hold_none_lem s (whole_levels s) c sound (whole_filled s) (λ id x i e full. none_is x (noted.told id x i (same id i ∙ e) (sym (level_same x) ∙ full)))
      where
        none_is : (x : ℕ) → None ≡ Some x → ⊥
        none_is x e = cc
    from (Some x) noted =
        let u = noted.user x refl in
        full_holds_lem s (whole_levels s) c u.0 x sound (whole_filled s) u.1 (sym (same u.0 u.1) ∙ u.2) (level_same x ∙ noted.met x refl)

-- the level of each touched flow is that of the whole
pub joined_level : (s : Sharing) (touched reached : List ℕ) (filling : Filling) → AreJoined s touched reached → AreLeveled s touched filling → (id : ℕ) → is_in id touched ≡ true →
    fixed_at filling.fixed.items id ≡ Some (level_of s.capacities (held s.slots) (flow_in s.slots id))
joined_level s touched reached filling joined leveled id i =
    let at = at_in id touched i in
    subst (λ n. fixed_at filling.fixed.items n ≡ Some (level_of s.capacities (flows_at s.slots touched) (flow_in s.slots n))) at.2 (leveled at.0 at.1)
    ∙ ap (λ x. Some x) (level_whole s touched reached joined id i)

-- and what is noted of a reached resource is its hold
pub joined_hold : (s : Sharing) (touched reached : List ℕ) (filling : Filling) → AreJoined s touched reached → AreLeveled s touched filling → AreNoted s reached filling → (c : ℕ) → is_in c reached ≡ true →
    IsHold (slice_index s.capacities c) s.slots filling.fixed.items (users_on s.users c) (fixed_at filling.holds.items c)
joined_hold s touched reached filling joined leveled noted c r =
    holds_of s joined.part.sound c filling.fixed.items (fixed_at filling.holds.items c) (λ id i. joined_level s touched reached filling joined leveled id (user_there s touched reached joined c id r i)) (noted c r)
