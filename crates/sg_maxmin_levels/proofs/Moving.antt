-- A user of a resource that moves, in all that is kept.
use Rattle.std.proofs.Common.{◌≡◌, ◌≢◌, ℕ, ◌<◌, ◌||◌, inl, inr, true, false, ne_eqb, Option, None, Some, List, [], ◌∷◌, length, get_or-set_same, get_or-set_other, set, slice_index, refl, sym, ap, subst, ◌∙◌}
use Rattle.sg_base.specs.MarkSet.{is_in}
use Rattle.sg_maxmin.specs.Chained.{users_on}
use Rattle.sg_maxmin.specs.Sharing.{Sharing, IsSound, uses_at}
use Rattle.sg_maxmin_levels.specs.declared.levels.Levels.{Levels}
use Rattle.sg_maxmin.specs.Numbered.{bound_of, flow_in, level_at}
use Rattle.sg_maxmin_levels.specs.Demand.{demand_of}
use Rattle.sg_maxmin.specs.Held.{IsAtMost, IsUnder}
use Rattle.sg_maxmin_levels.specs.Settling.{AreSettlingOn, HasCause}
use Rattle.sg_maxmin_levels.specs.Kept.{ActivatesAll, ActivatesBut, AreParts, IsKept, IsMoved, IsSettlingOn, Moves, NotesMoved}
use Rattle.sg_maxmin.proofs.Listed.{eq_cases}
use Rattle.sg_maxmin_levels.proofs.Noted.{noted_none, noted_one}
use Rattle.sg_maxmin_levels.proofs.Steps.{held_user, uses_row, user_below, skip_keeps, lower_keeps, raise_keeps}

pub moved_notes : (s : Sharing) (old new : Levels) (flow : ℕ) (level : Option ℕ) → IsMoved s old new flow level → NotesMoved old new
moved_notes s old new flow level m = noted_one old.moved new.moved old.levels.items new.levels.items flow level m.noted m.level_is

-- a flow that stays as it is
pub stays_put : (s : Sharing) (flow : ℕ) (all : Levels) → IsKept s all → Moves s flow all all
stays_put s flow all kept = record { kept = kept; moved = noted_none all.moved all.levels.items; within = λ p q along here are. are }

pub more_off : (id flow : ℕ) (but : List ℕ) → id ≢ flow → is_in id but ≡ false → is_in id (flow ∷ but) ≡ false
more_off id flow but ne off = ap (λ b. b || is_in id but) (ne_eqb flow id (λ e. ne (sym e))) ∙ off

-- its part is that of its level
pub parts_moved : (s : Sharing) (old new : Levels) (flow : ℕ) (level : Option ℕ) (but : List ℕ) → flow < length old.levels.items → flow < length old.parts.items → IsMoved s old new flow level → AreParts s old (flow ∷ but) → AreParts s new but
parts_moved s old new flow level but below below' m are id held off = elim (eq_cases id flow) [
  | inl e ↦ subst (λ n. slice_index new.parts.items n ≡ demand_of (flow_in s.slots n) (level_at new.levels.items n)) (sym e)
      (ap (λ ps. slice_index ps flow) m.part_is ∙ get_or-set_same old.parts.items flow (demand_of (flow_in s.slots flow) level) 0 below'
      ∙ ap (demand_of (flow_in s.slots flow)) (sym (ap (λ ls. level_at ls flow) m.level_is ∙ get_or-set_same old.levels.items flow level None below)))
  | inr ne ↦ ap (λ ps. slice_index ps id) m.part_is ∙ get_or-set_other old.parts.items flow id (demand_of (flow_in s.slots flow) level) 0 ne ∙ are id held (more_off id flow but ne off)
      ∙ ap (demand_of (flow_in s.slots id)) (sym (ap (λ ls. level_at ls id) m.level_is ∙ get_or-set_other old.levels.items flow id level None ne))
]

module _ (s : Sharing) (sound : IsSound s) (c flow : ℕ) (user : is_in flow (users_on s.users c) ≡ true) where
  pub uses_it : is_in c (uses_at s.slots flow) ≡ true
  uses_it = uses_row s sound c flow user

  all_parts : (old new : Levels) (level : Option ℕ) → IsKept s old → IsMoved s old new flow level → AreParts s old [] → AreParts s new []
  all_parts old new level kept m are =
      parts_moved s old new flow level [] (user_below s sound c flow (length old.levels.items) user kept.places.levels) (user_below s sound c flow (length old.parts.items) user kept.places.parts) m (λ id held off. are id held refl)

  -- a user that stays
  pub skipped : (kept : Levels) (was : Option ℕ) (todo : List ℕ) → IsAtMost (level_at kept.levels.items flow) (level_at kept.holds.items c) → (level_at kept.levels.items flow ≡ was → HasCause kept.holds.items (flow_in s.slots flow) (level_at kept.levels.items flow)) →
      IsSettlingOn s kept c was (flow ∷ todo) → IsSettlingOn s kept c was todo
  skipped kept was todo most cause are = record {
    parts = are.parts;
    written = skip_keeps s sound kept.levels.items kept.holds.items kept.active.members c was flow todo (flow_in s.slots flow) are.written (held_user s sound c flow user) most cause;
  }

  -- one that comes down to the hold
  pub lowered : (old new : Levels) (was : Option ℕ) (todo : List ℕ) (hold : ℕ) → IsKept s old → IsMoved s old new flow (Some hold) → ActivatesBut c (uses_at s.slots flow) old.active.members new.active.members → level_at old.holds.items c ≡ Some hold → IsUnder hold (level_at old.levels.items flow) →
      IsSettlingOn s old c was (flow ∷ todo) → IsSettlingOn s new c was todo
  lowered old new was todo hold kept m activates is over are =
      let step : AreSettlingOn s (set old.levels.items flow (Some hold)) old.holds.items new.active.members c was todo =
      lower_keeps s sound old.levels.items old.holds.items old.active.members new.active.members c was flow todo (flow_in s.slots flow) hold are.written (held_user s sound c flow user) (user_below s sound c flow (length old.levels.items) user kept.places.levels) uses_it is over activates in
      record {
        parts = all_parts old new (Some hold) kept m are.parts;
        written = subst (λ ls. AreSettlingOn s ls new.holds.items new.active.members c was todo) (sym m.level_is) (subst (λ hs. AreSettlingOn s (set old.levels.items flow (Some hold)) hs new.active.members c was todo) (sym m.holds) step);
      }

  -- one that goes up to its bound
  pub raised : (old new : Levels) (was : Option ℕ) (todo : List ℕ) → IsKept s old → IsMoved s old new flow (bound_of (flow_in s.slots flow)) → ActivatesAll (uses_at s.slots flow) old.active.members new.active.members →
      IsSettlingOn s old c was (flow ∷ todo) → IsSettlingOn s new c was todo
  raised old new was todo kept m activates are =
      let level = bound_of (flow_in s.slots flow) in
      let step : AreSettlingOn s (set old.levels.items flow level) old.holds.items new.active.members c was todo =
      raise_keeps s sound old.levels.items old.holds.items old.active.members new.active.members c was flow todo (flow_in s.slots flow) are.written (held_user s sound c flow user) (user_below s sound c flow (length old.levels.items) user kept.places.levels) activates in
      record {
        parts = all_parts old new level kept m are.parts;
        written = subst (λ ls. AreSettlingOn s ls new.holds.items new.active.members c was todo) (sym m.level_is) (subst (λ hs. AreSettlingOn s (set old.levels.items flow level) hs new.active.members c was todo) (sym m.holds) step);
      }
