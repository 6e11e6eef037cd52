-- Flows with another bound are given the level of their bound, and a rate update ends.
use Rattle.std.proofs.Common.{◌≡◌, ◌≢◌, ℕ, ◌<◌, ◌⊎◌, inl, inr, true, false, true≢false, None, List, [], ◌∷◌, length, get_or-set_same, get_or-set_other, refl, sym, ap, subst, ◌∙◌, arith}
use Rattle.sg_base.specs.MarkSet.{MarkSet, is_in}
use Rattle.sg_maxmin.specs.Sharing.{Sharing, IsSound, flow_at, uses_at}
use Rattle.sg_maxmin_levels.specs.declared.levels.Levels.{Levels}
use Rattle.sg_maxmin.specs.Numbered.{bound_of, flow_in, level_at}
use Rattle.sg_maxmin.specs.Held.{AreFilled}
use Rattle.sg_maxmin_levels.specs.Settling.{IsChanged, IsSame, IsStale, is_active}
use Rattle.sg_maxmin_levels.specs.Kept.{ActivatesAll, IsBetweenBut, IsKept, IsMoved, IsSettling}
use Rattle.sg_maxmin.proofs.Listed.{eq_cases}
use Rattle.sg_maxmin.proofs.Users.{flow_in_is, in_is, is_in_In}
use Rattle.sg_maxmin.proofs.HeldLevels.{held_is_filling_lem}
use Rattle.sg_maxmin_levels.proofs.Steps.{settling_ends_lem}
use Rattle.sg_maxmin_levels.proofs.Marked.{but_none, none_but}
use Rattle.sg_maxmin_levels.proofs.Moving.{more_off, parts_moved}
use Rattle.sg_maxmin_levels.proofs.Between.{between_changed}
use Rattle.sg_maxmin_levels.proofs.Changed.{marks_used}

in_tail : (id x : ℕ) (xs : List ℕ) → is_in id xs ≡ true → is_in id (x ∷ xs) ≡ true
in_tail id x xs i = in_is id (x ∷ xs) (inr (is_in_In id xs i))

module _ (s : Sharing) (sound : IsSound s) (old new : Levels) (id : ℕ) (rest : List ℕ) (below : id < length old.levels.items) (below' : id < length old.parts.items) (moved : IsMoved s old new id (bound_of (flow_in s.slots id))) (activates : ActivatesAll (uses_at s.slots id) old.active.members new.active.members) (kept : IsKept s new) (before : IsBetweenBut s old (id ∷ rest)) where
  level_other : (other : ℕ) → other ≢ id → level_at new.levels.items other ≡ level_at old.levels.items other
  level_other other ne = ap (λ ls. level_at ls other) moved.level_is ∙ get_or-set_other old.levels.items id other (bound_of (flow_in s.slots id)) None ne

  renewed_marks : (other : ℕ) → IsSame s s old.levels.items new.levels.items (id ∷ rest) rest other ⊎ (IsStale s s rest other ⊎ IsChanged (flow_at s.slots other) (flow_at s.slots other) (level_at new.levels.items other) new.active.members)
  renewed_marks other = elim (eq_cases other id) [
    | inl e ↦ inr (inr (subst (λ n. IsChanged (flow_at s.slots n) (flow_at s.slots n) (level_at new.levels.items n) new.active.members) (sym e) (record {
      before = marks_used id s.slots old.active.members new.active.members activates;
      after = marks_used id s.slots old.active.members new.active.members activates;
      level_is = λ flow q. ap (λ ls. level_at ls id) moved.level_is ∙ get_or-set_same old.levels.items id (bound_of (flow_in s.slots id)) None below ∙ ap bound_of (flow_in_is s.slots id flow q);
    })))
    | inr ne ↦ inl (record { flow = refl; level = level_other other ne; still = λ off. more_off other id rest ne off })
  ]

  pub renewed_between : IsBetweenBut s new rest
  renewed_between =
      between_changed s s sound sound old new (id ∷ rest) rest before (record {
        as_many = refl;
        capacities = λ r off. refl;
        marks = λ r off. (activates r off).0;
        flows = renewed_marks;
      }) moved.holds kept
      (parts_moved s old new id (bound_of (flow_in s.slots id)) rest below below' moved before.parts)
      (λ other i. before.alive other (in_tail other id rest i))

-- none has another bound: a rate update continues
pub settling_from : (s : Sharing) (all : Levels) → IsBetweenBut s all [] → IsSettling s all
settling_from s all are = record { kept = are.kept; parts = are.parts; written = but_none s all.levels.items all.holds.items all.active.members are.written }

pub settling_to : (s : Sharing) → (all : Levels) → IsSettling s all → IsBetweenBut s all []
settling_to s all are = record {
  kept = are.kept;
  parts = are.parts;
  alive = λ id i. absurd (true≢false (sym i));
  written = none_but s all.levels.items all.holds.items all.active.members are.written;
}

-- other flows may be listed as having another bound
pub told_between : (s : Sharing) (all : Levels) (stale : MarkSet) (but : List ℕ) → stale.room ≡ all.stale.room → IsBetweenBut s all but → IsBetweenBut s (record all { stale = stale }) but
told_between s all stale but room are =
    let kept = are.kept in
    let places = kept.places in
    record {
      kept = record {
        places = record { sound = places.sound; levels = places.levels; parts = places.parts; moved = places.moved; stale = omega (arith, places.stale, room); holds = places.holds; demands = places.demands; counts = places.counts; active = places.active };
        demands = kept.demands;
        counts = kept.counts;
        fit = kept.fit;
        none = kept.none;
        longest = kept.longest;
      };
      parts = are.parts;
      alive = are.alive;
      written = are.written;
    }

-- and if nothing is active each level is the max-min level
pub filled_from : (s : Sharing) → IsSound s → (all : Levels) → IsSettling s all → ((r : ℕ) → is_active all.active.members r ≡ false) → AreFilled s all.levels.items
filled_from s sound all are clean = held_is_filling_lem s all.levels.items (level_at all.holds.items) sound (settling_ends_lem s all.levels.items all.holds.items all.active.members sound are.written clean)
