-- Executions that are suspended and resumed.
use Rattle.std.proofs.Common.{◌≡◌, ℕ, ◌-◌, ◌<◌, Bool, true, false, true≢false, cond, Option, Some, option_map, [], refl, sym, ap, ap₂, ◌∙◌}
use Rattle.sg_activity_table.specs.declared.kinds.PhaseKind.{PhaseKind}
use Rattle.sg_activity_table.specs.declared.kinds.PhaseKind.TheVariants as phase
use Rattle.sg_activity_table.specs.declared.lives.Live.{Live}
use Rattle.sg_activity_table.specs.Slots.{passes, serials}
use Rattle.sg_activity.specs.Task.{of_kind, rekinded, task_at}
use Rattle.sg_activity_table.specs.Kinds.{is_exec, is_held}
use Rattle.sg_activity.specs.Underway.{gone_on, with_task}
use Rattle.sg_activity.specs.Stamp.{anew}
use Rattle.sg_activity.specs.Doing.{held_in, went_on_in}
use Rattle.sg_activity_table.specs.Pool.{IsFound, IsMissing, slot_at}
use Rattle.sg_activity.specs.kept.State.{State, task_of, stamp_of, is_dated, is_now, is_so, told_at, told_by, under_of, doing_of}
use Rattle.sg_activity.specs.kept.Sound.{IsKept}
use Rattle.sg_activity.specs.kept.Turns.{Turns}
use Rattle.sg_activity.proofs.Lookup.{told_found}
use Rattle.sg_activity.proofs.Rates.{task_missed, task_there}
use Rattle.sg_activity.proofs.Struck.{changed_told}
use Rattle.sg_activity.proofs.Told.{doing_same, stamps_set}
use Rattle.sg_activity.proofs.Turned.{due_still}
use Rattle.sg_activity.proofs.Turning.{undated_kept}

pub exec_is : (kind : PhaseKind) → is_exec kind ≡ true → kind ≡ phase.Exec
exec_is phase.Latency e = absurd (true≢false (sym e))
exec_is phase.Flow e = absurd (true≢false (sym e))
exec_is phase.Exec e = refl
exec_is phase.Timer e = absurd (true≢false (sym e))
exec_is phase.Kept e = absurd (true≢false (sym e))

pub held_is : (kind : PhaseKind) → is_held kind ≡ true → kind ≡ phase.Kept
held_is phase.Latency e = absurd (true≢false (sym e))
held_is phase.Flow e = absurd (true≢false (sym e))
held_is phase.Exec e = absurd (true≢false (sym e))
held_is phase.Timer e = absurd (true≢false (sym e))
held_is phase.Kept e = refl

module _ (s : State) (is : IsKept s) (serial : ℕ) where
  -- the kind of the phase under an activity id
  pub kind_found : (test : PhaseKind → Bool) (key : ℕ) (live : Live) → IsFound s.slots serial key live → passes (of_kind test) (task_at (under_of s).tasks serial) ≡ test live.kind
  kind_found test key live found = ap (λ n. passes (of_kind test) (task_at (under_of s).tasks n)) (sym found.is) ∙ ap (passes (of_kind test)) (task_there s is key live found.at)

  pub kind_missed : (test : PhaseKind → Bool) → 0 < serial → IsMissing s.slots serial → passes (of_kind test) (task_at (under_of s).tasks serial) ≡ false
  kind_missed test from none = ap (passes (of_kind test)) (task_missed s is serial from none)

module _ (s new : State) (key : ℕ) (live : Live) (slot : Option Live) (is : IsKept s) (at : slot_at s.slots key ≡ Some live) (by : Turns s new key live.serial slot) (drawn : new.drawn ≡ s.drawn) where
  again : (kind : PhaseKind) → with_task live.serial (Some (rekinded kind (task_of s key live))) (under_of s) ≡ with_task live.serial (option_map (rekinded kind) (task_at (under_of s).tasks live.serial)) (under_of s)
  again kind = ap (λ o. with_task live.serial (option_map (rekinded kind) o) (under_of s)) (sym (task_there s is key live at))

  -- an execution is suspended
  pub held_told : (room : ℕ) → under_of new ≡ with_task live.serial (Some (rekinded phase.Kept (task_of s key live))) (under_of s) → doing_of new room ≡ held_in live.serial (doing_of s room)
  held_told room under = changed_told s new key live slot (option_map (rekinded phase.Kept) (task_at (under_of s).tasks live.serial)) room is at by drawn (under ∙ again phase.Kept)

  -- a suspended execution is resumed
  pub went_told : (room : ℕ) → live.kind ≡ phase.Kept → under_of new ≡ with_task live.serial (Some (rekinded phase.Exec (task_of s key live))) (under_of s) → doing_of new (room - 1) ≡ went_on_in live.serial (doing_of s room)
  went_told room held under =
      let h = is.each key live at in
      let undue : passes is_so (told_at (is_now s) s.slots live.serial) ≡ false = ap (passes is_so) (told_found (is_now s) s.slots live.serial key live is.apart at refl) ∙ ap (is_dated s.date) (undated_kept s key live is at held) in
      doing_same (under_of new) (gone_on live.serial (under_of s)) (cond new.arrived (serials is_so 1 (told_by (is_now new) new)) []) (cond s.arrived (serials is_so 1 (told_by (is_now s) s)) []) new.settled false (room - 1) (room - 1)
      (told_by stamp_of new) (anew live.serial (gone_on live.serial (under_of s)) (told_by stamp_of s)) (under ∙ again phase.Exec)
      (ap₂ (λ b l. cond b l []) by.arrived (due_still s new key live.serial slot is by drawn h.from h.to undue)) by.unsettled refl
      (stamps_set s new key live.serial slot is by (gone_on live.serial (under_of s)) (under ∙ again phase.Exec) drawn h.from h.to)
