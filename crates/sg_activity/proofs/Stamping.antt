-- The stamps of phases.
use Rattle.std.proofs.Common.{◌≡◌, ◌≢◌, ℕ, ◌+◌, ◌-◌, ◌==◌, true, false, not, None, Some, List, option_and_then, option_map, get_or, eq-eqb, ne_eqb, refl, sym, ap, ◌∙◌, arith}
use Rattle.sg_activity_table.specs.declared.lives.Live.{Live}
use Rattle.sg_activity.specs.Doing.{HaveStamps, Doing}
use Rattle.sg_activity.specs.Stamp.{rerated, rerated_at}
use Rattle.sg_activity.specs.Task.{Task}
use Rattle.sg_activity.specs.Underway.{rate}
use Rattle.sg_activity.specs.kept.Metered.{metered_in}
use Rattle.sg_activity_table.specs.Pool.{slot_at}
use Rattle.sg_activity.specs.kept.State.{State, task_of, told_at, told_by, stamp_of, under_of, doing_of}
use Rattle.sg_activity.specs.kept.Sound.{IsKept}
use Rattle.sg_activity_table.proofs.Listed.{at_listed, length-listed}
use Rattle.sg_activity.proofs.Lookup.{told_found, told_from}
use Rattle.sg_activity.proofs.Rates.{rate_told, task_there}
use Rattle.sg_activity.proofs.Told.{task_told}

module _ (s : State) (is : IsKept s) where
  pub stamp_there : (key : ℕ) (live : Live) → slot_at s.slots key ≡ Some live → get_or (told_by stamp_of s) (live.serial - 1) None ≡ Some (stamp_of key live)
  stamp_there key live at =
      let h = is.each key live at in
      let back : live.serial - 1 + 1 ≡ live.serial = omega (arith, h.from) in
      at_listed s.drawn (λ i. told_at stamp_of s.slots (i + 1)) (live.serial - 1) None (omega (arith, h.from, h.to)) ∙ ap (told_at stamp_of s.slots) back ∙ told_found stamp_of s.slots live.serial key live is.apart at refl

  -- that of a phase as the rates are brought up to date
  pub rerated_there : (key : ℕ) (live : Live) → slot_at s.slots key ≡ Some live → rerated_at (under_of s) (told_by stamp_of s) live.serial ≡ Some (rerated (under_of s) (task_of s key live) (stamp_of key live))
  rerated_there key live at =
      let stamp = get_or (told_by stamp_of s) (live.serial - 1) None in
      ap (option_and_then (λ task. option_map (rerated (under_of s) task) stamp)) (task_there s is key live at)
      ∙ ap (option_map (rerated (under_of s) (task_of s key live))) (stamp_there key live at)

  -- each phase has a stamp, from which follows what is left of it
  pub stamps_are : (room : ℕ) → HaveStamps (doing_of s room)
  stamps_are room serial task from to at =
      let drawn = length-listed s.drawn (λ i. told_at (task_of s) s.slots (i + 1)) in
      let f = told_from (task_of s) s.slots serial task is.apart (sym (task_told s serial from (omega (arith, to, drawn))) ∙ at) in
      let h = is.each f.0.key f.0.live f.0.at in (
        stamp_of f.0.key f.0.live,
        ap (λ n. get_or (told_by stamp_of s) (n - 1) None) (sym f.0.is) ∙ stamp_there f.0.key f.0.live f.0.at,
        record {
          from = h.stamped;
          left = sym (ap (λ (t : Task). t.left) f.1);
          rate = λ set. ap (rate (under_of s)) (sym f.1) ∙ rate_told s is set f.0.key f.0.live f.0.at;
        },
      )

-- whatever energy the hosts used
pub stamps_metered : (energy : List ℕ) (doing : Doing) → HaveStamps doing → HaveStamps (metered_in energy doing)
unfolding rate
stamps_metered energy doing have serial task from to at =
    let r = have serial task from to at in
    (r.0, r.1, record { from = r.2.from; left = r.2.left; rate = r.2.rate })

-- ---- whether a rate is another
pub is_another : (now was : ℕ) → now ≢ was → not (now == was) ≡ true
is_another now was ne = ap not (ne_eqb now was ne)

pub is_same : (now was : ℕ) → now ≡ was → not (now == was) ≡ false
is_same now was same = ap not (eq-eqb now was same)
