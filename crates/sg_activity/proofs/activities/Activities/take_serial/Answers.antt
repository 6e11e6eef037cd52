use Rattle.std.proofs.Common.{◌+◌, length, ap, ◌∙◌, arith}
use Rattle.sg_activity.specs.Doing.{Doing, drawn_in}
use Rattle.sg_activity.specs.kept.State.{state_of, told_at, task_of}
use Rattle.sg_activity.proofs.Drawn.{drawn_kept, drawn_told}
use Rattle.sg_activity_table.proofs.Listed.{length-listed}
use Rattle.sg_activity.specs.Laws.{IsSameHost}
use Rattle.sg_activity.specs.kept.Metered.{energies, metered_in}
use Rattle.sg_activity.specs.kept.State.{under_of}
use Rattle.std.proofs.Common.{refl, sym, subst}
use Rattle.sg_activity.proofs.Elsewhere.{same_drawn}
use Rattle.sg_activity.proofs.Metering.{metered_kept}
use Rattle.sg_activity.proofs.activities.Activities.take_serial.Goals as goal

pub invariant_of-self : goal.invariant_of-self
invariant_of-self c =
    let s = state_of c.self.inside.kept in
    let is = c.self.invariant.sound in
    record {
      sound = record {
        are = drawn_kept s is.are;
        room = record {
          capacities = is.room.capacities;
          few = omega (arith, ap (λ (d : Doing). length d.under.tasks) c.self.view_is, length-listed s.drawn (λ i. told_at (task_of s) s.slots (i + 1)), c.requires);
          early = is.room.early;
          flows = is.room.flows;
          flow_room = is.room.flow_room;
          uses = is.room.uses;
          use_room = is.room.use_room;
          keys_free = is.room.keys_free;
          rows_long = is.room.rows_long;
          agenda_long = is.room.agenda_long;
          fresh_room = is.room.fresh_room;
          by_flow_long = is.room.by_flow_long;
        };
      };
      hosts = c.self.invariant.hosts;
      used = c.self.invariant.used;
      switches = c.self.invariant.switches;
      hit = c.self.invariant.hit;
      metered = metered_kept c.self.inside.kept _ c.self.inside.meter c.self.inside.touched c.self.invariant.metered refl refl is.are (drawn_kept s is.are)
          (λ host. subst (λ u. IsSameHost (under_of s) u host) (sym (ap (λ (d : Doing). d.under) (drawn_told s c.self.inside.kept.room is.are))) (same_drawn (under_of s) host));
    }

pub returns-clause-drawn : goal.returns-clause-drawn
returns-clause-drawn c =
    ap (metered_in (energies c.self.inside.kept.date c.self.inside.meter)) (drawn_told (state_of c.self.inside.kept) c.self.inside.kept.room c.self.invariant.sound.are)
    ∙ ap drawn_in c.self.view_is
