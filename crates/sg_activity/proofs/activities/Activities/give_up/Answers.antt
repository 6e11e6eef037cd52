use Rattle.std.proofs.Common.{◌≡◌, All, refl, None, Some, is_some, length, true≢false, sym, ap, subst, ◌∙◌}
use Rattle.sg_activity.specs.Hosts.{IsHost}
use Rattle.sg_activity.specs.Links.{Capacities}
use Rattle.sg_activity.specs.Doing.{Doing, gave_up}
use Rattle.sg_activity.specs.Task.{task_at}
use Rattle.sg_activity.specs.kept.State.{State, state_of, doing_of}
use Rattle.sg_activity.proofs.Struck.{changed_told}
use Rattle.sg_activity.proofs.Switched.{switches_alike}
use Rattle.sg_activity.proofs.Rates.{task_missed}
use Rattle.sg_activity.specs.kept.Metered.{IsMetered, energies, metered_in, noted, IsWithin}
use Rattle.sg_activity_table.specs.Pool.{slot_at}
use Rattle.sg_activity.proofs.Metering.{metered_turned, not_noted, within_hosts}
use Rattle.sg_activity.proofs.activities.Activities.give_up.Goals as goal

pub unreachable-requires : goal.unreachable-requires
unreachable-requires c =
    let s : State = state_of c.self.inside.kept in
    let none = task_missed s c.self.invariant.sound.are c.args.serial.0 c.requires.from c.in_default.ensures in
    true≢false (sym c.requires.under_way ∙ ap (λ (d : Doing). is_some (task_at d.under.tasks c.args.serial.0)) (sym c.self.view_is) ∙ ap is_some none)

pub leave-requires : goal.leave-requires
leave-requires c = record {
  there = record { at = c.in-Some.ensures.at; sound = c.self.invariant.sound; used = c.self.invariant.used };
  hit = c.self.invariant.hit;
}

pub note-requires : goal.note-requires
note-requires c = subst (λ n. IsWithin n c.in-Some.live.place) (sym c.self.invariant.metered.room) (within_hosts (state_of c.self.inside.kept) c.in-Some.key c.in-Some.live c.self.invariant.sound.are c.in-Some.ensures.at)

pub invariant_of-self : goal.invariant_of-self
invariant_of-self c =
    let ends = c.leave.ensures.ends in
    let kept = c.self.inside.kept in
    let s : State = state_of kept in
    let key = c.in-Some.key in
    let live = c.in-Some.live in
    let at : slot_at kept.lives.slots key ≡ Some live = c.in-Some.ensures.at in
    record {
      sound = ends.sound;
      hosts = subst (λ (d : Capacities). All IsHost d.hosts) (sym ends.turns.capacities) c.self.invariant.hosts;
      used = c.leave.ensures.known.used;
      switches = switches_alike (state_of c.self.inside.kept) (state_of c.leave.new.kept) ends.turns.on (ap (λ (d : Capacities). length d.hosts) ends.turns.capacities) (ap (λ (d : Capacities). length d.links) ends.turns.capacities) c.self.invariant.switches;
      hit = c.leave.ensures.known.hit;
      metered = subst (IsMetered c.leave.new.kept c.self.inside.meter) (sym c.note.ensures)
          (metered_turned kept c.leave.new.kept c.self.inside.meter c.self.inside.touched (record c.self.inside.touched { members = noted live.place c.self.inside.touched.members }) key live ends.slot None c.self.invariant.metered refl c.self.invariant.sound.are ends.sound.are at ends.turns ends.under
          (λ host out. let r = not_noted live.place host c.self.inside.touched.members out in (r.0, (r.1, refl))));
    }

pub returns : goal.returns
returns c =
    let kept = c.self.inside.kept in
    let s : State = state_of kept in
    let new : State = state_of c.leave.new.kept in
    let ends = c.leave.ensures.ends in
    let told =
    ap (λ n. doing_of new n) ends.room
    ∙ changed_told s new c.in-Some.key c.in-Some.live ends.slot None kept.room c.self.invariant.sound.are c.in-Some.ensures.at ends.turns ends.drawn ends.under
    ∙ ap (λ n. gave_up n (doing_of s kept.room)) c.in-Some.ensures.is in
    ap (λ date. metered_in (energies date c.self.inside.meter) (doing_of new c.leave.new.kept.room)) ends.turns.date
    ∙ ap (metered_in (energies kept.date c.self.inside.meter)) told
    ∙ ap (gave_up c.args.serial.0) c.self.view_is
