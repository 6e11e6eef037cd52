use Rattle.std.proofs.Common.{◌≡◌, [], Some, refl, length, sym, ap, subst, ◌∙◌}
use Rattle.std.proofs.Common.{All}
use Rattle.sg_activity.specs.Hosts.{IsHost}
use Rattle.sg_activity.specs.Links.{Capacities}
use Rattle.sg_activity.specs.Doing.{Doing, ended_in}
use Rattle.sg_activity.specs.kept.State.{State, state_of, doing_of}
use Rattle.sg_activity.proofs.Switched.{switches_alike}
use Rattle.sg_activity.proofs.Due.{none_due_told, ended_told}
use Rattle.sg_activity.specs.kept.Metered.{IsMetered, energies, metered_in, noted, IsWithin}
use Rattle.sg_activity_table.specs.Pool.{slot_at}
use Rattle.sg_activity.proofs.Metering.{metered_ended, metered_turned, next_not, not_noted, within_hosts}
use Rattle.sg_activity.specs.Task.{next_phase}
use Rattle.sg_activity.specs.kept.State.{task_of}
use Rattle.sg_activity.proofs.activities.Activities.finish.Goals as goal

pub unreachable-requires : goal.unreachable-requires
unreachable-requires c =
    let kept = c.self.inside.kept in
    let s : State = state_of kept in
    c.requires (subst (λ (d : Doing). d.due ≡ []) c.self.view_is (none_due_told s c.self.invariant.sound.are kept.room c.in_default.ensures))

pub end_phase-requires : goal.end_phase-requires
end_phase-requires c = record {
  there = record { at = c.in-Some.ensures.at; sound = c.self.invariant.sound; used = c.self.invariant.used };
  hit = c.self.invariant.hit;
}

pub note-requires : goal.note-requires
note-requires c = subst (λ n. IsWithin n c.in-Some.live.place) (sym c.self.invariant.metered.room) (within_hosts (state_of c.self.inside.kept) c.in-Some.key c.in-Some.live c.self.invariant.sound.are c.in-Some.ensures.at)

pub invariant_of-self : goal.invariant_of-self
invariant_of-self c =
    let ends = c.end_phase.ensures.ends in
    let kept = c.self.inside.kept in
    let s : State = state_of kept in
    let key = c.in-Some.key in
    let live = c.in-Some.live in
    let at : slot_at kept.lives.slots key ≡ Some live = c.in-Some.ensures.at in
    record {
      sound = ends.sound;
      hosts = subst (λ (d : Capacities). All IsHost d.hosts) (sym ends.turns.capacities) c.self.invariant.hosts;
      used = c.end_phase.ensures.known.used;
      switches = switches_alike (state_of c.self.inside.kept) (state_of c.end_phase.new.kept) ends.turns.on (ap (λ (d : Capacities). length d.hosts) ends.turns.capacities) (ap (λ (d : Capacities). length d.links) ends.turns.capacities) c.self.invariant.switches;
      hit = c.end_phase.ensures.known.hit;
      metered = subst (IsMetered c.end_phase.new.kept c.self.inside.meter) (sym c.note.ensures)
          (metered_turned kept c.end_phase.new.kept c.self.inside.meter c.self.inside.touched (record c.self.inside.touched { members = noted live.place c.self.inside.touched.members }) key live ends.slot (next_phase live.kind (task_of s key live)) c.self.invariant.metered refl c.self.invariant.sound.are ends.sound.are at ends.turns ends.under
          (λ host out. let r = not_noted live.place host c.self.inside.touched.members out in (r.0, (r.1, next_not s key live host r.1))));
    }

pub returns : goal.returns
returns c =
    let kept = c.self.inside.kept in
    let s : State = state_of kept in
    let new : State = state_of c.end_phase.new.kept in
    let ends = c.end_phase.ensures.ends in
    let told =
    ap (λ n. doing_of new n) ends.room
    ∙ ended_told s c.self.invariant.sound.are c.in-Some.key c.in-Some.live c.in-Some.ensures new ends.slot kept.room ends.turns ends.drawn ends.under in
    ap (λ date. metered_in (energies date c.self.inside.meter) (doing_of new c.end_phase.new.kept.room)) ends.turns.date
    ∙ ap (metered_in (energies kept.date c.self.inside.meter)) told
    ∙ metered_ended (energies kept.date c.self.inside.meter) (doing_of s kept.room)
    ∙ ap ended_in c.self.view_is
