use Rattle.std.proofs.Common.{◌≡◌, ◌<◌, All, Some, refl, length, true≢false, sym, ap, subst, ◌∙◌}
use Rattle.sg_activity_table.specs.declared.kinds.PhaseKind.TheVariants as phase
use Rattle.sg_activity.specs.Hosts.{IsHost}
use Rattle.sg_activity.specs.Links.{Capacities}
use Rattle.sg_activity.specs.Doing.{Doing, went_on_in}
use Rattle.sg_activity_table.specs.Kinds.{is_held}
use Rattle.sg_activity.specs.Underway.{is_kept}
use Rattle.sg_activity.specs.kept.State.{State, state_of, doing_of}
use Rattle.sg_activity.proofs.Holding.{held_is, kind_found, kind_missed, went_told}
use Rattle.sg_activity.proofs.Switched.{switches_alike}
use Rattle.sg_activity.specs.kept.Metered.{IsMetered, IsWithin, energies, metered_in, noted}
use Rattle.sg_activity_table.specs.Pool.{slot_at}
use Rattle.sg_activity.proofs.Metering.{held_not, metered_turned, not_noted, within_hosts}
use Rattle.sg_activity.specs.Task.{rekinded}
use Rattle.sg_activity.specs.kept.State.{task_of}
use Rattle.sg_activity.proofs.activities.Activities.go_on.Goals as goal

pub unreachable-requires : goal.unreachable-requires
unreachable-requires c =
    let s : State = state_of c.self.inside.kept in
    true≢false (sym c.requires.held ∙ ap (λ (d : Doing). is_kept d.under c.args.serial.0) (sym c.self.view_is) ∙ kind_missed s c.self.invariant.sound.are c.args.serial.0 is_held c.requires.from c.in_default.ensures)

pub go_on-requires : goal.go_on-requires
go_on-requires c =
    let s : State = state_of c.self.inside.kept in
    record {
      kind = held_is c.in-Some.live.kind (sym (kind_found s c.self.invariant.sound.are c.args.serial.0 is_held c.in-Some.key c.in-Some.live c.in-Some.ensures) ∙ ap (λ (d : Doing). is_kept d.under c.args.serial.0) c.self.view_is ∙ c.requires.held);
      there = record { at = c.in-Some.ensures.at; sound = c.self.invariant.sound; used = c.self.invariant.used };
      room = subst (λ (d : Doing). 0 < d.room) (sym c.self.view_is) c.requires.room;
    }

pub note-requires : goal.note-requires
note-requires c = subst (λ n. IsWithin n c.in-Some.live.place) (sym c.self.invariant.metered.room) (within_hosts (state_of c.self.inside.kept) c.in-Some.key c.in-Some.live c.self.invariant.sound.are c.in-Some.ensures.at)

pub invariant_of-self : goal.invariant_of-self
invariant_of-self c =
    let kept = c.self.inside.kept in
    let ends = c.go_on.ensures.goes_on in
    let s : State = state_of kept in
    let key = c.in-Some.key in
    let live = c.in-Some.live in
    let at : slot_at kept.lives.slots key ≡ Some live = c.in-Some.ensures.at in
    record {
      sound = ends.sound;
      hosts = subst (λ (d : Capacities). All IsHost d.hosts) (sym ends.turns.capacities) c.self.invariant.hosts;
      used = c.go_on.ensures.used c.self.invariant.used;
      switches = switches_alike (state_of kept) (state_of c.go_on.new.kept) ends.turns.on (ap (λ (d : Capacities). length d.hosts) ends.turns.capacities) (ap (λ (d : Capacities). length d.links) ends.turns.capacities) c.self.invariant.switches;
      hit = c.go_on.ensures.hit c.self.inside.hits c.self.invariant.hit;
      metered = subst (IsMetered c.go_on.new.kept c.self.inside.meter) (sym c.note.ensures)
          (metered_turned kept c.go_on.new.kept c.self.inside.meter c.self.inside.touched (record c.self.inside.touched { members = noted live.place c.self.inside.touched.members }) key live ends.slot (Some (rekinded phase.Exec (task_of s key live))) c.self.invariant.metered refl c.self.invariant.sound.are ends.sound.are at ends.turns ends.under
          (λ host out. let r = not_noted live.place host c.self.inside.touched.members out in (r.0, (r.1, held_not s key live host r.1))));
    }

pub returns : goal.returns
returns c =
    let kept = c.self.inside.kept in
    let s : State = state_of kept in
    let new : State = state_of c.go_on.new.kept in
    let ends = c.go_on.ensures.goes_on in
    let key = c.in-Some.key in
    let live = c.in-Some.live in
    let is = c.self.invariant.sound.are in
    let kind : live.kind ≡ phase.Kept = held_is live.kind (sym (kind_found s is c.args.serial.0 is_held key live c.in-Some.ensures) ∙ ap (λ (d : Doing). is_kept d.under c.args.serial.0) c.self.view_is ∙ c.requires.held) in
    let told =
    ap (λ n. doing_of new n) ends.room
    ∙ went_told s new key live ends.slot is c.in-Some.ensures.at ends.turns ends.drawn kept.room kind ends.under
    ∙ ap (λ n. went_on_in n (doing_of s kept.room)) c.in-Some.ensures.is in
    ap (λ date. metered_in (energies date c.self.inside.meter) (doing_of new c.go_on.new.kept.room)) ends.turns.date
    ∙ ap (metered_in (energies kept.date c.self.inside.meter)) told
    ∙ ap (went_on_in c.args.serial.0) c.self.view_is
