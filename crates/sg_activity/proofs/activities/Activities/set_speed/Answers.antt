use Rattle.std.proofs.Common.{◌<◌, None, All, length, sym, ap, ap₂, subst, ◌∙◌, false}
use Rattle.std.proofs.lemmas.List.Elements.{All-set}
use Rattle.sg_activity.specs.Doing.{Doing, set_in}
use Rattle.sg_activity.specs.Hosts.{IsHost, host_at}
use Rattle.sg_activity.specs.Links.{at_speed}
use Rattle.sg_activity.specs.Underway.{with_speed}
use Rattle.sg_activity.specs.kept.State.{State, state_of, doing_of}
use Rattle.sg_activity.proofs.Moved.{speed_moved}
use Rattle.sg_activity.specs.kept.Hits.{AreHits}
use Rattle.sg_activity.proofs.Switched.{switches_alike}
use Rattle.sg_activity.proofs.Reset.{used_reset}
use Rattle.sg_activity.specs.Laws.{IsSameHost}
use Rattle.sg_activity.specs.kept.Metered.{IsMetered, energies, metered_in}
use Rattle.sg_activity.specs.kept.State.{under_of}
use Rattle.sg_activity.proofs.Elsewhere.{same_speed}
use Rattle.sg_activity.proofs.Metering.{metered_marked}
use Rattle.sg_activity.proofs.activities.Activities.set_speed.Goals as goal

pub invariant_of-self : goal.invariant_of-self
invariant_of-self c =
    let kept = c.self.inside.kept in
    let s : State = state_of kept in
    let r = c.set_speed.ensures in
    let there : c.args.host.0 < length kept.hosts.items = subst (λ (d : Doing). c.args.host.0 < length d.under.capacities.hosts) (sym c.self.view_is) c.requires.host in
    let was : IsHost (host_at kept.hosts.items c.args.host.0) = c.self.invariant.hosts c.args.host.0 (record { speed = 0; cores = 0; power = None }) there in
    let long = ap (λ (st : State). length st.capacities.hosts) r.state ∙ (speed_moved s.capacities c.args.host.0 c.args.speed).hosts in
    record {
      sound = r.sound;
      hosts = subst (λ (st : State). All IsHost st.capacities.hosts) (sym r.state) (All-set IsHost kept.hosts.items c.args.host.0 (record (host_at kept.hosts.items c.args.host.0) { speed = c.args.speed }) (record { speed = c.requires.speed; cores = was.cores; power = was.power }) c.self.invariant.hosts);
      used = used_reset kept c.set_speed.new.kept (at_speed c.args.host.0 c.args.speed s.capacities) c.args.host.0 (speed_moved s.capacities c.args.host.0 c.args.speed) r c.self.invariant.used;
      switches = switches_alike s (state_of c.set_speed.new.kept) (ap (λ (st : State). st.on) r.state) (ap (λ (st : State). length st.capacities.hosts) r.state ∙ (speed_moved s.capacities c.args.host.0 c.args.speed).hosts) (ap (λ (st : State). length st.capacities.links) r.state ∙ (speed_moved s.capacities c.args.host.0 c.args.speed).links) c.self.invariant.switches;
      hit = subst (λ (st : State). AreHits st.on st.slots st.ways c.self.inside.hits) (sym r.state) c.self.invariant.hit;
      metered = subst (IsMetered c.set_speed.new.kept c.self.inside.meter) (sym c.insert.ensures)
          (metered_marked kept c.set_speed.new.kept c.self.inside.meter c.self.inside.touched c.args.host.0 c.self.invariant.metered long (ap (λ (st : State). st.date) r.state) c.self.invariant.sound.are r.sound.are
          (λ host ne. subst (λ u. IsSameHost (under_of s) u host) (sym r.told) (same_speed (under_of s) host c.args.host.0 c.args.speed ne)));
    }

pub returns : goal.returns
returns c =
    let r = c.set_speed.ensures in
    let kept = c.self.inside.kept in
    let meter = c.self.inside.meter in
    let lazy = c.set_speed.new.kept.lazy in
    let new : State = record (state_of kept) { capacities = at_speed c.args.host.0 c.args.speed (state_of kept).capacities; runs = lazy.slots; resources = lazy.resources; settled = false } in
    ap (λ date. metered_in (energies date meter) (doing_of (state_of c.set_speed.new.kept) c.set_speed.new.kept.room)) (ap (λ (st : State). st.date) r.state)
    ∙ ap (metered_in (energies kept.date meter)) (ap₂ doing_of r.state r.room ∙ ap (λ u. record (doing_of new kept.room) { under = u }) (sym (ap under_of r.state) ∙ r.told))
    ∙ ap (set_in (with_speed c.args.host.0 c.args.speed)) c.self.view_is
