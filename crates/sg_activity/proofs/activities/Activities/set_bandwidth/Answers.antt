use Rattle.std.proofs.Common.{◌+◌, ◌<◌, All, length, sym, ap, ap₂, subst, ◌∙◌, false}
use Rattle.sg_activity.specs.Doing.{Doing, set_in}
use Rattle.sg_activity.specs.Hosts.{IsHost}
use Rattle.sg_activity.specs.Links.{at_bandwidth}
use Rattle.sg_activity.specs.Underway.{with_bandwidth}
use Rattle.sg_activity.specs.kept.State.{State, state_of, doing_of}
use Rattle.sg_activity.proofs.Moved.{bandwidth_moved}
use Rattle.sg_activity.specs.kept.Hits.{AreHits}
use Rattle.sg_activity.proofs.Switched.{switches_alike}
use Rattle.sg_activity.proofs.Reset.{used_reset}
use Rattle.sg_activity.specs.Laws.{IsSameHost}
use Rattle.sg_activity.specs.kept.Metered.{energies, metered_in}
use Rattle.sg_activity.specs.kept.State.{under_of}
use Rattle.sg_activity.proofs.Elsewhere.{same_bandwidth}
use Rattle.sg_activity.proofs.Metering.{metered_kept}
use Rattle.sg_activity.proofs.activities.Activities.set_bandwidth.Goals as goal

pub invariant_of-self : goal.invariant_of-self
invariant_of-self c =
    let kept = c.self.inside.kept in
    let s : State = state_of kept in
    let r = c.set_bandwidth.ensures in
    let there : c.args.link.0 < length kept.links.items = subst (λ (d : Doing). c.args.link.0 < length d.under.capacities.links) (sym c.self.view_is) c.requires.link in
    record {
      sound = r.sound;
      hosts = subst (λ (st : State). All IsHost st.capacities.hosts) (sym r.state) c.self.invariant.hosts;
      used = used_reset kept c.set_bandwidth.new.kept (at_bandwidth c.args.link.0 c.args.bandwidth s.capacities) (length kept.hosts.items + c.args.link.0) (bandwidth_moved s.capacities c.args.link.0 c.args.bandwidth there) r c.self.invariant.used;
      switches = switches_alike s (state_of c.set_bandwidth.new.kept) (ap (λ (st : State). st.on) r.state) (ap (λ (st : State). length st.capacities.hosts) r.state ∙ (bandwidth_moved s.capacities c.args.link.0 c.args.bandwidth there).hosts) (ap (λ (st : State). length st.capacities.links) r.state ∙ (bandwidth_moved s.capacities c.args.link.0 c.args.bandwidth there).links) c.self.invariant.switches;
      hit = subst (λ (st : State). AreHits st.on st.slots st.ways c.self.inside.hits) (sym r.state) c.self.invariant.hit;
      metered = metered_kept kept c.set_bandwidth.new.kept c.self.inside.meter c.self.inside.touched c.self.invariant.metered (ap (λ (st : State). length st.capacities.hosts) r.state ∙ (bandwidth_moved s.capacities c.args.link.0 c.args.bandwidth there).hosts) (ap (λ (st : State). st.date) r.state) c.self.invariant.sound.are r.sound.are
          (λ host. subst (λ u. IsSameHost (under_of s) u host) (sym r.told) (same_bandwidth (under_of s) host c.args.link.0 c.args.bandwidth));
    }

pub returns : goal.returns
returns c =
    let r = c.set_bandwidth.ensures in
    let kept = c.self.inside.kept in
    let meter = c.self.inside.meter in
    let lazy = c.set_bandwidth.new.kept.lazy in
    let new : State = record (state_of kept) { capacities = at_bandwidth c.args.link.0 c.args.bandwidth (state_of kept).capacities; runs = lazy.slots; resources = lazy.resources; settled = false } in
    ap (λ date. metered_in (energies date meter) (doing_of (state_of c.set_bandwidth.new.kept) c.set_bandwidth.new.kept.room)) (ap (λ (st : State). st.date) r.state)
    ∙ ap (metered_in (energies kept.date meter)) (ap₂ doing_of r.state r.room ∙ ap (λ u. record (doing_of new kept.room) { under = u }) (sym (ap under_of r.state) ∙ r.told))
    ∙ ap (set_in (with_bandwidth c.args.link.0 c.args.bandwidth)) c.self.view_is
