use Rattle.std.proofs.Common.{All, length, sym, ap, ap₂, subst, ◌∙◌}
use Rattle.sg_activity.specs.Doing.{switched_in}
use Rattle.sg_activity.specs.Hosts.{IsHost}
use Rattle.sg_activity.specs.Underway.{with_link_on}
use Rattle.sg_activity.specs.kept.Index.{IsIndexed}
use Rattle.sg_activity.specs.kept.State.{State, state_of, doing_of}
use Rattle.sg_activity.specs.Laws.{IsSameHost}
use Rattle.sg_activity.specs.kept.Metered.{energies, metered_in}
use Rattle.sg_activity.specs.kept.State.{under_of}
use Rattle.sg_activity.proofs.Elsewhere.{same_link_on}
use Rattle.sg_activity.proofs.Metering.{metered_kept}
use Rattle.sg_activity.proofs.activities.Activities.set_link_on.Goals as goal

pub invariant_of-self : goal.invariant_of-self
invariant_of-self c =
    let s : State = state_of c.self.inside.kept in
    let r = c.set_link_on.ensures.flips in
    record {
      sound = r.sound;
      hosts = subst (λ (st : State). All IsHost st.capacities.hosts) (sym r.state) c.self.invariant.hosts;
      used = subst (λ (st : State). IsIndexed st.capacities st.slots st.ways c.set_link_on.new.kept.room c.set_link_on.new.kept.index) (sym r.state) (subst (λ n. IsIndexed s.capacities s.slots s.ways n c.set_link_on.new.kept.index) (sym r.room) (subst (IsIndexed s.capacities s.slots s.ways c.self.inside.kept.room) (sym r.index) c.self.invariant.used));
      switches = c.set_link_on.ensures.switches;
      hit = c.set_link_on.ensures.hit;
      metered = metered_kept c.self.inside.kept c.set_link_on.new.kept c.self.inside.meter c.self.inside.touched c.self.invariant.metered (ap (λ (st : State). length st.capacities.hosts) r.state) (ap (λ (st : State). st.date) r.state) c.self.invariant.sound.are r.sound.are
          (λ host. subst (λ u. IsSameHost (under_of s) u host) (sym (ap under_of r.state)) (same_link_on (under_of s) host c.args.link.0 c.args.on));
    }

pub returns : goal.returns
returns c =
    let r = c.set_link_on.ensures.flips in
    let kept = c.self.inside.kept in
    let meter = c.self.inside.meter in
    ap (λ date. metered_in (energies date meter) (doing_of (state_of c.set_link_on.new.kept) c.set_link_on.new.kept.room)) (ap (λ (st : State). st.date) r.state)
    ∙ ap (metered_in (energies kept.date meter)) (ap₂ doing_of r.state r.room)
    ∙ ap (switched_in (with_link_on c.args.link.0 c.args.on)) c.self.view_is
