use Rattle.std.proofs.Common.{length, sym, ap, ap₂, subst, ◌∙◌}
use Rattle.sg_activity.specs.kept.Metered.{AreFirst, energies, metered_in}
use Rattle.sg_activity.specs.kept.State.{doing_of, state_of}
use Rattle.sg_activity.proofs.Metering.{first_energies, first_metered}
use Rattle.sg_activity.proofs.activities.Activities.new.Goals as goal

pub invariant_of-result : goal.invariant_of-result
invariant_of-result c =
    let parts = c.in_ok-parts.parts in
    let is = c.in_ok-parts.ensures in
    record {
      sound = is.sound;
      hosts = is.are_hosts;
      used = is.used;
      switches = is.switches;
      hit = is.hit;
      metered = first_metered parts.kept c.in_ok-meter.meter c.in_ok-meter.touched (subst (λ n. AreFirst n c.in_ok-meter.meter c.in_ok-meter.touched) (ap length (sym is.hosts_are)) c.in_ok-meter.ensures);
    }

pub returns : goal.returns
returns c =
    let parts = c.in_ok-parts.parts in
    let is = c.in_ok-parts.ensures in
    let meter = c.in_ok-meter.meter in
    ap (λ e. metered_in e (doing_of (state_of parts.kept) parts.kept.room)) (ap₂ energies is.date c.in_ok-meter.ensures.meters_are ∙ first_energies (length c.args.hosts.now))
    ∙ is.told
