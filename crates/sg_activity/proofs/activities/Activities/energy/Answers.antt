use Rattle.std.proofs.Common.{◌<◌, length, get_or, sym, ap, subst, ◌∙◌, arith}
use Rattle.sg_activity.specs.Doing.{Doing}
use Rattle.sg_activity.proofs.Metering.{energy_told}
use Rattle.sg_activity.proofs.activities.Activities.energy.Goals as goal

pub energy-requires : goal.energy-requires
energy-requires c =
    let is = c.self.invariant in
    let there : c.args.host.0 < length c.self.inside.kept.hosts.items = subst (λ (d : Doing). c.args.host.0 < length d.under.capacities.hosts) (sym c.self.view_is) c.requires in
    record {
      host = omega (arith, there, is.metered.long);
      date = record { from = is.metered.past c.args.host.0; small = is.sound.room.early };
    }

pub returns-clause-energy : goal.returns-clause-energy
returns-clause-energy c =
    let kept = c.self.inside.kept in
    let there : c.args.host.0 < length kept.hosts.items = subst (λ (d : Doing). c.args.host.0 < length d.under.capacities.hosts) (sym c.self.view_is) c.requires in
    c.energy.ensures.energy
    ∙ energy_told c.self.inside.meter kept.date c.args.host.0 (omega (arith, there, c.self.invariant.metered.long))
    ∙ ap (λ (d : Doing). get_or d.under.energy c.args.host.0 0) c.self.view_is
