use Rattle.std.proofs.Common.{◌<◌, length, sym, ap, subst, ◌∙◌}
use Rattle.sg_activity.specs.Doing.{Doing}
use Rattle.sg_activity.specs.Underway.{load}
use Rattle.sg_activity.specs.kept.Metered.{energies}
use Rattle.sg_activity.specs.kept.State.{state_of, under_of}
use Rattle.sg_activity.proofs.Metering.{load_metered}
use Rattle.sg_activity.proofs.activities.Activities.load.Goals as goal

pub load-requires : goal.load-requires
load-requires c =
    let is = c.self.invariant in
    record {
      host = subst (λ (d : Doing). c.args.host.0 < length d.under.capacities.hosts) (sym c.self.view_is) c.requires.host;
      tell = record { sound = is.sound; hosts = is.hosts; used = is.used; switches = is.switches; settled = ap (λ (d : Doing). d.settled) c.self.view_is ∙ c.requires.settled };
    }

pub returns : goal.returns
returns c =
    let kept = c.self.inside.kept in
    c.load.ensures.load
    ∙ sym (load_metered (energies kept.date c.self.inside.meter) (under_of (state_of kept)) c.args.host.0)
    ∙ ap (λ (d : Doing). load d.under c.args.host.0) c.self.view_is
