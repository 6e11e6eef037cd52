use Rattle.std.proofs.Common.{◌<◌, length, take, get_or, sym, subst, ◌∙◌, arith}
use Rattle.std.proofs.lemmas.List.{take_all, take_more}
use Rattle.std.proofs.lemmas.List.Elements.{All-get_or}
use Rattle.sg_activity.specs.kept.Metered.{AreTold}
use Rattle.sg_activity.specs.kept.State.{state_of, under_of}
use Rattle.sg_activity.proofs.Metering.{told_more, told_none}
use Rattle.sg_activity.proofs.power.set_each.Goals as goal

pub loop-host-init : goal.loop-host-init
loop-host-init c = told_none (under_of (state_of c.args.kept.now)) c.args.meter.now c.requires.meter.past

pub set_power-requires-clause-meter : goal.set_power-requires-clause-meter
set_power-requires-clause-meter c =
    let can = c.requires.meter in
    let inv = c.loop-host.invariant in
    record { few = can.few; tell = can.tell; meters = inv.long ∙ can.meters; past = inv.past }

pub loop-host-preserved : goal.loop-host-preserved
loop-host-preserved c =
    let u = under_of (state_of c.args.kept.now) in
    let hosts = c.args.hosts.now in
    let i = c.loop-host.host-index in
    let inv = c.loop-host.invariant in
    let below : get_or hosts i 0 < length c.args.kept.now.hosts.items = All-get_or (λ host. host < length c.args.kept.now.hosts.items) hosts i 0 c.loop-host-test.true c.requires.hosts in
    subst (AreTold u c.args.meter.now c.set_power.new.meter) (sym (take_more hosts i 0 c.loop-host-test.true))
    (told_more u c.args.meter.now c.loop-host.meter c.set_power.new.meter (take i hosts) (get_or hosts i 0) inv (omega (arith, below, inv.long, c.requires.meter.meters)) c.set_power.ensures)

pub returns : goal.returns
returns c =
    let u = under_of (state_of c.args.kept.now) in
    let hosts = c.args.hosts.now in
    subst (AreTold u c.args.meter.now c.loop-host.meter) (take_all c.loop-host.host-index hosts (omega (arith, c.loop-host-test.false))) c.loop-host.invariant
