use Rattle.std.proofs.Common.{◌∙◌, ap, sym, arith}
use Rattle.sg_units.specs.kept.Scaled.{if_at_most}
use Rattle.sg_units.proofs.Scaling.{cancel_up, cancel_down, none_above, some_below}
use Rattle.sg_units.proofs.scale.scaled.Goals as goal

pub returns-then-places-power : goal.returns-then-places-power
returns-then-places-power c = c.raised.ensures ∙ ap (if_at_most c.args.most) (sym (cancel_up c.args.number c.args.power c.args.places c.if-places-power.true))

pub returns-then-value-from : goal.returns-then-value-from
returns-then-value-from c = none_above c.args.most c.lowered-value.result _ (omega arith) (cancel_down c.args.number c.args.power c.args.places (omega arith) ∙ sym c.lowered-value.ensures)

pub returns-else-value-from : goal.returns-else-value-from
returns-else-value-from c = some_below c.args.most c.lowered-value.result _ (omega arith) (cancel_down c.args.number c.args.power c.args.places (omega arith) ∙ sym c.lowered-value.ensures)
