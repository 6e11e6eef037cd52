use Rattle.std.proofs.Common.{◌≡◌, Some, sym, ◌∙◌, arith}
use Rattle.sg_activity_table.specs.Pool.{slot_at}
use Rattle.sg_activity.proofs.Bounds.{rebound_one}
use Rattle.sg_activity.proofs.capacities.update_bound.Goals as goal

pub bound_now-requires : goal.bound_now-requires
bound_now-requires c =
    let flows = c.requires.flows in
    let at : slot_at c.args.kept.now.lives.slots c.args.key ≡ Some c.in-Some.live = sym c.get.ensures ∙ c.in-Some.is in
    record {
      key = omega (arith, c.requires.key, flows.rows_long);
      place = flows.places c.args.key c.in-Some.live at;
      row = flows.rows c.args.key c.in-Some.live at;
    }

pub returns : goal.returns
returns c =
    rebound_one c.args.kept.now c.set_bound.new.self c.args.key c.in-Some-bound_now.bound c.in-Some.live c.requires.flows (sym c.get.ensures ∙ c.in-Some.is) (sym c.if-not-takes_share.ensures) (sym c.bound_now.ensures ∙ c.in-Some-bound_now.is) c.set_bound.ensures
