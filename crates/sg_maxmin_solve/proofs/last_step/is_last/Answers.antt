use Rattle.sg_maxmin_solve.proofs.Last.{last_at}
use Rattle.sg_maxmin_solve.proofs.last_step.is_last.Goals as goal
use Rattle.std.proofs.Common.{arith}

pub returns-then-low : goal.returns-then-low
returns-then-low c = λ e.
    let at = c.requires in
    last_at c.args.system.now c.args.touched.now c.args.reached.now c.args.low c.args.filling.now
    (record { joined = at.joined; places = at.places; above = at.above; floor = at.floor; taken = at.taken; counted = at.counted; dated = at.dated; fresh = at.fresh })
    (c.has_keys.ensures.none c.if-has_keys.false) c.args.low.at.first (omega (arith, c.if-low.true, at.taken.few)) (c.holds_all.ensures.level e) (c.holds_all.ensures.weight e)
