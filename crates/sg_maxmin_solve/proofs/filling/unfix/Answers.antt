use Rattle.std.proofs.Common.{◌<◌, length, get_or, arith}
use Rattle.std.proofs.lemmas.List.Elements.{All-get_or, All-from_get_or}
use Rattle.sg_maxmin.specs.Sharing.{uses_at}
use Rattle.sg_maxmin_solve.specs.Filling.{weight_on}
use Rattle.sg_maxmin.proofs.Listed.{part_le}
use Rattle.sg_maxmin.proofs.Users.{rows_exist}
use Rattle.sg_maxmin_solve.proofs.filling.unfix.Goals as goal

pub add_uses-requires-clause-exist : goal.add_uses-requires-clause-exist
add_uses-requires-clause-exist g c =
    let s = c.args.system.now in
    let flow = get_or c.args.touched.now c.loop-flow.flow-index 0 in
    let row = uses_at s.slots flow in
    All-from_get_or (λ x. x < length c.loop-flow.waiting) row 0 (λ i h.
    let below : get_or row i 0 < length s.capacities = All-get_or (λ x. x < length s.capacities) row i 0 h (rows_exist s c.requires.part.sound flow) in
    omega (arith, below, c.requires.waiting))

pub add_uses-requires-clause-fits : goal.add_uses-requires-clause-fits
add_uses-requires-clause-fits g c = λ x.
    let s = c.args.system.now in
    omega (arith, c.requires.fits x, c.loop-flow.invariant.waiting x, part_le (λ n. weight_on s.slots n x) c.args.touched.now c.loop-flow.flow-index c.loop-flow-test.true)
