use Rattle.std.proofs.Common.{Some, arith}
use Rattle.sg_maxmin.proofs.CellLemmas.{room_for_one, still_free}
use Rattle.sg_maxmin.proofs.slots.insert_below.Goals as goal

pub insert_reserved-i-requires : goal.insert_reserved-i-requires
insert_reserved-i-requires c = room_for_one c.args.slab.now (omega (arith, c.capacity-most.ensures.slots, c.capacity-most.ensures.value)) c.requires

pub replace_above-requires-clause-number : goal.replace_above-requires-clause-number
replace_above-requires-clause-number c =
    let put = c.insert_reserved-i in
    still_free c.args.slab.now put.new.self put.result (Some c.args.cell) (omega (arith, c.if-i-lt-MOST.false)) put.ensures.updates put.ensures.capacity c.requires
