use Rattle.std.proofs.Common.{Some, arith}
use Rattle.sg_activity_table.proofs.Keeping.{room_for_one, still_free}
use Rattle.sg_activity_table.proofs.lives.insert_below.Goals as goal

pub insert_reserved-key-requires : goal.insert_reserved-key-requires
insert_reserved-key-requires c = room_for_one c.args.keys c.args.slab.now (omega (arith, c.capacity-most.ensures.slots, c.capacity-most.ensures.value)) c.requires

pub replace_above-requires-clause-free : goal.replace_above-requires-clause-free
replace_above-requires-clause-free c =
    let put = c.insert_reserved-key in
    still_free c.args.keys put.result c.args.slab.now put.new.self (Some c.args.cell) (omega (arith, c.if-key-keys.false)) put.ensures.updates put.ensures.capacity c.requires
