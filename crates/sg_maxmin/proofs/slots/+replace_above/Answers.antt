use Rattle.std.proofs.Common.{◌≤◌, ◌+◌, is_some, ap, arith}
use Rattle.slab.specs.Slab.{slab_len}
use Rattle.sg_maxmin.specs.kept.Slots.{nothing}
use Rattle.sg_maxmin.proofs.CellLemmas.{room_for_one, still_free}
use Rattle.sg_maxmin.proofs.slots.+replace_above.Goals as goal

pub insert_reserved-i-requires : goal.insert_reserved-i-requires
insert_reserved-i-requires t c = room_for_one c.args.slab.now (omega (arith, c.capacity-most.ensures.slots, c.capacity-most.ensures.value)) c.requires.number

pub replace_above-below-requires : goal.replace_above-below-requires
replace_above-below-requires t c =
    let slab = c.args.slab.now in
    let put = c.insert_reserved-i in
    let room : slab_len slab + 1 ≤ slab.capacity = room_for_one slab (omega (arith, c.capacity-most.ensures.slots, c.capacity-most.ensures.value)) c.requires.number in
    let large : nothing ≤ put.result = omega (arith, c.if-i-lt-MOST.false) in (
      omega (arith, c.decreases, put.ensures.len, put.ensures.capacity, room),
      (still_free slab put.new.self put.result _ large put.ensures.updates put.ensures.capacity c.requires.number, (ap is_some put.ensures.updates.changed, large)),
    )
