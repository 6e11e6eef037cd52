use Rattle.std.proofs.Common.{◌≤◌, ◌+◌, is_some, ap, arith}
use Rattle.slab.specs.Slab.{slab_len}
use Rattle.sg_activity_table.proofs.Keeping.{room_for_one, still_free}
use Rattle.sg_activity_table.proofs.lives.+replace_above.Goals as goal

pub insert_reserved-key-requires : goal.insert_reserved-key-requires
insert_reserved-key-requires t c = room_for_one c.args.keys c.args.slab.now (omega (arith, c.capacity-most.ensures.slots, c.capacity-most.ensures.value)) c.requires.free

pub replace_above-below-requires : goal.replace_above-below-requires
replace_above-below-requires t c =
    let slab = c.args.slab.now in
    let keys = c.args.keys in
    let put = c.insert_reserved-key in
    let room : slab_len slab + 1 ≤ slab.capacity = room_for_one keys slab (omega (arith, c.capacity-most.ensures.slots, c.capacity-most.ensures.value)) c.requires.free in
    let large : keys ≤ put.result = omega (arith, c.if-key-keys.false) in (
      omega (arith, c.decreases, put.ensures.len, put.ensures.capacity, room),
      (still_free keys put.result slab put.new.self _ large put.ensures.updates put.ensures.capacity c.requires.free, (ap is_some put.ensures.updates.changed, large)),
    )
