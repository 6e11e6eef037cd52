use Rattle.std.proofs.Common.{None, slice_index_or, ap, arith}
use Rattle.sg_queues.specs.Serials.{at, room, or_else, place, value_in}
use Rattle.sg_queues.proofs.by_serial.BySerial.trim.Goals as goal

pub returns-then-wanted-capacity-clause-same : goal.returns-then-wanted-capacity-clause-same
unfolding at
returns-then-wanted-capacity-clause-same g c = λ serial.
    let map = c.args.self.now in
    ap (or_else (value_in (slice_index_or map.near.items (place map.mask serial) None) serial)) (c.shrink_to.ensures.entries.2 serial)

pub returns-then-wanted-capacity-clause-room : goal.returns-then-wanted-capacity-clause-room
unfolding room
returns-then-wanted-capacity-clause-room g c =
    omega (arith, c.shrink_to.ensures.lower_bound, c.shrink_to.ensures.entries.1, c.saturating_add-wanted.ensures, c.len.ensures.len, c.capacity.ensures, c.if-wanted-capacity.true)
