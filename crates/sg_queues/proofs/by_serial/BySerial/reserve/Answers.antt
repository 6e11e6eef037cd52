use Rattle.std.proofs.Common.{None, slice_index_or, ap, ◌∙◌, rules, arith}
use Rattle.sg_queues.specs.Serials.{at, room, or_else, place, value_in}
use Rattle.sg_queues.proofs.Places.{in_any_case}
use Rattle.sg_queues.proofs.by_serial.BySerial.reserve.Goals as goal

pub returns-in_err-reserve-clause-same : goal.returns-in_err-reserve-clause-same
unfolding at
returns-in_err-reserve-clause-same g c = λ serial.
    let map = c.args.self.now in
    ap (or_else (value_in (slice_index_or map.near.items (place map.mask serial) None) serial)) (c.reserve.ensures.entries.2 serial)

pub returns-in_err-reserve-clause-grows : goal.returns-in_err-reserve-clause-grows
unfolding room
returns-in_err-reserve-clause-grows g c = search rules

pub returns-clause-same : goal.returns-clause-same
unfolding at
returns-clause-same g c = λ serial.
    let map = c.args.self.now in
    c.make_places.ensures.same serial ∙ ap (or_else (value_in (slice_index_or map.near.items (place map.mask serial) None) serial)) (c.reserve.ensures.entries.2 serial)

pub returns-clause-room : goal.returns-clause-room
unfolding room
returns-clause-room g c = in_any_case c.make_places.result (omega (arith, c.make_places.ensures.room, (c.in_ok-reserve.ensures {u = tt}).ok))

pub returns-clause-grows : goal.returns-clause-grows
unfolding room
returns-clause-grows g c = search rules
