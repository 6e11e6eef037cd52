use Rattle.std.proofs.Common.{nat_eq, None, ap, ◌∙◌}
use Rattle.std.specs.HashMap.{get}
use Rattle.sg_queues.specs.Serials.{at, or_else, place, value_in}
use Rattle.std.proofs.Common.{slice_index_or}
use Rattle.sg_queues.proofs.Places.{nothing_in}
use Rattle.sg_queues.proofs.by_serial.BySerial.new.Goals as goal

pub returns : goal.returns
unfolding at
returns g c = λ serial.
    ap (λ l. or_else (value_in (slice_index_or l (place 0 serial) None) serial) (get nat_eq c.new-2.result serial)) c.new.ensures.items
    ∙ nothing_in c.new-2.result c.new-2.ensures.len serial
