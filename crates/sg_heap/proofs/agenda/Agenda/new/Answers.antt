use Rattle.std.proofs.Common.{ap, arith}
use Rattle.sg_heap.specs.Agenda.{with_slots}
use Rattle.sg_heap.proofs.Whole.{empty_agenda, empty_keys}
use Rattle.sg_heap.proofs.agenda.Agenda.new.Goals as goal

pub invariant_of-result : goal.invariant_of-result
invariant_of-result c = rw (c.new.ensures.items, c.new-2.ensures.items) (record { agenda = empty_agenda; few = omega arith; heap_fits = omega arith; place_fits = omega arith })

pub returns : goal.returns
returns c = rw (c.new.ensures.items, c.new-2.ensures.items) (ap (with_slots 0) empty_keys)
