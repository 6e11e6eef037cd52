use Rattle.std.proofs.Common.{refl, arith}
use Rattle.sg_queues.proofs.Moves.{first_is, head_within}
use Rattle.sg_queues.proofs.rings.Rings.idle.Goals as goal

pub next_of-first-requires-clause-node : goal.next_of-first-requires-clause-node
next_of-first-requires-clause-node c = head_within c.self.invariant 0 0 (omega arith) refl

pub returns-else-first-eq-IDLE : goal.returns-else-first-eq-IDLE
returns-else-first-eq-IDLE c =
    rw (← c.self.view_is) (first_is c.self.invariant 0 c.next_of-first.result 0 (omega arith) refl c.next_of-first.ensures.is c.if-first-eq-IDLE.false)
