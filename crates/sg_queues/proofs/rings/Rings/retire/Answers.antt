use Rattle.std.proofs.Common.{refl, arith}
use Rattle.sg_queues.proofs.Moves.{alone_as, as_walked, head_within, seen_is, with_joined}
use Rattle.sg_queues.proofs.rings.Rings.retire.Goals as goal

pub exchange_before-requires-clause-node : goal.exchange_before-requires-clause-node
exchange_before-requires-clause-node c = head_within c.self.invariant 0 0 (omega arith) refl

pub invariant_of-self : goal.invariant_of-self
invariant_of-self c =
    as_walked (with_joined c.self.invariant c.args.slot 0 0 (rw (← c.self.view_is) at c.requires.slot) (alone_as c.args.slot c.self.view_is c.requires.alone) (omega arith) refl c.exchange_before.ensures.linked c.exchange_before.ensures.exchanged)

pub returns-clause-idle : goal.returns-clause-idle
returns-clause-idle c =
    rw (← c.self.view_is)
    (seen_is (with_joined c.self.invariant c.args.slot 0 0 (rw (← c.self.view_is) at c.requires.slot) (alone_as c.args.slot c.self.view_is c.requires.alone) (omega arith) refl c.exchange_before.ensures.linked c.exchange_before.ensures.exchanged)
    c.exchange_before.ensures.exchanged.len)

pub returns-clause-apart : goal.returns-clause-apart
returns-clause-apart c = (invariant_of-self c).apart
