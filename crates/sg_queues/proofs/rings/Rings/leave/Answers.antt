use Rattle.std.proofs.Common.{◌∷◌, sym, subst}
use Rattle.sg_queues.specs.Rings.{IsAlone}
use Rattle.sg_queues.specs.kept.Links.{queues_of}
use Rattle.sg_queues.proofs.Moves.{as_walked, seen_is, walked_are, with_left}
use Rattle.sg_queues.proofs.Rows.{left_alone}
use Rattle.sg_queues.proofs.rings.Rings.leave.Goals as goal

pub invariant_of-self : goal.invariant_of-self
invariant_of-self c = as_walked (with_left c.self.invariant c.args.slot (rw (← c.self.view_is) at c.requires) c.exchange_before.ensures.linked c.exchange_before.ensures.exchanged)

pub returns-clause-left : goal.returns-clause-left
returns-clause-left c =
    rw (← c.self.view_is) (seen_is (with_left c.self.invariant c.args.slot (rw (← c.self.view_is) at c.requires) c.exchange_before.ensures.linked c.exchange_before.ensures.exchanged) c.exchange_before.ensures.exchanged.len)

pub returns-clause-alone : goal.returns-clause-alone
returns-clause-alone c =
    let inside = c.self.inside in
    subst (IsAlone c.args.slot) (sym (walked_are (with_left c.self.invariant c.args.slot (rw (← c.self.view_is) at c.requires) c.exchange_before.ensures.linked c.exchange_before.ensures.exchanged)))
    (left_alone c.args.slot (queues_of inside.links.next.items (0 ∷ inside.heads.items)))

pub returns-clause-apart : goal.returns-clause-apart
returns-clause-apart c = (invariant_of-self c).apart
