use Rattle.std.proofs.Common.{arith}
use Rattle.std.proofs.lemmas.List.{get_or_read}
use Rattle.sg_queues.proofs.Exchanges.{turned, within}
use Rattle.sg_queues.proofs.links.Links.prev_of.Goals as goal

pub returns-clause-is : goal.returns-clause-is
returns-clause-is c = get_or_read c.args.self.now.prev.items c.args.node _ (omega (arith, c.requires.linked.len)) c.index.ensures c.args.node

pub returns-clause-within : goal.returns-clause-within
returns-clause-within c = omega (arith, returns-clause-is c, within (turned c.requires.linked) c.args.node (omega (arith, c.requires.linked.len)), c.requires.linked.len)
