use Rattle.std.proofs.Common.{arith}
use Rattle.std.proofs.lemmas.List.{get_or_read}
use Rattle.sg_queues.proofs.Exchanges.{within}
use Rattle.sg_queues.proofs.links.Links.next_of.Goals as goal

pub returns-clause-is : goal.returns-clause-is
returns-clause-is c = get_or_read c.args.self.now.next.items c.args.node _ c.requires.node c.index.ensures c.args.node

pub returns-clause-within : goal.returns-clause-within
returns-clause-within c = omega (arith, returns-clause-is c, within c.requires.linked c.args.node c.requires.node)
