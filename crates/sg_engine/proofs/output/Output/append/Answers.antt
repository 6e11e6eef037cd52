use Rattle.sg_edge.proofs.Writing.{written_none}
use Rattle.sg_engine.proofs.output.Output.append.Goals as goal

pub returns-then-self-clause-front : goal.returns-then-self-clause-front
returns-then-self-clause-front g c = (c.args.text.now, written_none c.args.text.now _)
