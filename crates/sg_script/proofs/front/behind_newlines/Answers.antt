use Rattle.sg_script.proofs.front.behind_newlines.Goals as goal

pub returns-in-Over-clause-front : goal.returns-in-Over-clause-front
returns-in-Over-clause-front c = rw c.in-Over.is (c.last_line.ensures.front c.args.before)
