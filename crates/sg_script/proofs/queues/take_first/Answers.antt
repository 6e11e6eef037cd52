use Rattle.sg_script.proofs.QueueLemmas.{limited_alone}
use Rattle.sg_script.proofs.queues.take_first.Goals as goal

pub returns-in-Some-clause-limited : goal.returns-in-Some-clause-limited
returns-in-Some-clause-limited c = λ extent exist all. limited_alone extent c.args.lines.now.items c.take_alone.new.lines.items c.in-Some.action c.in-Some.ensures all
