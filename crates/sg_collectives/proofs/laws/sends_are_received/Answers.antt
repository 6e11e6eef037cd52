use Rattle.sg_collectives.proofs.Matching.{kinds_agree, sends_are_received}
use Rattle.sg_collectives.proofs.laws.sends_are_received.Goals as goal

pub returns-clause-all : goal.returns-clause-all
returns-clause-all c = sends_are_received

pub returns-clause-kinds : goal.returns-clause-kinds
returns-clause-kinds c = kinds_agree
