use Rattle.simgrid_replay.proofs.fitting.unscripted_replay.Goals as goal

pub returns-else-script-clause-is : goal.returns-else-script-clause-is
returns-else-script-clause-is c = rw c.if-script.false c.first_replay.ensures.is
