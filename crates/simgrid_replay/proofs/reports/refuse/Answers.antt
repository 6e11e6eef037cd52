use Rattle.std.proofs.Common.{refl}
use Rattle.sg_engine.proofs.Fronts.{fronts_none}
use Rattle.simgrid_replay.proofs.reports.refuse.Goals as goal

pub returns-in-Memory-clause-prints : goal.returns-in-Memory-clause-prints
returns-in-Memory-clause-prints g c = fronts_none _ _ _ _ refl refl
