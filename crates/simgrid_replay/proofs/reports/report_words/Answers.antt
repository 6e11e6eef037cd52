use Rattle.std.proofs.Common.{refl}
use Rattle.sg_engine.proofs.Fronts.{fronts_none}
use Rattle.simgrid_replay.proofs.WordLemmas.{tells_nothing}
use Rattle.simgrid_replay.proofs.reports.report_words.Goals as goal

pub returns-in-Memory-clause-tells : goal.returns-in-Memory-clause-tells
returns-in-Memory-clause-tells g c = λ kinds asked answers some. tells_nothing kinds _ _ _ some (fronts_none _ _ _ _ refl refl)

pub returns-in-Memory-clause-silent : goal.returns-in-Memory-clause-silent
returns-in-Memory-clause-silent g c = λ asked answers. (refl, fronts_none _ _ _ _ refl refl)
