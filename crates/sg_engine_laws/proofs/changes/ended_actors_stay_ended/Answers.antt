use Rattle.sg_engine_laws.proofs.change_lemmas.Ended.{ended_actors_stay_ended}
use Rattle.sg_engine_laws.proofs.changes.ended_actors_stay_ended.Goals as goal

pub returns : goal.returns
returns c = ended_actors_stay_ended
