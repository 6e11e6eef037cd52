use Rattle.sg_engine_laws.proofs.change_lemmas.Meets.{meetings_tell_both}
use Rattle.sg_engine_laws.proofs.changes.meetings_tell_both.Goals as goal

pub returns : goal.returns
returns c = meetings_tell_both
