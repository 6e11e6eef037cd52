use Rattle.sg_profile.proofs.Promises.{entries_exist}
use Rattle.sg_profile.proofs.laws.entries_exist.Goals as goal

pub returns : goal.returns
returns c = entries_exist
