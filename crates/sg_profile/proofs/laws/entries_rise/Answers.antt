use Rattle.sg_profile.proofs.Rising.{entries_rise}
use Rattle.sg_profile.proofs.laws.entries_rise.Goals as goal

pub returns : goal.returns
returns c = entries_rise
