use Rattle.sg_script.proofs.Repeating.{repeats}
use Rattle.sg_script.proofs.laws.faults_repeat.Goals as goal

pub returns : goal.returns
returns c = repeats
