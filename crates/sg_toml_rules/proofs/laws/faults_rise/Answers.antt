use Rattle.sg_toml_rules.proofs.Rising.{faults_rise}
use Rattle.sg_toml_rules.proofs.laws.faults_rise.Goals as goal

pub returns : goal.returns
returns c = faults_rise
