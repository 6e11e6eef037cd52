use Rattle.sg_units.proofs.NumberTexts.{longest_number}
use Rattle.sg_units.proofs.laws.number_is_longest.Goals as goal

pub returns : goal.returns
returns c = longest_number
