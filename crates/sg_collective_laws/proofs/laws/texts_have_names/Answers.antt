use Rattle.sg_collective_laws.proofs.ReadNames.{texts_have_names}
use Rattle.sg_collective_laws.proofs.laws.texts_have_names.Goals as goal

pub returns : goal.returns
returns c = texts_have_names
