use Rattle.sg_platform.proofs.BadTomls.{bad_toml_exactly}
use Rattle.sg_platform.proofs.laws.bad_toml_exactly.Goals as goal

pub returns : goal.returns
returns c = bad_toml_exactly
