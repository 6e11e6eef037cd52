use Rattle.sg_activity.proofs.Loads.{load_fits_lem}
use Rattle.sg_activity.proofs.laws.load_fits.Goals as goal

pub returns : goal.returns
returns c = load_fits_lem
