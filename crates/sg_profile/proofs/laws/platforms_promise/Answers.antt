use Rattle.sg_profile.proofs.Promises.{platforms_promise}
use Rattle.sg_profile.proofs.laws.platforms_promise.Goals as goal

pub returns : goal.returns
returns c = platforms_promise
