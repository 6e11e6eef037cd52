use Rattle.sg_activity.proofs.power.set_powers.Goals as goal

pub set_each-requires-clause-meter : goal.set_each-requires-clause-meter
set_each-requires-clause-meter c =
    let metered = c.requires.metered in
    record { few = metered.few; tell = c.requires.tell; meters = metered.long; past = metered.past }
