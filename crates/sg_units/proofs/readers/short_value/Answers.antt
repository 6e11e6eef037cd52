use Rattle.std.proofs.Common.{◌≡◌, true, rules}
use Rattle.sg_units.specs.Amount.{is_short}
use Rattle.sg_units.specs.kept.Shown.{parts_of}
use Rattle.sg_units.proofs.Values.{limited_some, limited_none}
use Rattle.sg_units.proofs.readers.short_value.Goals as goal

pub returns-in-Some : goal.returns-in-Some
returns-in-Some c =
    let short : is_short (parts_of c.args.number.now) ≡ true = search rules in
    limited_some c.args.greatest c.in-Some.value _ _ _ _ (parts_of c.args.number.now) c.args.size
    record { digits = c.digits_of.ensures.value; times = c.from.ensures; power = c.powers_of-power.ensures.power; places = c.powers_of-power.ensures.places }
    short c.requires.size.positive c.in-Some.ensures

pub returns-in-None : goal.returns-in-None
returns-in-None c =
    let short : is_short (parts_of c.args.number.now) ≡ true = search rules in
    limited_none c.args.greatest _ _ _ _ (parts_of c.args.number.now) c.args.size
    record { digits = c.digits_of.ensures.value; times = c.from.ensures; power = c.powers_of-power.ensures.power; places = c.powers_of-power.ensures.places }
    short c.requires.size.positive c.in-None.ensures
