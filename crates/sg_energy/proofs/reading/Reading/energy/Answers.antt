use Rattle.std.proofs.Common.{◌+◌, ◌-◌, ◌*◌, ◌/◌, ◌%◌, ◌^◌, refl, ap, ◌∙◌}
use Rattle.sg_energy.proofs.Amounts.{energy_grows}
use Rattle.sg_energy.proofs.reading.Reading.energy.Goals as goal

pub returns-clause-energy : goal.returns-clause-energy
returns-clause-energy c =
    let r = c.args.self in
    let span = c.args.date - r.since in
    let millijoules = c.from.result * (span / 1000000000) in
    let sum = r.rest + millijoules % 1000 * 1000000000 + r.power * (span % 1000000000) in
    ap (λ n. (r.joules + millijoules / 1000 + n) * 10 ^ 12 + sum % 1000000000000) c.from-2.ensures
    ∙ energy_grows r.joules r.rest r.power span millijoules sum (ap (λ n. n * (span / 1000000000)) c.from.ensures) refl
