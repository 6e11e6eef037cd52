use Rattle.std.proofs.Common.{◌∙◌}
use Rattle.sg_units.specs.Units.{time_units}
use Rattle.sg_units.proofs.PlainNumbers.{front_amount}
use Rattle.sg_units.proofs.readers.read_time.Goals as goal

pub returns-clause-value : goal.returns-clause-value
returns-clause-value c =
    c.whole_value.ensures.value
    ∙ front_amount time_units 1000000000000000000 c.in-Some.front.0 c.args.text.now c.in-Some.front.1.now c.in-Some-time_size.size c.in-Some.ensures c.in-Some-time_size.ensures.size
