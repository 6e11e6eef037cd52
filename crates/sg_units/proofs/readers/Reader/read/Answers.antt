use Rattle.std.proofs.Common.{◌∙◌}
use Rattle.sg_units.specs.Units.{rows}
use Rattle.sg_units.proofs.PlainNumbers.{front_amount}
use Rattle.sg_units.proofs.readers.Reader.read.Goals as goal

pub returns-clause-value : goal.returns-clause-value
returns-clause-value c =
    c.whole_value.ensures.value
    ∙ front_amount (rows c.args.self.now.units.now) c.args.self.now.greatest c.in-Some.front.0 c.args.text.now c.in-Some.front.1.now c.in-Some-size_of.size c.in-Some.ensures c.in-Some-size_of.ensures.size
