use Rattle.sg_units.proofs.PlainNumbers.{plain_amount}
use Rattle.sg_units.proofs.readers.amount_without_unit.Goals as goal

pub returns-in-Some-clause-value : goal.returns-in-Some-clause-value
returns-in-Some-clause-value c = plain_amount c.args.greatest c.in-Some.n c.args.text.now c.in-Some.ensures c.if-n-greatest.true
