use Rattle.std.proofs.Common.{◌∙◌}
use Rattle.sg_words.proofs.Numbers.{read_err, read_ok}
use Rattle.sg_words.proofs.reading.number_of.Goals as goal

pub returns-in-Ok-clause-value : goal.returns-in-Ok-clause-value
returns-in-Ok-clause-value c = c.within.ensures.value ∙ read_ok _ c.args.text.now c.parse.result c.in-Ok.n c.args.least c.args.most c.parse.ensures.value.0 c.in-Ok.is

pub returns-in-Err-clause-value : goal.returns-in-Err-clause-value
returns-in-Err-clause-value c = read_err _ c.args.text.now c.parse.result _ c.args.least c.args.most c.parse.ensures.value.0 c.in-Err.is
