use Rattle.std.proofs.Common.{◌∙◌, arith}
use Rattle.sg_platform_rows.proofs.SlotLemmas.{padded}
use Rattle.sg_platform_rows.proofs.names.short_key.Goals as goal

pub returns-in-len6 : goal.returns-in-len6
returns-in-len6 c = c.key_of-in-len6.ensures ∙ padded 6 c.args.name.now (omega (arith, c.in-len6.len_at_least, c.in-len6.len_below))

pub returns-in-len7 : goal.returns-in-len7
returns-in-len7 c = c.key_of-in-len7.ensures ∙ padded 7 c.args.name.now (omega (arith, c.in-len7.len_at_least, c.in-len7.len_below))

pub returns-in-len8 : goal.returns-in-len8
returns-in-len8 c = c.key_of-in-len8.ensures ∙ padded 8 c.args.name.now (omega (arith, c.in-len8.len_at_least, c.in-len8.len_below, c.requires))
