use Rattle.sg_platform.proofs.build.read_table.Goals as goal

pub returns-clause-rows : goal.returns-clause-rows
returns-clause-rows g c = rw (← c.take_rows-rows.ensures.rows) c.read_rows.ensures
