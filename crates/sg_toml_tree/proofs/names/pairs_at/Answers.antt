use Rattle.sg_toml_tree.proofs.names.pairs_at.Goals as goal

pub returns : goal.returns
returns c = rw c.rows_at.ensures at c.pairs_in.ensures
