use Rattle.sg_toml_tree.proofs.names.names_in.Goals as goal

pub returns : goal.returns
returns c = rw c.rows_at.ensures at c.names_at.ensures
