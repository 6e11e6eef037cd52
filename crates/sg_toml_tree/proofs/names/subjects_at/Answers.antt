use Rattle.sg_toml_tree.proofs.names.subjects_at.Goals as goal

pub returns : goal.returns
returns c = rw c.rows_at.ensures at c.of_rows.ensures
