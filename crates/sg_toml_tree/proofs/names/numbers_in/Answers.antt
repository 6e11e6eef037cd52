use Rattle.sg_toml_tree.proofs.names.numbers_in.Goals as goal

pub returns : goal.returns
returns c = rw (c.rows_at-zones.ensures, c.rows_at-hosts.ensures, c.rows_at.ensures) at c.points_of.ensures
