use Rattle.sg_toml_tree.proofs.names.actors_in.Goals as goal

pub returns : goal.returns
returns c = record {
  actors = c.in_ok-actors.ensures;
  workers = rw c.rows_at.ensures at c.in_ok-workers.ensures;
}
