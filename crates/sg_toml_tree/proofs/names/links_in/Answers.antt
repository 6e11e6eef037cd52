use Rattle.sg_toml_tree.proofs.names.links_in.Goals as goal

pub returns : goal.returns
returns c = record {
  taken = rw c.rows_at-rows.ensures at c.in_ok-taken.ensures;
  declared = rw c.rows_at-rows.ensures at c.in_ok-declared.ensures;
}
