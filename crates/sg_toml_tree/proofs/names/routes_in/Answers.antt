use Rattle.sg_toml_tree.proofs.names.routes_in.Goals as goal

pub returns : goal.returns
returns c = record {
  pairs = c.in_ok-pairs.ensures.pairs;
  zone_pairs = c.in_ok-pairs.ensures.zone_pairs;
  children = c.in_ok-children.ensures;
}
