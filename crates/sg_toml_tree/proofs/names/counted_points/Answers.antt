use Rattle.sg_toml_tree.proofs.names.counted_points.Goals as goal

pub returns : goal.returns
returns c = record {
  zones = c.in_ok-zones.ensures;
  hosts = c.in_ok-hosts.ensures;
  numbers = c.in_ok-numbers.ensures;
}
