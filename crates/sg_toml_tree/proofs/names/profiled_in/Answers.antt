use Rattle.sg_toml_tree.proofs.names.profiled_in.Goals as goal

pub returns : goal.returns
returns c = record { speeds = c.in_ok-speeds.ensures; states = c.in_ok-states.ensures }
