use Rattle.sg_toml_tree.proofs.names.locks_in.Goals as goal

pub returns : goal.returns
returns c = record {
  mutexes = c.in_ok-mutexes.ensures;
  semaphores = c.in_ok-semaphores.ensures;
}
