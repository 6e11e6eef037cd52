use Rattle.sg_toml_tree.proofs.name_spaces.names_at.Goals as goal

pub returns : goal.returns
returns c = λ q. rw (c.new-made.ensures.empty) at (c.in_ok-add_names.ensures.added q)
