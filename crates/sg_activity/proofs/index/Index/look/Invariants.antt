use Rattle.sg_activity.proofs.index.Index.look.Given as goal

abbrev pub ghosts-look_from : goal.ghosts-look_from
ghosts-look_from a = record { name = a.blank.name; parts = a.blank.parts }
