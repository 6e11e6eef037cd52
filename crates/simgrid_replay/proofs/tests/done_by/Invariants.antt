use Rattle.simgrid_replay.proofs.tests.done_by.Given as goal

abbrev pub ghosts-code_of : goal.ghosts-code_of
ghosts-code_of g a = record { name = a.blank.name; parts = a.blank.parts }
