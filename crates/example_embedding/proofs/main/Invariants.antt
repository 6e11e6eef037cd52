use Rattle.example_embedding.proofs.main.Given as goal

abbrev pub ghosts-simulate : goal.ghosts-simulate
ghosts-simulate g a = record { name = a.blank.name; parts = a.blank.parts }
