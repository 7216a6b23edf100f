use Rattle.graph_tests.proofs.fewest.removed_of.Given as goal

abbrev pub ghosts-removed_with : goal.ghosts-removed_with
ghosts-removed_with g a = record { name = a.blank.name; parts = a.blank.parts }
