use Rattle.graph_tests.proofs.solving.spots.Given as goal

abbrev pub ghosts-spots_with : goal.ghosts-spots_with
ghosts-spots_with g a = record { name = a.blank.name; parts = a.blank.parts }
