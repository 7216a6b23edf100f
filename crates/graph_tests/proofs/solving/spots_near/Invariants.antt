use Rattle.graph_tests.proofs.solving.spots_near.Given as goal

abbrev pub ghosts-spots_near_with : goal.ghosts-spots_near_with
ghosts-spots_near_with g a = record { name = a.blank.name; parts = a.blank.parts }
