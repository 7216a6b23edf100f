use Rattle.graph_tests.proofs.solving.spilled_at.Given as goal

abbrev pub ghosts-spilled_with : goal.ghosts-spilled_with
ghosts-spilled_with g a = record { name = a.blank.name; parts = a.blank.parts }
