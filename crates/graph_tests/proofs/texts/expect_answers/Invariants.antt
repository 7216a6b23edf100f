use Rattle.graph_tests.proofs.texts.expect_answers.Given as goal

abbrev pub ghosts-solved_with : goal.ghosts-solved_with
ghosts-solved_with g a = record { name = a.blank.name; parts = a.blank.parts }
