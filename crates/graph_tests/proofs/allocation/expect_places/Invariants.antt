use Rattle.graph_tests.proofs.allocation.expect_places.Given as goal

abbrev pub ghosts-expect_board : goal.ghosts-expect_board
ghosts-expect_board g a = record { name = a.blank.name; parts = 1 }
