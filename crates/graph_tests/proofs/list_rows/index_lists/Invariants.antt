use Rattle.graph_tests.proofs.list_rows.index_lists.Given as goal

abbrev pub ghosts-expect_row : goal.ghosts-expect_row
ghosts-expect_row b a = record { name = a.blank.name; parts = 1 }
