use Rattle.puzzle_board.proofs.board.Board.reset.Given as goal

abbrev pub ghosts-lift_pieces : goal.ghosts-lift_pieces
ghosts-lift_pieces g a = record { name = a.blank.name; parts = 1 }

abbrev pub ghosts-free_areas : goal.ghosts-free_areas
ghosts-free_areas g a = record { name = a.blank.name; parts = 1 }
