use Rattle.puzzle_board.proofs.board.Board.remove_var.Given as goal

abbrev pub ghosts-remove_pieces : goal.ghosts-remove_pieces
ghosts-remove_pieces g a = record { name = a.blank.name; parts = 1 }
