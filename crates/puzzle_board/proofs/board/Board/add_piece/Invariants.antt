use Rattle.puzzle_board.proofs.board.Board.add_piece.Given as goal

abbrev pub ghosts-file_piece : goal.ghosts-file_piece
ghosts-file_piece g a = record { name = a.blank.name; parts = 1 }
