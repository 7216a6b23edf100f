use Rattle.puzzle_board.proofs.board.Board.new.Given as goal

abbrev pub ghosts-file_areas : goal.ghosts-file_areas
ghosts-file_areas g a = record { name = a.blank.name; parts = 1 }
