-- Narrow pieces of variables.
use Rattle.pcc_base.specs.declared.run.Width.TheVariants.{One}
use Rattle.puzzle_board.specs.declared.piece.Kind.TheVariants.{Y}
use Rattle.puzzle_board.specs.declared.piece.Piece.{Piece}
use Rattle.puzzle_solver.specs.declared.order.Candidate.{Candidate}

-- a piece Y of width One
abbrev pub narrow_of : Candidate → Piece
narrow_of c = record { kind = Y; width = One; var = c.variable }
