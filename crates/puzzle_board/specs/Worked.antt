-- Small puzzles that the definitions are read on.
use Rattle.std.specs.Prelude.{ℕ, List, [], ◌∷◌}
use Rattle.pcc_base.specs.declared.run.Width.{Width}
use Rattle.pcc_base.specs.declared.run.Width.TheVariants.{One, Two}
use Rattle.puzzle_board.specs.declared.area.Area.{Area}
use Rattle.puzzle_board.specs.declared.area.Column.TheVariants.{Both, Upper}
use Rattle.puzzle_board.specs.declared.piece.Columns.{Columns}
use Rattle.puzzle_board.specs.declared.piece.Columns.TheVariants.{Low, High, All}
use Rattle.puzzle_board.specs.declared.piece.Kind.{Kind}
use Rattle.puzzle_board.specs.declared.piece.Kind.TheVariants.{X, Y, Z}
use Rattle.puzzle_board.specs.declared.piece.Piece.{Piece}
use Rattle.puzzle_board.specs.Placements.{Standing}

abbrev pub bb : Area
bb = record { low = Both; high = Both }

abbrev pub bu : Area
bu = record { low = Both; high = Upper }

abbrev pub uu : Area
uu = record { low = Upper; high = Upper }

abbrev pub one_empty : List Area
one_empty = uu ∷ bb ∷ uu ∷ uu ∷ []

abbrev pub four_empty : List Area
four_empty = bb ∷ bb ∷ bb ∷ bb ∷ []

abbrev pub piece : Kind → Width → Piece
piece kind width = record { kind = kind; width = width; var = 0 }

abbrev pub at : Kind → Width → ℕ → Columns → Standing
at kind width area columns = record { piece = piece kind width; spot = record { area = area; columns = columns } }

-- X2 Z2 Y1
abbrev pub three_pieces : List Piece
three_pieces = piece X Two ∷ piece Z Two ∷ piece Y One ∷ []

-- the wide X above the wide Z, and the Y beside them
abbrev pub three_placed : List Standing
three_placed = at X Two 0 All ∷ at Z Two 0 All ∷ at Y One 1 Low ∷ []

-- X2 Z2 and six Y1
abbrev pub eight_pieces : List Piece
eight_pieces =
    piece X Two ∷ piece Z Two ∷ piece Y One ∷ piece Y One ∷ piece Y One ∷ piece Y One ∷ piece Y One ∷ piece Y One ∷ []

-- the wide X above the wide Z, and two Y in each other area
abbrev pub eight_placed : List Standing
eight_placed =
    at X Two 0 All ∷ at Z Two 0 All ∷ at Y One 1 Low ∷ at Y One 1 High ∷ at Y One 2 Low ∷ at Y One 2 High
    ∷ at Y One 3 Low ∷ at Y One 3 High ∷ []
