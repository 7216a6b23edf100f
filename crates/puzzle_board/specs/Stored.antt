-- How a board is kept: the free cells of each area, its areas by kind and its unplaced pieces by kind and width.
use Rattle.std.specs.Prelude.{ℕ, ◌≡◌, ◌≤◌, ◌<◌, Bool, IsTrue, List, [], ◌∷◌, length, Option, Some, None, slice_get}
use Rattle.std.specs.List.Sorted.{IsNonDecreasingBy}
use Rattle.pcc_base.specs.declared.run.Width.{Width}
use Rattle.pcc_base.specs.declared.run.Width.TheVariants.{One, Two}
use Rattle.index_lists.specs.Lists.{Lists}
use Rattle.puzzle_board.specs.declared.area.Area.{Area}
use Rattle.puzzle_board.specs.declared.piece.Kind.{Kind}
use Rattle.puzzle_board.specs.declared.piece.Kind.TheVariants.{X, Y, Z}
use Rattle.puzzle_board.specs.declared.piece.Piece.{Piece}
use Rattle.puzzle_board.specs.declared.piece.State.{State}
use Rattle.puzzle_board.specs.declared.piece.State.TheVariants.{Unplaced, At, Removed}
use Rattle.puzzle_board.specs.Areas.{kind_of, place_of_kind}
use Rattle.puzzle_board.specs.Boards.{Puzzle, IsKept}
use Rattle.puzzle_board.specs.Classes.{IsFiled}

-- areas are filed by kind
abbrev pub area_classes : List Area → List (Option ℕ)
area_classes [] = []
area_classes (a ∷ areas) = Some (place_of_kind (kind_of a)) ∷ area_classes areas

-- kinds and widths of pieces, numbered
abbrev pub place_of_piece : Kind → Width → ℕ
place_of_piece X One = 0
place_of_piece X Two = 1
place_of_piece Y One = 2
place_of_piece Y Two = 3
place_of_piece Z One = 4
place_of_piece Z Two = 5

-- an unplaced piece is filed by kind and width, any other nowhere
abbrev pub piece_class : Piece → State → Option ℕ
piece_class p Unplaced = Some (place_of_piece p.kind p.width)
piece_class p (At spot) = None
piece_class p Removed = None

abbrev pub piece_classes : List Piece → List State → List (Option ℕ)
piece_classes [] states = []
piece_classes (p ∷ pieces) [] = []
piece_classes (p ∷ pieces) (s ∷ states) = piece_class p s ∷ piece_classes pieces states

-- the variables of the pieces never fall
abbrev pub IsAscending : List Piece → Type 0
IsAscending pieces = IsNonDecreasingBy (λ p. p.var) pieces

-- all pieces of the variable have numbers from `from` on and below `to`
pub record IsSpan (pieces : List Piece) (variable from to : ℕ) : Type 0 where
  pub ordered : from ≤ to
  pub within : to ≤ length pieces
  pub all : (number : ℕ) (p : Piece) → slice_get pieces number ≡ Some p → p.var ≡ variable
      → (from ≤ number) × (number < to)

-- what is kept of a board, and whether its variables ascend
pub record IsStored (board : Puzzle) (free : List Area) (by_kind waiting : Lists) (rises : Bool) : Type 0 where
  pub kept : IsKept board free
  pub areas : IsFiled by_kind 10 (area_classes free)
  pub pieces : IsFiled waiting 6 (piece_classes board.pieces board.states)
  pub nodes : waiting.nodes ≡ length board.pieces
  pub ascending : IsTrue rises → IsAscending board.pieces
