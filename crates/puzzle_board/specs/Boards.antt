-- What a contract sees of a board, what each call leaves, and what every board keeps.
use Rattle.std.specs.Prelude.{ℕ, ◌≡◌, ◌≤◌, Bool, true, false, ◌&&◌, ◌==◌, if◌then◌else◌, IsTrue, List, [], ◌∷◌}
use Rattle.std.specs.Prelude.{◌++◌, length, map, count_by, Option, Some, None, slice_get, slice_set}
use Rattle.pcc_base.specs.declared.run.Width.{Width}
use Rattle.pcc_base.specs.declared.run.Width.TheVariants.{One, Two}
use Rattle.puzzle_board.specs.declared.area.Area.{Area}
use Rattle.puzzle_board.specs.declared.area.AreaKind.{AreaKind}
use Rattle.puzzle_board.specs.declared.piece.Kind.{Kind}
use Rattle.puzzle_board.specs.declared.piece.Kind.TheVariants.{X, Y, Z}
use Rattle.puzzle_board.specs.declared.piece.Piece.{Piece}
use Rattle.puzzle_board.specs.declared.piece.Spot.{Spot}
use Rattle.puzzle_board.specs.declared.piece.State.{State}
use Rattle.puzzle_board.specs.declared.piece.State.TheVariants.{Unplaced, At, Removed}
use Rattle.puzzle_board.specs.Areas.{kind_of, same_kind}
use Rattle.puzzle_board.specs.Placements.{Standing, fits, IsLegal, clear_all}

-- a board: its areas as they were given, its pieces in the order in which they were added, and what has become of each
pub record Puzzle : Type 0 where
  pub areas : List Area
  pub pieces : List Piece
  pub states : List State

-- ---- the pieces by what has become of them

-- the pieces that stand somewhere, each with its spot
abbrev pub standing_in : List Piece → List State → List Standing
standing_in [] states = []
standing_in (p ∷ pieces) [] = []
standing_in (p ∷ pieces) (Unplaced ∷ states) = standing_in pieces states
standing_in (p ∷ pieces) (At spot ∷ states) = record { piece = p; spot = spot } ∷ standing_in pieces states
standing_in (p ∷ pieces) (Removed ∷ states) = standing_in pieces states

-- the pieces that are neither placed nor removed
abbrev pub unplaced_in : List Piece → List State → List Piece
unplaced_in [] states = []
unplaced_in (p ∷ pieces) [] = []
unplaced_in (p ∷ pieces) (Unplaced ∷ states) = p ∷ unplaced_in pieces states
unplaced_in (p ∷ pieces) (At spot ∷ states) = unplaced_in pieces states
unplaced_in (p ∷ pieces) (Removed ∷ states) = unplaced_in pieces states

-- the pieces that aren't removed
abbrev pub remaining_in : List Piece → List State → List Piece
remaining_in [] states = []
remaining_in (p ∷ pieces) [] = []
remaining_in (p ∷ pieces) (Unplaced ∷ states) = p ∷ remaining_in pieces states
remaining_in (p ∷ pieces) (At spot ∷ states) = p ∷ remaining_in pieces states
remaining_in (p ∷ pieces) (Removed ∷ states) = remaining_in pieces states

abbrev pub standing : Puzzle → List Standing
standing board = standing_in board.pieces board.states

abbrev pub unplaced : Puzzle → List Piece
unplaced board = unplaced_in board.pieces board.states

abbrev pub remaining : Puzzle → List Piece
remaining board = remaining_in board.pieces board.states

-- the areas with the cells that are free now
abbrev pub free_areas : Puzzle → List Area
free_areas board = clear_all board.areas (standing board)

-- ---- found and counted by kind

-- how many areas are of this kind
abbrev pub areas_of_kind : List Area → AreaKind → ℕ
areas_of_kind areas kind = count_by (λ a. same_kind (kind_of a) kind) areas

-- how many areas are of this kind now
abbrev pub area_count : Puzzle → AreaKind → ℕ
area_count board kind = areas_of_kind (free_areas board) kind

-- area number `area` is of this kind now
abbrev pub IsAreaOf : Puzzle → AreaKind → ℕ → Type 0
IsAreaOf board kind area = slice_get (map kind_of (free_areas board)) area ≡ Some kind

abbrev pub same_letter : Kind → Kind → Bool
same_letter X X = true
same_letter X Y = false
same_letter X Z = false
same_letter Y X = false
same_letter Y Y = true
same_letter Y Z = false
same_letter Z X = false
same_letter Z Y = false
same_letter Z Z = true

abbrev pub same_width : Width → Width → Bool
same_width One One = true
same_width One Two = false
same_width Two One = false
same_width Two Two = true

-- the piece is of this kind and width
abbrev pub is_piece : Kind → Width → Piece → Bool
is_piece kind width p = same_letter p.kind kind && same_width p.width width

-- how many pieces are of this kind and width
abbrev pub pieces_of : List Piece → Kind → Width → ℕ
pieces_of pieces kind width = count_by (is_piece kind width) pieces

-- how many pieces of this kind and width are neither placed nor removed
abbrev pub piece_count : Puzzle → Kind → Width → ℕ
piece_count board kind width = pieces_of (unplaced board) kind width

abbrev pub is_unplaced : State → Bool
is_unplaced Unplaced = true
is_unplaced (At spot) = false
is_unplaced Removed = false

-- piece number `number` is this one, neither placed nor removed
pub record IsUnplaced (board : Puzzle) (number : ℕ) (p : Piece) : Type 0 where
  pub is : slice_get board.pieces number ≡ Some p
  pub unplaced : slice_get board.states number ≡ Some Unplaced

-- piece number `number` of these is of this kind and width, and neither placed nor removed
abbrev pub IsUnplacedIn : List Piece → List State → Kind → Width → ℕ → Type 0
IsUnplacedIn pieces states kind width number =
    (p : Piece) × (slice_get pieces number ≡ Some p) × (slice_get states number ≡ Some Unplaced) × (p.kind ≡ kind)
    × (p.width ≡ width)

abbrev pub IsUnplacedOf : Puzzle → Kind → Width → ℕ → Type 0
IsUnplacedOf board kind width number = IsUnplacedIn board.pieces board.states kind width number

-- the piece is unplaced, and fits there on free cells
abbrev pub IsPlaceable : Puzzle → ℕ → Spot → Type 0
IsPlaceable board number spot =
    (p : Piece) × IsUnplaced board number p
    × IsTrue (fits (free_areas board) (record { piece = p; spot = spot }))

abbrev pub spot_in : Option State → Option Spot
spot_in None = None
spot_in (Some Unplaced) = None
spot_in (Some (At spot)) = Some spot
spot_in (Some Removed) = None

-- where the piece stands, if it does
abbrev pub spot_of : Puzzle → ℕ → Option Spot
spot_of board piece = spot_in (slice_get board.states piece)

-- ---- what each call leaves

-- a board with these areas and no pieces
abbrev pub board_of : List Area → Puzzle
board_of areas = record { areas = areas; pieces = []; states = [] }

-- one piece more, unplaced, with the next number
abbrev pub with_piece : Puzzle → Piece → Puzzle
with_piece board p = record board { pieces = board.pieces ++ p ∷ []; states = board.states ++ Unplaced ∷ [] }

-- the piece stands there
abbrev pub with_spot : Puzzle → ℕ → Spot → Puzzle
with_spot board piece spot = record board { states = slice_set board.states piece (At spot) }

-- the states with the variable's pieces removed
abbrev pub removed_in : List Piece → List State → ℕ → List State
removed_in [] states variable = states
removed_in (p ∷ pieces) [] variable = []
removed_in (p ∷ pieces) (s ∷ states) variable =
    (if p.var == variable then Removed else s) ∷ removed_in pieces states variable

-- the variable's pieces are removed
abbrev pub without_variable : Puzzle → ℕ → Puzzle
without_variable board variable = record board { states = removed_in board.pieces board.states variable }

abbrev pub lifted : State → State
lifted Unplaced = Unplaced
lifted (At spot) = Unplaced
lifted Removed = Removed

-- no piece is placed; those that were are unplaced
abbrev pub with_none_placed : Puzzle → Puzzle
with_none_placed board = record board { states = map lifted board.states }

-- ---- what every board keeps

-- each piece has a state, the placed ones stand legally, and the numbers of areas and pieces have 32 bits
pub record IsBoard (board : Puzzle) : Type 0 where
  pub states : length board.states ≡ length board.pieces
  pub legal : IsLegal board.areas (standing board)
  pub few_areas : length board.areas ≤ 0xffffffff
  pub few_pieces : length board.pieces ≤ 0xffffffff

-- and the free cells that it keeps beside them are those that the placed pieces leave
pub record IsKept (board : Puzzle) (free : List Area) : Type 0 where
  pub kept : IsBoard board
  pub left : free ≡ free_areas board
