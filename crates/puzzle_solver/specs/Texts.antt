-- The text of a board, and that of a placement. Lines end in a newline, and words are separated by one space (ours).
use Rattle.std.specs.Prelude.{ℕ, suc, ◌≡◌, List, [], ◌∷◌, ◌++◌, codes, decimal, map}
use Rattle.pcc_base.specs.Ascii.{newline, space, digit_one, digit_two, capital_x, capital_y, capital_z, letter_b}
use Rattle.pcc_base.specs.Ascii.{letter_l, letter_n, letter_u}
use Rattle.pcc_base.specs.declared.run.Width.{Width}
use Rattle.pcc_base.specs.declared.run.Width.TheVariants.{One, Two}
use Rattle.puzzle_board.specs.declared.area.Area.{Area}
use Rattle.puzzle_board.specs.declared.area.Column.{Column}
use Rattle.puzzle_board.specs.declared.area.Column.TheVariants.{Both, Upper, Lower, Neither}
use Rattle.puzzle_board.specs.declared.piece.Columns.{Columns}
use Rattle.puzzle_board.specs.declared.piece.Columns.TheVariants.{Low, High, All}
use Rattle.puzzle_board.specs.declared.piece.Kind.{Kind}
use Rattle.puzzle_board.specs.declared.piece.Kind.TheVariants.{X, Y, Z}
use Rattle.puzzle_board.specs.declared.piece.Piece.{Piece}
use Rattle.puzzle_board.specs.declared.piece.Spot.{Spot}
use Rattle.puzzle_board.specs.declared.piece.State.{State}
use Rattle.puzzle_board.specs.declared.piece.State.TheVariants.{Unplaced, At, Removed}
use Rattle.puzzle_board.specs.Boards.{Puzzle}

-- ---- words

-- which rows of a column are free: `b` both, `u` upper, `l` lower, `n` neither
abbrev pub letter_of : Column → ℕ
letter_of Both = letter_b
letter_of Upper = letter_u
letter_of Lower = letter_l
letter_of Neither = letter_n

-- an area, its low column first
abbrev pub area_word : Area → List ℕ
area_word a = letter_of a.low ∷ letter_of a.high ∷ []

abbrev pub kind_letter : Kind → ℕ
kind_letter X = capital_x
kind_letter Y = capital_y
kind_letter Z = capital_z

abbrev pub width_digit : Width → ℕ
width_digit One = digit_one
width_digit Two = digit_two

-- a piece, without its variable
abbrev pub piece_word : Piece → List ℕ
piece_word p = kind_letter p.kind ∷ width_digit p.width ∷ []

-- each of these words behind a space
abbrev pub spaced : List (List ℕ) → List ℕ
spaced [] = []
spaced (w ∷ words) = space ∷ (w ++ spaced words)

-- ---- boards

-- piece i has variable i, from n on
abbrev pub IsNumbered : ℕ → List Piece → Type 0
IsNumbered n [] = Unit {0}
IsNumbered n (p ∷ pieces) = (p.var ≡ n) × IsNumbered (suc n) pieces

-- the text of a board: a line of areas and a line of pieces, and nothing behind them
abbrev pub board_text : List Area → List Piece → List ℕ
board_text areas pieces =
    codes "areas"
    ++ (spaced (map area_word areas) ++ newline ∷ (codes "pieces" ++ (spaced (map piece_word pieces) ++ newline ∷ [])))

-- ---- placements

abbrev pub columns_word : Columns → List ℕ
columns_word Low = codes "low"
columns_word High = codes "high"
columns_word All = codes "all"

-- the line of a piece that stands somewhere: its number, its word, its area and its columns
abbrev pub placed_line : ℕ → Piece → Spot → List ℕ
placed_line number p spot =
    decimal number
    ++ (space ∷ (piece_word p
    ++ (space ∷ (decimal spot.area ++ (space ∷ (columns_word spot.columns ++ newline ∷ []))))))

-- any other piece has none
abbrev pub line_of : ℕ → Piece → State → List ℕ
line_of number p Unplaced = []
line_of number p (At spot) = placed_line number p spot
line_of number p Removed = []

-- the lines of these pieces, of which the first has this number
abbrev pub lines_from : ℕ → List Piece → List State → List ℕ
lines_from number [] states = []
lines_from number (p ∷ pieces) [] = []
lines_from number (p ∷ pieces) (s ∷ states) = line_of number p s ++ lines_from (suc number) pieces states

-- the text of a placement: a line for each piece that stands somewhere, in the order of the pieces
abbrev pub placement_text : Puzzle → List ℕ
placement_text board = lines_from 0 board.pieces board.states
