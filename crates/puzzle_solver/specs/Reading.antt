-- The text of a board as a map from bytes: words of two letters behind a space, as far as there are any.
use Rattle.std.specs.Prelude.{ℕ, suc, Bool, false, ◌≡◌, ◌≢◌, ◌==◌, if◌then◌else◌, List}
use Rattle.std.specs.Prelude.{[], ◌∷◌, ◌++◌, codes, map, Option, Some, None}
use Rattle.pcc_base.specs.Ascii.{newline, space, digit_one, digit_two, capital_x, capital_y, capital_z, letter_b}
use Rattle.pcc_base.specs.Ascii.{letter_l, letter_n, letter_u}
use Rattle.pcc_base.specs.declared.run.Width.{Width}
use Rattle.pcc_base.specs.declared.run.Width.TheVariants.{One, Two}
use Rattle.puzzle_board.specs.declared.area.Area.{Area}
use Rattle.puzzle_board.specs.declared.area.Column.{Column}
use Rattle.puzzle_board.specs.declared.area.Column.TheVariants.{Both, Upper, Lower, Neither}
use Rattle.puzzle_board.specs.declared.piece.Kind.{Kind}
use Rattle.puzzle_board.specs.declared.piece.Kind.TheVariants.{X, Y, Z}
use Rattle.puzzle_board.specs.declared.piece.Piece.{Piece}
use Rattle.puzzle_board.specs.declared.piece.State.TheVariants.{Unplaced}
use Rattle.puzzle_board.specs.Boards.{Puzzle}
use Rattle.puzzle_solver.specs.Texts.{IsNumbered, area_word, board_text, kind_letter, spaced, width_digit}

-- ---- letters

abbrev pub column_of : ℕ → Option Column
column_of n =
    if n == letter_b then Some Both
    else (if n == letter_u then Some Upper else
    (if n == letter_l then Some Lower else (if n == letter_n then Some Neither else None)))

abbrev pub kind_of_letter : ℕ → Option Kind
kind_of_letter n =
    if n == capital_x then Some X else (if n == capital_y then Some Y else (if n == capital_z then Some Z else None))

abbrev pub width_of_digit : ℕ → Option Width
width_of_digit n = if n == digit_one then Some One else (if n == digit_two then Some Two else None)

abbrev pub both_of : {A B C : Type 0} → (A → B → C) → Option A → Option B → Option C
both_of f (Some a) (Some b) = Some (f a b)
both_of f (Some a) None = None
both_of f None o = None

-- the area of two letters
abbrev pub area_of : ℕ → ℕ → Option Area
area_of a b = both_of (λ low high. record { low = low; high = high }) (column_of a) (column_of b)

-- the kind and the width of a letter and a digit
abbrev pub shape_of : ℕ → ℕ → Option (Kind × Width)
shape_of a b = both_of (λ kind width. (kind, width)) (kind_of_letter a) (width_of_digit b)

-- ---- words

-- the first word of a text, behind a space, by its two letters
abbrev pub word_at : {A : Type 0} → (ℕ → ℕ → Option A) → List ℕ → Option A
word_at f [] = None
word_at f (s ∷ []) = None
word_at f (s ∷ a ∷ []) = None
word_at f (s ∷ a ∷ b ∷ rest) = if s == space then f a b else None

abbrev pub words_by : {A : Type 0} → Option A → List ℕ → List A × List ℕ → List A × List ℕ
words_by None text more = ([], text)
words_by (Some word) text more = (word ∷ more.0, more.1)

-- the words of a text, as far as there are any, and what is behind them
abbrev pub words_read : {A : Type 0} → (ℕ → ℕ → Option A) → List ℕ → List A × List ℕ
words_read f [] = ([], [])
words_read f (s ∷ []) = ([], s ∷ [])
words_read f (s ∷ a ∷ []) = ([], s ∷ a ∷ [])
words_read f (s ∷ a ∷ b ∷ rest) =
    words_by (word_at f (s ∷ a ∷ b ∷ rest)) (s ∷ a ∷ b ∷ rest) (words_read f rest)

abbrev pub is_newline : List ℕ → Bool
is_newline [] = false
is_newline (b ∷ []) = b == newline
is_newline (b ∷ c ∷ rest) = false

-- ---- boards

-- a kind and a width
abbrev pub shape_word : Kind × Width → List ℕ
shape_word s = kind_letter s.0 ∷ width_digit s.1 ∷ []

-- the text of a board by its areas and its pieces' kinds and widths
abbrev pub shapes_text : List Area → List (Kind × Width) → List ℕ
shapes_text areas shapes =
    codes "areas"
    ++ (spaced (map area_word areas) ++ newline ∷ (codes "pieces" ++ (spaced (map shape_word shapes) ++ newline ∷ [])))

-- pieces of these kinds and widths, with the variables from n on
abbrev pub pieces_from : ℕ → List (Kind × Width) → List Piece
pieces_from n [] = []
pieces_from n (s ∷ shapes) = record { kind = s.0; width = s.1; var = n } ∷ pieces_from (suc n) shapes

-- the board of these areas and pieces, none of which is placed or removed
abbrev pub fresh_board : List Area → List Piece → Puzzle
fresh_board areas pieces = record { areas = areas; pieces = pieces; states = map (λ p. Unplaced) pieces }

-- the text is this board's, and nothing is placed or removed
pub record IsReadAs (text : List ℕ) (board : Puzzle) : Type 0 where
  pub numbered : IsNumbered 0 board.pieces
  pub text_is : text ≡ board_text board.areas board.pieces
  pub fresh : board ≡ fresh_board board.areas board.pieces

-- the text is no board's
abbrev pub IsNoBoard : List ℕ → Type 0
IsNoBoard text = (areas : List Area) (pieces : List Piece) → IsNumbered 0 pieces → text ≢ board_text areas pieces
