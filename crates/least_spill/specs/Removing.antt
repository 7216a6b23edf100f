-- Removing variables by kind and width of their pieces, one after another.
use Rattle.std.specs.Prelude.{ℕ, ◌≡◌, ◌+◌, ◌≤◌, ◌&&◌, ◌==◌, cond, List, [], count_by}
use Rattle.pcc_base.specs.declared.run.Width.{Width}
use Rattle.puzzle_board.specs.declared.piece.Kind.{Kind}
use Rattle.puzzle_board.specs.declared.piece.Piece.{Piece}
use Rattle.puzzle_board.specs.Boards.{Puzzle, piece_count, remaining, same_letter, same_width, standing}
use Rattle.puzzle_solver.specs.Prefixes.{without_variables}

-- how many of these pieces have the variable
abbrev pub holders : ℕ → List Piece → ℕ
holders variable pieces = count_by (λ p. p.var == variable) pieces

-- how often the variable is among these
abbrev pub occurrences : ℕ → List ℕ → ℕ
occurrences variable variables = count_by (λ v. v == variable) variables

-- no two pieces that remain have one variable
abbrev pub AreApart : Puzzle → Type 0
AreApart board = (variable : ℕ) → holders variable (remaining board) ≤ 1

-- a board is another one without these variables, each of which is named once, and has no piece left
pub record IsWithout (base : Puzzle) (removed : List ℕ) (now : Puzzle) : Type 0 where
  pub board : now ≡ without_variables base removed
  pub once : (variable : ℕ) → occurrences variable removed + holders variable (remaining now) ≤ 1

-- so many pieces of a kind and width were removed, whose variables are named behind those before
pub record IsTaken (kind : Kind) (width : Width) (n : ℕ) (old new : Puzzle) (before after : List ℕ) : Type 0 where
  pub stands : standing new ≡ []
  pub apart : AreApart new
  pub counts :
      (k : Kind) (w : Width)
      → piece_count new k w + cond (same_letter kind k && same_width width w) n 0 ≡ piece_count old k w
  pub without : (base : Puzzle) → IsWithout base before old → IsWithout base after new
