-- What a board is worth, from its counts.
use Rattle.std.proofs.Common.{ℕ, ◌≡◌, ◌*◌, ◌≤◌, List, [], ◌∷◌, length, arith}
use Rattle.std.proofs.lemmas.List.Sums.{sum_by-cons}
use Rattle.puzzle_board.specs.declared.area.Area.{Area}
use Rattle.puzzle_board.specs.declared.area.AreaKind.{AreaKind}
use Rattle.puzzle_board.specs.declared.area.AreaKind.TheVariants.{E, U1, L1, C, U0, L0, UpperLower, UpperNone}
use Rattle.puzzle_board.specs.declared.area.AreaKind.TheVariants.{LowerNone, Full}
use Rattle.puzzle_board.specs.Areas.{kind_of}
use Rattle.puzzle_board.specs.Boards.{Puzzle, free_areas}
use Rattle.puzzle_board.specs.Bounds.{both_of, lower_of, upper_of}
use Rattle.puzzle_board.specs.Worth.{both_price, lower_price, upper_price, worth}
use Rattle.puzzle_board.proofs.Prices.{worth-total}
use Rattle.puzzle_solver.specs.declared.board_counts.AreaCounts.{AreaCounts}
use Rattle.puzzle_solver.specs.declared.board_counts.PieceCounts.{PieceCounts}
use Rattle.puzzle_solver.specs.Plans.{numbers}
use Rattle.puzzle_solver.specs.Counting.{AreasAre}

pub both-worth :
    (board : Puzzle) (a : AreaCounts) (p : PieceCounts) → AreasAre board a
    → worth both_price (free_areas board) ≡ both_of (numbers a p)
both-worth board a p counts = omega (arith, worth-total both_price (free_areas board))

pub upper-worth :
    (board : Puzzle) (a : AreaCounts) (p : PieceCounts) → AreasAre board a
    → worth upper_price (free_areas board) ≡ upper_of (numbers a p)
upper-worth board a p counts = omega (arith, worth-total upper_price (free_areas board))

pub lower-worth :
    (board : Puzzle) (a : AreaCounts) (p : PieceCounts) → AreasAre board a
    → worth lower_price (free_areas board) ≡ lower_of (numbers a p)
lower-worth board a p counts = omega (arith, worth-total lower_price (free_areas board))

upper-most : (k : AreaKind) → upper_price k ≤ 2
upper-most E = omega arith
upper-most U1 = omega arith
upper-most L1 = omega arith
upper-most C = omega arith
upper-most U0 = omega arith
upper-most L0 = omega arith
upper-most UpperLower = omega arith
upper-most UpperNone = omega arith
upper-most LowerNone = omega arith
upper-most Full = omega arith

lower-most : (k : AreaKind) → lower_price k ≤ 2
lower-most E = omega arith
lower-most U1 = omega arith
lower-most L1 = omega arith
lower-most C = omega arith
lower-most U0 = omega arith
lower-most L0 = omega arith
lower-most UpperLower = omega arith
lower-most UpperNone = omega arith
lower-most LowerNone = omega arith
lower-most Full = omega arith

-- an area has two cells in each row
most :
    (prices : AreaKind → ℕ) → ((k : AreaKind) → prices k ≤ 2) → (areas : List Area)
    → worth prices areas ≤ 2 * length areas
most prices two [] = omega arith
most prices two (a ∷ areas) =
    omega (arith, sum_by-cons (λ b. prices (kind_of b)) a areas, two (kind_of a), most prices two areas)

pub upper-worth-most : (areas : List Area) → worth upper_price areas ≤ 2 * length areas
upper-worth-most areas = most upper_price upper-most areas

pub lower-worth-most : (areas : List Area) → worth lower_price areas ≤ 2 * length areas
lower-worth-most areas = most lower_price lower-most areas
