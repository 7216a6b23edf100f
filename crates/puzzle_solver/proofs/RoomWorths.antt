-- The columns of a board have room for what it is worth.
use Rattle.std.proofs.Common.{ℕ, ◌≡◌, ◌+◌, ◌≤◌, refl, sym, ◌∙◌, ap, subst, Bool, IsTrue, ◌==◌, cond, List, [], ◌∷◌}
use Rattle.std.proofs.Common.{length, arith}
use Rattle.std.proofs.lemmas.Bool.{eqb-true}
use Rattle.std.proofs.lemmas.List.Sums.{sum_by-cons}
use Rattle.puzzle_board.specs.declared.area.Area.{Area}
use Rattle.puzzle_board.specs.declared.area.AreaKind.{AreaKind}
use Rattle.puzzle_board.specs.declared.area.Column.{Column}
use Rattle.puzzle_board.specs.declared.piece.Kind.{Kind}
use Rattle.puzzle_board.specs.declared.piece.Kind.TheVariants.{X, Y, Z}
use Rattle.puzzle_board.specs.Areas.{fits_column, kind_of}
use Rattle.puzzle_board.specs.Worth.{both_price, lower_price, upper_price, worth}
use Rattle.puzzle_board.proofs.Prices.{all_columns, all_columns-at, all_letters, all_letters-at}
use Rattle.puzzle_board.specs.Boards.{Puzzle, free_areas, standing}
use Rattle.puzzle_board.proofs.Kept.{length-clear_all}
use Rattle.puzzle_solver.specs.Columns.{IsRoom, IsWaiting, columns, columns_from, room}
use Rattle.puzzle_solver.specs.Counting.{IsReady}
use Rattle.puzzle_solver.specs.Onward.{IsOnward}
use Rattle.puzzle_solver.proofs.Rooms.{from-end, from-none}

-- the free cells that a piece of this kind and of width One asks for, by kind of area
abbrev pub price_of : Kind → AreaKind → ℕ
price_of X = upper_price
price_of Y = both_price
price_of Z = lower_price

abbrev counts_alike : (low high : Column) → Kind → Bool
counts_alike low high k =
    let a : Area = record { low = low; high = high } in
    cond (fits_column k low) 1 0 + cond (fits_column k high) 1 0 == price_of k (kind_of a)

counted_alike : (a : Area) (k : Kind) → IsTrue (counts_alike a.low a.high k)
counted_alike a k =
    all_letters-at
    (λ k. counts_alike a.low a.high k)
    (all_columns-at
    (λ high. all_letters (λ k. counts_alike a.low high k))
    (all_columns-at (λ low. all_columns (λ high. all_letters (λ k. counts_alike low high k))) refl a.low)
    a.high)
    k

pub room-worth : (k : Kind) (areas : List Area) → room k (columns areas) ≡ worth (price_of k) areas
room-worth k [] = refl
room-worth k (a ∷ areas) =
    omega (
      arith,
      sum_by-cons (λ b. price_of k (kind_of b)) a areas,
      eqb-true
          (cond (fits_column k a.low) 1 0 + cond (fits_column k a.high) 1 0)
          (price_of k (kind_of a))
          (counted_alike a k),
      room-worth k areas,
    )

-- ---- before the first area and behind the last

pub ready-room :
    (board : Puzzle) (x y z : ℕ) → IsReady board x y z → IsRoom x y z (columns_from (free_areas board) 0)
ready-room board x y z ready =
    subst (λ (cs : List Column). IsRoom x y z cs) (sym (from-none (free_areas board)))
    (record {
      both = omega (arith, ready.columns, room-worth Y (free_areas board));
      upper = omega (arith, ready.upper, room-worth X (free_areas board));
      lower = omega (arith, ready.lower, room-worth Z (free_areas board));
    })

pub ready-waiting : (board : Puzzle) (x y z : ℕ) → IsReady board x y z → IsWaiting board x y z
ready-waiting board x y z ready = record {
  x1 = ready.x1;
  y1 = ready.y1;
  z1 = ready.z1;
  x2 = ready.x2;
  y2 = ready.y2;
  z2 = ready.z2;
}

-- behind the last area nothing waits
pub none-waiting :
    (board : Puzzle) (x y z area : ℕ) → IsWaiting board x y z → IsRoom x y z (columns_from (free_areas board) area)
    → length (free_areas board) ≤ area → IsWaiting board 0 0 0
none-waiting board x y z area waiting room end =
    let none = subst (λ (cs : List Column). IsRoom x y z cs) (from-end (free_areas board) area end) room in
    record {
      x1 = omega (arith, waiting.x1, none.upper);
      y1 = omega (arith, waiting.y1, none.both);
      z1 = omega (arith, waiting.z1, none.lower);
      x2 = waiting.x2;
      y2 = waiting.y2;
      z2 = waiting.z2;
    }

-- there are as many areas as at first
pub onward-length :
    (old new : Puzzle) → IsOnward old new → length (free_areas new) ≡ length old.areas
onward-length old new onward =
    length-clear_all new.areas (standing new) ∙ ap (λ (areas : List Area). length areas) onward.areas
