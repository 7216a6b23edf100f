-- A puzzle that has a legal placement keeps the bounds: each is a price by kind of area and a weight by kind of piece.
use Rattle.std.proofs.Common.{refl, arith}
use Rattle.puzzle_board.specs.Bounds.{SolvableIsBounded}
use Rattle.puzzle_board.specs.Worth.{price}
use Rattle.puzzle_board.proofs.Prices.{priced, weight}

pub solvable_is_bounded : SolvableIsBounded
solvable_is_bounded areas pieces solvable = record {
  wide_y = omega (arith, priced (weight 0 0 0 1 0 0) (price 1 0 0 0 0 0 0 0 0) refl areas pieces solvable);
  wide_yx = omega (arith, priced (weight 0 1 0 1 0 0) (price 1 1 0 0 1 0 0 0 0) refl areas pieces solvable);
  wide_yz = omega (arith, priced (weight 0 0 0 1 0 1) (price 1 0 1 0 0 1 0 0 0) refl areas pieces solvable);
  y = omega (arith, priced (weight 0 0 1 2 0 0) (price 2 1 1 1 0 0 0 0 0) refl areas pieces solvable);
  y_wide_x = omega (arith, priced (weight 0 1 1 2 0 0) (price 2 1 1 1 1 0 0 0 0) refl areas pieces solvable);
  y_wide_z = omega (arith, priced (weight 0 0 1 2 0 1) (price 2 1 1 1 0 1 0 0 0) refl areas pieces solvable);
  y_wide = omega (arith, priced (weight 0 1 1 2 0 1) (price 2 1 1 1 1 1 0 0 0) refl areas pieces solvable);
  y_both_x = omega (arith, priced (weight 0 2 1 2 0 0) (price 2 2 1 1 2 0 0 0 0) refl areas pieces solvable);
  y_both_z = omega (arith, priced (weight 0 0 1 2 0 2) (price 2 1 2 1 0 2 0 0 0) refl areas pieces solvable);
  upper = omega (arith, priced (weight 1 2 1 2 0 0) (price 2 2 1 1 2 0 1 1 0) refl areas pieces solvable);
  lower = omega (arith, priced (weight 0 0 1 2 1 2) (price 2 1 2 1 0 2 1 0 1) refl areas pieces solvable);
}
