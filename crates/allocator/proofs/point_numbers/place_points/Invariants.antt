use Rattle.std.proofs.Common.{ℕ, ◌≡◌, ◌++◌, List, length, take}
use Rattle.allocator.specs.SplitForms.{ArePlaces}
use Rattle.allocator.proofs.point_numbers.place_points.Given as goal

-- the points so far have their places
abbrev pub invariant-loop-i : goal.invariant-loop-i
invariant-loop-i l = record {
  placed : (done : List ℕ) → length done ≡ l.fn.first → ArePlaces done l.fn.places
      → ArePlaces (done ++ take l.i l.points) l.places;
  many : length l.places ≡ length l.fn.places;
}
