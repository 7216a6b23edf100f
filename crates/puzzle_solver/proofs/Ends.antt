-- A board on which nothing stands, and one on which everything does.
use Rattle.std.proofs.Common.{ℕ, ◌≡◌, ◌+◌, ◌*◌, ◌≤◌, ◌∙◌, refl, sym, ap, subst, Bool, true, false, ◌&&◌, cond, List}
use Rattle.std.proofs.Common.{[], ◌∷◌, map, length, arith}
use Rattle.std.proofs.lemmas.List.Sums.{sum_by-cons}
use Rattle.pcc_base.specs.declared.run.Width.{Width}
use Rattle.pcc_base.specs.declared.run.Width.TheVariants.{One, Two}
use Rattle.puzzle_board.specs.declared.area.Area.{Area}
use Rattle.puzzle_board.specs.declared.piece.Kind.{Kind}
use Rattle.puzzle_board.specs.declared.piece.Kind.TheVariants.{X, Y, Z}
use Rattle.puzzle_board.specs.declared.piece.Piece.{Piece}
use Rattle.puzzle_board.specs.declared.piece.State.{State}
use Rattle.puzzle_board.specs.declared.piece.State.TheVariants.{Unplaced, At, Removed}
use Rattle.puzzle_board.specs.Boards.{IsBoard, Puzzle, free_areas, is_piece, pieces_of, remaining, remaining_in}
use Rattle.puzzle_board.specs.Boards.{same_letter, same_width, standing, standing_in, unplaced, unplaced_in}
use Rattle.puzzle_board.specs.Placements.{IsSolvable, clear_all}
use Rattle.puzzle_board.specs.Bounds.{IsBounded, counts_of}
use Rattle.puzzle_board.proofs.Necessary.{solvable_is_bounded}
use Rattle.puzzle_solver.specs.declared.board_counts.AreaCounts.{AreaCounts}
use Rattle.puzzle_solver.specs.declared.board_counts.PieceCounts.{PieceCounts}
use Rattle.puzzle_solver.specs.Columns.{IsWaiting}
use Rattle.puzzle_solver.specs.Plans.{numbers}
use Rattle.puzzle_solver.specs.Counting.{AreasAre, PiecesAre}
use Rattle.puzzle_solver.specs.Onward.{IsOnward, is_removed}
use Rattle.puzzle_solver.specs.Solved.{IsSolved}
use Rattle.puzzle_solver.proofs.Worths.{lower-worth, lower-worth-most, upper-worth, upper-worth-most}

-- ---- where nothing stands

-- what isn't removed is unplaced
pub unplaced-remaining :
    (pieces : List Piece) (states : List State) → standing_in pieces states ≡ []
    → remaining_in pieces states ≡ unplaced_in pieces states
unplaced-remaining [] states none = refl
unplaced-remaining (p ∷ pieces) [] none = refl
unplaced-remaining (p ∷ pieces) (Unplaced ∷ states) none =
    ap (λ more. p ∷ more) (unplaced-remaining pieces states none)
unplaced-remaining (p ∷ pieces) (At spot ∷ states) none = absurd (cc)
unplaced-remaining (p ∷ pieces) (Removed ∷ states) none = unplaced-remaining pieces states none

-- and all is free
pub all-free : (board : Puzzle) → standing board ≡ [] → free_areas board ≡ board.areas
all-free board none = ap (λ placed. clear_all board.areas placed) none

-- bounds that the board keeps, in the numbers that were counted
pub counted-kept :
    (board : Puzzle) (a : AreaCounts) (p : PieceCounts) → standing board ≡ [] → AreasAre board a → PiecesAre board p
    → IsBounded (counts_of board.areas (remaining board)) → IsBounded (numbers a p)
counted-kept board a p none areas pieces kept =
    let bounded = subst
    (λ (free : List Area). IsBounded (counts_of free (unplaced board)))
    (sym (all-free board none))
    (subst
    (λ (ps : List Piece). IsBounded (counts_of board.areas ps))
    (unplaced-remaining board.pieces board.states none)
    kept) in
    record {
      wide_y = omega (arith, bounded.wide_y);
      wide_yx = omega (arith, bounded.wide_yx);
      wide_yz = omega (arith, bounded.wide_yz);
      y = omega (arith, bounded.y);
      y_wide_x = omega (arith, bounded.y_wide_x);
      y_wide_z = omega (arith, bounded.y_wide_z);
      y_wide = omega (arith, bounded.y_wide);
      y_both_x = omega (arith, bounded.y_both_x);
      y_both_z = omega (arith, bounded.y_both_z);
      upper = omega (arith, bounded.upper);
      lower = omega (arith, bounded.lower);
    }

-- and the other way round
pub kept-counted :
    (board : Puzzle) (a : AreaCounts) (p : PieceCounts) → standing board ≡ [] → AreasAre board a → PiecesAre board p
    → IsBounded (numbers a p) → IsBounded (counts_of board.areas (remaining board))
kept-counted board a p none areas pieces bounded =
    let now : IsBounded (counts_of (free_areas board) (unplaced board)) = record {
      wide_y = omega (arith, bounded.wide_y);
      wide_yx = omega (arith, bounded.wide_yx);
      wide_yz = omega (arith, bounded.wide_yz);
      y = omega (arith, bounded.y);
      y_wide_x = omega (arith, bounded.y_wide_x);
      y_wide_z = omega (arith, bounded.y_wide_z);
      y_wide = omega (arith, bounded.y_wide);
      y_both_x = omega (arith, bounded.y_both_x);
      y_both_z = omega (arith, bounded.y_both_z);
      upper = omega (arith, bounded.upper);
      lower = omega (arith, bounded.lower);
    } in
    subst
    (λ (free : List Area). IsBounded (counts_of free (remaining board)))
    (all-free board none)
    (subst
    (λ (ps : List Piece). IsBounded (counts_of (free_areas board) ps))
    (sym (unplaced-remaining board.pieces board.states none))
    now)

-- a solvable board keeps the bounds, in the numbers that were counted
pub counted-bounded :
    (board : Puzzle) (a : AreaCounts) (p : PieceCounts) → standing board ≡ [] → AreasAre board a → PiecesAre board p
    → IsSolvable board.areas (remaining board) → IsBounded (numbers a p)
counted-bounded board a p none areas pieces solvable =
    counted-kept board a p none areas pieces (solvable_is_bounded board.areas (remaining board) solvable)

-- ---- where everything stands

is_piece-self : (p : Piece) → is_piece p.kind p.width p ≡ true
is_piece-self p = both p.kind p.width where
  both : (k : Kind) (w : Width) → same_letter k k && same_width w w ≡ true
  both X One = refl
  both X Two = refl
  both Y One = refl
  both Y Two = refl
  both Z One = refl
  both Z Two = refl

-- pieces of which there are none of any kind and width
none-left :
    (pieces : List Piece) → ((k : Kind) (w : Width) → pieces_of pieces k w ≡ 0) → pieces ≡ []
none-left [] none = refl
none-left (p ∷ pieces) none =
    let one = ap {B = ℕ} (λ (b : Bool). cond b 1 0) (is_piece-self p) in
    absurd (
    omega (
      arith,
      none p.kind p.width,
      sum_by-cons (λ q. cond (is_piece p.kind p.width q) 1 0) p pieces,
      one,
    ))

-- where none is unplaced, what stands is what isn't removed
placed-remaining :
    (pieces : List Piece) (states : List State) → unplaced_in pieces states ≡ []
    → map (λ s. s.piece) (standing_in pieces states) ≡ remaining_in pieces states
placed-remaining [] states none = refl
placed-remaining (p ∷ pieces) [] none = refl
placed-remaining (p ∷ pieces) (Unplaced ∷ states) none = absurd (cc)
placed-remaining (p ∷ pieces) (At spot ∷ states) none =
    ap (λ more. p ∷ more) (placed-remaining pieces states none)
placed-remaining (p ∷ pieces) (Removed ∷ states) none = placed-remaining pieces states none

pub all-placed :
    (old new : Puzzle) → IsOnward old new → IsWaiting new 0 0 0 → IsBoard new → IsSolved old new
all-placed old new onward waiting board = record {
  onward = onward;
  placed = record {
    each = placed-remaining new.pieces new.states (none-left (unplaced new) none);
    legal = board.legal;
  };
} where
  none : (k : Kind) (w : Width) → pieces_of (unplaced new) k w ≡ 0
  none X One = waiting.x1
  none X Two = waiting.x2
  none Y One = waiting.y1
  none Y Two = waiting.y2
  none Z One = waiting.z1
  none Z Two = waiting.z2

-- the pieces that remain, by which are removed
by_flags : List Piece → List Bool → List Piece
by_flags [] flags = []
by_flags (p ∷ pieces) [] = []
by_flags (p ∷ pieces) (true ∷ flags) = by_flags pieces flags
by_flags (p ∷ pieces) (false ∷ flags) = p ∷ by_flags pieces flags

remaining-flags :
    (pieces : List Piece) (states : List State) → remaining_in pieces states ≡ by_flags pieces (map is_removed states)
unfolding by_flags
remaining-flags [] states = refl
remaining-flags (p ∷ pieces) [] = refl
remaining-flags (p ∷ pieces) (Unplaced ∷ states) = ap (λ more. p ∷ more) (remaining-flags pieces states)
remaining-flags (p ∷ pieces) (At spot ∷ states) = ap (λ more. p ∷ more) (remaining-flags pieces states)
remaining-flags (p ∷ pieces) (Removed ∷ states) = remaining-flags pieces states

-- what is solved was solvable
pub solved-solvable : (now new : Puzzle) → IsSolved now new → IsSolvable now.areas (remaining now)
solved-solvable now new solved =
    let same : remaining new ≡ remaining now =
    remaining-flags new.pieces new.states
    ∙ (ap (λ (flags : List Bool). by_flags new.pieces flags) solved.onward.removed
    ∙ (ap (λ (ps : List Piece). by_flags ps (map is_removed now.states)) solved.onward.pieces
    ∙ sym (remaining-flags now.pieces now.states))) in
    subst (λ (ps : List Piece). IsSolvable now.areas ps) same
    (subst (λ (a : List Area). IsSolvable a (remaining new)) solved.onward.areas (standing new, solved.placed))

-- ---- steps

-- the pieces of a bounded board are few, for the areas that it has
pub few-pieces :
    (board : Puzzle) (a : AreaCounts) (p : PieceCounts) → standing board ≡ [] → AreasAre board a
    → IsBounded (numbers a p)
    → 5 * (p.x1 + p.y1 + p.z1) + 6 * (p.y2 + p.x2 + p.z2) ≤ 20 * length board.areas
few-pieces board a p none areas bounded =
    let free = ap (λ (areas : List Area). length areas) (all-free board none) in
    omega (
      arith,
      free,
      bounded.upper,
      bounded.lower,
      upper-worth board a p areas,
      lower-worth board a p areas,
      upper-worth-most (free_areas board),
      lower-worth-most (free_areas board),
    )
