use Rattle.std.proofs.Common.{◌≡◌, ◌∙◌, List, ℕ, Option, ap, subst, sym}
use Rattle.std.specs.List.{AllByRecursion}
use Rattle.puzzle_board.specs.declared.area.Area.{Area}
use Rattle.puzzle_board.specs.declared.piece.Piece.{Piece}
use Rattle.puzzle_board.specs.declared.piece.Spot.{Spot}
use Rattle.puzzle_board.specs.Boards.{Puzzle, remaining, standing}
use Rattle.puzzle_board.specs.Classes.{IsAmong}
use Rattle.puzzle_solver.specs.Solved.{IsSolved}
use Rattle.puzzle_solver.specs.declared.order.Candidate.{Candidate}
use Rattle.puzzle_solver.specs.Orders.{IsSpillOrder}
use Rattle.puzzle_solver.specs.Prefixes.{IsShortest, without_variables}
use Rattle.allocator.specs.PointBoards.{areas_of}
use Rattle.allocator.specs.PointPuzzles.{point_puzzle, puzzle_of}
use Rattle.allocator.specs.Solutions.{AreSpots}
use Rattle.allocator.specs.Spills.{AreCandidates}
use Rattle.allocator.proofs.Listing.{candidates-are}
use Rattle.allocator.proofs.Solving.{nothing-stands, pieces-ordered, spilled-pieces, spots-are}
use Rattle.allocator.proofs.solution.solve_counted.Goals as goal

pub fit_near-requires-clause-unplaced : goal.fit_near-requires-clause-unplaced
fit_near-requires-clause-unplaced g c =
    ap standing c.in_ok-board.ensures ∙ nothing-stands c.areas_of.result c.args.pieces.now

pub fit_near-requires-clause-ordered : goal.fit_near-requires-clause-ordered
fit_near-requires-clause-ordered g c =
    let pieces : List Piece = c.args.pieces.now in
    let areas : List Area = c.areas_of.result in
    let cs : List Candidate = c.in_ok-candidates.candidates.items in
    let are = candidates-are c.args.form.now.graph c.args.distances.now c.args.point pieces cs c.requires.distances
    c.in_ok-candidates.ensures in
    let s = subst (λ (ds : List Candidate). IsSpillOrder ds c.in_ok-order.order.items) c.deref.ensures.value
    c.in_ok-order.ensures in
    subst (λ (b : Puzzle). AllByRecursion (λ p. IsAmong c.deref-2.result.now p.var) (remaining b))
    (sym c.in_ok-board.ensures)
    (subst (λ (vs : List ℕ). AllByRecursion (λ p. IsAmong vs p.var) (remaining (puzzle_of areas pieces)))
    (sym c.deref-2.ensures.value)
    (pieces-ordered c.args.form.now.graph c.args.point areas pieces cs c.in_ok-order.order.items are s))

pub returns-clause-spilled : goal.returns-clause-spilled
returns-clause-spilled g c =
    let flow = c.args.form.now.graph in
    let lives = c.args.form.now.lives in
    let op = c.args.op.now in
    let pieces : List Piece = c.args.pieces.now in
    let cs : List Candidate = c.in_ok-candidates.candidates.items in
    let order : List ℕ = c.in_ok-order.order.items in
    let are = candidates-are flow c.args.distances.now c.args.point pieces cs c.requires.distances
    c.in_ok-candidates.ensures in
    let s = subst (λ (ds : List Candidate). IsSpillOrder ds order) c.deref.ensures.value c.in_ok-order.ensures in
    let board-is : c.in_ok-board.board ≡ point_puzzle flow lives c.args.point op =
    c.in_ok-board.ensures
    ∙ (ap (λ (a : List Area). puzzle_of a pieces) c.areas_of.ensures
    ∙ ap (λ (ps : List Piece). puzzle_of (areas_of op) ps) c.requires.pieces) in
    record {
      candidates = cs;
      of_pieces = subst (λ (ps : List Piece). AreCandidates flow c.args.point ps cs) c.requires.pieces are;
      order = order;
      ordered = s;
      shortest =
          subst (λ (b : Puzzle). IsShortest b order c.in_ok-spilled.spilled.items) board-is
          (subst (λ (vs : List ℕ). IsShortest c.in_ok-board.board vs c.in_ok-spilled.spilled.items)
          c.deref-2.ensures.value c.in_ok-spilled.ensures.shortest);
    }

pub returns-clause-of_pieces : goal.returns-clause-of_pieces
returns-clause-of_pieces g c =
    let flow = c.args.form.now.graph in
    let pieces : List Piece = c.args.pieces.now in
    let cs : List Candidate = c.in_ok-candidates.candidates.items in
    let order : List ℕ = c.in_ok-order.order.items in
    let are = candidates-are flow c.args.distances.now c.args.point pieces cs c.requires.distances
    c.in_ok-candidates.ensures in
    let s = subst (λ (ds : List Candidate). IsSpillOrder ds order) c.deref.ensures.value c.in_ok-order.ensures in
    spilled-pieces flow c.args.point c.in_ok-board.board pieces cs order c.in_ok-spilled.spilled.items are s
    (subst (λ (vs : List ℕ). IsShortest c.in_ok-board.board vs c.in_ok-spilled.spilled.items) c.deref-2.ensures.value
    c.in_ok-spilled.ensures.shortest)

pub returns-clause-spots : goal.returns-clause-spots
returns-clause-spots g c =
    let op = c.args.op.now in
    let pieces : List Piece = c.args.pieces.now in
    let spilled : List ℕ = c.in_ok-spilled.spilled.items in
    let board-is : c.in_ok-board.board ≡ puzzle_of (areas_of op) pieces =
    c.in_ok-board.ensures ∙ ap (λ (a : List Area). puzzle_of a pieces) c.areas_of.ensures in
    subst (λ (ss : List (Option Spot)). AreSpots (areas_of op) pieces spilled ss) (sym c.in_ok-spots.ensures)
    (spots-are (areas_of op) pieces spilled _
    (subst (λ (b : Puzzle). IsSolved (without_variables b spilled) c.fit_near.new.board) board-is
    c.in_ok-spilled.ensures.solved))
