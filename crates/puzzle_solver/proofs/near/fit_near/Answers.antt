use Rattle.std.proofs.Common.{◌≡◌, ◌∙◌, ap, refl, add-one, arith, slice_index_or, []}
use Rattle.puzzle_board.specs.Boards.{Puzzle, remaining, standing, without_variable}
use Rattle.puzzle_board.specs.Placements.{IsSolvable}
use Rattle.puzzle_solver.specs.Solved.{IsSolved}
use Rattle.puzzle_solver.proofs.Spilling.{none-remain, so_far-more, so_far-solved, solved-without, surely}
use Rattle.puzzle_solver.proofs.near.fit_near.Goals as goal

pub returns-then-solve_near-clause-shortest : goal.returns-then-solve_near-clause-shortest
returns-then-solve_near-clause-shortest g c =
    so_far-solved c.args.board.now c.args.order.now c.loop-i.i c.loop-i.removed.items c.loop-i.board
    c.solve_near.new.board c.loop-i.invariant.so_far (omega arith) c.if-solve_near.ensures.solved

pub returns-then-solve_near-clause-solved : goal.returns-then-solve_near-clause-solved
returns-then-solve_near-clause-solved g c =
    solved-without c.args.board.now c.args.order.now c.loop-i.i c.loop-i.removed.items c.loop-i.board
    c.solve_near.new.board c.loop-i.invariant.so_far c.if-solve_near.ensures.solved

pub loop-i-preserved : goal.loop-i-preserved
loop-i-preserved g c =
    let v = slice_index_or c.args.order.now c.loop-i.i 0 in
    let same = c.if-solve_near.ensures.unchanged in
    let removed : c.remove_var.new.self ≡ without_variable c.loop-i.board v =
    c.remove_var.ensures.removed ∙ ap (λ (b : Puzzle). without_variable b v) same in
    let stands : standing c.remove_var.new.self ≡ [] =
    c.remove_var.ensures.stands
    ∙ (ap (λ (b : Puzzle). standing b) same ∙ c.loop-i.invariant.so_far.stands) in
    let far = so_far-more c.args.board.now c.args.order.now c.loop-i.i v 0 c.loop-i.removed.items c.loop-i.board
    c.remove_var.new.self c.loop-i.invariant.so_far c.loop-i-test.true refl c.if-solve_near.ensures.unsolvable
    removed stands in
    record {
      so_far = rw (add-one, c.push_reserved.ensures.items) far;
      room = omega (arith, c.push_reserved.ensures.capacity, c.loop-i.invariant.room);
    }

pub returns-clause-shortest : goal.returns-clause-shortest
returns-clause-shortest g c =
    let far = c.loop-i.invariant.so_far in
    let solvable = none-remain c.args.board.now c.args.order.now c.loop-i.i c.loop-i.removed.items c.loop-i.board far
    (omega arith) in
    let solved = surely c.solve_near-2.result (IsSolvable c.loop-i.board.areas (remaining c.loop-i.board))
    (IsSolved c.loop-i.board c.solve_near-2.new.board) c.solve_near-2.ensures.unsolvable solvable
    c.solve_near-2.ensures.solved in
    so_far-solved c.args.board.now c.args.order.now c.loop-i.i c.loop-i.removed.items c.loop-i.board
    c.solve_near-2.new.board far (omega arith) solved

pub returns-clause-solved : goal.returns-clause-solved
returns-clause-solved g c =
    let far = c.loop-i.invariant.so_far in
    let solvable = none-remain c.args.board.now c.args.order.now c.loop-i.i c.loop-i.removed.items c.loop-i.board far
    (omega arith) in
    let solved = surely c.solve_near-2.result (IsSolvable c.loop-i.board.areas (remaining c.loop-i.board))
    (IsSolved c.loop-i.board c.solve_near-2.new.board) c.solve_near-2.ensures.unsolvable solvable
    c.solve_near-2.ensures.solved in
    solved-without c.args.board.now c.args.order.now c.loop-i.i c.loop-i.removed.items c.loop-i.board
    c.solve_near-2.new.board far solved
