use Rattle.std.proofs.Common.{◌≡◌, ℕ, arith, subst}
use Rattle.puzzle_solver.specs.Filling.{IsFilled, left_by}
use Rattle.puzzle_solver.proofs.Fillings.{filled-more, filled-none, filled-numbers, still-areas, still-pieces}
use Rattle.puzzle_solver.proofs.wide_shares.fill.Goals as goal

pub loop-placed-init : goal.loop-placed-init
loop-placed-init g c = record {
  filled = filled-none c.args.kind c.args.from (left_by c.args.kind c.args.from) c.args.board.now;
  few = omega arith;
}

pub fill_one-requires-clause-pieces : goal.fill_one-requires-clause-pieces
fill_one-requires-clause-pieces g c =
    still-pieces c.args.kind c.args.from (left_by c.args.kind c.args.from) c.loop-placed._placed c.args.board.now
    c.loop-placed.board c.loop-placed.invariant.filled (omega arith)

pub fill_one-requires-clause-areas : goal.fill_one-requires-clause-areas
fill_one-requires-clause-areas g c =
    still-areas c.args.kind c.args.from (left_by c.args.kind c.args.from) c.loop-placed._placed c.args.board.now
    c.loop-placed.board c.loop-placed.invariant.filled (omega arith)

pub loop-placed-preserved : goal.loop-placed-preserved
loop-placed-preserved g c = record {
  filled =
      filled-more c.args.kind c.args.from (left_by c.args.kind c.args.from) c.loop-placed._placed c.args.board.now
      c.loop-placed.board c.fill_one.new.board c.loop-placed.invariant.filled c.fill_one.ensures.filled;
  few = omega arith;
}

pub returns-clause-filled : goal.returns-clause-filled
returns-clause-filled g c =
    let all : c.loop-placed._placed ≡ c.args.count = omega arith in
    let filled = subst
    (λ (n : ℕ).
    IsFilled c.args.kind c.args.from (left_by c.args.kind c.args.from) n c.args.board.now c.loop-placed.board)
    all
    c.loop-placed.invariant.filled in
    filled-numbers c.args.kind c.args.from (left_by c.args.kind c.args.from) c.args.count c.args.board.now
    c.loop-placed.board filled
