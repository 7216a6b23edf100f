use Rattle.std.proofs.Common.{arith}
use Rattle.std.proofs.lemmas.Grind.{common_steps}
use Rattle.puzzle_solver.proofs.Ready.{ready}
use Rattle.puzzle_solver.proofs.wide_places.place_wide.Goals as goal

pub returns-clause-ready : goal.returns-clause-ready
returns-clause-ready g c =
    ready c.args.board.now c.fill.new.board c.fill-2.new.board c.fill-3.new.board c.fill-4.new.board
    c.fill-5.new.board c.fill-6.new.board c.fill-7.new.board c.fill-8.new.board c.args.areas c.args.pieces
    c.args.plan c.requires.areas c.requires.pieces c.requires.bounded c.requires.plan c.fill.ensures.filled
    c.fill-2.ensures.filled c.fill-3.ensures.filled c.fill-4.ensures.filled c.fill-5.ensures.filled
    c.fill-6.ensures.filled c.fill-7.ensures.filled c.fill-8.ensures.filled

pub fill-requires-4-clause-pieces : goal.fill-requires-4-clause-pieces
fill-requires-4-clause-pieces g c = grind arith

pub fill-requires-5-clause-pieces : goal.fill-requires-5-clause-pieces
fill-requires-5-clause-pieces g c = grind arith

pub fill-requires-5-clause-areas : goal.fill-requires-5-clause-areas
fill-requires-5-clause-areas g c = grind arith

pub fill-requires-6-clause-pieces : goal.fill-requires-6-clause-pieces
fill-requires-6-clause-pieces g c = grind arith

pub fill-requires-6-clause-areas : goal.fill-requires-6-clause-areas
fill-requires-6-clause-areas g c = grind arith

pub fill-requires-7-clause-pieces : goal.fill-requires-7-clause-pieces
fill-requires-7-clause-pieces g c = grind arith

pub fill-requires-7-clause-areas : goal.fill-requires-7-clause-areas
fill-requires-7-clause-areas g c = grind arith

pub fill-requires-8-clause-pieces : goal.fill-requires-8-clause-pieces
fill-requires-8-clause-pieces g c = grind (arith, common_steps)

pub fill-requires-8-clause-areas : goal.fill-requires-8-clause-areas
fill-requires-8-clause-areas g c = grind arith

pub returns-clause-onward : goal.returns-clause-onward
returns-clause-onward g c = grind arith

pub returns-clause-few : goal.returns-clause-few
returns-clause-few g c = grind arith
