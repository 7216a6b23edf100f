use Rattle.std.proofs.Common.{arith, ◌∙◌}
use Rattle.puzzle_board.proofs.Fronts.{front-step, front-all}
use Rattle.puzzle_board.proofs.by_kind.free_areas.Goals as goal

pub set_area-requires-clause-filed : goal.set_area-requires-clause-filed
set_area-requires-clause-filed g c = c.loop-i.invariant.1

pub set_area-requires-clause-within : goal.set_area-requires-clause-within
set_area-requires-clause-within g c = omega (arith, c.loop-i.auto.free, c.loop-i-test.true, c.requires.same)

pub loop-i-preserved : goal.loop-i-preserved
loop-i-preserved g c = (
  front-step c.args.areas.now c.args.free.now c.loop-i.free c.set_area.new.free c.loop-i.i _ c.requires.same
      c.loop-i-test.true c.loop-i.invariant.0 c.set_area.ensures.free,
  c.set_area.ensures.filed,
)

pub returns-clause-free : goal.returns-clause-free
returns-clause-free g c =
    c.loop-i.invariant.0
    ∙ front-all c.args.areas.now c.args.free.now c.loop-i.i c.requires.same c.loop-i-test.false

pub returns-clause-filed : goal.returns-clause-filed
returns-clause-filed g c = c.loop-i.invariant.1
