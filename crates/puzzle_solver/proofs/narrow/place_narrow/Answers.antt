use Rattle.std.proofs.Common.{List, length, ap, arith}
use Rattle.puzzle_board.specs.declared.area.Area.{Area}
use Rattle.puzzle_solver.proofs.Onward.{onward-more, onward-none}
use Rattle.puzzle_solver.proofs.RoomWorths.{none-waiting, onward-length, ready-room, ready-waiting}
use Rattle.puzzle_solver.proofs.narrow.place_narrow.Goals as goal

pub loop-area-init : goal.loop-area-init
loop-area-init g c = record {
  waiting = ready-waiting c.args.board.now c.args.waiting.x c.args.waiting.y c.args.waiting.z c.requires;
  room = ready-room c.args.board.now c.args.waiting.x c.args.waiting.y c.args.waiting.z c.requires;
  onward = onward-none c.args.board.now;
  few = omega arith;
}

pub place_in_area-rest-requires-clause-in_range : goal.place_in_area-rest-requires-clause-in_range
place_in_area-rest-requires-clause-in_range g c =
    let same = ap (λ (areas : List Area). length areas) c.loop-area.invariant.onward.areas in
    omega (arith, same)

pub loop-area-preserved : goal.loop-area-preserved
loop-area-preserved g c = record {
  waiting = c.place_in_area-rest.ensures.waiting;
  room = c.place_in_area-rest.ensures.room;
  onward =
      onward-more c.args.board.now c.loop-area.board c.place_in_area-rest.new.board c.loop-area.invariant.onward
      c.place_in_area-rest.ensures.onward;
  few = omega arith;
}

pub returns-clause-all : goal.returns-clause-all
returns-clause-all g c =
    let long = onward-length c.args.board.now c.loop-area.board c.loop-area.invariant.onward in
    none-waiting c.loop-area.board c.loop-area.rest.x c.loop-area.rest.y c.loop-area.rest.z c.loop-area.area
    c.loop-area.invariant.waiting c.loop-area.invariant.room (omega arith)
