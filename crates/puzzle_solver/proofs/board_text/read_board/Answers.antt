use Rattle.std.proofs.Common.{◌≡◌, ap, arith, length}
use Rattle.std.proofs.lemmas.Option.{MatchOption-at_none, MatchOption-at_some}
use Rattle.puzzle_solver.specs.Reading.{fresh_board, pieces_from, shapes_text}
use Rattle.puzzle_solver.proofs.Boards.{few-areas, few-shapes, no-board, read-as}
use Rattle.puzzle_solver.proofs.board_text.read_board.Goals as goal

pub returns-in_default-clause-refused : goal.returns-in_default-clause-refused
returns-in_default-clause-refused g c e =
    no-board c.args.text.now (MatchOption-at_none _ _ c.in_default.is c.in_ok-areas.ensures)

pub board_of-requires-clause-areas : goal.board_of-requires-clause-areas
board_of-requires-clause-areas g c =
    let told : c.args.text.now ≡ shapes_text c.in-Some.areas.items c.in-Some.shapes.items =
    MatchOption-at_some _ _ _ c.in-Some.is c.in_ok-areas.ensures in
    let few = few-areas c.args.text.now c.in-Some.areas.items c.in-Some.shapes.items told in
    omega (arith, ap length c.deref.ensures.value, few, c.requires)

pub board_of-requires-clause-shapes : goal.board_of-requires-clause-shapes
board_of-requires-clause-shapes g c =
    let told : c.args.text.now ≡ shapes_text c.in-Some.areas.items c.in-Some.shapes.items =
    MatchOption-at_some _ _ _ c.in-Some.is c.in_ok-areas.ensures in
    let few = few-shapes c.args.text.now c.in-Some.areas.items c.in-Some.shapes.items told in
    omega (arith, ap length c.deref-2.ensures.value, few, c.requires)

pub returns-clause-read : goal.returns-clause-read
returns-clause-read g c =
    let told : c.args.text.now ≡ shapes_text c.in-Some.areas.items c.in-Some.shapes.items =
    MatchOption-at_some _ _ _ c.in-Some.is c.in_ok-areas.ensures in
    let is : c.in_ok-board_of.field-0 ≡ fresh_board c.in-Some.areas.items (pieces_from 0 c.in-Some.shapes.items) =
    rw (← c.deref.ensures.value, ← c.deref-2.ensures.value) c.in_ok-board_of.ensures in
    read-as c.args.text.now c.in_ok-board_of.field-0 c.in-Some.areas.items c.in-Some.shapes.items told is
