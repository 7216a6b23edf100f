use Rattle.puzzle_solver.proofs.Boards.{no-end, no-second, two-lines}
use Rattle.puzzle_solver.proofs.board_text.parts_of.Goals as goal

pub returns-then-not-starts_with-2 : goal.returns-then-not-starts_with-2
returns-then-not-starts_with-2 c =
    no-second c.args.text.now c.in_ok-areas.middle.now c.starts_with.result c.starts_with-2.result
    c.starts_with.ensures.value c.if-not-starts_with.false c.in_ok-areas.ensures.1 c.starts_with-2.ensures.value
    c.if-not-starts_with-2.true

pub returns-then-not-is_newline : goal.returns-then-not-is_newline
returns-then-not-is_newline c =
    no-end c.args.text.now c.in_ok-areas.middle.now c.in_ok-shapes.end.now c.starts_with.result c.is_newline.result
    c.starts_with.ensures.value c.if-not-starts_with.false c.in_ok-areas.ensures.1 c.in_ok-shapes.ensures.1
    c.is_newline.ensures c.if-not-is_newline.true

pub returns : goal.returns
returns c =
    two-lines c.args.text.now c.in_ok-areas.middle.now c.in_ok-shapes.end.now c.in_ok-areas.areas.items
    c.in_ok-shapes.shapes.items c.starts_with.result c.starts_with-2.result c.is_newline.result
    c.starts_with.ensures.value c.if-not-starts_with.false c.in_ok-areas.ensures.0 c.in_ok-areas.ensures.1
    c.starts_with-2.ensures.value c.if-not-starts_with-2.false c.in_ok-shapes.ensures.0 c.in_ok-shapes.ensures.1
    c.is_newline.ensures c.if-not-is_newline.false
