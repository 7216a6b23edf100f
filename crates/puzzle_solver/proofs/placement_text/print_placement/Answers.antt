use Rattle.std.proofs.Common.{◌<◌, arith, get_or, length}
use Rattle.std.proofs.lemmas.Option.{slice_get-get_or}
use Rattle.puzzle_board.specs.declared.piece.State.TheVariants.{Unplaced}
use Rattle.puzzle_solver.proofs.Lines.{line-step, some-piece}
use Rattle.puzzle_solver.proofs.placement_text.print_placement.Goals as goal

pub loop-number-preserved : goal.loop-number-preserved
loop-number-preserved g c =
    let pieces = c.args.board.now.pieces in
    let states = c.args.board.now.states in
    let i = c.loop-number.number in
    let within : i < length pieces = omega (arith, c.loop-number-test.true, c.pieces-number-end.ensures.value) in
    let inside : i < length states = omega (arith, within, c.is_board.ensures.states) in
    let piece = slice_get-get_or pieces i some-piece within in
    let state = slice_get-get_or states i Unplaced inside in
    line-step pieces states i (get_or pieces i some-piece) (get_or states i Unplaced) c.loop-number.text.items
    c.push_piece.new.out.items piece state c.loop-number.invariant
    (c.in_ok-push_piece.ensures (get_or pieces i some-piece) (get_or states i Unplaced) piece state)
