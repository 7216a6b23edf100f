use Rattle.std.proofs.Common.{◌≡◌, ◌∙◌, ap, arith}
use Rattle.puzzle_board.specs.declared.piece.Kind.TheVariants.{X, Y, Z}
use Rattle.puzzle_board.specs.Boards.{Puzzle, free_areas}
use Rattle.puzzle_board.specs.Placements.{fits_at}
use Rattle.puzzle_solver.specs.Columns.{used}
use Rattle.puzzle_solver.proofs.Rooms.{changed-any, changed-more, room-xz, room-y, row-any, same-if-none, waiting-x}
use Rattle.puzzle_solver.proofs.Rooms.{waiting-y, waiting-z}
use Rattle.puzzle_solver.proofs.narrow.place_in_column.Goals as goal

pub returns-then-y-waiting-clause-waiting : goal.returns-then-y-waiting-clause-waiting
returns-then-y-waiting-clause-waiting g c =
    waiting-y _ _ _ _ _ c.args.spot c.args.board.now c.place_if_any-y.new.board c.requires.waiting
    c.place_if_any-y.ensures.left c.place_if_any-y.ensures.changed

pub returns-then-y-waiting-clause-changed : goal.returns-then-y-waiting-clause-changed
returns-then-y-waiting-clause-changed g c =
    changed-any Y (used c.args.waiting.y Y c.args.column) c.args.spot c.args.board.now c.place_if_any-y.new.board
    c.place_if_any-y.ensures.changed

pub place_if_any-z-requires-clause-waiting : goal.place_if_any-z-requires-clause-waiting
place_if_any-z-requires-clause-waiting g c =
    let after_y = waiting-y _ _ _ _ _ c.args.spot c.args.board.now c.place_if_any-y.new.board c.requires.waiting
    c.place_if_any-y.ensures.left c.place_if_any-y.ensures.changed in
    let after_x = waiting-x _ _ _ _ _ c.args.spot c.place_if_any-y.new.board c.place_if_any-x.new.board after_y
    c.place_if_any-x.ensures.left c.place_if_any-x.ensures.changed in
    after_x.z1

pub place_if_any-z-requires-clause-fits : goal.place_if_any-z-requires-clause-fits
place_if_any-z-requires-clause-fits g c =
    let none : used c.args.waiting.y Y c.args.column ≡ 0 = omega arith in
    let same = same-if-none Y (used c.args.waiting.y Y c.args.column) c.args.spot c.args.board.now
    c.place_if_any-y.new.board c.place_if_any-y.ensures.changed none in
    let row = row-any (used c.args.waiting.x X c.args.column) c.args.spot c.place_if_any-y.new.board
    c.place_if_any-x.new.board c.place_if_any-x.ensures.changed in
    let board : fits_at (free_areas c.place_if_any-y.new.board) c.args.spot.area Z c.args.spot.columns
    ≡ fits_at (free_areas c.args.board.now) c.args.spot.area Z c.args.spot.columns =
    ap (λ (b : Puzzle). fits_at (free_areas b) c.args.spot.area Z c.args.spot.columns) same in
    λ fits. row ∙ (board ∙ (c.requires.here Z ∙ fits))

pub returns-clause-waiting : goal.returns-clause-waiting
returns-clause-waiting g c =
    let after_y = waiting-y _ _ _ _ _ c.args.spot c.args.board.now c.place_if_any-y.new.board c.requires.waiting
    c.place_if_any-y.ensures.left c.place_if_any-y.ensures.changed in
    let after_x = waiting-x _ _ _ _ _ c.args.spot c.place_if_any-y.new.board c.place_if_any-x.new.board after_y
    c.place_if_any-x.ensures.left c.place_if_any-x.ensures.changed in
    waiting-z _ _ _ _ _ c.args.spot c.place_if_any-x.new.board c.place_if_any-z.new.board after_x
    c.place_if_any-z.ensures.left c.place_if_any-z.ensures.changed

pub returns-clause-room : goal.returns-clause-room
returns-clause-room g c = λ more room.
    room-xz c.args.waiting.x c.args.waiting.y c.args.waiting.z c.place_if_any-x.result c.place_if_any-y.result
    c.place_if_any-z.result c.args.column more c.if-y-waiting.false c.place_if_any-y.ensures.left
    c.place_if_any-x.ensures.left c.place_if_any-z.ensures.left room

pub returns-then-y-waiting-clause-room : goal.returns-then-y-waiting-clause-room
returns-then-y-waiting-clause-room g c = λ more room.
    room-y c.args.waiting.x c.args.waiting.y c.args.waiting.z c.place_if_any-y.result c.args.column more
    c.place_if_any-y.ensures.left c.if-y-waiting.true room

pub returns-clause-changed : goal.returns-clause-changed
returns-clause-changed g c =
    let y = changed-any Y (used c.args.waiting.y Y c.args.column) c.args.spot c.args.board.now
    c.place_if_any-y.new.board c.place_if_any-y.ensures.changed in
    let x = changed-any X (used c.args.waiting.x X c.args.column) c.args.spot c.place_if_any-y.new.board
    c.place_if_any-x.new.board c.place_if_any-x.ensures.changed in
    let z = changed-any Z (used c.args.waiting.z Z c.args.column) c.args.spot c.place_if_any-x.new.board
    c.place_if_any-z.new.board c.place_if_any-z.ensures.changed in
    changed-more c.args.spot c.args.board.now c.place_if_any-y.new.board c.place_if_any-z.new.board y
    (changed-more c.args.spot c.place_if_any-y.new.board c.place_if_any-x.new.board c.place_if_any-z.new.board x z)
