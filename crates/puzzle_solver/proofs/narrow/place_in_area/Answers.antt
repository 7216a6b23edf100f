use Rattle.std.proofs.Common.{◌≡◌, ◌∙◌, sym, subst, List, refl, add-one, suc}
use Rattle.puzzle_board.specs.declared.area.Column.{Column}
use Rattle.puzzle_board.specs.declared.piece.Columns.TheVariants.{Low, High}
use Rattle.puzzle_board.specs.Boards.{free_areas}
use Rattle.puzzle_solver.specs.Columns.{IsRoom, columns_behind, columns_from}
use Rattle.puzzle_solver.proofs.Rooms.{from-high, from-low, from-next, read-high, read-low}
use Rattle.puzzle_solver.proofs.narrow.place_in_area.Goals as goal

pub place_in_column-rest-requires-clause-here : goal.place_in_column-rest-requires-clause-here
place_in_column-rest-requires-clause-here g c = λ k.
    read-low (free_areas c.args.board.now) c.args.area c.class-cells.result k c.class-cells.ensures.value

pub place_in_column-requires-clause-here : goal.place_in_column-requires-clause-here
place_in_column-requires-clause-here g c = λ k.
    c.place_in_column-rest.ensures.changed.others k High refl
    ∙ read-high (free_areas c.args.board.now) c.args.area c.class-cells.result k c.class-cells.ensures.value

pub returns-clause-room : goal.returns-clause-room
returns-clause-room g c =
    let free = free_areas c.args.board.now in
    let area = c.args.area in
    let behind = columns_behind free area High in
    let at_low = subst
    (λ (cs : List Column). IsRoom c.args.waiting.x c.args.waiting.y c.args.waiting.z cs)
    (from-low free area c.class-cells.result c.class-cells.ensures.value)
    c.requires.room in
    let after_low = c.place_in_column-rest.ensures.room (columns_behind free area Low) at_low in
    let at_high = subst
    (λ (cs : List Column).
    IsRoom c.place_in_column-rest.result.x c.place_in_column-rest.result.y c.place_in_column-rest.result.z cs)
    (from-high free area c.class-cells.result c.class-cells.ensures.value)
    after_low in
    let after_high = c.place_in_column.ensures.room behind at_high in
    let next : behind ≡ columns_from (free_areas c.place_in_column.new.board) (suc area) =
    sym c.place_in_column-rest.ensures.changed.behind
    ∙ (sym c.place_in_column.ensures.changed.behind
    ∙ from-next (free_areas c.place_in_column.new.board) area) in
    rw add-one
    (subst
    (λ (cs : List Column).
    IsRoom c.place_in_column.result.x c.place_in_column.result.y c.place_in_column.result.z cs)
    next
    after_high)
