use Rattle.puzzle_solver.proofs.Hinted.{near-counted, near-onward, near-placeable}
use Rattle.puzzle_solver.proofs.wanted.place_one.Goals as goal

pub place-requires : goal.place-requires
place-requires g c =
    near-placeable c.args.board.now c.args.counts c.in-Some-counts_with.rest c.args.number c.in-Some.piece
    c.class-free.result c.args.spot c.in-Some.ensures.found c.class-free.ensures.value c.in-Some-counts_with.ensures

pub returns-in-Some-counts_with-clause-counted : goal.returns-in-Some-counts_with-clause-counted
returns-in-Some-counts_with-clause-counted g c =
    rw c.place.ensures.placed
    (near-counted c.args.board.now c.args.counts c.in-Some-counts_with.rest c.args.number c.in-Some.piece
    c.class-free.result c.args.spot c.requires.counted c.in-Some.ensures.found c.class-free.ensures.value
    c.in-Some-counts_with.ensures)

pub returns-in-Some-counts_with-clause-onward : goal.returns-in-Some-counts_with-clause-onward
returns-in-Some-counts_with-clause-onward g c =
    rw c.place.ensures.placed
    (near-onward c.args.board.now c.args.number c.in-Some.piece c.args.spot c.in-Some.ensures.found)
