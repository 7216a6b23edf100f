use Rattle.puzzle_solver.proofs.Onward.{first-placed, placeable}
use Rattle.puzzle_solver.proofs.place.place_first.Goals as goal

pub place-requires : goal.place-requires
place-requires g c =
    let found = c.in-Some.ensures.found in
    placeable c.args.board.now c.args.kind c.args.width c.in-Some.piece c.args.spot found c.requires.wide
    c.requires.fits

pub returns-in-Some-clause-placed : goal.returns-in-Some-clause-placed
returns-in-Some-clause-placed g c =
    let found = c.in-Some.ensures.found in
    rw c.place.ensures.placed
    (first-placed c.args.board.now c.args.kind c.args.width c.in-Some.piece c.args.spot found)
