use Rattle.puzzle_board.specs.Boards.{free_areas}
use Rattle.puzzle_board.proofs.Changes.{wide-fits}
use Rattle.puzzle_solver.specs.Filling.{left_by}
use Rattle.puzzle_solver.proofs.Fillings.{filled-one, left-is}
use Rattle.puzzle_solver.proofs.wide_shares.fill_one.Goals as goal

pub place_first-requires-clause-fits : goal.place_first-requires-clause-fits
place_first-requires-clause-fits g c =
    wide-fits (free_areas c.args.board.now) c.in-Some.area c.args.kind c.args.from (left_by c.args.kind c.args.from)
    c.in-Some.ensures.found (left-is c.args.kind c.args.from c.requires.fits)

pub returns-in-Some-clause-filled : goal.returns-in-Some-clause-filled
returns-in-Some-clause-filled g c =
    filled-one c.args.kind c.args.from (left_by c.args.kind c.args.from) c.args.board.now c.place_first.new.board
    c.in-Some.area c.in-Some.ensures.found (left-is c.args.kind c.args.from c.requires.fits)
    c.place_first.ensures.placed
