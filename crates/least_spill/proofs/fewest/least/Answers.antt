use Rattle.std.proofs.Common.{arith}
use Rattle.least_spill.proofs.NoFewer.{is-least, kept-solved, solved-permuted}
use Rattle.least_spill.proofs.Single.{single-apart}
use Rattle.least_spill.proofs.fewest.least.Goals as goal

pub remove_beyond-requires-clause-apart : goal.remove_beyond-requires-clause-apart
remove_beyond-requires-clause-apart g c = single-apart c.args.board.now c.requires.single

pub returns-clause-least : goal.returns-clause-least
returns-clause-least g c =
    let base = c.args.board.now in
    let solved = kept-solved base c.remove_beyond.new.board c.solve.new.board c.areas_of-areas.result
    c.pieces_of-pieces.result c.most_kept-kept.result c.remove_beyond.new.removed.items c.solve.result
    c.requires.unplaced c.areas_of-areas.ensures.value c.remove_beyond.ensures.without c.remove_beyond.ensures.stands
    c.remove_beyond.ensures.pieces c.most_kept-kept.ensures c.solve.ensures.bounded c.solve.ensures.solved in
    is-least base c.remove_beyond.new.board c.solve.new.board c.areas_of-areas.result c.pieces_of-pieces.result
    c.most_kept-kept.result c.remove_beyond.new.removed.items c.sort_unstable.new.self.items c.requires.unplaced
    (single-apart base c.requires.single) c.areas_of-areas.ensures.value c.pieces_of-pieces.ensures.value
    c.most_kept-kept.ensures c.remove_beyond.ensures.without
    (omega (arith, c.remove_beyond.ensures.len, c.sort_unstable.ensures.len, c.sort_unstable.new.self.ok.0))
    c.sort_unstable.ensures.permutation c.sort_unstable.ensures.sorted solved

pub returns-clause-solved : goal.returns-clause-solved
returns-clause-solved g c =
    let base = c.args.board.now in
    let solved = kept-solved base c.remove_beyond.new.board c.solve.new.board c.areas_of-areas.result
    c.pieces_of-pieces.result c.most_kept-kept.result c.remove_beyond.new.removed.items c.solve.result
    c.requires.unplaced c.areas_of-areas.ensures.value c.remove_beyond.ensures.without c.remove_beyond.ensures.stands
    c.remove_beyond.ensures.pieces c.most_kept-kept.ensures c.solve.ensures.bounded c.solve.ensures.solved in
    solved-permuted base c.remove_beyond.new.board c.solve.new.board c.remove_beyond.new.removed.items
    c.sort_unstable.new.self.items c.remove_beyond.ensures.without c.sort_unstable.ensures.permutation solved
