use Rattle.pcc_base.specs.declared.run.Width.TheVariants.{One, Two}
use Rattle.puzzle_board.specs.declared.piece.Kind.TheVariants.{Y, Z}
use Rattle.least_spill.proofs.Taking.{all-taken, enough-2, enough-3, enough-4, enough-5, without-none}
use Rattle.least_spill.proofs.removing.remove_beyond.Goals as goal

pub remove_some-requires-3-clause-enough : goal.remove_some-requires-3-clause-enough
remove_some-requires-3-clause-enough g c =
    enough-2 c.args.pieces.y1 c.args.kept.y1 _ _ _ c.requires.pieces.y1
    (c.remove_some.ensures.taken.counts Y One)
    (c.remove_some-2.ensures.taken.counts Y One)

pub remove_some-requires-4-clause-enough : goal.remove_some-requires-4-clause-enough
remove_some-requires-4-clause-enough g c =
    enough-3 c.args.pieces.y2 c.args.kept.y2 _ _ _ _ c.requires.pieces.y2
    (c.remove_some.ensures.taken.counts Y Two)
    (c.remove_some-2.ensures.taken.counts Y Two)
    (c.remove_some-3.ensures.taken.counts Y Two)

pub remove_some-requires-5-clause-enough : goal.remove_some-requires-5-clause-enough
remove_some-requires-5-clause-enough g c =
    enough-4 c.args.pieces.z1 c.args.kept.z1 _ _ _ _ _ c.requires.pieces.z1
    (c.remove_some.ensures.taken.counts Z One)
    (c.remove_some-2.ensures.taken.counts Z One)
    (c.remove_some-3.ensures.taken.counts Z One)
    (c.remove_some-4.ensures.taken.counts Z One)

pub remove_some-requires-6-clause-enough : goal.remove_some-requires-6-clause-enough
remove_some-requires-6-clause-enough g c =
    enough-5 c.args.pieces.z2 c.args.kept.z2 _ _ _ _ _ _ c.requires.pieces.z2
    (c.remove_some.ensures.taken.counts Z Two)
    (c.remove_some-2.ensures.taken.counts Z Two)
    (c.remove_some-3.ensures.taken.counts Z Two)
    (c.remove_some-4.ensures.taken.counts Z Two)
    (c.remove_some-5.ensures.taken.counts Z Two)

pub returns-clause-pieces : goal.returns-clause-pieces
returns-clause-pieces g c =
    all-taken c.args.board.now c.remove_some.new.board
    c.remove_some-2.new.board
    c.remove_some-3.new.board
    c.remove_some-4.new.board
    c.remove_some-5.new.board
    c.remove_some-6.new.board
    c.args.removed.now.items c.remove_some.new.removed.items
    c.remove_some-2.new.removed.items
    c.remove_some-3.new.removed.items
    c.remove_some-4.new.removed.items
    c.remove_some-5.new.removed.items
    c.remove_some-6.new.removed.items
    c.args.pieces c.args.kept c.requires.pieces c.requires.kept
    c.remove_some.ensures.taken
    c.remove_some-2.ensures.taken
    c.remove_some-3.ensures.taken
    c.remove_some-4.ensures.taken
    c.remove_some-5.ensures.taken
    c.remove_some-6.ensures.taken

pub returns-clause-without : goal.returns-clause-without
returns-clause-without g c =
    let start = without-none c.args.board.now c.args.removed.now.items c.requires.none c.requires.apart in
    let base = c.args.board.now in
    c.remove_some-6.ensures.taken.without base
    (c.remove_some-5.ensures.taken.without base
    (c.remove_some-4.ensures.taken.without base
    (c.remove_some-3.ensures.taken.without base
    (c.remove_some-2.ensures.taken.without base (c.remove_some.ensures.taken.without base start)))))
