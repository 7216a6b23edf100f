use Rattle.map_reader.proofs.Cuts.{avoids_next, cut_past, cut_read, split_past, split_read}
use Rattle.map_reader.proofs.words.cut_at.Goals as goal

pub returns-then-here-byte-clause-parts : goal.returns-then-here-byte-clause-parts
returns-then-here-byte-clause-parts c =
    cut_read c.args.byte c.args.word.now c.loop-at.at c.loop-at-test.true c.if-here-byte.true c.loop-at.invariant

pub returns-then-here-byte-clause-split : goal.returns-then-here-byte-clause-split
returns-then-here-byte-clause-split c =
    split_read c.args.byte c.args.word.now c.loop-at.at c.loop-at-test.true c.if-here-byte.true c.loop-at.invariant

pub loop-at-preserved : goal.loop-at-preserved
loop-at-preserved c =
    avoids_next c.args.byte c.args.word.now c.loop-at.at c.loop-at-test.true c.if-here-byte.false c.loop-at.invariant

pub returns-clause-parts : goal.returns-clause-parts
returns-clause-parts c = cut_past c.args.byte c.args.word.now c.loop-at.at c.loop-at-test.false c.loop-at.invariant

pub returns-clause-split : goal.returns-clause-split
returns-clause-split c = split_past c.args.byte c.args.word.now c.loop-at.at c.loop-at-test.false c.loop-at.invariant
