use Rattle.std.proofs.Common.{arith}
use Rattle.c_grammar.proofs.Rows.{prefixed_more, prefixed_end}
use Rattle.c_parse_expressions.proofs.cursor.Cursor.take_texts.Goals as goal

pub loop-pieces-preserved : goal.loop-pieces-preserved
loop-pieces-preserved c =
    let more = rw c.in-Some.is at c.in_ok-piece.ensures in
    record {
      row = rw c.in_ok-push-2.ensures (prefixed_more _ _ _ _ _ c.loop-pieces.invariant.row more.0);
      shorter = omega (arith, more.1, c.loop-pieces.invariant.shorter);
    }

pub returns : goal.returns
returns c =
    let end = rw c.in_default.is at c.in_ok-piece.ensures in
    (prefixed_end _ _ _ _ c.loop-pieces.invariant.row end.0, rw end.1 c.loop-pieces.invariant.shorter)
