use Rattle.std.proofs.Common.{arith}
use Rattle.c_grammar.proofs.Rows.{prefixed_more, prefixed_end}
use Rattle.c_parse_expressions.proofs.cursor.Cursor.take_consts.Goals as goal

pub loop-at-preserved : goal.loop-at-preserved
loop-at-preserved c =
    record {
      row = rw c.in_ok-push.ensures (prefixed_more _ _ _ _ _ c.loop-at.invariant.row c.in-Some.ensures.0);
      shorter = omega (arith, c.in-Some.ensures.1, c.loop-at.invariant.shorter);
    }

pub returns : goal.returns
returns c = (
  prefixed_end _ _ _ _ c.loop-at.invariant.row c.in_default.ensures.0,
  rw c.in_default.ensures.1 c.loop-at.invariant.shorter,
)
