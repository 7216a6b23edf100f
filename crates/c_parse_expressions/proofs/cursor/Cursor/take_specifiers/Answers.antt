use Rattle.std.proofs.Common.{arith, ap, length, length-append, [], ◌∷◌}
use Rattle.c_grammar.proofs.Rows.{prefixed_more, prefixed_end}
use Rattle.c_parse_expressions.proofs.cursor.Cursor.take_specifiers.Goals as goal

pub loop-specifier-preserved : goal.loop-specifier-preserved
loop-specifier-preserved c =
    record {
      row = rw c.in_ok-push.ensures (prefixed_more _ _ _ _ _ c.loop-specifier.invariant.row c.in-Some.ensures.0);
      shorter = omega (
        arith,
        c.in-Some.ensures.1,
        c.loop-specifier.invariant.shorter,
        ap length c.in_ok-push.ensures,
        length-append c.loop-specifier.specifiers.items
            (c.in-Some.specifier ∷ []),
      );
    }

pub returns-clause-ok : goal.returns-clause-ok
returns-clause-ok c = (let e = prefixed_end _ _ _ _ c.loop-specifier.invariant.row c.in_default.ensures.0 in e)
