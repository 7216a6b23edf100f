use Rattle.std.proofs.Common.{arith, ap, length}
use Rattle.std.proofs.lemmas.Result.{err_from_is_err_and}
use Rattle.c_grammar.specs.Reading.{readers}
use Rattle.c_grammar.proofs.Chains.{continues_goes}
use Rattle.c_parse_expressions.proofs.Refused.{refused_turn}
use Rattle.c_parse.proofs.Initial.{braces_trailing, braces_last}
use Rattle.c_parse.proofs.initialisers.braced_values.Goals as goal

pub values-preserved : goal.values-preserved
values-preserved c =
    let m = rw c.in-More.is at c.in_ok-more.ensures in
    record {
      reads = continues_goes _ _ _ _ _ _ c.values.invariant.reads m.0 m.2;
      height = m.1;
      shorter = omega (arith, m.2, c.values.invariant.shorter);
    }

pub returns-in_err-more : goal.returns-in_err-more
returns-in_err-more c =
    let p = err_from_is_err_and c.from_residual-in_err-more.result c.from_residual-in_err-more.ensures.1 in
    rw (p.1, p.2) (refused_turn _ _ _ _ _ c.values.invariant.reads c.in_err-more.ensures)

pub returns-in-Trailing : goal.returns-in-Trailing
returns-in-Trailing c =
    let m = rw c.in-Trailing.is at c.in_ok-more.ensures in (
      braces_trailing (readers c.args.lower.levels) _ _ _ _ _ _ c.values.invariant.reads m.0 m.1,
      omega (arith, m.1, c.values.invariant.shorter),
    )

pub returns-in-Last : goal.returns-in-Last
returns-in-Last c =
    let m = rw c.in-Last.is at c.in_ok-more.ensures in (
      braces_last (readers c.args.lower.levels) _ _ _ _ _ c.values.invariant.reads m.0 m.1 m.2,
      omega (arith, ap length m.2, c.values.invariant.shorter),
    )
