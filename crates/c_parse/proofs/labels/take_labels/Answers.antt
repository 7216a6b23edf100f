use Rattle.std.proofs.Common.{map, arith}
use Rattle.std.proofs.lemmas.Result.{err_from_is_err_and}
use Rattle.c_syntax.specs.Statements.{label_of}
use Rattle.c_grammar.specs.Reading.{readers}
use Rattle.c_parse_expressions.proofs.Refused.{refused_turn}
use Rattle.c_parse.proofs.Rows.{label_more, label_last}
use Rattle.c_parse.proofs.labels.take_labels.Goals as goal

pub labels-preserved : goal.labels-preserved
labels-preserved c =
    let turn = rw c.in-Some.is at c.in_ok-label.ensures in
    record {
      reads = label_more (readers c.args.lower.levels).conditional _ _ _ _ _ _ c.labels.invariant.reads turn
          c.in_ok-push.ensures;
      shorter = omega (arith, turn.1, c.labels.invariant.shorter);
    }

pub returns-in_err-label : goal.returns-in_err-label
returns-in_err-label c =
    let p = err_from_is_err_and c.from_residual.result c.from_residual.ensures.1 in
    rw (p.1, p.2) (refused_turn _ _ _ _ _ c.labels.invariant.reads
    (c.in_err-label.ensures (map label_of c.labels.labels.items)))

pub returns : goal.returns
returns c =
    let turn = rw c.in_default.is at c.in_ok-label.ensures in (
      label_last (readers c.args.lower.levels).conditional _ _ _ _ c.labels.invariant.reads turn,
      rw turn.1 c.labels.invariant.shorter,
    )
