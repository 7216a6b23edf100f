use Rattle.std.proofs.Common.{refl, ◌∙◌}
use Rattle.std.proofs.lemmas.Result.{err_from_is_err_and}
use Rattle.c_parse_expressions.proofs.Refused.{refused_then}
use Rattle.c_parse.specs.StatementParts.{below_node}
use Rattle.c_parse.proofs.Parted.{return_parted}
use Rattle.c_parse.proofs.jumps.return_behind.Goals as goal

pub returns-in_err-clause : goal.returns-in_err-clause
returns-in_err-clause c =
    let p = err_from_is_err_and c.from_residual.result c.from_residual.ensures.1 in
    rw (p.1, p.2) (rw (return_parted (below_node c.args.height.levels) c.args.at c.args.cursor.now.rest.now)
    (refused_then _ _ _ c.in_err-clause.ensures))

pub returns : goal.returns
returns c = (
  return_parted (below_node c.args.height.levels) c.args.at c.args.cursor.now.rest.now
      ∙ (rw (c.in_ok-clause.ensures.0, c.return_node.ensures) refl),
  c.in_ok-clause.ensures.1,
)
