use Rattle.std.proofs.Common.{arith, sym, ◌∙◌}
use Rattle.std.proofs.lemmas.Result.{err_from_is_err_and}
use Rattle.c_parse.specs.StatementParts.{below_node}
use Rattle.c_parse.proofs.ExternalTurns.{unit_more, unit_refused, unit_last}
use Rattle.c_parse.proofs.externals.unit.Goals as goal

pub externals-preserved : goal.externals-preserved
externals-preserved c =
    record {
      reads = unit_more (below_node c.args.height.levels) _ _ _ _ _ _ c.externals.invariant.reads
          (sym c.is_empty.ensures ∙ c.externals-test.true) c.in_ok-next.ensures.0 c.in_ok-push.ensures
          c.in_ok-next.ensures.1;
      shorter = omega (arith, c.in_ok-next.ensures.1, c.externals.invariant.shorter);
    }

pub returns-in_err-next-clause-reads : goal.returns-in_err-next-clause-reads
returns-in_err-next-clause-reads c =
    let p = err_from_is_err_and c.from_residual.result c.from_residual.ensures.1 in
    rw (p.1, p.2) (unit_refused (below_node c.args.height.levels) _ _ _ _ c.externals.invariant.reads
    (sym c.is_empty.ensures ∙ c.externals-test.true) c.in_err-next.ensures)

pub returns-clause-reads : goal.returns-clause-reads
returns-clause-reads c = (
  unit_last (below_node c.args.height.levels) _ _ _ c.externals.invariant.reads
      (sym c.is_empty.ensures ∙ c.externals-test.false),
  c.externals.invariant.shorter,
)
