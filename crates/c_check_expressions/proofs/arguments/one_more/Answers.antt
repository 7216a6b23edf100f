use Rattle.std.proofs.Common.{sym, ◌∙◌}
use Rattle.c_check_expressions.specs.Arguments.{for_parameter}
use Rattle.c_check_expressions.proofs.Gathering.{behind_fails, behind_fits}
use Rattle.c_check_expressions.proofs.arguments.one_more.Goals as goal

pub returns-in-Fails-clause-said : goal.returns-in-Fails-clause-said
returns-in-Fails-clause-said c = λ front part before between after x y.
    behind_fails front (for_parameter c.args.parameter c.args.at part) c.args.so_far.values c.for_parameter.result
    c.in-Fails.fault before between after x (c.for_parameter.ensures part between after y)
    (sym c.both.ensures ∙ c.in-Fails.is)

pub returns-in_ok-values-in-Fits-clause-said : goal.returns-in_ok-values-in-Fits-clause-said
returns-in_ok-values-in-Fits-clause-said c = λ front part before between after x y.
    behind_fits front (for_parameter c.args.parameter c.args.at part) c.args.so_far.values c.for_parameter.result
    c.in-Fits.values c.in-Fits.operand c.in_ok-values-in-Fits.values before between after x
    (c.for_parameter.ensures part between after y) (sym c.both.ensures ∙ c.in-Fits.is)
    c.in_ok-values-in-Fits.ensures
