use Rattle.std.proofs.lemmas.Result.{IfOk-weaker}
use Rattle.c_syntax.specs.Declarations.{declarator_of}
use Rattle.c_syntax.specs.Statements.{stmt_of}
use Rattle.c_check.proofs.Externals.{external_fails, external_fits}
use Rattle.c_check.proofs.units.function_external.Goals as goal

pub returns-in-Fails-clause-said : goal.returns-in-Fails-clause-said
returns-in-Fails-clause-said c = external_fails c.args.specifiers.now (declarator_of c.args.declarator.now)
    (stmt_of c.args.inside.now) c.args.scopes.now c.in-Fails.fault c.args.notes.now c.in-Fails.ensures.said

pub returns-in-Fits-clause-said : goal.returns-in-Fits-clause-said
returns-in-Fits-clause-said c = IfOk-weaker c.definition.result _ _ (λ j h.
    external_fits c.args.specifiers.now (declarator_of c.args.declarator.now) (stmt_of c.args.inside.now)
    c.args.scopes.now c.in-Fits.said j c.args.notes.now c.definition.new.notes c.in-Fits.ensures.said h)
    c.definition.ensures.said
