use Rattle.std.proofs.Common.{ap, map}
use Rattle.c_syntax.specs.Declarations.{value_of}
use Rattle.c_syntax.specs.Expressions.{expr_of, exprs_of}
use Rattle.c_check.proofs.Signatures.{initialiser_said}
use Rattle.c_check.proofs.functions.function_initialiser.Goals as goal

pub returns-in_ok-values-in-Some : goal.returns-in_ok-values-in-Some
returns-in_ok-values-in-Some c = initialiser_said c.args.scopes.now (value_of c.args.value.now) _
    (exprs_of (map expr_of c.scalar_values.result.now)) c.first_token_of.result c.in_ok-values-in-Some.values
    c.initialised.result c.args.notes.now c.expressions.new.notes (ap value_of c.in-Some.is) c.scalar_values.ensures
    c.first_token_of.ensures c.in_ok-values-in-Some.ensures c.initialised.ensures
