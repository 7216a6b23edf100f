use Rattle.std.proofs.lemmas.Result.{IfOk-weaker}
use Rattle.c_syntax.specs.Declarations.{parameter_of}
use Rattle.c_check_declarations.proofs.Sized.{parameter_said, specifiers_fail}
use Rattle.c_check_declarations.proofs.parameter_lists.typed_parameter.Goals as goal

pub returns-in-Fails : goal.returns-in-Fails
returns-in-Fails c = specifiers_fail c.args.scopes.now c.args.definition (parameter_of c.args.p.now)
    c.as_slice.result.now c.in-Fails.fault c.as_slice.ensures.value c.in-Fails.ensures.said c.args.notes.now

pub returns-in-Fits : goal.returns-in-Fits
returns-in-Fits c = IfOk-weaker c.based_parameter.result _ _ (λ j row.
    parameter_said c.args.scopes.now c.args.definition (parameter_of c.args.p.now) c.as_slice.result.now
    c.in-Fits.said j c.args.notes.now c.based_parameter.new.notes c.as_slice.ensures.value c.in-Fits.ensures.said row)
    c.based_parameter.ensures
