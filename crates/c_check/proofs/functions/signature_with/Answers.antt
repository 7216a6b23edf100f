use Rattle.std.proofs.Common.{map}
use Rattle.std.proofs.lemmas.Result.{IfOk-weaker}
use Rattle.c_syntax.specs.Declarations.{parameter_of}
use Rattle.c_check_declarations.specs.Views.{specified_of}
use Rattle.c_check.proofs.Signatures.{signature_fails, signature_fits}
use Rattle.c_check.proofs.functions.signature_with.Goals as goal

pub returns-in-Fails-clause-said : goal.returns-in-Fails-clause-said
returns-in-Fails-clause-said c = signature_fails c.args.scopes.now (specified_of c.args.said) c.args.name.now
    c.args.of c.args.whole (map parameter_of c.args.parameters.now) c.in_ok-fault.field-0 c.in-Fails.fault
    c.args.notes.now c.parameters_apart.new.notes c.in_ok-fault.ensures.said c.in-Fails.is

pub returns-in-Fits-clause-said : goal.returns-in-Fits-clause-said
returns-in-Fits-clause-said c = IfOk-weaker c.function_declared.result _ _ (λ part h.
    signature_fits c.args.scopes.now c.parameters_apart.new.scopes (specified_of c.args.said) c.args.name.now
    c.args.of c.args.whole (map parameter_of c.args.parameters.now) c.in_ok-fault.field-0 c.in-Fits.types part
    c.args.notes.now c.parameters_apart.new.notes c.in_ok-fault.ensures.said c.in-Fits.is
    c.in_ok-fault.ensures.scope h)
    c.function_declared.ensures
