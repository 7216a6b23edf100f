use Rattle.std.proofs.Common.{map}
use Rattle.std.proofs.lemmas.Result.{IfOk-weaker}
use Rattle.c_syntax.specs.Declarations.{declarator_of, item_of, parameter_of}
use Rattle.c_check_declarations.specs.Views.{specified_of}
use Rattle.c_check.proofs.Bodies.{holds_ok}
use Rattle.c_check.proofs.Signatures.{prototype_fails, prototype_fails_scope, prototype_fits}
use Rattle.c_check.proofs.Signatures.{prototype_fits_scope}
use Rattle.c_check.proofs.functions.prototype.Goals as goal

pub returns-in-Fails-clause-said : goal.returns-in-Fails-clause-said
returns-in-Fails-clause-said c = prototype_fails _ (specified_of c.args.said) (item_of c.args.item.now)
    (map parameter_of c.args.parameters.now) c.args.scopes.now c.in_ok-fault.field-0 c.in-Fails.fault c.args.notes.now
    c.function_signature.new.notes c.in_ok-fault.ensures.said c.in-Fails.is

pub returns-in-Fails-clause-scope : goal.returns-in-Fails-clause-scope
returns-in-Fails-clause-scope c = prototype_fails_scope c.args.scopes.now c.function_signature.new.scopes
    (specified_of c.args.said) (declarator_of c.args.item.now.declarator) (map parameter_of c.args.parameters.now)
    c.in_ok-fault.field-0 c.in-Fails.fault c.args.notes.now c.function_signature.new.notes
    c.in_ok-fault.ensures.said c.in-Fails.is c.in_ok-fault.ensures.scope

pub returns-in_ok-declare_function-in-Fits-clause-said : goal.returns-in_ok-declare_function-in-Fits-clause-said
returns-in_ok-declare_function-in-Fits-clause-said c = IfOk-weaker c.function_initialiser.result _ _ (λ part h.
    prototype_fits (specified_of c.args.said) (item_of c.args.item.now) (map parameter_of c.args.parameters.now)
    c.args.scopes.now c.declare_function.new.scopes c.in_ok-fault.field-0 c.in-Fits.signature part c.args.notes.now
    c.function_signature.new.notes c.function_initialiser.new.notes c.in_ok-fault.ensures.said c.in-Fits.is
    (prototype_fits_scope c.args.scopes.now c.function_signature.new.scopes c.declare_function.new.scopes
    (specified_of c.args.said) (declarator_of c.args.item.now.declarator) (map parameter_of c.args.parameters.now)
    c.in_ok-fault.field-0 c.in-Fits.signature c.args.notes.now c.function_signature.new.notes
    c.in_ok-fault.ensures.said c.in-Fits.is c.in_ok-fault.ensures.scope
    c.in_ok-declare_function-in-Fits.ensures.1) h)
    c.function_initialiser.ensures

pub returns-in_ok-declare_function-in-Fits-clause-scope : goal.returns-in_ok-declare_function-in-Fits-clause-scope
returns-in_ok-declare_function-in-Fits-clause-scope c = holds_ok c.function_initialiser.result _
    (prototype_fits_scope c.args.scopes.now c.function_signature.new.scopes c.declare_function.new.scopes
    (specified_of c.args.said) (declarator_of c.args.item.now.declarator) (map parameter_of c.args.parameters.now)
    c.in_ok-fault.field-0 c.in-Fits.signature c.args.notes.now c.function_signature.new.notes
    c.in_ok-fault.ensures.said c.in-Fits.is c.in_ok-fault.ensures.scope
    c.in_ok-declare_function-in-Fits.ensures.1)
