use Rattle.std.proofs.Common.{map}
use Rattle.std.proofs.lemmas.Result.{IfOk-weaker}
use Rattle.c_syntax.specs.Declarations.{declarator_of, parameter_of}
use Rattle.c_syntax.specs.Statements.{stmt_of}
use Rattle.c_check_declarations.proofs.Itemised.{on_ok}
use Rattle.c_check_declarations.specs.Views.{specified_of}
use Rattle.c_check.proofs.Bodies.{definition_fails, definition_fails_scope, definition_fits}
use Rattle.c_check.proofs.Bodies.{definition_fits_scope}
use Rattle.c_check.proofs.definitions.definition.Goals as goal

pub returns-in_ok-past_body-in-Fails-clause-said : goal.returns-in_ok-past_body-in-Fails-clause-said
returns-in_ok-past_body-in-Fails-clause-said c = definition_fails (specified_of c.args.said)
    (declarator_of c.args.declarator.now)
    (stmt_of c.args.inside.now) (map parameter_of c.parameters_in-list.result.now) c.args.scopes.now
    c.in_ok-fault.field-0 c.in-Fails.fault c.args.notes.now c.function_signature.new.notes
    c.function_signature.new.notes c.parameters_in-list.ensures c.in_ok-fault.ensures.said c.in-Fails.is

pub returns-in_ok-past_body-in-Fails-clause-scope : goal.returns-in_ok-past_body-in-Fails-clause-scope
returns-in_ok-past_body-in-Fails-clause-scope c = definition_fails_scope (specified_of c.args.said)
    (declarator_of c.args.declarator.now) (stmt_of c.args.inside.now)
    (map parameter_of c.parameters_in-list.result.now) c.args.scopes.now c.function_signature.new.scopes
    c.past_body.new.scopes c.in_ok-fault.field-0 c.in-Fails.fault c.args.notes.now c.function_signature.new.notes
    c.parameters_in-list.ensures c.in_ok-fault.ensures.said c.in-Fails.is c.in_ok-fault.ensures.scope
    c.in_ok-past_body-in-Fails.ensures

pub returns-in-Fits-clause-said : goal.returns-in-Fits-clause-said
returns-in-Fits-clause-said c = IfOk-weaker c.defined.result _ _ (λ part h.
    definition_fits (specified_of c.args.said) (declarator_of c.args.declarator.now) (stmt_of c.args.inside.now)
    (map parameter_of c.parameters_in-list.result.now) c.args.scopes.now c.function_signature.new.scopes
    c.in_ok-fault.field-0 c.in-Fits.signature part c.args.notes.now c.function_signature.new.notes
    c.defined.new.notes c.parameters_in-list.ensures c.in_ok-fault.ensures.said c.in-Fits.is
    c.in_ok-fault.ensures.scope h)
    c.defined.ensures.said

pub returns-in-Fits-clause-scope : goal.returns-in-Fits-clause-scope
returns-in-Fits-clause-scope c = on_ok c.defined.result _ _ (λ h.
    definition_fits_scope (specified_of c.args.said) (declarator_of c.args.declarator.now)
    (stmt_of c.args.inside.now) (map parameter_of c.parameters_in-list.result.now) c.args.scopes.now
    c.function_signature.new.scopes c.defined.new.scopes c.in_ok-fault.field-0 c.in-Fits.signature c.args.notes.now
    c.function_signature.new.notes c.parameters_in-list.ensures c.in_ok-fault.ensures.said c.in-Fits.is
    c.in_ok-fault.ensures.scope h)
    c.defined.ensures.scope
