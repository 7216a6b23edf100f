use Rattle.std.proofs.Common.{map}
use Rattle.c_syntax.specs.Declarations.{declarator_of, parameter_of}
use Rattle.c_check_declarations.specs.Views.{specified_of}
use Rattle.c_check.proofs.Signatures.{signature_said}
use Rattle.c_check.proofs.functions.function_signature.Goals as goal

pub returns-clause-said : goal.returns-clause-said
returns-clause-said c = signature_said c.args.scopes.now (specified_of c.args.said)
    (declarator_of c.args.declarator.now) c.args.whole (map parameter_of c.args.parameters.now) c.pointed-of.result
    c.main_fault-main.result c.result_fault-pointer.result c.in_ok-part.part c.also-allowed.result c.also.result
    c.args.notes.now c.signature_with.new.notes c.pointed-of.ensures
    c.main_fault-main.ensures c.result_fault-pointer.ensures c.also-allowed.ensures c.also.ensures
    c.in_ok-part.ensures.said
