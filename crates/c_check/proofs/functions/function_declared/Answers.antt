use Rattle.std.proofs.Common.{◌∙◌}
use Rattle.c_check_declarations.specs.Views.{specified_of}
use Rattle.c_check_names.specs.Views as views
use Rattle.c_check.proofs.Signatures.{declared_said}
use Rattle.c_check.proofs.functions.function_declared.Goals as goal

pub returns : goal.returns
returns c = declared_said c.args.scopes.now (specified_of c.args.said) c.args.name.now c.args.whole c.args.of
    c.args.parameters.items c.in_ok-copy.copy.items (views.outer_of c.in_ok-outer.outer)
    c.redeclared_fault-redeclared.result c.library_fault-library.result c.signature_of-part.result
    c.also-defined.result c.also.result (c.in_ok-copy.ensures ∙ c.as_slice.ensures.value)
    c.in_ok-outer.ensures c.redeclared_fault-redeclared.ensures c.library_fault-library.ensures
    c.also-defined.ensures c.also.ensures c.signature_of-part.ensures
