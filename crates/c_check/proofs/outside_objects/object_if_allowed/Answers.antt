use Rattle.std.proofs.lemmas.Result.{IfOk-weaker}
use Rattle.c_syntax.specs.Declarations.{value_of}
use Rattle.c_check_names.specs.Views as views
use Rattle.c_check_declarations.specs.Views.{specified_of}
use Rattle.c_check.proofs.StaticObjects.{if_allowed_said}
use Rattle.c_check.proofs.outside_objects.object_if_allowed.Goals as goal

pub returns-in-Fits-clause-said : goal.returns-in-Fits-clause-said
returns-in-Fits-clause-said c = IfOk-weaker c.allowed_object.result _ _ (λ j h part before said.
    if_allowed_said (specified_of c.args.said) c.args.name.now (views.entity_of c.args.entity) c.args.scopes.now
    (value_of c.args.value.now) c.args.of c.in-Fits.of j c.args.notes.now c.allowed_object.new.notes c.in-Fits.is h
    part before said)
    c.allowed_object.ensures.said
