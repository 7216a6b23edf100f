use Rattle.std.proofs.lemmas.Result.{IfOk-weaker}
use Rattle.std.proofs.Common.{ap, ◌∙◌}
use Rattle.c_syntax.specs.Declarations.{value_of}
use Rattle.c_typing.specs.Library.{Entity}
use Rattle.c_typing.specs.Statements.{bound_object}
use Rattle.c_check_names.specs.Views as views
use Rattle.c_check_expressions.specs.Notes.{contents_of}
use Rattle.c_check_declarations.specs.Views.{object_of, specified_of}
use Rattle.c_check.proofs.StaticObjects.{allowed_said}
use Rattle.c_check.proofs.outside_objects.allowed_object.Goals as goal

pub returns-clause-said : goal.returns-clause-said
returns-clause-said c =
    let s = c.args.scopes.now in
    let e = views.entity_of c.args.entity in
    IfOk-weaker c.stored_object.result _ _ (λ j h.
    allowed_said (specified_of c.args.said) e (object_of c.args.of)
    (bound_object c.args.name.now e (object_of c.args.of) s) c.bind_object.new.scopes
    (contents_of c.without_value-otherwise.result) (value_of c.args.value.now) j c.args.notes.now
    c.stored_object.new.notes
    (c.in_ok-bind_object.ensures ∙ ap (λ (x : Entity). bound_object c.args.name.now x (object_of c.args.of) s)
    c.in_ok-seen.ensures) c.without_value-otherwise.ensures h)
    c.stored_object.ensures
