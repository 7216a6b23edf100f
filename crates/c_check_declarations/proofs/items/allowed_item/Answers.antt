use Rattle.std.proofs.Common.{sym, subst, Some, option_map}
use Rattle.std.proofs.lemmas.Result.{IfOk-weaker}
use Rattle.c_syntax.specs.Declarations.{value_of}
use Rattle.c_typing.specs.Checked.{if_fits}
use Rattle.c_typing.specs.Statements.{bound_item, object_item}
use Rattle.c_check_expressions.specs.Said.{IsSaid}
use Rattle.c_check_declarations.specs.DeclaratorAnswers.{IsObject, value_answered}
use Rattle.c_check_declarations.specs.Views.{object_of}
use Rattle.c_check_declarations.proofs.Rows.{then_said}
use Rattle.c_check_declarations.specs.ItemAnswers.{AreItem}
use Rattle.c_check_declarations.proofs.items.allowed_item.Goals as goal

pub returns-in-Fits-clause-said : goal.returns-in-Fits-clause-said
returns-in-Fits-clause-said c =
    let s = c.args.scopes.now in
    let name = c.args.name.now in
    let static = c.args.is_static in
    let value = value_of c.args.value.now in
    let inside = bound_item static name (Some (object_of c.in-Fits.of)) s in
    IfOk-weaker c.object_item.result _ _ (λ j h part before said.
    subst (λ p. IsSaid AreItem (if_fits part (object_item static s
    (bound_item static name (option_map object_of (value_answered p)) s) name value)) j before c.object_item.new.notes)
    (sym c.in-Fits.is)
    (then_said IsObject AreItem (object_item static s inside name value) part c.in-Fits.of j before c.args.notes.now
    c.object_item.new.notes (subst (λ p. IsSaid IsObject part p before c.args.notes.now) c.in-Fits.is said)
    (λ x same. subst (λ y. IsSaid AreItem (object_item static s inside name value y) j c.args.notes.now
    c.object_item.new.notes) same h))) c.object_item.ensures.said
