use Rattle.std.proofs.Common.{ap, ◌∙◌, Bool}
use Rattle.c_syntax.specs.Declarations.{item_of}
use Rattle.c_typing.specs.Declarators.{type_faults}
use Rattle.c_typing.specs.Statements.{sized_item}
use Rattle.c_typing.specs.Types.{is_static}
use Rattle.c_check_declarations.specs.Views.{specified_of}
use Rattle.c_check_declarations.proofs.Rows.{faults_said}
use Rattle.c_check_declarations.specs.ItemAnswers.{AreItem}
use Rattle.c_check_declarations.proofs.items.item.Goals as goal

pub returns-clause-said : goal.returns-clause-said
returns-clause-said c =
    let said = specified_of c.args.said in
    let i = item_of c.args.item.now in
    faults_said AreItem c.type_fault-forbidden.result (type_faults (is_static said.storage) said i.declarator)
    (sized_item said i c.args.scopes.now) c.in_ok-part.part c.also.result c.args.notes.now c.sized_item.new.notes
    (c.type_fault-forbidden.ensures ∙ ap (λ (b : Bool). type_faults b said i.declarator) c.is_static.ensures)
    c.also.ensures c.in_ok-part.ensures.said
