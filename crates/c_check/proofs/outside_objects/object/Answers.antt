use Rattle.std.proofs.Common.{true}
use Rattle.c_syntax.specs.Declarations.{item_of}
use Rattle.c_typing.specs.Declarators.{type_faults}
use Rattle.c_typing.specs.Files.{sized_object}
use Rattle.c_check_declarations.specs.Views.{specified_of}
use Rattle.c_check_declarations.proofs.Rows.{faults_said}
use Rattle.c_check.specs.OutsideAnswers.{AreNone}
use Rattle.c_check.proofs.outside_objects.object.Goals as goal

pub returns-clause-said : goal.returns-clause-said
returns-clause-said c =
    let said = specified_of c.args.said in
    let i = item_of c.args.item.now in
    faults_said AreNone c.type_fault-forbidden.result (type_faults true said i.declarator)
    (sized_object said i c.args.scopes.now) c.in_ok-part.part c.also.result c.args.notes.now c.sized_object.new.notes
    c.type_fault-forbidden.ensures c.also.ensures c.in_ok-part.ensures.said
