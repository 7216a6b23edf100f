use Rattle.std.proofs.Common.{Option}
use Rattle.c_tree.specs.Program.{Expression}
use Rattle.c_typing.specs.Statements.{returned}
use Rattle.c_check_expressions.specs.Said.{IsSaid}
use Rattle.c_check_declarations.specs.ItemAnswers.{IsTreeIfAny}
use Rattle.c_check_statements.proofs.Returning.{with_none, with_some}
use Rattle.c_check_statements.proofs.conditions.returned_value.Goals as goal

pub returns-in-None : goal.returns-in-None
returns-in-None c = λ x notes is. with_none (λ (y : Option Expression). IsSaid IsTreeIfAny
    (returned c.args.of c.args.at y) c.nothing_returned.result notes notes) x c.args.value c.in-None.is is
    (c.nothing_returned.ensures notes)

pub returns-in-Some : goal.returns-in-Some
returns-in-Some c = λ x notes is. with_some (λ (y : Option Expression). IsSaid IsTreeIfAny
    (returned c.args.of c.args.at y) c.something_returned.result notes notes) x c.args.value c.in-Some.operand
    c.in-Some.is is (λ e h. c.something_returned.ensures e notes h)
