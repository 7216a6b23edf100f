use Rattle.std.proofs.Common.{subst}
use Rattle.c_check_expressions.specs.Said.{IsSaid}
use Rattle.c_check_declarations.specs.ItemAnswers.{IsTreeIfAny}
use Rattle.c_check_statements.proofs.Returning.{returned_integer, returned_pointer}
use Rattle.c_check_statements.proofs.conditions.something_returned.Goals as goal

pub returns-in-Integer : goal.returns-in-Integer
returns-in-Integer c = λ e notes is. subst (λ k. IsSaid IsTreeIfAny k c.value_returned.result notes notes)
    (returned_integer c.args.of _ c.args.at e c.in-Integer.is) (c.value_returned.ensures e notes is)

pub returns-in-Pointer : goal.returns-in-Pointer
returns-in-Pointer c = λ e notes is. subst (λ k. IsSaid IsTreeIfAny k c.value_returned-in-Pointer.result notes notes)
    (returned_pointer c.args.of _ c.args.at e c.in-Pointer.is) (c.value_returned-in-Pointer.ensures e notes is)
