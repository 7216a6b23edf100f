use Rattle.std.proofs.Common.{ap, sym, ◌∙◌, false}
use Rattle.std.specs.Option.{option_map_or}
use Rattle.c_tree.specs.Erased.{boxed_of, expression_of, place_of}
use Rattle.c_tree.specs.Program.{value_type}
use Rattle.c_typing.specs.Rows.{can_assign}
use Rattle.c_check_expressions.specs.Operators.{result_type}
use Rattle.c_check_expressions.proofs.Updates.{unassigned}
use Rattle.c_check_expressions.proofs.lvalues.update.Goals as goal

pub returns-then-not-can_update : goal.returns-then-not-can_update
returns-then-not-can_update c = let e = boxed_of c.args.value.tree in
    unassigned c.args.op c.args.at c.args.of (place_of c.args.place) e
    (result_type c.args.op c.args.of false (value_type e) false) c.unassigned.result
    (ap (λ t. option_map_or (λ u. can_assign c.args.of u false) (result_type c.args.op c.args.of false t false) false)
    (sym (c.value_type.ensures ∙ ap (λ t. value_type (expression_of t)) c.deref.ensures)) ∙ sym c.can_update.ensures
    ∙ c.if-not-can_update.true) c.unassigned.ensures
