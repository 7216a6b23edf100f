use Rattle.c_check_expressions.specs.Judged.{IsOperandOf}
use Rattle.c_check_expressions.proofs.Answered.{pair_said}
use Rattle.c_check_expressions.proofs.nodes.two_parts.Goals as goal

pub returns : goal.returns
returns c = λ a b before between after first second. pair_said IsOperandOf IsOperandOf a b c.args.first c.args.second
    c.both.result before between after c.both.ensures first second
