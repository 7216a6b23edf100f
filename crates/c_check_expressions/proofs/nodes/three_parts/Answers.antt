use Rattle.c_typing.specs.Checked.{pair}
use Rattle.c_check_expressions.specs.Judged.{IsOperandOf}
use Rattle.c_check_expressions.specs.Said.{AreOperandsOf}
use Rattle.c_check_expressions.proofs.Answered.{pair_said}
use Rattle.c_check_expressions.proofs.nodes.three_parts.Goals as goal

pub returns : goal.returns
returns c = λ a b last before between after front third. c.in_turn.ensures a b last before after
    (pair_said AreOperandsOf IsOperandOf (pair a b) last c.args.front c.args.third c.both.result before between after
    c.both.ensures front third)
