use Rattle.c_typing.specs.Checked.{pair}
use Rattle.c_typing.specs.Statements.{alone}
use Rattle.c_check_expressions.proofs.Answered.{pair_said}
use Rattle.c_check_statements.specs.Answers.{AreHead, IsStatement}
use Rattle.c_check_statements.proofs.nodes.turns.Goals as goal

pub returns : goal.returns
returns c = λ a b d before between after front part. c.turns_in_turn.ensures a b (alone d) before after
    (pair_said AreHead IsStatement (pair a b) (alone d) c.args.front c.alone.result c.both.result before between
    after c.both.ensures front (c.alone.ensures d between after part))
