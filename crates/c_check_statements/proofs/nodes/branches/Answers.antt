use Rattle.c_typing.specs.Checked.{pair}
use Rattle.c_typing.specs.Statements.{alone}
use Rattle.c_check_expressions.proofs.Answered.{pair_said}
use Rattle.c_check_statements.specs.Answers.{AreTested, IsStatement}
use Rattle.c_check_statements.proofs.nodes.branches.Goals as goal

pub returns : goal.returns
returns c = λ x a b before between after front other. c.in_turn.ensures x a (alone b) before after
    (pair_said AreTested IsStatement (pair x a) (alone b) c.args.front c.alone.result c.both.result before between
    after c.both.ensures front (c.alone.ensures b between after other))
