use Rattle.c_typing.specs.Checked.{pair}
use Rattle.c_check_expressions.proofs.Answered.{pair_said}
use Rattle.c_check_statements.specs.Answers.{AreSelected, AreStatements}
use Rattle.c_check_statements.proofs.nodes.cases.Goals as goal

pub returns : goal.returns
returns c = λ x a b before between after front body. c.cases_in_turn.ensures x a b before after
    (pair_said AreSelected AreStatements (pair x a) b c.args.front c.args.body c.both.result before between after
    c.both.ensures front body)
