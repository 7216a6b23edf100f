use Rattle.c_check_expressions.proofs.Answered.{pair_said}
use Rattle.c_check_declarations.specs.ItemAnswers.{IsTreeIfAny}
use Rattle.c_check_statements.specs.Answers.{IsFirst}
use Rattle.c_check_statements.proofs.heads.start.Goals as goal

pub returns : goal.returns
returns c = λ a b before between after first second. pair_said IsFirst IsTreeIfAny a b c.args.first c.args.test
    c.both.result before between after c.both.ensures first second
