use Rattle.c_check_expressions.proofs.Answered.{pair_said}
use Rattle.c_check_declarations.specs.ItemAnswers.{IsTreeIfAny}
use Rattle.c_check_statements.specs.Answers.{AreStart}
use Rattle.c_check_statements.proofs.heads.head.Goals as goal

pub returns : goal.returns
returns c = λ a b before between after first second. pair_said AreStart IsTreeIfAny a b c.args.start c.args.step
    c.both.result before between after c.both.ensures first second
