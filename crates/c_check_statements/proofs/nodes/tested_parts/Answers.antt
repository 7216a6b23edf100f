use Rattle.c_typing.specs.Statements.{alone}
use Rattle.c_check_expressions.proofs.Answered.{pair_said}
use Rattle.c_check_declarations.specs.InitialValues.{IsTree}
use Rattle.c_check_statements.specs.Answers.{IsStatement}
use Rattle.c_check_statements.proofs.nodes.tested_parts.Goals as goal

pub returns : goal.returns
returns c = λ x a before between after first second. pair_said IsTree IsStatement x (alone a) c.args.test
    c.alone.result c.both.result before between after c.both.ensures first (c.alone.ensures a between after second)
