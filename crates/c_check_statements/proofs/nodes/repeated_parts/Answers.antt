use Rattle.c_typing.specs.Statements.{alone}
use Rattle.c_check_expressions.proofs.Answered.{pair_said}
use Rattle.c_check_declarations.specs.InitialValues.{IsTree}
use Rattle.c_check_statements.specs.Answers.{IsStatement}
use Rattle.c_check_statements.proofs.nodes.repeated_parts.Goals as goal

pub returns : goal.returns
returns c = λ a x before between after first second. pair_said IsStatement IsTree (alone a) x c.alone.result
    c.args.test c.both.result before between after c.both.ensures (c.alone.ensures a before between first) second
