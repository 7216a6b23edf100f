use Rattle.std.proofs.Common.{subst, ◌++◌}
use Rattle.c_typing.specs.Checked.{fits, pair}
use Rattle.c_check_expressions.specs.Said.{IsSaid}
use Rattle.c_check_expressions.proofs.Answered.{pair_said}
use Rattle.c_check_declarations.proofs.Rows.{fails_said}
use Rattle.c_check_statements.specs.Answers.{AreListed}
use Rattle.c_check_statements.proofs.parts.joined.Goals as goal

pub returns-in-Fails : goal.returns-in-Fails
returns-in-Fails c = λ front part before between after first second.
    fails_said (λ p q. AreListed p.0 q.0 × AreListed p.1 q.1) AreListed (λ p. fits (p.0 ++ p.1)) (pair front part)
    c.in-Fails.fault before after after
    (subst (λ j. IsSaid (λ p q. AreListed p.0 q.0 × AreListed p.1 q.1) (pair front part) j before after) c.in-Fails.is
    (pair_said AreListed AreListed front part c.args.so_far c.args.part c.both.result before between after
    c.both.ensures first second))
