use Rattle.std.proofs.Common.{rules}
use Rattle.c_eval.proofs.statements.go_to_label.Goals as goal

pub returns-in-Some : goal.returns-in-Some
returns-in-Some c = rw (← c.take_value-value.ensures.value) (search rules)

pub returns-in-None : goal.returns-in-None
returns-in-None c = rw (← c.take_value-value.ensures.value) (search rules)
