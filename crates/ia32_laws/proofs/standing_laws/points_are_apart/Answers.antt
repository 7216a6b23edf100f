use Rattle.ia32_laws.proofs.Apart.{points-apart, marks-are-nops, others-are-clear}
use Rattle.ia32_laws.proofs.standing_laws.points_are_apart.Goals as goal

pub returns-clause-apart : goal.returns-clause-apart
returns-clause-apart c = points-apart

pub returns-clause-nops : goal.returns-clause-nops
returns-clause-nops c = marks-are-nops

pub returns-clause-clear : goal.returns-clause-clear
returns-clause-clear c = others-are-clear
