use Rattle.c_grammar.proofs.WorkedFaults.{number_first, end_missing, too_deep}
use Rattle.c_grammar.proofs.laws.worked_faults.Goals as goal

pub returns-clause-first : goal.returns-clause-first
returns-clause-first c = number_first

pub returns-clause-end : goal.returns-clause-end
returns-clause-end c = end_missing

pub returns-clause-deep : goal.returns-clause-deep
returns-clause-deep c = too_deep
