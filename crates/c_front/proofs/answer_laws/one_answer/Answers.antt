-- Texts have one answer.
use Rattle.c_front.proofs.OneAnswer.{one_program, one_fault, one_limit, no_fault, within, fault_or_limit}
use Rattle.c_front.proofs.answer_laws.one_answer.Goals as goal

pub returns-clause-program : goal.returns-clause-program
returns-clause-program c = one_program

pub returns-clause-fault : goal.returns-clause-fault
returns-clause-fault c = one_fault

pub returns-clause-limit : goal.returns-clause-limit
returns-clause-limit c = one_limit

pub returns-clause-no_fault : goal.returns-clause-no_fault
returns-clause-no_fault c = no_fault

pub returns-clause-within : goal.returns-clause-within
returns-clause-within c = within

pub returns-clause-fault_or_limit : goal.returns-clause-fault_or_limit
returns-clause-fault_or_limit c = fault_or_limit
