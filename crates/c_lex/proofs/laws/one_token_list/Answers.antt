-- A text is read in one way.
use Rattle.c_lex.proofs.OneReading.{one_list, tokens_or_fault, one_fault}
use Rattle.c_lex.proofs.laws.one_token_list.Goals as goal

pub returns-clause-tokens : goal.returns-clause-tokens
returns-clause-tokens c = one_list

pub returns-clause-either : goal.returns-clause-either
returns-clause-either c = tokens_or_fault

pub returns-clause-faults : goal.returns-clause-faults
returns-clause-faults c = one_fault
