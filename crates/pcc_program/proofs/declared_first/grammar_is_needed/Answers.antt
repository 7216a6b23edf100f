use Rattle.pcc_program.proofs.Grammar.{grammar_needed}
use Rattle.pcc_program.proofs.declared_first.grammar_is_needed.Goals as goal

pub returns : goal.returns
returns c = grammar_needed
