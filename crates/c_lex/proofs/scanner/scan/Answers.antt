-- What each part says for every `fresh` holds for the one given.
use Rattle.std.proofs.Common.{arith}
use Rattle.std.proofs.lemmas.Grind.{common_steps}
use Rattle.c_lex.proofs.scanner.scan.Goals as goal

pub returns-then-is_letter : goal.returns-then-is_letter
returns-then-is_letter c = c.word_at.ensures c.args.fresh

pub returns-then-starts_number : goal.returns-then-starts_number
returns-then-starts_number c = c.number_at.ensures c.args.fresh

pub returns-then-is_quote : goal.returns-then-is_quote
returns-then-is_quote c = c.quote_at.ensures c.args.fresh

pub returns-then-is_space : goal.returns-then-is_space
returns-then-is_space c = c.space_at.ensures c.args.fresh

pub returns-then-first-eq47 : goal.returns-then-first-eq47
returns-then-first-eq47 c = c.slash_at.ensures c.args.fresh

pub returns : goal.returns
returns c = c.mark_at.ensures c.args.fresh

pub word_at-requires : goal.word_at-requires
word_at-requires c = grind (arith, common_steps)

pub mark_at-requires-clause-byte : goal.mark_at-requires-clause-byte
mark_at-requires-clause-byte c = grind (arith, common_steps)
