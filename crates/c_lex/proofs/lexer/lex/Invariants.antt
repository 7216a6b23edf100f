-- The tokens so far are those of the pieces so far; the place of what is left fits.
use Rattle.std.proofs.Common.{◌≤◌, ◌+◌, length}
use Rattle.c_lex.proofs.Leading.{Stands}
use Rattle.c_lex.proofs.lexer.lex.Given as goal

abbrev pub invariant-loop-rest : goal.invariant-loop-rest
invariant-loop-rest l = record {
  stands : Stands l.file l.text l.tokens.items l.rest l.at l.fresh;
  few : length l.tokens.items ≤ l.most;
  counted : length l.tokens.items + length l.rest ≤ length l.text;
  line : l.at.line + length l.rest ≤ length l.text + 1;
  col : l.at.col + length l.rest ≤ length l.text + 1;
}

abbrev pub decreases-loop-rest : goal.decreases-loop-rest
decreases-loop-rest l = length l.rest
