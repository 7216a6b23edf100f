-- The row of the beginning is what is taken and the row of what is left.
use Rattle.std.proofs.Common.{◌≡◌, ◌≤◌, length}
use Rattle.c_grammar.specs.Taking.{take_consts, prefixed}
use Rattle.c_parse_expressions.proofs.cursor.Cursor.take_consts.Given as goal

abbrev pub invariant-loop-at : goal.invariant-loop-at
invariant-loop-at l = record {
  row : prefixed l.consts.items (take_consts l.self.rest.now) ≡ take_consts l.fn.self.rest.now;
  shorter : length l.self.rest.now ≤ length l.fn.self.rest.now;
}

abbrev pub decreases-loop-at : goal.decreases-loop-at
decreases-loop-at l = length l.self.rest.now
