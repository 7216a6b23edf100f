-- The row of the beginning is what is taken and the row of what is left.
use Rattle.std.proofs.Common.{◌≡◌, ◌+◌, ◌≤◌, length}
use Rattle.c_grammar.specs.Taking.{take_specifiers, prefixed}
use Rattle.c_parse_expressions.proofs.cursor.Cursor.take_specifiers.Given as goal

abbrev pub invariant-loop-specifier : goal.invariant-loop-specifier
invariant-loop-specifier l = record {
  row : prefixed l.specifiers.items (take_specifiers l.self.rest.now) ≡ take_specifiers l.fn.self.rest.now;
  shorter : length l.self.rest.now + length l.specifiers.items ≤ length l.fn.self.rest.now;
}

abbrev pub decreases-loop-specifier : goal.decreases-loop-specifier
decreases-loop-specifier l = length l.self.rest.now
