-- The row of the beginning is what is taken and the row of what is left.
use Rattle.std.proofs.Common.{◌≡◌, ◌≤◌, length}
use Rattle.c_grammar.specs.Taking.{take_texts, prefixed, with_front}
use Rattle.c_parse_expressions.proofs.cursor.Cursor.take_texts.Given as goal

abbrev pub invariant-loop-pieces : goal.invariant-loop-pieces
invariant-loop-pieces l = record {
  row : prefixed l.pieces.items (take_texts l.self.rest.now) ≡ with_front l.fn.first (take_texts l.fn.self.rest.now);
  shorter : length l.self.rest.now ≤ length l.fn.self.rest.now;
}

abbrev pub decreases-loop-pieces : goal.decreases-loop-pieces
decreases-loop-pieces l = length l.self.rest.now
