-- The place so far stands behind the bytes so far.
use Rattle.std.proofs.Common.{◌≡◌, ◌+◌, ◌≤◌, drop}
use Rattle.c_lex.specs.Tokens.{place_after}
use Rattle.c_lex.proofs.place.advance.Given as goal

abbrev pub invariant-loop-byte : goal.invariant-loop-byte
invariant-loop-byte l = record {
  place : place_after l.fn.at l.bytes ≡ place_after l.place (drop l.byte-index l.bytes);
  line : l.place.line ≤ l.fn.at.line + l.byte-index;
  col : l.place.col ≤ l.fn.at.col + l.byte-index;
}
