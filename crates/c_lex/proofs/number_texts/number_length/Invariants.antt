use Rattle.std.proofs.Common.{◌≡◌, ◌+◌, drop}
use Rattle.pcc_base.specs.Ascii.{digit_zero}
use Rattle.c_lex.proofs.NumberPieces.{run, IsNumberStart}
use Rattle.c_lex.proofs.number_texts.number_length.Given as goal

abbrev pub invariant-loop-i : goal.invariant-loop-i
invariant-loop-i l = record {
  begun : IsNumberStart l.rest l.start;
  count : l.i + run l.before (drop l.i l.rest) ≡ l.start + run digit_zero (drop l.start l.rest);
}
