use Rattle.std.proofs.Common.{◌≡◌, ◌≤◌, drop}
use Rattle.c_lex.specs.Bytes.{number_after, number_in}
use Rattle.c_lex.specs.Literals.{AllPass}
use Rattle.c_lex.specs.Radixes.{base_of, is_digit_of}
use Rattle.c_lex.proofs.number_texts.value_in.Given as goal

abbrev pub invariant-loop-b : goal.invariant-loop-b
invariant-loop-b l = record {
  low : l.value ≤ 0x7fffffff;
  number : number_after (base_of l.radix) l.value (drop l.b-index l.digits) ≡ number_in (base_of l.radix) l.digits;
  passes : AllPass (is_digit_of l.radix) (drop l.b-index l.digits) → AllPass (is_digit_of l.radix) l.digits;
  passed : AllPass (is_digit_of l.radix) l.digits → AllPass (is_digit_of l.radix) (drop l.b-index l.digits);
}
