use Rattle.std.proofs.Common.{drop}
use Rattle.c_lex.specs.Radixes.{base_of, is_digit_of}
use Rattle.c_lex.specs.Characters.{front_of}
use Rattle.c_lex.proofs.DigitFronts.{FrontState}
use Rattle.c_lex.proofs.quotes.digits_front.Given as goal

abbrev pub invariant-loop-count : goal.invariant-loop-count
invariant-loop-count l =
    FrontState (base_of l.radix) (front_of (is_digit_of l.radix) l.bytes) l.number l.count
    (front_of (is_digit_of l.radix) (drop l.count l.bytes))
