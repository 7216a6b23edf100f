-- The bases in which integer constants are written (C99 6.4.4.1).
use Rattle.std.specs.Prelude.{ℕ, Bool}
use Rattle.c_lex.specs.declared.radix.Radix.{Radix}
use Rattle.c_lex.specs.declared.radix.Radix.TheVariants.{Octal, Decimal, Hexadecimal}
use Rattle.c_lex.specs.Bytes.{is_digit, is_octal_digit, is_hexadecimal_digit}

abbrev pub base_of : Radix → ℕ
base_of Octal = 8
base_of Decimal = 10
base_of Hexadecimal = 16

abbrev pub is_digit_of : Radix → ℕ → Bool
is_digit_of Octal b = is_octal_digit b
is_digit_of Decimal b = is_digit b
is_digit_of Hexadecimal b = is_hexadecimal_digit b
