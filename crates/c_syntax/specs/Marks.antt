-- Which token each operator and specifier is (C99 6.4.1, 6.4.6).
use Rattle.std.specs.Prelude.{ℕ, ℤ, false, List}
use Rattle.pcc_base.specs.declared.span.Span.{Span}
use Rattle.pcc_base.specs.declared.keyword.Keyword.{Keyword}
use Rattle.pcc_base.specs.declared.keyword.Keyword.TheVariants as words
use Rattle.c_lex.specs.declared.token.Token.{Token}
use Rattle.c_lex.specs.declared.token.TokenKind.TheVariants as kinds
use Rattle.c_lex.specs.declared.token.Punct.{Punct}
use Rattle.c_lex.specs.declared.token.Punct.TheVariants as marks
use Rattle.c_syntax.specs.declared.operator.BinaryOp.{BinaryOp}
use Rattle.c_syntax.specs.declared.operator.BinaryOp.TheVariants as binary
use Rattle.c_syntax.specs.declared.operator.UnaryOp.{UnaryOp}
use Rattle.c_syntax.specs.declared.operator.UnaryOp.TheVariants as unary
use Rattle.c_syntax.specs.declared.operator.StepOp.{StepOp}
use Rattle.c_syntax.specs.declared.operator.StepOp.TheVariants as step
use Rattle.c_syntax.specs.declared.operator.AssignOp.{AssignOp}
use Rattle.c_syntax.specs.declared.operator.AssignOp.TheVariants as assign
use Rattle.c_syntax.specs.declared.operator.SpecifierWord.{SpecifierWord}
use Rattle.c_syntax.specs.declared.operator.SpecifierWord.TheVariants as specifier

-- ---- tokens at a place

abbrev pub ident : List ℕ → Span → Token
ident name at = record { kind = kinds.Ident name; at = at }

-- of a signed type, as each constant of the language is
abbrev pub number : ℤ → Span → Token
number value at = record { kind = kinds.Number value false; at = at }

abbrev pub text : List ℕ → Span → Token
text bytes at = record { kind = kinds.Text bytes; at = at }

abbrev pub mark : Punct → Span → Token
mark m at = record { kind = kinds.Mark m; at = at }

abbrev pub word : Keyword → Span → Token
word w at = record { kind = kinds.Word w; at = at }

-- ---- operators and specifiers

-- C99 6.5.5 to 6.5.14 and 6.5.17
abbrev pub binary_mark : BinaryOp → Punct
binary_mark binary.Multiply = marks.Star
binary_mark binary.Divide = marks.Slash
binary_mark binary.Remainder = marks.Percent
binary_mark binary.Add = marks.Plus
binary_mark binary.Subtract = marks.Minus
binary_mark binary.ShiftLeft = marks.ShiftLeft
binary_mark binary.ShiftRight = marks.ShiftRight
binary_mark binary.Less = marks.Less
binary_mark binary.Greater = marks.Greater
binary_mark binary.LessEqual = marks.LessEqual
binary_mark binary.GreaterEqual = marks.GreaterEqual
binary_mark binary.Equal = marks.EqualEqual
binary_mark binary.NotEqual = marks.BangEqual
binary_mark binary.BitAnd = marks.And
binary_mark binary.BitXor = marks.Caret
binary_mark binary.BitOr = marks.Or
binary_mark binary.LogicalAnd = marks.AndAnd
binary_mark binary.LogicalOr = marks.OrOr
binary_mark binary.Comma = marks.Comma

-- C99 6.5.3.2, 6.5.3.3
abbrev pub unary_mark : UnaryOp → Punct
unary_mark unary.AddressOf = marks.And
unary_mark unary.Dereference = marks.Star
unary_mark unary.Plus = marks.Plus
unary_mark unary.Minus = marks.Minus
unary_mark unary.Complement = marks.Tilde
unary_mark unary.Not = marks.Bang

-- C99 6.5.2.4, 6.5.3.1
abbrev pub step_mark : StepOp → Punct
step_mark step.Increment = marks.PlusPlus
step_mark step.Decrement = marks.MinusMinus

-- C99 6.5.16
abbrev pub assign_mark : AssignOp → Punct
assign_mark assign.Assign = marks.Equal
assign_mark assign.Multiply = marks.StarEqual
assign_mark assign.Divide = marks.SlashEqual
assign_mark assign.Remainder = marks.PercentEqual
assign_mark assign.Add = marks.PlusEqual
assign_mark assign.Subtract = marks.MinusEqual
assign_mark assign.ShiftLeft = marks.ShiftLeftEqual
assign_mark assign.ShiftRight = marks.ShiftRightEqual
assign_mark assign.BitAnd = marks.AndEqual
assign_mark assign.BitXor = marks.CaretEqual
assign_mark assign.BitOr = marks.OrEqual

-- C99 6.7.1 to 6.7.3
abbrev pub specifier_word : SpecifierWord → Keyword
specifier_word specifier.Auto = words.Auto
specifier_word specifier.Register = words.Register
specifier_word specifier.Static = words.Static
specifier_word specifier.Extern = words.Extern
specifier_word specifier.Const = words.Const
specifier_word specifier.Void = words.Void
specifier_word specifier.Char = words.Char
specifier_word specifier.Short = words.Short
specifier_word specifier.Int = words.Int
specifier_word specifier.Signed = words.Signed
