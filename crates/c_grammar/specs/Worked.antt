-- Tokens whose faults the worked example tells. Each stands on one line, in the column of its number.
use Rattle.std.specs.Prelude.{ℕ, pos, List, [], ◌∷◌, codes}
use Rattle.pcc_base.specs.declared.span.Span.{Span}
use Rattle.pcc_base.specs.declared.keyword.Keyword.TheVariants as words
use Rattle.c_lex.specs.declared.token.Token.{Token}
use Rattle.c_lex.specs.declared.token.Punct.TheVariants as marks
use Rattle.c_syntax.specs.Marks.{ident, number, mark, word}

abbrev pub column : ℕ → Span
column n = record { file = 0; line = 1; col = n }

-- `1`
abbrev pub one : List Token
one = number (pos 1) (column 1) ∷ []

-- `int`
abbrev pub an_int : List Token
an_int = word words.Int (column 1) ∷ []

-- `int a[`
abbrev pub an_array : List Token
an_array = word words.Int (column 1) ∷ ident (codes "a") (column 5) ∷ mark marks.LeftBracket (column 6) ∷ []

-- `(1`
abbrev pub nested : List Token
nested = mark marks.LeftParen (column 7) ∷ number (pos 1) (column 8) ∷ []
