-- With which tokens an expression begins, and a declaration or a statement.
use Rattle.std.specs.Prelude.{Bool, true, false, not}
use Rattle.pcc_base.specs.declared.keyword.Keyword.{Keyword}
use Rattle.pcc_base.specs.declared.keyword.Keyword.TheVariants as words
use Rattle.c_lex.specs.declared.token.TokenKind.{TokenKind}
use Rattle.c_lex.specs.declared.token.TokenKind.TheVariants as kinds
use Rattle.c_lex.specs.declared.token.Punct.{Punct}
use Rattle.c_lex.specs.declared.token.Punct.TheVariants as marks

abbrev pub mark_begins : Punct → Bool
mark_begins marks.LeftParen = true
mark_begins marks.PlusPlus = true
mark_begins marks.MinusMinus = true
mark_begins marks.And = true
mark_begins marks.Star = true
mark_begins marks.Plus = true
mark_begins marks.Minus = true
mark_begins marks.Tilde = true
mark_begins marks.Bang = true
mark_begins _ = false

-- whether an expression may begin with a token
abbrev pub begins : TokenKind → Bool
begins (kinds.Ident name) = true
begins (kinds.Number value unsigned) = not unsigned
begins (kinds.Text bytes) = true
begins (kinds.Mark m) = mark_begins m
begins (kinds.Word w) = false

abbrev pub mark_begins_primary : Punct → Bool
mark_begins_primary marks.LeftParen = true
mark_begins_primary _ = false

-- whether a primary expression may begin with a token
abbrev pub begins_primary : TokenKind → Bool
begins_primary (kinds.Ident name) = true
begins_primary (kinds.Number value unsigned) = not unsigned
begins_primary (kinds.Text bytes) = true
begins_primary (kinds.Mark m) = mark_begins_primary m
begins_primary (kinds.Word w) = false

abbrev pub word_begins_item : Keyword → Bool
word_begins_item words.If = true
word_begins_item words.While = true
word_begins_item words.Do = true
word_begins_item words.For = true
word_begins_item words.Switch = true
word_begins_item words.Break = true
word_begins_item words.Continue = true
word_begins_item words.Return = true
word_begins_item words.Auto = true
word_begins_item words.Register = true
word_begins_item words.Static = true
word_begins_item words.Extern = true
word_begins_item words.Const = true
word_begins_item words.Void = true
word_begins_item words.Char = true
word_begins_item words.Short = true
word_begins_item words.Int = true
word_begins_item words.Signed = true
word_begins_item _ = false

abbrev pub mark_begins_item : Punct → Bool
mark_begins_item marks.LeftBrace = true
mark_begins_item marks.Semicolon = true
mark_begins_item m = mark_begins m

-- whether a declaration or a statement may begin with a token
abbrev pub begins_item : TokenKind → Bool
begins_item (kinds.Word w) = word_begins_item w
begins_item (kinds.Mark m) = mark_begins_item m
begins_item kind = begins kind
