-- A text spells one keyword at most and one punctuator at most, and its first bytes tell which kind of
-- piece it may be.
use Rattle.std.proofs.Common.{◌≡◌, ℕ, List, [], ◌∷◌, ◌++◌, map, ◌||◌, ◌==◌, cond, Option, Some, None, inl, inr, refl}
use Rattle.std.proofs.Common.{sym, ap, ◌∙◌, bytes_eq, codes}
use Rattle.pcc_base.specs.Ascii.{double_quote, hash, apostrophe, star, slash}
use Rattle.pcc_base.specs.declared.keyword.Keyword.{Keyword}
use Rattle.pcc_base.specs.declared.keyword.Keyword.TheVariants as words
use Rattle.c_lex.specs.declared.token.Punct.{Punct}
use Rattle.c_lex.specs.declared.token.Punct.TheVariants as marks
use Rattle.c_lex.specs.Bytes.{is_space, is_letter, is_digit}
use Rattle.c_lex.specs.Spellings.{keyword_text, mark_text, IsDigraph, IsMark}

-- ---- keywords

-- each keyword
abbrev all_words : List Keyword
all_words =
    words.Auto ∷ words.Break ∷ words.Case ∷ words.Char ∷ words.Const ∷ words.Continue ∷ words.Default ∷ words.Do
    ∷ words.Double ∷ words.Else ∷
    words.Enum ∷ words.Extern ∷ words.Float ∷ words.For ∷ words.Goto ∷ words.If ∷ words.Inline ∷ words.Int ∷ words.Long
    ∷ words.Register ∷
    words.Restrict ∷ words.Return ∷ words.Short ∷ words.Signed ∷ words.Sizeof ∷ words.Static ∷ words.Struct
    ∷ words.Switch ∷ words.Typedef ∷
    words.Union ∷ words.Unsigned ∷ words.Void ∷ words.Volatile ∷ words.While ∷ words.Bool ∷ words.Complex
    ∷ words.Imaginary ∷ []

-- the first keyword of a list that has the text
abbrev word_in : List Keyword → List ℕ → Option Keyword
word_in [] bytes = None
word_in (w ∷ ws) bytes = cond (bytes_eq (keyword_text w) bytes) (Some w) (word_in ws bytes)

-- a keyword is found by its text
word_found : (w : Keyword) → word_in all_words (keyword_text w) ≡ Some w
word_found words.Auto = refl
word_found _ = refl

-- keywords of one text are one
pub one_word : (v w : Keyword) → keyword_text v ≡ keyword_text w → v ≡ w
one_word v w e =
    let found : Some v ≡ Some w = sym (word_found v) ∙ ap (word_in all_words) e ∙ word_found w in
    cc

-- ---- punctuators

-- each punctuator
abbrev all_marks : List Punct
all_marks =
    marks.LeftBracket ∷ marks.RightBracket ∷ marks.LeftParen ∷ marks.RightParen ∷ marks.LeftBrace ∷ marks.RightBrace
    ∷ marks.Dot ∷ marks.Arrow ∷
    marks.PlusPlus ∷ marks.MinusMinus ∷ marks.And ∷ marks.Star ∷ marks.Plus ∷ marks.Minus ∷ marks.Tilde ∷ marks.Bang
    ∷ marks.Slash ∷ marks.Percent ∷
    marks.ShiftLeft ∷ marks.ShiftRight ∷ marks.Less ∷ marks.Greater ∷ marks.LessEqual ∷ marks.GreaterEqual
    ∷ marks.EqualEqual ∷ marks.BangEqual ∷
    marks.Caret ∷ marks.Or ∷ marks.AndAnd ∷ marks.OrOr ∷ marks.Question ∷ marks.Colon ∷ marks.Semicolon ∷ marks.Ellipsis
    ∷ marks.Equal ∷
    marks.StarEqual ∷ marks.SlashEqual ∷ marks.PercentEqual ∷ marks.PlusEqual ∷ marks.MinusEqual ∷ marks.ShiftLeftEqual
    ∷ marks.ShiftRightEqual ∷
    marks.AndEqual ∷ marks.CaretEqual ∷ marks.OrEqual ∷ marks.Comma ∷ []

-- each digraph and its mark
abbrev digraphs : List (List ℕ × Punct)
digraphs = (codes "<:", marks.LeftBracket) ∷ (codes ":>", marks.RightBracket) ∷ (codes "<%", marks.LeftBrace)
    ∷ (codes "%>", marks.RightBrace) ∷ []

-- each spelling of a punctuator
abbrev spellings : List (List ℕ × Punct)
spellings = map (λ m. (mark_text m, m)) all_marks ++ digraphs

-- the first punctuator of a list that has the spelling
abbrev mark_in : List (List ℕ × Punct) → List ℕ → Option Punct
mark_in [] bytes = None
mark_in (s ∷ ss) bytes = cond (bytes_eq s.0 bytes) (Some s.1) (mark_in ss bytes)

-- a punctuator is found by its text
mark_found : (m : Punct) → mark_in spellings (mark_text m) ≡ Some m
mark_found marks.LeftBracket = refl
mark_found _ = refl

-- and by its digraph
digraph_found : (m : Punct) (bytes : List ℕ) → IsDigraph m bytes → mark_in spellings bytes ≡ Some m
digraph_found marks.LeftBracket bytes e = ap (mark_in spellings) e
digraph_found marks.RightBracket bytes e = ap (mark_in spellings) e
digraph_found marks.LeftBrace bytes e = ap (mark_in spellings) e
digraph_found marks.RightBrace bytes e = ap (mark_in spellings) e
digraph_found _ bytes e = absurd e

-- and so by any spelling
spelling_found : (m : Punct) (bytes : List ℕ) → IsMark m bytes → mark_in spellings bytes ≡ Some m
spelling_found m bytes (inl e) = ap (mark_in spellings) e ∙ mark_found m
spelling_found m bytes (inr e) = digraph_found m bytes e

-- punctuators of one spelling are one
pub one_mark : (l m : Punct) (bytes : List ℕ) → IsMark l bytes → IsMark m bytes → l ≡ m
one_mark l m bytes p q =
    let found : Some l ≡ Some m = sym (spelling_found l bytes p) ∙ spelling_found m bytes q in
    cc

-- ---- kinds

-- behind `/`: 1 for a comment, 6 for a punctuator
abbrev class_behind_slash : List ℕ → ℕ
class_behind_slash [] = 6
class_behind_slash (b ∷ bs) = cond (b == slash || b == star) 1 6

-- which kind of piece the bytes may be: 0 white space, 1 a comment, 2 a skipped line, 3 a word,
-- 4 a number, 5 a text, 6 a punctuator
abbrev pub class_of : List ℕ → ℕ
class_of [] = 7
class_of (b ∷ bs) =
    cond (is_space b) 0
    (cond (is_letter b) 3
    (cond (is_digit b
    || b == apostrophe) 4
    (cond (b == double_quote) 5 (cond (b == hash) 2 (cond (b == slash) (class_behind_slash bs) 6)))))

-- a keyword is a word
pub class_keyword : (w : Keyword) → class_of (keyword_text w) ≡ 3
class_keyword words.Auto = refl
class_keyword _ = refl

-- a punctuator's text is one
class_mark_text : (m : Punct) → class_of (mark_text m) ≡ 6
class_mark_text marks.LeftBracket = refl
class_mark_text _ = refl

-- and its digraph
class_digraph : (m : Punct) (bytes : List ℕ) → IsDigraph m bytes → class_of bytes ≡ 6
class_digraph marks.LeftBracket bytes e = ap class_of e
class_digraph marks.RightBracket bytes e = ap class_of e
class_digraph marks.LeftBrace bytes e = ap class_of e
class_digraph marks.RightBrace bytes e = ap class_of e
class_digraph _ bytes e = absurd e

-- and any spelling
pub class_mark : (m : Punct) (bytes : List ℕ) → IsMark m bytes → class_of bytes ≡ 6
class_mark m bytes (inl e) = ap class_of e ∙ class_mark_text m
class_mark m bytes (inr e) = class_digraph m bytes e
