-- One token, or a row of tokens of a kind, from the front of a list.
use Rattle.std.specs.Prelude.{ℕ, Bool, false, List, [], ◌∷◌, ◌++◌, Option, Some, None, nat_eq, if◌then◌else◌}
use denote.Enum.Bare.{sameb}
use Rattle.pcc_base.specs.declared.span.Span.{Span}
use Rattle.pcc_base.specs.declared.keyword.Keyword.{Keyword}
use Rattle.pcc_base.specs.declared.keyword.Keyword.TheVariants as words
use Rattle.pcc_base.specs.contracts.keyword.Keyword.{the_type as the_words}
use Rattle.c_lex.specs.declared.token.Token.{Token}
use Rattle.c_lex.specs.declared.token.TokenKind.{TokenKind}
use Rattle.c_lex.specs.declared.token.TokenKind.TheVariants as kinds
use Rattle.c_lex.specs.declared.token.Punct.{Punct}
use Rattle.c_lex.specs.declared.token.Punct.TheVariants as marks
use Rattle.c_lex.specs.contracts.token.Punct.{the_type as the_marks}
use Rattle.c_syntax.specs.declared.operator.BinaryOp.{BinaryOp}
use Rattle.c_syntax.specs.declared.operator.BinaryOp.TheVariants as binary
use Rattle.c_syntax.specs.declared.operator.UnaryOp.{UnaryOp}
use Rattle.c_syntax.specs.declared.operator.UnaryOp.TheVariants as unary
use Rattle.c_syntax.specs.declared.operator.StepOp.{StepOp}
use Rattle.c_syntax.specs.declared.operator.StepOp.TheVariants as step
use Rattle.c_syntax.specs.declared.operator.AssignOp.{AssignOp}
use Rattle.c_syntax.specs.declared.operator.AssignOp.TheVariants as assign
use Rattle.c_syntax.specs.declared.operator.SpecifierWord.{SpecifierWord}
use Rattle.c_syntax.specs.declared.operator.SpecifierWord.TheVariants as specifier
use Rattle.c_syntax.specs.declared.expression.Specifier.{Specifier}
use Rattle.c_syntax.specs.declared.expression.TextPiece.{TextPiece}
use Rattle.c_syntax.specs.Expressions.{Star}
use Rattle.c_syntax.specs.ExpressionTokens.{binary_level}
use Rattle.c_grammar.specs.Chains.{Takes, Reads, needed}

-- ---- kinds of token

abbrev pub is_mark : Punct → TokenKind → Bool
is_mark m (kinds.Mark n) = sameb the_marks m n
is_mark m _ = false

abbrev pub is_word : Keyword → TokenKind → Bool
is_word w (kinds.Word v) = sameb the_words w v
is_word w _ = false

abbrev pub binary_of_mark : Punct → Option BinaryOp
binary_of_mark marks.Star = Some binary.Multiply
binary_of_mark marks.Slash = Some binary.Divide
binary_of_mark marks.Percent = Some binary.Remainder
binary_of_mark marks.Plus = Some binary.Add
binary_of_mark marks.Minus = Some binary.Subtract
binary_of_mark marks.ShiftLeft = Some binary.ShiftLeft
binary_of_mark marks.ShiftRight = Some binary.ShiftRight
binary_of_mark marks.Less = Some binary.Less
binary_of_mark marks.Greater = Some binary.Greater
binary_of_mark marks.LessEqual = Some binary.LessEqual
binary_of_mark marks.GreaterEqual = Some binary.GreaterEqual
binary_of_mark marks.EqualEqual = Some binary.Equal
binary_of_mark marks.BangEqual = Some binary.NotEqual
binary_of_mark marks.And = Some binary.BitAnd
binary_of_mark marks.Caret = Some binary.BitXor
binary_of_mark marks.Or = Some binary.BitOr
binary_of_mark marks.AndAnd = Some binary.LogicalAnd
binary_of_mark marks.OrOr = Some binary.LogicalOr
binary_of_mark marks.Comma = Some binary.Comma
binary_of_mark _ = None

abbrev pub unary_of_mark : Punct → Option UnaryOp
unary_of_mark marks.And = Some unary.AddressOf
unary_of_mark marks.Star = Some unary.Dereference
unary_of_mark marks.Plus = Some unary.Plus
unary_of_mark marks.Minus = Some unary.Minus
unary_of_mark marks.Tilde = Some unary.Complement
unary_of_mark marks.Bang = Some unary.Not
unary_of_mark _ = None

abbrev pub step_of_mark : Punct → Option StepOp
step_of_mark marks.PlusPlus = Some step.Increment
step_of_mark marks.MinusMinus = Some step.Decrement
step_of_mark _ = None

abbrev pub assign_of_mark : Punct → Option AssignOp
assign_of_mark marks.Equal = Some assign.Assign
assign_of_mark marks.StarEqual = Some assign.Multiply
assign_of_mark marks.SlashEqual = Some assign.Divide
assign_of_mark marks.PercentEqual = Some assign.Remainder
assign_of_mark marks.PlusEqual = Some assign.Add
assign_of_mark marks.MinusEqual = Some assign.Subtract
assign_of_mark marks.ShiftLeftEqual = Some assign.ShiftLeft
assign_of_mark marks.ShiftRightEqual = Some assign.ShiftRight
assign_of_mark marks.AndEqual = Some assign.BitAnd
assign_of_mark marks.CaretEqual = Some assign.BitXor
assign_of_mark marks.OrEqual = Some assign.BitOr
assign_of_mark _ = None

abbrev pub specifier_of_word : Keyword → Option SpecifierWord
specifier_of_word words.Auto = Some specifier.Auto
specifier_of_word words.Register = Some specifier.Register
specifier_of_word words.Static = Some specifier.Static
specifier_of_word words.Extern = Some specifier.Extern
specifier_of_word words.Const = Some specifier.Const
specifier_of_word words.Void = Some specifier.Void
specifier_of_word words.Char = Some specifier.Char
specifier_of_word words.Short = Some specifier.Short
specifier_of_word words.Int = Some specifier.Int
specifier_of_word words.Signed = Some specifier.Signed
specifier_of_word _ = None

-- what a mark stands for by a table
abbrev pub of_mark : {A : Type 0} → (Punct → Option A) → TokenKind → Option A
of_mark table (kinds.Mark m) = table m
of_mark table _ = None

abbrev pub specifier_of : TokenKind → Option SpecifierWord
specifier_of (kinds.Word w) = specifier_of_word w
specifier_of _ = None

-- the operator, where it is one of this level
abbrev pub at_level : ℕ → Option BinaryOp → Option BinaryOp
at_level k None = None
at_level k (Some op) = if nat_eq (binary_level op) k then Some op else None

-- ---- one token

abbrev pub taken : {A : Type 0} → Option A → Span → List Token → Takes (A × Span)
taken None at ts = None
taken (Some a) at ts = Some ((a, at), ts)

-- the token at the front, where it stands for something
abbrev pub take_by : {A : Type 0} → (TokenKind → Option A) → List Token → Takes (A × Span)
take_by table [] = None
take_by table (t ∷ ts) = taken (table t.kind) t.at ts

abbrev pub take_unary : List Token → Takes (UnaryOp × Span)
take_unary ts = take_by (of_mark unary_of_mark) ts

abbrev pub take_step : List Token → Takes (StepOp × Span)
take_step ts = take_by (of_mark step_of_mark) ts

abbrev pub take_assign : List Token → Takes (AssignOp × Span)
take_assign ts = take_by (of_mark assign_of_mark) ts

abbrev pub take_binary : ℕ → List Token → Takes (BinaryOp × Span)
take_binary k ts = take_by (λ kind. at_level k (of_mark binary_of_mark kind)) ts

abbrev pub take_mark : Punct → List Token → Takes Span
take_mark m [] = None
take_mark m (t ∷ ts) = if is_mark m t.kind then Some (t.at, ts) else None

abbrev pub take_word : Keyword → List Token → Takes Span
take_word w [] = None
take_word w (t ∷ ts) = if is_word w t.kind then Some (t.at, ts) else None

-- ---- one token that has to come

-- this mark, which has to come
abbrev pub read_mark : Punct → List Token → Reads Span
read_mark m ts = needed ts (take_mark m ts)

-- this word, which has to come
abbrev pub read_word : Keyword → List Token → Reads Span
read_word w ts = needed ts (take_word w ts)

-- ---- rows of tokens

abbrev pub with_front : {A : Type 0} → A → List A × List Token → List A × List Token
with_front a r = (a ∷ r.0, r.1)

abbrev pub texts_from : TokenKind → Token → List Token → List TextPiece × List Token → List TextPiece × List Token
texts_from (kinds.Text bytes) t ts r = with_front (record { bytes = bytes; at = t.at }) r
texts_from _ t ts r = ([], t ∷ ts)

-- the string literals at the front, and what is behind them
abbrev pub take_texts : List Token → List TextPiece × List Token
take_texts [] = ([], [])
take_texts (t ∷ ts) = texts_from t.kind t ts (take_texts ts)

abbrev pub specifiers_from : Option SpecifierWord → Token → List Token → List Specifier × List Token → List Specifier
    × List Token
specifiers_from (Some w) t ts r = with_front (record { word = w; at = t.at }) r
specifiers_from None t ts r = ([], t ∷ ts)

-- the specifiers at the front, and what is behind them
abbrev pub take_specifiers : List Token → List Specifier × List Token
take_specifiers [] = ([], [])
take_specifiers (t ∷ ts) = specifiers_from (specifier_of t.kind) t ts (take_specifiers ts)

-- the words `const` at the front, and what is behind them
abbrev pub take_consts : List Token → List Span × List Token
take_consts [] = ([], [])
take_consts (t ∷ ts) = if is_word words.Const t.kind then with_front t.at (take_consts ts) else ([], t ∷ ts)

abbrev pub pointer_from : Takes Span → List Token → Option Star × List Token
pointer_from None ts = (None, ts)
pointer_from (Some (star, us)) ts = (let r = take_consts us in (Some (record { star = star; consts = r.0 }), r.1))

-- pointer?
abbrev pub take_pointer : List Token → Option Star × List Token
take_pointer ts = pointer_from (take_mark marks.Star ts) ts

-- a row that begins with these
abbrev pub prefixed : {A : Type 0} → List A → List A × List Token → List A × List Token
prefixed xs r = (xs ++ r.0, r.1)
