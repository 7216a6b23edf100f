-- The grammar of expressions: the tokens of a tree, its height, and which trees the rules make.
use Rattle.std.specs.Prelude.{◌≡◌, ℕ, suc, ◌+◌, ◌≤◌, ◌<◌, max, List, [], ◌∷◌, ◌++◌, Option, Some, None}
use Rattle.pcc_base.specs.declared.span.Span.{Span}
use Rattle.pcc_base.specs.declared.keyword.Keyword.TheVariants as words
use Rattle.c_lex.specs.declared.token.Token.{Token}
use Rattle.c_lex.specs.declared.token.Punct.TheVariants as marks
use Rattle.c_syntax.specs.declared.operator.BinaryOp.{BinaryOp}
use Rattle.c_syntax.specs.declared.operator.BinaryOp.TheVariants as binary
use Rattle.c_syntax.specs.declared.expression.Specifier.{Specifier}
use Rattle.c_syntax.specs.declared.expression.TextPiece.{TextPiece}
use Rattle.c_syntax.specs.Marks.{ident, number, text, mark, word, binary_mark, unary_mark, step_mark, assign_mark}
use Rattle.c_syntax.specs.Marks.{specifier_word}
use Rattle.c_syntax.specs.Expressions.{Star, Expr, Exprs, Identifier, Number, Text, Parenthesised, Call, Index}
use Rattle.c_syntax.specs.Expressions.{Postfix, Prefix, Unary, Cast, Binary, Conditional, Assignment, NoExpr, OneExpr}

-- ---- tokens

abbrev pub text_tokens : List TextPiece → List Token
text_tokens [] = []
text_tokens (p ∷ ps) = text p.bytes p.at ∷ text_tokens ps

-- specifiers : one or more words
abbrev pub specifiers_tokens : List Specifier → List Token
specifiers_tokens [] = []
specifiers_tokens (s ∷ ss) = word (specifier_word s.word) s.at ∷ specifiers_tokens ss

abbrev pub consts_tokens : List Span → List Token
consts_tokens [] = []
consts_tokens (at ∷ ats) = word words.Const at ∷ consts_tokens ats

-- pointer : '*' 'const'*
abbrev pub pointer_tokens : Option Star → List Token
pointer_tokens None = []
pointer_tokens (Some p) = mark marks.Star p.star ∷ consts_tokens p.consts

abbrev mutual
  pub expr_tokens : Expr → List Token
  expr_tokens (Identifier name) = ident name.name name.at ∷ []
  expr_tokens (Number value at) = number value at ∷ []
  expr_tokens (Text pieces) = text_tokens pieces
  expr_tokens (Parenthesised o e c) = mark marks.LeftParen o ∷ (expr_tokens e ++ mark marks.RightParen c ∷ [])
  expr_tokens (Call f o arguments commas c) =
      ident f.name f.at ∷ mark marks.LeftParen o ∷ (exprs_tokens arguments commas ++ mark marks.RightParen c ∷ [])
  expr_tokens (Index b o e c) = expr_tokens b ++ mark marks.LeftBracket o
      ∷ (expr_tokens e ++ mark marks.RightBracket c ∷ [])
  expr_tokens (Postfix b op at) = expr_tokens b ++ mark (step_mark op) at ∷ []
  expr_tokens (Prefix op at e) = mark (step_mark op) at ∷ expr_tokens e
  expr_tokens (Unary op at e) = mark (unary_mark op) at ∷ expr_tokens e
  expr_tokens (Cast o specifiers pointer c e) =
      mark marks.LeftParen o ∷ (specifiers_tokens specifiers
      ++ (pointer_tokens pointer ++ mark marks.RightParen c ∷ expr_tokens e))
  expr_tokens (Binary op l at r) = expr_tokens l ++ mark (binary_mark op) at ∷ expr_tokens r
  expr_tokens (Conditional c q f k s) = expr_tokens c ++ mark marks.Question q
      ∷ (expr_tokens f ++ mark marks.Colon k ∷ expr_tokens s)
  expr_tokens (Assignment op l at r) = expr_tokens l ++ mark (assign_mark op) at ∷ expr_tokens r

  -- assignment (',' assignment)*
  pub exprs_tokens : Exprs → List Span → List Token
  exprs_tokens NoExpr commas = []
  exprs_tokens (OneExpr e es) commas = expr_tokens e ++ more_tokens es commas

  -- (',' assignment)*
  pub more_tokens : Exprs → List Span → List Token
  more_tokens NoExpr commas = []
  more_tokens (OneExpr e es) [] = []
  more_tokens (OneExpr e es) (at ∷ commas) = mark marks.Comma at ∷ (expr_tokens e ++ more_tokens es commas)

-- ---- heights: that of a node is 1 plus the greatest of a node below it, and 1 where there is none

abbrev mutual
  pub expr_height : Expr → ℕ
  expr_height (Identifier name) = 1
  expr_height (Number value at) = 1
  expr_height (Text pieces) = 1
  expr_height (Parenthesised o e c) = suc (expr_height e)
  expr_height (Call f o arguments commas c) = suc (exprs_height arguments)
  expr_height (Index b o e c) = suc (max (expr_height b) (expr_height e))
  expr_height (Postfix b op at) = suc (expr_height b)
  expr_height (Prefix op at e) = suc (expr_height e)
  expr_height (Unary op at e) = suc (expr_height e)
  expr_height (Cast o specifiers pointer c e) = suc (expr_height e)
  expr_height (Binary op l at r) = suc (max (expr_height l) (expr_height r))
  expr_height (Conditional c q f k s) = suc (max (expr_height c) (max (expr_height f) (expr_height s)))
  expr_height (Assignment op l at r) = suc (max (expr_height l) (expr_height r))

  -- the greatest of several, and 0 where there is none
  pub exprs_height : Exprs → ℕ
  exprs_height NoExpr = 0
  exprs_height (OneExpr e es) = max (expr_height e) (exprs_height es)

-- ---- rules

-- The levels of binary operators from the tightest, the comma operator behind conditionals and
-- assignments (C99 6.5.5 to 6.5.14, 6.5.17).
abbrev pub binary_level : BinaryOp → ℕ
binary_level binary.Multiply = 1
binary_level binary.Divide = 1
binary_level binary.Remainder = 1
binary_level binary.Add = 2
binary_level binary.Subtract = 2
binary_level binary.ShiftLeft = 3
binary_level binary.ShiftRight = 3
binary_level binary.Less = 4
binary_level binary.Greater = 4
binary_level binary.LessEqual = 4
binary_level binary.GreaterEqual = 4
binary_level binary.Equal = 5
binary_level binary.NotEqual = 5
binary_level binary.BitAnd = 6
binary_level binary.BitXor = 7
binary_level binary.BitOr = 8
binary_level binary.LogicalAnd = 9
binary_level binary.LogicalOr = 10
binary_level binary.Comma = 13

-- How loose the rule is that makes a tree: primary 0, postfix 1, unary 2, cast 3, binary 4 to 13,
-- conditional 14, assignment 15, expression 16. Each rule also stands for those before it.
abbrev pub looseness : Expr → ℕ
looseness (Identifier name) = 0
looseness (Number value at) = 0
looseness (Text pieces) = 0
looseness (Parenthesised o e c) = 0
looseness (Call f o arguments commas c) = 0
looseness (Index b o e c) = 1
looseness (Postfix b op at) = 1
looseness (Prefix op at e) = 2
looseness (Unary op at e) = 2
looseness (Cast o specifiers pointer c e) = 3
looseness (Binary op l at r) = binary_level op + 3
looseness (Conditional c q f k s) = 14
looseness (Assignment op l at r) = 15

-- as many commas as values
abbrev pub Follow : Exprs → List Span → Type 0
Follow NoExpr commas = commas ≡ []
Follow (OneExpr e es) [] = ⊥
Follow (OneExpr e es) (at ∷ commas) = Follow es commas

-- one fewer commas than values, and none where there is no value
abbrev pub Separate : Exprs → List Span → Type 0
Separate NoExpr commas = commas ≡ []
Separate (OneExpr e es) commas = Follow es commas

abbrev pub IsSpecifiers : List Specifier → Type 0
IsSpecifiers [] = ⊥
IsSpecifiers (s ∷ ss) = Unit {0}

abbrev pub IsText : List TextPiece → Type 0
IsText [] = ⊥
IsText (p ∷ ps) = Unit {0}

abbrev mutual
  -- a tree of the rule expression
  pub IsExpr : Expr → Type 0
  -- primary : ident | number | text+ | '(' expression ')' | ident '(' (assignment (',' assignment)*)? ')'  (C99 6.5.1,
  -- 6.5.2)
  IsExpr (Identifier name) = Unit {0}
  IsExpr (Number value at) = Unit {0}
  IsExpr (Text pieces) = IsText pieces
  IsExpr (Parenthesised o e c) = IsExpr e
  IsExpr (Call f o arguments commas c) = AreValues arguments × Separate arguments commas
  -- postfix : primary ('[' expression ']' | '++' | '--')*  (C99 6.5.2)
  IsExpr (Index b o e c) = IsExpr b × (looseness b ≤ 1) × IsExpr e
  IsExpr (Postfix b op at) = IsExpr b × (looseness b ≤ 1)
  -- unary : postfix | ('++' | '--') unary | ('&' '*' '+' '-' '~' '!') cast  (C99 6.5.3)
  IsExpr (Prefix op at e) = IsExpr e × (looseness e ≤ 2)
  IsExpr (Unary op at e) = IsExpr e × (looseness e ≤ 3)
  -- cast : unary | '(' specifiers pointer? ')' cast  (C99 6.5.4)
  IsExpr (Cast o specifiers pointer c e) = IsSpecifiers specifiers × IsExpr e × (looseness e ≤ 3)
  -- each level of binary, and expression : assignment (',' assignment)*, group from the left  (C99 6.5.5 to 6.5.14,
  -- 6.5.17)
  IsExpr (Binary op l at r) = IsExpr l × (looseness l ≤ binary_level op + 3) × IsExpr r
      × (looseness r < binary_level op + 3)
  -- conditional : binary ('?' expression ':' conditional)?  (C99 6.5.15)
  IsExpr (Conditional c q f k s) = IsExpr c × (looseness c ≤ 13) × IsExpr f × IsExpr s × (looseness s ≤ 14)
  -- assignment : conditional | unary assign-op assignment  (C99 6.5.16)
  IsExpr (Assignment op l at r) = IsExpr l × (looseness l ≤ 2) × IsExpr r × (looseness r ≤ 15)

  -- trees of the rule assignment
  pub AreValues : Exprs → Type 0
  AreValues NoExpr = Unit {0}
  AreValues (OneExpr e es) = IsExpr e × (looseness e ≤ 15) × AreValues es
