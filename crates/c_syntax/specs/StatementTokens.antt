-- The grammar of statements (C99 6.8): the tokens of a tree, its height, and which trees the rules make.
use Rattle.std.specs.Prelude.{◌≡◌, ℕ, suc, ◌≤◌, max, Bool, true, false, List, [], ◌∷◌, ◌++◌, Option, Some, None}
use Rattle.std.specs.List.{AllByRecursion}
use Rattle.pcc_base.specs.declared.span.Span.{Span}
use Rattle.pcc_base.specs.declared.keyword.Keyword.TheVariants as words
use Rattle.c_lex.specs.declared.token.Token.{Token}
use Rattle.c_lex.specs.declared.token.Punct.TheVariants as marks
use Rattle.c_syntax.specs.Marks.{mark, word}
use Rattle.c_syntax.specs.Expressions.{Expr}
use Rattle.c_syntax.specs.ExpressionTokens.{expr_tokens, expr_height, looseness, IsExpr}
use Rattle.c_syntax.specs.DeclarationTokens.{maybe_expr_tokens, maybe_expr_height, declaration_tokens}
use Rattle.c_syntax.specs.DeclarationTokens.{declaration_height, IsDeclaration, greatest}
use Rattle.c_syntax.specs.Statements.{LabelTree, Case, Default, Stmt, Declared, Labelled, Block, Simple, If, IfElse}
use Rattle.c_syntax.specs.Statements.{Switch, While, Do, For, ForDeclaration, Break, Continue, Return, Stmts, NoStmt}
use Rattle.c_syntax.specs.Statements.{OneStmt}

-- ---- tokens

abbrev pub label_tokens : LabelTree → List Token
label_tokens (Case at e colon) = word words.Case at ∷ (expr_tokens e ++ mark marks.Colon colon ∷ [])
label_tokens (Default at colon) = word words.Default at ∷ mark marks.Colon colon ∷ []

abbrev pub labels_tokens : List LabelTree → List Token
labels_tokens [] = []
labels_tokens (l ∷ ls) = label_tokens l ++ labels_tokens ls

-- '(' expression ')', and what is behind it
abbrev pub in_parens : Span → Expr → Span → List Token → List Token
in_parens o e c behind = mark marks.LeftParen o ∷ (expr_tokens e ++ mark marks.RightParen c ∷ behind)

abbrev mutual
  pub stmt_tokens : Stmt → List Token
  stmt_tokens (Declared d) = declaration_tokens d
  stmt_tokens (Labelled before s) = labels_tokens before ++ stmt_tokens s
  stmt_tokens (Block o items c) = mark marks.LeftBrace o ∷ (stmts_tokens items ++ mark marks.RightBrace c ∷ [])
  stmt_tokens (Simple e semicolon) = maybe_expr_tokens e ++ mark marks.Semicolon semicolon ∷ []
  stmt_tokens (If at o e c s) = word words.If at ∷ in_parens o e c (stmt_tokens s)
  stmt_tokens (IfElse at o e c s otherwise t) =
      word words.If at ∷ in_parens o e c (stmt_tokens s ++ word words.Else otherwise ∷ stmt_tokens t)
  stmt_tokens (Switch at o e c begin items end) =
      word words.Switch at ∷ in_parens o e c (mark marks.LeftBrace begin
      ∷ (stmts_tokens items ++ mark marks.RightBrace end ∷ []))
  stmt_tokens (While at o e c s) = word words.While at ∷ in_parens o e c (stmt_tokens s)
  stmt_tokens (Do at s until o e c semicolon) =
      word words.Do at ∷ (stmt_tokens s ++ word words.While until
      ∷ in_parens o e c (mark marks.Semicolon semicolon ∷ []))
  stmt_tokens (For at o start first condition second step c s) =
      word words.For at ∷ mark marks.LeftParen o
      ∷ (maybe_expr_tokens start ++ mark marks.Semicolon first
      ∷ (maybe_expr_tokens condition ++ mark marks.Semicolon second
      ∷ (maybe_expr_tokens step ++ mark marks.RightParen c ∷ stmt_tokens s)))
  stmt_tokens (ForDeclaration at o start condition second step c s) =
      word words.For at ∷ mark marks.LeftParen o
      ∷ (declaration_tokens start ++ (maybe_expr_tokens condition ++ mark marks.Semicolon second
      ∷ (maybe_expr_tokens step ++ mark marks.RightParen c ∷ stmt_tokens s)))
  stmt_tokens (Break at semicolon) = word words.Break at ∷ mark marks.Semicolon semicolon ∷ []
  stmt_tokens (Continue at semicolon) = word words.Continue at ∷ mark marks.Semicolon semicolon ∷ []
  stmt_tokens (Return at e semicolon) = word words.Return at
      ∷ (maybe_expr_tokens e ++ mark marks.Semicolon semicolon ∷ [])

  pub stmts_tokens : Stmts → List Token
  stmts_tokens NoStmt = []
  stmts_tokens (OneStmt s ss) = stmt_tokens s ++ stmts_tokens ss

-- ---- heights; labels before a statement are no node

abbrev pub label_height : LabelTree → ℕ
label_height (Case at e colon) = expr_height e
label_height (Default at colon) = 0

abbrev mutual
  pub stmt_height : Stmt → ℕ
  stmt_height (Declared d) = declaration_height d
  stmt_height (Labelled before s) = max (greatest label_height before) (stmt_height s)
  stmt_height (Block o items c) = suc (stmts_height items)
  stmt_height (Simple e semicolon) = suc (maybe_expr_height e)
  stmt_height (If at o e c s) = suc (max (expr_height e) (stmt_height s))
  stmt_height (IfElse at o e c s otherwise t) = suc (max (expr_height e) (max (stmt_height s) (stmt_height t)))
  stmt_height (Switch at o e c begin items end) = suc (max (expr_height e) (stmts_height items))
  stmt_height (While at o e c s) = suc (max (expr_height e) (stmt_height s))
  stmt_height (Do at s until o e c semicolon) = suc (max (stmt_height s) (expr_height e))
  stmt_height (For at o start first condition second step c s) =
      suc (max (maybe_expr_height start) (max (maybe_expr_height condition)
      (max (maybe_expr_height step) (stmt_height s))))
  stmt_height (ForDeclaration at o start condition second step c s) =
      suc (max (declaration_height start) (max (maybe_expr_height condition)
      (max (maybe_expr_height step) (stmt_height s))))
  stmt_height (Break at semicolon) = 1
  stmt_height (Continue at semicolon) = 1
  stmt_height (Return at e semicolon) = suc (maybe_expr_height e)

  pub stmts_height : Stmts → ℕ
  stmts_height NoStmt = 0
  stmts_height (OneStmt s ss) = max (stmt_height s) (stmts_height ss)

-- ---- rules

-- whether a statement ends in an `if` that has no `else` (C99 6.8.4.1)
abbrev pub ends_open : Stmt → Bool
ends_open (If at o e c s) = true
ends_open (IfElse at o e c s otherwise t) = ends_open t
ends_open (While at o e c s) = ends_open s
ends_open (For at o start first condition second step c s) = ends_open s
ends_open (ForDeclaration at o start condition second step c s) = ends_open s
ends_open (Labelled before s) = ends_open s
ends_open s = false

-- an expression, where there is one
abbrev pub IsMaybeExpr : Option Expr → Type 0
IsMaybeExpr None = Unit {0}
IsMaybeExpr (Some e) = IsExpr e

-- label : 'case' conditional ':' | 'default' ':'  (C99 6.8.1)
abbrev pub IsLabel : LabelTree → Type 0
IsLabel (Case at e colon) = IsExpr e × (looseness e ≤ 14)
IsLabel (Default at colon) = Unit {0}

-- the node of a statement, and neither a declaration nor labels
abbrev pub IsPlain : Stmt → Type 0
IsPlain (Declared d) = ⊥
IsPlain (Labelled before s) = ⊥
IsPlain s = Unit {0}

-- a declaration or a statement
abbrev pub IsBlockItem : Stmt → Type 0
IsBlockItem (Labelled before s) = ⊥
IsBlockItem s = Unit {0}

-- a statement with its labels
abbrev pub IsCase : Stmt → Type 0
IsCase (Labelled before s) = Unit {0}
IsCase s = ⊥

abbrev mutual
  -- a tree of the rule statement, or of declaration, or a statement with its labels
  pub IsStmt : Stmt → Type 0
  IsStmt (Declared d) = IsDeclaration d
  -- label* statement
  IsStmt (Labelled before s) = AllByRecursion IsLabel before × IsStmt s × IsPlain s
  -- block : '{' (declaration | statement)* '}'  (C99 6.8.2)
  IsStmt (Block o items c) = AreItems items
  -- expression? ';'  (C99 6.8.3)
  IsStmt (Simple e semicolon) = IsMaybeExpr e
  -- 'if' '(' expression ')' statement ('else' statement)?, the `else` at the nearest `if` that has none  (C99 6.8.4.1)
  IsStmt (If at o e c s) = IsExpr e × IsStmt s × IsPlain s
  IsStmt (IfElse at o e c s otherwise t) = IsExpr e × IsStmt s × IsPlain s × (ends_open s ≡ false) × IsStmt t
      × IsPlain t
  -- 'switch' '(' expression ')' '{' (label* statement)* '}'  (C99 6.8.4.2)
  IsStmt (Switch at o e c begin items end) = IsExpr e × AreCases items
  -- 'while' '(' expression ')' statement  (C99 6.8.5.1)
  IsStmt (While at o e c s) = IsExpr e × IsStmt s × IsPlain s
  -- 'do' statement 'while' '(' expression ')' ';'  (C99 6.8.5.2)
  IsStmt (Do at s until o e c semicolon) = IsStmt s × IsPlain s × IsExpr e
  -- 'for' '(' expression? ';' expression? ';' expression? ')' statement  (C99 6.8.5.3)
  IsStmt (For at o start first condition second step c s) = IsMaybeExpr start × IsMaybeExpr condition × IsMaybeExpr step
      × IsStmt s × IsPlain s
  -- 'for' '(' declaration expression? ';' expression? ')' statement
  IsStmt (ForDeclaration at o start condition second step c s) = IsDeclaration start × IsMaybeExpr condition
      × IsMaybeExpr step × IsStmt s × IsPlain s
  -- 'break' ';' | 'continue' ';' | 'return' expression? ';'  (C99 6.8.6)
  IsStmt (Break at semicolon) = Unit {0}
  IsStmt (Continue at semicolon) = Unit {0}
  IsStmt (Return at e semicolon) = IsMaybeExpr e

  -- (declaration | statement)*
  pub AreItems : Stmts → Type 0
  AreItems NoStmt = Unit {0}
  AreItems (OneStmt s ss) = IsStmt s × IsBlockItem s × AreItems ss

  -- (label* statement)*
  pub AreCases : Stmts → Type 0
  AreCases NoStmt = Unit {0}
  AreCases (OneStmt s ss) = IsStmt s × IsCase s × AreCases ss
