-- Expressions as definitions see them: without the boxes and vectors that hold their parts.
use Rattle.std.specs.Prelude.{ℤ, List, [], ◌∷◌, Option, Some, None}
use Rattle.pcc_base.specs.declared.span.Span.{Span}
use Rattle.c_syntax.specs.declared.operator.BinaryOp.{BinaryOp}
use Rattle.c_syntax.specs.declared.operator.UnaryOp.{UnaryOp}
use Rattle.c_syntax.specs.declared.operator.StepOp.{StepOp}
use Rattle.c_syntax.specs.declared.operator.AssignOp.{AssignOp}
use Rattle.c_syntax.specs.declared.expression.Identifier.{Identifier as Ident}
use Rattle.c_syntax.specs.declared.expression.Specifier.{Specifier}
use Rattle.c_syntax.specs.declared.expression.TextPiece.{TextPiece}
use Rattle.c_syntax.specs.declared.expression.Pointer.{Pointer}
use Rattle.c_syntax.specs.declared.expression.Expression.{Expression}
use Rattle.c_syntax.specs.declared.expression.Expression.TheOpen.{Expression-F}
use Rattle.c_syntax.specs.declared.expression.Expression.TheOpen as layers
use Rattle.c_syntax.specs.declared.expression.Expression.TheFolds.{fold-Expression}

-- `*`, and the words `const` behind it
pub record Star : Type 0 where
  pub star : Span
  pub consts : List Span

mutual
  -- an expression (C99 6.5): a node for each rule that makes one, with its parts in order
  pub data Expr : Type 0 where
    -- C99 6.5.1
    Identifier : (name : Ident) → Expr
    Number : (value : ℤ) (at : Span) → Expr
    Text : (pieces : List TextPiece) → Expr
    Parenthesised : (opening : Span) (inner : Expr) (close : Span) → Expr
    -- C99 6.5.2
    Call : (function : Ident) (opening : Span) (arguments : Exprs) (commas : List Span) (close : Span) → Expr
    Index : (base : Expr) (opening : Span) (index : Expr) (close : Span) → Expr
    Postfix : (base : Expr) (op : StepOp) (at : Span) → Expr
    -- C99 6.5.3
    Prefix : (op : StepOp) (at : Span) (operand : Expr) → Expr
    Unary : (op : UnaryOp) (at : Span) (operand : Expr) → Expr
    -- C99 6.5.4
    Cast : (opening : Span) (specifiers : List Specifier) (pointer : Option Star) (close : Span) (operand : Expr) → Expr
    -- C99 6.5.5 to 6.5.14, 6.5.17
    Binary : (op : BinaryOp) (left : Expr) (at : Span) (right : Expr) → Expr
    -- C99 6.5.15
    Conditional : (condition : Expr) (question : Span) (first : Expr) (colon : Span) (second : Expr) → Expr
    -- C99 6.5.16
    Assignment : (op : AssignOp) (left : Expr) (at : Span) (right : Expr) → Expr

  -- several expressions
  pub data Exprs : Type 0 where
    NoExpr : Exprs
    OneExpr : (first : Expr) (others : Exprs) → Exprs

abbrev pub exprs_of : List Expr → Exprs
exprs_of [] = NoExpr
exprs_of (e ∷ es) = OneExpr e (exprs_of es)

abbrev pub star_of : Option Pointer → Option Star
star_of None = None
star_of (Some p) = Some (record { star = p.star; consts = p.consts.items })

-- one layer of a raw expression, with what each part stands for in its place
abbrev pub expr_step : Expression-F Expr → Expr
expr_step (layers.Identifier name) = Identifier name
expr_step (layers.Number value at) = Number value at
expr_step (layers.Text pieces) = Text pieces.items
expr_step (layers.Parenthesised o e c) = Parenthesised o e.value c
expr_step (layers.Call parts arguments) =
    Call parts.value.function parts.value.opening (exprs_of arguments.items) parts.value.commas.items parts.value.close
expr_step (layers.Index b o e c) = Index b.value o e.value c
expr_step (layers.Postfix b op at) = Postfix b.value op at
expr_step (layers.Prefix op at e) = Prefix op at e.value
expr_step (layers.Unary op at e) = Unary op at e.value
expr_step (layers.Cast of e) =
    Cast of.value.opening of.value.specifiers.items (star_of of.value.pointer) of.value.close e.value
expr_step (layers.Binary op l at r) = Binary op l.value at r.value
expr_step (layers.Conditional c f s q k) = Conditional c.value q f.value k s.value
expr_step (layers.Assignment op l at r) = Assignment op l.value at r.value

-- the tree that a raw expression stands for
abbrev pub expr_of : Expression → Expr
expr_of = fold-Expression Expr expr_step
