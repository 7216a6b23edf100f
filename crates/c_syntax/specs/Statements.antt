-- Statements and units as definitions see them: without the boxes and vectors that hold their parts.
use Rattle.std.specs.Prelude.{List, [], ◌∷◌, map, Option}
use Rattle.pcc_base.specs.declared.span.Span.{Span}
use Rattle.c_syntax.specs.declared.expression.Specifier.{Specifier}
use Rattle.c_syntax.specs.declared.statement.Label.{Label}
use Rattle.c_syntax.specs.declared.statement.Label.TheVariants as labels
use Rattle.c_syntax.specs.declared.statement.Statement.{Statement}
use Rattle.c_syntax.specs.declared.statement.Statement.TheOpen.{Statement-F}
use Rattle.c_syntax.specs.declared.statement.Statement.TheOpen as layers
use Rattle.c_syntax.specs.declared.statement.Statement.TheFolds.{fold-Statement}
use Rattle.c_syntax.specs.declared.unit.External.{External}
use Rattle.c_syntax.specs.declared.unit.External.TheVariants as externals
use Rattle.c_syntax.specs.declared.unit.RawUnit.{RawUnit}
use Rattle.c_syntax.specs.Expressions.{Expr, expr_of}
use Rattle.c_syntax.specs.Declarations.{DeclarationTree, DeclaratorTree, maybe_expr_of, declaration_of, declarator_of}

-- label : 'case' conditional ':' | 'default' ':'
pub data LabelTree : Type 0 where
  Case : (at : Span) (value : Expr) (colon : Span) → LabelTree
  Default : (at colon : Span) → LabelTree

mutual
  -- a statement (C99 6.8), in a block also a declaration, in a switch a statement with its labels
  pub data Stmt : Type 0 where
    Declared : (declaration : DeclarationTree) → Stmt
    Labelled : (before : List LabelTree) (statement : Stmt) → Stmt
    -- C99 6.8.2
    Block : (opening : Span) (items : Stmts) (close : Span) → Stmt
    -- C99 6.8.3
    Simple : (value : Option Expr) (semicolon : Span) → Stmt
    -- C99 6.8.4
    If : (at opening : Span) (condition : Expr) (close : Span) (then : Stmt) → Stmt
    IfElse : (at opening : Span) (condition : Expr) (close : Span) (then : Stmt) (otherwise : Span) (other : Stmt)
        → Stmt
    Switch : (at opening : Span) (value : Expr) (close begin : Span) (items : Stmts) (end : Span) → Stmt
    -- C99 6.8.5
    While : (at opening : Span) (condition : Expr) (close : Span) (body : Stmt) → Stmt
    Do : (at : Span) (body : Stmt) (until opening : Span) (condition : Expr) (close semicolon : Span) → Stmt
    For : (at opening : Span) (start : Option Expr) (first : Span) (condition : Option Expr) (second : Span)
        (step : Option Expr) (close : Span) (body : Stmt) → Stmt
    ForDeclaration : (at opening : Span) (start : DeclarationTree) (condition : Option Expr) (second : Span)
        (step : Option Expr) (close : Span) (body : Stmt) → Stmt
    -- C99 6.8.6
    Break : (at semicolon : Span) → Stmt
    Continue : (at semicolon : Span) → Stmt
    Return : (at : Span) (value : Option Expr) (semicolon : Span) → Stmt

  -- several statements
  pub data Stmts : Type 0 where
    NoStmt : Stmts
    OneStmt : (first : Stmt) (others : Stmts) → Stmts

abbrev pub stmts_of : List Stmt → Stmts
stmts_of [] = NoStmt
stmts_of (s ∷ ss) = OneStmt s (stmts_of ss)

abbrev pub label_of : Label → LabelTree
label_of (labels.Case at e colon) = Case at (expr_of e.value) colon
label_of (labels.Default at colon) = Default at colon

-- one layer of a raw statement, with what each part stands for in its place
abbrev pub stmt_step : Statement-F Stmt → Stmt
stmt_step (layers.Declaration d) = Declared (declaration_of d)
stmt_step (layers.Labelled before s) = Labelled (map label_of before.items) s.value
stmt_step (layers.Block o items c) = Block o (stmts_of items.items) c
stmt_step (layers.Simple e semicolon) = Simple (maybe_expr_of e) semicolon
stmt_step (layers.If at o e c s) = If at o (expr_of e.value) c s.value
stmt_step (layers.IfElse parts s t) =
    IfElse parts.value.at parts.value.opening (expr_of parts.value.condition.value) parts.value.close s.value
    parts.value.otherwise t.value
stmt_step (layers.While at o e c s) = While at o (expr_of e.value) c s.value
stmt_step (layers.Do parts s) =
    Do parts.value.at s.value parts.value.until parts.value.opening (expr_of parts.value.condition.value)
    parts.value.close parts.value.semicolon
stmt_step (layers.For parts s) =
    For parts.value.at parts.value.opening (maybe_expr_of parts.value.start) parts.value.first
    (maybe_expr_of parts.value.condition) parts.value.second (maybe_expr_of parts.value.step) parts.value.close s.value
stmt_step (layers.ForDeclaration parts s) =
    ForDeclaration parts.value.at parts.value.opening (declaration_of parts.value.start)
    (maybe_expr_of parts.value.condition) parts.value.second (maybe_expr_of parts.value.step) parts.value.close s.value
stmt_step (layers.Switch parts items) =
    Switch parts.value.at parts.value.opening (expr_of parts.value.value.value) parts.value.close parts.value.begin
    (stmts_of items.items) parts.value.end
stmt_step (layers.Break at semicolon) = Break at semicolon
stmt_step (layers.Continue at semicolon) = Continue at semicolon
stmt_step (layers.Return at e semicolon) = Return at (maybe_expr_of e) semicolon

-- the tree that a raw statement stands for
abbrev pub stmt_of : Statement → Stmt
stmt_of = fold-Statement Stmt stmt_step

-- external : specifiers pointer? ident '(' parameters? ')' block | declaration  (C99 6.9)
pub data ExternalTree : Type 0 where
  FunctionTree : (specifiers : List Specifier) (declarator : DeclaratorTree) (body : Stmt) → ExternalTree
  DeclaredTree : (declaration : DeclarationTree) → ExternalTree

abbrev pub external_of : External → ExternalTree
external_of (externals.Function specifiers declarator body) =
    FunctionTree specifiers.items (declarator_of declarator) (stmt_of body)
external_of (externals.Declaration d) = DeclaredTree (declaration_of d)

-- unit : external*
abbrev pub unit_of : RawUnit → List ExternalTree
unit_of u = map external_of u.externals.items
