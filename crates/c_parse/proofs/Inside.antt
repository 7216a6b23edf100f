-- A raw tree has no keyword that the language leaves out.
use Rattle.std.proofs.Common.{◌≡◌, List, [], ◌∷◌, ◌++◌, Option, Some, None, false, refl}
use Rattle.pcc_base.specs.declared.span.Span.{Span}
use Rattle.c_lex.specs.declared.token.Token.{Token}
use Rattle.c_syntax.specs.declared.operator.SpecifierWord.{SpecifierWord}
use Rattle.c_syntax.specs.declared.operator.SpecifierWord.TheVariants as specifier
use Rattle.c_syntax.specs.declared.expression.Specifier.{Specifier}
use Rattle.c_syntax.specs.declared.expression.TextPiece.{TextPiece}
use Rattle.c_syntax.specs.declared.expression.Identifier.{Identifier as Ident}
use Rattle.c_syntax.specs.Marks.{specifier_word}
use Rattle.c_syntax.specs.Expressions.{Star, Expr, Exprs, Identifier, Number, Text, Parenthesised, Call, Index}
use Rattle.c_syntax.specs.Expressions.{Postfix, Prefix, Unary, Cast, Binary, Conditional, Assignment, NoExpr, OneExpr}
use Rattle.c_syntax.specs.ExpressionTokens.{text_tokens, specifiers_tokens, consts_tokens, pointer_tokens, expr_tokens}
use Rattle.c_syntax.specs.ExpressionTokens.{exprs_tokens, more_tokens}
use Rattle.c_syntax.specs.Declarations.{ArrayTree, ParameterTree, PartTree, Plain, Array, Function, InitialiserTree}
use Rattle.c_syntax.specs.Declarations.{Single, Braces, ValueTree, ItemTree, DeclarationTree, DeclaratorTree}
use Rattle.c_syntax.specs.DeclarationTokens.{followed, separated, maybe_expr_tokens, array_tokens, maybe_array_tokens}
use Rattle.c_syntax.specs.DeclarationTokens.{maybe_name_tokens, parameter_tokens, part_tokens, declarator_tokens}
use Rattle.c_syntax.specs.DeclarationTokens.{maybe_comma_tokens, initialiser_tokens, value_tokens, item_tokens}
use Rattle.c_syntax.specs.DeclarationTokens.{declaration_tokens}
use Rattle.c_syntax.specs.Statements.{LabelTree, Case, Default, Stmt, Declared, Labelled, Block, Simple, If, IfElse}
use Rattle.c_syntax.specs.Statements.{Switch, While, Do, For, ForDeclaration, Break, Continue, Return, Stmts, NoStmt}
use Rattle.c_syntax.specs.Statements.{OneStmt, ExternalTree, FunctionTree, DeclaredTree}
use Rattle.c_syntax.specs.StatementTokens.{label_tokens, labels_tokens, in_parens, stmt_tokens, stmts_tokens}
use Rattle.c_syntax.specs.Grammar.{external_tokens, unit_tokens}
use Rattle.c_parse.specs.ParserRefusals.{is_outside, NoneUnsupported}

-- two lists without such a keyword have none together
both : (a b : List Token) → NoneUnsupported a → NoneUnsupported b → NoneUnsupported (a ++ b)
both [] b h g = g
both (t ∷ ts) b h g = (h.0, both ts b h.1 g)

-- ---- expressions

-- the pieces of a string have none
texts : (ps : List TextPiece) → NoneUnsupported (text_tokens ps)
texts [] = tt
texts (p ∷ ps) = (tt, texts ps)

-- no specifier is one
specifier_inside : (w : SpecifierWord) → is_outside (specifier_word w) ≡ false
specifier_inside specifier.Auto = refl
specifier_inside specifier.Register = refl
specifier_inside specifier.Static = refl
specifier_inside specifier.Extern = refl
specifier_inside specifier.Const = refl
specifier_inside specifier.Void = refl
specifier_inside specifier.Char = refl
specifier_inside specifier.Short = refl
specifier_inside specifier.Int = refl
specifier_inside specifier.Signed = refl

-- specifiers have none
specifiers : (ss : List Specifier) → NoneUnsupported (specifiers_tokens ss)
specifiers [] = tt
specifiers (s ∷ ss) = (specifier_inside s.word, specifiers ss)

-- `const` is none
consts : (ats : List Span) → NoneUnsupported (consts_tokens ats)
consts [] = tt
consts (at ∷ ats) = (refl, consts ats)

-- a pointer has none
pointer : (p : Option Star) → NoneUnsupported (pointer_tokens p)
pointer None = tt
pointer (Some p) = (tt, consts p.consts)

mutual
  -- an expression has none
  expr : (e : Expr) → NoneUnsupported (expr_tokens e)
  expr (Identifier name) = (tt, tt)
  expr (Number value at) = (tt, tt)
  expr (Text pieces) = texts pieces
  expr (Parenthesised o e c) = (tt, both (expr_tokens e) _ (expr e) (tt, tt))
  expr (Call f o arguments commas c) = (
    tt,
    (tt, both (exprs_tokens arguments commas) _ (exprs arguments commas) (tt, tt)),
  )
  expr (Index b o e c) = both (expr_tokens b) _ (expr b) (tt, both (expr_tokens e) _ (expr e) (tt, tt))
  expr (Postfix b op at) = both (expr_tokens b) _ (expr b) (tt, tt)
  expr (Prefix op at e) = (tt, expr e)
  expr (Unary op at e) = (tt, expr e)
  expr (Cast o ss p c e) = (
    tt,
    both (specifiers_tokens ss) _ (specifiers ss)
        (both (pointer_tokens p) _ (pointer p) (tt, expr e)),
  )
  expr (Binary op l at r) = both (expr_tokens l) _ (expr l) (tt, expr r)
  expr (Conditional c q f k s) = both (expr_tokens c) _ (expr c) (tt, both (expr_tokens f) _ (expr f) (tt, expr s))
  expr (Assignment op l at r) = both (expr_tokens l) _ (expr l) (tt, expr r)

  -- several expressions have none
  exprs : (es : Exprs) (commas : List Span) → NoneUnsupported (exprs_tokens es commas)
  exprs NoExpr commas = tt
  exprs (OneExpr e es) commas = both (expr_tokens e) (more_tokens es commas) (expr e) (more es commas)

  -- nor have further ones behind commas
  more : (es : Exprs) (commas : List Span) → NoneUnsupported (more_tokens es commas)
  more NoExpr commas = tt
  more (OneExpr e es) [] = tt
  more (OneExpr e es) (at ∷ commas) = (tt, both (expr_tokens e) (more_tokens es commas) (expr e) (more es commas))

-- ---- declarations

-- further parts behind commas have none where each has none
follow : {A : Type 0} (tokens : A → List Token) → ((x : A) → NoneUnsupported (tokens x))
    → (xs : List A) (commas : List Span) → NoneUnsupported (followed tokens xs commas)
follow tokens each [] commas = tt
follow tokens each (x ∷ xs) [] = tt
follow tokens each (x ∷ xs) (at ∷ commas) = (
  tt,
  both (tokens x) (followed tokens xs commas) (each x) (follow tokens each xs commas),
)

-- parts with commas between them have none where each has none
separate : {A : Type 0} (tokens : A → List Token) → ((x : A) → NoneUnsupported (tokens x))
    → (xs : List A) (commas : List Span) → NoneUnsupported (separated tokens xs commas)
separate tokens each [] commas = tt
separate tokens each (x ∷ xs) commas = both (tokens x) (followed tokens xs commas) (each x)
    (follow tokens each xs commas)

-- an expression that may be missing has none
maybe_expr : (e : Option Expr) → NoneUnsupported (maybe_expr_tokens e)
maybe_expr None = tt
maybe_expr (Some e) = expr e

-- brackets have none
array : (a : ArrayTree) → NoneUnsupported (array_tokens a)
array a = (tt, both (maybe_expr_tokens a.size) _ (maybe_expr a.size) (tt, tt))

-- brackets that may be missing have none
maybe_array : (a : Option ArrayTree) → NoneUnsupported (maybe_array_tokens a)
maybe_array None = tt
maybe_array (Some a) = array a

-- a name that may be missing has none
maybe_name : (n : Option Ident) → NoneUnsupported (maybe_name_tokens n)
maybe_name None = tt
maybe_name (Some n) = (tt, tt)

-- a parameter has none
parameter : (p : ParameterTree) → NoneUnsupported (parameter_tokens p)
parameter p =
    both (specifiers_tokens p.specifiers) _ (specifiers p.specifiers)
    (both (pointer_tokens p.pointer) _ (pointer p.pointer)
    (both (maybe_name_tokens p.name) _ (maybe_name p.name) (maybe_array p.array)))

-- what stands behind the name of a declarator has none
part : (p : PartTree) → NoneUnsupported (part_tokens p)
part Plain = tt
part (Array a) = array a
part (Function p) = (
  tt,
  both (separated parameter_tokens p.parameters p.commas) _
      (separate parameter_tokens parameter p.parameters p.commas) (tt, tt),
)

-- a declarator has none
declarator : (d : DeclaratorTree) → NoneUnsupported (declarator_tokens d)
declarator d = both (pointer_tokens d.pointer) _ (pointer d.pointer) (tt, part d.part)

-- a comma that may be missing is none
maybe_comma : (at : Option Span) → NoneUnsupported (maybe_comma_tokens at)
maybe_comma None = tt
maybe_comma (Some at) = (tt, tt)

-- an initialiser has none
initialiser : (i : InitialiserTree) → NoneUnsupported (initialiser_tokens i)
initialiser (Single e) = expr e
initialiser (Braces o values commas trailing c) = (
  tt,
  both (exprs_tokens values commas) _ (exprs values commas)
      (both (maybe_comma_tokens trailing) _ (maybe_comma trailing) (tt, tt)),
)

-- an initial value has none
value : (v : Option ValueTree) → NoneUnsupported (value_tokens v)
value None = tt
value (Some v) = (tt, initialiser v.value)

-- a declared item has none
item : (i : ItemTree) → NoneUnsupported (item_tokens i)
item i = both (declarator_tokens i.declarator) _ (declarator i.declarator) (value i.initialiser)

-- a declaration has none
declaration : (d : DeclarationTree) → NoneUnsupported (declaration_tokens d)
declaration d =
    both (specifiers_tokens d.specifiers) _ (specifiers d.specifiers)
    (both (separated item_tokens d.items d.commas) _ (separate item_tokens item d.items d.commas) (tt, tt))

-- ---- statements

-- a label has none
label : (l : LabelTree) → NoneUnsupported (label_tokens l)
label (Case at e colon) = (refl, both (expr_tokens e) _ (expr e) (tt, tt))
label (Default at colon) = (refl, (tt, tt))

-- several labels have none
labels : (ls : List LabelTree) → NoneUnsupported (labels_tokens ls)
labels [] = tt
labels (l ∷ ls) = both (label_tokens l) (labels_tokens ls) (label l) (labels ls)

-- an expression in parentheses has none where what follows has none
parens : (o : Span) (e : Expr) (c : Span) (behind : List Token) → NoneUnsupported behind
    → NoneUnsupported (in_parens o e c behind)
parens o e c behind h = (tt, both (expr_tokens e) _ (expr e) (tt, h))

mutual
  -- a statement has none
  stmt : (s : Stmt) → NoneUnsupported (stmt_tokens s)
  stmt (Declared d) = declaration d
  stmt (Labelled before s) = both (labels_tokens before) _ (labels before) (stmt s)
  stmt (Block o items c) = (tt, both (stmts_tokens items) _ (stmts items) (tt, tt))
  stmt (Simple e semicolon) = both (maybe_expr_tokens e) _ (maybe_expr e) (tt, tt)
  stmt (If at o e c s) = (refl, parens o e c (stmt_tokens s) (stmt s))
  stmt (IfElse at o e c s otherwise t) = (refl, parens o e c _ (both (stmt_tokens s) _ (stmt s) (refl, stmt t)))
  stmt (Switch at o e c begin items end) = (
    refl,
    parens o e c _ (tt, both (stmts_tokens items) _ (stmts items) (tt, tt)),
  )
  stmt (While at o e c s) = (refl, parens o e c (stmt_tokens s) (stmt s))
  stmt (Do at s until o e c semicolon) = (refl, both (stmt_tokens s) _ (stmt s) (refl, parens o e c _ (tt, tt)))
  stmt (For at o start first condition second step c s) = (
    refl,
    (
      tt,
      both (maybe_expr_tokens start) _ (maybe_expr start) (
        tt,
        both (maybe_expr_tokens condition) _ (maybe_expr condition) (
          tt,
          both (maybe_expr_tokens step) _ (maybe_expr step) (tt, stmt s),
        ),
      ),
    ),
  )
  stmt (ForDeclaration at o start condition second step c s) = (
    refl,
    (
      tt,
      both (declaration_tokens start) _ (declaration start)
          (both (maybe_expr_tokens condition) _ (maybe_expr condition) (
            tt,
            both (maybe_expr_tokens step) _ (maybe_expr step) (tt, stmt s),
          )),
    ),
  )
  stmt (Break at semicolon) = (refl, (tt, tt))
  stmt (Continue at semicolon) = (refl, (tt, tt))
  stmt (Return at e semicolon) = (refl, both (maybe_expr_tokens e) _ (maybe_expr e) (tt, tt))

  -- several statements have none
  stmts : (ss : Stmts) → NoneUnsupported (stmts_tokens ss)
  stmts NoStmt = tt
  stmts (OneStmt s ss) = both (stmt_tokens s) (stmts_tokens ss) (stmt s) (stmts ss)

-- ---- units

-- a function or a declaration of a file has none
external : (e : ExternalTree) → NoneUnsupported (external_tokens e)
external (FunctionTree ss d body) =
    both (specifiers_tokens ss) _ (specifiers ss) (both (declarator_tokens d) _ (declarator d) (stmt body))
external (DeclaredTree d) = declaration d

-- no token of a unit is a keyword that the language leaves out
pub unit_inside : (unit : List ExternalTree) → NoneUnsupported (unit_tokens unit)
unit_inside [] = tt
unit_inside (e ∷ es) = both (external_tokens e) (unit_tokens es) (external e) (unit_inside es)
