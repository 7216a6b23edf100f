-- Behind each construct of a body, the locals and arrays so far have identifiers as names.
use Rattle.std.proofs.Common.{◌≡◌, Bool, true, false, List, [], ◌∷◌, ◌++◌, length, arith}
use Rattle.std.specs.Prelude.{Option, Some, None, if◌then◌else◌}
use Rattle.std.specs.List.{AllByRecursion}
use Rattle.pcc_base.specs.declared.span.Span.{Span}
use Rattle.pcc_base.specs.Names.{IsName}
use Rattle.pcc_base.proofs.Lists.{all-push}
use Rattle.c_lex.specs.declared.token.Token.{Token}
use Rattle.c_syntax.specs.declared.expression.Identifier.{Identifier}
use Rattle.c_syntax.specs.Declarations.{ItemTree, DeclarationTree, ParameterTree}
use Rattle.c_syntax.specs.DeclarationTokens.{AreApart, IsDeclaration, declaration_tokens, declarator_tokens, followed}
use Rattle.c_syntax.specs.DeclarationTokens.{item_tokens, maybe_array_tokens, maybe_expr_tokens, maybe_name_tokens}
use Rattle.c_syntax.specs.DeclarationTokens.{parameter_tokens, part_tokens, separated, value_tokens}
use Rattle.c_syntax.specs.ExpressionTokens.{expr_tokens, pointer_tokens, specifiers_tokens}
use Rattle.c_syntax.specs.Statements as trees
use Rattle.c_syntax.specs.Statements.{Stmt, Stmts, NoStmt, OneStmt}
use Rattle.c_syntax.specs.StatementTokens.{AreCases, AreItems, IsStmt, labels_tokens, stmt_tokens, stmts_tokens}
use Rattle.c_tree.specs.Program.{Local, LocalArray}
use Rattle.c_tree.specs.declared.types.ValueType.{ValueType}
use Rattle.c_typing.specs.Checked.{value_in}
use Rattle.c_typing.specs.Declarators.{ObjectType, IntegerObject, PointerObject, ArrayObject, object_type, with_named}
use Rattle.c_typing.specs.Declarators.{parameters_meant, is_void_parameter, typed_parameter, with_parameter}
use Rattle.c_typing.specs.Declarators.{with_parameters}
use Rattle.c_typing.specs.Library.{Entity, At}
use Rattle.c_typing.specs.Names.{Scope, entered, numbered}
use Rattle.c_typing.specs.Statements.{after_declaration, after_item, after_items, after_specified, after_statement}
use Rattle.c_typing.specs.Statements.{after_statements, bound_item, bound_local, bound_object}
use Rattle.c_typing.specs.Types.{Position, InBlock, InFor, Specified, is_static, specified}
use Rattle.c_check_laws.specs.Named.{AreSpelled}

abbrev pub IsNamedLocal : Local → Type 0
IsNamedLocal l = IsName l.name

abbrev pub IsNamedArray : LocalArray → Type 0
IsNamedArray a = IsName a.name

-- the locals and the arrays so far
abbrev pub HasNames : Scope → Type 0
HasNames s = AllByRecursion IsNamedLocal s.locals × AllByRecursion IsNamedArray s.arrays

-- ---- parts of tokens

pub front : (a b : List Token) → AreSpelled (a ++ b) → AreSpelled a
front [] b h = tt
front (t ∷ ts) b h = (h.0, front ts b h.1)

pub back : (a b : List Token) → AreSpelled (a ++ b) → AreSpelled b
back [] b h = h
back (t ∷ ts) b h = back ts b h.1

followed_spelled : {A : Type 0} (tokens : A → List Token) (xs : List A) (commas : List Span)
    → length commas ≡ length xs → AreSpelled (followed tokens xs commas)
    → AllByRecursion (λ (x : A). AreSpelled (tokens x)) xs
followed_spelled tokens [] commas e h = tt
followed_spelled tokens (x ∷ xs) [] e h = absurd (omega (arith, e))
followed_spelled tokens (x ∷ xs) (at ∷ commas) e h = (
  front (tokens x) (followed tokens xs commas) h.1,
  followed_spelled tokens xs commas (omega (arith, e)) (back (tokens x) (followed tokens xs commas) h.1),
)

-- each of several with commas between them
pub separated_spelled : {A : Type 0} (tokens : A → List Token) (xs : List A) (commas : List Span)
    → AreApart xs commas → AreSpelled (separated tokens xs commas)
    → AllByRecursion (λ (x : A). AreSpelled (tokens x)) xs
separated_spelled tokens [] commas e h = tt
separated_spelled tokens (x ∷ xs) commas e h = (
  front (tokens x) (followed tokens xs commas) h,
  followed_spelled tokens xs commas e (back (tokens x) (followed tokens xs commas) h),
)

-- ---- declared items

object_names : (name : Identifier) (e : Entity) (type : ObjectType) (s : Scope) → HasNames s
    → HasNames (bound_object name e type s)
object_names name e (IntegerObject of) s n = n
object_names name e (PointerObject of) s n = n
object_names name e (ArrayObject element count) s n = n

local_names : (name : Identifier) (type : ObjectType) (s : Scope) → IsName name.name → HasNames s
    → HasNames (bound_local name type s)
local_names name (IntegerObject of) s is n = (all-push IsNamedLocal s.locals _ n.0 is, n.1)
local_names name (PointerObject of) s is n = (all-push IsNamedLocal s.locals _ n.0 is, n.1)
local_names name (ArrayObject element count) s is n = (n.0, all-push IsNamedArray s.arrays _ n.1 is)

bound_names : (static : Bool) (name : Identifier) (type : Option ObjectType) (s : Scope) → IsName name.name → HasNames s
    → HasNames (bound_item static name type s)
bound_names static name None s is n = n
bound_names true name (Some type) s is n = object_names name (At name.at) type s n
bound_names false name (Some type) s is n = local_names name type s is n

abbrev pub IsItemSpelled : ItemTree → Type 0
IsItemSpelled i = AreSpelled (item_tokens i)

item_names : (said : Specified) (i : ItemTree) (s : Scope) → IsItemSpelled i → HasNames s
    → HasNames (after_item said i s)
item_names said i s h n =
    let d = i.declarator in
    let name = (back (pointer_tokens d.pointer) (_ ∷ part_tokens d.part)
    (front (declarator_tokens d) (value_tokens i.initialiser) h)).0 in
    bound_names (is_static said.storage) d.name (object_type (is_static said.storage) s said d i.initialiser) s name n

items_names : (said : Specified) (is : List ItemTree) (s : Scope) → AllByRecursion IsItemSpelled is → HasNames s
    → HasNames (after_items said is s)
items_names said [] s h n = n
items_names said (i ∷ is) s h n = items_names said is (after_item said i s) h.1 (item_names said i s h.0 n)

specified_names : (o : Option Specified) (is : List ItemTree) (s : Scope) → AllByRecursion IsItemSpelled is → HasNames s
    → HasNames (after_specified o is s)
specified_names None is s h n = n
specified_names (Some said) is s h n = items_names said is s h n

declaration_names : (position : Position) (d : DeclarationTree) (s : Scope) → IsDeclaration d
    → AreSpelled (declaration_tokens d) → HasNames s → HasNames (after_declaration position d s)
declaration_names position d s is h n =
    specified_names (specified position d.specifiers) d.items s
    (separated_spelled item_tokens d.items d.commas is.2 (front (separated item_tokens d.items d.commas) (_ ∷ [])
    (back (specifiers_tokens d.specifiers) _ h))) n

-- ---- statements

mutual
  statement_names : (st : Stmt) (s : Scope) → IsStmt st → AreSpelled (stmt_tokens st) → HasNames s
      → HasNames (after_statement st s)
  statement_names (trees.Declared d) s is h n = declaration_names InBlock d s is h n
  statement_names (trees.Labelled labels st) s is h n =
      statement_names st s is.1 (back (labels_tokens labels) (stmt_tokens st) h) n
  statement_names (trees.Block o items c) s is h n =
      block_names items (entered s) is (front (stmts_tokens items) (_ ∷ []) h.1) n
  statement_names (trees.Simple e semicolon) s is h n = n
  statement_names (trees.If at o e c st) s is h n =
      statement_names st (numbered s) is.1 (back (expr_tokens e) (_ ∷ stmt_tokens st) h.1.1).1 n
  statement_names (trees.IfElse at o e c st otherwise other) s is h n =
      let S = stmt_tokens st in
      let O = stmt_tokens other in
      let p = (back (expr_tokens e) (_ ∷ (S ++ _ ∷ O)) h.1.1).1 in
      statement_names other (after_statement st (numbered s)) is.4 (back S (_ ∷ O) p).1
      (statement_names st (numbered s) is.1 (front S (_ ∷ O) p) n)
  statement_names (trees.Switch at o e c begin items end) s is h n =
      let I = stmts_tokens items in
      let p = (back (expr_tokens e) (_ ∷ _ ∷ (I ++ _ ∷ [])) h.1.1).1.1 in
      cases_names items (entered (numbered s)) is.1 (front I (_ ∷ []) p) n
  statement_names (trees.While at o e c st) s is h n =
      statement_names st (numbered s) is.1 (back (expr_tokens e) (_ ∷ stmt_tokens st) h.1.1).1 n
  statement_names (trees.Do at st until o e c semicolon) s is h n =
      statement_names st (numbered s) is.0 (front (stmt_tokens st) _ h.1) n
  statement_names (trees.For at o start first e second step c st) s is h n =
      let S = stmt_tokens st in
      let p = (back (maybe_expr_tokens start) (_ ∷ _) h.1.1).1 in
      let q = (back (maybe_expr_tokens e) (_ ∷ _) p).1 in
      statement_names st (numbered s) is.3 (back (maybe_expr_tokens step) (_ ∷ S) q).1 n
  statement_names (trees.ForDeclaration at o start e second step c st) s is h n =
      let S = stmt_tokens st in
      let D = declaration_tokens start in
      let outside = entered (numbered s) in
      let p = back D _ h.1.1 in
      let q = (back (maybe_expr_tokens e) (_ ∷ _) p).1 in
      statement_names st (after_declaration InFor start outside) is.3 (back (maybe_expr_tokens step) (_ ∷ S) q).1
      (declaration_names InFor start outside is.0 (front D _ h.1.1) n)
  statement_names (trees.Break at semicolon) s is h n = n
  statement_names (trees.Continue at semicolon) s is h n = n
  statement_names (trees.Return at e semicolon) s is h n = n

  -- the statements of a block
  pub block_names : (sts : Stmts) (s : Scope) → AreItems sts → AreSpelled (stmts_tokens sts) → HasNames s
      → HasNames (after_statements sts s)
  block_names NoStmt s is h n = n
  block_names (OneStmt st others) s is h n =
      block_names others (after_statement st s) is.2 (back (stmt_tokens st) (stmts_tokens others) h)
      (statement_names st s is.0 (front (stmt_tokens st) (stmts_tokens others) h) n)

  -- those of a switch
  cases_names : (sts : Stmts) (s : Scope) → AreCases sts → AreSpelled (stmts_tokens sts) → HasNames s
      → HasNames (after_statements sts s)
  cases_names NoStmt s is h n = n
  cases_names (OneStmt st others) s is h n =
      cases_names others (after_statement st s) is.2 (back (stmt_tokens st) (stmts_tokens others) h)
      (statement_names st s is.0 (front (stmt_tokens st) (stmts_tokens others) h) n)

-- ---- parameters

abbrev pub IsParameterSpelled : ParameterTree → Type 0
IsParameterSpelled p = AreSpelled (parameter_tokens p)

named_names : (o : Option Identifier) (of : Option ValueType) (s : Scope) → AreSpelled (maybe_name_tokens o)
    → HasNames s → HasNames (with_named s o of)
named_names None None s h n = n
named_names None (Some t) s h n = n
named_names (Some name) None s h n = n
named_names (Some name) (Some t) s h n = (all-push IsNamedLocal s.locals _ n.0 h.0, n.1)

pub parameters_names : (ps : List ParameterTree) (s : Scope) → AllByRecursion IsParameterSpelled ps → HasNames s
    → HasNames (with_parameters s ps)
parameters_names [] s h n = n
parameters_names (p ∷ ps) s h n =
    parameters_names ps (with_parameter s p) h.1 (named_names p.name (value_in (typed_parameter s false p)) s
    (front (maybe_name_tokens p.name) (maybe_array_tokens p.array) (back (pointer_tokens p.pointer) _
    (back (specifiers_tokens p.specifiers) _ h.0))) n)

one_meant : (b : Bool) (p : ParameterTree) → IsParameterSpelled p
    → AllByRecursion IsParameterSpelled (if b then [] else p ∷ [])
one_meant true p h = tt
one_meant false p h = (h, tt)

pub meant_spelled : (ps : List ParameterTree) → AllByRecursion IsParameterSpelled ps
    → AllByRecursion IsParameterSpelled (parameters_meant ps)
meant_spelled [] h = tt
meant_spelled (p ∷ []) h = one_meant (is_void_parameter p) p h.0
meant_spelled (p ∷ (q ∷ ps)) h = h
