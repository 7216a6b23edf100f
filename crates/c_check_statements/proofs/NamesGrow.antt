-- Behind a part of a function's body the names that were seen before it are there, and maybe more before them.
use Rattle.std.proofs.Common.{◌≡◌, refl, sym, ap, ◌∙◌, List, [], ◌∷◌, ◌++◌, Bool, true, false, Option, Some, None}
use Rattle.std.proofs.lemmas.List.{append_assoc}
use Rattle.c_syntax.specs.declared.expression.Identifier.{Identifier as Ident}
use Rattle.c_syntax.specs.Declarations.{DeclarationTree, ItemTree}
use Rattle.c_syntax.specs.Statements as trees
use Rattle.c_syntax.specs.Statements.{Stmt, Stmts, NoStmt, OneStmt}
use Rattle.c_typing.specs.Declarators.{ObjectType, IntegerObject, PointerObject, ArrayObject, object_type}
use Rattle.c_typing.specs.Library.{At, Entity}
use Rattle.c_typing.specs.Names.{Binding, Scope, entered, left, numbered}
use Rattle.c_typing.specs.Statements.{after_declaration, after_item, after_items, after_specified, after_statement}
use Rattle.c_typing.specs.Statements.{after_statements, bound_item, bound_local, bound_object}
use Rattle.c_typing.specs.Types.{InBlock, InFor, Position, Specified, is_static, specified}

pub record Grows (s t : Scope) : Type 0 where
  pub more : List Binding
  pub names : t.names ≡ more ++ s.names

grows_same : (s t : Scope) → t.names ≡ s.names → Grows s t
grows_same s t h = record { more = []; names = h }

pub grows_on : (s t u : Scope) → Grows s t → Grows t u → Grows s u
grows_on s t u g h = record {
  more = h.more ++ g.more;
  names = h.names ∙ ap (λ (xs : List Binding). h.more ++ xs) g.names ∙ sym (append_assoc h.more g.more s.names);
}

grows_one : (s t : Scope) (b : Binding) → t.names ≡ b ∷ s.names → Grows s t
grows_one s t b h = record { more = b ∷ []; names = h }

object_grows : (name : Ident) (e : Entity) (type : ObjectType) (s : Scope) → Grows s (bound_object name e type s)
object_grows name e (IntegerObject of) s = grows_one s (bound_object name e (IntegerObject of) s) _ refl
object_grows name e (PointerObject of) s = grows_same s s refl
object_grows name e (ArrayObject element count) s =
    grows_one s (bound_object name e (ArrayObject element count) s) _ refl

local_grows : (name : Ident) (type : ObjectType) (s : Scope) → Grows s (bound_local name type s)
local_grows name (IntegerObject of) s = grows_one s (bound_local name (IntegerObject of) s) _ refl
local_grows name (PointerObject of) s = grows_one s (bound_local name (PointerObject of) s) _ refl
local_grows name (ArrayObject element count) s = grows_one s (bound_local name (ArrayObject element count) s) _ refl

item_grows : (static : Bool) (name : Ident) (type : Option ObjectType) (s : Scope)
    → Grows s (bound_item static name type s)
item_grows static name None s = grows_same s s refl
item_grows true name (Some type) s = object_grows name (At name.at) type s
item_grows false name (Some type) s = local_grows name type s

items_grow : (said : Specified) (is : List ItemTree) (s : Scope) → Grows s (after_items said is s)
items_grow said [] s = grows_same s s refl
items_grow said (i ∷ is) s = grows_on s (after_item said i s) (after_items said is (after_item said i s))
    (item_grows (is_static said.storage) i.declarator.name
    (object_type (is_static said.storage) s said i.declarator i.initialiser) s)
    (items_grow said is (after_item said i s))

specified_grow : (said : Option Specified) (is : List ItemTree) (s : Scope) → Grows s (after_specified said is s)
specified_grow None is s = grows_same s s refl
specified_grow (Some said) is s = items_grow said is s

pub declaration_grows : (position : Position) (d : DeclarationTree) (s : Scope)
    → Grows s (after_declaration position d s)
declaration_grows position d s = specified_grow (specified position d.specifiers) d.items s

mutual
  pub statement_grows : (st : Stmt) (s : Scope) → Grows s (after_statement st s)
  statement_grows (trees.Declared d) s = declaration_grows InBlock d s
  statement_grows (trees.Labelled labels st) s = statement_grows st s
  statement_grows (trees.Block o items c) s = grows_same s (left s (after_statements items (entered s))) refl
  statement_grows (trees.Simple e semicolon) s = grows_same s (numbered s) refl
  statement_grows (trees.If at o e c st) s = grows_on s (numbered s) (after_statement st (numbered s))
      (grows_same s (numbered s) refl) (statement_grows st (numbered s))
  statement_grows (trees.IfElse at o e c st otherwise other) s =
      let t = after_statement st (numbered s) in
      grows_on s (numbered s) (after_statement other t) (grows_same s (numbered s) refl)
      (grows_on (numbered s) t (after_statement other t) (statement_grows st (numbered s)) (statement_grows other t))
  statement_grows (trees.Switch at o e c begin items end) s =
      grows_same s (left s (after_statements items (entered (numbered s)))) refl
  statement_grows (trees.While at o e c st) s = grows_on s (numbered s) (after_statement st (numbered s))
      (grows_same s (numbered s) refl) (statement_grows st (numbered s))
  statement_grows (trees.Do at st until o e c semicolon) s =
      grows_on s (numbered s) (after_statement st (numbered s)) (grows_same s (numbered s) refl)
      (statement_grows st (numbered s))
  statement_grows (trees.For at o start first e second step c st) s =
      grows_on s (numbered s) (after_statement st (numbered s)) (grows_same s (numbered s) refl)
      (statement_grows st (numbered s))
  statement_grows (trees.ForDeclaration at o start e second step c st) s = grows_same s
      (left s (after_statement st (after_declaration InFor start (entered (numbered s))))) refl
  statement_grows (trees.Break at semicolon) s = grows_same s (numbered s) refl
  statement_grows (trees.Continue at semicolon) s = grows_same s (numbered s) refl
  statement_grows (trees.Return at e semicolon) s = grows_same s (numbered s) refl

  pub statements_grow : (sts : Stmts) (s : Scope) → Grows s (after_statements sts s)
  statements_grow NoStmt s = grows_same s s refl
  statements_grow (OneStmt st others) s =
      let t = after_statement st s in
      grows_on s t (after_statements others t) (statement_grows st s) (statements_grow others t)
