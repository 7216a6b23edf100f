-- The body of a function declares nothing outside functions.
use Rattle.std.proofs.Common.{◌≡◌, refl, ◌∙◌, Bool, true, false, List, [], ◌∷◌}
use Rattle.std.specs.Prelude.{Option, Some, None}
use Rattle.c_syntax.specs.declared.expression.Identifier.{Identifier}
use Rattle.c_syntax.specs.Declarations.{ItemTree, DeclarationTree, ParameterTree}
use Rattle.c_syntax.specs.Statements as trees
use Rattle.c_syntax.specs.Statements.{Stmt, Stmts, NoStmt, OneStmt}
use Rattle.c_tree.specs.declared.types.ValueType.{ValueType}
use Rattle.c_typing.specs.Library.{Entity}
use Rattle.c_typing.specs.Types.{Position, InBlock, InFor, Specified, specified, is_static}
use Rattle.c_typing.specs.Checked.{value_in}
use Rattle.c_typing.specs.Declarators.{ObjectType, IntegerObject, PointerObject, ArrayObject, object_type, with_named}
use Rattle.c_typing.specs.Declarators.{with_parameter, with_parameters, typed_parameter}
use Rattle.c_typing.specs.Names.{Scope, entered, numbered}
use Rattle.c_typing.specs.Statements.{bound_object, bound_item, after_item, after_items, after_specified}
use Rattle.c_typing.specs.Statements.{after_declaration, after_statement, after_statements}

pub object_outside : (name : Identifier) (e : Entity) (type : ObjectType) (s : Scope)
    → (bound_object name e type s).outer ≡ s.outer
object_outside name e (IntegerObject of) s = refl
object_outside name e (PointerObject of) s = refl
object_outside name e (ArrayObject element count) s = refl

bound_outside : (static : Bool) (name : Identifier) (o : Option ObjectType) (s : Scope)
    → (bound_item static name o s).outer ≡ s.outer
bound_outside static name None s = refl
bound_outside true name (Some (IntegerObject of)) s = refl
bound_outside true name (Some (PointerObject of)) s = refl
bound_outside true name (Some (ArrayObject element count)) s = refl
bound_outside false name (Some (IntegerObject of)) s = refl
bound_outside false name (Some (PointerObject of)) s = refl
bound_outside false name (Some (ArrayObject element count)) s = refl

item_outside : (said : Specified) (i : ItemTree) (s : Scope) → (after_item said i s).outer ≡ s.outer
item_outside said i s =
    let static = is_static said.storage in
    bound_outside static i.declarator.name (object_type static s said i.declarator i.initialiser) s

items_outside : (said : Specified) (is : List ItemTree) (s : Scope) → (after_items said is s).outer ≡ s.outer
items_outside said [] s = refl
items_outside said (i ∷ is) s = items_outside said is (after_item said i s) ∙ item_outside said i s

specified_outside : (o : Option Specified) (is : List ItemTree) (s : Scope) → (after_specified o is s).outer ≡ s.outer
specified_outside None is s = refl
specified_outside (Some said) is s = items_outside said is s

declaration_outside : (position : Position) (d : DeclarationTree) (s : Scope)
    → (after_declaration position d s).outer ≡ s.outer
declaration_outside position d s = specified_outside (specified position d.specifiers) d.items s

named_outside : (s : Scope) (o : Option Identifier) (t : Option ValueType) → (with_named s o t).outer ≡ s.outer
named_outside s None None = refl
named_outside s None (Some t) = refl
named_outside s (Some name) None = refl
named_outside s (Some name) (Some t) = refl

pub parameters_outside : (s : Scope) (ps : List ParameterTree) → (with_parameters s ps).outer ≡ s.outer
parameters_outside s [] = refl
parameters_outside s (p ∷ ps) =
    parameters_outside (with_parameter s p) ps ∙ named_outside s p.name (value_in (typed_parameter s false p))

mutual
  statement_outside : (st : Stmt) (s : Scope) → (after_statement st s).outer ≡ s.outer
  statement_outside (trees.Declared d) s = declaration_outside InBlock d s
  statement_outside (trees.Labelled labels st) s = statement_outside st s
  statement_outside (trees.Block o items c) s = statements_outside items (entered s)
  statement_outside (trees.Simple e semicolon) s = refl
  statement_outside (trees.If at o e c st) s = statement_outside st (numbered s)
  statement_outside (trees.IfElse at o e c st otherwise other) s =
      statement_outside other (after_statement st (numbered s)) ∙ statement_outside st (numbered s)
  statement_outside (trees.Switch at o e c begin items end) s = statements_outside items (entered (numbered s))
  statement_outside (trees.While at o e c st) s = statement_outside st (numbered s)
  statement_outside (trees.Do at st until o e c semicolon) s = statement_outside st (numbered s)
  statement_outside (trees.For at o start first e second step c st) s = statement_outside st (numbered s)
  statement_outside (trees.ForDeclaration at o start e second step c st) s =
      let n = entered (numbered s) in
      statement_outside st (after_declaration InFor start n) ∙ declaration_outside InFor start n
  statement_outside (trees.Break at semicolon) s = refl
  statement_outside (trees.Continue at semicolon) s = refl
  statement_outside (trees.Return at e semicolon) s = refl

  pub statements_outside : (sts : Stmts) (s : Scope) → (after_statements sts s).outer ≡ s.outer
  statements_outside NoStmt s = refl
  statements_outside (OneStmt st others) s =
      statements_outside others (after_statement st s) ∙ statement_outside st s
