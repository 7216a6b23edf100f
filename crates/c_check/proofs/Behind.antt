-- What stands behind the statements of a body: the names that were seen before it are still there.
use Rattle.std.proofs.Common.{◌≡◌, refl, sym, ap, ◌∙◌, List, [], ◌∷◌, ◌++◌, Bool, true, false, Option, Some, None}
use Rattle.std.proofs.lemmas.List.{append_assoc}
use Rattle.c_syntax.specs.declared.expression.Identifier.{Identifier}
use Rattle.c_syntax.specs.Declarations.{DeclarationTree, ItemTree, ParameterTree}
use Rattle.c_syntax.specs.Statements as trees
use Rattle.c_syntax.specs.Statements.{Stmt, Stmts, NoStmt, OneStmt}
use Rattle.c_typing.specs.Declarators.{ArrayObject, IntegerObject, ObjectType, PointerObject, object_type}
use Rattle.c_typing.specs.Files.{at_body, body_of}
use Rattle.c_typing.specs.Names.{Binding, Scope, entered, left, numbered}
use Rattle.c_typing.specs.Statements.{after_declaration, after_item, after_items, after_specified, after_statement}
use Rattle.c_typing.specs.Statements.{after_statements, bound_item}
use Rattle.c_typing.specs.Declarators.{parameters_meant}
use Rattle.c_typing.specs.Types.{InBlock, InFor, Position, Specified, is_static, specified}
use Rattle.c_check_declarations.proofs.Scoped.{beside_parameters}

-- the second scope sees the names of the first behind its own
pub record Sees (s t : Scope) : Type 0 where
  pub more : List Binding
  pub is : t.names ≡ more ++ s.names

same_names : (s t : Scope) → t.names ≡ s.names → Sees s t
same_names s t h = record { more = []; is = h }

one_name : (s t : Scope) (b : Binding) → t.names ≡ b ∷ s.names → Sees s t
one_name s t b h = record { more = b ∷ []; is = h }

sees_on : (s t u : Scope) → Sees s t → Sees t u → Sees s u
sees_on s t u a b = record {
  more = b.more ++ a.more;
  is = b.is ∙ ap (λ ns. b.more ++ ns) a.is ∙ sym (append_assoc b.more a.more s.names);
}

sees_item : (static : Bool) (name : Identifier) (type : Option ObjectType) (s : Scope)
    → Sees s (bound_item static name type s)
sees_item static name None s = same_names s s refl
sees_item true name (Some (IntegerObject of)) s = record { more = _ ∷ []; is = refl }
sees_item true name (Some (PointerObject of)) s = same_names s s refl
sees_item true name (Some (ArrayObject element count)) s = record { more = _ ∷ []; is = refl }
sees_item false name (Some (IntegerObject of)) s = record { more = _ ∷ []; is = refl }
sees_item false name (Some (PointerObject of)) s = record { more = _ ∷ []; is = refl }
sees_item false name (Some (ArrayObject element count)) s = record { more = _ ∷ []; is = refl }

sees_items : (said : Specified) (is : List ItemTree) (s : Scope) → Sees s (after_items said is s)
sees_items said [] s = same_names s s refl
sees_items said (i ∷ is) s = sees_on s (after_item said i s) (after_items said is (after_item said i s))
    (sees_item (is_static said.storage) i.declarator.name
    (object_type (is_static said.storage) s said i.declarator i.initialiser) s)
    (sees_items said is (after_item said i s))

sees_specified : (said : Option Specified) (is : List ItemTree) (s : Scope) → Sees s (after_specified said is s)
sees_specified None is s = same_names s s refl
sees_specified (Some said) is s = sees_items said is s

sees_declaration : (position : Position) (d : DeclarationTree) (s : Scope) → Sees s (after_declaration position d s)
sees_declaration position d s = sees_specified (specified position d.specifiers) d.items s

numbered_sees : (s t : Scope) → Sees (numbered s) t → Sees s t
numbered_sees s t a = record { more = a.more; is = a.is }

mutual
  sees_statement : (st : Stmt) (s : Scope) → Sees s (after_statement st s)
  sees_statement (trees.Declared d) s = sees_declaration InBlock d s
  sees_statement (trees.Labelled labels st) s = sees_statement st s
  sees_statement (trees.Block o items c) s = same_names s (left s (after_statements items (entered s))) refl
  sees_statement (trees.Simple e semicolon) s = same_names s (numbered s) refl
  sees_statement (trees.If at o e c st) s = numbered_sees s (after_statement st (numbered s))
      (sees_statement st (numbered s))
  sees_statement (trees.IfElse at o e c st otherwise other) s =
      sees_on s (after_statement st (numbered s)) (after_statement other (after_statement st (numbered s)))
      (numbered_sees s (after_statement st (numbered s))
      (sees_statement st (numbered s))) (sees_statement other (after_statement st (numbered s)))
  sees_statement (trees.Switch at o e c begin items end) s =
      same_names s (left s (after_statements items (entered (numbered s)))) refl
  sees_statement (trees.While at o e c st) s = numbered_sees s (after_statement st (numbered s))
      (sees_statement st (numbered s))
  sees_statement (trees.Do at st until o e c semicolon) s = numbered_sees s (after_statement st (numbered s))
      (sees_statement st (numbered s))
  sees_statement (trees.For at o start first e second step c st) s = numbered_sees s (after_statement st (numbered s))
      (sees_statement st (numbered s))
  sees_statement (trees.ForDeclaration at o start e second step c st) s =
      same_names s (left s (after_statement st (after_declaration InFor start (entered (numbered s))))) refl
  sees_statement (trees.Break at semicolon) s = same_names s (numbered s) refl
  sees_statement (trees.Continue at semicolon) s = same_names s (numbered s) refl
  sees_statement (trees.Return at e semicolon) s = same_names s (numbered s) refl

  sees_statements : (sts : Stmts) (s : Scope) → Sees s (after_statements sts s)
  sees_statements NoStmt s = same_names s s refl
  sees_statements (OneStmt st others) s =
      sees_on s (after_statement st s) (after_statements others (after_statement st s)) (sees_statement st s)
      (sees_statements others (after_statement st s))

-- the names that are seen outside a function are seen behind its body
pub sees_body : (ps : List ParameterTree) (body : Stmt) (s : Scope)
    → Sees s (after_statements (body_of body) (at_body ps s))
sees_body ps body s =
    let first = at_body ps s in
    let b = beside_parameters (record (entered s) { locals = []; arrays = [] }) (parameters_meant ps) in
    sees_on s first (after_statements (body_of body) first)
    (record { more = b.names; is = ap (λ (t : Scope). t.names) b.is })
    (sees_statements (body_of body) first)
