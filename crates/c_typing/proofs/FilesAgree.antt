-- Files have the same faults and notes whatever numbers things have.
use Rattle.std.proofs.Common.{◌≡◌, ℕ, refl, sym, ap, subst, ◌∙◌, Bool, true, false, List, [], ◌∷◌, ◌++◌}
use Rattle.std.specs.Prelude.{Option, Some, None, is_some}
use Rattle.c_syntax.specs.declared.expression.Identifier.{Identifier}
use Rattle.c_syntax.specs.Declarations as trees
use Rattle.c_syntax.specs.Declarations.{ItemTree, DeclaratorTree, ParameterTree, PartTree, ValueTree}
use Rattle.c_syntax.specs.Statements.{Stmt, ExternalTree, FunctionTree, DeclaredTree}
use Rattle.c_tree.specs.declared.types.ValueType.{ValueType}
use Rattle.c_tree.specs.Program as tree
use Rattle.c_typing.specs.Types.{Outside, Specified, specified, Storage, Unsaid, Auto, Register, Static, Extern}
use Rattle.c_typing.specs.Types.{pointed}
use Rattle.c_typing.specs.Types.{Declared, DeclaredFunction}
use Rattle.c_typing.specs.Checked.{Checked, Fits, fits, also, both, if_fits, value_in, Defines}
use Rattle.c_typing.specs.Declarators.{ObjectType, IntegerObject, PointerObject, ArrayObject, object_declared}
use Rattle.c_typing.specs.Declarators.{object_allowed, parameters_meant}
use Rattle.c_typing.specs.Declarators.{type_faults, typed_parameters}
use Rattle.c_typing.specs.Expressions.{specifiers_at}
use Rattle.c_typing.specs.Initialisers.{contents_for, function_initialiser}
use Rattle.c_typing.specs.Library.{Entity}
use Rattle.c_typing.specs.Names.{Function, bound, Numbers, Signature, Outer, Scope, entered, left, linked, next_file}
use Rattle.c_typing.specs.Names.{first_scope}
use Rattle.c_typing.specs.Statements.{stored, typed_statements, after_statements}
use Rattle.c_typing.specs.Files.{outer_of, redeclared_faults, with_outer, library_faults, result_faults, signature_of}
use Rattle.c_typing.specs.Files.{function_declared, function_signature, bound_function, after_function, sized_object}
use Rattle.c_typing.specs.Files.{without_value, bound_allowed, bound_outer, after_object, typed_object, typed_prototype}
use Rattle.c_typing.specs.Files.{after_outer_item, typed_outer_item, after_outer_items, typed_outer_items}
use Rattle.c_typing.specs.Files.{parameters_in}
use Rattle.c_typing.specs.Files.{body_of, at_body, function_with, defined, in_function, typed_definition}
use Rattle.c_typing.specs.Files.{after_definition, after_said, after_external, typed_external, after_unit, typed_unit}
use Rattle.c_typing.specs.Files.{typed_units}
use Rattle.c_typing.specs.Typed.{judged}
use Rattle.c_typing.specs.Laws.{NumbersChangeNothing}
use Rattle.c_typing.proofs.Agree.{Agree, Any, Same, faults_agree, notes_agree, values_agree, agree_if_fits, agree_also}
use Rattle.c_typing.proofs.Agree.{agree_both, same_itself}
use Rattle.c_typing.proofs.ExpressionsAgree.{renumbered}
use Rattle.c_typing.proofs.DeclarationsAgree.{declared_agree, with_parameters_same, parameters_agree, contents_agree}
use Rattle.c_typing.proofs.DeclarationsAgree.{function_agree, stored_agree}
use Rattle.c_typing.proofs.StatementsAgree.{after_statements_same, statements_agree}

-- ---- what is declared

linked_same : (m : Numbers) (s : Scope) (storage : Storage) (type : Declared) (name : List ℕ)
    → linked (renumbered m s) storage type name ≡ linked s storage type name
linked_same m s Unsaid type name = refl
linked_same m s Auto type name = refl
linked_same m s Register type name = refl
linked_same m s Static type name = refl
linked_same m s Extern type name = refl

outer_same : (m : Numbers) (s : Scope) (said : Specified) (name : Identifier) (whole : Bool) (type : Declared)
    → outer_of (renumbered m s) said name whole type ≡ outer_of s said name whole type
outer_same m s said name whole type =
    ap (λ e. record { entity = e; type = type; whole = whole }) (linked_same m s said.storage type name.name)

-- ---- functions

abbrev declared_as : Scope → Specified → Identifier → Outer → Option ValueType → List ValueType → Checked Signature
declared_as s said name o result parameters =
    also (redeclared_faults s name o ++ library_faults name o) (signature_of name.at result parameters)

function_declared_same : (m : Numbers) (s : Scope) (said : Specified) (name : Identifier) (whole : Bool)
    (result : Option ValueType) (parameters : List ValueType)
    → function_declared (renumbered m s) said name whole result parameters
    ≡ function_declared s said name whole result parameters
function_declared_same m s said name whole result parameters =
    ap (λ o. declared_as s said name o result parameters)
    (outer_same m s said name whole (DeclaredFunction result parameters))

signature_agree : (m : Numbers) (s : Scope) (said : Specified) (d : DeclaratorTree) (whole : Bool)
    (ps : List ParameterTree)
    → Agree Same (function_signature (renumbered m s) said d whole ps) (function_signature s said d whole ps)
signature_agree m s said d whole ps =
    agree_also Same (result_faults said d)
    (if_fits (typed_parameters (entered (renumbered m s)) whole ps)
    (function_declared (renumbered m s) said d.name whole (pointed said.base d.pointer)))
    (if_fits (typed_parameters (entered s) whole ps)
    (function_declared s said d.name whole (pointed said.base d.pointer)))
    (agree_if_fits Same Same (typed_parameters (entered (renumbered m s)) whole ps)
    (typed_parameters (entered s) whole ps)
    (function_declared (renumbered m s) said d.name whole (pointed said.base d.pointer))
    (function_declared s said d.name whole (pointed said.base d.pointer)) (parameters_agree m (entered s) whole ps)
    (λ a b e. subst (λ c. Agree Same
    (function_declared (renumbered m s) said d.name whole (pointed said.base d.pointer) a) c)
    (function_declared_same m s said d.name whole (pointed said.base d.pointer) a
    ∙ ap (function_declared s said d.name whole (pointed said.base d.pointer)) e)
    (same_itself (function_declared (renumbered m s) said d.name whole (pointed said.base d.pointer) a))))

abbrev bound_with : Identifier → Signature → Scope → Outer → Scope
bound_with name g s o = bound name.name (Function o.entity g) (with_outer o s)

bound_function_same : (m : Numbers) (said : Specified) (name : Identifier) (whole : Bool) (o : Option Signature)
    (s : Scope) → bound_function said name whole o (renumbered m s) ≡ renumbered m (bound_function said name whole o s)
bound_function_same m said name whole None s = refl
bound_function_same m said name whole (Some g) s =
    ap (bound_with name g (renumbered m s))
    (outer_same m s said name whole (DeclaredFunction (Some g.result) g.parameters))

after_function_same : (m : Numbers) (said : Specified) (d : DeclaratorTree) (whole : Bool) (ps : List ParameterTree)
    (s : Scope)
    → after_function said d whole ps (renumbered m s) ≡ renumbered m (after_function said d whole ps s)
after_function_same m said d whole ps s =
    ap (λ o. bound_function said d.name whole o (renumbered m s))
    (values_agree (function_signature (renumbered m s) said d whole ps) (function_signature s said d whole ps)
    (signature_agree m s said d whole ps))
    ∙ bound_function_same m said d.name whole (value_in (function_signature s said d whole ps)) s

-- ---- items outside functions

bound_allowed_same : (m : Numbers) (name : Identifier) (o : Outer) (type : Option ObjectType) (s : Scope)
    → bound_allowed name o type (renumbered m s) ≡ renumbered m (bound_allowed name o type s)
bound_allowed_same m name o None s = refl
bound_allowed_same m name o (Some (IntegerObject of)) s = refl
bound_allowed_same m name o (Some (PointerObject of)) s = refl
bound_allowed_same m name o (Some (ArrayObject element count)) s = refl

abbrev outer_with : Identifier → Declared → Scope → Outer → Scope
outer_with name type s o =
    bound_allowed name o (value_in (object_allowed true name.at type)) (with_outer o s)

bound_outer_same : (m : Numbers) (said : Specified) (name : Identifier) (whole : Bool) (o : Option Declared) (s : Scope)
    → bound_outer said name whole o (renumbered m s) ≡ renumbered m (bound_outer said name whole o s)
bound_outer_same m said name whole None s = refl
bound_outer_same m said name whole (Some type) s =
    ap (outer_with name type (renumbered m s)) (outer_same m s said name whole type)
    ∙ bound_allowed_same m name (outer_of s said name whole type) (value_in (object_allowed true name.at type))
    (with_outer (outer_of s said name whole type) s)

after_object_same : (m : Numbers) (said : Specified) (i : ItemTree) (s : Scope)
    → after_object said i (renumbered m s) ≡ renumbered m (after_object said i s)
after_object_same m said i s =
    ap (λ o. bound_outer said i.declarator.name (is_some i.initialiser) o (renumbered m s))
    (values_agree (object_declared (renumbered m s) said i.declarator i.initialiser)
    (object_declared s said i.declarator i.initialiser) (declared_agree m s said i.declarator i.initialiser))
    ∙ bound_outer_same m said i.declarator.name (is_some i.initialiser)
    (value_in (object_declared s said i.declarator i.initialiser)) s

-- an object with what declares it, in a scope and the one behind its declarator
abbrev object_with : Specified → ItemTree → Scope → Scope → Declared → Outer → Checked (List tree.Function)
object_with said i s t type o =
    also (redeclared_faults s i.declarator.name o)
    (if_fits (object_allowed true i.declarator.name.at type) (λ allowed.
    stored o.entity allowed [] (contents_for t allowed (without_value said) i.initialiser)))

object_with_agree : (m : Numbers) (said : Specified) (i : ItemTree) (s t : Scope) (type : Declared) (o : Outer)
    → Agree Any (object_with said i (renumbered m s) (renumbered m t) type o) (object_with said i s t type o)
object_with_agree m said i s t type o =
    let at = i.declarator.name.at in
    agree_also Any (redeclared_faults s i.declarator.name o)
    (if_fits (object_allowed true at type) (λ allowed.
    stored {A = List tree.Function} o.entity allowed []
    (contents_for (renumbered m t) allowed (without_value said) i.initialiser)))
    (if_fits (object_allowed true at type) (λ allowed.
    stored {A = List tree.Function} o.entity allowed [] (contents_for t allowed (without_value said) i.initialiser)))
    (agree_if_fits Same Any (object_allowed true at type) (object_allowed true at type)
    (λ allowed. stored {A = List tree.Function} o.entity allowed []
    (contents_for (renumbered m t) allowed (without_value said) i.initialiser))
    (λ allowed. stored {A = List tree.Function} o.entity allowed []
    (contents_for t allowed (without_value said) i.initialiser)) (same_itself (object_allowed true at type))
    (λ a b e. subst (λ z. Agree {A = List tree.Function} {B = List tree.Function} Any
    (stored o.entity a [] (contents_for (renumbered m t) a (without_value said) i.initialiser))
    (stored o.entity z [] (contents_for t z (without_value said) i.initialiser))) e
    (stored_agree o.entity a [] [] (contents_for (renumbered m t) a (without_value said) i.initialiser)
    (contents_for t a (without_value said) i.initialiser)
    (contents_agree m t a (without_value said) i.initialiser))))

sized_agree : (m : Numbers) (said : Specified) (i : ItemTree) (s : Scope)
    → Agree Any (sized_object said i (renumbered m s)) (sized_object said i s)
sized_agree m said i s =
    let name = i.declarator.name in
    let whole = is_some i.initialiser in
    agree_if_fits Same Any (object_declared (renumbered m s) said i.declarator i.initialiser)
    (object_declared s said i.declarator i.initialiser)
    (λ type. object_with said i (renumbered m s) (after_object said i (renumbered m s)) type
    (outer_of (renumbered m s) said name whole type))
    (λ type. object_with said i s (after_object said i s) type (outer_of s said name whole type))
    (declared_agree m s said i.declarator i.initialiser)
    (λ a b e. subst (λ z. Agree Any (object_with said i (renumbered m s) (after_object said i (renumbered m s)) a
    (outer_of (renumbered m s) said name whole a))
    (object_with said i s (after_object said i s) z (outer_of s said name whole z))) e
    (subst (λ o. Agree Any (object_with said i (renumbered m s) (after_object said i (renumbered m s)) a o)
    (object_with said i s (after_object said i s) a (outer_of s said name whole a)))
    (sym (outer_same m s said name whole a))
    (subst (λ t. Agree Any (object_with said i (renumbered m s) t a (outer_of s said name whole a))
    (object_with said i s (after_object said i s) a (outer_of s said name whole a)))
    (sym (after_object_same m said i s))
    (object_with_agree m said i s (after_object said i s) a (outer_of s said name whole a)))))

object_agree : (m : Numbers) (said : Specified) (i : ItemTree) (s : Scope)
    → Agree Any (typed_object said i (renumbered m s)) (typed_object said i s)
object_agree m said i s =
    agree_also Any (type_faults true said i.declarator) (sized_object said i (renumbered m s)) (sized_object said i s)
    (sized_agree m said i s)

prototype_agree : (m : Numbers) (said : Specified) (i : ItemTree) (ps : List ParameterTree) (s : Scope)
    → Agree Any (typed_prototype said i ps (renumbered m s)) (typed_prototype said i ps s)
prototype_agree m said i ps s =
    let d = i.declarator in
    let none : List tree.Function = [] in
    agree_if_fits Same Any (function_signature (renumbered m s) said d false ps) (function_signature s said d false ps)
    (λ g. function_initialiser (after_function said d false ps (renumbered m s)) i.initialiser none)
    (λ g. function_initialiser (after_function said d false ps s) i.initialiser none)
    (signature_agree m s said d false ps)
    (λ a b e. subst (λ t. Agree Any (function_initialiser t i.initialiser none)
    (function_initialiser (after_function said d false ps s) i.initialiser none))
    (sym (after_function_same m said d false ps s))
    (function_agree m (after_function said d false ps s) i.initialiser none))

after_outer_item_same : (m : Numbers) (said : Specified) (i : ItemTree) (p : PartTree) (s : Scope)
    → after_outer_item said i p (renumbered m s) ≡ renumbered m (after_outer_item said i p s)
after_outer_item_same m said i trees.Plain s = after_object_same m said i s
after_outer_item_same m said i (trees.Array a) s = after_object_same m said i s
after_outer_item_same m said i (trees.Function ps) s =
    after_function_same m said i.declarator false ps.parameters s

outer_item_agree : (m : Numbers) (said : Specified) (i : ItemTree) (p : PartTree) (s : Scope)
    → Agree Any (typed_outer_item said i p (renumbered m s)) (typed_outer_item said i p s)
outer_item_agree m said i trees.Plain s = object_agree m said i s
outer_item_agree m said i (trees.Array a) s = object_agree m said i s
outer_item_agree m said i (trees.Function ps) s = prototype_agree m said i ps.parameters s

after_outer_items_same : (m : Numbers) (said : Specified) (is : List ItemTree) (s : Scope)
    → after_outer_items said is (renumbered m s) ≡ renumbered m (after_outer_items said is s)
after_outer_items_same m said [] s = refl
after_outer_items_same m said (i ∷ is) s =
    ap (after_outer_items said is) (after_outer_item_same m said i i.declarator.part s)
    ∙ after_outer_items_same m said is (after_outer_item said i i.declarator.part s)

-- two lists of functions, one after the other
appended_agree : (c d x y : Checked (List tree.Function)) → Agree Any c d → Agree Any x y
    → Agree Any (both c x (λ fs gs. fits (fs ++ gs))) (both d y (λ fs gs. fits (fs ++ gs)))
appended_agree c d x y h k =
    agree_both Any Any Any c d x y (λ fs gs. fits (fs ++ gs)) (λ fs gs. fits (fs ++ gs)) h k (λ a b u v r l. (tt, refl))

outer_items_agree : (m : Numbers) (said : Specified) (is : List ItemTree) (s : Scope)
    → Agree Any (typed_outer_items said is (renumbered m s)) (typed_outer_items said is s)
outer_items_agree m said [] s = (tt, refl)
outer_items_agree m said (i ∷ is) s =
    let p = i.declarator.part in
    appended_agree (typed_outer_item said i p (renumbered m s)) (typed_outer_item said i p s)
    (typed_outer_items said is (after_outer_item said i p (renumbered m s)))
    (typed_outer_items said is (after_outer_item said i p s)) (outer_item_agree m said i p s)
    (subst (λ t. Agree Any (typed_outer_items said is t) (typed_outer_items said is (after_outer_item said i p s)))
    (sym (after_outer_item_same m said i p s)) (outer_items_agree m said is (after_outer_item said i p s)))

-- ---- definitions of functions

at_body_same : (m : Numbers) (ps : List ParameterTree) (s : Scope)
    → at_body ps (renumbered m s) ≡ renumbered m (at_body ps s)
at_body_same m ps s =
    with_parameters_same m (record (entered s) { locals = []; arrays = [] }) (parameters_meant ps)

-- where the body of a definition begins
abbrev body_scope : Specified → DeclaratorTree → Scope → Scope
body_scope said d s = at_body (parameters_in d.part) (after_function said d true (parameters_in d.part) s)

body_scope_same : (m : Numbers) (said : Specified) (d : DeclaratorTree) (s : Scope)
    → body_scope said d (renumbered m s) ≡ renumbered m (body_scope said d s)
body_scope_same m said d s =
    ap (at_body (parameters_in d.part)) (after_function_same m said d true (parameters_in d.part) s)
    ∙ at_body_same m (parameters_in d.part) (after_function said d true (parameters_in d.part) s)

abbrev defined_as : tree.Function → Declared → Entity → Checked (List tree.Function)
defined_as f type e = Fits (f ∷ []) (Defines e type ∷ [])

defined_agree : (m : Numbers) (said : Specified) (name : Identifier) (s : Scope) (g : Signature) (f h : tree.Function)
    → Agree Any (defined said name (renumbered m s) g f) (defined said name s g h)
defined_agree m said name s g f h =
    let type = DeclaredFunction (Some g.result) g.parameters in
    (tt, ap (λ e. Defines e type ∷ []) (linked_same m s said.storage type name.name))

-- a definition whose body begins in a scope
abbrev definition_with : Specified → DeclaratorTree → Stmt → Scope → Scope → Signature → Checked (List tree.Function)
definition_with said d body s first g =
    if_fits (typed_statements (in_function g.result) (body_of body) first) (λ statements.
    defined said d.name s g (function_with d.name g first (after_statements (body_of body) first) statements))

definition_with_agree : (m : Numbers) (said : Specified) (d : DeclaratorTree) (body : Stmt) (s first : Scope)
    (g : Signature)
    → Agree Any (definition_with said d body (renumbered m s) (renumbered m first) g)
    (definition_with said d body s first g)
definition_with_agree m said d body s first g =
    agree_if_fits Any Any (typed_statements (in_function g.result) (body_of body) (renumbered m first))
    (typed_statements (in_function g.result) (body_of body) first)
    (λ statements. defined said d.name (renumbered m s) g
    (function_with d.name g (renumbered m first) (after_statements (body_of body) (renumbered m first)) statements))
    (λ statements. defined said d.name s g
    (function_with d.name g first (after_statements (body_of body) first) statements))
    (statements_agree m (in_function g.result) (body_of body) first)
    (λ a b r. defined_agree m said d.name s g
    (function_with d.name g (renumbered m first) (after_statements (body_of body) (renumbered m first)) a)
    (function_with d.name g first (after_statements (body_of body) first) b))

definition_agree : (m : Numbers) (said : Specified) (d : DeclaratorTree) (body : Stmt) (s : Scope)
    → Agree Any (typed_definition said d body (renumbered m s)) (typed_definition said d body s)
definition_agree m said d body s =
    let ps = parameters_in d.part in
    agree_if_fits Same Any (function_signature (renumbered m s) said d true ps) (function_signature s said d true ps)
    (definition_with said d body (renumbered m s) (body_scope said d (renumbered m s)))
    (definition_with said d body s (body_scope said d s)) (signature_agree m s said d true ps)
    (λ a b e. subst (λ t. Agree Any (definition_with said d body (renumbered m s) t a)
    (definition_with said d body s (body_scope said d s) b)) (sym (body_scope_same m said d s))
    (subst (λ z. Agree Any (definition_with said d body (renumbered m s) (renumbered m (body_scope said d s)) a)
    (definition_with said d body s (body_scope said d s) z)) e
    (definition_with_agree m said d body s (body_scope said d s) a)))

after_definition_same : (m : Numbers) (said : Specified) (d : DeclaratorTree) (body : Stmt) (s : Scope)
    → after_definition said d body (renumbered m s) ≡ renumbered m (after_definition said d body s)
after_definition_same m said d body s =
    let outside = after_function said d true (parameters_in d.part) s in
    ap (λ t. left t (after_statements (body_of body) (at_body (parameters_in d.part) t)))
    (after_function_same m said d true (parameters_in d.part) s)
    ∙ ap (λ t. left (renumbered m outside) (after_statements (body_of body) t))
    (at_body_same m (parameters_in d.part) outside)
    ∙ ap (left (renumbered m outside))
    (after_statements_same m (body_of body) (at_body (parameters_in d.part) outside))

-- ---- files

after_said_same : (m : Numbers) (o : Option Specified) (e : ExternalTree) (s : Scope)
    → after_said o e (renumbered m s) ≡ renumbered m (after_said o e s)
after_said_same m None e s = refl
after_said_same m (Some said) (FunctionTree specifiers d body) s = after_definition_same m said d body s
after_said_same m (Some said) (DeclaredTree d) s = after_outer_items_same m said d.items s

after_external_same : (m : Numbers) (e : ExternalTree) (s : Scope)
    → after_external e (renumbered m s) ≡ renumbered m (after_external e s)
after_external_same m (FunctionTree specifiers d body) s =
    after_said_same m (specified Outside specifiers) (FunctionTree specifiers d body) s
after_external_same m (DeclaredTree d) s = after_said_same m (specified Outside d.specifiers) (DeclaredTree d) s

external_agree : (m : Numbers) (e : ExternalTree) (s : Scope)
    → Agree Any (typed_external e (renumbered m s)) (typed_external e s)
external_agree m (FunctionTree specifiers d body) s =
    agree_if_fits Same Any (specifiers_at Outside specifiers) (specifiers_at Outside specifiers)
    (λ said. typed_definition said d body (renumbered m s)) (λ said. typed_definition said d body s)
    (same_itself (specifiers_at Outside specifiers))
    (λ a b h. subst (λ z. Agree Any (typed_definition a d body (renumbered m s)) (typed_definition z d body s)) h
    (definition_agree m a d body s))
external_agree m (DeclaredTree d) s =
    agree_if_fits Same Any (specifiers_at Outside d.specifiers) (specifiers_at Outside d.specifiers)
    (λ said. typed_outer_items said d.items (renumbered m s)) (λ said. typed_outer_items said d.items s)
    (same_itself (specifiers_at Outside d.specifiers))
    (λ a b h. subst (λ z. Agree Any (typed_outer_items a d.items (renumbered m s)) (typed_outer_items z d.items s)) h
    (outer_items_agree m a d.items s))

after_unit_same : (m : Numbers) (es : List ExternalTree) (s : Scope)
    → after_unit es (renumbered m s) ≡ renumbered m (after_unit es s)
after_unit_same m [] s = refl
after_unit_same m (e ∷ es) s = ap (after_unit es) (after_external_same m e s)
    ∙ after_unit_same m es (after_external e s)

unit_agree : (m : Numbers) (es : List ExternalTree) (s : Scope)
    → Agree Any (typed_unit es (renumbered m s)) (typed_unit es s)
unit_agree m [] s = (tt, refl)
unit_agree m (e ∷ es) s =
    appended_agree (typed_external e (renumbered m s)) (typed_external e s)
    (typed_unit es (after_external e (renumbered m s))) (typed_unit es (after_external e s)) (external_agree m e s)
    (subst (λ t. Agree Any (typed_unit es t) (typed_unit es (after_external e s))) (sym (after_external_same m e s))
    (unit_agree m es (after_external e s)))

pub units_agree : (m : Numbers) (us : List (List ExternalTree)) (s : Scope)
    → Agree Any (typed_units us (renumbered m s)) (typed_units us s)
units_agree m [] s = (tt, refl)
units_agree m (u ∷ us) s =
    appended_agree (typed_unit u (renumbered m s)) (typed_unit u s)
    (typed_units us (next_file (after_unit u (renumbered m s)))) (typed_units us (next_file (after_unit u s)))
    (unit_agree m u s)
    (subst (λ t. Agree Any (typed_units us (next_file t)) (typed_units us (next_file (after_unit u s))))
    (sym (after_unit_same m u s)) (units_agree m us (next_file (after_unit u s))))

-- which numbers things have changes no fault and no note
pub numbers_change_nothing : NumbersChangeNothing
numbers_change_nothing m n units =
    let h = units_agree m units (first_scope n) in
    (faults_agree Any (judged m units) (judged n units) h, notes_agree Any (judged m units) (judged n units) h)
