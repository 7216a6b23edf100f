-- Functions, declarations outside functions, and files (C99 6.9).
use Rattle.std.specs.Prelude.{List, [], ◌∷◌, ◌++◌, length, codes, Bool, true, false, ◌&&◌, Option, Some, None, is_some}
use Rattle.std.specs.Prelude.{if◌then◌else◌}
use Rattle.pcc_base.specs.declared.span.Span.{Span}
use Rattle.pcc_base.specs.declared.fault.Fault.{Fault}
use Rattle.pcc_base.specs.declared.fault.FaultKind.TheVariants.{Redeclared, TypeRule, PointerUse}
use Rattle.c_syntax.specs.declared.expression.Identifier.{Identifier}
use Rattle.c_syntax.specs.Declarations as trees
use Rattle.c_syntax.specs.Declarations.{ItemTree, DeclarationTree, DeclaratorTree, ParameterTree, PartTree}
use Rattle.c_syntax.specs.Statements.{Stmt, Block, Stmts, NoStmt, OneStmt, ExternalTree, FunctionTree, DeclaredTree}
use Rattle.c_tree.specs.declared.types.ValueType.{ValueType}
use Rattle.c_tree.specs.declared.types.ValueType.TheVariants.{Void, Integer, Pointer}
use Rattle.c_tree.specs.Program as tree
use Rattle.c_typing.specs.Faults.{fault}
use Rattle.c_typing.specs.Library.{Entity, Library, Shared, OfFile, At, same_name}
use Rattle.c_typing.specs.Types.{Outside, Specified, specified, is_static, is_extern, pointed, Declared}
use Rattle.c_typing.specs.Types.{DeclaredFunction}
use Rattle.c_typing.specs.Checked.{Contents, Elsewhere, Zeros, Checked, Fits, fits, fails, also, if_fits, both}
use Rattle.c_typing.specs.Checked.{faults_in, value_in, Defines}
use Rattle.c_typing.specs.Declarators.{ObjectType, object_declared, object_allowed, with_parameters, parameters_meant}
use Rattle.c_typing.specs.Declarators.{type_faults, typed_parameters}
use Rattle.c_typing.specs.Expressions.{specifiers_at}
use Rattle.c_typing.specs.Initialisers.{contents_for, function_initialiser}
use Rattle.c_typing.specs.Names.{Function, Signature, Outer, Scope, entered, left, bound, linked, is_redeclared}
use Rattle.c_typing.specs.Names.{next_file}
use Rattle.c_typing.specs.Statements.{bound_object, stored, typed_statements, after_statements, Around}

-- ---- what is declared outside functions

-- the declaration of a name with a type
abbrev pub outer_of : Scope → Specified → Identifier → Bool → Declared → Outer
outer_of s said name whole type =
    record { entity = linked s said.storage type name.name; type = type; whole = whole }

abbrev pub redeclared_faults : Scope → Identifier → Outer → List Fault
redeclared_faults s name o = if is_redeclared s name.name o then fault Redeclared name.at ∷ [] else []

abbrev pub with_outer : Outer → Scope → Scope
with_outer o s = record s { outer = o ∷ s.outer }

-- ---- functions (C99 6.7.5.3 and 6.9.1)

-- a function's result is void or an integer
abbrev pub result_allowed : Span → Option ValueType → Checked ValueType
result_allowed at None = fails PointerUse at
result_allowed at (Some Void) = fits Void
result_allowed at (Some (Integer t)) = fits (Integer t)
result_allowed at (Some (Pointer t)) = fails PointerUse at

abbrev pub is_library : Entity → Bool
is_library (Library f) = true
is_library (Shared name) = false
is_library (OfFile file name) = false
is_library (At place) = false

-- the library's functions can't be defined
abbrev pub library_faults : Identifier → Outer → List Fault
library_faults name o = if is_library o.entity && o.whole then fault TypeRule name.at ∷ [] else []

-- a function named `main` isn't static
abbrev pub main_faults : Specified → Identifier → List Fault
main_faults said name =
    if same_name name.name (codes "main") && is_static said.storage then fault TypeRule name.at ∷ [] else []

-- what the specifiers and the `*` of a function's declarator forbid, at the declared name, whatever its parameters are
abbrev pub result_faults : Specified → DeclaratorTree → List Fault
result_faults said d =
    main_faults said d.name ++ faults_in (result_allowed d.name.at (pointed said.base d.pointer))

abbrev pub signature_of : Span → Option ValueType → List ValueType → Checked Signature
signature_of at result parameters =
    if_fits (result_allowed at result) (λ t. fits (record { result = t; parameters = parameters }))

abbrev pub function_declared : Scope → Specified → Identifier → Bool → Option ValueType → List ValueType
    → Checked Signature
function_declared s said name whole result parameters =
    let o = outer_of s said name whole (DeclaredFunction result parameters) in
    also (redeclared_faults s name o ++ library_faults name o) (signature_of name.at result parameters)

-- the signature that a declarator with parameters gives, of a definition or not
abbrev pub function_signature : Scope → Specified → DeclaratorTree → Bool → List ParameterTree → Checked Signature
function_signature s said d whole parameters =
    also (result_faults said d) (if_fits (typed_parameters (entered s) whole parameters)
    (function_declared s said d.name whole (pointed said.base d.pointer)))

abbrev pub bound_function : Specified → Identifier → Bool → Option Signature → Scope → Scope
bound_function said name whole None s = s
bound_function said name whole (Some g) s =
    let o = outer_of s said name whole (DeclaredFunction (Some g.result) g.parameters) in
    bound name.name (Function o.entity g) (with_outer o s)

abbrev pub after_function : Specified → DeclaratorTree → Bool → List ParameterTree → Scope → Scope
after_function said d whole parameters s =
    bound_function said d.name whole (value_in (function_signature s said d whole parameters)) s

-- ---- items of a declaration outside functions

-- what an object holds where nothing initialises it: an `extern` one is defined elsewhere, another one is zero
abbrev pub without_value : Specified → Contents
without_value said = if is_extern said.storage then Elsewhere else Zeros

abbrev pub bound_allowed : Identifier → Outer → Option ObjectType → Scope → Scope
bound_allowed name o None s = s
bound_allowed name o (Some type) s = bound_object name o.entity type s

abbrev pub bound_outer : Specified → Identifier → Bool → Option Declared → Scope → Scope
bound_outer said name whole None s = s
bound_outer said name whole (Some type) s =
    let o = outer_of s said name whole type in
    bound_allowed name o (value_in (object_allowed true name.at type)) (with_outer o s)

abbrev pub after_object : Specified → ItemTree → Scope → Scope
after_object said i s = bound_outer said i.declarator.name (is_some i.initialiser)
    (value_in (object_declared s said i.declarator i.initialiser)) s

-- an object, but for what its specifiers and `*` forbid whatever its size is
abbrev pub sized_object : Specified → ItemTree → Scope → Checked (List tree.Function)
sized_object said i s =
    let name = i.declarator.name in
    if_fits (object_declared s said i.declarator i.initialiser) (λ type.
    let o = outer_of s said name (is_some i.initialiser) type in
    also (redeclared_faults s name o) (if_fits (object_allowed true name.at type) (λ allowed.
    stored o.entity allowed [] (contents_for (after_object said i s) allowed (without_value said) i.initialiser))))

abbrev pub typed_object : Specified → ItemTree → Scope → Checked (List tree.Function)
typed_object said i s = also (type_faults true said i.declarator) (sized_object said i s)

abbrev pub typed_prototype : Specified → ItemTree → List ParameterTree → Scope → Checked (List tree.Function)
typed_prototype said i parameters s =
    if_fits (function_signature s said i.declarator false parameters) (λ g.
    function_initialiser (after_function said i.declarator false parameters s) i.initialiser [])

abbrev pub after_outer_item : Specified → ItemTree → PartTree → Scope → Scope
after_outer_item said i trees.Plain s = after_object said i s
after_outer_item said i (trees.Array a) s = after_object said i s
after_outer_item said i (trees.Function ps) s = after_function said i.declarator false ps.parameters s

-- objects and prototypes; no function is defined
abbrev pub typed_outer_item : Specified → ItemTree → PartTree → Scope → Checked (List tree.Function)
typed_outer_item said i trees.Plain s = typed_object said i s
typed_outer_item said i (trees.Array a) s = typed_object said i s
typed_outer_item said i (trees.Function ps) s = typed_prototype said i ps.parameters s

abbrev pub after_outer_items : Specified → List ItemTree → Scope → Scope
after_outer_items said [] s = s
after_outer_items said (i ∷ is) s =
    after_outer_items said is (after_outer_item said i i.declarator.part s)

abbrev pub typed_outer_items : Specified → List ItemTree → Scope → Checked (List tree.Function)
typed_outer_items said [] s = fits []
typed_outer_items said (i ∷ is) s =
    both (typed_outer_item said i i.declarator.part s)
    (typed_outer_items said is (after_outer_item said i i.declarator.part s)) (λ fs gs. fits (fs ++ gs))

-- ---- definitions of functions

abbrev pub parameters_in : PartTree → List ParameterTree
parameters_in trees.Plain = []
parameters_in (trees.Array a) = []
parameters_in (trees.Function ps) = ps.parameters

-- the parts of a body, which is a block
abbrev pub body_of : Stmt → Stmts
body_of (Block o items c) = items
body_of st = OneStmt st NoStmt

-- Where a body begins: the parameters and its outermost block are one scope (C99 6.2.1p4).
abbrev pub at_body : List ParameterTree → Scope → Scope
at_body parameters s = with_parameters (record (entered s) { locals = []; arrays = [] }) (parameters_meant parameters)

abbrev pub function_with : Identifier → Signature → Scope → Scope → tree.Statements → tree.Function
function_with name g first last body = record {
  name = name.name;
  result = g.result;
  parameters = length first.locals;
  locals = last.locals;
  arrays = last.arrays;
  body = body;
}

-- a function is defined; the numbers go on behind it
abbrev pub defined : Specified → Identifier → Scope → Signature → tree.Function → Checked (List tree.Function)
defined said name s g f =
    let type = DeclaredFunction (Some g.result) g.parameters in
    Fits (f ∷ []) (Defines (linked s said.storage type name.name) type ∷ [])

abbrev pub in_function : ValueType → Around
in_function result = record { result = result; breaks = false; continues = false }

abbrev pub typed_definition : Specified → DeclaratorTree → Stmt → Scope → Checked (List tree.Function)
typed_definition said d body s =
    let parameters = parameters_in d.part in
    let first = at_body parameters (after_function said d true parameters s) in
    if_fits (function_signature s said d true parameters) (λ g.
    if_fits (typed_statements (in_function g.result) (body_of body) first) (λ statements.
    defined said d.name s g (function_with d.name g first (after_statements (body_of body) first) statements)))

abbrev pub after_definition : Specified → DeclaratorTree → Stmt → Scope → Scope
after_definition said d body s =
    let outside = after_function said d true (parameters_in d.part) s in
    left outside (after_statements (body_of body) (at_body (parameters_in d.part) outside))

-- ---- files

abbrev pub after_said : Option Specified → ExternalTree → Scope → Scope
after_said None e s = s
after_said (Some said) (FunctionTree specifiers d body) s = after_definition said d body s
after_said (Some said) (DeclaredTree d) s = after_outer_items said d.items s

abbrev pub after_external : ExternalTree → Scope → Scope
after_external (FunctionTree specifiers d body) s =
    after_said (specified Outside specifiers) (FunctionTree specifiers d body) s
after_external (DeclaredTree d) s = after_said (specified Outside d.specifiers) (DeclaredTree d) s

-- the functions that are defined
abbrev pub typed_external : ExternalTree → Scope → Checked (List tree.Function)
typed_external (FunctionTree specifiers d body) s =
    if_fits (specifiers_at Outside specifiers) (λ said. typed_definition said d body s)
typed_external (DeclaredTree d) s =
    if_fits (specifiers_at Outside d.specifiers) (λ said. typed_outer_items said d.items s)

abbrev pub after_unit : List ExternalTree → Scope → Scope
after_unit [] s = s
after_unit (e ∷ es) s = after_unit es (after_external e s)

abbrev pub typed_unit : List ExternalTree → Scope → Checked (List tree.Function)
typed_unit [] s = fits []
typed_unit (e ∷ es) s = both (typed_external e s) (typed_unit es (after_external e s)) (λ fs gs. fits (fs ++ gs))

-- all files, in order
abbrev pub typed_units : List (List ExternalTree) → Scope → Checked (List tree.Function)
typed_units [] s = fits []
typed_units (u ∷ us) s =
    both (typed_unit u s) (typed_units us (next_file (after_unit u s))) (λ fs gs. fits (fs ++ gs))
