-- The statements and declared items of files are numbered from 0, over all of them.
use Rattle.std.proofs.Common.{◌≡◌, refl, sym, ap, subst, ◌∙◌, ℕ, Bool, true, false, List, [], ◌∷◌, ◌++◌}
use Rattle.std.specs.Prelude.{Option, Some, None, is_some, unwrap_or}
use Rattle.std.proofs.lemmas.Option.{none-some}
use Rattle.pcc_base.specs.declared.span.Span.{Span}
use Rattle.pcc_base.specs.declared.fault.Fault.{Fault}
use Rattle.c_syntax.specs.declared.expression.Identifier.{Identifier}
use Rattle.c_syntax.specs.declared.expression.Specifier.{Specifier}
use Rattle.pcc_base.specs.declared.fault.FaultKind.TheVariants.{TypeRule}
use Rattle.c_syntax.specs.Declarations as trees
use Rattle.c_syntax.specs.Declarations.{ItemTree, DeclaratorTree, ParameterTree, PartTree, ValueTree}
use Rattle.c_syntax.specs.Statements.{Stmt, ExternalTree, FunctionTree, DeclaredTree}
use Rattle.c_tree.specs.Program as tree
use Rattle.c_tree.specs.Program.{Program}
use Rattle.c_tree.specs.WellTyped.{functions_numbers, statements_numbers}
use Rattle.c_typing.specs.Types.{Outside, Specified, specified, Declared}
use Rattle.c_typing.specs.Checked.{Checked, Fits, Fails, Contents, Note, fits, fails, also, both, if_fits, or_fails}
use Rattle.c_typing.specs.Checked.{value_in}
use Rattle.c_typing.specs.Declarators.{ObjectType, IntegerObject, PointerObject, ArrayObject, object_declared}
use Rattle.c_typing.specs.Declarators.{object_allowed, with_named, with_parameter, with_parameters, parameters_meant}
use Rattle.c_typing.specs.Declarators.{type_faults, typed_parameter}
use Rattle.c_typing.specs.Expressions.{arguments_for, first_word, given}
use Rattle.c_typing.specs.Initialisers.{contents_for, first_token_of, function_initialiser, scalar_values}
use Rattle.c_typing.specs.Faults.{fault}
use Rattle.c_typing.specs.Library.{Entity}
use Rattle.c_typing.specs.Names.{Scope, Signature, Outer, entered, next_file, first_scope, Numbers}
use Rattle.c_typing.specs.Statements.{stored, typed_statements, after_statements}
use Rattle.c_typing.specs.Files.{outer_of, redeclared_faults, with_outer, function_signature, bound_function}
use Rattle.c_typing.specs.Files.{after_function, sized_object, without_value, bound_allowed, bound_outer}
use Rattle.c_typing.specs.Files.{after_object}
use Rattle.c_typing.specs.Files.{typed_object, typed_prototype, after_outer_item, typed_outer_item, after_outer_items}
use Rattle.c_typing.specs.Files.{typed_outer_items, parameters_in, body_of, at_body, function_with, defined}
use Rattle.c_typing.specs.Files.{in_function}
use Rattle.c_typing.specs.Files.{typed_definition, after_definition, after_said, after_external, typed_external}
use Rattle.c_typing.specs.Files.{after_unit, typed_unit, typed_units}
use Rattle.c_typing.specs.Typed.{checked, numbers_in, notes_of, program_with}
use Rattle.c_typing.specs.Laws.{StatementsCountUp}
use Rattle.c_typing.proofs.CountUp.{From, from_on, from_split, range_of, IfFits, holds_if, holds_both, Always, always}
use Rattle.c_typing.proofs.CountUp.{holds_also}
use Rattle.c_typing.proofs.CountUp.{holds_noted, statements_from}

abbrev FilesFrom : ℕ → ℕ → List tree.Function → Type 0
FilesFrom n m fs = From n (functions_numbers fs) m

files_on : (n k m : ℕ) (fs gs : List tree.Function) → FilesFrom n k fs → FilesFrom k m gs → FilesFrom n m (fs ++ gs)
files_on n k m [] gs h g = subst (λ i. FilesFrom i m gs) (sym h) g
files_on n k m (f ∷ fs) gs h g =
    let r = from_split n k (statements_numbers f.body) (functions_numbers fs) h in
    from_on n r.0 m (statements_numbers f.body) (functions_numbers (fs ++ gs)) r.1 (files_on r.0 k m fs gs r.2 g)

-- ---- what takes no number

named_next : (s : Scope) (o : Option Identifier) (t : Option _) → (with_named s o t).next ≡ s.next
named_next s None None = refl
named_next s None (Some t) = refl
named_next s (Some name) None = refl
named_next s (Some name) (Some t) = refl

parameters_next : (s : Scope) (ps : List ParameterTree) → (with_parameters s ps).next ≡ s.next
parameters_next s [] = refl
parameters_next s (p ∷ ps) =
    parameters_next (with_parameter s p) ps ∙ named_next s p.name (value_in (typed_parameter s false p))

bound_function_next : (said : Specified) (name : Identifier) (whole : Bool) (o : Option Signature) (s : Scope)
    → (bound_function said name whole o s).next ≡ s.next
bound_function_next said name whole None s = refl
bound_function_next said name whole (Some g) s = refl

function_next : (said : Specified) (d : DeclaratorTree) (whole : Bool) (ps : List ParameterTree) (s : Scope)
    → (after_function said d whole ps s).next ≡ s.next
function_next said d whole ps s =
    bound_function_next said d.name whole (value_in (function_signature s said d whole ps)) s

allowed_next : (name : Identifier) (o : Outer) (type : Option ObjectType) (s : Scope)
    → (bound_allowed name o type s).next ≡ s.next
allowed_next name o None s = refl
allowed_next name o (Some (IntegerObject of)) s = refl
allowed_next name o (Some (PointerObject of)) s = refl
allowed_next name o (Some (ArrayObject element count)) s = refl

bound_outer_next : (said : Specified) (name : Identifier) (whole : Bool) (o : Option Declared) (s : Scope)
    → (bound_outer said name whole o s).next ≡ s.next
bound_outer_next said name whole None s = refl
bound_outer_next said name whole (Some type) s =
    allowed_next name (outer_of s said name whole type) (value_in (object_allowed true name.at type))
    (with_outer (outer_of s said name whole type) s)

object_next : (said : Specified) (i : ItemTree) (s : Scope) → (after_object said i s).next ≡ s.next
object_next said i s =
    bound_outer_next said i.declarator.name (is_some i.initialiser)
    (value_in (object_declared s said i.declarator i.initialiser)) s

outer_item_next : (said : Specified) (i : ItemTree) (p : PartTree) (s : Scope)
    → (after_outer_item said i p s).next ≡ s.next
outer_item_next said i trees.Plain s = object_next said i s
outer_item_next said i (trees.Array a) s = object_next said i s
outer_item_next said i (trees.Function ps) s = function_next said i.declarator false ps.parameters s

-- ---- what defines no function

stored_empty : (n : ℕ) (e : Entity) (type : ObjectType) (c : Checked Contents)
    → IfFits (FilesFrom n n) (stored e type [] c)
stored_empty n e type (Fits a ns) = refl
stored_empty n e type (Fails f fs) = tt

sized_empty : (n : ℕ) (said : Specified) (i : ItemTree) (s : Scope) → IfFits (FilesFrom n n) (sized_object said i s)
sized_empty n said i s =
    let name = i.declarator.name in
    let whole = is_some i.initialiser in
    holds_if Always (FilesFrom n n) (object_declared s said i.declarator i.initialiser)
    (λ type. also (redeclared_faults s name (outer_of s said name whole type))
    (if_fits (object_allowed true name.at type) (λ allowed. stored (outer_of s said name whole type).entity allowed []
    (contents_for (after_object said i s) allowed (without_value said) i.initialiser))))
    (always (object_declared s said i.declarator i.initialiser)) (λ type x.
    holds_also (FilesFrom n n) (redeclared_faults s name (outer_of s said name whole type))
    (if_fits (object_allowed true name.at type) (λ allowed. stored (outer_of s said name whole type).entity allowed []
    (contents_for (after_object said i s) allowed (without_value said) i.initialiser)))
    (holds_if Always (FilesFrom n n) (object_allowed true name.at type) (λ allowed.
    stored (outer_of s said name whole type).entity allowed []
    (contents_for (after_object said i s) allowed (without_value said) i.initialiser))
    (always (object_allowed true name.at type)) (λ allowed y.
    stored_empty n (outer_of s said name whole type).entity allowed
    (contents_for (after_object said i s) allowed (without_value said) i.initialiser))))

object_empty : (n : ℕ) (said : Specified) (i : ItemTree) (s : Scope) → IfFits (FilesFrom n n) (typed_object said i s)
object_empty n said i s =
    holds_also (FilesFrom n n) (type_faults true said i.declarator) (sized_object said i s) (sized_empty n said i s)

by_values : {A B : Type 0} (P : Checked B → Type 0) (at : Span) (c : Checked A)
    → ((f : Fault) (fs : List Fault) → P (Fails f fs)) → P (if_fits c (λ es. fails TypeRule at))
by_values P at (Fits es ns) h = h (fault TypeRule at) []
by_values P at (Fails f fs) h = h f fs

-- a prototype without an initialiser fits, and one with an initialiser fails
pub by_initialiser : {A : Type 0} (P : Checked A → Type 0) (s : Scope) (v : Option ValueTree) (value : A)
    → P (fits value) → ((f : Fault) (fs : List Fault) → P (Fails f fs)) → P (function_initialiser s v value)
by_initialiser P s None value h k = h
by_initialiser P s (Some v) value h k =
    by_values P (first_token_of v.value) (arguments_for [] (given s (scalar_values v.value))) k

prototype_empty : (n : ℕ) (said : Specified) (i : ItemTree) (ps : List ParameterTree) (s : Scope)
    → IfFits (FilesFrom n n) (typed_prototype said i ps s)
prototype_empty n said i ps s =
    let t = after_function said i.declarator false ps s in
    holds_if Always (FilesFrom n n) (function_signature s said i.declarator false ps)
    (λ g. function_initialiser t i.initialiser [])
    (always (function_signature s said i.declarator false ps))
    (λ g x. by_initialiser (IfFits (FilesFrom n n)) t i.initialiser [] refl (λ f fs. tt))

outer_item_from : (said : Specified) (i : ItemTree) (p : PartTree) (s : Scope)
    → IfFits (FilesFrom s.next (after_outer_item said i p s).next) (typed_outer_item said i p s)
outer_item_from said i trees.Plain s =
    subst (λ m. IfFits (FilesFrom s.next m) (typed_object said i s)) (sym (object_next said i s))
    (object_empty s.next said i s)
outer_item_from said i (trees.Array a) s =
    subst (λ m. IfFits (FilesFrom s.next m) (typed_object said i s)) (sym (object_next said i s))
    (object_empty s.next said i s)
outer_item_from said i (trees.Function ps) s =
    subst (λ m. IfFits (FilesFrom s.next m) (typed_prototype said i ps.parameters s))
    (sym (function_next said i.declarator false ps.parameters s)) (prototype_empty s.next said i ps.parameters s)

both_from : (n k m : ℕ) (c d : Checked (List tree.Function)) → IfFits (FilesFrom n k) c → IfFits (FilesFrom k m) d
    → IfFits (FilesFrom n m) (both c d (λ fs gs. fits (fs ++ gs)))
both_from n k m c d h g =
    holds_both (FilesFrom n k) (FilesFrom k m) (FilesFrom n m) c d (λ fs gs. fits (fs ++ gs)) h g
    (λ fs gs x y. files_on n k m fs gs x y)

outer_items_from : (said : Specified) (is : List ItemTree) (s : Scope)
    → IfFits (FilesFrom s.next (after_outer_items said is s).next) (typed_outer_items said is s)
outer_items_from said [] s = refl
outer_items_from said (i ∷ is) s =
    let t = after_outer_item said i i.declarator.part s in
    both_from s.next t.next (after_outer_items said is t).next (typed_outer_item said i i.declarator.part s)
    (typed_outer_items said is t) (outer_item_from said i i.declarator.part s) (outer_items_from said is t)

-- ---- definitions

definition_from : (said : Specified) (d : DeclaratorTree) (body : Stmt) (s : Scope)
    → IfFits (FilesFrom s.next (after_definition said d body s).next) (typed_definition said d body s)
definition_from said d body s =
    let ps = parameters_in d.part in
    let outside = after_function said d true ps s in
    let first = at_body ps outside in
    let m = (after_statements (body_of body) first).next in
    let begins : first.next ≡ s.next =
    parameters_next (record (entered outside) { locals = []; arrays = [] }) (parameters_meant ps)
    ∙ function_next said d true ps s in
    holds_if Always (FilesFrom s.next m) (function_signature s said d true ps)
    (λ g. if_fits (typed_statements (in_function g.result) (body_of body) first) (λ statements.
    defined said d.name s g (function_with d.name g first (after_statements (body_of body) first) statements)))
    (always (function_signature s said d true ps)) (λ g x.
    holds_if (λ sts. From first.next (statements_numbers sts) m) (FilesFrom s.next m)
    (typed_statements (in_function g.result) (body_of body) first) (λ statements.
    defined said d.name s g (function_with d.name g first (after_statements (body_of body) first) statements))
    (statements_from (in_function g.result) (body_of body) first) (λ sts h.
    from_on s.next m m (statements_numbers sts) []
    (subst (λ n. From n (statements_numbers sts) m) begins h) refl))

-- ---- files

said_from : (o : Option Specified) (at : Span) (specifiers : List Specifier) (d : DeclaratorTree) (body : Stmt)
    (s : Scope) → IfFits (FilesFrom s.next (after_said o (FunctionTree specifiers d body) s).next)
    (if_fits (or_fails o TypeRule at) (λ said. typed_definition said d body s))
said_from None at specifiers d body s = tt
said_from (Some said) at specifiers d body s =
    holds_noted (FilesFrom s.next (after_definition said d body s).next) [] (typed_definition said d body s)
    (definition_from said d body s)

items_said_from : (o : Option Specified) (at : Span) (d : trees.DeclarationTree) (s : Scope)
    → IfFits (FilesFrom s.next (after_said o (DeclaredTree d) s).next)
    (if_fits (or_fails o TypeRule at) (λ said. typed_outer_items said d.items s))
items_said_from None at d s = tt
items_said_from (Some said) at d s =
    holds_noted (FilesFrom s.next (after_outer_items said d.items s).next) [] (typed_outer_items said d.items s)
    (outer_items_from said d.items s)

external_from : (e : ExternalTree) (s : Scope)
    → IfFits (FilesFrom s.next (after_external e s).next) (typed_external e s)
external_from (FunctionTree specifiers d body) s =
    said_from (specified Outside specifiers) (first_word specifiers) specifiers d body s
external_from (DeclaredTree d) s = items_said_from (specified Outside d.specifiers) (first_word d.specifiers) d s

unit_from : (es : List ExternalTree) (s : Scope) → IfFits (FilesFrom s.next (after_unit es s).next) (typed_unit es s)
unit_from [] s = refl
unit_from (e ∷ es) s =
    let t = after_external e s in
    both_from s.next t.next (after_unit es t).next (typed_external e s) (typed_unit es t) (external_from e s)
    (unit_from es t)

-- the scope behind all files
abbrev after_units : List (List ExternalTree) → Scope → Scope
after_units [] s = s
after_units (u ∷ us) s = after_units us (next_file (after_unit u s))

units_from : (us : List (List ExternalTree)) (s : Scope)
    → IfFits (FilesFrom s.next (after_units us s).next) (typed_units us s)
units_from [] s = refl
units_from (u ∷ us) s =
    let t = next_file (after_unit u s) in
    both_from s.next t.next (after_units us t).next (typed_unit u s) (typed_units us t) (unit_from u s)
    (units_from us t)

counted : (n m : ℕ) (c : Checked (List tree.Function)) (numbers : Numbers) (notes : List Note) (p : Program)
    → IfFits (FilesFrom n m) c → program_with numbers notes (value_in c) ≡ Some p
    → From n (functions_numbers p.functions) m
counted n m (Fits fs ns) numbers notes p h e =
    subst (λ gs. From n (functions_numbers gs) m) (ap (λ o. (unwrap_or o p).functions) e) h
counted n m (Fails f fs) numbers notes p h e = absurd (none-some p e)

-- the statements of a typed program are numbered from 0
pub statements_count_up : StatementsCountUp
statements_count_up units p t =
    let first = first_scope (numbers_in units) in
    let m = (after_units units first).next in
    range_of 0 m (functions_numbers p.functions)
    (counted 0 m (checked units) (numbers_in units) (notes_of units) p (units_from units first) t.is)
