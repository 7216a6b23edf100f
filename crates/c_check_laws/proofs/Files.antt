-- The functions of files have the names of their definitions, and none has more arrays than tokens.
use Rattle.std.proofs.Common.{arith, ◌≡◌, refl, sym, ap, subst, ◌∙◌, ℕ, true, false, List, [], ◌∷◌, ◌++◌, map}
use Rattle.std.specs.Prelude.{Option, Some, None, is_some, unwrap_or, filter_map}
use Rattle.pcc_base.specs.declared.span.Span.{Span}
use Rattle.c_syntax.specs.declared.expression.Identifier.{Identifier}
use Rattle.c_syntax.specs.declared.expression.Specifier.{Specifier}
use Rattle.pcc_base.specs.declared.fault.FaultKind.TheVariants.{TypeRule}
use Rattle.c_syntax.specs.Declarations as trees
use Rattle.c_syntax.specs.Declarations.{ItemTree, DeclaratorTree, ParameterTree, PartTree}
use Rattle.c_syntax.specs.Statements.{Stmt, ExternalTree, FunctionTree, DeclaredTree}
use Rattle.c_tree.specs.Program as tree
use Rattle.c_tree.specs.Program.{Program}
use Rattle.c_typing.specs.Types.{Outside, Specified, specified}
use Rattle.c_typing.specs.Checked.{Checked, Fits, Fails, Contents, Note, fits, also, both, if_fits, or_fails, value_in}
use Rattle.c_typing.specs.Declarators.{ObjectType, object_declared}
use Rattle.c_typing.specs.Declarators.{object_allowed, with_named, with_parameter, with_parameters, parameters_meant}
use Rattle.c_typing.specs.Declarators.{typed_parameter}
use Rattle.c_typing.specs.Declarators.{type_faults}
use Rattle.c_typing.specs.Expressions.{first_word}
use Rattle.c_typing.specs.Initialisers.{contents_for}
use Rattle.c_typing.specs.Initialisers.{function_initialiser}
use Rattle.c_typing.specs.Library.{Entity}
use Rattle.c_typing.specs.Names.{Scope, entered, next_file, first_scope, Numbers}
use Rattle.c_typing.specs.Statements.{stored, typed_statements, after_statements}
use Rattle.c_typing.specs.Files.{outer_of, redeclared_faults, function_signature}
use Rattle.c_typing.specs.Files.{after_function, without_value}
use Rattle.c_typing.specs.Files.{after_object}
use Rattle.c_typing.specs.Files.{typed_object, typed_prototype, after_outer_item, typed_outer_item}
use Rattle.c_typing.specs.Files.{typed_outer_items, parameters_in, body_of, at_body, function_with, defined}
use Rattle.c_typing.specs.Files.{in_function}
use Rattle.c_typing.specs.Files.{typed_definition, after_external, typed_external}
use Rattle.c_typing.specs.Files.{after_unit, typed_unit, typed_units}
use Rattle.c_typing.specs.Files.{sized_object}
use Rattle.c_typing.specs.Typed.{Typed, checked, numbers_in, notes_of, program_with}
use Rattle.std.proofs.Common.{◌≤◌, length}
use Rattle.std.specs.List.{AllByRecursion, cons_option}
use Rattle.std.proofs.lemmas.List.{map-append}
use Rattle.std.proofs.lemmas.List.Elements.{All-from_recursion}
use Rattle.std.proofs.lemmas.Option.{none-some}
use Rattle.pcc_base.proofs.Lists.{all-append}
use Rattle.c_tree.specs.Sizes.{function_size}
use Rattle.c_typing.proofs.CountUp.{Always, IfFits, always, holds_also, holds_both, holds_if, holds_noted}
use Rattle.c_typing.proofs.FilesCountUp.{by_initialiser}
use Rattle.c_check_laws.specs.DeclaresLaws.{ArraysAreDeclared, FunctionsAreNamed}
use Rattle.c_check_laws.specs.Names.{defined_name, defined_names}
use Rattle.c_check_laws.proofs.Declaring.{RowFrom, many, statements_from}

abbrev FewArrays : tree.Function → Type 0
FewArrays f = length f.arrays ≤ function_size f

abbrev names_of : List tree.Function → List (List ℕ)
names_of fs = map (λ (f : tree.Function). f.name) fs

-- these functions, each of which has no more arrays than tokens, are those of these names
record Are (names : List (List ℕ)) (fs : List tree.Function) : Type 0 where
  few : AllByRecursion FewArrays fs
  named : names_of fs ≡ names

are_none : Are [] []
are_none = record { few = tt; named = refl }

are_on : (ms ns : List (List ℕ)) (fs gs : List tree.Function) → Are ms fs → Are ns gs → Are (ms ++ ns) (fs ++ gs)
are_on ms ns fs gs h g = record {
  few = all-append FewArrays fs gs h.few g.few;
  named = map-append (λ (f : tree.Function). f.name) fs gs ∙ ap (λ xs. xs ++ names_of gs) h.named
      ∙ ap (λ ys. ms ++ ys) g.named;
}

-- ---- what comes with no array

named_many : (s : Scope) (o : Option Identifier) (t : Option _) → many (with_named s o t) ≡ many s
named_many s None None = refl
named_many s None (Some t) = refl
named_many s (Some name) None = refl
named_many s (Some name) (Some t) = refl

parameters_many : (s : Scope) (ps : List ParameterTree) → many (with_parameters s ps) ≡ many s
parameters_many s [] = refl
parameters_many s (p ∷ ps) =
    parameters_many (with_parameter s p) ps ∙ named_many s p.name (value_in (typed_parameter s false p))

-- ---- what defines no function

abbrev pub IsNone : List tree.Function → Type 0
IsNone fs = fs ≡ []

stored_none : (e : Entity) (type : ObjectType) (c : Checked Contents) → IfFits IsNone (stored e type [] c)
stored_none e type (Fits a ns) = refl
stored_none e type (Fails f fs) = tt

sized_none : (said : Specified) (i : ItemTree) (s : Scope) → IfFits IsNone (sized_object said i s)
sized_none said i s =
    let name = i.declarator.name in
    let whole = is_some i.initialiser in
    holds_if Always IsNone (object_declared s said i.declarator i.initialiser)
    (λ type. also (redeclared_faults s name (outer_of s said name whole type))
    (if_fits (object_allowed true name.at type) (λ allowed. stored (outer_of s said name whole type).entity allowed []
    (contents_for (after_object said i s) allowed (without_value said) i.initialiser))))
    (always (object_declared s said i.declarator i.initialiser)) (λ type x.
    holds_also IsNone (redeclared_faults s name (outer_of s said name whole type))
    (if_fits (object_allowed true name.at type) (λ allowed. stored (outer_of s said name whole type).entity allowed []
    (contents_for (after_object said i s) allowed (without_value said) i.initialiser)))
    (holds_if Always IsNone (object_allowed true name.at type) (λ allowed.
    stored (outer_of s said name whole type).entity allowed []
    (contents_for (after_object said i s) allowed (without_value said) i.initialiser))
    (always (object_allowed true name.at type)) (λ allowed y.
    stored_none (outer_of s said name whole type).entity allowed
    (contents_for (after_object said i s) allowed (without_value said) i.initialiser))))

object_none : (said : Specified) (i : ItemTree) (s : Scope) → IfFits IsNone (typed_object said i s)
object_none said i s =
    holds_also IsNone (type_faults true said i.declarator) (sized_object said i s) (sized_none said i s)

prototype_none : (said : Specified) (i : ItemTree) (ps : List ParameterTree) (s : Scope)
    → IfFits IsNone (typed_prototype said i ps s)
prototype_none said i ps s =
    let t = after_function said i.declarator false ps s in
    holds_if Always IsNone (function_signature s said i.declarator false ps)
    (λ g. function_initialiser t i.initialiser []) (always (function_signature s said i.declarator false ps))
    (λ g x. by_initialiser (IfFits IsNone) t i.initialiser [] refl (λ f fs. tt))

outer_item_none : (said : Specified) (i : ItemTree) (p : PartTree) (s : Scope)
    → IfFits IsNone (typed_outer_item said i p s)
outer_item_none said i trees.Plain s = object_none said i s
outer_item_none said i (trees.Array a) s = object_none said i s
outer_item_none said i (trees.Function ps) s = prototype_none said i ps.parameters s

-- a declaration outside functions defines no function
pub outer_items_none : (said : Specified) (is : List ItemTree) (s : Scope) → IfFits IsNone (typed_outer_items said is s)
outer_items_none said [] s = refl
outer_items_none said (i ∷ is) s =
    let t = after_outer_item said i i.declarator.part s in
    holds_both IsNone IsNone IsNone (typed_outer_item said i i.declarator.part s) (typed_outer_items said is t)
    (λ fs gs. fits (fs ++ gs)) (outer_item_none said i i.declarator.part s) (outer_items_none said is t)
    (λ fs gs x y. ap (λ zs. zs ++ gs) x ∙ y)

are_empty : (c : Checked (List tree.Function)) → IfFits IsNone c → IfFits (Are []) c
are_empty (Fits fs ns) e = subst (λ gs. Are [] gs) (sym e) are_none
are_empty (Fails f fs) e = tt

-- ---- definitions

definition_are : (said : Specified) (d : DeclaratorTree) (body : Stmt) (s : Scope)
    → IfFits (Are (d.name.name ∷ [])) (typed_definition said d body s)
definition_are said d body s =
    let ps = parameters_in d.part in
    let outside = after_function said d true ps s in
    let first = at_body ps outside in
    let m = many (after_statements (body_of body) first) in
    let none : many first ≡ 0 =
    parameters_many (record (entered outside) { locals = []; arrays = [] }) (parameters_meant ps) in
    holds_if Always (Are (d.name.name ∷ [])) (function_signature s said d true ps)
    (λ g. if_fits (typed_statements (in_function g.result) (body_of body) first) (λ statements.
    defined said d.name s g (function_with d.name g first (after_statements (body_of body) first) statements)))
    (always (function_signature s said d true ps)) (λ g x.
    holds_if (RowFrom (many first) m) (Are (d.name.name ∷ []))
    (typed_statements (in_function g.result) (body_of body) first) (λ statements.
    defined said d.name s g (function_with d.name g first (after_statements (body_of body) first) statements))
    (statements_from (in_function g.result) (body_of body) first)
    (λ sts h. record { few = (omega (arith, h, none), tt); named = refl }))

-- ---- files

said_are : (o : Option Specified) (at : Span) (specifiers : List Specifier) (d : DeclaratorTree) (body : Stmt)
    (s : Scope) → IfFits (Are (d.name.name ∷ [])) (if_fits (or_fails o TypeRule at)
    (λ said. typed_definition said d body s))
said_are None at specifiers d body s = tt
said_are (Some said) at specifiers d body s =
    holds_noted (Are (d.name.name ∷ [])) [] (typed_definition said d body s) (definition_are said d body s)

items_said_are : (o : Option Specified) (at : Span) (d : trees.DeclarationTree) (s : Scope)
    → IfFits (Are []) (if_fits (or_fails o TypeRule at) (λ said. typed_outer_items said d.items s))
items_said_are None at d s = tt
items_said_are (Some said) at d s =
    holds_noted (Are []) [] (typed_outer_items said d.items s)
    (are_empty (typed_outer_items said d.items s) (outer_items_none said d.items s))

abbrev named_by : ExternalTree → List (List ℕ)
named_by e = cons_option (defined_name e) []

named_first : (o : Option (List ℕ)) (ns : List (List ℕ)) → cons_option o [] ++ ns ≡ cons_option o ns
named_first None ns = refl
named_first (Some n) ns = refl

both_are : (ms ns : List (List ℕ)) (c d : Checked (List tree.Function)) → IfFits (Are ms) c → IfFits (Are ns) d
    → IfFits (Are (ms ++ ns)) (both c d (λ fs gs. fits (fs ++ gs)))
both_are ms ns c d h g =
    holds_both (Are ms) (Are ns) (Are (ms ++ ns)) c d (λ fs gs. fits (fs ++ gs)) h g
    (λ fs gs x y. are_on ms ns fs gs x y)

external_are : (e : ExternalTree) (s : Scope) → IfFits (Are (named_by e)) (typed_external e s)
external_are (FunctionTree specifiers d body) s =
    said_are (specified Outside specifiers) (first_word specifiers) specifiers d body s
external_are (DeclaredTree d) s = items_said_are (specified Outside d.specifiers) (first_word d.specifiers) d s

unit_are : (es : List ExternalTree) (s : Scope) → IfFits (Are (filter_map defined_name es)) (typed_unit es s)
unit_are [] s = are_none
unit_are (e ∷ es) s =
    let t = after_external e s in
    subst (λ ns. IfFits (Are ns) (typed_unit (e ∷ es) s)) (named_first (defined_name e) (filter_map defined_name es))
    (both_are (named_by e) (filter_map defined_name es) (typed_external e s) (typed_unit es t) (external_are e s)
    (unit_are es t))

units_are : (us : List (List ExternalTree)) (s : Scope) → IfFits (Are (defined_names us)) (typed_units us s)
units_are [] s = are_none
units_are (u ∷ us) s =
    let t = next_file (after_unit u s) in
    both_are (filter_map defined_name u) (defined_names us) (typed_unit u s) (typed_units us t) (unit_are u s)
    (units_are us t)

are_in : (names : List (List ℕ)) (c : Checked (List tree.Function)) (numbers : Numbers) (notes : List Note)
    (p : Program) → IfFits (Are names) c → program_with numbers notes (value_in c) ≡ Some p → Are names p.functions
are_in names (Fits fs ns) numbers notes p h e =
    subst (λ gs. Are names gs) (ap (λ o. (unwrap_or o p).functions) e) h
are_in names (Fails f fs) numbers notes p h e = absurd (none-some p e)

functions_are : (units : List (List ExternalTree)) (p : Program) → Typed units p
    → Are (defined_names units) p.functions
functions_are units p t =
    are_in (defined_names units) (checked units) (numbers_in units) (notes_of units) p
    (units_are units (first_scope (numbers_in units))) t.is

pub arrays_declared : ArraysAreDeclared
arrays_declared units p t = All-from_recursion FewArrays p.functions (functions_are units p t).few

pub functions_named : FunctionsAreNamed
functions_named units p t = (functions_are units p t).named
