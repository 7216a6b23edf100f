-- The functions of files declare their locals first.
use Rattle.std.proofs.Common.{arith, ◌≡◌, refl, sym, ap, subst, ◌∙◌, inl, inr, ℕ, zero, suc, ◌+◌, ◌<◌, ◌≤◌, true, false}
use Rattle.std.proofs.Common.{List, [], ◌∷◌, ◌++◌, length, length-append, take, Bool}
use Rattle.std.specs.Prelude.{Option, Some, None, is_some, unwrap_or}
use Rattle.std.specs.List.{AllByRecursion, range_with_len}
use Rattle.std.proofs.lemmas.Bool.{cases_lt}
use Rattle.std.proofs.lemmas.List.{take_at}
use Rattle.std.proofs.lemmas.List.Elements.{All-from_recursion}
use Rattle.std.proofs.lemmas.Option.{none-some}
use Rattle.pcc_base.specs.declared.span.Span.{Span}
use Rattle.pcc_base.specs.declared.fault.FaultKind.TheVariants.{TypeRule}
use Rattle.pcc_base.proofs.Lists.{all-append}
use Rattle.c_syntax.specs.declared.expression.Identifier.{Identifier}
use Rattle.c_syntax.specs.Declarations as parts
use Rattle.c_syntax.specs.Declarations.{ItemTree, DeclaratorTree, ParameterTree, PartTree}
use Rattle.c_syntax.specs.Grammar.{IsExternal}
use Rattle.c_syntax.specs.Statements.{Stmt, ExternalTree, FunctionTree, DeclaredTree}
use Rattle.c_syntax.specs.StatementTokens.{IsStmt}
use Rattle.c_tree.specs.declared.types.ValueType.{ValueType}
use Rattle.c_tree.specs.Program as tree
use Rattle.c_tree.specs.Program.{Program}
use Rattle.c_tree.specs.WellTyped.{parameters_of}
use Rattle.c_typing.specs.Types.{Outside, Specified, specified, Declared}
use Rattle.c_typing.specs.Checked.{Checked, Fits, Fails, Note, fits, both, if_fits, or_fails, value_in}
use Rattle.c_typing.specs.Declarators.{ObjectType, IntegerObject, PointerObject, ArrayObject, object_declared}
use Rattle.c_typing.specs.Declarators.{object_allowed, with_named, with_parameter, with_parameters, parameters_meant}
use Rattle.c_typing.specs.Declarators.{typed_parameter}
use Rattle.c_typing.specs.Expressions.{first_word}
use Rattle.c_typing.specs.Library.{Entity}
use Rattle.c_typing.specs.Names.{Signature, Outer, Scope, next_file, first_scope, Numbers}
use Rattle.c_typing.specs.Statements.{bound_object, typed_statements, after_statements}
use Rattle.c_typing.specs.Files.{outer_of, with_outer, function_signature, bound_function, after_function}
use Rattle.c_typing.specs.Files.{bound_allowed, bound_outer, after_object, after_outer_item, after_outer_items}
use Rattle.c_typing.specs.Files.{typed_outer_items, parameters_in, body_of, at_body, function_with, defined}
use Rattle.c_typing.specs.Files.{in_function}
use Rattle.c_typing.specs.Files.{typed_definition, after_said, after_external, typed_external}
use Rattle.c_typing.specs.Files.{after_unit, typed_unit, typed_units}
use Rattle.c_typing.specs.Typed.{checked, numbers_in, notes_of, program_with}
use Rattle.c_typing.proofs.CountUp.{Always, IfFits, always, holds_both, holds_if, holds_noted}
use Rattle.c_check_laws.proofs.FilesSound.{each_of_body}
use Rattle.c_check_laws.proofs.Growing.{grows_statements}
use Rattle.c_check_laws.proofs.Files.{outer_items_none}
use Rattle.flow_graph.specs.Graphs.{IsIn}
use Rattle.lower_laws.specs.Declared.{DeclareFirst}
use Rattle.pcc_program.specs.DeclaredFirstLaws.{LocalsAreDeclaredFirst}
use Rattle.pcc_program.proofs.DeclaredFirstExpressions.{Knows, Sees, sees_on}
use Rattle.pcc_program.proofs.DeclaredFirstStatements.{IsRow, statements_are}

-- ---- outside functions no local is seen

seen_function : (said : Specified) (name : Identifier) (whole : Bool) (o : Option Signature) (s : Scope) → Knows [] s
    → Knows [] (bound_function said name whole o s)
seen_function said name whole None s k = k
seen_function said name whole (Some g) s k = (tt, k)

after_function_seen : (said : Specified) (d : DeclaratorTree) (whole : Bool) (ps : List ParameterTree) (s : Scope)
    → Knows [] s → Knows [] (after_function said d whole ps s)
after_function_seen said d whole ps s k =
    seen_function said d.name whole (value_in (function_signature s said d whole ps)) s k

seen_type : (name : Identifier) (e : Entity) (type : ObjectType) (s : Scope) → Knows [] s
    → Knows [] (bound_object name e type s)
seen_type name e (IntegerObject of) s k = (tt, k)
seen_type name e (PointerObject of) s k = k
seen_type name e (ArrayObject element count) s k = (tt, k)

seen_allowed : (name : Identifier) (o : Outer) (type : Option ObjectType) (s : Scope) → Knows [] s
    → Knows [] (bound_allowed name o type s)
seen_allowed name o None s k = k
seen_allowed name o (Some type) s k = seen_type name o.entity type s k

seen_outer : (said : Specified) (name : Identifier) (whole : Bool) (type : Option Declared) (s : Scope) → Knows [] s
    → Knows [] (bound_outer said name whole type s)
seen_outer said name whole None s k = k
seen_outer said name whole (Some type) s k =
    let o = outer_of s said name whole type in
    seen_allowed name o (value_in (object_allowed true name.at type)) (with_outer o s) k

after_object_seen : (said : Specified) (i : ItemTree) (s : Scope) → Knows [] s → Knows [] (after_object said i s)
after_object_seen said i s k =
    seen_outer said i.declarator.name (is_some i.initialiser)
    (value_in (object_declared s said i.declarator i.initialiser)) s k

after_item_seen : (said : Specified) (i : ItemTree) (p : PartTree) (s : Scope) → Knows [] s
    → Knows [] (after_outer_item said i p s)
after_item_seen said i parts.Plain s k = after_object_seen said i s k
after_item_seen said i (parts.Array a) s k = after_object_seen said i s k
after_item_seen said i (parts.Function ps) s k = after_function_seen said i.declarator false ps.parameters s k

after_items_seen : (said : Specified) (is : List ItemTree) (s : Scope) → Knows [] s
    → Knows [] (after_outer_items said is s)
after_items_seen said [] s k = k
after_items_seen said (i ∷ is) s k =
    let t = after_outer_item said i i.declarator.part s in
    after_items_seen said is t (after_item_seen said i i.declarator.part s k)

after_said_seen : (o : Option Specified) (e : ExternalTree) (s : Scope) → Knows [] s → Knows [] (after_said o e s)
after_said_seen None e s k = k
after_said_seen (Some said) (FunctionTree specifiers d body) s k =
    after_function_seen said d true (parameters_in d.part) s k
after_said_seen (Some said) (DeclaredTree d) s k = after_items_seen said d.items s k

after_external_seen : (e : ExternalTree) (s : Scope) → Knows [] s → Knows [] (after_external e s)
after_external_seen (FunctionTree specifiers d body) s k =
    after_said_seen (specified Outside specifiers) (FunctionTree specifiers d body) s k
after_external_seen (DeclaredTree d) s k = after_said_seen (specified Outside d.specifiers) (DeclaredTree d) s k

after_unit_seen : (es : List ExternalTree) (s : Scope) → Knows [] s → Knows [] (after_unit es s)
after_unit_seen [] s k = k
after_unit_seen (e ∷ es) s k = after_unit_seen es (after_external e s) (after_external_seen e s k)

-- ---- where a body begins the parameters are seen, which are the first locals

abbrev Lower : Scope → Type 0
Lower s = Sees (λ v. v < length s.locals) s.names

lower_named : (s : Scope) (o : Option Identifier) (of : Option ValueType) → Lower s → Lower (with_named s o of)
lower_named s None None h = h
lower_named s None (Some t) h = h
lower_named s (Some name) None h = h
lower_named s (Some name) (Some t) h =
    let l : tree.Local = record { name = name.name; of = t } in
    let one = length-append s.locals (l ∷ []) in
    let m = length (s.locals ++ l ∷ []) in (
      omega (arith, one),
      sees_on (λ v. v < length s.locals) (λ v. v < m) (λ v less. omega (arith, one, less)) s.names h,
    )

lower_parameters : (ps : List ParameterTree) (s : Scope) → Lower s → Lower (with_parameters s ps)
lower_parameters [] s h = h
lower_parameters (p ∷ ps) s h =
    lower_parameters ps (with_parameter s p) (lower_named s p.name (value_in (typed_parameter s false p)) h)

in_range : (k n v : ℕ) → k ≤ v → v < k + n → IsIn v (range_with_len k n)
in_range k zero v h l = absurd (omega (arith, h, l))
in_range k (suc n) v h l =
    elim (cases_lt k v) [
      | inl less ↦ inr (in_range (k + 1) n v (omega (arith, less)) (omega (arith, l)))
      | inr more ↦ inl (omega (arith, h, more))
    ]

knows_lower : (s : Scope) → Lower s → Knows (range_with_len 0 (length s.locals)) s
knows_lower s h =
    let n = length s.locals in
    sees_on (λ v. v < n) (λ v. IsIn v (range_with_len 0 n))
    (λ v less. in_range 0 n v (omega arith) (omega (arith, less))) s.names h

body_knows : (ps : List ParameterTree) (s : Scope) → Knows [] s
    → Knows (range_with_len 0 (length (at_body ps s).locals)) (at_body ps s)
body_knows ps s k =
    let first = at_body ps s in
    knows_lower first (lower_parameters (parameters_meant ps) _
    (sees_on (λ v. IsIn v []) (λ v. v < 0) (λ v is. absurd is) s.names k))

-- ---- definitions

-- the locals of the function are declared first
abbrev pub IsFirst : tree.Function → Type 0
IsFirst f = DeclareFirst (range_with_len 0 (length (parameters_of f))) f.body

abbrev AreFirst : List tree.Function → Type 0
AreFirst fs = AllByRecursion IsFirst fs

-- the first ones of a longer list
first_many : (xs ys zs : List tree.Local) → zs ≡ xs ++ ys → length xs ≡ length (take (length xs) zs)
first_many xs ys zs e = ap length (sym (ap (take (length xs)) e ∙ take_at xs ys (length xs) refl))

definition_first : (said : Specified) (d : DeclaratorTree) (body : Stmt) → IsStmt body → (s : Scope) → Knows [] s
    → IfFits AreFirst (typed_definition said d body s)
definition_first said d body is s k =
    let ps = parameters_in d.part in
    let outside = after_function said d true ps s in
    let first = at_body ps outside in
    let raw = body_of body in
    let last = after_statements raw first in
    let grows = grows_statements raw (each_of_body body is) first in
    let same = first_many first.locals grows.more_locals last.locals grows.locals in
    let known = range_with_len 0 (length first.locals) in
    let at_first = body_knows ps outside (after_function_seen said d true ps s k) in
    holds_if Always AreFirst (function_signature s said d true ps)
    (λ g. if_fits (typed_statements (in_function g.result) raw first) (λ statements.
    defined said d.name s g (function_with d.name g first last statements)))
    (always (function_signature s said d true ps)) (λ g x.
    holds_if (IsRow known raw) AreFirst (typed_statements (in_function g.result) raw first)
    (λ statements. defined said d.name s g (function_with d.name g first last statements))
    (statements_are (in_function g.result) raw (each_of_body body is) known first at_first)
    (λ sts h. (subst (λ n. DeclareFirst (range_with_len 0 n) sts) same h.0, tt)))

-- ---- files

said_first : (o : Option Specified) (at : Span) (d : DeclaratorTree) (body : Stmt) → IsStmt body → (s : Scope)
    → Knows [] s → IfFits AreFirst (if_fits (or_fails o TypeRule at) (λ said. typed_definition said d body s))
said_first None at d body is s k = tt
said_first (Some said) at d body is s k =
    holds_noted AreFirst [] (typed_definition said d body s) (definition_first said d body is s k)

none_first : (c : Checked (List tree.Function)) → IfFits (λ fs. fs ≡ []) c → IfFits AreFirst c
none_first (Fits fs ns) e = subst AreFirst (sym e) tt
none_first (Fails f fs) e = tt

items_first : (o : Option Specified) (at : Span) (is : List ItemTree) (s : Scope)
    → IfFits AreFirst (if_fits (or_fails o TypeRule at) (λ said. typed_outer_items said is s))
items_first None at is s = tt
items_first (Some said) at is s =
    holds_noted AreFirst [] (typed_outer_items said is s)
    (none_first (typed_outer_items said is s) (outer_items_none said is s))

external_first : (e : ExternalTree) → IsExternal e → (s : Scope) → Knows [] s → IfFits AreFirst (typed_external e s)
external_first (FunctionTree specifiers d body) h s k =
    said_first (specified Outside specifiers) (first_word specifiers) d body h.3 s k
external_first (DeclaredTree d) h s k =
    items_first (specified Outside d.specifiers) (first_word d.specifiers) d.items s

both_first : (c d : Checked (List tree.Function)) → IfFits AreFirst c → IfFits AreFirst d
    → IfFits AreFirst (both c d (λ fs gs. fits (fs ++ gs)))
both_first c d h g =
    holds_both AreFirst AreFirst AreFirst c d (λ fs gs. fits (fs ++ gs)) h g (λ fs gs x y. all-append IsFirst fs gs x y)

unit_first : (es : List ExternalTree) → AllByRecursion IsExternal es → (s : Scope) → Knows [] s
    → IfFits AreFirst (typed_unit es s)
unit_first [] h s k = tt
unit_first (e ∷ es) h s k =
    let t = after_external e s in
    both_first (typed_external e s) (typed_unit es t) (external_first e h.0 s k)
    (unit_first es h.1 t (after_external_seen e s k))

units_first : (us : List (List ExternalTree)) → AllByRecursion (AllByRecursion IsExternal) us → (s : Scope) → Knows [] s
    → IfFits AreFirst (typed_units us s)
units_first [] h s k = tt
units_first (u ∷ us) h s k =
    let t = next_file (after_unit u s) in
    both_first (typed_unit u s) (typed_units us t) (unit_first u h.0 s k) (units_first us h.1 t (tt, (tt, (tt, tt))))

first_in : (c : Checked (List tree.Function)) (numbers : Numbers) (notes : List Note) (p : Program)
    → IfFits AreFirst c → program_with numbers notes (value_in c) ≡ Some p → AreFirst p.functions
first_in (Fits fs ns) numbers notes p h e = subst AreFirst (ap (λ o. (unwrap_or o p).functions) e) h
first_in (Fails f fs) numbers notes p h e = absurd (none-some p e)

pub locals_declared_first : LocalsAreDeclaredFirst
locals_declared_first units p trees t =
    All-from_recursion IsFirst p.functions
    (first_in (checked units) (numbers_in units) (notes_of units) p
    (units_first units trees (first_scope (numbers_in units)) (tt, (tt, (tt, tt)))) t.is)
