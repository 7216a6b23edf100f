-- Functions that files define are whole among what is declared outside functions, and each new one is apart from them.
use Rattle.std.proofs.Common.{◌≡◌, refl, sym, ap, subst, ◌∙◌, true≢false, Bool, true, false, List, [], ◌∷◌, ◌++◌}
use Rattle.std.specs.Prelude.{Option, Some, None, is_some, not, ◌&&◌, ◌||◌}
use Rattle.std.specs.List.{AllByRecursion, list_any}
use Rattle.std.proofs.lemmas.List.{append-nil}
use Rattle.std.proofs.lemmas.List.Elements.{filter_map-append}
use Rattle.pcc_base.specs.declared.span.Span.{Span}
use Rattle.pcc_base.specs.declared.fault.Fault.{Fault}
use Rattle.pcc_base.specs.declared.fault.FaultKind.TheVariants.{Redeclared, TypeRule}
use Rattle.pcc_base.proofs.Lists.{all-append, all-weaker}
use Rattle.c_syntax.specs.declared.expression.Identifier.{Identifier}
use Rattle.c_syntax.specs.Declarations as parts
use Rattle.c_syntax.specs.Declarations.{ItemTree, DeclaratorTree, ParameterTree, PartTree}
use Rattle.c_syntax.specs.Statements.{Stmt, ExternalTree, FunctionTree, DeclaredTree}
use Rattle.c_tree.specs.declared.types.ValueType.{ValueType}
use Rattle.c_tree.specs.declared.types.ValueType.TheVariants.{Void, Integer, Pointer}
use Rattle.c_tree.specs.Program as tree
use Rattle.c_typing.specs.Faults.{fault}
use Rattle.c_typing.specs.Library.{Entity, same_entity}
use Rattle.c_typing.specs.Types.{Outside, Specified, specified, Declared, DeclaredFunction, same_type, pointed}
use Rattle.c_typing.specs.Checked.{Checked, Fits, Fails, Note, Defines, fits, noted, also, if_fits, both, value_in}
use Rattle.c_typing.specs.Checked.{or_fails}
use Rattle.c_typing.specs.Numbering.{function_noted}
use Rattle.c_typing.specs.Declarators.{object_declared, object_allowed, parameters_meant, typed_parameters}
use Rattle.c_typing.specs.Declarators.{type_faults}
use Rattle.c_typing.specs.Expressions.{first_word}
use Rattle.c_typing.specs.Initialisers.{contents_for}
use Rattle.c_typing.specs.Initialisers.{function_initialiser}
use Rattle.c_typing.specs.Names.{Scope, Outer, Signature, clashes, entered, entity_seen, is_other, is_redeclared}
use Rattle.c_typing.specs.Names.{meaning_of, next_file, first_scope}
use Rattle.c_typing.specs.Statements.{stored, typed_statements, after_statements}
use Rattle.c_typing.specs.Files.{outer_of, redeclared_faults, with_outer, result_allowed, signature_of}
use Rattle.c_typing.specs.Files.{function_declared, function_signature, bound_function, after_function}
use Rattle.c_typing.specs.Files.{without_value, bound_outer, after_object, typed_object, typed_prototype}
use Rattle.c_typing.specs.Files.{after_outer_item, typed_outer_item, after_outer_items, typed_outer_items}
use Rattle.c_typing.specs.Files.{parameters_in}
use Rattle.c_typing.specs.Files.{body_of, at_body, function_with, defined, in_function, typed_definition}
use Rattle.c_typing.specs.Files.{after_definition, after_said, after_external, typed_external, after_unit, typed_unit}
use Rattle.c_typing.specs.Files.{typed_units}
use Rattle.c_typing.specs.Files.{library_faults, result_faults, sized_object}
use Rattle.c_typing.proofs.CountUp.{Always, IfFits, always, holds_also, holds_if}
use Rattle.c_check_names.proofs.Sameness.{thing_is, thing_self}
use Rattle.c_check.specs.Tables.{AreApart}
use Rattle.c_check.specs.NumberingLaws.{FunctionsAreDefinedOnce}
use Rattle.c_check.proofs.Quiet.{funs, Quiet, funs_quiet, quiet_if, quiet_also, declared_quiet, allowed_quiet}
use Rattle.c_typing.proofs.FilesCountUp.{by_initialiser}
use Rattle.c_check.proofs.Quiet.{parameters_quiet}
use Rattle.c_check.proofs.QuietBodies.{contents_quiet, stored_quiet, statements_quiet}
use Rattle.c_check.proofs.Outside.{parameters_outside, statements_outside}
use Rattle.c_check_laws.proofs.RowsSound.{either_false}
use Rattle.c_check_laws.proofs.OneTypeEach.{none_false, allowed_outer as allowed_outside}
use Rattle.c_check_laws.proofs.FilesSound.{none_first}

-- ---- what is apart

other_way : (e f : Entity) → same_entity e f ≡ false → same_entity f e ≡ false
other_way e f h = by (same_entity f e) refl
  where
    by : (b : Bool) → same_entity f e ≡ b → b ≡ false
    by false k = refl
    by true k = absurd (true≢false (sym (thing_self e) ∙ ap (same_entity e) (sym (thing_is f e k)) ∙ h))

-- an entity is apart from all of these
abbrev ApartFrom : List Entity → Entity → Type 0
ApartFrom es f = AllByRecursion (λ e. same_entity f e ≡ false) es

apart_on : (es fs : List Entity) → AreApart es → AreApart fs → AllByRecursion (ApartFrom es) fs → AreApart (es ++ fs)
apart_on [] fs a b h = b
apart_on (e ∷ es) fs a b h = (
  all-append (λ f. same_entity e f ≡ false) es fs a.0
      (all-weaker (ApartFrom (e ∷ es)) (λ f. same_entity e f ≡ false) fs (λ f k. other_way f e k.0) h),
  apart_on es fs a.1 b (all-weaker (ApartFrom (e ∷ es)) (ApartFrom es) fs (λ f k. k.1) h),
)

-- nothing of this entity is whole yet
abbrev IsNew : List Outer → Entity → Type 0
IsNew os f = AllByRecursion (λ (o : Outer). o.whole ≡ true → same_entity f o.entity ≡ false) os

-- Between these declarations outside functions and those, these functions are defined.
record Adds (os ps : List Outer) (es : List Entity) : Type 0 where
  -- what is new behind is new before, and apart from what is defined
  before : (f : Entity) → IsNew ps f → IsNew os f
  apart : (f : Entity) → IsNew ps f → ApartFrom es f
  new : AllByRecursion (IsNew os) es
  once : AreApart es

adds_none : (os ps : List Outer) → ((f : Entity) → IsNew ps f → IsNew os f) → Adds os ps []
adds_none os ps h = record { before = h; apart = λ f n. tt; new = tt; once = tt }

adds_one : (os : List Outer) (o : Outer) → o.whole ≡ true → IsNew os o.entity → Adds os (o ∷ os) (o.entity ∷ [])
adds_one os o w n = record {
  before = λ f h. h.1;
  apart = λ f h. (h.0 w, tt);
  new = (n, tt);
  once = (tt, tt);
}

adds_on : (os ps qs : List Outer) (es fs : List Entity) → Adds os ps es → Adds ps qs fs → Adds os qs (es ++ fs)
adds_on os ps qs es fs a b = record {
  before = λ f n. a.before f (b.before f n);
  apart = λ f n. all-append (λ e. same_entity f e ≡ false) es fs (a.apart f (b.before f n)) (b.apart f n);
  new = all-append (IsNew os) es fs a.new (all-weaker (IsNew ps) (IsNew os) fs a.before b.new);
  once = apart_on es fs a.once b.once (all-weaker (IsNew ps) (ApartFrom es) fs a.apart b.new);
}

-- what comes of judging a part between these scopes
abbrev Once : Scope → Scope → Checked (List tree.Function) → Type 0
Once s t (Fits fs ns) = Adds s.outer t.outer (funs ns)
Once s t (Fails f fs) = Unit {0}

once_none : (s t : Scope) (c : Checked (List tree.Function)) → Quiet c
    → ((f : Entity) → IsNew t.outer f → IsNew s.outer f) → Once s t c
once_none s t (Fits fs ns) q h = subst (Adds s.outer t.outer) (sym q) (adds_none s.outer t.outer h)
once_none s t (Fails f fs) q h = tt

once_noted : (s t : Scope) (c : Checked (List tree.Function)) → Once s t c → Once s t (noted [] c)
once_noted s t (Fits fs ns) h = h
once_noted s t (Fails f fs) h = h

once_both : (s t u : Scope) (c d : Checked (List tree.Function)) → Once s t c → Once t u d
    → Once s u (both c d (λ fs gs. fits (fs ++ gs)))
once_both s t u (Fits a ns) (Fits b ms) h k =
    subst (Adds s.outer u.outer)
    (sym (ap funs (append-nil (ns ++ ms)) ∙ filter_map-append function_noted ns ms))
    (adds_on s.outer t.outer u.outer (funs ns) (funs ms) h k)
once_both s t u (Fits a ns) (Fails g gs) h k = tt
once_both s t u (Fails f fs) d h k = tt

-- ---- objects and prototypes

bound_before : (said : Specified) (name : Identifier) (whole : Bool) (o : Option Signature) (s : Scope) (f : Entity)
    → IsNew (bound_function said name whole o s).outer f → IsNew s.outer f
bound_before said name whole None s f h = h
bound_before said name whole (Some g) s f h = h.1

object_before : (said : Specified) (name : Identifier) (whole : Bool) (o : Option Declared) (s : Scope) (f : Entity)
    → IsNew (bound_outer said name whole o s).outer f → IsNew s.outer f
object_before said name whole None s f h = h
object_before said name whole (Some type) s f h =
    let o = outer_of s said name whole type in
    (subst (λ os. IsNew os f)
    (allowed_outside name o (value_in (object_allowed true name.at type)) (with_outer o s)) h).1

object_once : (said : Specified) (i : ItemTree) (s : Scope) → Once s (after_object said i s) (typed_object said i s)
object_once said i s =
    let name = i.declarator.name in
    let whole = is_some i.initialiser in
    let c = object_declared s said i.declarator i.initialiser in
    let t = after_object said i s in
    once_none s t (typed_object said i s)
    (quiet_also (type_faults true said i.declarator) (sized_object said i s) (quiet_if c (λ type. also (redeclared_faults s name (outer_of s said name whole type))
    (if_fits (object_allowed true name.at type) (λ allowed. stored (outer_of s said name whole type).entity allowed []
    (contents_for t allowed (without_value said) i.initialiser))))
    (declared_quiet s said i.declarator i.initialiser) (λ type.
    quiet_also (redeclared_faults s name (outer_of s said name whole type))
    (if_fits (object_allowed true name.at type) (λ allowed. stored (outer_of s said name whole type).entity allowed []
    (contents_for t allowed (without_value said) i.initialiser)))
    (quiet_if (object_allowed true name.at type) (λ allowed. stored (outer_of s said name whole type).entity allowed []
    (contents_for t allowed (without_value said) i.initialiser)) (allowed_quiet true name.at type) (λ allowed.
    stored_quiet (outer_of s said name whole type).entity allowed []
    (contents_for t allowed (without_value said) i.initialiser)
    (contents_quiet t allowed (without_value said) i.initialiser))))))
    (object_before said name whole (value_in c) s)

result_quiet : (at : Span) (o : Option ValueType) → Quiet (result_allowed at o)
result_quiet at None = refl
result_quiet at (Some Void) = refl
result_quiet at (Some (Integer t)) = refl
result_quiet at (Some (Pointer t)) = refl

signature_quiet : (s : Scope) (said : Specified) (d : DeclaratorTree) (whole : Bool) (ps : List ParameterTree)
    → Quiet (function_signature s said d whole ps)
signature_quiet s said d whole ps =
    let name = d.name in
    let result = pointed said.base d.pointer in
    let faults : List ValueType → List Fault = λ ts.
    let o = outer_of s said name whole (DeclaredFunction result ts) in
    redeclared_faults s name o ++ library_faults name o in
    quiet_also (result_faults said d)
    (if_fits (typed_parameters (entered s) whole ps) (function_declared s said name whole result))
    (quiet_if (typed_parameters (entered s) whole ps) (function_declared s said name whole result)
    (parameters_quiet (entered s) whole ps) (λ ts.
    quiet_also (faults ts) (signature_of name.at result ts)
    (quiet_if (result_allowed name.at result) (λ t. fits (record { result = t; parameters = ts }))
    (result_quiet name.at result) (λ t. refl))))

prototype_once : (said : Specified) (i : ItemTree) (ps : List ParameterTree) (s : Scope)
    → Once s (after_function said i.declarator false ps s) (typed_prototype said i ps s)
prototype_once said i ps s =
    let d = i.declarator in
    let c = function_signature s said d false ps in
    let t = after_function said d false ps s in
    once_none s t (typed_prototype said i ps s)
    (quiet_if c (λ g. function_initialiser t i.initialiser []) (signature_quiet s said d false ps)
    (λ g. by_initialiser Quiet t i.initialiser [] refl (λ f fs. refl)))
    (bound_before said d.name false (value_in c) s)

outer_item_once : (said : Specified) (i : ItemTree) (p : PartTree) (s : Scope)
    → Once s (after_outer_item said i p s) (typed_outer_item said i p s)
outer_item_once said i parts.Plain s = object_once said i s
outer_item_once said i (parts.Array a) s = object_once said i s
outer_item_once said i (parts.Function ps) s = prototype_once said i ps.parameters s

outer_items_once : (said : Specified) (is : List ItemTree) (s : Scope)
    → Once s (after_outer_items said is s) (typed_outer_items said is s)
outer_items_once said [] s = adds_none s.outer s.outer (λ f n. n)
outer_items_once said (i ∷ is) s =
    let t = after_outer_item said i i.declarator.part s in
    once_both s t (after_outer_items said is t) (typed_outer_item said i i.declarator.part s)
    (typed_outer_items said is t) (outer_item_once said i i.declarator.part s) (outer_items_once said is t)

-- ---- what fits is new

-- two declarations that are both whole, and don't clash
not_same : (a b c d : Bool) → (a && (b || (c && d))) ≡ false → c ≡ true → d ≡ true → a ≡ false
not_same false b c d h k l = refl
not_same true true c d h k l = absurd (true≢false h)
not_same true false true true h k l = absurd (true≢false h)
not_same true false true false h k l = absurd (true≢false (sym l))
not_same true false false d h k l = absurd (true≢false (sym k))

none_clashes : (o : Outer) → o.whole ≡ true → (os : List Outer) → list_any (clashes o) os ≡ false → IsNew os o.entity
none_clashes o w [] h = tt
none_clashes o w (x ∷ xs) h =
    let p = either_false (clashes o x) (list_any (clashes o) xs) h in (
      λ k. not_same (same_entity o.entity x.entity) (not (same_type o.type x.type)) o.whole x.whole p.0 w k,
      none_clashes o w xs p.1,
    )

not_redeclared : (s : Scope) (name : Identifier) (o : Outer) → o.whole ≡ true → redeclared_faults s name o ≡ []
    → IsNew s.outer o.entity
not_redeclared s name o w h =
    none_clashes o w s.outer (either_false (is_other o.entity (entity_seen (meaning_of s.names name.name)))
    (list_any (clashes o) s.outer)
    (none_false (is_redeclared s name.name o) (fault Redeclared name.at) h)).1

result_is : (at : Span) (o : Option ValueType) → IfFits (λ t. o ≡ Some t) (result_allowed at o)
result_is at None = tt
result_is at (Some Void) = refl
result_is at (Some (Integer t)) = refl
result_is at (Some (Pointer t)) = tt

also_none : {A : Type 0} (P : A → Type 0) (fs : List Fault) (c : Checked A) → (fs ≡ [] → IfFits P c)
    → IfFits P (also fs c)
also_none P [] c h = h refl
also_none P (f ∷ fs) c h = tt

-- the declaration of a function that is defined
abbrev definition_outer : Scope → Specified → Identifier → Signature → Outer
definition_outer s said name g = outer_of s said name true (DeclaredFunction (Some g.result) g.parameters)

abbrev IsNewFunction : Scope → Specified → Identifier → Signature → Type 0
IsNewFunction s said name g = IsNew s.outer (definition_outer s said name g).entity

declared_new : (s : Scope) (said : Specified) (name : Identifier) (result : Option ValueType) (ts : List ValueType)
    → IfFits (IsNewFunction s said name) (function_declared s said name true result ts)
declared_new s said name result ts =
    let o = outer_of s said name true (DeclaredFunction result ts) in
    let P = IsNewFunction s said name in
    also_none P (redeclared_faults s name o ++ library_faults name o) (signature_of name.at result ts) (λ e.
    holds_if (λ t. result ≡ Some t) P (result_allowed name.at result)
    (λ t. fits (record { result = t; parameters = ts })) (result_is name.at result) (λ t p.
    subst (λ r. IsNew s.outer (outer_of s said name true (DeclaredFunction r ts)).entity) p
    (not_redeclared s name o refl (none_first (redeclared_faults s name o) (library_faults name o) e))))

signature_new : (s : Scope) (said : Specified) (d : DeclaratorTree) (ps : List ParameterTree)
    → IfFits (IsNewFunction s said d.name) (function_signature s said d true ps)
signature_new s said d ps =
    let make = function_declared s said d.name true (pointed said.base d.pointer) in
    holds_also (IsNewFunction s said d.name) (result_faults said d)
    (if_fits (typed_parameters (entered s) true ps) make)
    (holds_if Always (IsNewFunction s said d.name) (typed_parameters (entered s) true ps) make
    (always (typed_parameters (entered s) true ps))
    (λ ts u. declared_new s said d.name (pointed said.base d.pointer) ts))

-- ---- definitions

body_once : (said : Specified) (name : Identifier) (s t : Scope) (g : Signature) (ns : List Note)
    (c : Checked tree.Statements) (make : tree.Statements → tree.Function) → funs ns ≡ [] → Quiet c
    → t.outer ≡ definition_outer s said name g ∷ s.outer → IsNewFunction s said name g
    → Once s t (noted ns (if_fits c (λ b. defined said name s g (make b))))
body_once said name s t g ns (Fits b ms) make h k e n =
    let o = definition_outer s said name g in
    let note = Defines o.entity (DeclaredFunction (Some g.result) g.parameters) in
    subst (Adds s.outer t.outer) (sym (funs_quiet ns (ms ++ note ∷ []) h ∙ funs_quiet ms (note ∷ []) k))
    (subst (λ os. Adds s.outer os (o.entity ∷ [])) (sym e) (adds_one s.outer o refl n))
body_once said name s t g ns (Fails f fs) make h k e n = tt

definition_by : (said : Specified) (name : Identifier) (s t : Scope) (c : Checked Signature)
    (body : Signature → Checked tree.Statements) (make : Signature → tree.Statements → tree.Function) → Quiet c
    → ((g : Signature) → Quiet (body g)) → t.outer ≡ (bound_function said name true (value_in c) s).outer
    → IfFits (IsNewFunction s said name) c
    → Once s t (if_fits c (λ g. if_fits (body g) (λ b. defined said name s g (make g b))))
definition_by said name s t (Fits g ns) body make h k e n =
    body_once said name s t g ns (body g) (make g) h (k g) e n
definition_by said name s t (Fails f fs) body make h k e n = tt

definition_once : (said : Specified) (d : DeclaratorTree) (body : Stmt) (s : Scope)
    → Once s (after_definition said d body s) (typed_definition said d body s)
definition_once said d body s =
    let ps = parameters_in d.part in
    let outside = after_function said d true ps s in
    let first = at_body ps outside in
    let last = after_statements (body_of body) first in
    definition_by said d.name s (after_definition said d body s) (function_signature s said d true ps)
    (λ g. typed_statements (in_function g.result) (body_of body) first)
    (λ g b. function_with d.name g first last b) (signature_quiet s said d true ps)
    (λ g. statements_quiet (in_function g.result) (body_of body) first)
    (statements_outside (body_of body) first
    ∙ parameters_outside (record (entered outside) { locals = []; arrays = [] }) (parameters_meant ps))
    (signature_new s said d ps)

-- ---- files

external_once : (e : ExternalTree) (s : Scope) → Once s (after_external e s) (typed_external e s)
external_once (FunctionTree specifiers d body) s = by (specified Outside specifiers)
  where
    by : (o : Option Specified) → Once s (after_said o (FunctionTree specifiers d body) s)
        (if_fits (or_fails o TypeRule (first_word specifiers)) (λ said. typed_definition said d body s))
    by None = tt
    by (Some said) =
        once_noted s (after_definition said d body s) (typed_definition said d body s) (definition_once said d body s)
external_once (DeclaredTree d) s = by (specified Outside d.specifiers)
  where
    by : (o : Option Specified) → Once s (after_said o (DeclaredTree d) s)
        (if_fits (or_fails o TypeRule (first_word d.specifiers)) (λ said. typed_outer_items said d.items s))
    by None = tt
    by (Some said) =
        once_noted s (after_outer_items said d.items s) (typed_outer_items said d.items s)
        (outer_items_once said d.items s)

unit_once : (es : List ExternalTree) (s : Scope) → Once s (after_unit es s) (typed_unit es s)
unit_once [] s = adds_none s.outer s.outer (λ f n. n)
unit_once (e ∷ es) s =
    let t = after_external e s in
    once_both s t (after_unit es t) (typed_external e s) (typed_unit es t) (external_once e s) (unit_once es t)

-- the scope behind all files
abbrev after_units : List (List ExternalTree) → Scope → Scope
after_units [] s = s
after_units (u ∷ us) s = after_units us (next_file (after_unit u s))

units_once : (us : List (List ExternalTree)) (s : Scope) → Once s (after_units us s) (typed_units us s)
units_once [] s = adds_none s.outer s.outer (λ f n. n)
units_once (u ∷ us) s =
    let t = next_file (after_unit u s) in
    once_both s t (after_units us t) (typed_unit u s) (typed_units us t) (unit_once u s) (units_once us t)

pub defined_once : FunctionsAreDefinedOnce
defined_once numbers units functions notes e =
    let s = first_scope numbers in
    let fitting : Adds s.outer (after_units units s).outer (funs notes) =
    subst (Once s (after_units units s)) e (units_once units s) in
    fitting.once
