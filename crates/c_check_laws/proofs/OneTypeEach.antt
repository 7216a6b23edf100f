-- What is declared outside functions has one type, in all files.
use Rattle.std.proofs.Common.{arith, ◌≡◌, refl, sym, ap, subst, ◌∙◌, Bool, true, false, List, [], ◌∷◌, ◌++◌}
use Rattle.std.specs.Prelude.{Option, Some, None, is_some, if◌then◌else◌}
use Rattle.std.specs.List.{AllByRecursion}
use Rattle.pcc_base.specs.declared.fault.Fault.{Fault}
use Rattle.pcc_base.specs.declared.fault.FaultKind.TheVariants.{Redeclared, TypeRule}
use Rattle.c_syntax.specs.declared.expression.Identifier.{Identifier}
use Rattle.c_syntax.specs.Declarations as parts
use Rattle.c_syntax.specs.Declarations.{ItemTree, DeclaratorTree, ParameterTree, PartTree}
use Rattle.c_syntax.specs.Grammar.{IsExternal}
use Rattle.c_syntax.specs.Statements.{Stmt, ExternalTree, FunctionTree, DeclaredTree}
use Rattle.c_syntax.specs.StatementTokens.{IsStmt}
use Rattle.c_tree.specs.Program as tree
use Rattle.c_typing.specs.Faults.{fault}
use Rattle.c_typing.specs.Types.{Outside, Specified, specified, Declared}
use Rattle.c_typing.specs.Checked.{Checked, Fits, Fails, fits, also, if_fits, both, value_in, or_fails}
use Rattle.c_typing.specs.Declarators.{ObjectType, IntegerObject, PointerObject, ArrayObject, object_declared}
use Rattle.c_typing.specs.Declarators.{object_allowed, parameters_meant, type_faults, typed_parameters}
use Rattle.c_typing.specs.Expressions.{first_word}
use Rattle.c_typing.specs.Initialisers.{contents_for, function_initialiser}
use Rattle.c_typing.specs.Names.{Signature, Scope, Outer, entered, entity_seen, is_other, is_redeclared}
use Rattle.c_typing.specs.Names.{meaning_of, next_file}
use Rattle.c_typing.specs.Statements.{stored, typed_statements, after_statements}
use Rattle.c_typing.specs.Files.{outer_of, redeclared_faults, with_outer, function_signature, bound_function}
use Rattle.c_typing.specs.Files.{after_function, sized_object, without_value, bound_allowed, bound_outer}
use Rattle.c_typing.specs.Files.{after_object}
use Rattle.c_typing.specs.Files.{typed_object, typed_prototype, after_outer_item, typed_outer_item, after_outer_items}
use Rattle.c_typing.specs.Files.{typed_outer_items, parameters_in, body_of, at_body, function_with, defined}
use Rattle.c_typing.specs.Files.{in_function}
use Rattle.c_typing.specs.Files.{typed_definition, after_definition, after_said, after_external, typed_external}
use Rattle.c_typing.specs.Files.{after_unit, typed_unit, typed_units}
use Rattle.c_typing.proofs.CountUp.{IfFits, holds_noted, holds_both, holds_also, Always, always}
use Rattle.c_check_laws.proofs.Growing.{grows_statements}
use Rattle.c_check_laws.proofs.ParametersSound.{grows_parameters}
use Rattle.c_check_laws.proofs.FilesSound.{SignatureIs, signature_is, also_none, cleared, each_of_body, after_units}
use Rattle.c_check_laws.proofs.FilesSound.{function_type}
use Rattle.c_check_laws.proofs.Entities.{AreOne, agree_with}

-- a fact of every outcome
pub fact : {A : Type 0} (Q : Type 0) (c : Checked A) → Q → IfFits (λ (a : A). Q) c
fact Q (Fits a ns) q = q
fact Q (Fails f fs) q = tt

pub none_false : (b : Bool) (f : Fault) → (if b then f ∷ [] else []) ≡ [] → b ≡ false
none_false true f e = grind arith
none_false false f e = refl

not_redeclared : (s : Scope) (name : Identifier) (o : Outer) → redeclared_faults s name o ≡ [] → AreOne s.outer
    → AreOne (o ∷ s.outer)
not_redeclared s name o e h =
    agree_with (is_other o.entity (entity_seen (meaning_of s.names name.name))) o s.outer
    (none_false (is_redeclared s name.name o) (fault Redeclared name.at) e) h

-- declarations that agree before a part do so behind it
abbrev Keeps : Scope → Scope → Type 0
Keeps s t = AreOne s.outer → AreOne t.outer

pub allowed_outer : (name : Identifier) (o : Outer) (type : Option ObjectType) (s : Scope)
    → (bound_allowed name o type s).outer ≡ s.outer
allowed_outer name o None s = refl
allowed_outer name o (Some (IntegerObject of)) s = refl
allowed_outer name o (Some (PointerObject of)) s = refl
allowed_outer name o (Some (ArrayObject element count)) s = refl

object_keeps : (said : Specified) (s t : Scope) (name : Identifier) (whole : Bool) (c : Checked Declared)
    (make : Declared → Checked (List tree.Function)) → t ≡ bound_outer said name whole (value_in c) s
    → IfFits (λ fs. Keeps s t)
    (if_fits c (λ type. also (redeclared_faults s name (outer_of s said name whole type)) (make type)))
object_keeps said s t name whole (Fits type ns) make e =
    let o = outer_of s said name whole type in
    let P : List tree.Function → Type 0 = λ fs. Keeps s t in
    holds_noted P ns (also (redeclared_faults s name o) (make type))
    (also_none P (redeclared_faults s name o) (make type) (λ n. fact (Keeps s t) (make type) (λ h.
    subst AreOne (sym (ap (λ (u : Scope). u.outer) e
    ∙ allowed_outer name o (value_in (object_allowed true name.at type)) (with_outer o s)))
    (not_redeclared s name o n h))))
object_keeps said s t name whole (Fails f fs) make e = tt

function_keeps : (said : Specified) (s t u : Scope) (name : Identifier) (whole : Bool) (F : List _ → Type 0)
    (c : Checked Signature) (make : Signature → Checked (List tree.Function))
    → IfFits (SignatureIs s said name whole F) c → t ≡ bound_function said name whole (value_in c) s
    → u.outer ≡ t.outer → IfFits (λ fs. Keeps s u) (if_fits c make)
function_keeps said s t u name whole F (Fits g ns) make q e k =
    let P : List tree.Function → Type 0 = λ fs. Keeps s u in
    holds_noted P ns (make g) (fact (Keeps s u) (make g) (λ h.
    subst AreOne (sym (k ∙ ap (λ (v : Scope). v.outer) e))
    (not_redeclared s name (outer_of s said name whole (function_type g)) q.2 h)))
function_keeps said s t u name whole F (Fails f fs) make q e k = tt

object_one : (said : Specified) (i : ItemTree) (s : Scope)
    → IfFits (λ fs. Keeps s (after_object said i s)) (typed_object said i s)
object_one said i s =
    let name = i.declarator.name in
    let t = after_object said i s in
    holds_also (λ (fs : List tree.Function). Keeps s t) (type_faults true said i.declarator) (sized_object said i s)
    (object_keeps said s t name (is_some i.initialiser) (object_declared s said i.declarator i.initialiser) (λ type.
    if_fits (object_allowed true name.at type) (λ allowed.
    stored (outer_of s said name (is_some i.initialiser) type).entity allowed []
    (contents_for t allowed (without_value said) i.initialiser))) refl)

prototype_one : (said : Specified) (i : ItemTree) (ps : List ParameterTree) (s : Scope)
    → IfFits (λ fs. Keeps s (after_function said i.declarator false ps s)) (typed_prototype said i ps s)
prototype_one said i ps s =
    let t = after_function said i.declarator false ps s in
    let c = function_signature s said i.declarator false ps in
    function_keeps said s t t i.declarator.name false Always c (λ g. function_initialiser t i.initialiser [])
    (signature_is s said i.declarator false ps Always (always (typed_parameters (entered s) false ps))) refl refl

outer_item_one : (said : Specified) (i : ItemTree) (p : PartTree) (s : Scope)
    → IfFits (λ fs. Keeps s (after_outer_item said i p s)) (typed_outer_item said i p s)
outer_item_one said i parts.Plain s = object_one said i s
outer_item_one said i (parts.Array a) s = object_one said i s
outer_item_one said i (parts.Function ps) s = prototype_one said i ps.parameters s

both_keep : (s t u : Scope) (c d : Checked (List tree.Function)) → IfFits (λ fs. Keeps s t) c
    → IfFits (λ fs. Keeps t u) d → IfFits (λ fs. Keeps s u) (both c d (λ fs gs. fits (fs ++ gs)))
both_keep s t u c d h k =
    holds_both (λ (fs : List tree.Function). Keeps s t) (λ (fs : List tree.Function). Keeps t u)
    (λ (fs : List tree.Function). Keeps s u) c d (λ fs gs. fits (fs ++ gs)) h k (λ fs gs x y a. y (x a))

outer_items_one : (said : Specified) (is : List ItemTree) (s : Scope)
    → IfFits (λ fs. Keeps s (after_outer_items said is s)) (typed_outer_items said is s)
outer_items_one said [] s = λ h. h
outer_items_one said (i ∷ is) s =
    let t = after_outer_item said i i.declarator.part s in
    both_keep s t (after_outer_items said is t) (typed_outer_item said i i.declarator.part s)
    (typed_outer_items said is t) (outer_item_one said i i.declarator.part s) (outer_items_one said is t)

definition_one : (said : Specified) (d : DeclaratorTree) (body : Stmt) → IsStmt body → (s : Scope)
    → IfFits (λ fs. Keeps s (after_definition said d body s)) (typed_definition said d body s)
definition_one said d body is s =
    let ps = parameters_in d.part in
    let outside = after_function said d true ps s in
    let first = at_body ps outside in
    let last = after_statements (body_of body) first in
    let a = grows_parameters (parameters_meant ps) (cleared outside) in
    let b = grows_statements (body_of body) (each_of_body body is) first in
    function_keeps said s outside (after_definition said d body s) d.name true Always
    (function_signature s said d true ps) (λ g.
    if_fits (typed_statements (in_function g.result) (body_of body) first) (λ statements.
    defined said d.name s g (function_with d.name g first last statements)))
    (signature_is s said d true ps Always (always (typed_parameters (entered s) true ps))) refl (b.outer ∙ a.outer)

external_one : (e : ExternalTree) → IsExternal e → (s : Scope)
    → IfFits (λ fs. Keeps s (after_external e s)) (typed_external e s)
external_one (FunctionTree specifiers d body) is s = by_said (specified Outside specifiers)
  where
    by_said : (o : Option Specified)
        → IfFits (λ (fs : List tree.Function). Keeps s (after_said o (FunctionTree specifiers d body) s))
        (if_fits (or_fails o TypeRule (first_word specifiers)) (λ said. typed_definition said d body s))
    by_said None = tt
    by_said (Some said) =
        holds_noted (λ (fs : List tree.Function). Keeps s (after_definition said d body s)) []
        (typed_definition said d body s) (definition_one said d body is.3 s)
external_one (DeclaredTree d) is s = by_said (specified Outside d.specifiers)
  where
    by_said : (o : Option Specified)
        → IfFits (λ (fs : List tree.Function). Keeps s (after_said o (DeclaredTree d) s))
        (if_fits (or_fails o TypeRule (first_word d.specifiers)) (λ said. typed_outer_items said d.items s))
    by_said None = tt
    by_said (Some said) =
        holds_noted (λ (fs : List tree.Function). Keeps s (after_outer_items said d.items s)) []
        (typed_outer_items said d.items s) (outer_items_one said d.items s)

unit_one : (es : List ExternalTree) → AllByRecursion IsExternal es → (s : Scope)
    → IfFits (λ fs. Keeps s (after_unit es s)) (typed_unit es s)
unit_one [] is s = λ h. h
unit_one (e ∷ es) is s =
    let t = after_external e s in
    both_keep s t (after_unit es t) (typed_external e s) (typed_unit es t) (external_one e is.0 s) (unit_one es is.1 t)

pub units_one : (us : List (List ExternalTree)) → AllByRecursion (AllByRecursion IsExternal) us → (s : Scope)
    → IfFits (λ fs. Keeps s (after_units us s)) (typed_units us s)
units_one [] is s = λ h. h
units_one (u ∷ us) is s =
    let t = after_unit u s in
    let n = next_file t in
    both_keep s t (after_units us n) (typed_unit u s) (typed_units us n) (unit_one u is.0 s) (units_one us is.1 n)
