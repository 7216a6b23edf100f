-- Each part of a typed program has a token of its own, and its constants are signed numbers of 32 bits.
use Rattle.std.proofs.Common.{arith, ◌≡◌, refl, ap, subst, ℕ, ◌+◌, ◌≤◌, Bool, true, false}
use Rattle.std.proofs.Common.{List, [], ◌∷◌, ◌++◌, length, length-append}
use Rattle.std.specs.Prelude.{Option, Some, None, is_some, unwrap_or, flat_map, sum_by, if◌then◌else◌}
use Rattle.std.specs.List.{AllByRecursion}
use Rattle.std.proofs.lemmas.List.Sums.{sum_by-cons}
use Rattle.std.proofs.lemmas.List.Elements.{All-from_recursion, recursion_from_All}
use Rattle.std.proofs.lemmas.Option.{none-some}
use Rattle.pcc_base.specs.declared.span.Span.{Span}
use Rattle.pcc_base.proofs.Lists.{all-append}
use Rattle.c_lex.specs.declared.token.Token.{Token}
use Rattle.c_lex.specs.declared.token.Punct.TheVariants as marks
use Rattle.c_syntax.specs.declared.expression.Identifier.{Identifier}
use Rattle.c_syntax.specs.declared.expression.Specifier.{Specifier}
use Rattle.c_syntax.specs.ExpressionTokens.{specifiers_tokens, pointer_tokens, IsSpecifiers}
use Rattle.c_syntax.specs.Declarations as trees
use Rattle.c_syntax.specs.Declarations.{ItemTree, DeclaratorTree, ParameterTree, PartTree}
use Rattle.c_syntax.specs.DeclarationTokens.{declarator_tokens, part_tokens, parameter_tokens, separated, followed}
use Rattle.c_syntax.specs.DeclarationTokens.{maybe_name_tokens, maybe_array_tokens, AreApart, IsPart, IsParameter}
use Rattle.c_syntax.specs.Marks.{mark}
use Rattle.c_syntax.specs.Grammar.{external_tokens, unit_tokens, IsBlock, IsExternal}
use Rattle.c_syntax.specs.Statements as stmts
use Rattle.c_syntax.specs.Statements.{Stmt, ExternalTree, FunctionTree, DeclaredTree}
use Rattle.c_syntax.specs.StatementTokens.{stmt_tokens, stmts_tokens, IsStmt}
use Rattle.c_tree.specs.Program as tree
use Rattle.c_tree.specs.Program.{Program, Statements}
use Rattle.c_tree.specs.Sizes.{function_size}
use Rattle.c_tree.specs.declared.types.ValueType.{ValueType}
use Rattle.c_typing.specs.Types.{Outside, Specified}
use Rattle.c_typing.specs.Checked.{Checked, Fits, Fails, Contents, Note, fits, also, both, if_fits, value_in}
use Rattle.c_typing.specs.Declarators.{ObjectType, object_declared}
use Rattle.c_typing.specs.Declarators.{object_allowed, with_named, with_parameter, with_parameters, parameters_meant}
use Rattle.c_typing.specs.Declarators.{typed_parameter, is_void_parameter}
use Rattle.c_typing.specs.Declarators.{type_faults}
use Rattle.c_typing.specs.Expressions.{specifiers_at}
use Rattle.c_typing.specs.Initialisers.{contents_for}
use Rattle.c_typing.specs.Initialisers.{function_initialiser}
use Rattle.c_typing.specs.Library.{Entity}
use Rattle.c_typing.specs.Names.{Scope, entered, next_file, first_scope, Numbers}
use Rattle.c_typing.specs.Statements.{stored, typed_statements, after_statements, Around}
use Rattle.c_typing.specs.Files.{outer_of, redeclared_faults, function_signature}
use Rattle.c_typing.specs.Files.{after_function, without_value}
use Rattle.c_typing.specs.Files.{after_object}
use Rattle.c_typing.specs.Files.{typed_object, typed_prototype, after_outer_item, typed_outer_item}
use Rattle.c_typing.specs.Files.{typed_outer_items, parameters_in, body_of, at_body, function_with, defined}
use Rattle.c_typing.specs.Files.{in_function}
use Rattle.c_typing.specs.Files.{typed_definition, after_external, typed_external}
use Rattle.c_typing.specs.Files.{after_unit, typed_unit, typed_units}
use Rattle.c_typing.specs.Files.{sized_object}
use Rattle.c_typing.specs.Laws.{AreSources, HasIntIfAny}
use Rattle.c_typing.specs.Typed.{Typed, checked, numbers_in, notes_of, program_with}
use Rattle.c_typing.proofs.CountUp.{Always, IfFits, always, holds_also, holds_both, holds_if}
use Rattle.c_check_laws.proofs.Files.{arrays_declared}
use Rattle.c_check_laws.proofs.Ranged.{HasInts}
use Rattle.lower_lines.specs.Words.{StatementsHaveWords}
use Rattle.pcc_program.specs.LimitLaws.{KeepsWords}
use Rattle.pcc_program.proofs.Bounds.{limits-bound}
use Rattle.pcc_program.specs.MemoryLaws.{SourcesAreInMemory}
use Rattle.c_typing.proofs.FilesCountUp.{by_initialiser}
use Rattle.pcc_program.specs.TokensLaws.{PartsHaveTokens}
use Rattle.pcc_program.proofs.Expressions.{cut}
use Rattle.pcc_program.proofs.Items.{holds_map}
use Rattle.pcc_program.proofs.Statements.{RowFine, items_fine, total_own, total_most}

abbrev functions_total : List tree.Function → ℕ
functions_total [] = 0
functions_total (f ∷ fs) = function_size f + functions_total fs

abbrev BodyHasWords : tree.Function → Type 0
BodyHasWords f = StatementsHaveWords f.body

abbrev FunctionsFine : ℕ → List tree.Function → Type 0
FunctionsFine n fs = (functions_total fs ≤ n) × AllByRecursion BodyHasWords fs

total_append : (fs gs : List tree.Function) → functions_total (fs ++ gs) ≡ functions_total fs + functions_total gs
total_append [] gs = omega arith
total_append (f ∷ fs) gs = let h = total_append fs gs in omega (arith, h)

both_fine : (m k n : ℕ) (c d : Checked (List tree.Function)) → m + k ≤ n → IfFits (FunctionsFine m) c
    → IfFits (FunctionsFine k) d → IfFits (FunctionsFine n) (both c d (λ fs gs. fits (fs ++ gs)))
both_fine m k n c d l h g =
    holds_both (FunctionsFine m) (FunctionsFine k) (FunctionsFine n) c d (λ fs gs. fits (fs ++ gs)) h g
    (λ fs gs u v. let a = u.0 in let b = v.0 in let e = total_append fs gs in
    (omega (arith, l, a, b, e), all-append BodyHasWords fs gs u.1 v.1))

-- ---- what defines no function

stored_none : (e : Entity) (type : ObjectType) (c : Checked Contents)
    → IfFits (FunctionsFine 0) (stored e type [] c)
stored_none e type (Fits a ns) = (omega arith, tt)
stored_none e type (Fails f fs) = tt

sized_none : (said : Specified) (i : ItemTree) (s : Scope) → IfFits (FunctionsFine 0) (sized_object said i s)
sized_none said i s =
    let name = i.declarator.name in
    let whole = is_some i.initialiser in
    holds_if Always (FunctionsFine 0) (object_declared s said i.declarator i.initialiser)
    (λ type. also (redeclared_faults s name (outer_of s said name whole type))
    (if_fits (object_allowed true name.at type) (λ allowed. stored (outer_of s said name whole type).entity allowed []
    (contents_for (after_object said i s) allowed (without_value said) i.initialiser))))
    (always (object_declared s said i.declarator i.initialiser)) (λ type x.
    holds_also (FunctionsFine 0) (redeclared_faults s name (outer_of s said name whole type))
    (if_fits (object_allowed true name.at type) (λ allowed. stored (outer_of s said name whole type).entity allowed []
    (contents_for (after_object said i s) allowed (without_value said) i.initialiser)))
    (holds_if Always (FunctionsFine 0) (object_allowed true name.at type) (λ allowed.
    stored (outer_of s said name whole type).entity allowed []
    (contents_for (after_object said i s) allowed (without_value said) i.initialiser))
    (always (object_allowed true name.at type)) (λ allowed y.
    stored_none (outer_of s said name whole type).entity allowed
    (contents_for (after_object said i s) allowed (without_value said) i.initialiser))))

object_none : (said : Specified) (i : ItemTree) (s : Scope) → IfFits (FunctionsFine 0) (typed_object said i s)
object_none said i s =
    holds_also (FunctionsFine 0) (type_faults true said i.declarator) (sized_object said i s) (sized_none said i s)

prototype_none : (said : Specified) (i : ItemTree) (ps : List ParameterTree) (s : Scope)
    → IfFits (FunctionsFine 0) (typed_prototype said i ps s)
prototype_none said i ps s =
    let t = after_function said i.declarator false ps s in
    holds_if Always (FunctionsFine 0) (function_signature s said i.declarator false ps)
    (λ g. function_initialiser t i.initialiser []) (always (function_signature s said i.declarator false ps))
    (λ g x. by_initialiser (IfFits (FunctionsFine 0)) t i.initialiser [] (omega arith, tt) (λ f fs. tt))

outer_item_none : (said : Specified) (i : ItemTree) (p : PartTree) (s : Scope)
    → IfFits (FunctionsFine 0) (typed_outer_item said i p s)
outer_item_none said i trees.Plain s = object_none said i s
outer_item_none said i (trees.Array a) s = object_none said i s
outer_item_none said i (trees.Function ps) s = prototype_none said i ps.parameters s

outer_items_none : (said : Specified) (is : List ItemTree) (s : Scope)
    → IfFits (FunctionsFine 0) (typed_outer_items said is s)
outer_items_none said [] s = (omega arith, tt)
outer_items_none said (i ∷ is) s =
    let t = after_outer_item said i i.declarator.part s in
    both_fine 0 0 0 (typed_outer_item said i i.declarator.part s) (typed_outer_items said is t) (omega arith)
    (outer_item_none said i i.declarator.part s) (outer_items_none said is t)

-- ---- parameters

named_locals : (s : Scope) (o : Option Identifier) (t : Option ValueType)
    → length (with_named s o t).locals ≤ length s.locals + 1
named_locals s None None = omega arith
named_locals s None (Some t) = omega arith
named_locals s (Some name) None = omega arith
named_locals s (Some name) (Some t) =
    let e = length-append s.locals (record { name = name.name; of = t } ∷ []) in omega (arith, e)

parameters_locals : (s : Scope) (ps : List ParameterTree)
    → length (with_parameters s ps).locals ≤ length s.locals + length ps
parameters_locals s [] = omega arith
parameters_locals s (p ∷ ps) =
    let h = parameters_locals (with_parameter s p) ps in
    let k = named_locals s p.name (value_in (typed_parameter s false p)) in
    omega (arith, h, k)

one_meant : (b : Bool) (p : ParameterTree) → length (if b then [] else p ∷ []) ≤ 1
one_meant true p = omega arith
one_meant false p = omega arith

meant_most : (ps : List ParameterTree) → length (parameters_meant ps) ≤ length ps
meant_most [] = omega arith
meant_most (p ∷ []) = one_meant (is_void_parameter p) p
meant_most (p ∷ (q ∷ ps)) = omega arith

some_specifiers : (ss : List Specifier) → IsSpecifiers ss → 1 ≤ length (specifiers_tokens ss)
some_specifiers [] h = absurd h
some_specifiers (s ∷ ss) h = omega arith

some_parameter : (p : ParameterTree) → IsParameter p → 1 ≤ length (parameter_tokens p)
some_parameter p h =
    let k = some_specifiers p.specifiers h.0 in
    let l = length-append (specifiers_tokens p.specifiers)
    (pointer_tokens p.pointer ++ (maybe_name_tokens p.name ++ maybe_array_tokens p.array)) in
    omega (arith, k, l)

followed_most : (ps : List ParameterTree) (commas : List Span) → length commas ≡ length ps
    → length ps ≤ length (followed parameter_tokens ps commas)
followed_most [] commas e = omega arith
followed_most (p ∷ ps) [] e = absurd (omega (arith, e))
followed_most (p ∷ ps) (at ∷ commas) e =
    let h = followed_most ps commas (omega (arith, e)) in
    let l = length-append (parameter_tokens p) (followed parameter_tokens ps commas) in
    omega (arith, h, l)

separated_most : (ps : List ParameterTree) (commas : List Span) → AllByRecursion IsParameter ps → AreApart ps commas
    → length ps ≤ length (separated parameter_tokens ps commas)
separated_most [] commas is e = omega arith
separated_most (p ∷ ps) commas is e =
    let h = followed_most ps commas e in
    let k = some_parameter p is.0 in
    let l = length-append (parameter_tokens p) (followed parameter_tokens ps commas) in
    omega (arith, h, k, l)

parameters_most : (part : PartTree) → IsPart part → length (parameters_in part) ≤ length (part_tokens part)
parameters_most trees.Plain is = omega arith
parameters_most (trees.Array a) is = omega arith
parameters_most (trees.Function p) is =
    let T = separated parameter_tokens p.parameters p.commas in
    let h = separated_most p.parameters p.commas is.0 is.1 in
    let l = length-append T (mark marks.RightParen p.close ∷ []) in
    omega (arith, h, l)

-- ---- definitions

abbrev BodyFine : Around → Stmt → Scope → Type 0
BodyFine w st s = IfFits (RowFine (length (stmt_tokens st))) (typed_statements w (body_of st) s)

block_fine : (w : Around) (st : Stmt) (s : Scope) → IsStmt st → IsBlock st → HasInts (stmt_tokens st) → BodyFine w st s
block_fine w (stmts.Block o items c) s is block h =
    let p = cut (stmts_tokens items) (_ ∷ []) h.1 in
    let l = p.2 in
    let k = total_most items in
    holds_map (RowFine (total_own items)) (RowFine (length (stmt_tokens (stmts.Block o items c))))
    (typed_statements w items s) (items_fine w items s is p.0)
    (λ body u. let a = u.0 in (omega (arith, a, l, k), u.1))
block_fine w (stmts.Declared d) s is block h = absurd block
block_fine w (stmts.Labelled ls st) s is block h = absurd block
block_fine w (stmts.Simple e semicolon) s is block h = absurd block
block_fine w (stmts.If at o e c st) s is block h = absurd block
block_fine w (stmts.IfElse at o e c st otherwise other) s is block h = absurd block
block_fine w (stmts.Switch at o e c begin items end) s is block h = absurd block
block_fine w (stmts.While at o e c st) s is block h = absurd block
block_fine w (stmts.Do at st until o e c semicolon) s is block h = absurd block
block_fine w (stmts.For at o start first e second step c st) s is block h = absurd block
block_fine w (stmts.ForDeclaration at o start e second step c st) s is block h = absurd block
block_fine w (stmts.Break at semicolon) s is block h = absurd block
block_fine w (stmts.Continue at semicolon) s is block h = absurd block
block_fine w (stmts.Return at e semicolon) s is block h = absurd block

definition_fine : (said : Specified) (specifiers : List Specifier) (d : DeclaratorTree) (body : Stmt) (s : Scope)
    → IsExternal (FunctionTree specifiers d body) → HasInts (external_tokens (FunctionTree specifiers d body))
    → IfFits (FunctionsFine (length (external_tokens (FunctionTree specifiers d body))))
    (typed_definition said d body s)
definition_fine said specifiers d body s is h =
    let B = stmt_tokens body in
    let D = declarator_tokens d in
    let p = cut (specifiers_tokens specifiers) (D ++ B) h in
    let q = cut D B p.1 in
    let r = cut (pointer_tokens d.pointer) (_ ∷ part_tokens d.part) q.0 in
    let i = p.2 in
    let j = q.2 in
    let k = r.2 in
    let n = length (external_tokens (FunctionTree specifiers d body)) in
    let ps = parameters_in d.part in
    let outside = after_function said d true ps s in
    let first = at_body ps outside in
    let begins : Scope = record (entered outside) { locals = []; arrays = [] } in
    let a = parameters_locals begins (parameters_meant ps) in
    let b = meant_most ps in
    let c = parameters_most d.part is.1 in
    holds_if Always (FunctionsFine n) (function_signature s said d true ps)
    (λ g. if_fits (typed_statements (in_function g.result) (body_of body) first) (λ statements.
    defined said d.name s g (function_with d.name g first (after_statements (body_of body) first) statements)))
    (always (function_signature s said d true ps)) (λ g x.
    holds_if (RowFine (length B)) (FunctionsFine n)
    (typed_statements (in_function g.result) (body_of body) first) (λ statements.
    defined said d.name s g (function_with d.name g first (after_statements (body_of body) first) statements))
    (block_fine (in_function g.result) body first is.3 is.4 q.1)
    (λ sts u. let t = u.0 in (omega (arith, i, j, k, a, b, c, t), (u.1, tt))))

-- ---- files

external_fine : (e : ExternalTree) (s : Scope) → IsExternal e → HasInts (external_tokens e)
    → IfFits (FunctionsFine (length (external_tokens e))) (typed_external e s)
external_fine (FunctionTree specifiers d body) s is h =
    holds_if Always (FunctionsFine (length (external_tokens (FunctionTree specifiers d body))))
    (specifiers_at Outside specifiers) (λ said. typed_definition said d body s)
    (always (specifiers_at Outside specifiers)) (λ said u. definition_fine said specifiers d body s is h)
external_fine (DeclaredTree d) s is h =
    let n = length (external_tokens (DeclaredTree d)) in
    holds_if Always (FunctionsFine n) (specifiers_at Outside d.specifiers) (λ said. typed_outer_items said d.items s)
    (always (specifiers_at Outside d.specifiers)) (λ said u.
    holds_map (FunctionsFine 0) (FunctionsFine n) (typed_outer_items said d.items s) (outer_items_none said d.items s)
    (λ fs v. let a = v.0 in (omega (arith, a), v.1)))

unit_fine : (es : List ExternalTree) (s : Scope) → AllByRecursion IsExternal es → HasInts (unit_tokens es)
    → IfFits (FunctionsFine (length (unit_tokens es))) (typed_unit es s)
unit_fine [] s is h = (omega arith, tt)
unit_fine (e ∷ es) s is h =
    let t = after_external e s in
    let p = cut (external_tokens e) (unit_tokens es) h in
    let l = p.2 in
    both_fine (length (external_tokens e)) (length (unit_tokens es)) _ (typed_external e s) (typed_unit es t)
    (omega (arith, l)) (external_fine e s is.0 p.0) (unit_fine es t is.1 p.1)

units_fine : (us : List (List ExternalTree)) (s : Scope) → AllByRecursion (AllByRecursion IsExternal) us
    → HasInts (flat_map unit_tokens us) → IfFits (FunctionsFine (length (flat_map unit_tokens us))) (typed_units us s)
units_fine [] s is h = (omega arith, tt)
units_fine (u ∷ us) s is h =
    let t = next_file (after_unit u s) in
    let p = cut (unit_tokens u) (flat_map unit_tokens us) h in
    let l = p.2 in
    both_fine (length (unit_tokens u)) (length (flat_map unit_tokens us)) _ (typed_unit u s) (typed_units us t)
    (omega (arith, l)) (unit_fine u s is.0 p.0) (units_fine us t is.1 p.1)

fine_in : (n : ℕ) (c : Checked (List tree.Function)) (numbers : Numbers) (notes : List Note) (p : Program)
    → IfFits (FunctionsFine n) c → program_with numbers notes (value_in c) ≡ Some p → FunctionsFine n p.functions
fine_in n (Fits fs ns) numbers notes p h e =
    subst (λ gs. FunctionsFine n gs) (ap (λ o. (unwrap_or o p).functions) e) h
fine_in n (Fails f fs) numbers notes p h e = absurd (none-some p e)

total_is : (fs : List tree.Function) → sum_by function_size fs ≡ functions_total fs
total_is [] = refl
total_is (f ∷ fs) = let h = total_is fs in let c = sum_by-cons function_size f fs in omega (arith, h, c)

keeps : (fs : List tree.Function) → AllByRecursion BodyHasWords fs
    → AllByRecursion (λ (f : tree.Function). length f.arrays ≤ function_size f) fs → AllByRecursion KeepsWords fs
keeps [] h g = tt
keeps (f ∷ fs) h g = (record { body = h.0; declared = g.0 }, keeps fs h.1 g.1)

functions_fine : (units : List (List ExternalTree)) (p : Program) → AreSources units → Typed units p
    → FunctionsFine (length (flat_map unit_tokens units)) p.functions
functions_fine units p sources typed =
    let T = flat_map unit_tokens units in
    let ints = recursion_from_All (λ (t : Token). HasIntIfAny t.kind) T sources.numbers in
    fine_in (length T) (checked units) (numbers_in units) (notes_of units) p
    (units_fine units (first_scope (numbers_in units)) sources.trees ints) typed.is

pub parts_have_tokens : PartsHaveTokens
parts_have_tokens units p sources typed =
    let a = (functions_fine units p sources typed).0 in
    let e = total_is p.functions in
    omega (arith, a, e)

pub sources_are_in_memory : SourcesAreInMemory
sources_are_in_memory units p sources few accepted =
    let fine = functions_fine units p sources accepted.typed in
    let declared = recursion_from_All (λ (f : tree.Function). length f.arrays ≤ function_size f) p.functions
    (arrays_declared units p accepted.typed) in
    let a = parts_have_tokens units p sources accepted.typed in
    limits-bound p accepted.small (All-from_recursion KeepsWords p.functions (keeps p.functions fine.1 declared))
    (omega (arith, few, a))
