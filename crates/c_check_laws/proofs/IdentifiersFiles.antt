-- The functions of files, their locals and their arrays have identifiers as names.
use Rattle.std.proofs.Common.{◌≡◌, ap, sym, subst, List, [], ◌∷◌, ◌++◌, true}
use Rattle.std.specs.Prelude.{Some, flat_map, unwrap_or}
use Rattle.std.specs.List.{AllByRecursion}
use Rattle.std.proofs.lemmas.Option.{none-some}
use Rattle.c_syntax.specs.declared.expression.Specifier.{Specifier}
use Rattle.c_syntax.specs.Declarations as trees
use Rattle.c_syntax.specs.Declarations.{DeclaratorTree, PartTree}
use Rattle.c_syntax.specs.DeclarationTokens.{IsPart, declarator_tokens, parameter_tokens, part_tokens, separated}
use Rattle.c_syntax.specs.ExpressionTokens.{pointer_tokens, specifiers_tokens}
use Rattle.c_syntax.specs.Grammar.{IsBlock, IsExternal, external_tokens, unit_tokens}
use Rattle.c_syntax.specs.Statements as stmts
use Rattle.c_syntax.specs.Statements.{Stmt, ExternalTree, FunctionTree, DeclaredTree}
use Rattle.c_syntax.specs.StatementTokens.{IsStmt, stmt_tokens, stmts_tokens}
use Rattle.c_tree.specs.Program as tree
use Rattle.c_tree.specs.Program.{Program}
use Rattle.c_typing.specs.Types.{Outside, Specified}
use Rattle.c_typing.specs.Checked.{Checked, Fits, Fails, Note, fits, both, if_fits, value_in}
use Rattle.c_typing.specs.Declarators.{parameters_meant}
use Rattle.c_typing.specs.Expressions.{specifiers_at}
use Rattle.c_typing.specs.Files.{after_external, after_function, after_unit, at_body, body_of, defined}
use Rattle.c_typing.specs.Files.{function_signature}
use Rattle.c_typing.specs.Files.{function_with, in_function, parameters_in, typed_definition, typed_external}
use Rattle.c_typing.specs.Files.{typed_outer_items, typed_unit, typed_units}
use Rattle.c_typing.specs.Names.{Numbers, Scope, entered, first_scope, next_file}
use Rattle.c_typing.specs.Statements.{after_statements, typed_statements}
use Rattle.c_typing.specs.Typed.{checked, notes_of, numbers_in, program_with}
use Rattle.c_typing.proofs.CountUp.{Always, IfFits, always, holds_both, holds_if}
use Rattle.c_check_laws.proofs.Files.{IsNone, outer_items_none}
use Rattle.c_check_laws.specs.IdentifiersLaws.{ProgramsHaveNames}
use Rattle.c_check_laws.specs.Named.{AreSpelled, IsNamed}
use Rattle.c_check_laws.proofs.Scoped.{HasNames, IsParameterSpelled, back, block_names, front, meant_spelled}
use Rattle.c_check_laws.proofs.Scoped.{parameters_names, separated_spelled}

abbrev Named : List tree.Function → Type 0
Named fs = AllByRecursion IsNamed fs

named_on : (fs gs : List tree.Function) → Named fs → Named gs → Named (fs ++ gs)
named_on [] gs h g = g
named_on (f ∷ fs) gs h g = (h.0, named_on fs gs h.1 g)

both_named : (c d : Checked (List tree.Function)) → IfFits Named c → IfFits Named d
    → IfFits Named (both c d (λ fs gs. fits (fs ++ gs)))
both_named c d h g =
    holds_both Named Named Named c d (λ fs gs. fits (fs ++ gs)) h g (λ fs gs x y. named_on fs gs x y)

none_named : (c : Checked (List tree.Function)) → IfFits IsNone c → IfFits Named c
none_named (Fits fs ns) e = subst (λ gs. Named gs) (sym e) tt
none_named (Fails f fs) e = tt

-- ---- definitions

parameters_spelled : (part : PartTree) → IsPart part → AreSpelled (part_tokens part)
    → AllByRecursion IsParameterSpelled (parameters_in part)
parameters_spelled trees.Plain is h = tt
parameters_spelled (trees.Array a) is h = tt
parameters_spelled (trees.Function p) is h =
    separated_spelled parameter_tokens p.parameters p.commas is.1
    (front (separated parameter_tokens p.parameters p.commas) (_ ∷ []) h.1)

body_names : (body : Stmt) (s : Scope) → IsStmt body → IsBlock body → AreSpelled (stmt_tokens body) → HasNames s
    → HasNames (after_statements (body_of body) s)
body_names (stmts.Block o items c) s is block h n = block_names items s is (front (stmts_tokens items) (_ ∷ []) h.1) n
body_names (stmts.Declared d) s is block h n = absurd block
body_names (stmts.Labelled ls st) s is block h n = absurd block
body_names (stmts.Simple e semicolon) s is block h n = absurd block
body_names (stmts.If at o e c st) s is block h n = absurd block
body_names (stmts.IfElse at o e c st otherwise other) s is block h n = absurd block
body_names (stmts.Switch at o e c begin items end) s is block h n = absurd block
body_names (stmts.While at o e c st) s is block h n = absurd block
body_names (stmts.Do at st until o e c semicolon) s is block h n = absurd block
body_names (stmts.For at o start first e second step c st) s is block h n = absurd block
body_names (stmts.ForDeclaration at o start e second step c st) s is block h n = absurd block
body_names (stmts.Break at semicolon) s is block h n = absurd block
body_names (stmts.Continue at semicolon) s is block h n = absurd block
body_names (stmts.Return at e semicolon) s is block h n = absurd block

definition_named : (said : Specified) (specifiers : List Specifier) (d : DeclaratorTree) (body : Stmt) (s : Scope)
    → IsExternal (FunctionTree specifiers d body) → AreSpelled (external_tokens (FunctionTree specifiers d body))
    → IfFits Named (typed_definition said d body s)
definition_named said specifiers d body s is h =
    let B = stmt_tokens body in
    let D = declarator_tokens d in
    let q = back (specifiers_tokens specifiers) (D ++ B) h in
    let r = back (pointer_tokens d.pointer) (_ ∷ part_tokens d.part) (front D B q) in
    let ps = parameters_in d.part in
    let outside = after_function said d true ps s in
    let first = at_body ps outside in
    let last = after_statements (body_of body) first in
    let begins : Scope = record (entered outside) { locals = []; arrays = [] } in
    let n : HasNames first =
    parameters_names (parameters_meant ps) begins (meant_spelled ps (parameters_spelled d.part is.1 r.1)) (tt, tt) in
    let m : HasNames last = body_names body first is.3 is.4 (back D B q) n in
    holds_if Always Named (function_signature s said d true ps)
    (λ g. if_fits (typed_statements (in_function g.result) (body_of body) first) (λ statements.
    defined said d.name s g (function_with d.name g first last statements)))
    (always (function_signature s said d true ps)) (λ g x.
    holds_if Always Named (typed_statements (in_function g.result) (body_of body) first) (λ statements.
    defined said d.name s g (function_with d.name g first last statements))
    (always (typed_statements (in_function g.result) (body_of body) first))
    (λ sts u. (record { name = r.0; locals = m.0; arrays = m.1 }, tt)))

-- ---- files

external_named : (e : ExternalTree) (s : Scope) → IsExternal e → AreSpelled (external_tokens e)
    → IfFits Named (typed_external e s)
external_named (FunctionTree specifiers d body) s is h =
    holds_if Always Named (specifiers_at Outside specifiers) (λ said. typed_definition said d body s)
    (always (specifiers_at Outside specifiers)) (λ said u. definition_named said specifiers d body s is h)
external_named (DeclaredTree d) s is h =
    holds_if Always Named (specifiers_at Outside d.specifiers) (λ said. typed_outer_items said d.items s)
    (always (specifiers_at Outside d.specifiers)) (λ said u.
    none_named (typed_outer_items said d.items s) (outer_items_none said d.items s))

unit_named : (es : List ExternalTree) (s : Scope) → AllByRecursion IsExternal es → AreSpelled (unit_tokens es)
    → IfFits Named (typed_unit es s)
unit_named [] s is h = tt
unit_named (e ∷ es) s is h =
    let t = after_external e s in
    both_named (typed_external e s) (typed_unit es t)
    (external_named e s is.0 (front (external_tokens e) (unit_tokens es) h))
    (unit_named es t is.1 (back (external_tokens e) (unit_tokens es) h))

units_named : (us : List (List ExternalTree)) (s : Scope) → AllByRecursion (AllByRecursion IsExternal) us
    → AreSpelled (flat_map unit_tokens us) → IfFits Named (typed_units us s)
units_named [] s is h = tt
units_named (u ∷ us) s is h =
    let t = next_file (after_unit u s) in
    both_named (typed_unit u s) (typed_units us t)
    (unit_named u s is.0 (front (unit_tokens u) (flat_map unit_tokens us) h))
    (units_named us t is.1 (back (unit_tokens u) (flat_map unit_tokens us) h))

named_in : (c : Checked (List tree.Function)) (numbers : Numbers) (notes : List Note) (p : Program)
    → IfFits Named c → program_with numbers notes (value_in c) ≡ Some p → Named p.functions
named_in (Fits fs ns) numbers notes p h e = subst (λ gs. Named gs) (ap (λ o. (unwrap_or o p).functions) e) h
named_in (Fails f fs) numbers notes p h e = absurd (none-some p e)

pub programs_have_names : ProgramsHaveNames
programs_have_names units p is h t =
    named_in (checked units) (numbers_in units) (notes_of units) p
    (units_named units (first_scope (numbers_in units)) is h) t.is
