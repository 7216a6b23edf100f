-- External declarations and files, of parts that are answered, and the scope behind each.
use Rattle.std.proofs.Common.{◌≡◌, sym, ap, ◌∙◌, subst, ℕ, ◌+◌, ◌<◌, List, [], ◌∷◌, ◌++◌, length, map}
use Rattle.std.proofs.Common.{drop, get_or, Option, Some, None}
use Rattle.std.proofs.lemmas.List.{append-nil, map-append}
use Rattle.pcc_base.specs.declared.fault.Fault.{Fault}
use Rattle.c_syntax.specs.declared.expression.Specifier.{Specifier}
use Rattle.c_syntax.specs.declared.unit.External.{External}
use Rattle.c_syntax.specs.declared.unit.RawUnit.{RawUnit}
use Rattle.c_syntax.specs.Declarations.{DeclaratorTree}
use Rattle.c_syntax.specs.Statements.{FunctionTree, Stmt, external_of, unit_of}
use Rattle.c_tree.specs.declared.program.Function.{Function as Built}
use Rattle.c_tree.specs.Erased.{function_of}
use Rattle.c_tree.specs.Program.{Function}
use Rattle.c_typing.specs.Checked.{Note}
use Rattle.c_typing.specs.Expressions.{specifiers_at}
use Rattle.c_typing.specs.Files.{after_external, after_unit, typed_definition, typed_external, typed_unit, typed_units}
use Rattle.c_typing.specs.Names.{Scope, next_file}
use Rattle.c_typing.specs.Types as types
use Rattle.c_check_expressions.specs.declared.judged.Judged.{Judged}
use Rattle.c_check_expressions.specs.declared.judged.Judged.TheVariants as answers
use Rattle.c_check_expressions.specs.Said.{IsSaid}
use Rattle.c_check_declarations.specs.declared.specifiers.Specified.{Specified}
use Rattle.c_check_declarations.specs.DeclaratorAnswers.{IsSpecified}
use Rattle.c_check_declarations.specs.Views.{specified_of}
use Rattle.c_check_declarations.specs.Together.{maybe_listed}
use Rattle.c_check_declarations.proofs.Lists.{rejoined}
use Rattle.c_check_declarations.proofs.Rows.{fails_said, then_said}
use Rattle.c_check.specs.FileAnswers.{AreFunction}
use Rattle.c_check.proofs.Copied.{next_one}

-- ---- one external declaration

pub external_fails : (ss : List Specifier) (d : DeclaratorTree) (body : Stmt) (s : Scope) (f : Fault)
    (notes : List Note)
    → ((notes : List Note) → IsSaid IsSpecified (specifiers_at types.Outside ss) (answers.Fails f) notes notes)
    → IsSaid AreFunction (typed_external (FunctionTree ss d body) s) (answers.Fails f) notes notes
external_fails ss d body s f notes h =
    fails_said IsSpecified AreFunction (λ said. typed_definition said d body s) (specifiers_at types.Outside ss) f
    notes notes notes (h notes)

pub external_fits : (ss : List Specifier) (d : DeclaratorTree) (body : Stmt) (s : Scope) (said : Specified)
    (j : Judged (Option Built)) (before after : List Note)
    → ((notes : List Note) → IsSaid IsSpecified (specifiers_at types.Outside ss) (answers.Fits said) notes notes)
    → IsSaid AreFunction (typed_definition (specified_of said) d body s) j before after
    → IsSaid AreFunction (typed_external (FunctionTree ss d body) s) j before after
external_fits ss d body s said j before after h row =
    then_said IsSpecified AreFunction (λ x. typed_definition x d body s) (specifiers_at types.Outside ss) said j before
    before after (h before)
    (λ x same. subst (λ (y : types.Specified). IsSaid AreFunction (typed_definition y d body s) j before after) same
    row)

-- ---- lists

abbrev pub AreFunctionsOf : List Function → List Built → Type 0
AreFunctionsOf xs vs = map function_of vs ≡ xs

pub push_function : (xs ys : List Function) (vs : List Built) (o : Option Built) → map function_of vs ≡ xs
    → AreFunction ys o → map function_of (vs ++ maybe_listed o) ≡ (xs ++ ys)
push_function xs ys vs None h k = ap (map function_of) (append-nil vs) ∙ h ∙ sym (append-nil xs)
    ∙ ap (λ zs. xs ++ zs) k
push_function xs ys vs (Some f) h k = map-append function_of vs (f ∷ []) ∙ ap (λ zs. zs ++ function_of f ∷ []) h
    ∙ ap (λ zs. xs ++ zs) k

-- one more external declaration is judged
pub next_typed : (s t : Scope) (es : List External) (n : ℕ) (e : External) → n < length es → e ≡ get_or es n e
    → t ≡ after_external (external_of e) s
    → typed_unit (map external_of (drop n es)) s
    ≡ rejoined (typed_external (external_of e) s) (typed_unit (map external_of (drop (n + 1) es)) t)
next_typed s t es n e lt same h =
    ap (λ xs. typed_unit (map external_of xs) s) (next_one es n e lt same)
    ∙ ap (λ u. rejoined (typed_external (external_of e) s) (typed_unit (map external_of (drop (n + 1) es)) u)) (sym h)

pub next_scope : (s t : Scope) (es : List External) (n : ℕ) (e : External) → n < length es → e ≡ get_or es n e
    → t ≡ after_external (external_of e) s
    → after_unit (map external_of (drop (n + 1) es)) t ≡ after_unit (map external_of (drop n es)) s
next_scope s t es n e lt same h = ap (λ u. after_unit (map external_of (drop (n + 1) es)) u) h
    ∙ ap (λ xs. after_unit (map external_of xs) s) (sym (next_one es n e lt same))

-- one more file is judged
pub next_unit : (s t u : Scope) (us : List RawUnit) (n : ℕ) (v : RawUnit) → n < length us → v ≡ get_or us n v
    → t ≡ after_unit (unit_of v) s → u ≡ next_file t
    → typed_units (map unit_of (drop n us)) s
    ≡ rejoined (typed_unit (unit_of v) s) (typed_units (map unit_of (drop (n + 1) us)) u)
next_unit s t u us n v lt same h k =
    ap (λ xs. typed_units (map unit_of xs) s) (next_one us n v lt same)
    ∙ ap (λ x. rejoined (typed_unit (unit_of v) s) (typed_units (map unit_of (drop (n + 1) us)) x))
    (sym (k ∙ ap next_file h))
