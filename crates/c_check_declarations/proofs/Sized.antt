-- Sizes, arrays and parameters, of parts that are answered.
use Rattle.std.proofs.Common.{◌≡◌, refl, sym, ap, ◌∙◌, subst, ℕ, ℤ, suc, ◌+◌, ◌<◌, ◌≤◌, arith, List, [], ◌∷◌}
use Rattle.std.proofs.Common.{length, map, drop, get_or, Bool, Option}
use Rattle.std.proofs.Math.Seq.{drop-cons}
use Rattle.pcc_base.specs.declared.span.Span.{Span}
use Rattle.pcc_base.specs.declared.fault.Fault.{Fault}
use Rattle.c_syntax.specs.declared.expression.Specifier.{Specifier}
use Rattle.c_syntax.specs.declared.declaration.Parameter.{Parameter}
use Rattle.c_syntax.specs.Declarations.{ArrayTree, Array, DeclaratorTree, ParameterTree, PartTree, ValueTree}
use Rattle.c_syntax.specs.Declarations.{parameter_of}
use Rattle.c_tree.specs.Program.{Expression as Typed}
use Rattle.c_tree.specs.Erased.{boxed_of}
use Rattle.c_tree.specs.declared.types.ValueType.{ValueType}
use Rattle.c_check_expressions.specs.Constants.{IsConstant}
use Rattle.c_typing.specs.Checked.{Checked, Note, also, faults_in, fits, if_fits}
use Rattle.c_typing.specs.Constants.{constant_value}
use Rattle.c_typing.specs.Declarators.{at_least_one, count_by_value, object_declared, parameter_allowed}
use Rattle.c_typing.specs.Declarators.{parameter_faults, parameter_size, parameter_with, parameters_meant, part_type}
use Rattle.c_typing.specs.Declarators.{size_or, typed_each, typed_parameter, with_parameter, with_parameters}
use Rattle.c_typing.specs.Expressions.{specifiers_at}
use Rattle.c_typing.specs.Names.{Scope}
use Rattle.c_typing.specs.Types as types
use Rattle.c_typing.specs.Types.{DeclaredArray, InParameters, pointed}
use Rattle.c_check_names.specs.declared.meaning.Declared.{Declared}
use Rattle.c_check_expressions.specs.declared.judged.Operand.{Operand}
use Rattle.c_check_expressions.specs.declared.judged.Judged.{Judged}
use Rattle.c_check_expressions.specs.declared.judged.Judged.TheVariants as answers
use Rattle.c_check_expressions.specs.Judged.{IsOperandOf}
use Rattle.c_check_expressions.specs.Said.{IsSaid}
use Rattle.c_check_declarations.specs.declared.specifiers.Specified.{Specified}
use Rattle.c_check_declarations.specs.DeclaratorAnswers.{IsDeclared, IsSame, IsSpecified}
use Rattle.c_check_declarations.specs.Views.{specified_of}
use Rattle.c_check_declarations.proofs.Lists.{one_before}
use Rattle.c_check_declarations.proofs.Rows.{fails_said, then_said}

-- ---- sizes

pub size_said : (opening : Span) (o : Operand) (value : Option ℤ) (j : Judged ℕ) (c : Checked Typed)
    (before after : List Note)
    → ((e : Typed) → IsConstant e o.constant → constant_value e ≡ value)
    → ((notes : List Note) → IsSaid IsSame (at_least_one opening value) j notes notes)
    → IsSaid IsOperandOf c (answers.Fits o) before after
    → IsSaid IsSame (if_fits c (λ x. at_least_one opening (constant_value x))) j before after
size_said opening o value j c before after is row said =
    then_said IsOperandOf IsSame (λ x. at_least_one opening (constant_value x)) c o j before after after said
    (λ x same. subst (λ (v : Option ℤ). IsSaid IsSame (at_least_one opening v) j after after)
    (sym (subst (λ (e : Typed). constant_value e ≡ value) same.0 (is (boxed_of o.tree) same.1.0))) (row after))

pub array_said : (s : Scope) (said : types.Specified) (d : DeclaratorTree) (a : ArrayTree) (value : Option ValueTree)
    (of : Option ValueType) (given : Option ℕ) (count : Judged ℕ) (j : Judged Declared) (before after : List Note)
    → d.part ≡ Array a → of ≡ pointed said.base d.pointer → given ≡ count_by_value of value
    → IsSaid IsSame (size_or s a.opening given a.size) count before after
    → ((c : Checked ℕ) (before after : List Note) → IsSaid IsSame c count before after
    → IsSaid IsDeclared (if_fits c (λ n. fits (DeclaredArray of n))) j before after)
    → IsSaid IsDeclared (object_declared s said d value) j before after
array_said s said d a value of given count j before after part is size h row =
    subst (λ (p : PartTree). IsSaid IsDeclared (part_type s (pointed said.base d.pointer) value p) j before
    after)
    (sym part)
    (subst (λ (t : Option ValueType). IsSaid IsDeclared (part_type s t value (Array a)) j before after) is
    (row (size_or s a.opening (count_by_value of value) a.size) before after
    (subst (λ (g : Option ℕ). IsSaid IsSame (size_or s a.opening g a.size) count before after) size h)))

-- ---- a parameter

pub with_said : (at place : Span) (of means : Option ValueType) (part : Judged ValueType) → at ≡ place → of ≡ means
    → ((notes : List Note) → IsSaid IsSame (parameter_allowed at of) part notes notes) → (notes : List Note)
    → IsSaid IsSame (parameter_allowed place means) part notes notes
with_said at place of means part stands is said notes =
    subst (λ (p : Span). IsSaid IsSame (parameter_allowed p means) part notes notes) stands
    (subst (λ (t : Option ValueType). IsSaid IsSame (parameter_allowed at t) part notes notes) is (said notes))

pub with_faults : (at place : Span) (of means : Option ValueType) (fs : List Fault) → at ≡ place → of ≡ means
    → fs ≡ faults_in (parameter_allowed at of) → fs ≡ faults_in (parameter_allowed place means)
with_faults at place of means fs stands is h = h
    ∙ ap (λ (p : Span). faults_in (parameter_allowed p of)) stands
    ∙ ap (λ (t : Option ValueType). faults_in (parameter_allowed place t)) is

-- a parameter with such specifiers
abbrev pub based_row : Scope → Bool → ParameterTree → types.Specified → Checked ValueType
based_row s definition p said =
    also (faults_in (parameter_with said.base p)) (if_fits (parameter_size s p.array) (λ size.
    also (parameter_faults s definition p p.name) (parameter_with said.base p)))

pub specifiers_fail : (s : Scope) (definition : Bool) (p : ParameterTree) (ss : List Specifier) (f : Fault)
    → ss ≡ p.specifiers
    → ((notes : List Note) → IsSaid IsSpecified (specifiers_at InParameters ss) (answers.Fails f) notes notes)
    → (notes : List Note) → IsSaid IsSame (typed_parameter s definition p) (answers.Fails f) notes notes
specifiers_fail s definition p ss f h k notes =
    fails_said IsSpecified IsSame (based_row s definition p)
    (specifiers_at InParameters p.specifiers) f notes notes notes
    (subst (λ (xs : List Specifier). IsSaid IsSpecified (specifiers_at InParameters xs) (answers.Fails f) notes notes) h
    (k notes))

pub parameter_said : (s : Scope) (definition : Bool) (p : ParameterTree) (ss : List Specifier) (said : Specified)
    (j : Judged ValueType) (before after : List Note) → ss ≡ p.specifiers
    → ((notes : List Note) → IsSaid IsSpecified (specifiers_at InParameters ss) (answers.Fits said) notes notes)
    → IsSaid IsSame (based_row s definition p (specified_of said)) j before after
    → IsSaid IsSame (typed_parameter s definition p) j before after
parameter_said s definition p ss said j before after h k row =
    then_said IsSpecified IsSame (based_row s definition p) (specifiers_at InParameters p.specifiers) said j before
    before after
    (subst (λ (xs : List Specifier). IsSaid IsSpecified (specifiers_at InParameters xs) (answers.Fits said) before
    before) h (k before))
    (λ x same. subst (λ (y : types.Specified). IsSaid IsSame (based_row s definition p y) j before after) same row)

-- ---- lists of parameters

pub many_meant : (ps : List Parameter) → 2 ≤ length ps → map parameter_of ps ≡ parameters_meant (map parameter_of ps)
many_meant [] h = absurd (omega (arith, h))
many_meant (p ∷ []) h = absurd (omega (arith, h))
many_meant (p ∷ (q ∷ ps)) h = refl

next_parameter : (ps : List Parameter) (i : ℕ) (p : Parameter) → i < length ps → p ≡ get_or ps i p
    → drop i ps ≡ p ∷ drop (i + 1) ps
next_parameter ps i p lt is =
    let e : suc i ≡ i + 1 = omega arith in
    drop-cons ps i p lt ∙ ap (λ q. q ∷ drop (suc i) ps) (sym is) ∙ ap (λ k. p ∷ drop k ps) e

-- one more parameter is judged, and then declared
pub next_typed : (s t : Scope) (definition : Bool) (ps : List Parameter) (i : ℕ) (p : Parameter)
    → i < length ps → p ≡ get_or ps i p → t ≡ with_parameter s (parameter_of p)
    → typed_each s definition (map parameter_of (drop i ps))
    ≡ one_before (typed_parameter s definition (parameter_of p))
    (typed_each t definition (map parameter_of (drop (i + 1) ps)))
next_typed s t definition ps i p lt is h =
    ap (λ qs. typed_each s definition (map parameter_of qs)) (next_parameter ps i p lt is)
    ∙ ap (λ u. one_before (typed_parameter s definition (parameter_of p))
    (typed_each u definition (map parameter_of (drop (i + 1) ps)))) (sym h)

pub next_scope : (s t : Scope) (ps : List Parameter) (i : ℕ) (p : Parameter) → i < length ps → p ≡ get_or ps i p
    → t ≡ with_parameter s (parameter_of p)
    → with_parameters t (map parameter_of (drop (i + 1) ps)) ≡ with_parameters s (map parameter_of (drop i ps))
next_scope s t ps i p lt is h = ap (λ u. with_parameters u (map parameter_of (drop (i + 1) ps))) h
    ∙ ap (λ qs. with_parameters s (map parameter_of qs)) (sym (next_parameter ps i p lt is))
