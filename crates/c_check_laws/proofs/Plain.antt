-- Rows, sizes and labels note nothing.
use Rattle.std.proofs.Common.{arith, ◌≡◌, refl, ap, ◌∙◌, ℕ, zero, suc, pos, negsuc, Bool, true, false, List}
use Rattle.std.proofs.Common.{[], ◌∷◌, ◌++◌, map}
use Rattle.std.specs.Prelude.{ℤ, Option, Some, None, if◌then◌else◌}
use Rattle.std.specs.List.{list_any}
use Rattle.pcc_base.specs.declared.span.Span.{Span}
use Rattle.pcc_base.specs.declared.fault.Fault.{Fault}
use Rattle.pcc_base.specs.declared.fault.FaultKind.{FaultKind}
use Rattle.pcc_base.specs.declared.fault.FaultKind.TheVariants.{TypeRule, PointerUse, CaseLabel}
use Rattle.c_syntax.specs.declared.operator.BinaryOp as raw
use Rattle.c_syntax.specs.declared.operator.BinaryOp.TheVariants as raw_binary
use Rattle.c_syntax.specs.declared.operator.UnaryOp as raw_one
use Rattle.c_syntax.specs.declared.operator.UnaryOp.TheVariants as raw_unary
use Rattle.c_syntax.specs.declared.operator.AssignOp.{AssignOp}
use Rattle.c_syntax.specs.declared.operator.AssignOp.TheVariants as raw_assign
use Rattle.c_syntax.specs.declared.expression.Specifier.{Specifier}
use Rattle.c_syntax.specs.Expressions.{Star, Expr}
use Rattle.c_syntax.specs.Declarations as parts
use Rattle.c_syntax.specs.Declarations.{ArrayTree, ItemTree, DeclaratorTree, ParameterTree, PartTree, ValueTree}
use Rattle.c_syntax.specs.Statements as trees
use Rattle.c_syntax.specs.Statements.{LabelTree, Stmt, Stmts, NoStmt, OneStmt}
use Rattle.c_tree.specs.declared.expression.BinaryOp.{BinaryOp}
use Rattle.c_tree.specs.declared.expression.StepOp.{StepOp}
use Rattle.c_tree.specs.declared.expression.UnaryOp.{UnaryOp}
use Rattle.c_tree.specs.declared.statement.Label.{Label}
use Rattle.c_tree.specs.declared.types.ValueType.{ValueType}
use Rattle.c_tree.specs.declared.types.ValueType.TheVariants.{Void, Integer, Pointer}
use Rattle.c_tree.specs.Program as tree
use Rattle.c_tree.specs.Program.{value_type, Expression, Place, LocalPlace, StaticPlace, Target, Element}
use Rattle.c_typing.specs.Constants.{constant_value, is_null}
use Rattle.c_typing.specs.Types.{Position, InCast, InParameters, Specified, specified, pointed, Declared, DeclaredValue}
use Rattle.c_typing.specs.Types.{DeclaredArray}
use Rattle.c_typing.specs.Types.{DeclaredFunction}
use Rattle.c_typing.specs.Checked.{Checked, Fits, Fails, Note, fits, fails, noted, also, if_fits, pair, both, or_fails}
use Rattle.c_typing.specs.Checked.{faults_in}
use Rattle.c_typing.specs.Declarators.{at_least_one, size_or, count_by_value, part_type, object_declared}
use Rattle.c_typing.specs.Declarators.{object_allowed}
use Rattle.c_typing.specs.Declarators.{parameter_place, parameter_declared, parameter_allowed, parameter_size}
use Rattle.c_typing.specs.Declarators.{parameter_faults, typed_parameter, with_parameter, typed_each, parameters_meant}
use Rattle.c_typing.specs.Declarators.{typed_parameters}
use Rattle.c_typing.specs.Declarators.{parameter_with}
use Rattle.c_typing.specs.Rows.{misfit, row_at, is_scalar, can_assign, assigned, tested, selected, on_number}
use Rattle.c_typing.specs.Rows.{dereferenced}
use Rattle.c_typing.specs.Rows.{address_of_place, place_named, address_row, unary_row, step_row, can_cast, cast_row}
use Rattle.c_typing.specs.Rows.{types_of}
use Rattle.c_typing.specs.Rows.{of_numbers, of_shift, of_sum, of_difference, of_order, of_equality, of_conditions}
use Rattle.c_typing.specs.Rows.{of_choice}
use Rattle.c_typing.specs.Rows.{binary_row, element_of, index_row, conditional_row, updated, to_place_row}
use Rattle.c_typing.specs.Rows.{assignment_row}
use Rattle.c_typing.specs.Expressions.{specifiers_at, first_word, type_name, typed_expression}
use Rattle.c_typing.specs.Names.{Scope, entered}
use Rattle.c_typing.specs.Statements.{GivenLabel, case_value, given_label, labels_before, given_labels, same_label}
use Rattle.c_typing.specs.Statements.{one_label}
use Rattle.c_typing.specs.Statements.{with_value, typed_labels}
use Rattle.c_typing.specs.Files.{outer_of, redeclared_faults, result_allowed, signature_of}
use Rattle.c_typing.specs.Files.{function_declared, function_signature}
use Rattle.c_typing.specs.Files.{library_faults, result_faults}
use Rattle.c_check_laws.proofs.Fixed.{Fixed, fixed}
use Rattle.c_check_laws.proofs.ParametersSound.{has_form}
use Rattle.std.specs.List.{AllByRecursion}
use Rattle.pcc_base.proofs.Lists.{all-append}

-- nothing is noted
abbrev pub Plain : {A : Type 0} → Checked A → Type 0
Plain (Fits a ns) = ns ≡ []
Plain (Fails f fs) = Unit {0}

plain_noted : {A : Type 0} (ns : List Note) (c : Checked A) → ns ≡ [] → Plain c → Plain (noted ns c)
plain_noted ns (Fits a ms) e h = ap (λ x. x ++ ms) e ∙ h
plain_noted ns (Fails f fs) e h = tt

pub plain_if : {A B : Type 0} (c : Checked A) (f : A → Checked B) → Plain c → ((a : A) → Plain (f a))
    → Plain (if_fits c f)
plain_if (Fits a ns) f h k = plain_noted ns (f a) h (k a)
plain_if (Fails x xs) f h k = tt

plain_pair : {A B : Type 0} (c : Checked A) (d : Checked B) → Plain c → Plain d → Plain (pair c d)
plain_pair (Fits a ns) (Fits b ms) h k = ap (λ x. x ++ ms) h ∙ k
plain_pair (Fits a ns) (Fails g gs) h k = tt
plain_pair (Fails f fs) d h k = tt

plain_both : {A B C : Type 0} (c : Checked A) (d : Checked B) (f : A → B → Checked C) → Plain c → Plain d
    → ((a : A) (b : B) → Plain (f a b)) → Plain (both c d f)
plain_both c d f h k on = plain_if (pair c d) (λ p. f p.0 p.1) (plain_pair c d h k) (λ p. on p.0 p.1)

pub plain_also : {A : Type 0} (fs : List Fault) (c : Checked A) → Plain c → Plain (also fs c)
plain_also [] c h = h
plain_also (f ∷ fs) c h = tt

pub plain_or : {A : Type 0} (o : Option A) (kind : FaultKind) (at : Span) → Plain (or_fails o kind at)
plain_or None kind at = tt
plain_or (Some a) kind at = refl

plain_row : (at : Span) (ts : List ValueType) (o : Option ValueType) (make : ValueType → Expression)
    → Plain (row_at at ts o make)
plain_row at ts None make = tt
plain_row at ts (Some of) make = refl

plain_choice : (at : Span) (b : Bool) (ts : List ValueType) (e : Expression)
    → Plain (if b then fits e else misfit at ts)
plain_choice at true ts e = refl
plain_choice at false ts e = tt

-- ---- rows

pub assigned_plain : (t : ValueType) (at : Span) (e : Expression) → Plain (assigned t at e)
assigned_plain t at e = plain_choice at (can_assign t (value_type e) (is_null e)) (t ∷ value_type e ∷ []) e

pub tested_plain : (at : Span) (e : Expression) → Plain (tested at e)
tested_plain at e = plain_choice at (is_scalar (value_type e)) (value_type e ∷ []) e

pub selected_plain : (t : ValueType) (at : Span) (e : Expression) → Plain (selected t at e)
selected_plain Void at e = tt
selected_plain (Integer t) at e = refl
selected_plain (Pointer t) at e = tt

number_plain : (op : UnaryOp) (at : Span) (t : ValueType) (e : Expression) → Plain (on_number op at t e)
number_plain op at Void e = tt
number_plain op at (Integer t) e = refl
number_plain op at (Pointer t) e = tt

target_plain : (at : Span) (t : ValueType) (e : Expression) → Plain (dereferenced at t e)
target_plain at Void e = tt
target_plain at (Integer t) e = tt
target_plain at (Pointer t) e = refl

place_plain : (at : Span) (p : Place) → Plain (address_of_place at p)
place_plain at (LocalPlace v) = tt
place_plain at (StaticPlace k) = tt
place_plain at (Target element e) = refl
place_plain at (Element element a i) = refl

address_plain : (at : Span) (o : Option (ValueType × Place)) → Plain (address_row at o)
address_plain at None = tt
address_plain at (Some q) = place_plain at q.1

pub unary_plain : (op : raw_one.UnaryOp) (at : Span) (e : Expression) → Plain (unary_row op at e)
unary_plain raw_unary.AddressOf at e = address_plain at (place_named e)
unary_plain raw_unary.Dereference at e = target_plain at (value_type e) e
unary_plain raw_unary.Plus at e = number_plain _ at (value_type e) e
unary_plain raw_unary.Minus at e = number_plain _ at (value_type e) e
unary_plain raw_unary.Complement at e = number_plain _ at (value_type e) e
unary_plain raw_unary.Not at e = plain_choice at (is_scalar (value_type e)) (value_type e ∷ []) _

pub step_plain : (op : StepOp) (at : Span) (o : Option (ValueType × Place)) → Plain (step_row op at o)
step_plain op at None = tt
step_plain op at (Some q) = refl

pub cast_plain : (at : Span) (to : ValueType) (e : Expression) → Plain (cast_row at to e)
cast_plain at to e =
    plain_choice at (can_cast to (value_type e) (is_null e)) (to ∷ value_type e ∷ []) (tree.Cast to e)

pub binary_plain : (op : raw.BinaryOp) (at : Span) (a b : Expression) → Plain (binary_row op at a b)
binary_plain raw_binary.Multiply at a b = plain_row at (types_of a b) (of_numbers (value_type a) (value_type b)) _
binary_plain raw_binary.Divide at a b = plain_row at (types_of a b) (of_numbers (value_type a) (value_type b)) _
binary_plain raw_binary.Remainder at a b = plain_row at (types_of a b) (of_numbers (value_type a) (value_type b)) _
binary_plain raw_binary.Add at a b = plain_row at (types_of a b) (of_sum (value_type a) (value_type b)) _
binary_plain raw_binary.Subtract at a b = plain_row at (types_of a b) (of_difference (value_type a) (value_type b)) _
binary_plain raw_binary.ShiftLeft at a b = plain_row at (types_of a b) (of_shift (value_type a) (value_type b)) _
binary_plain raw_binary.ShiftRight at a b = plain_row at (types_of a b) (of_shift (value_type a) (value_type b)) _
binary_plain raw_binary.Less at a b = plain_row at (types_of a b) (of_order (value_type a) (value_type b)) _
binary_plain raw_binary.Greater at a b = plain_row at (types_of a b) (of_order (value_type a) (value_type b)) _
binary_plain raw_binary.LessEqual at a b = plain_row at (types_of a b) (of_order (value_type a) (value_type b)) _
binary_plain raw_binary.GreaterEqual at a b = plain_row at (types_of a b) (of_order (value_type a) (value_type b)) _
binary_plain raw_binary.Equal at a b =
    plain_row at (types_of a b) (of_equality (value_type a) (is_null a) (value_type b) (is_null b)) _
binary_plain raw_binary.NotEqual at a b =
    plain_row at (types_of a b) (of_equality (value_type a) (is_null a) (value_type b) (is_null b)) _
binary_plain raw_binary.BitAnd at a b = plain_row at (types_of a b) (of_numbers (value_type a) (value_type b)) _
binary_plain raw_binary.BitXor at a b = plain_row at (types_of a b) (of_numbers (value_type a) (value_type b)) _
binary_plain raw_binary.BitOr at a b = plain_row at (types_of a b) (of_numbers (value_type a) (value_type b)) _
binary_plain raw_binary.LogicalAnd at a b =
    plain_row at (types_of a b) (of_conditions (value_type a) (value_type b)) _
binary_plain raw_binary.LogicalOr at a b =
    plain_row at (types_of a b) (of_conditions (value_type a) (value_type b)) _
binary_plain raw_binary.Comma at a b = refl

element_plain : (at : Span) (o : Option ValueType) (a i : Expression) → Plain (element_of at o a i)
element_plain at None a i = tt
element_plain at (Some Void) a i = tt
element_plain at (Some (Integer t)) a i = tt
element_plain at (Some (Pointer t)) a i = refl

pub index_plain : (at : Span) (a i : Expression) → Plain (index_row at a i)
index_plain at a i = element_plain at (of_sum (value_type a) (value_type i)) a i

pub conditional_plain : (at : Span) (t a b : Expression) → Plain (conditional_row at t a b)
conditional_plain at t a b =
    plain_row at (value_type t ∷ types_of a b)
    (if is_scalar (value_type t) then of_choice (value_type a) (is_null a) (value_type b) (is_null b) else None) _

updated_plain : (op : BinaryOp) (at : Span) (of : ValueType) (p : Place) (e : Expression) (o : Option ValueType)
    → Plain (updated op at of p e o)
updated_plain op at of p e None = tt
updated_plain op at of p e (Some r) = plain_choice at (can_assign of r false) (of ∷ value_type e ∷ []) _

to_place_plain : (op : AssignOp) (at : Span) (of : ValueType) (p : Place) (e : Expression)
    → Plain (to_place_row op at of p e)
to_place_plain raw_assign.Assign at of p e =
    plain_choice at (can_assign of (value_type e) (is_null e)) (of ∷ value_type e ∷ []) _
to_place_plain raw_assign.Multiply at of p e = updated_plain _ at of p e (of_numbers of (value_type e))
to_place_plain raw_assign.Divide at of p e = updated_plain _ at of p e (of_numbers of (value_type e))
to_place_plain raw_assign.Remainder at of p e = updated_plain _ at of p e (of_numbers of (value_type e))
to_place_plain raw_assign.Add at of p e = updated_plain _ at of p e (of_sum of (value_type e))
to_place_plain raw_assign.Subtract at of p e = updated_plain _ at of p e (of_difference of (value_type e))
to_place_plain raw_assign.ShiftLeft at of p e = updated_plain _ at of p e (of_shift of (value_type e))
to_place_plain raw_assign.ShiftRight at of p e = updated_plain _ at of p e (of_shift of (value_type e))
to_place_plain raw_assign.BitAnd at of p e = updated_plain _ at of p e (of_numbers of (value_type e))
to_place_plain raw_assign.BitXor at of p e = updated_plain _ at of p e (of_numbers of (value_type e))
to_place_plain raw_assign.BitOr at of p e = updated_plain _ at of p e (of_numbers of (value_type e))

pub assignment_plain : (op : AssignOp) (at : Span) (o : Option (ValueType × Place)) (e : Expression)
    → Plain (assignment_row op at o e)
assignment_plain op at None e = tt
assignment_plain op at (Some q) e = to_place_plain op at q.0 q.1 e

pub type_plain : (o : Span) (specifiers : List Specifier) (pointer : Option Star)
    → Plain (type_name o specifiers pointer)
type_plain o specifiers pointer =
    plain_if (specifiers_at InCast specifiers) (λ said. or_fails (pointed said.base pointer) PointerUse o)
    (plain_or (specified InCast specifiers) TypeRule (first_word specifiers))
    (λ said. plain_or (pointed said.base pointer) PointerUse o)

pub specifiers_plain : (position : Position) (specifiers : List Specifier) → Plain (specifiers_at position specifiers)
specifiers_plain position specifiers = plain_or (specified position specifiers) TypeRule (first_word specifiers)

-- ---- constants

abbrev notes_or : {A : Type 0} → List Note → Checked A → List Note
notes_or other (Fits a ns) = ns
notes_or other (Fails f fs) = other

-- where a row fits only a constant, the whole notes nothing
constant_plain : {B : Type 0} (c : Checked Expression) (row : Option ℤ → Checked B) → Fixed c c
    → ((v : Option ℤ) → Plain (row v)) → ((b : B) (ns : List Note) → row None ≡ Fits b ns → ⊥)
    → Plain (if_fits c (λ x. row (constant_value x)))
constant_plain {B} (Fits x ns) row h k only = by_value (constant_value x) refl
  where
    by_row : (r : Checked B) → row None ≡ r → Plain (noted ns r)
    by_row (Fits b ms) e = absurd (only b ms e)
    by_row (Fails f fs) e = tt

    by_value : (v : Option ℤ) → constant_value x ≡ v → Plain (noted ns (row v))
    by_value None e = by_row (row None) refl
    by_value (Some n) e = plain_noted ns (row (Some n)) (ap (notes_or ns) (h (has_form x n e))) (k (Some n))
constant_plain (Fails f fs) row h k only = tt

at_least_plain : (o : Span) (v : Option ℤ) → Plain (at_least_one o v)
at_least_plain o None = tt
at_least_plain o (Some (negsuc n)) = tt
at_least_plain o (Some (pos zero)) = tt
at_least_plain o (Some (pos (suc n))) = refl

size_plain : (s : Scope) (o : Span) (count : Option ℕ) (size : Option Expr) → Plain (size_or s o count size)
size_plain s o count None = plain_or count _ o
size_plain s o count (Some e) =
    constant_plain (typed_expression s e) (at_least_one o) (fixed s s e) (at_least_plain o)
    (λ b ns e. grind arith)

part_plain : (s : Scope) (of : Option ValueType) (v : Option ValueTree) (p : PartTree) → Plain (part_type s of v p)
part_plain s of v parts.Plain = refl
part_plain s of v (parts.Array a) =
    plain_if (size_or s a.opening (count_by_value of v) a.size) (λ count. fits (DeclaredArray of count))
    (size_plain s a.opening (count_by_value of v) a.size) (λ n. refl)
part_plain s of v (parts.Function ps) = refl

pub declared_plain : (s : Scope) (said : Specified) (d : DeclaratorTree) (v : Option ValueTree)
    → Plain (object_declared s said d v)
declared_plain s said d v = part_plain s (pointed said.base d.pointer) v d.part

pub allowed_plain : (static : Bool) (at : Span) (d : Declared) → Plain (object_allowed static at d)
allowed_plain static at (DeclaredValue None) = tt
allowed_plain static at (DeclaredValue (Some Void)) = tt
allowed_plain static at (DeclaredValue (Some (Integer t))) = refl
allowed_plain true at (DeclaredValue (Some (Pointer t))) = tt
allowed_plain false at (DeclaredValue (Some (Pointer t))) = refl
allowed_plain static at (DeclaredArray None n) = tt
allowed_plain static at (DeclaredArray (Some Void) n) = tt
allowed_plain static at (DeclaredArray (Some (Integer t)) n) = refl
allowed_plain static at (DeclaredArray (Some (Pointer t)) n) = tt
allowed_plain static at (DeclaredFunction result ps) = tt

-- ---- labels

case_plain : (at : Span) (v : Option ℤ) → Plain (case_value at v)
case_plain at None = tt
case_plain at (Some n) = refl

label_plain : (s : Scope) (k : ℕ) (l : LabelTree) → Plain (given_label s k l).value
label_plain s k (trees.Case at e colon) =
    constant_plain (typed_expression s e) (case_value at) (fixed s s e) (case_plain at) (λ b ns e. grind arith)
label_plain s k (trees.Default at colon) = refl

abbrev ArePlain : List GivenLabel → Type 0
ArePlain gs = AllByRecursion (λ (g : GivenLabel). Plain g.value) gs

map_plain : (s : Scope) (k : ℕ) (ls : List LabelTree) → ArePlain (map (given_label s k) ls)
map_plain s k [] = tt
map_plain s k (l ∷ ls) = (label_plain s k l, map_plain s k ls)

given_plain : (s : Scope) (k : ℕ) (items : Stmts) → ArePlain (given_labels s k items)
given_plain s k NoStmt = tt
given_plain s k (OneStmt st others) =
    all-append (λ (g : GivenLabel). Plain g.value) (map (given_label s k) (labels_before st))
    (given_labels s (suc k) others) (map_plain s k (labels_before st)) (given_plain s (suc k) others)

abbrev label_if : Bool → Span → ℕ → Option ℤ → Checked Label
label_if b at before v = if b then fails CaseLabel at else fits (record { value = v; before = before })

one_plain : (b : Bool) (at : Span) (before : ℕ) (v : Option ℤ) → Plain (label_if b at before v)
one_plain true at before v = tt
one_plain false at before v = refl

labels_by : (earlier : List (Option ℤ)) (gs : List GivenLabel) → ArePlain gs → Plain (typed_labels earlier gs)
labels_by earlier [] h = refl
labels_by earlier (g ∷ gs) h =
    plain_both (if_fits g.value (one_label earlier g.at g.before)) (typed_labels (with_value g.value earlier) gs)
    (λ l ls. fits (l ∷ ls))
    (plain_if g.value (one_label earlier g.at g.before) h.0 (λ v.
    one_plain (list_any (same_label v) earlier) g.at g.before v)) (labels_by (with_value g.value earlier) gs h.1)
    (λ l ls. refl)

pub labels_plain : (s : Scope) (items : Stmts) → Plain (typed_labels [] (given_labels s 0 items))
labels_plain s items = labels_by [] (given_labels s 0 items) (given_plain s 0 items)

-- ---- signatures

parameter_allowed_plain : (at : Span) (o : Option ValueType) → Plain (parameter_allowed at o)
parameter_allowed_plain at None = tt
parameter_allowed_plain at (Some Void) = tt
parameter_allowed_plain at (Some (Integer t)) = refl
parameter_allowed_plain at (Some (Pointer t)) = refl

parameter_size_plain : (s : Scope) (a : Option ArrayTree) → Plain (parameter_size s a)
parameter_size_plain s None = refl
parameter_size_plain s (Some a) = size_plain s a.opening (Some 1) a.size

parameter_plain : (s : Scope) (definition : Bool) (p : ParameterTree) → Plain (typed_parameter s definition p)
parameter_plain s definition p =
    plain_if (specifiers_at InParameters p.specifiers) (λ said.
    also (faults_in (parameter_with said.base p)) (if_fits (parameter_size s p.array) (λ size.
    also (parameter_faults s definition p p.name) (parameter_with said.base p))))
    (specifiers_plain InParameters p.specifiers) (λ said.
    plain_also (faults_in (parameter_with said.base p)) (if_fits (parameter_size s p.array) (λ size.
    also (parameter_faults s definition p p.name) (parameter_with said.base p)))
    (plain_if (parameter_size s p.array) (λ size.
    also (parameter_faults s definition p p.name) (parameter_with said.base p)) (parameter_size_plain s p.array)
    (λ size. plain_also (parameter_faults s definition p p.name) (parameter_with said.base p)
    (parameter_allowed_plain (parameter_place p p.name)
    (parameter_declared (pointed said.base p.pointer) p.array)))))

each_plain : (s : Scope) (definition : Bool) (ps : List ParameterTree) → Plain (typed_each s definition ps)
each_plain s definition [] = refl
each_plain s definition (p ∷ ps) =
    plain_both (typed_parameter s definition p) (typed_each (with_parameter s p) definition ps) (λ t ts. fits (t ∷ ts))
    (parameter_plain s definition p) (each_plain (with_parameter s p) definition ps) (λ t ts. refl)

result_plain : (at : Span) (o : Option ValueType) → Plain (result_allowed at o)
result_plain at None = tt
result_plain at (Some Void) = refl
result_plain at (Some (Integer t)) = refl
result_plain at (Some (Pointer t)) = tt

pub signature_plain : (s : Scope) (said : Specified) (d : DeclaratorTree) (whole : Bool) (ps : List ParameterTree)
    → Plain (function_signature s said d whole ps)
signature_plain s said d whole ps =
    let result = pointed said.base d.pointer in
    plain_also (result_faults said d)
    (if_fits (typed_parameters (entered s) whole ps) (function_declared s said d.name whole result))
    (plain_if (typed_parameters (entered s) whole ps) (function_declared s said d.name whole result)
    (each_plain (entered s) whole (parameters_meant ps)) (λ ts.
    let o = outer_of s said d.name whole (DeclaredFunction result ts) in
    plain_also (redeclared_faults s d.name o ++ library_faults d.name o) (signature_of d.name.at result ts)
    (plain_if (result_allowed d.name.at result) (λ t. fits (record { result = t; parameters = ts }))
    (result_plain d.name.at result) (λ t. refl))))
