-- What comes of judging expressions, types and parameters defines no function.
use Rattle.std.proofs.Common.{◌≡◌, refl, ap, ◌∙◌, ℕ, zero, suc, Bool, true, false, List, [], ◌∷◌, ◌++◌, pos, negsuc}
use Rattle.std.specs.Prelude.{ℤ, Option, Some, None, filter_map, if◌then◌else◌}
use Rattle.std.specs.List.{AllByRecursion}
use Rattle.std.proofs.lemmas.List.Elements.{filter_map-append}
use Rattle.pcc_base.specs.declared.span.Span.{Span}
use Rattle.pcc_base.specs.declared.fault.Fault.{Fault}
use Rattle.pcc_base.specs.declared.fault.FaultKind.{FaultKind}
use Rattle.pcc_base.specs.declared.fault.FaultKind.TheVariants.{TypeRule, PointerUse}
use Rattle.c_syntax.specs.declared.operator.BinaryOp as raw
use Rattle.c_syntax.specs.declared.operator.BinaryOp.TheVariants as raw_binary
use Rattle.c_syntax.specs.declared.operator.UnaryOp as raw_one
use Rattle.c_syntax.specs.declared.operator.UnaryOp.TheVariants as raw_unary
use Rattle.c_syntax.specs.declared.operator.AssignOp.{AssignOp}
use Rattle.c_syntax.specs.declared.operator.AssignOp.TheVariants as raw_assign
use Rattle.c_syntax.specs.declared.expression.Identifier.{Identifier}
use Rattle.c_syntax.specs.declared.expression.Specifier.{Specifier}
use Rattle.c_syntax.specs.Expressions as trees
use Rattle.c_syntax.specs.Expressions.{Star, Expr, Exprs, NoExpr, OneExpr}
use Rattle.c_syntax.specs.Declarations.{ArrayTree, ParameterTree, PartTree, Plain, Array, Function, DeclaratorTree}
use Rattle.c_syntax.specs.Declarations.{ValueTree}
use Rattle.c_tree.specs.declared.expression.BinaryOp.{BinaryOp}
use Rattle.c_tree.specs.declared.expression.BinaryOp.TheVariants as ops
use Rattle.c_tree.specs.declared.expression.StepOp.{StepOp}
use Rattle.c_tree.specs.declared.expression.UnaryOp.{UnaryOp}
use Rattle.c_tree.specs.declared.expression.UnaryOp.TheVariants as ones
use Rattle.c_tree.specs.declared.types.ValueType.{ValueType}
use Rattle.c_tree.specs.declared.types.ValueType.TheVariants.{Void, Integer, Pointer}
use Rattle.c_tree.specs.declared.types.IntegerType.TheVariants.{Int}
use Rattle.c_tree.specs.Program.{value_type, Expression, Arguments, NoMore, Argument, Place, Unary, Binary, And, Or}
use Rattle.c_tree.specs.Program.{LocalPlace, StaticPlace, Target, Element, Cast, Assign, Update, Conditional}
use Rattle.c_typing.specs.Library as library
use Rattle.c_typing.specs.Library.{Entity, Library, Shared, OfFile, At}
use Rattle.c_typing.specs.Types.{InCast, InParameters, Specified, specified, pointed, Declared, DeclaredValue}
use Rattle.c_typing.specs.Types.{DeclaredArray, DeclaredFunction}
use Rattle.c_typing.specs.Checked.{Checked, Fits, Fails, Note, fits, noted, also, if_fits, pair, both, three}
use Rattle.c_typing.specs.Checked.{notes_in, or_fails}
use Rattle.c_typing.specs.Checked.{faults_in}
use Rattle.c_typing.specs.Numbering.{function_noted}
use Rattle.c_typing.specs.Constants.{constant_value, is_null}
use Rattle.c_typing.specs.Names.{Scope, Signature, Meaning, Local, LocalArray, Object, ObjectArray}
use Rattle.c_typing.specs.Names as names
use Rattle.c_typing.specs.Names.{meaning_of, object_number}
use Rattle.c_typing.specs.Rows.{misfit, row_at, of_numbers, of_shift, of_sum, of_difference, of_order, of_equality}
use Rattle.c_typing.specs.Rows.{of_choice, is_scalar, can_assign, assigned, tested, selected, on_number}
use Rattle.c_typing.specs.Rows.{dereferenced}
use Rattle.c_typing.specs.Rows.{address_of_place, place_named, address_row, unary_row, step_row, can_cast, cast_row}
use Rattle.c_typing.specs.Rows.{types_of, operated, compared, of_conditions, joined, binary_row, element_of, index_row}
use Rattle.c_typing.specs.Rows.{conditional_row, assign_row, updated, update_row, to_place_row, assignment_row}
use Rattle.c_typing.specs.Expressions.{specifiers_at, type_name, named, Given, arguments_for, count_faults}
use Rattle.c_typing.specs.Expressions.{library_call, call_of, called, postfix_op, prefix_op}
use Rattle.c_typing.specs.Expressions.{typed_expression, given, typed_if_any, first_word}
use Rattle.c_typing.specs.Declarators.{at_least_one, size_or, count_by_value, part_type, object_declared}
use Rattle.c_typing.specs.Declarators.{object_allowed, parameter_place, parameter_declared}
use Rattle.c_typing.specs.Declarators.{parameter_allowed, parameter_size, parameter_faults, typed_parameter}
use Rattle.c_typing.specs.Declarators.{with_parameter, typed_each, parameters_meant, typed_parameters}
use Rattle.c_typing.specs.Declarators.{parameter_with}

-- ---- parts

-- the functions that these notes define
abbrev pub funs : List Note → List Entity
funs notes = filter_map function_noted notes

-- no function is defined
abbrev pub Quiet : {A : Type 0} → Checked A → Type 0
Quiet c = funs (notes_in c) ≡ []

pub funs_quiet : (ns ms : List Note) → funs ns ≡ [] → funs (ns ++ ms) ≡ funs ms
funs_quiet ns ms h = filter_map-append function_noted ns ms ∙ ap (λ es. es ++ funs ms) h

pub quiet_noted : {A : Type 0} (ns : List Note) (c : Checked A) → funs ns ≡ [] → Quiet c → Quiet (noted ns c)
quiet_noted ns (Fits a ms) h k = funs_quiet ns ms h ∙ k
quiet_noted ns (Fails f fs) h k = refl

pub quiet_if : {A B : Type 0} (c : Checked A) (f : A → Checked B) → Quiet c → ((a : A) → Quiet (f a))
    → Quiet (if_fits c f)
quiet_if (Fits a ns) f h k = quiet_noted ns (f a) h (k a)
quiet_if (Fails g gs) f h k = refl

pub quiet_pair : {A B : Type 0} (c : Checked A) (d : Checked B) → Quiet c → Quiet d → Quiet (pair c d)
quiet_pair (Fits a ns) (Fits b ms) h k = funs_quiet ns ms h ∙ k
quiet_pair (Fits a ns) (Fails g gs) h k = refl
quiet_pair (Fails f fs) d h k = refl

pub quiet_both : {A B C : Type 0} (c : Checked A) (d : Checked B) (f : A → B → Checked C) → Quiet c → Quiet d
    → ((a : A) (b : B) → Quiet (f a b)) → Quiet (both c d f)
quiet_both c d f h k on = quiet_if (pair c d) (λ p. f p.0 p.1) (quiet_pair c d h k) (λ p. on p.0 p.1)

pub quiet_three : {A B C D : Type 0} (c : Checked A) (d : Checked B) (e : Checked C) (f : A → B → C → Checked D)
    → Quiet c → Quiet d → Quiet e → ((a : A) (b : B) (x : C) → Quiet (f a b x)) → Quiet (three c d e f)
quiet_three c d e f h k l on =
    quiet_both c (pair d e) (λ a p. f a p.0 p.1) h (quiet_pair d e k l) (λ a p. on a p.0 p.1)

pub quiet_also : {A : Type 0} (fs : List Fault) (c : Checked A) → Quiet c → Quiet (also fs c)
quiet_also [] c h = h
quiet_also (f ∷ fs) c h = refl

pub quiet_choice : {A : Type 0} (b : Bool) (c d : Checked A) → Quiet c → Quiet d → Quiet (if b then c else d)
quiet_choice true c d h k = h
quiet_choice false c d h k = k

pub quiet_or : {A : Type 0} (o : Option A) (kind : FaultKind) (at : Span) → Quiet (or_fails o kind at)
quiet_or None kind at = refl
quiet_or (Some a) kind at = refl

-- ---- rows

quiet_row : (at : Span) (ts : List ValueType) (o : Option ValueType) (make : ValueType → Expression)
    → Quiet (row_at at ts o make)
quiet_row at ts None make = refl
quiet_row at ts (Some of) make = refl

pub assigned_quiet : (to : ValueType) (at : Span) (e : Expression) → Quiet (assigned to at e)
assigned_quiet to at e =
    quiet_choice (can_assign to (value_type e) (is_null e)) (fits e) (misfit at (to ∷ value_type e ∷ [])) refl refl

pub tested_quiet : (at : Span) (e : Expression) → Quiet (tested at e)
tested_quiet at e = quiet_choice (is_scalar (value_type e)) (fits e) (misfit at (value_type e ∷ [])) refl refl

pub selected_quiet : (t : ValueType) (at : Span) (e : Expression) → Quiet (selected t at e)
selected_quiet Void at e = refl
selected_quiet (Integer t) at e = refl
selected_quiet (Pointer t) at e = refl

number_quiet : (op : UnaryOp) (at : Span) (t : ValueType) (e : Expression) → Quiet (on_number op at t e)
number_quiet op at Void e = refl
number_quiet op at (Integer t) e = refl
number_quiet op at (Pointer t) e = refl

target_quiet : (at : Span) (t : ValueType) (e : Expression) → Quiet (dereferenced at t e)
target_quiet at Void e = refl
target_quiet at (Integer t) e = refl
target_quiet at (Pointer t) e = refl

place_quiet : (at : Span) (p : Place) → Quiet (address_of_place at p)
place_quiet at (Target element e) = refl
place_quiet at (Element element a i) = refl
place_quiet at (LocalPlace v) = refl
place_quiet at (StaticPlace k) = refl

address_quiet : (at : Span) (o : Option (ValueType × Place)) → Quiet (address_row at o)
address_quiet at None = refl
address_quiet at (Some named) = place_quiet at named.1

unary_quiet : (op : raw_one.UnaryOp) (at : Span) (e : Expression) → Quiet (unary_row op at e)
unary_quiet raw_unary.AddressOf at e = address_quiet at (place_named e)
unary_quiet raw_unary.Dereference at e = target_quiet at (value_type e) e
unary_quiet raw_unary.Plus at e = number_quiet ones.Plus at (value_type e) e
unary_quiet raw_unary.Minus at e = number_quiet ones.Minus at (value_type e) e
unary_quiet raw_unary.Complement at e = number_quiet ones.Complement at (value_type e) e
unary_quiet raw_unary.Not at e =
    quiet_choice (is_scalar (value_type e)) (fits (Unary Int ones.Not e)) (misfit at (value_type e ∷ [])) refl refl

step_quiet : (op : StepOp) (at : Span) (o : Option (ValueType × Place)) → Quiet (step_row op at o)
step_quiet op at None = refl
step_quiet op at (Some named) = refl

cast_quiet : (at : Span) (to : ValueType) (e : Expression) → Quiet (cast_row at to e)
cast_quiet at to e =
    quiet_choice (can_cast to (value_type e) (is_null e)) (fits (Cast to e)) (misfit at (to ∷ value_type e ∷ [])) refl
    refl

operated_quiet : (row : ValueType → ValueType → Option ValueType) (op : BinaryOp) (at : Span) (a b : Expression)
    → Quiet (operated row op at a b)
operated_quiet row op at a b =
    quiet_row at (types_of a b) (row (value_type a) (value_type b)) (λ of. Binary of op a b)

compared_quiet : (op : BinaryOp) (at : Span) (a b : Expression) → Quiet (compared op at a b)
compared_quiet op at a b =
    quiet_row at (types_of a b) (of_equality (value_type a) (is_null a) (value_type b) (is_null b))
    (λ of. Binary of op a b)

joined_quiet : (make : Expression → Expression → Expression) (at : Span) (a b : Expression)
    → Quiet (joined make at a b)
joined_quiet make at a b =
    quiet_row at (types_of a b) (of_conditions (value_type a) (value_type b)) (λ of. make a b)

binary_quiet : (op : raw.BinaryOp) (at : Span) (a b : Expression) → Quiet (binary_row op at a b)
binary_quiet raw_binary.Multiply at a b = operated_quiet of_numbers ops.Multiply at a b
binary_quiet raw_binary.Divide at a b = operated_quiet of_numbers ops.Divide at a b
binary_quiet raw_binary.Remainder at a b = operated_quiet of_numbers ops.Remainder at a b
binary_quiet raw_binary.Add at a b = operated_quiet of_sum ops.Add at a b
binary_quiet raw_binary.Subtract at a b = operated_quiet of_difference ops.Subtract at a b
binary_quiet raw_binary.ShiftLeft at a b = operated_quiet of_shift ops.ShiftLeft at a b
binary_quiet raw_binary.ShiftRight at a b = operated_quiet of_shift ops.ShiftRight at a b
binary_quiet raw_binary.Less at a b = operated_quiet of_order ops.Less at a b
binary_quiet raw_binary.Greater at a b = operated_quiet of_order ops.Greater at a b
binary_quiet raw_binary.LessEqual at a b = operated_quiet of_order ops.LessOrEqual at a b
binary_quiet raw_binary.GreaterEqual at a b = operated_quiet of_order ops.GreaterOrEqual at a b
binary_quiet raw_binary.Equal at a b = compared_quiet ops.Equal at a b
binary_quiet raw_binary.NotEqual at a b = compared_quiet ops.NotEqual at a b
binary_quiet raw_binary.BitAnd at a b = operated_quiet of_numbers ops.BitAnd at a b
binary_quiet raw_binary.BitXor at a b = operated_quiet of_numbers ops.BitXor at a b
binary_quiet raw_binary.BitOr at a b = operated_quiet of_numbers ops.BitOr at a b
binary_quiet raw_binary.LogicalAnd at a b = joined_quiet And at a b
binary_quiet raw_binary.LogicalOr at a b = joined_quiet Or at a b
binary_quiet raw_binary.Comma at a b = refl

element_quiet : (at : Span) (o : Option ValueType) (a i : Expression) → Quiet (element_of at o a i)
element_quiet at None a i = refl
element_quiet at (Some Void) a i = refl
element_quiet at (Some (Integer t)) a i = refl
element_quiet at (Some (Pointer t)) a i = refl

index_quiet : (at : Span) (a i : Expression) → Quiet (index_row at a i)
index_quiet at a i = element_quiet at (of_sum (value_type a) (value_type i)) a i

conditional_quiet : (at : Span) (t a b : Expression) → Quiet (conditional_row at t a b)
conditional_quiet at t a b =
    quiet_row at (value_type t ∷ types_of a b) (if is_scalar (value_type t)
    then of_choice (value_type a) (is_null a) (value_type b) (is_null b) else None) (λ of. Conditional of t a b)

assign_quiet : (at : Span) (of : ValueType) (place : Place) (e : Expression) → Quiet (assign_row at of place e)
assign_quiet at of place e =
    quiet_choice (can_assign of (value_type e) (is_null e)) (fits (Assign of place e))
    (misfit at (of ∷ value_type e ∷ [])) refl refl

updated_quiet : (op : BinaryOp) (at : Span) (of : ValueType) (place : Place) (e : Expression) (o : Option ValueType)
    → Quiet (updated op at of place e o)
updated_quiet op at of place e None = refl
updated_quiet op at of place e (Some result) =
    quiet_choice (can_assign of result false) (fits (Update of op place e)) (misfit at (of ∷ value_type e ∷ [])) refl
    refl

update_quiet : (row : ValueType → ValueType → Option ValueType) (op : BinaryOp) (at : Span) (of : ValueType)
    (place : Place) (e : Expression) → Quiet (update_row row op at of place e)
update_quiet row op at of place e = updated_quiet op at of place e (row of (value_type e))

to_place_quiet : (op : AssignOp) (at : Span) (of : ValueType) (p : Place) (e : Expression)
    → Quiet (to_place_row op at of p e)
to_place_quiet raw_assign.Assign at of p e = assign_quiet at of p e
to_place_quiet raw_assign.Multiply at of p e = update_quiet of_numbers ops.Multiply at of p e
to_place_quiet raw_assign.Divide at of p e = update_quiet of_numbers ops.Divide at of p e
to_place_quiet raw_assign.Remainder at of p e = update_quiet of_numbers ops.Remainder at of p e
to_place_quiet raw_assign.Add at of p e = update_quiet of_sum ops.Add at of p e
to_place_quiet raw_assign.Subtract at of p e = update_quiet of_difference ops.Subtract at of p e
to_place_quiet raw_assign.ShiftLeft at of p e = update_quiet of_shift ops.ShiftLeft at of p e
to_place_quiet raw_assign.ShiftRight at of p e = update_quiet of_shift ops.ShiftRight at of p e
to_place_quiet raw_assign.BitAnd at of p e = update_quiet of_numbers ops.BitAnd at of p e
to_place_quiet raw_assign.BitXor at of p e = update_quiet of_numbers ops.BitXor at of p e
to_place_quiet raw_assign.BitOr at of p e = update_quiet of_numbers ops.BitOr at of p e

assignment_quiet : (op : AssignOp) (at : Span) (o : Option (ValueType × Place)) (e : Expression)
    → Quiet (assignment_row op at o e)
assignment_quiet op at None e = refl
assignment_quiet op at (Some named) e = to_place_quiet op at named.0 named.1 e

-- ---- names and calls

named_quiet : (s : Scope) (x : Identifier) (o : Option Meaning) → Quiet (named s x o)
named_quiet s x None = refl
named_quiet s x (Some (Local v of)) = refl
named_quiet s x (Some (LocalArray k element)) = refl
named_quiet s x (Some (Object e of)) = refl
named_quiet s x (Some (ObjectArray e element)) = refl
named_quiet s x (Some (names.Function e signature)) = refl

abbrev pub AreQuiet : List Given → Type 0
AreQuiet gs = AllByRecursion (λ (g : Given). Quiet g.value) gs

arguments_quiet : (types : List ValueType) (gs : List Given) → AreQuiet gs → Quiet (arguments_for types gs)
arguments_quiet [] [] h = refl
arguments_quiet (t ∷ ts) [] h = refl
arguments_quiet [] (g ∷ gs) h =
    quiet_both g.value (arguments_for [] gs) (λ e es. fits (Argument e es)) h.0 (arguments_quiet [] gs h.1)
    (λ e es. refl)
arguments_quiet (t ∷ ts) (g ∷ gs) h =
    quiet_both (if_fits g.value (assigned t g.at)) (arguments_for ts gs) (λ e es. fits (Argument e es))
    (quiet_if g.value (assigned t g.at) h.0 (assigned_quiet t g.at)) (arguments_quiet ts gs h.1) (λ e es. refl)

library_quiet : (at : Span) (l : library.LibraryFunction) (es : Arguments) → Quiet (library_call at l es)
library_quiet at library.Putchar NoMore = refl
library_quiet at library.Putchar (Argument e es) = refl
library_quiet at library.Getchar es = refl
library_quiet at library.Exit NoMore = refl
library_quiet at library.Exit (Argument e es) = refl

call_quiet : (s : Scope) (at : Span) (e : Entity) (of : ValueType) (es : Arguments) → Quiet (call_of s at e of es)
call_quiet s at (Library l) of es = library_quiet at l es
call_quiet s at (Shared name) of es = refl
call_quiet s at (OfFile file name) of es = refl
call_quiet s at (At place) of es = refl

called_quiet : (s : Scope) (x : Identifier) (gs : List Given) (o : Option Meaning) → AreQuiet gs
    → Quiet (called s x gs o)
called_quiet s x gs None h = refl
called_quiet s x gs (Some (Local v of)) h = refl
called_quiet s x gs (Some (LocalArray k element)) h = refl
called_quiet s x gs (Some (Object e of)) h = refl
called_quiet s x gs (Some (ObjectArray e element)) h = refl
called_quiet s x gs (Some (names.Function e g)) h =
    let c = arguments_for g.parameters gs in
    quiet_also (count_faults x.at g.parameters gs) (if_fits c (call_of s x.at e g.result))
    (quiet_if c (call_of s x.at e g.result) (arguments_quiet g.parameters gs h) (call_quiet s x.at e g.result))

type_quiet : (at : Span) (specifiers : List Specifier) (pointer : Option Star)
    → Quiet (type_name at specifiers pointer)
type_quiet at specifiers pointer =
    quiet_if (specifiers_at InCast specifiers) (λ said. or_fails (pointed said.base pointer) PointerUse at)
    (quiet_or (specified InCast specifiers) TypeRule (first_word specifiers))
    (λ said. quiet_or (pointed said.base pointer) PointerUse at)

-- ---- expressions

mutual
  pub expression_quiet : (s : Scope) (e : Expr) → Quiet (typed_expression s e)
  expression_quiet s (trees.Identifier x) = named_quiet s x (meaning_of s.names x.name)
  expression_quiet s (trees.Number value at) = refl
  expression_quiet s (trees.Text pieces) = refl
  expression_quiet s (trees.Parenthesised o e c) = expression_quiet s e
  expression_quiet s (trees.Call f o arguments commas c) =
      called_quiet s f (given s arguments) (meaning_of s.names f.name) (given_quiet s arguments)
  expression_quiet s (trees.Index b o i c) =
      quiet_both (typed_expression s b) (typed_expression s i) (index_row o) (expression_quiet s b)
      (expression_quiet s i) (index_quiet o)
  expression_quiet s (trees.Postfix b op at) =
      quiet_if (typed_expression s b) (λ e. step_row (postfix_op op) at (place_named e)) (expression_quiet s b)
      (λ e. step_quiet (postfix_op op) at (place_named e))
  expression_quiet s (trees.Prefix op at e) =
      quiet_if (typed_expression s e) (λ x. step_row (prefix_op op) at (place_named x)) (expression_quiet s e)
      (λ x. step_quiet (prefix_op op) at (place_named x))
  expression_quiet s (trees.Unary op at e) =
      quiet_if (typed_expression s e) (unary_row op at) (expression_quiet s e) (unary_quiet op at)
  expression_quiet s (trees.Cast o specifiers pointer c e) =
      quiet_both (type_name o specifiers pointer) (typed_expression s e) (cast_row o)
      (type_quiet o specifiers pointer) (expression_quiet s e) (cast_quiet o)
  expression_quiet s (trees.Binary op l at r) =
      quiet_both (typed_expression s l) (typed_expression s r) (binary_row op at) (expression_quiet s l)
      (expression_quiet s r) (binary_quiet op at)
  expression_quiet s (trees.Conditional t q a k b) =
      quiet_three (typed_expression s t) (typed_expression s a) (typed_expression s b) (conditional_row q)
      (expression_quiet s t) (expression_quiet s a) (expression_quiet s b) (conditional_quiet q)
  expression_quiet s (trees.Assignment op l at r) =
      quiet_both (typed_expression s l) (typed_expression s r) (λ x e. assignment_row op at (place_named x) e)
      (expression_quiet s l) (expression_quiet s r) (λ x e. assignment_quiet op at (place_named x) e)

  pub given_quiet : (s : Scope) (es : Exprs) → AreQuiet (given s es)
  given_quiet s NoExpr = tt
  given_quiet s (OneExpr e es) = (expression_quiet s e, given_quiet s es)

pub if_any_quiet : (s : Scope) (o : Option Expr) → Quiet (typed_if_any s o)
if_any_quiet s None = refl
if_any_quiet s (Some e) =
    quiet_if (typed_expression s e) (λ x. fits (Some x)) (expression_quiet s e) (λ x. refl)

-- ---- declarators

least_quiet : (o : Span) (v : Option ℤ) → Quiet (at_least_one o v)
least_quiet o None = refl
least_quiet o (Some (negsuc n)) = refl
least_quiet o (Some (pos zero)) = refl
least_quiet o (Some (pos (suc n))) = refl

size_quiet : (s : Scope) (o : Span) (given : Option ℕ) (size : Option Expr) → Quiet (size_or s o given size)
size_quiet s o None None = refl
size_quiet s o (Some n) None = refl
size_quiet s o given (Some e) =
    quiet_if (typed_expression s e) (λ x. at_least_one o (constant_value x)) (expression_quiet s e)
    (λ x. least_quiet o (constant_value x))

part_quiet : (s : Scope) (of : Option ValueType) (v : Option ValueTree) (p : PartTree) → Quiet (part_type s of v p)
part_quiet s of v Plain = refl
part_quiet s of v (Array a) =
    quiet_if (size_or s a.opening (count_by_value of v) a.size) (λ count. fits (DeclaredArray of count))
    (size_quiet s a.opening (count_by_value of v) a.size) (λ count. refl)
part_quiet s of v (Function ps) = refl

pub declared_quiet : (s : Scope) (said : Specified) (d : DeclaratorTree) (v : Option ValueTree)
    → Quiet (object_declared s said d v)
declared_quiet s said d v = part_quiet s (pointed said.base d.pointer) v d.part

pub allowed_quiet : (static : Bool) (at : Span) (d : Declared) → Quiet (object_allowed static at d)
allowed_quiet static at (DeclaredValue None) = refl
allowed_quiet static at (DeclaredValue (Some Void)) = refl
allowed_quiet static at (DeclaredValue (Some (Integer t))) = refl
allowed_quiet true at (DeclaredValue (Some (Pointer t))) = refl
allowed_quiet false at (DeclaredValue (Some (Pointer t))) = refl
allowed_quiet static at (DeclaredArray None n) = refl
allowed_quiet static at (DeclaredArray (Some Void) n) = refl
allowed_quiet static at (DeclaredArray (Some (Integer t)) n) = refl
allowed_quiet static at (DeclaredArray (Some (Pointer t)) n) = refl
allowed_quiet static at (DeclaredFunction result ps) = refl

-- ---- parameters

parameter_allowed_quiet : (at : Span) (o : Option ValueType) → Quiet (parameter_allowed at o)
parameter_allowed_quiet at None = refl
parameter_allowed_quiet at (Some Void) = refl
parameter_allowed_quiet at (Some (Integer t)) = refl
parameter_allowed_quiet at (Some (Pointer t)) = refl

parameter_size_quiet : (s : Scope) (o : Option ArrayTree) → Quiet (parameter_size s o)
parameter_size_quiet s None = refl
parameter_size_quiet s (Some a) = size_quiet s a.opening (Some 1) a.size

parameter_quiet : (s : Scope) (definition : Bool) (p : ParameterTree) → Quiet (typed_parameter s definition p)
parameter_quiet s definition p =
    let allowed : Specified → Checked ValueType = λ said.
    also (parameter_faults s definition p p.name) (parameter_with said.base p) in
    quiet_if (specifiers_at InParameters p.specifiers) (λ said. also (faults_in (parameter_with said.base p))
    (if_fits (parameter_size s p.array) (λ size. allowed said)))
    (quiet_or (specified InParameters p.specifiers) TypeRule (first_word p.specifiers))
    (λ said. quiet_also (faults_in (parameter_with said.base p))
    (if_fits (parameter_size s p.array) (λ size. allowed said))
    (quiet_if (parameter_size s p.array) (λ size. allowed said) (parameter_size_quiet s p.array) (λ size.
    quiet_also (parameter_faults s definition p p.name) (parameter_with said.base p)
    (parameter_allowed_quiet (parameter_place p p.name) (parameter_declared (pointed said.base p.pointer) p.array)))))

each_quiet : (s : Scope) (definition : Bool) (ps : List ParameterTree) → Quiet (typed_each s definition ps)
each_quiet s definition [] = refl
each_quiet s definition (p ∷ ps) =
    quiet_both (typed_parameter s definition p) (typed_each (with_parameter s p) definition ps) (λ t ts. fits (t ∷ ts))
    (parameter_quiet s definition p) (each_quiet (with_parameter s p) definition ps) (λ t ts. refl)

pub parameters_quiet : (s : Scope) (definition : Bool) (ps : List ParameterTree)
    → Quiet (typed_parameters s definition ps)
parameters_quiet s definition ps = each_quiet s definition (parameters_meant ps)
