-- Expressions that fit name only locals that are seen.
use Rattle.std.proofs.Common.{ℕ, Bool, true, false, List, [], ◌∷◌}
use Rattle.std.specs.Prelude.{Option, Some, None, IfSome, if◌then◌else◌}
use Rattle.std.specs.List.{AllByRecursion}
use Rattle.pcc_base.specs.declared.span.Span.{Span}
use Rattle.c_syntax.specs.declared.operator.BinaryOp as raw
use Rattle.c_syntax.specs.declared.operator.BinaryOp.TheVariants as raw_binary
use Rattle.c_syntax.specs.declared.operator.UnaryOp as raw_one
use Rattle.c_syntax.specs.declared.operator.UnaryOp.TheVariants as raw_unary
use Rattle.c_syntax.specs.declared.operator.AssignOp.{AssignOp}
use Rattle.c_syntax.specs.declared.operator.AssignOp.TheVariants as raw_assign
use Rattle.c_syntax.specs.declared.expression.Identifier.{Identifier as Ident}
use Rattle.c_syntax.specs.Expressions as trees
use Rattle.c_syntax.specs.Expressions.{Expr, Exprs, NoExpr, OneExpr}
use Rattle.c_tree.specs.declared.expression.BinaryOp.{BinaryOp}
use Rattle.c_tree.specs.declared.expression.StepOp.{StepOp}
use Rattle.c_tree.specs.declared.expression.UnaryOp.{UnaryOp}
use Rattle.c_tree.specs.declared.types.ValueType.{ValueType}
use Rattle.c_tree.specs.declared.types.ValueType.TheVariants.{Void, Integer, Pointer}
use Rattle.c_tree.specs.Program as tree
use Rattle.c_tree.specs.Program.{value_type, Expression, Place, LocalPlace, StaticPlace, Target, Element, Arguments}
use Rattle.c_tree.specs.Program.{NoMore, Argument}
use Rattle.c_typing.specs.Constants.{is_null}
use Rattle.c_typing.specs.Library.{Entity, Library, Shared, OfFile, At}
use Rattle.c_typing.specs.Library as library
use Rattle.c_typing.specs.Checked.{fits, if_fits, pair}
use Rattle.c_typing.specs.Names.{Meaning, Local, LocalArray, Object, ObjectArray, Function, Binding, Scope, meaning_of}
use Rattle.c_typing.specs.Rows.{misfit, row_at, of_numbers, of_shift, of_sum, of_difference, of_order, of_equality}
use Rattle.c_typing.specs.Rows.{of_conditions}
use Rattle.c_typing.specs.Rows.{of_choice, is_scalar, can_assign, on_number, dereferenced, address_of_place}
use Rattle.c_typing.specs.Rows.{place_named, assigned, tested, selected}
use Rattle.c_typing.specs.Rows.{address_row, unary_row, step_row, can_cast, cast_row, types_of, binary_row, element_of}
use Rattle.c_typing.specs.Rows.{index_row, conditional_row, updated, to_place_row, assignment_row}
use Rattle.c_typing.specs.Expressions.{type_name, named, Given, arguments_for, count_faults}
use Rattle.c_typing.specs.Expressions.{call_of, called, given, postfix_op, prefix_op, typed_expression, typed_if_any}
use Rattle.c_typing.specs.Statements.{condition, condition_if_any}
use Rattle.c_typing.proofs.CountUp.{IfFits, holds_if, holds_both, holds_pair, holds_also, Always, always}
use Rattle.c_check_laws.proofs.FilesSound.{meaning_where}
use Rattle.flow_graph.specs.Graphs.{IsIn}
use Rattle.lower_laws.specs.Declared.{NamesOnly, PlaceNamesOnly, ArgumentsNameOnly}

-- ---- what is seen

-- a name's meaning is such a local, or no local
abbrev pub Means : (ℕ → Type 0) → Meaning → Type 0
Means P (Local v of) = P v
Means P (LocalArray k element) = Unit {0}
Means P (Object e of) = Unit {0}
Means P (ObjectArray e element) = Unit {0}
Means P (Function e signature) = Unit {0}

-- each local that is seen is such a one
abbrev pub Sees : (ℕ → Type 0) → List Binding → Type 0
Sees P bs = AllByRecursion (λ (b : Binding). Means P b.meaning) bs

means_on : (P Q : ℕ → Type 0) → ((v : ℕ) → P v → Q v) → (m : Meaning) → Means P m → Means Q m
means_on P Q f (Local v of) h = f v h
means_on P Q f (LocalArray k element) h = tt
means_on P Q f (Object e of) h = tt
means_on P Q f (ObjectArray e element) h = tt
means_on P Q f (Function e signature) h = tt

pub sees_on : (P Q : ℕ → Type 0) → ((v : ℕ) → P v → Q v) → (bs : List Binding) → Sees P bs → Sees Q bs
sees_on P Q f [] h = tt
sees_on P Q f (b ∷ bs) h = (means_on P Q f b.meaning h.0, sees_on P Q f bs h.1)

-- each local that is seen is known
abbrev pub Knows : List ℕ → Scope → Type 0
Knows known s = Sees (λ v. IsIn v known) s.names

-- ---- rows

abbrev pub NamedOnly : List ℕ → Option (ValueType × Place) → Type 0
NamedOnly known None = Unit {0}
NamedOnly known (Some q) = PlaceNamesOnly known q.1

module _ (known : List ℕ) where
  abbrev N : Expression → Type 0
  N e = NamesOnly known e

  row_names : (at : Span) (ts : List ValueType) (o : Option ValueType) (make : ValueType → Expression)
      → ((of : ValueType) → N (make of)) → IfFits N (row_at at ts o make)
  row_names at ts None make h = tt
  row_names at ts (Some of) make h = h of

  choice_names : (at : Span) (b : Bool) (ts : List ValueType) (e : Expression) → N e
      → IfFits N (if b then fits e else misfit at ts)
  choice_names at true ts e h = h
  choice_names at false ts e h = tt

  pub assigned_names : (to : ValueType) (at : Span) (e : Expression) → N e → IfFits N (assigned to at e)
  assigned_names to at e h = choice_names at (can_assign to (value_type e) (is_null e)) (to ∷ value_type e ∷ []) e h

  pub tested_names : (at : Span) (e : Expression) → N e → IfFits N (tested at e)
  tested_names at e h = choice_names at (is_scalar (value_type e)) (value_type e ∷ []) e h

  pub selected_names : (of : ValueType) (at : Span) (e : Expression) → N e → IfFits N (selected of at e)
  selected_names Void at e h = tt
  selected_names (Integer t) at e h = h
  selected_names (Pointer t) at e h = tt

  number_names : (op : UnaryOp) (at : Span) (t : ValueType) (e : Expression) → N e → IfFits N (on_number op at t e)
  number_names op at Void e h = tt
  number_names op at (Integer t) e h = h
  number_names op at (Pointer t) e h = tt

  target_names : (at : Span) (t : ValueType) (e : Expression) → N e → IfFits N (dereferenced at t e)
  target_names at Void e h = tt
  target_names at (Integer t) e h = tt
  target_names at (Pointer t) e h = h

  place_names : (at : Span) (p : Place) → PlaceNamesOnly known p → IfFits N (address_of_place at p)
  place_names at (LocalPlace v) h = tt
  place_names at (StaticPlace o) h = tt
  place_names at (Target element e) h = h
  place_names at (Element element a i) h = h

  address_names : (at : Span) (o : Option (ValueType × Place)) → NamedOnly known o → IfFits N (address_row at o)
  address_names at None h = tt
  address_names at (Some q) h = place_names at q.1 h

  -- the place that an expression names
  named_place : (e : Expression) → N e → NamedOnly known (place_named e)
  named_place (tree.Constant of n) h = tt
  named_place (tree.Start element array) h = tt
  named_place (tree.Read of place) h = h
  named_place (tree.Address element place) h = tt
  named_place (tree.Unary of op e) h = tt
  named_place (tree.Binary of op a b) h = tt
  named_place (tree.And a b) h = tt
  named_place (tree.Or a b) h = tt
  named_place (tree.Conditional of t a b) h = tt
  named_place (tree.Cast to e) h = tt
  named_place (tree.Assign of place e) h = tt
  named_place (tree.Update of op place e) h = tt
  named_place (tree.Step of op place) h = tt
  named_place (tree.Comma a b) h = tt
  named_place (tree.Call of f es) h = tt
  named_place (tree.Putchar e) h = tt
  named_place tree.Getchar h = tt
  named_place (tree.Exit e) h = tt

  unary_names : (op : raw_one.UnaryOp) (at : Span) (e : Expression) → N e → IfFits N (unary_row op at e)
  unary_names raw_unary.AddressOf at e h = address_names at (place_named e) (named_place e h)
  unary_names raw_unary.Dereference at e h = target_names at (value_type e) e h
  unary_names raw_unary.Plus at e h = number_names _ at (value_type e) e h
  unary_names raw_unary.Minus at e h = number_names _ at (value_type e) e h
  unary_names raw_unary.Complement at e h = number_names _ at (value_type e) e h
  unary_names raw_unary.Not at e h = choice_names at (is_scalar (value_type e)) (value_type e ∷ []) _ h

  step_names : (op : StepOp) (at : Span) (o : Option (ValueType × Place)) → NamedOnly known o
      → IfFits N (step_row op at o)
  step_names op at None h = tt
  step_names op at (Some q) h = h

  cast_names : (at : Span) (to : ValueType) (e : Expression) → N e → IfFits N (cast_row at to e)
  cast_names at to e h =
      choice_names at (can_cast to (value_type e) (is_null e)) (to ∷ value_type e ∷ []) (tree.Cast to e) h

  binary_names : (op : raw.BinaryOp) (at : Span) (a b : Expression) → N a × N b → IfFits N (binary_row op at a b)
  binary_names raw_binary.Multiply at a b h =
      row_names at (types_of a b) (of_numbers (value_type a) (value_type b)) _ (λ of. h)
  binary_names raw_binary.Divide at a b h =
      row_names at (types_of a b) (of_numbers (value_type a) (value_type b)) _ (λ of. h)
  binary_names raw_binary.Remainder at a b h =
      row_names at (types_of a b) (of_numbers (value_type a) (value_type b)) _ (λ of. h)
  binary_names raw_binary.Add at a b h =
      row_names at (types_of a b) (of_sum (value_type a) (value_type b)) _ (λ of. h)
  binary_names raw_binary.Subtract at a b h =
      row_names at (types_of a b) (of_difference (value_type a) (value_type b)) _ (λ of. h)
  binary_names raw_binary.ShiftLeft at a b h =
      row_names at (types_of a b) (of_shift (value_type a) (value_type b)) _ (λ of. h)
  binary_names raw_binary.ShiftRight at a b h =
      row_names at (types_of a b) (of_shift (value_type a) (value_type b)) _ (λ of. h)
  binary_names raw_binary.Less at a b h =
      row_names at (types_of a b) (of_order (value_type a) (value_type b)) _ (λ of. h)
  binary_names raw_binary.Greater at a b h =
      row_names at (types_of a b) (of_order (value_type a) (value_type b)) _ (λ of. h)
  binary_names raw_binary.LessEqual at a b h =
      row_names at (types_of a b) (of_order (value_type a) (value_type b)) _ (λ of. h)
  binary_names raw_binary.GreaterEqual at a b h =
      row_names at (types_of a b) (of_order (value_type a) (value_type b)) _ (λ of. h)
  binary_names raw_binary.Equal at a b h =
      row_names at (types_of a b) (of_equality (value_type a) (is_null a) (value_type b) (is_null b)) _ (λ of. h)
  binary_names raw_binary.NotEqual at a b h =
      row_names at (types_of a b) (of_equality (value_type a) (is_null a) (value_type b) (is_null b)) _ (λ of. h)
  binary_names raw_binary.BitAnd at a b h =
      row_names at (types_of a b) (of_numbers (value_type a) (value_type b)) _ (λ of. h)
  binary_names raw_binary.BitXor at a b h =
      row_names at (types_of a b) (of_numbers (value_type a) (value_type b)) _ (λ of. h)
  binary_names raw_binary.BitOr at a b h =
      row_names at (types_of a b) (of_numbers (value_type a) (value_type b)) _ (λ of. h)
  binary_names raw_binary.LogicalAnd at a b h =
      row_names at (types_of a b) (of_conditions (value_type a) (value_type b)) _ (λ of. h)
  binary_names raw_binary.LogicalOr at a b h =
      row_names at (types_of a b) (of_conditions (value_type a) (value_type b)) _ (λ of. h)
  binary_names raw_binary.Comma at a b h = h

  element_names : (at : Span) (o : Option ValueType) (a i : Expression) → N a × N i → IfFits N (element_of at o a i)
  element_names at None a i h = tt
  element_names at (Some Void) a i h = tt
  element_names at (Some (Integer t)) a i h = tt
  element_names at (Some (Pointer t)) a i h = h

  -- a place and a value
  abbrev ToPlace : Place → Expression → Type 0
  ToPlace p e = PlaceNamesOnly known p × N e

  updated_names : (op : BinaryOp) (at : Span) (of : ValueType) (p : Place) (e : Expression) (o : Option ValueType)
      → ToPlace p e → IfFits N (updated op at of p e o)
  updated_names op at of p e None h = tt
  updated_names op at of p e (Some r) h =
      choice_names at (can_assign of r false) (of ∷ value_type e ∷ []) (tree.Update of op p e) h

  to_place_names : (op : AssignOp) (at : Span) (of : ValueType) (p : Place) (e : Expression) → ToPlace p e
      → IfFits N (to_place_row op at of p e)
  to_place_names raw_assign.Assign at of p e h =
      choice_names at (can_assign of (value_type e) (is_null e)) (of ∷ value_type e ∷ []) (tree.Assign of p e) h
  to_place_names raw_assign.Multiply at of p e h = updated_names _ at of p e (of_numbers of (value_type e)) h
  to_place_names raw_assign.Divide at of p e h = updated_names _ at of p e (of_numbers of (value_type e)) h
  to_place_names raw_assign.Remainder at of p e h = updated_names _ at of p e (of_numbers of (value_type e)) h
  to_place_names raw_assign.Add at of p e h = updated_names _ at of p e (of_sum of (value_type e)) h
  to_place_names raw_assign.Subtract at of p e h = updated_names _ at of p e (of_difference of (value_type e)) h
  to_place_names raw_assign.ShiftLeft at of p e h = updated_names _ at of p e (of_shift of (value_type e)) h
  to_place_names raw_assign.ShiftRight at of p e h = updated_names _ at of p e (of_shift of (value_type e)) h
  to_place_names raw_assign.BitAnd at of p e h = updated_names _ at of p e (of_numbers of (value_type e)) h
  to_place_names raw_assign.BitXor at of p e h = updated_names _ at of p e (of_numbers of (value_type e)) h
  to_place_names raw_assign.BitOr at of p e h = updated_names _ at of p e (of_numbers of (value_type e)) h

  assignment_names : (op : AssignOp) (at : Span) (o : Option (ValueType × Place)) (e : Expression)
      → NamedOnly known o → N e → IfFits N (assignment_row op at o e)
  assignment_names op at None e h g = tt
  assignment_names op at (Some q) e h g = to_place_names op at q.0 q.1 e (h, g)

  -- ---- calls

  abbrev pub GivenNames : List Given → Type 0
  GivenNames gs = AllByRecursion (λ (g : Given). IfFits N g.value) gs

  abbrev Ns : Arguments → Type 0
  Ns es = ArgumentsNameOnly known es

  arguments_names : (ts : List ValueType) (gs : List Given) → GivenNames gs → IfFits Ns (arguments_for ts gs)
  arguments_names [] [] h = tt
  arguments_names (t ∷ ts) [] h = tt
  arguments_names [] (g ∷ gs) h =
      holds_both N Ns Ns g.value (arguments_for [] gs) (λ e es. fits (Argument e es)) h.0 (arguments_names [] gs h.1)
      (λ e es x y. (x, y))
  arguments_names (t ∷ ts) (g ∷ gs) h =
      holds_both N Ns Ns (if_fits g.value (assigned t g.at)) (arguments_for ts gs) (λ e es. fits (Argument e es))
      (holds_if N N g.value (assigned t g.at) h.0 (λ e x. assigned_names t g.at e x)) (arguments_names ts gs h.1)
      (λ e es x y. (x, y))

  call_names : (s : Scope) (at : Span) (e : Entity) (of : ValueType) (es : Arguments) → Ns es
      → IfFits N (call_of s at e of es)
  call_names s at (Library library.Putchar) of NoMore h = tt
  call_names s at (Library library.Putchar) of (Argument e es) h = h.0
  call_names s at (Library library.Getchar) of es h = tt
  call_names s at (Library library.Exit) of NoMore h = tt
  call_names s at (Library library.Exit) of (Argument e es) h = h.0
  call_names s at (Shared name) of es h = h
  call_names s at (OfFile file name) of es h = h
  call_names s at (At place) of es h = h

  called_names : (s : Scope) (x : Ident) (gs : List Given) (o : Option Meaning) → GivenNames gs
      → IfFits N (called s x gs o)
  called_names s x gs None h = tt
  called_names s x gs (Some (Local v of)) h = tt
  called_names s x gs (Some (LocalArray k element)) h = tt
  called_names s x gs (Some (Object e of)) h = tt
  called_names s x gs (Some (ObjectArray e element)) h = tt
  called_names s x gs (Some (Function e g)) h =
      holds_also N (count_faults x.at g.parameters gs)
      (if_fits (arguments_for g.parameters gs) (call_of s x.at e g.result))
      (holds_if Ns N (arguments_for g.parameters gs) (call_of s x.at e g.result) (arguments_names g.parameters gs h)
      (λ es u. call_names s x.at e g.result es u))

  named_names : (s : Scope) (x : Ident) (o : Option Meaning) → IfSome o (Means (λ v. IsIn v known))
      → IfFits N (named s x o)
  named_names s x None h = tt
  named_names s x (Some (Local v of)) h = h
  named_names s x (Some (LocalArray k element)) h = tt
  named_names s x (Some (Object e of)) h = tt
  named_names s x (Some (ObjectArray e element)) h = tt
  named_names s x (Some (Function e g)) h = tt

  -- ---- expressions

  module _ (s : Scope) (knows : Knows known s) where
    mutual
      pub expression_names : (e : Expr) → IfFits N (typed_expression s e)
      expression_names (trees.Identifier x) =
          named_names s x (meaning_of s.names x.name)
          (meaning_where (Means (λ v. IsIn v known)) s.names x.name knows)
      expression_names (trees.Number value at) = tt
      expression_names (trees.Text pieces) = tt
      expression_names (trees.Parenthesised o e c) = expression_names e
      expression_names (trees.Call x o arguments commas c) =
          called_names s x (given s arguments) (meaning_of s.names x.name) (given_names arguments)
      expression_names (trees.Index b o i c) =
          holds_both N N N (typed_expression s b) (typed_expression s i) (index_row o) (expression_names b)
          (expression_names i) (λ x y u v. element_names o (of_sum (value_type x) (value_type y)) x y (u, v))
      expression_names (trees.Postfix b op at) =
          holds_if N N (typed_expression s b) (λ e. step_row (postfix_op op) at (place_named e)) (expression_names b)
          (λ x u. step_names (postfix_op op) at (place_named x) (named_place x u))
      expression_names (trees.Prefix op at b) =
          holds_if N N (typed_expression s b) (λ e. step_row (prefix_op op) at (place_named e)) (expression_names b)
          (λ x u. step_names (prefix_op op) at (place_named x) (named_place x u))
      expression_names (trees.Unary op at e) =
          holds_if N N (typed_expression s e) (unary_row op at) (expression_names e) (λ x u. unary_names op at x u)
      expression_names (trees.Cast o specifiers pointer c e) =
          holds_both Always N N (type_name o specifiers pointer) (typed_expression s e) (cast_row o)
          (always (type_name o specifiers pointer)) (expression_names e) (λ t x u r. cast_names o t x r)
      expression_names (trees.Binary op l at r) =
          holds_both N N N (typed_expression s l) (typed_expression s r) (binary_row op at) (expression_names l)
          (expression_names r) (λ x y u v. binary_names op at x y (u, v))
      expression_names (trees.Conditional t q a k b) =
          holds_both N (λ p. N p.0 × N p.1) N (typed_expression s t)
          (pair (typed_expression s a) (typed_expression s b)) (λ x p. conditional_row q x p.0 p.1) (expression_names t)
          (holds_pair N N (typed_expression s a) (typed_expression s b) (expression_names a) (expression_names b))
          (λ x p u v. row_names q (value_type x ∷ types_of p.0 p.1)
          (if is_scalar (value_type x)
          then of_choice (value_type p.0) (is_null p.0) (value_type p.1) (is_null p.1) else None)
          (λ of. tree.Conditional of x p.0 p.1) (λ of. (u, v.0, v.1)))
      expression_names (trees.Assignment op l at r) =
          holds_both N N N (typed_expression s l) (typed_expression s r)
          (λ x e. assignment_row op at (place_named x) e) (expression_names l) (expression_names r)
          (λ x y u v. assignment_names op at (place_named x) y (named_place x u) v)

      pub given_names : (es : Exprs) → GivenNames (given s es)
      given_names NoExpr = tt
      given_names (OneExpr e es) = (expression_names e, given_names es)

    abbrev pub MaybeNames : Option Expression → Type 0
    MaybeNames o = IfSome o N

    pub if_any_names : (o : Option Expr) → IfFits MaybeNames (typed_if_any s o)
    if_any_names None = tt
    if_any_names (Some e) =
        holds_if N MaybeNames (typed_expression s e) (λ x. fits (Some x)) (expression_names e) (λ x u. u)

    pub condition_names : (at : Span) (e : Expr) → IfFits N (condition s at e)
    condition_names at e =
        holds_if N N (typed_expression s e) (tested at) (expression_names e) (λ x u. tested_names at x u)

    pub condition_if_names : (at : Span) (o : Option Expr) → IfFits MaybeNames (condition_if_any s at o)
    condition_if_names at None = tt
    condition_if_names at (Some e) =
        holds_if N MaybeNames (condition s at e) (λ x. fits (Some x)) (condition_names at e) (λ x u. u)
