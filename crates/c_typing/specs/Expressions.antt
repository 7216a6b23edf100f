-- The typed tree of an expression, or its faults, where names are seen (C99 6.5).
use Rattle.std.specs.Prelude.{ℕ, suc, ◌==◌, ℤ, pos, List, [], ◌∷◌, ◌++◌, length, map, flat_map, Bool, true, false}
use Rattle.std.specs.Prelude.{◌&&◌, Option, Some, None, if◌then◌else◌}
use Rattle.pcc_base.specs.declared.span.Span.{Span}
use Rattle.pcc_base.specs.declared.fault.Fault.{Fault}
use Rattle.pcc_base.specs.declared.fault.FaultKind.TheVariants.{Undeclared, TypeRule, ArgumentCount, PointerUse}
use Rattle.c_syntax.specs.declared.operator.StepOp as raw
use Rattle.c_syntax.specs.declared.operator.StepOp.TheVariants as raw_step
use Rattle.c_syntax.specs.declared.expression.Identifier.{Identifier as Ident}
use Rattle.c_syntax.specs.declared.expression.Specifier.{Specifier}
use Rattle.c_syntax.specs.declared.expression.TextPiece.{TextPiece}
use Rattle.c_syntax.specs.Expressions as trees
use Rattle.c_syntax.specs.Expressions.{Star, Expr, Exprs, NoExpr, OneExpr}
use Rattle.c_tree.specs.declared.expression.ArrayRef.TheVariants as refs
use Rattle.c_tree.specs.declared.expression.StepOp.{StepOp}
use Rattle.c_tree.specs.declared.expression.StepOp.TheVariants.{PreIncrement, PreDecrement, PostIncrement}
use Rattle.c_tree.specs.declared.expression.StepOp.TheVariants.{PostDecrement}
use Rattle.c_tree.specs.declared.types.IntegerType.TheVariants.{Char, Int}
use Rattle.c_tree.specs.declared.types.ValueType.{ValueType}
use Rattle.c_tree.specs.declared.types.ValueType.TheVariants.{Integer}
use Rattle.c_tree.specs.Store.{converted}
use Rattle.c_tree.specs.Program as tree
use Rattle.c_tree.specs.Program.{Expression, Arguments, NoMore, Argument}
use Rattle.c_typing.specs.Faults.{fault}
use Rattle.c_typing.specs.Library.{Entity, Library, Shared, OfFile, At}
use Rattle.c_typing.specs.Library as library
use Rattle.c_typing.specs.Types.{is_pointer, Position, InCast, Specified, specified, pointed}
use Rattle.c_typing.specs.Checked.{Checked, Fits, Fails, fits, fails, also, if_fits, faults_in, both, three, or_fails}
use Rattle.c_typing.specs.Checked.{Note, Uses}
use Rattle.c_typing.specs.Checked.{Stores, Values}
use Rattle.c_typing.specs.Names.{Meaning, Local, LocalArray, Object, ObjectArray, Function, Signature, Scope}
use Rattle.c_typing.specs.Names.{meaning_of, object_number, function_number}
use Rattle.c_typing.specs.Rows.{assigned, unary_row, step_row, place_named, cast_row, binary_row, index_row}
use Rattle.c_typing.specs.Rows.{conditional_row, assignment_row}

-- ---- first tokens

-- a place for what the grammar doesn't let be empty
abbrev pub nowhere : Span
nowhere = record { file = 0; line = 0; col = 0 }

abbrev pub first_piece : List TextPiece → Span
first_piece [] = nowhere
first_piece (p ∷ ps) = p.at

abbrev pub first_word : List Specifier → Span
first_word [] = nowhere
first_word (s ∷ ss) = s.at

abbrev pub first_token : Expr → Span
first_token (trees.Identifier name) = name.at
first_token (trees.Number value at) = at
first_token (trees.Text pieces) = first_piece pieces
first_token (trees.Parenthesised o e c) = o
first_token (trees.Call f o arguments commas c) = f.at
first_token (trees.Index b o i c) = first_token b
first_token (trees.Postfix b op at) = first_token b
first_token (trees.Prefix op at e) = at
first_token (trees.Unary op at e) = at
first_token (trees.Cast o specifiers pointer c e) = o
first_token (trees.Binary op l at r) = first_token l
first_token (trees.Conditional t q a k b) = first_token t
first_token (trees.Assignment op l at r) = first_token l

-- ---- specifiers and type names

-- bad specifiers are a fault at their first word
abbrev pub specifiers_at : Position → List Specifier → Checked Specified
specifiers_at position specifiers = or_fails (specified position specifiers) TypeRule (first_word specifiers)

-- the type that a cast names (C99 6.7.6); one that the language hasn't is a fault at its `(`
abbrev pub type_name : Span → List Specifier → Option Star → Checked ValueType
type_name o specifiers pointer =
    if_fits (specifiers_at InCast specifiers) (λ said. or_fails (pointed said.base pointer) PointerUse o)

-- ---- string literals: each is an array of its own (C99 6.4.5)

abbrev pub text_bytes : List TextPiece → List ℕ
text_bytes pieces = flat_map (λ (p : TextPiece). p.bytes) pieces

-- `char` is signed; a zero byte ends the literal
abbrev pub text_values : List TextPiece → List ℤ
text_values pieces = map (λ byte. converted Char (pos byte)) (text_bytes pieces) ++ pos 0 ∷ []

abbrev pub text_entity : List TextPiece → Entity
text_entity pieces = At (first_piece pieces)

abbrev pub text_note : List TextPiece → Note
text_note pieces = Stores (record {
  entity = text_entity pieces;
  element = Char;
  count = suc (length (text_bytes pieces));
  contents = Values (text_values pieces);
})

abbrev pub text_literal : Scope → List TextPiece → Checked Expression
text_literal s pieces = Fits (tree.Start Char (refs.Static (object_number s (text_entity pieces))))
    (text_note pieces ∷ [])

-- ---- names

abbrev pub using : {A : Type 0} → Entity → Span → A → Checked A
using entity at value = Fits value (Uses entity at ∷ [])

-- the name of a function that isn't called fits no row
abbrev pub named : Scope → Ident → Option Meaning → Checked Expression
named s x None = fails Undeclared x.at
named s x (Some (Local v of)) = fits (tree.Read of (tree.LocalPlace v))
named s x (Some (LocalArray k element)) = fits (tree.Start element (refs.Frame k))
named s x (Some (Object e of)) = using e x.at (tree.Read (Integer of) (tree.StaticPlace (object_number s e)))
named s x (Some (ObjectArray e element)) = using e x.at (tree.Start element (refs.Static (object_number s e)))
named s x (Some (Function e signature)) = fails TypeRule x.at

-- ---- calls (C99 6.5.2.2)

-- an expression of a list, with its first token
pub record Given : Type 0 where
  pub at : Span
  pub value : Checked Expression

-- each argument is judged alone, and those that have no parameter too
abbrev pub arguments_for : List ValueType → List Given → Checked Arguments
arguments_for types [] = fits NoMore
arguments_for [] (g ∷ gs) = both g.value (arguments_for [] gs) (λ e es. fits (Argument e es))
arguments_for (t ∷ ts) (g ∷ gs) = both (if_fits g.value (assigned t g.at)) (arguments_for ts gs) (λ e es.
    fits (Argument e es))

abbrev pub has_type : {A : Type 0} → Checked A → Bool
has_type (Fits value notes) = true
has_type (Fails first others) = false

abbrev pub have_types : List Given → Bool
have_types [] = true
have_types (g ∷ gs) = has_type g.value && have_types gs

-- the number of arguments is judged where all of them have types
abbrev pub count_faults : Span → List ValueType → List Given → List Fault
count_faults at types gs =
    if have_types gs then (if length types == length gs then [] else fault ArgumentCount at ∷ []) else []

-- a call of a function of the library is a node of its own
abbrev pub library_call : Span → library.LibraryFunction → Arguments → Checked Expression
library_call at library.Putchar (Argument e others) = fits (tree.Putchar e)
library_call at library.Putchar NoMore = fails ArgumentCount at
library_call at library.Getchar arguments = fits tree.Getchar
library_call at library.Exit (Argument e others) = fits (tree.Exit e)
library_call at library.Exit NoMore = fails ArgumentCount at

abbrev pub call_of : Scope → Span → Entity → ValueType → Arguments → Checked Expression
call_of s at (Library f) of arguments = library_call at f arguments
call_of s at (Shared name) of arguments =
    using (Shared name) at (tree.Call of (function_number s (Shared name)) arguments)
call_of s at (OfFile file name) of arguments =
    using (OfFile file name) at (tree.Call of (function_number s (OfFile file name)) arguments)
call_of s at (At place) of arguments =
    using (At place) at (tree.Call of (function_number s (At place)) arguments)

abbrev pub function_call : Scope → Span → Entity → Signature → List Given → Checked Expression
function_call s at e signature gs =
    also (count_faults at signature.parameters gs)
    (if_fits (arguments_for signature.parameters gs) (call_of s at e signature.result))

-- a called name that is no function is a fault at once, whatever the arguments are
abbrev pub not_called : Fault → List Given → Checked Expression
not_called f gs = Fails f (faults_in (arguments_for [] gs))

abbrev pub called : Scope → Ident → List Given → Option Meaning → Checked Expression
called s f gs None = not_called (fault Undeclared f.at) gs
called s f gs (Some (Local v of)) =
    not_called (fault (if is_pointer of then PointerUse else TypeRule) f.at) gs
called s f gs (Some (LocalArray k element)) = not_called (fault PointerUse f.at) gs
called s f gs (Some (Object e of)) = not_called (fault TypeRule f.at) gs
called s f gs (Some (ObjectArray e element)) = not_called (fault PointerUse f.at) gs
called s f gs (Some (Function e signature)) = function_call s f.at e signature gs

-- ---- expressions

abbrev pub postfix_op : raw.StepOp → StepOp
postfix_op raw_step.Increment = PostIncrement
postfix_op raw_step.Decrement = PostDecrement

abbrev pub prefix_op : raw.StepOp → StepOp
prefix_op raw_step.Increment = PreIncrement
prefix_op raw_step.Decrement = PreDecrement

abbrev mutual
  pub typed_expression : Scope → Expr → Checked Expression
  -- C99 6.5.1; parentheses change nothing, a place in them is a place
  typed_expression s (trees.Identifier x) = named s x (meaning_of s.names x.name)
  typed_expression s (trees.Number value at) = fits (tree.Constant Int value)
  typed_expression s (trees.Text pieces) = text_literal s pieces
  typed_expression s (trees.Parenthesised o e c) = typed_expression s e
  -- C99 6.5.2
  typed_expression s (trees.Call f o arguments commas c) =
      called s f (given s arguments) (meaning_of s.names f.name)
  typed_expression s (trees.Index b o i c) = both (typed_expression s b) (typed_expression s i) (index_row o)
  typed_expression s (trees.Postfix b op at) =
      if_fits (typed_expression s b) (λ e. step_row (postfix_op op) at (place_named e))
  -- C99 6.5.3
  typed_expression s (trees.Prefix op at e) =
      if_fits (typed_expression s e) (λ x. step_row (prefix_op op) at (place_named x))
  typed_expression s (trees.Unary op at e) = if_fits (typed_expression s e) (unary_row op at)
  -- C99 6.5.4
  typed_expression s (trees.Cast o specifiers pointer c e) =
      both (type_name o specifiers pointer) (typed_expression s e) (cast_row o)
  -- C99 6.5.5 to 6.5.14, 6.5.17
  typed_expression s (trees.Binary op l at r) =
      both (typed_expression s l) (typed_expression s r) (binary_row op at)
  -- C99 6.5.15
  typed_expression s (trees.Conditional t q a k b) =
      three (typed_expression s t) (typed_expression s a) (typed_expression s b) (conditional_row q)
  -- C99 6.5.16
  typed_expression s (trees.Assignment op l at r) =
      both (typed_expression s l) (typed_expression s r) (λ x e. assignment_row op at (place_named x) e)

  -- several expressions, each judged alone
  pub given : Scope → Exprs → List Given
  given s NoExpr = []
  given s (OneExpr e es) = record { at = first_token e; value = typed_expression s e } ∷ given s es

abbrev pub typed_if_any : Scope → Option Expr → Checked (Option Expression)
typed_if_any s None = fits None
typed_if_any s (Some e) = if_fits (typed_expression s e) (λ x. fits (Some x))
