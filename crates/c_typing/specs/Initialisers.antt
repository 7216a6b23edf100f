-- Initialisers of locals, of objects of static storage, and of functions, which have none (C99 6.7.8).
use Rattle.std.specs.Prelude.{ℕ, zero, suc, ℤ, List, [], ◌∷◌, length, nat_le, option_map, Option, Some, None}
use Rattle.std.specs.Prelude.{if◌then◌else◌}
use Rattle.pcc_base.specs.declared.span.Span.{Span}
use Rattle.pcc_base.specs.declared.fault.FaultKind.TheVariants as kinds
use Rattle.c_syntax.specs.declared.expression.TextPiece.{TextPiece}
use Rattle.c_syntax.specs.Expressions.{Expr, Exprs, NoExpr, OneExpr}
use Rattle.c_syntax.specs.Declarations.{InitialiserTree, Single, Braces, ValueTree}
use Rattle.c_tree.specs.declared.types.IntegerType.{IntegerType}
use Rattle.c_tree.specs.declared.types.ValueType.{ValueType}
use Rattle.c_tree.specs.declared.types.ValueType.TheVariants.{Integer}
use Rattle.c_tree.specs.Program.{Expression, Initialiser, Elements, Text}
use Rattle.c_tree.specs.Store.{converted}
use Rattle.c_typing.specs.Checked.{Contents, Values, Checked, Fits, fits, fails, if_fits, both, or_fails}
use Rattle.c_typing.specs.Constants.{constant_value}
use Rattle.c_typing.specs.Declarators.{ArrayValues, Letters, Listed, NoValues, array_values, ObjectType, IntegerObject}
use Rattle.c_typing.specs.Declarators.{PointerObject, ArrayObject}
use Rattle.c_typing.specs.Expressions.{Given, arguments_for, given, first_piece, first_token, text_bytes, text_values, text_note}
use Rattle.c_typing.specs.Expressions.{text_entity, typed_expression}
use Rattle.c_typing.specs.Names.{Scope, object_number}
use Rattle.c_typing.specs.Rows.{assigned}

-- The values of a list that has room for so many. Each is judged alone; one too many is a fault at its first token.
abbrev pub values_for : {A : Type 0} → (Span → Expression → Checked A) → ℕ → List Given → Checked (List A)
values_for row room [] = fits []
values_for row zero (g ∷ gs) =
    both (if_fits g.value (λ e. fails kinds.Initialiser g.at)) (values_for row zero gs) (λ x xs. fits (x ∷ xs))
values_for row (suc room) (g ∷ gs) =
    both (if_fits g.value (row g.at)) (values_for row room gs) (λ x xs. fits (x ∷ xs))

-- a scalar has one value, in braces or not (p11)
abbrev pub scalar_values : InitialiserTree → Exprs
scalar_values (Single e) = OneExpr e NoExpr
scalar_values (Braces o es commas trailing c) = es

-- what fits an array: a string whose bytes, without the zero at its end, are no more than its elements (p14)
abbrev pub letters_for : {A : Type 0} → ℕ → List TextPiece → A → Checked A
letters_for count pieces value =
    if nat_le (length (text_bytes pieces)) count then Fits value (text_note pieces ∷ [])
    else fails kinds.Initialiser (first_piece pieces)

abbrev pub no_values : {A : Type 0} → Scope → Expr → Checked A
no_values s e = if_fits (typed_expression s e) (λ x. fails kinds.Initialiser (first_token e))

-- ---- locals

abbrev pub first_of : {A : Type 0} → List A → Option A
first_of [] = None
first_of (x ∷ xs) = Some x

abbrev pub scalar_initialiser : Scope → ValueType → Option ValueTree → Checked (Option Expression)
scalar_initialiser s of None = fits None
scalar_initialiser s of (Some v) =
    if_fits (values_for (assigned of) 1 (given s (scalar_values v.value))) (λ es. fits (first_of es))

abbrev pub elements_for : Scope → IntegerType → ℕ → ArrayValues → Checked Initialiser
elements_for s element count (Letters pieces) =
    letters_for count pieces (Text (object_number s (text_entity pieces)))
elements_for s element count (Listed es) =
    if_fits (values_for (assigned (Integer element)) count (given s es)) (λ xs. fits (Elements xs))
elements_for s element count (NoValues e) = no_values s e

abbrev pub array_initialiser : Scope → IntegerType → ℕ → Option ValueTree → Checked Initialiser
array_initialiser s element count None = fits (Elements [])
array_initialiser s element count (Some v) = elements_for s element count (array_values element v.value)

-- ---- objects of static storage: integer constant expressions, or such a string (p4)

abbrev pub constant_for : IntegerType → Span → Expression → Checked ℤ
constant_for of at e = or_fails (option_map (converted of) (constant_value e)) kinds.Initialiser at

abbrev pub constants_for : Scope → IntegerType → ℕ → Exprs → Checked Contents
constants_for s of room es = if_fits (values_for (constant_for of) room (given s es)) (λ ns. fits (Values ns))

abbrev pub constants_in : Scope → IntegerType → ℕ → ArrayValues → Checked Contents
constants_in s element count (Letters pieces) = letters_for count pieces (Values (text_values pieces))
constants_in s element count (Listed es) = constants_for s element count es
constants_in s element count (NoValues e) = no_values s e

-- what an object holds at first; `otherwise` where nothing initialises it
abbrev pub contents_for : Scope → ObjectType → Contents → Option ValueTree → Checked Contents
contents_for s type otherwise None = fits otherwise
contents_for s (IntegerObject of) otherwise (Some v) = constants_for s of 1 (scalar_values v.value)
contents_for s (PointerObject of) otherwise (Some v) = constants_for s of 1 (scalar_values v.value)
contents_for s (ArrayObject element count) otherwise (Some v) =
    constants_in s element count (array_values element v.value)

-- ---- functions

abbrev pub first_token_of : InitialiserTree → Span
first_token_of (Single e) = first_token e
first_token_of (Braces o es commas trailing c) = o

-- A function has no initialiser (p3): each value that stands there is judged alone, as an argument without a parameter
-- is, and where all have types, the first token is a fault.
abbrev pub function_initialiser : {A : Type 0} → Scope → Option ValueTree → A → Checked A
function_initialiser s None value = fits value
function_initialiser s (Some v) value =
    if_fits (arguments_for [] (given s (scalar_values v.value))) (λ es. fails kinds.TypeRule (first_token_of v.value))
