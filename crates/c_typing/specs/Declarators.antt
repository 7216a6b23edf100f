-- The types that declarators give: of objects, and of parameters (C99 6.7.5).
use Rattle.std.specs.Prelude.{ℕ, zero, suc, ℤ, pos, negsuc, List, [], ◌∷◌, length, Bool, true, false, Option, Some}
use Rattle.std.specs.Prelude.{None}
use Rattle.std.specs.Prelude.{is_none, ◌&&◌, if◌then◌else◌}
use Rattle.pcc_base.specs.declared.span.Span.{Span}
use Rattle.pcc_base.specs.declared.fault.Fault.{Fault}
use Rattle.pcc_base.specs.declared.fault.FaultKind.TheVariants.{Redeclared, TypeRule, ArraySize, PointerUse}
use Rattle.c_syntax.specs.declared.expression.Identifier.{Identifier}
use Rattle.c_syntax.specs.declared.expression.TextPiece.{TextPiece}
use Rattle.c_syntax.specs.Expressions as trees
use Rattle.c_syntax.specs.Expressions.{Star, Expr, Exprs, NoExpr, OneExpr}
use Rattle.c_syntax.specs.Declarations.{ArrayTree, ParameterTree, PartTree, Plain, Array, Function, DeclaratorTree}
use Rattle.c_syntax.specs.Declarations.{InitialiserTree, Single, Braces, ValueTree}
use Rattle.c_tree.specs.declared.types.IntegerType.{IntegerType}
use Rattle.c_tree.specs.declared.types.IntegerType.TheVariants.{Char, Short, Int, UnsignedInt}
use Rattle.c_tree.specs.declared.types.ValueType.{ValueType}
use Rattle.c_tree.specs.declared.types.ValueType.TheVariants.{Void, Integer, Pointer}
use Rattle.c_typing.specs.Faults.{fault}
use Rattle.c_typing.specs.Types.{InParameters, Specified, specified, pointed, Declared, DeclaredValue, DeclaredArray}
use Rattle.c_typing.specs.Types.{DeclaredFunction}
use Rattle.c_typing.specs.Checked.{Checked, fits, fails, also, if_fits, both, faults_in, value_in, or_fails}
use Rattle.c_typing.specs.Constants.{constant_value}
use Rattle.c_typing.specs.Names.{Scope, is_declared_here, with_local}
use Rattle.c_typing.specs.Expressions.{first_word, specifiers_at, text_bytes, typed_expression}

-- ---- initialisers of arrays, by their form (C99 6.7.8p14 to p16)

pub data ArrayValues : Type 0 where
  -- a string, in braces or not
  Letters : (pieces : List TextPiece) → ArrayValues
  -- a list in braces
  Listed : (values : Exprs) → ArrayValues
  -- an expression that no array can be initialised by
  NoValues : (value : Expr) → ArrayValues

abbrev pub text_of : Expr → Option (List TextPiece)
text_of (trees.Text pieces) = Some pieces
text_of e = None

abbrev pub only_text : Exprs → Option (List TextPiece)
only_text NoExpr = None
only_text (OneExpr e NoExpr) = text_of e
only_text (OneExpr e (OneExpr f es)) = None

abbrev pub letters_or : Option (List TextPiece) → ArrayValues → ArrayValues
letters_or None other = other
letters_or (Some pieces) other = Letters pieces

-- of an array of `char` a string is such a value; a string in parentheses isn't one
abbrev pub char_values : InitialiserTree → ArrayValues
char_values (Single e) = letters_or (text_of e) (NoValues e)
char_values (Braces o es commas trailing c) = letters_or (only_text es) (Listed es)

abbrev pub other_values : InitialiserTree → ArrayValues
other_values (Single e) = NoValues e
other_values (Braces o es commas trailing c) = Listed es

abbrev pub array_values : IntegerType → InitialiserTree → ArrayValues
array_values Char value = char_values value
array_values Short value = other_values value
array_values Int value = other_values value
array_values UnsignedInt value = other_values value

-- ---- sizes of arrays (C99 6.7.5.2)

abbrev pub count_of : Exprs → ℕ
count_of NoExpr = 0
count_of (OneExpr e es) = suc (count_of es)

-- the size that an initialiser gives (C99 6.7.8p22)
abbrev pub count_given : ArrayValues → Option ℕ
count_given (Letters pieces) = Some (suc (length (text_bytes pieces)))
count_given (Listed es) = Some (count_of es)
count_given (NoValues e) = None

abbrev pub count_by_value : Option ValueType → Option ValueTree → Option ℕ
count_by_value (Some (Integer t)) (Some v) = count_given (array_values t v.value)
count_by_value (Some (Pointer t)) (Some v) = count_given (other_values v.value)
count_by_value (Some Void) (Some v) = count_given (other_values v.value)
count_by_value None (Some v) = count_given (other_values v.value)
count_by_value of None = None

-- an integer constant expression of at least 1
abbrev pub at_least_one : Span → Option ℤ → Checked ℕ
at_least_one o None = fails ArraySize o
at_least_one o (Some (negsuc n)) = fails ArraySize o
at_least_one o (Some (pos zero)) = fails ArraySize o
at_least_one o (Some (pos (suc n))) = fits (suc n)

-- the size that stands there; it may be missing where another one is given, and for a parameter
abbrev pub size_or : Scope → Span → Option ℕ → Option Expr → Checked ℕ
size_or s o given None = or_fails given ArraySize o
size_or s o given (Some e) = if_fits (typed_expression s e) (λ x. at_least_one o (constant_value x))

-- ---- declarators of objects

-- What the declarator of an object says. A function is none, whatever its parameters are, which aren't judged.
abbrev pub part_type : Scope → Option ValueType → Option ValueTree → PartTree → Checked Declared
part_type s of value Plain = fits (DeclaredValue of)
part_type s of value (Array a) =
    if_fits (size_or s a.opening (count_by_value of value) a.size) (λ count. fits (DeclaredArray of count))
part_type s of value (Function ps) = fits (DeclaredFunction of [])

abbrev pub object_declared : Scope → Specified → DeclaratorTree → Option ValueTree → Checked Declared
object_declared s said d value = part_type s (pointed said.base d.pointer) value d.part

-- The types that objects have.
pub data ObjectType : Type 0 where
  IntegerObject : (of : IntegerType) → ObjectType
  PointerObject : (element : IntegerType) → ObjectType
  ArrayObject : (element : IntegerType) (count : ℕ) → ObjectType

-- an object isn't void, and one of static storage is no pointer; an array has integers
abbrev pub value_object : Bool → Span → Option ValueType → Checked ObjectType
value_object static at None = fails PointerUse at
value_object static at (Some Void) = fails TypeRule at
value_object static at (Some (Integer t)) = fits (IntegerObject t)
value_object static at (Some (Pointer t)) = if static then fails PointerUse at else fits (PointerObject t)

abbrev pub array_object : Span → ℕ → Option ValueType → Checked ObjectType
array_object at count None = fails PointerUse at
array_object at count (Some Void) = fails TypeRule at
array_object at count (Some (Integer t)) = fits (ArrayObject t count)
array_object at count (Some (Pointer t)) = fails PointerUse at

abbrev pub object_allowed : Bool → Span → Declared → Checked ObjectType
object_allowed static at (DeclaredValue of) = value_object static at of
object_allowed static at (DeclaredArray element count) = array_object at count element
object_allowed static at (DeclaredFunction result parameters) = fails TypeRule at

-- the same with any size, for what doesn't hang on it
abbrev pub of_any_size : Option ValueType → PartTree → Declared
of_any_size of Plain = DeclaredValue of
of_any_size of (Array a) = DeclaredArray of 1
of_any_size of (Function ps) = DeclaredFunction of []

-- what the specifiers and the `*` of an object's declarator forbid, at the declared name, whatever its size is
abbrev pub type_faults : Bool → Specified → DeclaratorTree → List Fault
type_faults static said d =
    faults_in (object_allowed static d.name.at (of_any_size (pointed said.base d.pointer) d.part))

-- the type of an object, where it has one
abbrev pub object_type : Bool → Scope → Specified → DeclaratorTree → Option ValueTree → Option ObjectType
object_type static s said d value =
    value_in (if_fits (object_declared s said d value) (object_allowed static d.name.at))

-- ---- parameters (C99 6.7.5.3)

-- its place: its name, or its first specifier
abbrev pub parameter_place : ParameterTree → Option Identifier → Span
parameter_place p None = first_word p.specifiers
parameter_place p (Some name) = name.at

-- an array becomes a pointer to its element (p7)
abbrev pub pointer_to : Option ValueType → Option ValueType
pointer_to None = None
pointer_to (Some Void) = None
pointer_to (Some (Integer t)) = Some (Pointer t)
pointer_to (Some (Pointer t)) = None

abbrev pub parameter_declared : Option ValueType → Option ArrayTree → Option ValueType
parameter_declared of None = of
parameter_declared of (Some a) = pointer_to of

abbrev pub parameter_allowed : Span → Option ValueType → Checked ValueType
parameter_allowed at None = fails PointerUse at
parameter_allowed at (Some Void) = fails TypeRule at
parameter_allowed at (Some (Integer t)) = fits (Integer t)
parameter_allowed at (Some (Pointer t)) = fits (Pointer t)

-- any size will do where none stands
abbrev pub parameter_size : Scope → Option ArrayTree → Checked ℕ
parameter_size s None = fits 1
parameter_size s (Some a) = size_or s a.opening (Some 1) a.size

-- a name of the list stands once in it (C99 6.2.1p4); the parameters of a definition have names (C99 6.9.1p5)
abbrev pub parameter_faults : Scope → Bool → ParameterTree → Option Identifier → List Fault
parameter_faults s definition p None = if definition then fault TypeRule (first_word p.specifiers) ∷ [] else []
parameter_faults s definition p (Some name) =
    if is_declared_here s name.name then fault Redeclared name.at ∷ [] else []

-- a parameter of the type that specifiers and `*` give
abbrev pub parameter_with : ValueType → ParameterTree → Checked ValueType
parameter_with base p =
    parameter_allowed (parameter_place p p.name) (parameter_declared (pointed base p.pointer) p.array)

-- what the specifiers and `*` forbid is judged whatever the size is
abbrev pub typed_parameter : Scope → Bool → ParameterTree → Checked ValueType
typed_parameter s definition p =
    if_fits (specifiers_at InParameters p.specifiers) (λ said.
    also (faults_in (parameter_with said.base p)) (if_fits (parameter_size s p.array) (λ size.
    also (parameter_faults s definition p p.name) (parameter_with said.base p))))

-- a parameter that has a name and a type is a local
abbrev pub with_named : Scope → Option Identifier → Option ValueType → Scope
with_named s (Some name) (Some of) = with_local name.name of s
with_named s _ _ = s

abbrev pub with_parameter : Scope → ParameterTree → Scope
with_parameter s p = with_named s p.name (value_in (typed_parameter s false p))

abbrev pub with_parameters : Scope → List ParameterTree → Scope
with_parameters s [] = s
with_parameters s (p ∷ ps) = with_parameters (with_parameter s p) ps

abbrev pub typed_each : Scope → Bool → List ParameterTree → Checked (List ValueType)
typed_each s definition [] = fits []
typed_each s definition (p ∷ ps) = both (typed_parameter s definition p) (typed_each (with_parameter s p) definition ps)
    (λ t ts. fits (t ∷ ts))

abbrev pub is_void : ValueType → Bool
is_void Void = true
is_void (Integer t) = false
is_void (Pointer t) = false

abbrev pub has_void_base : Option Specified → Bool
has_void_base None = false
has_void_base (Some said) = is_void said.base

-- an unnamed `void`, neither a pointer nor an array
abbrev pub is_void_parameter : ParameterTree → Bool
is_void_parameter p =
    is_none p.name && (is_none p.pointer && (is_none p.array && has_void_base (specified InParameters p.specifiers)))

-- such a parameter alone means that there are none (p10)
abbrev pub parameters_meant : List ParameterTree → List ParameterTree
parameters_meant [] = []
parameters_meant (p ∷ []) = if is_void_parameter p then [] else p ∷ []
parameters_meant (p ∷ (q ∷ ps)) = p ∷ (q ∷ ps)

-- the types of the parameters of a definition, or of a declaration; the names of the list are a scope of their own
abbrev pub typed_parameters : Scope → Bool → List ParameterTree → Checked (List ValueType)
typed_parameters s definition ps = typed_each s definition (parameters_meant ps)
