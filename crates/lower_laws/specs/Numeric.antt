-- Expressions of numbers alone: their places are locals of integer types, no part of them is a pointer, and calls are
-- of functions that take numbers and give one.
use Rattle.std.specs.List.{All}
use Rattle.std.specs.Prelude.{slice_get, IsSomeAnd}
use Rattle.c_tree.specs.Program.{Argument, Arguments, NoMore, Program}
use Rattle.lower_lines.specs.Following.{parameters_in}
use Rattle.c_tree.specs.Program.{value_type, Expression, Constant, Start, Read, Address, Unary, Binary, And, Or}
use Rattle.c_tree.specs.Program.{Conditional, Cast, Assign, Update, Step, Comma, Call, Putchar, Getchar, Exit, Place}
use Rattle.c_tree.specs.Program.{LocalPlace, StaticPlace, Target, Element}
use Rattle.c_tree.specs.WellTyped.{IsInteger}
use Rattle.c_tree.specs.declared.types.ValueType.{ValueType}
use Rattle.c_tree.specs.declared.types.ValueType.TheVariants.{Void, Integer, Pointer}

-- a local
abbrev pub IsName : Place → Type 0
IsName (LocalPlace k) = Unit {0}
IsName (StaticPlace k) = ⊥
IsName (Target element e) = ⊥
IsName (Element element a i) = ⊥

-- a cast to void, of whatever is numeric, or of a number to an integer type
abbrev pub CastsNumber : ValueType → ValueType → Type 0
CastsNumber Void from = Unit {0}
CastsNumber (Integer t) from = IsInteger from
CastsNumber (Pointer t) from = ⊥

-- `exit`, the comma and a cast to void may be void; everything else is a number.
abbrev mutual
  pub IsNumeric : Program → Expression → Type 0
  IsNumeric p (Constant of n) = Unit {0}
  IsNumeric p (Start element array) = ⊥
  IsNumeric p (Read of place) = IsName place × IsInteger of
  IsNumeric p (Address element place) = ⊥
  IsNumeric p (Unary of op e) = IsNumeric p e × IsInteger (value_type e)
  IsNumeric p (Binary of op a b) = IsNumeric p a × IsInteger (value_type a) × IsNumeric p b
      × IsInteger (value_type b)
  IsNumeric p (And a b) = IsNumeric p a × IsInteger (value_type a) × IsNumeric p b × IsInteger
      (value_type b)
  IsNumeric p (Or a b) = IsNumeric p a × IsInteger (value_type a) × IsNumeric p b × IsInteger
      (value_type b)
  IsNumeric p (Conditional of t a b) = IsNumeric p t × IsInteger (value_type t) × IsNumeric p a
      × IsInteger (value_type a) × IsNumeric p b × IsInteger (value_type b)
  IsNumeric p (Cast to e) = IsNumeric p e × CastsNumber to (value_type e)
  IsNumeric p (Assign of place e) = IsName place × IsInteger of × IsNumeric p e × IsInteger (value_type e)
  IsNumeric p (Update of op place e) = IsName place × IsInteger of × IsNumeric p e × IsInteger (value_type
      e)
  IsNumeric p (Step of op place) = IsName place × IsInteger of
  IsNumeric p (Comma a b) = IsNumeric p a × IsNumeric p b
  IsNumeric p (Call of k arguments) = IsInteger of × AreNumeric p arguments
      × IsSomeAnd (slice_get p.functions k) (λ f. All (λ l. IsInteger l.of) (parameters_in f))
  IsNumeric p (Putchar e) = IsNumeric p e × IsInteger (value_type e)
  IsNumeric p Getchar = Unit {0}
  IsNumeric p (Exit e) = IsNumeric p e × IsInteger (value_type e)

  pub AreNumeric : Program → Arguments → Type 0
  AreNumeric p NoMore = Unit {0}
  AreNumeric p (Argument e es) = IsNumeric p e × IsInteger (value_type e) × AreNumeric p es
