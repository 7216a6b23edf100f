-- What is known of an expression before its lines are. The laws that they are those of its part are proved.
use Rattle.std.specs.Prelude.{ℕ, Bool, true, false, Option, None}
use Rattle.c_tree.specs.declared.types.IntegerType.{IntegerType}
use Rattle.c_tree.specs.declared.types.IntegerType.TheVariants.{Char, Short, Int, UnsignedInt}
use Rattle.c_tree.specs.declared.types.ValueType.{ValueType}
use Rattle.c_tree.specs.declared.types.ValueType.TheVariants.{Void, Integer, Pointer}
use Rattle.c_tree.specs.Program.{int, Expression, Constant, Start, Read, Address, Unary, Binary, And, Or, Conditional}
use Rattle.c_tree.specs.Program.{Cast, Assign, Update, Step, Comma, Call, Putchar, Getchar, Exit, Place, LocalPlace}
use Rattle.c_tree.specs.Program.{StaticPlace, Target, Element}
use Rattle.lower_lines.specs.Expressions.{local_part}
use Rattle.lower_lines.specs.Parts.{Wanted, Dropped, Own, ToLocal}
use Rattle.lower_lines.specs.Variables.{Context, Spot}

-- a static object that is no array is a number
abbrev pub number_type : ValueType → IntegerType
number_type Void = Int
number_type (Integer t) = t
number_type (Pointer t) = Int

-- where an operator's value goes that a local gets
abbrev pub value_in : ValueType → ℕ → Wanted
value_in Void place = Dropped
value_in (Integer Char) place = Own
value_in (Integer Short) place = Own
value_in (Integer Int) place = ToLocal place
value_in (Integer UnsignedInt) place = ToLocal place
value_in (Pointer t) place = ToLocal place

-- the type of the value of a place
abbrev pub place_type : ValueType → Place → ValueType
place_type of (LocalPlace v) = of
place_type of (StaticPlace k) = Integer (number_type of)
place_type of (Target t e) = Integer t
place_type of (Element t a i) = Integer t

-- that of what is stepped
abbrev pub step_type : ValueType → Place → ValueType
step_type of (LocalPlace v) = of
step_type of (StaticPlace k) = of
step_type of (Target t e) = Integer t
step_type of (Element t a i) = Integer t

abbrev pub type_in : Expression → ValueType
type_in (Constant t n) = Integer t
type_in (Start t array) = Pointer t
type_in (Read of place) = place_type of place
type_in (Address t place) = Pointer t
type_in (Unary t operator e) = Integer t
type_in (Binary of operator a b) = of
type_in (And a b) = int
type_in (Or a b) = int
type_in (Conditional of t a b) = of
type_in (Cast to e) = to
type_in (Assign of place e) = place_type of place
type_in (Update of operator place e) = place_type of place
type_in (Step of operator place) = step_type of place
type_in (Comma a b) = type_in b
type_in (Call of f arguments) = of
type_in (Putchar e) = int
type_in Getchar = int
type_in (Exit e) = Void

abbrev pub is_name : Place → Bool
is_name (LocalPlace v) = true
is_name (StaticPlace k) = true
is_name (Target t e) = false
is_name (Element t a i) = false

abbrev pub is_simple : Expression → Bool
is_simple (Constant t n) = true
is_simple (Start t array) = true
is_simple (Read of place) = is_name place
is_simple (Address t place) = is_name place
is_simple (Unary t operator e) = false
is_simple (Binary of operator a b) = false
is_simple (And a b) = false
is_simple (Or a b) = false
is_simple (Conditional of t a b) = false
is_simple (Cast to e) = false
is_simple (Assign of place e) = false
is_simple (Update of operator place e) = false
is_simple (Step of operator place) = false
is_simple (Comma a b) = false
is_simple (Call of f arguments) = false
is_simple (Putchar e) = false
is_simple Getchar = false
is_simple (Exit e) = false

-- where a name stands, if an op may use it there
abbrev pub name_stands : Context → ValueType → Place → Option Spot
name_stands c of (LocalPlace v) = (local_part c of v).stands
name_stands c of (StaticPlace k) = None
name_stands c of (Target t e) = None
name_stands c of (Element t a i) = None

abbrev pub stands_in : Context → Expression → Option Spot
stands_in c (Constant t n) = None
stands_in c (Start t array) = None
stands_in c (Read of place) = name_stands c of place
stands_in c (Address t place) = name_stands c (Pointer t) place
stands_in c (Unary t operator e) = None
stands_in c (Binary of operator a b) = None
stands_in c (And a b) = None
stands_in c (Or a b) = None
stands_in c (Conditional of t a b) = None
stands_in c (Cast to e) = None
stands_in c (Assign of place e) = None
stands_in c (Update of operator place e) = None
stands_in c (Step of operator place) = None
stands_in c (Comma a b) = None
stands_in c (Call of f arguments) = None
stands_in c (Putchar e) = None
stands_in c Getchar = None
stands_in c (Exit e) = None
