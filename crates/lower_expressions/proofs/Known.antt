-- What is known of an expression before its lines are is what its part has.
use Rattle.std.proofs.Common.{◌≡◌, ℕ, None, true, false, refl}
use Rattle.c_tree.specs.declared.expression.BinaryOp.{BinaryOp}
use Rattle.c_tree.specs.declared.expression.StepOp.{StepOp}
use Rattle.c_tree.specs.declared.expression.StepOp.TheVariants.{PreIncrement, PreDecrement, PostIncrement}
use Rattle.c_tree.specs.declared.expression.StepOp.TheVariants.{PostDecrement}
use Rattle.c_tree.specs.declared.expression.UnaryOp.{UnaryOp}
use Rattle.c_tree.specs.declared.expression.UnaryOp.TheVariants.{Plus, Minus, Complement, Not}
use Rattle.c_tree.specs.declared.types.IntegerType.{IntegerType}
use Rattle.c_tree.specs.declared.types.IntegerType.TheVariants.{Char, Short, Int, UnsignedInt}
use Rattle.c_tree.specs.declared.types.ValueType.{ValueType}
use Rattle.c_tree.specs.declared.types.ValueType.TheVariants.{Void, Integer, Pointer}
use Rattle.c_tree.specs.Program.{Expression, Constant, Start, Read, Address, Unary, Binary, And, Or, Conditional}
use Rattle.c_tree.specs.Program.{Cast, Assign, Update, Step, Comma, Call, Putchar, Getchar, Exit, Place, LocalPlace}
use Rattle.c_tree.specs.Program.{StaticPlace, Target, Element}
use Rattle.lower_lines.specs.Expressions.{assign_part}
use Rattle.lower_lines.specs.Expressions.{assigned_local, local_part, part_of, place_of, read_part, step_part}
use Rattle.lower_lines.specs.Expressions.{stepped_name, unary_part, update_part}
use Rattle.lower_lines.specs.Parts.{Part}
use Rattle.lower_lines.specs.Variables.{Context}
use Rattle.lower_expressions.specs.Kinds.{is_name, is_simple, name_stands, place_type, stands_in, step_type, type_in}

-- ---- locals

pub local-of : (c : Context) (of : ValueType) (v : ℕ) → (local_part c of v).of ≡ of
local-of c Void v = refl
local-of c (Integer Char) v = refl
local-of c (Integer Short) v = refl
local-of c (Integer Int) v = refl
local-of c (Integer UnsignedInt) v = refl
local-of c (Pointer t) v = refl

local-simple : (c : Context) (of : ValueType) (v : ℕ) → (local_part c of v).simple ≡ true
local-simple c Void v = refl
local-simple c (Integer Char) v = refl
local-simple c (Integer Short) v = refl
local-simple c (Integer Int) v = refl
local-simple c (Integer UnsignedInt) v = refl
local-simple c (Pointer t) v = refl

-- a compound part with a type
pub record IsMade (of : ValueType) (a : Part) : Type 0 where
  pub has : a.of ≡ of
  pub simple : a.simple ≡ false
  pub stands : a.stands ≡ None

assigned : (c : Context) (of : ValueType) (v : ℕ) (a : Part) → IsMade of (assigned_local c of v a)
assigned c Void v a = record { has = refl; simple = refl; stands = refl }
assigned c (Integer Char) v a = record { has = refl; simple = refl; stands = refl }
assigned c (Integer Short) v a = record { has = refl; simple = refl; stands = refl }
assigned c (Integer Int) v a = record { has = refl; simple = refl; stands = refl }
assigned c (Integer UnsignedInt) v a = record { has = refl; simple = refl; stands = refl }
assigned c (Pointer t) v a = record { has = refl; simple = refl; stands = refl }

assigns : (c : Context) (of : ValueType) (place : Place) (a : Part)
    → IsMade (place_type of place) (assign_part c of (place_of c place) a)
assigns c of (LocalPlace v) a = assigned c of v a
assigns c Void (StaticPlace k) a = record { has = refl; simple = refl; stands = refl }
assigns c (Integer t) (StaticPlace k) a = record { has = refl; simple = refl; stands = refl }
assigns c (Pointer t) (StaticPlace k) a = record { has = refl; simple = refl; stands = refl }
assigns c of (Target t e) a = record { has = refl; simple = refl; stands = refl }
assigns c of (Element t b i) a = record { has = refl; simple = refl; stands = refl }

updates : (c : Context) (of : ValueType) (operator : BinaryOp) (place : Place) (a : Part)
    → IsMade (place_type of place) (update_part c of operator (place_of c place) a)
updates c of operator (LocalPlace v) a = assigned c of v _
updates c Void operator (StaticPlace k) a = record { has = refl; simple = refl; stands = refl }
updates c (Integer t) operator (StaticPlace k) a = record { has = refl; simple = refl; stands = refl }
updates c (Pointer t) operator (StaticPlace k) a = record { has = refl; simple = refl; stands = refl }
updates c of operator (Target t e) a = record { has = refl; simple = refl; stands = refl }
updates c of operator (Element t b i) a = record { has = refl; simple = refl; stands = refl }

stepped : (c : Context) (operator : StepOp) (of : ValueType) (name update : Part)
    → IsMade of (stepped_name c operator of name update)
stepped c PreIncrement of name update = record { has = refl; simple = refl; stands = refl }
stepped c PreDecrement of name update = record { has = refl; simple = refl; stands = refl }
stepped c PostIncrement of name update = record { has = refl; simple = refl; stands = refl }
stepped c PostDecrement of name update = record { has = refl; simple = refl; stands = refl }

steps : (c : Context) (of : ValueType) (operator : StepOp) (place : Place)
    → IsMade (step_type of place) (step_part c of operator (place_of c place))
steps c of operator (LocalPlace v) = stepped c operator of _ _
steps c of operator (StaticPlace k) = stepped c operator of _ _
steps c of operator (Target t e) = record { has = refl; simple = refl; stands = refl }
steps c of operator (Element t b i) = record { has = refl; simple = refl; stands = refl }

unary : (c : Context) (of : IntegerType) (operator : UnaryOp) (a : Part)
    → IsMade (Integer of) (unary_part c of operator a)
unary c of Plus a = record { has = refl; simple = refl; stands = refl }
unary c of Minus a = record { has = refl; simple = refl; stands = refl }
unary c of Complement a = record { has = refl; simple = refl; stands = refl }
unary c of Not a = record { has = refl; simple = refl; stands = refl }

-- ---- every expression

read-type : (c : Context) (of : ValueType) (place : Place)
    → (read_part c of (place_of c place)).of ≡ place_type of place
read-type c of (LocalPlace v) = local-of c of v
read-type c Void (StaticPlace k) = refl
read-type c (Integer t) (StaticPlace k) = refl
read-type c (Pointer t) (StaticPlace k) = refl
read-type c Void (Target t e) = refl
read-type c (Integer u) (Target t e) = refl
read-type c (Pointer u) (Target t e) = refl
read-type c Void (Element t b i) = refl
read-type c (Integer u) (Element t b i) = refl
read-type c (Pointer u) (Element t b i) = refl

read-simple : (c : Context) (of : ValueType) (place : Place)
    → (read_part c of (place_of c place)).simple ≡ is_name place
read-simple c of (LocalPlace v) = local-simple c of v
read-simple c Void (StaticPlace k) = refl
read-simple c (Integer t) (StaticPlace k) = refl
read-simple c (Pointer t) (StaticPlace k) = refl
read-simple c Void (Target t e) = refl
read-simple c (Integer u) (Target t e) = refl
read-simple c (Pointer u) (Target t e) = refl
read-simple c Void (Element t b i) = refl
read-simple c (Integer u) (Element t b i) = refl
read-simple c (Pointer u) (Element t b i) = refl

read-stands : (c : Context) (of : ValueType) (place : Place)
    → (read_part c of (place_of c place)).stands ≡ name_stands c of place
read-stands c of (LocalPlace v) = refl
read-stands c Void (StaticPlace k) = refl
read-stands c (Integer t) (StaticPlace k) = refl
read-stands c (Pointer t) (StaticPlace k) = refl
read-stands c Void (Target t e) = refl
read-stands c (Integer u) (Target t e) = refl
read-stands c (Pointer u) (Target t e) = refl
read-stands c Void (Element t b i) = refl
read-stands c (Integer u) (Element t b i) = refl
read-stands c (Pointer u) (Element t b i) = refl

pub type-known : (c : Context) (e : Expression) → (part_of c e).of ≡ type_in e
type-known c (Constant t n) = refl
type-known c (Start t array) = refl
type-known c (Read of place) = read-type c of place
type-known c (Address t (LocalPlace v)) = refl
type-known c (Address t (StaticPlace k)) = refl
type-known c (Address t (Target u e)) = refl
type-known c (Address t (Element u a i)) = refl
type-known c (Unary t operator e) = (unary c t operator (part_of c e)).has
type-known c (Binary of operator a b) = refl
type-known c (And a b) = refl
type-known c (Or a b) = refl
type-known c (Conditional of t a b) = refl
type-known c (Cast to e) = refl
type-known c (Assign of place e) = (assigns c of place (part_of c e)).has
type-known c (Update of operator place e) = (updates c of operator place (part_of c e)).has
type-known c (Step of operator place) = (steps c of operator place).has
type-known c (Comma a b) = type-known c b
type-known c (Call of f arguments) = refl
type-known c (Putchar e) = refl
type-known c Getchar = refl
type-known c (Exit e) = refl

pub simple-known : (c : Context) (e : Expression) → (part_of c e).simple ≡ is_simple e
simple-known c (Constant t n) = refl
simple-known c (Start t array) = refl
simple-known c (Read of place) = read-simple c of place
simple-known c (Address t (LocalPlace v)) = refl
simple-known c (Address t (StaticPlace k)) = refl
simple-known c (Address t (Target u e)) = refl
simple-known c (Address t (Element u a i)) = refl
simple-known c (Unary t operator e) = (unary c t operator (part_of c e)).simple
simple-known c (Binary of operator a b) = refl
simple-known c (And a b) = refl
simple-known c (Or a b) = refl
simple-known c (Conditional of t a b) = refl
simple-known c (Cast to e) = refl
simple-known c (Assign of place e) = (assigns c of place (part_of c e)).simple
simple-known c (Update of operator place e) = (updates c of operator place (part_of c e)).simple
simple-known c (Step of operator place) = (steps c of operator place).simple
simple-known c (Comma a b) = refl
simple-known c (Call of f arguments) = refl
simple-known c (Putchar e) = refl
simple-known c Getchar = refl
simple-known c (Exit e) = refl

pub stands-known : (c : Context) (e : Expression) → (part_of c e).stands ≡ stands_in c e
stands-known c (Constant t n) = refl
stands-known c (Start t array) = refl
stands-known c (Read of place) = read-stands c of place
stands-known c (Address t (LocalPlace v)) = refl
stands-known c (Address t (StaticPlace k)) = refl
stands-known c (Address t (Target u e)) = refl
stands-known c (Address t (Element u a i)) = refl
stands-known c (Unary t operator e) = (unary c t operator (part_of c e)).stands
stands-known c (Binary of operator a b) = refl
stands-known c (And a b) = refl
stands-known c (Or a b) = refl
stands-known c (Conditional of t a b) = refl
stands-known c (Cast to e) = refl
stands-known c (Assign of place e) = (assigns c of place (part_of c e)).stands
stands-known c (Update of operator place e) = (updates c of operator place (part_of c e)).stands
stands-known c (Step of operator place) = (steps c of operator place).stands
stands-known c (Comma a b) = refl
stands-known c (Call of f arguments) = refl
stands-known c (Putchar e) = refl
stands-known c Getchar = refl
stands-known c (Exit e) = refl
