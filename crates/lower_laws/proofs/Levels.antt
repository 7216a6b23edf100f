-- Every expression's lines take at least one level, and which levels there is room for.
use Rattle.std.proofs.Common.{ℕ, suc, ◌+◌, ◌<◌, ◌≤◌, max, arith}
use Rattle.std.proofs.Math.Nat.{le-max_left, le-max_right}
use Rattle.c_tree.specs.declared.expression.BinaryOp.{BinaryOp}
use Rattle.c_tree.specs.declared.expression.StepOp.{StepOp}
use Rattle.c_tree.specs.declared.expression.StepOp.TheVariants.{PreIncrement, PreDecrement, PostIncrement}
use Rattle.c_tree.specs.declared.expression.StepOp.TheVariants.{PostDecrement}
use Rattle.c_tree.specs.declared.expression.UnaryOp.{UnaryOp}
use Rattle.c_tree.specs.declared.expression.UnaryOp.TheVariants.{Plus, Minus, Complement, Not}
use Rattle.c_tree.specs.declared.types.IntegerType.{IntegerType}
use Rattle.c_tree.specs.declared.types.IntegerType.TheVariants.{Char, Short, Int, UnsignedInt}
use Rattle.c_tree.specs.declared.types.ValueType.{ValueType}
use Rattle.c_tree.specs.declared.types.ValueType.TheVariants.{Void, Integer, Pointer}
use Rattle.c_tree.specs.Operators.{step_op}
use Rattle.c_tree.specs.Program.{Expression, Constant, Start as StartOf, Read, Address, Unary, Binary, And, Or}
use Rattle.c_tree.specs.Program.{Conditional, Cast, Assign, Update, Step, Comma, Call, Putchar, Getchar, Exit, Place}
use Rattle.c_tree.specs.Program.{LocalPlace, StaticPlace, Target, Element}
use Rattle.lower_lines.specs.Expressions.{Located, AtLocal, AtObject, AtAddress, address_part, assign_part, element_of}
use Rattle.lower_lines.specs.Expressions.{local_part, one_part, part_of, place_of, read_part, step_part, stepped_name}
use Rattle.lower_lines.specs.Expressions.{unary_part, update_part}
use Rattle.lower_lines.specs.Parts.{Part, as_pointer, in_type}
use Rattle.lower_lines.specs.Variables.{Context}

-- the greater of two is one at least where one of them is
pub max-first : (a b : ℕ) → 1 ≤ a → 1 ≤ max a b
max-first a b h = let m = le-max_left a b in omega (arith, h, m)

pub max-behind : (a b : ℕ) → 1 ≤ max a (suc b)
max-behind a b = let m = le-max_right a (suc b) in omega (arith, m)

-- where a part takes a level, the first one is below the top
pub levels-below : (level levels top : ℕ) → level + levels ≤ top → 1 ≤ levels → level < top
levels-below level levels top h one = omega (arith, h, one)

-- where there is room for one more level, this one is below the top
pub level-below : (level levels : ℕ) → level + 1 ≤ levels → level < levels
level-below level levels h = omega (arith, h)

-- of two parts of which the second begins a level higher, the first has room
pub first-room : (level i j top : ℕ) → level + max i (suc j) ≤ top → level + i ≤ top
first-room level i j top h = let m = le-max_left i (suc j) in omega (arith, h, m)

-- and so has the second
pub second-room : (level i j top : ℕ) → level + max i (suc j) ≤ top → suc level + j ≤ top
second-room level i j top h = let m = le-max_right i (suc j) in omega (arith, h, m)

-- a place whose address and its value take one level at least
abbrev LevelsOf : Located → Type 0
LevelsOf (AtLocal k) = Unit {0}
LevelsOf (AtObject k) = Unit {0}
LevelsOf (AtAddress t a) = (1 ≤ a.levels) × (1 ≤ a.value.levels)

pointer-one : (c : Context) (t : IntegerType) (of : ValueType) (a : Part) → 1 ≤ a.levels
    → 1 ≤ (as_pointer c t of a).levels
pointer-one c t Void a h = h
pointer-one c t (Integer u) a h = h
pointer-one c t (Pointer u) a h = h

pub in_type-one : (c : Context) (of : ValueType) (a : Part) → 1 ≤ a.levels → 1 ≤ (in_type c of a).levels
in_type-one c Void a h = h
in_type-one c (Integer Char) a h = h
in_type-one c (Integer Short) a h = h
in_type-one c (Integer Int) a h = h
in_type-one c (Integer UnsignedInt) a h = h
in_type-one c (Pointer t) a h = pointer-one c t a.of a h

local-one : (c : Context) (of : ValueType) (k : ℕ) → 1 ≤ (local_part c of k).levels
local-one c Void k = omega arith
local-one c (Integer Char) k = omega arith
local-one c (Integer Short) k = omega arith
local-one c (Integer Int) k = omega arith
local-one c (Integer UnsignedInt) k = omega arith
local-one c (Pointer t) k = omega arith

read-one : (c : Context) (of : ValueType) (l : Located) → LevelsOf l → 1 ≤ (read_part c of l).levels
read-one c of (AtLocal k) h = local-one c of k
read-one c Void (AtObject k) h = omega arith
read-one c (Integer t) (AtObject k) h = omega arith
read-one c (Pointer t) (AtObject k) h = omega arith
read-one c Void (AtAddress t a) h = h.0
read-one c (Integer u) (AtAddress t a) h = h.0
read-one c (Pointer u) (AtAddress t a) h = h.0

address-one : (c : Context) (t : IntegerType) (l : Located) → LevelsOf l → 1 ≤ (address_part c t l).levels
address-one c t (AtLocal k) h = local-one c (Pointer t) k
address-one c t (AtObject k) h = omega arith
address-one c t (AtAddress u a) h = h.1

unary-one : (c : Context) (of : IntegerType) (op : UnaryOp) (a : Part) → 1 ≤ a.levels
    → 1 ≤ (unary_part c of op a).levels
unary-one c of Plus a h = h
unary-one c of Minus a h = h
unary-one c of Complement a h = h
unary-one c of Not a h = h

assigned-one : (c : Context) (of : ValueType) (k : ℕ) (a : Part) → 1 ≤ a.levels
    → 1 ≤ (assign_part c of (AtLocal k) a).levels
assigned-one c Void k a h = h
assigned-one c (Integer Char) k a h = h
assigned-one c (Integer Short) k a h = h
assigned-one c (Integer Int) k a h = h
assigned-one c (Integer UnsignedInt) k a h = h
assigned-one c (Pointer t) k a h = pointer-one c t a.of a h

assign-one : (c : Context) (of : ValueType) (l : Located) (a : Part) → LevelsOf l → 1 ≤ a.levels
    → 1 ≤ (assign_part c of l a).levels
assign-one c of (AtLocal k) a there h = assigned-one c of k a h
assign-one c Void (AtObject k) a there h = h
assign-one c (Integer t) (AtObject k) a there h = h
assign-one c (Pointer t) (AtObject k) a there h = h
assign-one c Void (AtAddress t to) a there h = max-behind to.levels a.levels
assign-one c (Integer u) (AtAddress t to) a there h = max-behind to.levels a.levels
assign-one c (Pointer u) (AtAddress t to) a there h = max-behind to.levels a.levels

update-one : (c : Context) (of : ValueType) (op : BinaryOp) (l : Located) (a : Part) → LevelsOf l → 1 ≤ a.levels
    → 1 ≤ (update_part c of op l a).levels
update-one c of op (AtLocal k) a there h =
    assigned-one c of k _ (max-behind (local_part c of k).levels a.levels)
update-one c of op (AtObject k) a there h =
    assign-one c of (AtObject k) _ tt (max-behind (read_part c of (AtObject k)).levels a.levels)
update-one c of op (AtAddress t to) a there h = max-behind to.levels a.levels

stepped-one : (c : Context) (op : StepOp) (of : ValueType) (name update : Part) → 1 ≤ update.levels
    → 1 ≤ (stepped_name c op of name update).levels
stepped-one c PreIncrement of name update h = h
stepped-one c PreDecrement of name update h = h
stepped-one c PostIncrement of name update h = max-behind name.levels update.levels
stepped-one c PostDecrement of name update h = max-behind name.levels update.levels

step-one : (c : Context) (of : ValueType) (op : StepOp) (l : Located) → LevelsOf l → 1 ≤ (step_part c of op l).levels
step-one c of op (AtLocal k) there =
    stepped-one c op of _ _ (update-one c of (step_op op) (AtLocal k) (one_part c) tt (omega arith))
step-one c of op (AtObject k) there =
    stepped-one c op of _ _ (update-one c of (step_op op) (AtObject k) (one_part c) tt (omega arith))
step-one c of op (AtAddress t to) there = max-behind to.levels 1

element-one : (c : Context) (t : IntegerType) (of : ValueType) (a b : Part)
    → LevelsOf (AtAddress t (element_of c t of a b))
element-one c t Void a b = (max-behind a.levels b.levels, max-behind a.levels b.levels)
element-one c t (Integer u) a b = (max-behind a.levels b.levels, max-behind a.levels b.levels)
element-one c t (Pointer u) a b = (max-behind a.levels b.levels, max-behind a.levels b.levels)

mutual
  pub levels-one : (c : Context) (e : Expression) → 1 ≤ (part_of c e).levels
  levels-one c (Constant t n) = omega arith
  levels-one c (StartOf t array) = omega arith
  levels-one c (Read of place) = read-one c of (place_of c place) (located-one c place)
  levels-one c (Address t place) = address-one c t (place_of c place) (located-one c place)
  levels-one c (Unary of op e) = unary-one c of op (part_of c e) (levels-one c e)
  levels-one c (Binary of op a b) = max-behind (part_of c a).levels (part_of c b).levels
  levels-one c (And a b) = max-first (part_of c a).levels (part_of c b).levels (levels-one c a)
  levels-one c (Or a b) = max-first (part_of c a).levels (part_of c b).levels (levels-one c a)
  levels-one c (Conditional of t a b) = max-first (part_of c t).levels _ (levels-one c t)
  levels-one c (Cast to e) = in_type-one c to (part_of c e) (levels-one c e)
  levels-one c (Assign of place e) =
      assign-one c of (place_of c place) (part_of c e) (located-one c place) (levels-one c e)
  levels-one c (Update of op place e) =
      update-one c of op (place_of c place) (part_of c e) (located-one c place) (levels-one c e)
  levels-one c (Step of op place) = step-one c of op (place_of c place) (located-one c place)
  levels-one c (Comma a b) = max-first (part_of c a).levels (part_of c b).levels (levels-one c a)
  levels-one c (Call of f arguments) = max-first 1 _ (omega arith)
  levels-one c (Putchar e) = levels-one c e
  levels-one c Getchar = omega arith
  levels-one c (Exit e) = levels-one c e

  located-one : (c : Context) (place : Place) → LevelsOf (place_of c place)
  located-one c (LocalPlace k) = tt
  located-one c (StaticPlace k) = tt
  located-one c (Target t e) = (levels-one c e, levels-one c e)
  located-one c (Element t a i) = element-one c t (part_of c a).of (part_of c a) (part_of c i)
