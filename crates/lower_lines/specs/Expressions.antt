-- The lines of expressions, as C99 6.5 has them. What is evaluated stands in the order of the source.
use Rattle.std.specs.Prelude.{ℕ, suc, ◌+◌, Bool, true, ◌&&◌, ℤ, pos, List, [], ◌∷◌, ◌++◌, max, slice_get}
use Rattle.std.specs.Prelude.{Option, Some, None, if◌then◌else◌, take}
use Rattle.c_tree.specs.declared.expression.ArrayRef.{ArrayRef}
use Rattle.c_tree.specs.declared.expression.ArrayRef.TheVariants as refs
use Rattle.c_tree.specs.declared.expression.BinaryOp.{BinaryOp}
use Rattle.c_tree.specs.declared.expression.BinaryOp.TheVariants.{Add}
use Rattle.c_tree.specs.declared.expression.StepOp.{StepOp}
use Rattle.c_tree.specs.declared.expression.StepOp.TheVariants.{PreIncrement, PreDecrement, PostIncrement}
use Rattle.c_tree.specs.declared.expression.StepOp.TheVariants.{PostDecrement}
use Rattle.c_tree.specs.declared.expression.UnaryOp.{UnaryOp}
use Rattle.c_tree.specs.declared.expression.UnaryOp.TheVariants.{Plus, Minus, Complement, Not}
use Rattle.c_tree.specs.declared.types.IntegerType.{IntegerType}
use Rattle.c_tree.specs.declared.types.IntegerType.TheVariants.{Char, Int}
use Rattle.c_tree.specs.declared.types.ValueType.{ValueType}
use Rattle.c_tree.specs.declared.types.ValueType.TheVariants.{Void, Integer, Pointer}
use Rattle.c_tree.specs.Operators.{step_op, step_type, working_type}
use Rattle.c_tree.specs.Program.{int, Expression, Constant, Start as StartOf, Read, Address, Unary, Binary, And, Or}
use Rattle.c_tree.specs.Program.{Conditional, Cast, Assign, Update, Step, Comma, Call, Putchar, Getchar, Exit, Place}
use Rattle.c_tree.specs.Program.{LocalPlace, StaticPlace, Target, Element, Arguments, NoMore, Argument, Local, Function}
use Rattle.c_tree.specs.Store.{converted}
use Rattle.flow_graph.specs.declared.op.Op.{Op}
use Rattle.flow_graph.specs.declared.op.Op.TheVariants as op
use Rattle.lower_lines.specs.Lines.{Line, Start, Emit}
use Rattle.lower_lines.specs.Operators.{applied, applied_blocks, computing}
use Rattle.lower_lines.specs.Parts.{Wanted, Dropped, Own, ToLocal, Tests, Part, bits_of}
use Rattle.lower_lines.specs.Parts.{compound, converted_lines, delivered, in_type, made, operand}
use Rattle.lower_lines.specs.Parts.{retyped, tested_blocks, truth}
use Rattle.lower_lines.specs.Variables.{Context, ForArray, ForNumber, ForOld, Spot, copied, local_spot, moved, own}
use Rattle.lower_lines.specs.Variables.{temporary}

-- ---- names, numbers and strings

abbrev pub constant_part : Context → IntegerType → ℤ → Part
constant_part c t n = record {
  of = Integer t;
  simple = true;
  stands = None;
  levels = 1;
  blocks = λ wanted. 0;
  lines = λ block level wanted. made c block level wanted (Integer t)
      (λ to. Emit (op.Const to.number (converted t n)) ∷ []);
}

-- the array of a name or a string into a variable
abbrev pub array_line : ArrayRef → ℕ → Line
array_line (refs.Static k) to = Emit (op.Static to k)
array_line (refs.Frame k) to = Emit (op.Frame to k)

abbrev pub start_part : Context → IntegerType → ArrayRef → Part
start_part c element array = record {
  of = Pointer element;
  simple = true;
  stands = None;
  levels = 1;
  blocks = λ wanted. tested_blocks wanted (Pointer element);
  lines = λ block level wanted. made c block level wanted (Pointer element)
      (λ to. array_line array to.array ∷ Emit (op.Const to.number (pos 0)) ∷ []);
}

-- each reading of a local is an op that uses its variable
abbrev pub reading : Context → ℕ → ℕ → Wanted → ValueType → Spot → List Line
reading c block level Dropped of spot = moved of (own c level) spot
reading c block level Own of spot = delivered c block level Own of spot
reading c block level (ToLocal local) of spot = delivered c block level (ToLocal local) of spot
reading c block level (Tests holds fails) of spot = delivered c block level (Tests holds fails) of spot

-- A `char` has a variable of width One, which no op but a few may use.
abbrev pub local_part : Context → ValueType → ℕ → Part
local_part c (Integer Char) local = record {
  of = Integer Char;
  simple = true;
  stands = None;
  levels = 1;
  blocks = λ wanted. 0;
  lines = λ block level wanted. made c block level wanted (Integer Char)
      (λ to. Emit (op.Wide to.number (local_spot c local).number) ∷ []);
}
local_part c of local = record {
  of = of;
  simple = true;
  stands = Some (local_spot c local);
  levels = 1;
  blocks = λ wanted. tested_blocks wanted of;
  lines = λ block level wanted. reading c block level wanted of (local_spot c local);
}

-- a static object that is no array
abbrev pub object_part : Context → IntegerType → ℕ → Part
object_part c t k = record {
  of = Integer t;
  simple = true;
  stands = None;
  levels = 1;
  blocks = λ wanted. 0;
  lines = λ block level wanted. made c block level wanted (Integer t)
      (λ to. Emit (op.Get (bits_of t) to.number k) ∷ []);
}

-- ---- operators (C99 6.5.3 to 6.5.17)

-- an op on a number
abbrev pub number_part : Context → (ℕ → ℕ → Op) → Part → Part
number_part c made_by a =
    let x = operand c true a in
    compound int a.levels (λ wanted. x.blocks) (λ block level wanted.
    x.lines block level ++ made c (block + x.blocks) level wanted int
    (λ to. Emit (made_by to.number (x.spot level).number) ∷ []))

-- `!`: control goes the other way
abbrev pub negated_lines : Context → Part → ℕ → ℕ → Wanted → List Line
negated_lines c a block level Dropped = a.lines block level Dropped
negated_lines c a block level Own = truth c block level Own (λ b holds fails. a.lines b level (Tests fails holds))
negated_lines c a block level (ToLocal local) = truth c block level (ToLocal local)
    (λ b holds fails. a.lines b level (Tests fails holds))
negated_lines c a block level (Tests holds fails) = a.lines block level (Tests fails holds)

-- how many blocks a condition takes that has so many where it is dropped, and so many where it is tested
abbrev pub condition_blocks : ℕ → ℕ → Wanted → ℕ
condition_blocks dropped tests Dropped = dropped
condition_blocks dropped tests Own = 3 + tests
condition_blocks dropped tests (ToLocal local) = 3 + tests
condition_blocks dropped tests (Tests holds fails) = tests

-- the blocks of a part that is tested don't depend on where control goes
abbrev pub test_blocks_of : Part → ℕ
test_blocks_of a = a.blocks (Tests 0 0)

abbrev pub negated : Context → Part → Part
negated c a = compound int a.levels (condition_blocks (a.blocks Dropped) (test_blocks_of a)) (negated_lines c a)

abbrev pub unary_part : Context → IntegerType → UnaryOp → Part → Part
unary_part c of Plus a = compound (Integer of) a.levels a.blocks a.lines
unary_part c of Minus a = retyped of (number_part c op.Neg a)
unary_part c of Complement a = retyped of (number_part c op.Not a)
unary_part c of Not a = retyped of (negated c a)

abbrev pub binary_part : Context → ValueType → BinaryOp → Part → Part → Part
binary_part c of operator a b =
    let x = operand c b.simple a in
    let y = operand c true b in
    compound of (max a.levels (suc b.levels))
    (λ wanted. x.blocks + y.blocks + applied_blocks wanted operator a.of b.of) (λ block level wanted.
    x.lines block level ++ (y.lines (block + x.blocks) (suc level)
    ++ applied c (block + x.blocks + y.blocks) level wanted operator a.of b.of (x.spot level) (y.spot (suc level))))

-- `&&`: the second operand is evaluated where the first is true. One block is its own; a value takes three more, and
-- where none is wanted there is one behind it.
abbrev pub and_test : Part → Part → ℕ → ℕ → ℕ → ℕ → List Line
and_test a b level block holds fails = a.lines (suc block) level (Tests block fails)
    ++ Start block ∷ b.lines (suc block + test_blocks_of a) level (Tests holds fails)

abbrev pub and_dropped : Part → Part → ℕ → ℕ → List Line
and_dropped a b block level = a.lines (block + 2) level (Tests block (suc block))
    ++ (Start block ∷ (b.lines (block + 2 + test_blocks_of a) level Dropped
    ++ (Emit (op.Jump (suc block)) ∷ Start (suc block) ∷ [])))

abbrev pub and_lines : Context → Part → Part → ℕ → ℕ → Wanted → List Line
and_lines c a b block level Dropped = and_dropped a b block level
and_lines c a b block level Own = truth c block level Own (and_test a b level)
and_lines c a b block level (ToLocal local) = truth c block level (ToLocal local) (and_test a b level)
and_lines c a b block level (Tests holds fails) = and_test a b level block holds fails

abbrev pub and_part : Context → Part → Part → Part
and_part c a b = compound int (max a.levels b.levels)
    (condition_blocks (2 + test_blocks_of a + b.blocks Dropped) (1 + test_blocks_of a + test_blocks_of b))
    (and_lines c a b)

-- `||`: the second operand is evaluated where the first is false
abbrev pub or_test : Part → Part → ℕ → ℕ → ℕ → ℕ → List Line
or_test a b level block holds fails = a.lines (suc block) level (Tests holds block)
    ++ Start block ∷ b.lines (suc block + test_blocks_of a) level (Tests holds fails)

abbrev pub or_dropped : Part → Part → ℕ → ℕ → List Line
or_dropped a b block level = a.lines (block + 2) level (Tests (suc block) block)
    ++ (Start block ∷ (b.lines (block + 2 + test_blocks_of a) level Dropped
    ++ (Emit (op.Jump (suc block)) ∷ Start (suc block) ∷ [])))

abbrev pub or_lines : Context → Part → Part → ℕ → ℕ → Wanted → List Line
or_lines c a b block level Dropped = or_dropped a b block level
or_lines c a b block level Own = truth c block level Own (or_test a b level)
or_lines c a b block level (ToLocal local) = truth c block level (ToLocal local) (or_test a b level)
or_lines c a b block level (Tests holds fails) = or_test a b level block holds fails

abbrev pub or_part : Context → Part → Part → Part
or_part c a b = compound int (max a.levels b.levels)
    (condition_blocks (2 + test_blocks_of a + b.blocks Dropped) (1 + test_blocks_of a + test_blocks_of b))
    (or_lines c a b)

-- `?:`: each way has a block, and there is one behind both, but where control is wanted
abbrev pub joined : ℕ → Wanted → List Line
joined block (Tests holds fails) = []
joined block Dropped = Emit (op.Jump block) ∷ []
joined block Own = Emit (op.Jump block) ∷ []
joined block (ToLocal local) = Emit (op.Jump block) ∷ []

abbrev pub joins : ℕ → Wanted → List Line
joins block (Tests holds fails) = []
joins block Dropped = Start block ∷ []
joins block Own = Start block ∷ []
joins block (ToLocal local) = Start block ∷ []

abbrev pub own_blocks : Wanted → ℕ
own_blocks (Tests holds fails) = 2
own_blocks Dropped = 3
own_blocks Own = 3
own_blocks (ToLocal local) = 3

abbrev pub conditional_lines : Part → Part → Part → ℕ → ℕ → Wanted → List Line
conditional_lines t a b block level wanted =
    let first = block + own_blocks wanted in
    t.lines first level (Tests block (suc block))
    ++ (Start block ∷ (a.lines (first + test_blocks_of t) level wanted ++ (joined (block + 2) wanted
    ++ (Start (suc block) ∷ (b.lines (first + test_blocks_of t + a.blocks wanted) level wanted
    ++ (joined (block + 2) wanted ++ joins (block + 2) wanted))))))

abbrev pub conditional_part : Context → ValueType → Part → Part → Part → Part
conditional_part c of t a b =
    compound of (max t.levels (max (in_type c of a).levels (in_type c of b).levels))
    (λ wanted. own_blocks wanted + test_blocks_of t + (in_type c of a).blocks wanted
    + (in_type c of b).blocks wanted)
    (conditional_lines t (in_type c of a) (in_type c of b))

abbrev pub cast_part : Context → ValueType → Part → Part
cast_part c to a = compound to (in_type c to a).levels (in_type c to a).blocks (in_type c to a).lines

abbrev pub comma_part : Part → Part → Part
comma_part a b = compound b.of (max a.levels b.levels) (λ wanted. a.blocks Dropped + b.blocks wanted)
    (λ block level wanted. a.lines block level Dropped ++ b.lines (block + a.blocks Dropped) level wanted)

-- ---- places (C99 6.5.3.2 and 6.5.2.1)

-- The address of an element: its lines, where `stays` says that nothing which is evaluated after them, and before the
-- access, stores anything; and where the address then stands. `value` is the address as the value of `&`.
pub record Addressed : Type 0 where
  pub levels : ℕ
  pub blocks : ℕ
  pub lines : (stays : Bool) (block level : ℕ) → List Line
  pub spot : (stays : Bool) (level : ℕ) → Spot
  pub value : Part

pub data Located : Type 0 where
  AtLocal : (local : ℕ) → Located
  AtObject : (object : ℕ) → Located
  AtAddress : (element : IntegerType) (address : Addressed) → Located

-- `*e`
abbrev pub target_of : Context → Part → Addressed
target_of c a = record {
  levels = a.levels;
  blocks = a.blocks Own;
  lines = λ stays. (operand c stays a).lines;
  spot = λ stays. (operand c stays a).spot;
  value = a;
}

-- the array of `a[i]` where `a` is a pointer: a local's array may be used where it stands
abbrev pub array_kept : Context → Option Spot → Spot → ℕ → ℕ
array_kept c None x level = temporary c level ForArray
array_kept c (Some spot) x level = x.array

abbrev pub kept_if : Bool → Option Spot → Option Spot
kept_if stays spot = if stays then spot else None

-- `a[i]`, where the pointer is in x and the number is y
abbrev pub element_spot : Context → ℕ → ℕ → Spot
element_spot c array level = record { array = array; number = temporary c level ForNumber }

abbrev pub element_sum : Spot → Spot → ℕ → List Line
element_sum to x y = copied to.array x.array ++ Emit (op.Add to.number x.number y) ∷ []

-- the operands of `a[i]` are a pointer and a number, in either order
abbrev pub element_of : Context → IntegerType → ValueType → Part → Part → Addressed
element_of c element (Pointer t) a b =
    let x = operand c b.simple a in
    let y = operand c true b in
    let at : Bool → ℕ → Spot = λ stays level. element_spot c
    (array_kept c (kept_if (stays && b.simple) a.stands) (x.spot level) level) level in
    record {
      levels = max a.levels (suc b.levels);
      blocks = x.blocks + y.blocks;
      lines = λ stays block level. x.lines block level ++ (y.lines (block + x.blocks) (suc level)
          ++ element_sum (at stays level) (x.spot level) (y.spot (suc level)).number);
      spot = at;
      value = binary_part c (Pointer element) Add a b;
    }
element_of c element of a b =
    let x = operand c b.simple a in
    let y = operand c true b in
    record {
      levels = max a.levels (suc b.levels);
      blocks = x.blocks + y.blocks;
      lines = λ stays block level. x.lines block level ++ (y.lines (block + x.blocks) (suc level)
          ++ element_sum (own c level) (y.spot (suc level)) (x.spot level).number);
      spot = λ stays level. own c level;
      value = binary_part c (Pointer element) Add a b;
    }

-- the value of a place
abbrev pub read_part : Context → ValueType → Located → Part
read_part c of (AtLocal local) = local_part c of local
read_part c (Integer t) (AtObject k) = object_part c t k
read_part c of (AtObject k) = object_part c Int k
read_part c of (AtAddress t a) = compound (Integer t) a.levels (λ wanted. a.blocks)
    (λ block level wanted. a.lines true block level ++ made c (block + a.blocks) level wanted (Integer t)
    (λ to. Emit (op.Load (bits_of t) to.number (a.spot true level).array (a.spot true level).number) ∷ []))

-- `&`; a typed program has it of elements alone
abbrev pub address_part : Context → IntegerType → Located → Part
address_part c element (AtAddress t a) = compound (Pointer element) a.value.levels a.value.blocks a.value.lines
address_part c element (AtLocal local) = local_part c (Pointer element) local
address_part c element (AtObject k) = start_part c element (refs.Static k)

-- ---- assignments (C99 6.5.16)

-- The value goes to the local in its last op, and is read again where it is wanted.
abbrev pub stored_lines : Context → ℕ → ℕ → Wanted → ValueType → ℕ → List Line
stored_lines c block level Dropped of local = []
stored_lines c block level Own of local = (local_part c of local).lines block level Own
stored_lines c block level (ToLocal other) of local = (local_part c of local).lines block level (ToLocal other)
stored_lines c block level (Tests holds fails) of local = (local_part c of local).lines block level (Tests holds fails)

abbrev pub assigned_local : Context → ValueType → ℕ → Part → Part
assigned_local c (Integer Char) local a =
    let x = operand c true a in
    compound (Integer Char) a.levels (λ wanted. x.blocks) (λ block level wanted.
    x.lines block level ++ (Emit (op.Low (local_spot c local).number (x.spot level).number)
    ∷ stored_lines c (block + x.blocks) level wanted (Integer Char) local))
assigned_local c of local a =
    let v = in_type c of a in
    compound of v.levels (λ wanted. v.blocks (ToLocal local) + tested_blocks wanted of) (λ block level wanted.
    v.lines block level (ToLocal local)
    ++ stored_lines c (block + v.blocks (ToLocal local)) level wanted of local)

-- An op that stores in an element takes the low bits of the number; they are its value, where that is wanted.
abbrev pub assigned_object : Context → IntegerType → ℕ → Part → Part
assigned_object c t k a =
    let x = operand c true a in
    compound (Integer t) a.levels (λ wanted. x.blocks) (λ block level wanted.
    x.lines block level ++ (Emit (op.Put (bits_of t) k (x.spot level).number)
    ∷ converted_lines c (block + x.blocks) level wanted t (x.spot level).number))

abbrev pub assigned_element : Context → IntegerType → Addressed → Part → Part
assigned_element c t to a =
    let x = operand c true a in
    compound (Integer t) (max to.levels (suc a.levels)) (λ wanted. to.blocks + x.blocks) (λ block level wanted.
    to.lines a.simple block level ++ (x.lines (block + to.blocks) (suc level)
    ++ (Emit (op.Store (bits_of t) (to.spot a.simple level).array (to.spot a.simple level).number
    (x.spot (suc level)).number)
    ∷ converted_lines c (block + to.blocks + x.blocks) level wanted t (x.spot (suc level)).number)))

abbrev pub assign_part : Context → ValueType → Located → Part → Part
assign_part c of (AtLocal local) a = assigned_local c of local a
assign_part c (Integer t) (AtObject k) a = assigned_object c t k a
assign_part c of (AtObject k) a = assigned_object c Int k a
assign_part c of (AtAddress t to) a = assigned_element c t to a

-- the type in which what an operator gives is assigned: a number, which an `int` has the bits of, or a pointer
abbrev pub result_type : ValueType → ValueType
result_type (Pointer t) = Pointer t
result_type (Integer t) = int
result_type Void = int

-- an element's value before it is written, and the value that is then written
abbrev pub old_value : Context → ℕ → ℕ
old_value c level = temporary c level ForOld

abbrev pub new_value : Context → ℕ → ℕ
new_value c level = temporary c (suc level) ForOld

abbrev pub updated_element : Context → IntegerType → BinaryOp → Addressed → Part → Part
updated_element c t operator to a =
    let x = operand c true a in
    compound (Integer t) (max to.levels (suc a.levels)) (λ wanted. to.blocks + x.blocks) (λ block level wanted.
    let at = to.spot a.simple level in
    to.lines a.simple block level ++ (Emit (op.Load (bits_of t) (old_value c level) at.array at.number)
    ∷ (x.lines (block + to.blocks) (suc level)
    ++ (computing c level (working_type operator (Integer t) a.of) operator (new_value c level) (old_value c level)
    (x.spot (suc level)).number
    ++ (Emit (op.Store (bits_of t) at.array at.number (new_value c level))
    ∷ converted_lines c (block + to.blocks + x.blocks) level wanted t (new_value c level))))))

-- An assignment with an operator to a name is an assignment of what the operator gives. An element is found once.
abbrev pub update_part : Context → ValueType → BinaryOp → Located → Part → Part
update_part c of operator (AtLocal local) a = assigned_local c of local
    (binary_part c (result_type of) operator (local_part c of local) a)
update_part c of operator (AtObject k) a = assign_part c of (AtObject k)
    (binary_part c int operator (read_part c of (AtObject k)) a)
update_part c of operator (AtAddress t to) a = updated_element c t operator to a

abbrev pub one_part : Context → Part
one_part c = constant_part c Int (pos 1)

-- ---- `++` and `--` (C99 6.5.2.4 and 6.5.3.1)

-- a name before its value is used: it is assigned; after it: the old value is kept in its own temporaries
abbrev pub stepped_after : Context → ValueType → Part → Part → ℕ → ℕ → Wanted → List Line
stepped_after c of name update block level wanted =
    name.lines block level Own ++ (update.lines block (suc level) Dropped
    ++ delivered c (block + update.blocks Dropped) level wanted of (own c level))

abbrev pub stepped_lines : Context → ValueType → Part → Part → ℕ → ℕ → Wanted → List Line
stepped_lines c of name update block level Dropped = update.lines block level Dropped
stepped_lines c of name update block level Own = stepped_after c of name update block level Own
stepped_lines c of name update block level (ToLocal local) = stepped_after c of name update block level (ToLocal local)
stepped_lines c of name update block level (Tests holds fails) =
    stepped_after c of name update block level (Tests holds fails)

abbrev pub stepped_name : Context → StepOp → ValueType → Part → Part → Part
stepped_name c PreIncrement of name update = compound of update.levels update.blocks update.lines
stepped_name c PreDecrement of name update = compound of update.levels update.blocks update.lines
stepped_name c PostIncrement of name update = compound of (max name.levels (suc update.levels))
    (λ wanted. update.blocks Dropped + tested_blocks wanted of) (stepped_lines c of name update)
stepped_name c PostDecrement of name update = compound of (max name.levels (suc update.levels))
    (λ wanted. update.blocks Dropped + tested_blocks wanted of) (stepped_lines c of name update)

-- the value of an element's step: the new one before, the old one after
abbrev pub step_value : Context → StepOp → ℕ → ℕ → Wanted → IntegerType → List Line
step_value c PreIncrement block level wanted t = converted_lines c block level wanted t (new_value c level)
step_value c PreDecrement block level wanted t = converted_lines c block level wanted t (new_value c level)
step_value c PostIncrement block level wanted t = delivered c block level wanted (Integer t)
    (record { array = old_value c level; number = old_value c level })
step_value c PostDecrement block level wanted t = delivered c block level wanted (Integer t)
    (record { array = old_value c level; number = old_value c level })

abbrev pub stepped_element : Context → StepOp → IntegerType → Addressed → Part
stepped_element c operator t to = compound (Integer t) (max to.levels 2) (λ wanted. to.blocks) (λ block level wanted.
    let at = to.spot true level in
    let one = temporary c (suc level) ForNumber in
    to.lines true block level ++ (Emit (op.Load (bits_of t) (old_value c level) at.array at.number)
    ∷ Emit (op.Const one (pos 1))
    ∷ (computing c level (step_type operator (Integer t)) (step_op operator) (new_value c level) (old_value c level) one
    ++ (Emit (op.Store (bits_of t) at.array at.number (new_value c level))
    ∷ step_value c operator (block + to.blocks) level wanted t))))

abbrev pub step_part : Context → ValueType → StepOp → Located → Part
step_part c of operator (AtLocal local) = stepped_name c operator of (local_part c of local)
    (update_part c of (step_op operator) (AtLocal local) (one_part c))
step_part c of operator (AtObject k) = stepped_name c operator of (read_part c of (AtObject k))
    (update_part c of (step_op operator) (AtObject k) (one_part c))
step_part c of operator (AtAddress t to) = stepped_element c operator t to

-- ---- calls (C99 6.5.2.2 and 7)

-- An argument is passed as its parameter takes it: a number is converted by the function that is called, and where a
-- pointer is taken, a number is the null constant.
abbrev pub passed : Context → ValueType → Part → Part
passed c (Pointer t) a = in_type c (Pointer t) a
passed c Void a = a
passed c (Integer t) a = a

abbrev pub type_or_own : Part → Option Local → ValueType
type_or_own a None = a.of
type_or_own a (Some l) = l.of

-- the arguments by the parameters in order
abbrev pub all_passed : Context → List Local → List Part → List Part
all_passed c [] parts = parts
all_passed c (l ∷ ls) [] = []
all_passed c (l ∷ ls) (a ∷ parts) = passed c l.of a ∷ all_passed c ls parts

abbrev pub all_simple : List Part → Bool
all_simple [] = true
all_simple (a ∷ parts) = a.simple && all_simple parts

-- each argument has a level of its own
abbrev pub arguments_lines : Context → List Part → ℕ → ℕ → List Line
arguments_lines c [] block level = []
arguments_lines c (a ∷ parts) block level =
    let x = operand c (all_simple parts) a in
    x.lines block level ++ arguments_lines c parts (block + x.blocks) (suc level)

abbrev pub arguments_blocks : Context → List Part → ℕ
arguments_blocks c [] = 0
arguments_blocks c (a ∷ parts) = (operand c (all_simple parts) a).blocks + arguments_blocks c parts

abbrev pub arguments_levels : List Part → ℕ
arguments_levels [] = 0
arguments_levels (a ∷ parts) = max a.levels (suc (arguments_levels parts))

-- a pointer is passed as its array and its index
abbrev pub words_of : ValueType → Spot → List ℕ
words_of Void spot = []
words_of (Integer t) spot = spot.number ∷ []
words_of (Pointer t) spot = spot.array ∷ spot.number ∷ []

abbrev pub arguments_words : Context → List Part → ℕ → List ℕ
arguments_words c [] level = []
arguments_words c (a ∷ parts) level = words_of a.of ((operand c (all_simple parts) a).spot level)
    ++ arguments_words c parts (suc level)

-- the result is taken where it is wanted and there is one
abbrev pub result_lines : Context → ℕ → ℕ → Wanted → ValueType → ℕ → List ℕ → List Line
result_lines c block level Dropped of f words = Emit (op.Call None f words) ∷ []
result_lines c block level wanted Void f words = Emit (op.Call None f words) ∷ []
result_lines c block level wanted of f words = made c block level wanted of
    (λ to. Emit (op.Call (Some to.number) f words) ∷ [])

abbrev pub call_part : Context → ValueType → ℕ → List Part → Part
call_part c of f parts = compound of (max 1 (arguments_levels parts)) (λ wanted. arguments_blocks c parts)
    (λ block level wanted.
    arguments_lines c parts block level
    ++ result_lines c (block + arguments_blocks c parts) level wanted of f (arguments_words c parts level))

abbrev pub getchar_part : Context → Part
getchar_part c = compound int 1 (λ wanted. 0)
    (λ block level wanted. made c block level wanted int (λ to. Emit (op.Getchar to.number) ∷ []))

-- behind the end of a program stands a block that nothing leads to
abbrev pub exit_part : Context → Part → Part
exit_part c a =
    let x = operand c true a in
    compound Void a.levels (λ wanted. suc x.blocks) (λ block level wanted.
    x.lines (suc block) level ++ (Emit (op.Exit (x.spot level).number) ∷ Start block ∷ []))

abbrev pub parameters_of : Option Function → List Local
parameters_of None = []
parameters_of (Some f) = take f.parameters f.locals

-- ---- every expression

abbrev mutual
  pub part_of : Context → Expression → Part
  part_of c (Constant of n) = constant_part c of n
  part_of c (StartOf element array) = start_part c element array
  part_of c (Read of place) = read_part c of (place_of c place)
  part_of c (Address element place) = address_part c element (place_of c place)
  part_of c (Unary of operator e) = unary_part c of operator (part_of c e)
  part_of c (Binary of operator a b) = binary_part c of operator (part_of c a) (part_of c b)
  part_of c (And a b) = and_part c (part_of c a) (part_of c b)
  part_of c (Or a b) = or_part c (part_of c a) (part_of c b)
  part_of c (Conditional of t a b) = conditional_part c of (part_of c t) (part_of c a) (part_of c b)
  part_of c (Cast to e) = cast_part c to (part_of c e)
  part_of c (Assign of place e) = assign_part c of (place_of c place) (part_of c e)
  part_of c (Update of operator place e) = update_part c of operator (place_of c place) (part_of c e)
  part_of c (Step of operator place) = step_part c of operator (place_of c place)
  part_of c (Comma a b) = comma_part (part_of c a) (part_of c b)
  part_of c (Call of f arguments) = call_part c of f
      (all_passed c (parameters_of (slice_get c.program.functions f)) (parts_of c arguments))
  part_of c (Putchar e) = number_part c op.Putchar (part_of c e)
  part_of c Getchar = getchar_part c
  part_of c (Exit e) = exit_part c (part_of c e)

  pub place_of : Context → Place → Located
  place_of c (LocalPlace v) = AtLocal v
  place_of c (StaticPlace k) = AtObject k
  place_of c (Target element e) = AtAddress element (target_of c (part_of c e))
  place_of c (Element element a i) = AtAddress element
      (element_of c element (part_of c a).of (part_of c a) (part_of c i))

  pub parts_of : Context → Arguments → List Part
  parts_of c NoMore = []
  parts_of c (Argument e es) = part_of c e ∷ parts_of c es
