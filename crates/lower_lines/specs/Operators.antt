-- Operators on values that stand in variables.
use Rattle.std.specs.Prelude.{ℕ, List, [], ◌∷◌, ◌++◌, Option, Some, None, if◌then◌else◌}
use Rattle.c_tree.specs.declared.expression.BinaryOp.{BinaryOp}
use Rattle.c_tree.specs.declared.expression.BinaryOp.TheVariants.{Multiply, Divide, Remainder, Add, Subtract, ShiftLeft}
use Rattle.c_tree.specs.declared.expression.BinaryOp.TheVariants.{ShiftRight, Less, Greater, LessOrEqual}
use Rattle.c_tree.specs.declared.expression.BinaryOp.TheVariants.{GreaterOrEqual, Equal, NotEqual, BitAnd, BitXor}
use Rattle.c_tree.specs.declared.expression.BinaryOp.TheVariants.{BitOr}
use Rattle.c_tree.specs.declared.types.IntegerType.{IntegerType}
use Rattle.c_tree.specs.declared.types.IntegerType.TheVariants.{Int}
use Rattle.c_tree.specs.declared.types.ValueType.{ValueType}
use Rattle.c_tree.specs.declared.types.ValueType.TheVariants.{Integer, Pointer}
use Rattle.c_tree.specs.Operators.{is_signed, numbers_type}
use Rattle.c_tree.specs.Program.{int}
use Rattle.flow_graph.specs.declared.op.Comparison.{Comparison}
use Rattle.flow_graph.specs.declared.op.Comparison.TheVariants.{Eq, Ne, Lt, Le, Gt, Ge}
use Rattle.flow_graph.specs.declared.op.Op.{Op}
use Rattle.flow_graph.specs.declared.op.Op.TheVariants as op
use Rattle.flow_graph.specs.declared.op.Order.{Order}
use Rattle.flow_graph.specs.declared.op.Order.TheVariants as order
use Rattle.lower_lines.specs.Lines.{Line, Start, Emit}
use Rattle.lower_lines.specs.Parts.{Wanted, Dropped, Own, ToLocal, Tests, chosen, chosen_blocks, made, pointer_test}
use Rattle.lower_lines.specs.Parts.{tested_blocks}
use Rattle.lower_lines.specs.Variables.{Context, ForByte, ForScratch, Spot, copied, temporary}

-- ---- two numbers (C99 6.5.5 to 6.5.12)

-- what two numbers are asked: a comparison of numbers that have a sign, or an order of numbers that have none
pub data NumberTest : Type 0 where
  WithSigns : (how : Comparison) → NumberTest
  WithoutSigns : (how : Order) → NumberTest

-- the order of two numbers of a type
abbrev pub order_in : IntegerType → Comparison → Order → NumberTest
order_in within signed unsigned = if is_signed within then WithSigns signed else WithoutSigns unsigned

-- what an operator asks of two numbers in the type that it works in
abbrev pub test_of : IntegerType → BinaryOp → Option NumberTest
test_of within Less = Some (order_in within Lt order.Lt)
test_of within Greater = Some (order_in within Gt order.Gt)
test_of within LessOrEqual = Some (order_in within Le order.Le)
test_of within GreaterOrEqual = Some (order_in within Ge order.Ge)
test_of within Equal = Some (WithSigns Eq)
test_of within NotEqual = Some (WithSigns Ne)
test_of within _ = None

-- the op that puts the answer in a variable, and the one that goes to a block by it
abbrev pub test_set : NumberTest → ℕ → ℕ → ℕ → Op
test_set (WithSigns how) to x y = op.Set how to x y
test_set (WithoutSigns how) to x y = op.Setu how to x y

abbrev pub test_branch : NumberTest → ℕ → ℕ → ℕ → ℕ → Op
test_branch (WithSigns how) x y holds fails = op.Branch how x y holds fails
test_branch (WithoutSigns how) x y holds fails = op.Branchu how x y holds fails

abbrev pub quotient_op : IntegerType → ℕ → ℕ → ℕ → Op
quotient_op within to x y = if is_signed within then op.Div to x y else op.Udiv to x y

abbrev pub remainder_op : IntegerType → ℕ → ℕ → ℕ → Op
remainder_op within to x y = if is_signed within then op.Rem to x y else op.Urem to x y

abbrev pub right_shift_op : IntegerType → ℕ → ℕ → ℕ → Op
right_shift_op within to x count = if is_signed within then op.Sar to x count else op.Shr to x count

-- The result of an operator on two numbers in a variable. The dividend is a copy, and the count of a shift a byte, so
-- that both are used up.
abbrev pub computing : Context → ℕ → IntegerType → BinaryOp → ℕ → ℕ → ℕ → List Line
computing c level within Multiply to x y = Emit (op.Mul to x y) ∷ []
computing c level within Divide to x y = Emit (op.Copy (temporary c level ForScratch) x)
    ∷ Emit (quotient_op within to (temporary c level ForScratch) y) ∷ []
computing c level within Remainder to x y = Emit (op.Copy (temporary c level ForScratch) x)
    ∷ Emit (remainder_op within to (temporary c level ForScratch) y) ∷ []
computing c level within Add to x y = Emit (op.Add to x y) ∷ []
computing c level within Subtract to x y = Emit (op.Sub to x y) ∷ []
computing c level within ShiftLeft to x y = Emit (op.Low (temporary c level ForByte) y)
    ∷ Emit (op.Shl to x (temporary c level ForByte)) ∷ []
computing c level within ShiftRight to x y = Emit (op.Low (temporary c level ForByte) y)
    ∷ Emit (right_shift_op within to x (temporary c level ForByte)) ∷ []
computing c level within Less to x y = Emit (test_set (order_in within Lt order.Lt) to x y) ∷ []
computing c level within Greater to x y = Emit (test_set (order_in within Gt order.Gt) to x y) ∷ []
computing c level within LessOrEqual to x y = Emit (test_set (order_in within Le order.Le) to x y) ∷ []
computing c level within GreaterOrEqual to x y = Emit (test_set (order_in within Ge order.Ge) to x y) ∷ []
computing c level within Equal to x y = Emit (op.Set Eq to x y) ∷ []
computing c level within NotEqual to x y = Emit (op.Set Ne to x y) ∷ []
computing c level within BitAnd to x y = Emit (op.And to x y) ∷ []
computing c level within BitXor to x y = Emit (op.Xor to x y) ∷ []
computing c level within BitOr to x y = Emit (op.Or to x y) ∷ []

-- a comparison where control is wanted is one op; else its result is a number as that of every operator
abbrev pub branching : Option NumberTest → Wanted → List Line → ℕ → ℕ → List Line
branching (Some test) (Tests holds fails) otherwise x y = Emit (test_branch test x y holds fails) ∷ []
branching (Some test) Dropped otherwise x y = otherwise
branching (Some test) Own otherwise x y = otherwise
branching (Some test) (ToLocal local) otherwise x y = otherwise
branching None wanted otherwise x y = otherwise

abbrev pub on_numbers : Context → ℕ → ℕ → Wanted → IntegerType → BinaryOp → ℕ → ℕ → List Line
on_numbers c block level wanted within operator x y = branching (test_of within operator) wanted
    (made c block level wanted int (λ to. computing c level within operator to.number x y)) x y

-- ---- pointers (C99 6.5.6, 6.5.8 and 6.5.9)

-- a pointer whose index moves by a number
abbrev pub moving : BinaryOp → Spot → Spot → ℕ → List Line
moving Subtract to x n = copied to.array x.array ++ Emit (op.Sub to.number x.number n) ∷ []
moving _ to x n = copied to.array x.array ++ Emit (op.Add to.number x.number n) ∷ []

-- a pointer and a number: the index moves, or the number is the null constant
abbrev pub on_pointer : Context → ℕ → ℕ → Wanted → BinaryOp → Spot → ℕ → List Line
on_pointer c block level wanted Equal x n = chosen c block level wanted
    (λ b holds fails. pointer_test c b level x fails holds)
on_pointer c block level wanted NotEqual x n = chosen c block level wanted
    (λ b holds fails. pointer_test c b level x holds fails)
on_pointer c block level wanted operator x n = made c block level wanted (Pointer Int) (λ to. moving operator to x n)

abbrev pub on_pointer_blocks : Wanted → BinaryOp → ℕ
on_pointer_blocks wanted Equal = chosen_blocks wanted 1
on_pointer_blocks wanted NotEqual = chosen_blocks wanted 1
on_pointer_blocks wanted _ = tested_blocks wanted (Pointer Int)

-- whether two pointers are the same; this takes one block
abbrev pub equality_test : ℕ → Spot → Spot → ℕ → ℕ → List Line
equality_test block x y holds fails = Emit (op.Branch Ne x.array y.array fails block) ∷ Start block
    ∷ Emit (op.Branch Eq x.number y.number holds fails) ∷ []

-- two pointers: a difference or an ordering traps unless they have one array
abbrev pub on_pointers : Context → ℕ → ℕ → Wanted → BinaryOp → Spot → Spot → List Line
on_pointers c block level wanted Equal x y = chosen c block level wanted
    (λ b holds fails. equality_test b x y holds fails)
on_pointers c block level wanted NotEqual x y = chosen c block level wanted
    (λ b holds fails. equality_test b x y fails holds)
on_pointers c block level wanted operator x y = Emit (op.Same x.array y.array)
    ∷ on_numbers c block level wanted Int operator x.number y.number

abbrev pub on_pointers_blocks : Wanted → BinaryOp → ℕ
on_pointers_blocks wanted Equal = chosen_blocks wanted 1
on_pointers_blocks wanted NotEqual = chosen_blocks wanted 1
on_pointers_blocks wanted _ = 0

-- ---- by the types of the operands

abbrev pub applied : Context → ℕ → ℕ → Wanted → BinaryOp → ValueType → ValueType → Spot → Spot → List Line
applied c block level wanted operator (Integer t) (Integer u) x y =
    on_numbers c block level wanted (numbers_type operator t u) operator x.number y.number
applied c block level wanted operator (Pointer t) (Integer u) x y = on_pointer c block level wanted operator x y.number
applied c block level wanted operator (Integer t) (Pointer u) x y = on_pointer c block level wanted operator y x.number
applied c block level wanted operator (Pointer t) (Pointer u) x y = on_pointers c block level wanted operator x y
applied c block level wanted operator _ _ x y = []

abbrev pub applied_blocks : Wanted → BinaryOp → ValueType → ValueType → ℕ
applied_blocks wanted operator (Integer t) (Integer u) = 0
applied_blocks wanted operator (Pointer t) (Integer u) = on_pointer_blocks wanted operator
applied_blocks wanted operator (Integer t) (Pointer u) = on_pointer_blocks wanted operator
applied_blocks wanted operator (Pointer t) (Pointer u) = on_pointers_blocks wanted operator
applied_blocks wanted operator _ _ = 0
