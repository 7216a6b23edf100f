-- Parts whose operands stand in variables already.
use Rattle.std.specs.Prelude.{ℕ, suc, List, [], ◌∷◌, ◌++◌, pos, Option, Some, None, option_map, slice_get}
use Rattle.c_tree.specs.declared.expression.StepOp.{StepOp}
use Rattle.c_tree.specs.declared.types.ValueType.TheVariants.{Void, Integer, Pointer}
use Rattle.c_tree.specs.Operators.{step_op, step_type}
use Rattle.c_tree.specs.Erased.{expression_of}
use Rattle.c_tree.specs.Program.{Arguments, NoMore, Argument, Local}
use Rattle.c_tree.specs.declared.expression.Expression as built
use Rattle.c_tree.specs.declared.expression.BinaryOp.{BinaryOp}
use Rattle.c_tree.specs.declared.types.IntegerType.{IntegerType}
use Rattle.c_tree.specs.declared.types.ValueType.{ValueType}
use Rattle.flow_graph.specs.declared.op.Op.{Op}
use Rattle.flow_graph.specs.declared.op.Op.TheVariants as op
use Rattle.lower_lines.specs.Expressions.{array_kept, element_spot, element_sum, new_value, old_value, passed}
use Rattle.lower_lines.specs.Expressions.{step_value}
use Rattle.lower_lines.specs.Lines.{Line, Emit}
use Rattle.lower_lines.specs.Operators.{applied, applied_blocks, computing}
use Rattle.lower_lines.specs.Parts.{Part, Wanted, bits_of, compound, converted_lines}
use Rattle.lower_lines.specs.Variables.{Context, ForNumber, Spot, own, temporary}
use Rattle.lower_expressions.specs.declared.operands.NumberOp.{NumberOp}
use Rattle.lower_expressions.specs.declared.operands.NumberOp.TheVariants.{Negate, Complement, Put}

-- an operator on two values in variables
abbrev pub applied_part : Context → ValueType → BinaryOp → ValueType → ValueType → Spot → Spot → Part
applied_part c of operator a b x y = compound of 0 (λ wanted. applied_blocks wanted operator a b)
    (λ block level wanted. applied c block level wanted operator a b x y)

-- the op on one number
abbrev pub number_op : NumberOp → ℕ → ℕ → Op
number_op Negate = op.Neg
number_op Complement = op.Not
number_op Put = op.Putchar

-- an element's new value, from its old one and another number
abbrev pub renewing : Context → ℕ → ℕ → Wanted → IntegerType → IntegerType → BinaryOp → Spot → ℕ → List Line
renewing c block level wanted t within operator at y =
    computing c level within operator (new_value c level) (old_value c level) y
    ++ (Emit (op.Store (bits_of t) at.array at.number (new_value c level))
    ∷ converted_lines c block level wanted t (new_value c level))

-- where the address of `a[i]` stands, by the type of `a`, and the lines that make it
abbrev pub element_at : Context → ℕ → ValueType → Option Spot → Spot → Spot
element_at c level (Pointer t) kept x = element_spot c (array_kept c kept x level) level
element_at c level Void kept x = own c level
element_at c level (Integer t) kept x = own c level

abbrev pub element_lines : Context → ℕ → ValueType → Option Spot → Spot → Spot → List Line
element_lines c level (Pointer t) kept x y = element_sum (element_at c level (Pointer t) kept x) x y.number
element_lines c level Void kept x y = element_sum (own c level) y x.number
element_lines c level (Integer t) kept x y = element_sum (own c level) y x.number

-- an element's step, behind the lines that find it
abbrev pub stepping : Context → StepOp → ℕ → ℕ → Wanted → IntegerType → Spot → List Line
stepping c operator block level wanted t at =
    let one = temporary c (suc level) ForNumber in
    Emit (op.Load (bits_of t) (old_value c level) at.array at.number)
    ∷ Emit (op.Const one (pos 1))
    ∷ (computing c level (step_type operator (Integer t)) (step_op operator) (new_value c level) (old_value c level) one
    ++ (Emit (op.Store (bits_of t) at.array at.number (new_value c level))
    ∷ step_value c operator block level wanted t))

-- an argument as its parameter takes it
abbrev pub passed_as : Context → Option ValueType → Part → Part
passed_as c None a = a
passed_as c (Some t) a = passed c t a

-- the type of the parameter at a place
abbrev pub parameter_type : List Local → ℕ → Option ValueType
parameter_type ls place = option_map (λ l. l.of) (slice_get ls place)

-- the arguments that are listed in memory
abbrev pub arguments_list : List built.Expression → Arguments
arguments_list [] = NoMore
arguments_list (e ∷ es) = Argument (expression_of e) (arguments_list es)
