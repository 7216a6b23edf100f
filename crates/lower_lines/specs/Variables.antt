-- The variables of a function's graph: those of its locals, and then temporaries. A level has five of them, and an
-- expression takes those of its level and of the next ones, as many levels as it is high, so that their number doesn't
-- grow with the length of a function: every statement begins at level 0 again.
use Rattle.std.specs.Prelude.{ℕ, zero, suc, ◌+◌, ◌*◌, ◌==◌, List, [], ◌∷◌, ◌++◌, length, if◌then◌else◌}
use Rattle.pcc_base.specs.declared.run.Width.{Width}
use Rattle.pcc_base.specs.declared.run.Width.TheVariants.{One, Two}
use Rattle.c_tree.specs.declared.types.ValueType.{ValueType}
use Rattle.c_tree.specs.declared.types.ValueType.TheVariants.{Void, Integer, Pointer}
use Rattle.c_tree.specs.Program.{Function, Program}
use Rattle.c_tree.specs.Sizes.{statements_height}
use Rattle.c_tree.specs.Evaluation.{type_at}
use Rattle.flow_graph.specs.declared.op.Op.TheVariants as op
use Rattle.lower_lines.specs.Lines.{Line, Emit}
use Rattle.lower_lines.specs.Shown.{first_variable, local_widths}

-- where lines stand: in a function of a program
pub record Context : Type 0 where
  pub program : Program
  pub function : Function

-- ---- temporaries

-- What a temporary of a level is for: the array of a pointer; a number, or the index of a pointer; the value of a
-- place before it is written; a dividend, or a constant; and, of width One, a shift count, or a number on its way to a
-- `char`.
pub data Role : Type 0 where
  ForArray : Role
  ForNumber : Role
  ForOld : Role
  ForScratch : Role
  ForByte : Role

abbrev pub role_place : Role → ℕ
role_place ForArray = 0
role_place ForNumber = 1
role_place ForOld = 2
role_place ForScratch = 3
role_place ForByte = 4

abbrev pub level_widths : List Width
level_widths = Two ∷ Two ∷ Two ∷ Two ∷ One ∷ []

-- the number of variables of locals: the first temporary
abbrev pub local_variables : Function → ℕ
local_variables f = length (local_widths f.locals)

-- the variable of a role at a level
abbrev pub temporary : Context → ℕ → Role → ℕ
temporary c level role = local_variables c.function + level * 5 + role_place role

abbrev pub levels_widths : ℕ → List Width
levels_widths zero = []
levels_widths (suc levels) = level_widths ++ levels_widths levels

-- two levels more than the highest expression takes: for the parts of `++`, and for copying a string
abbrev pub levels_of : Function → ℕ
levels_of f = statements_height f.body + 2

abbrev pub variable_widths : Function → List Width
variable_widths f = local_widths f.locals ++ levels_widths (levels_of f)

-- ---- where a value stands

-- The variables that hold a value: that of a number, or those of a pointer's array and index.
pub record Spot : Type 0 where
  pub array : ℕ
  pub number : ℕ

-- the temporaries of a level that a value is put in
abbrev pub own : Context → ℕ → Spot
own c level = record { array = temporary c level ForArray; number = temporary c level ForNumber }

abbrev pub typed_spot : ValueType → ℕ → Spot
typed_spot Void variable = record { array = variable; number = variable }
typed_spot (Integer t) variable = record { array = variable; number = variable }
typed_spot (Pointer t) variable = record { array = variable; number = suc variable }

-- the variables of a local
abbrev pub local_spot : Context → ℕ → Spot
local_spot c local = typed_spot (type_at c.function local) (first_variable c.function.locals local)

-- a variable has the value of another, which takes no op where it is the same
abbrev pub copied : ℕ → ℕ → List Line
copied to from = if to == from then [] else Emit (op.Copy to from) ∷ []

-- a value of a type from one place to another
abbrev pub moved : ValueType → Spot → Spot → List Line
moved Void to from = []
moved (Integer t) to from = copied to.number from.number
moved (Pointer t) to from = copied to.array from.array ++ copied to.number from.number
