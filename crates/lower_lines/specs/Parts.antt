-- Parts of expressions: what the lines of an expression are asked for, and what they are made of.
use Rattle.std.specs.Prelude.{ℕ, suc, ◌+◌, Bool, true, false, pos, List, [], ◌∷◌, ◌++◌, Option, Some, None}
use Rattle.std.specs.Prelude.{if◌then◌else◌}
use Rattle.c_tree.specs.declared.types.IntegerType.{IntegerType}
use Rattle.c_tree.specs.declared.types.IntegerType.TheVariants.{Char, Short, Int, UnsignedInt}
use Rattle.c_tree.specs.declared.types.ValueType.{ValueType}
use Rattle.c_tree.specs.declared.types.ValueType.TheVariants.{Void, Integer, Pointer}
use Rattle.flow_graph.specs.declared.op.Bits.{Bits}
use Rattle.flow_graph.specs.declared.op.Bits.TheVariants.{Eight, Sixteen, ThirtyTwo}
use Rattle.flow_graph.specs.declared.op.Comparison.TheVariants.{Ne}
use Rattle.flow_graph.specs.declared.op.Op.TheVariants as op
use Rattle.lower_lines.specs.Lines.{Line, Start, Emit}
use Rattle.lower_lines.specs.Variables.{Context, ForByte, ForScratch, Spot, copied, local_spot, moved, own, temporary}

-- What the lines of an expression are asked for: nothing but that it is evaluated; its value in the temporaries of its
-- level; its value in a local, which none but the last op on each way writes; or that control goes to the first block
-- where the value is true (C99 6.8.4.1), and else to the second.
pub data Wanted : Type 0 where
  Dropped : Wanted
  Own : Wanted
  ToLocal : (local : ℕ) → Wanted
  Tests : (holds fails : ℕ) → Wanted

-- An expression as a part of another one: the type of its value; whether it is a name, a number or a string, which
-- stores nothing; the variables where its value stands, if it is a local that an op may use as it is; how many levels
-- of temporaries and how many blocks its lines take; and the lines: their blocks are numbered from one on, and their
-- temporaries are those from a level on.
pub record Part : Type 0 where
  pub of : ValueType
  pub simple : Bool
  pub stands : Option Spot
  pub levels : ℕ
  pub blocks : Wanted → ℕ
  pub lines : (block level : ℕ) → Wanted → List Line

-- an expression that is no name, number or string
abbrev pub compound : ValueType → ℕ → (Wanted → ℕ) → (ℕ → ℕ → Wanted → List Line) → Part
compound of levels blocks lines = record {
  of = of;
  simple = false;
  stands = None;
  levels = levels;
  blocks = blocks;
  lines = lines;
}

-- a part whose value is of another integer type with the same bits
abbrev pub retyped : IntegerType → Part → Part
retyped of a = record a { of = Integer of }

-- ---- tests (C99 6.5.3.3p5: what compares unequal to 0)

-- a number is true where it isn't 0
abbrev pub number_test : Context → ℕ → ℕ → ℕ → ℕ → List Line
number_test c level x holds fails = Emit (op.Const (temporary c level ForScratch) (pos 0))
    ∷ Emit (op.Branch Ne x (temporary c level ForScratch) holds fails) ∷ []

-- a pointer is true where it has an array, or its index isn't 0; this takes one block
abbrev pub pointer_test : Context → ℕ → ℕ → Spot → ℕ → ℕ → List Line
pointer_test c block level x holds fails = Emit (op.Const (temporary c level ForScratch) (pos 0))
    ∷ Emit (op.Branch Ne x.array (temporary c level ForScratch) holds block) ∷ Start block
    ∷ Emit (op.Branch Ne x.number (temporary c level ForScratch) holds fails) ∷ []

abbrev pub test_lines : Context → ℕ → ℕ → ValueType → Spot → ℕ → ℕ → List Line
test_lines c block level Void x holds fails = []
test_lines c block level (Integer t) x holds fails = number_test c level x.number holds fails
test_lines c block level (Pointer t) x holds fails = pointer_test c block level x holds fails

abbrev pub test_blocks : ValueType → ℕ
test_blocks Void = 0
test_blocks (Integer t) = 0
test_blocks (Pointer t) = 1

-- ---- a value that ops make, and one that stands somewhere

-- where the ops put the value
abbrev pub target : Context → ℕ → Wanted → Spot
target c level Dropped = own c level
target c level Own = own c level
target c level (ToLocal local) = local_spot c local
target c level (Tests holds fails) = own c level

-- the test of a value in its own temporaries, where that is wanted
abbrev pub tested : Context → ℕ → ℕ → Wanted → ValueType → List Line
tested c block level Dropped of = []
tested c block level Own of = []
tested c block level (ToLocal local) of = []
tested c block level (Tests holds fails) of = test_lines c block level of (own c level) holds fails

abbrev pub tested_blocks : Wanted → ValueType → ℕ
tested_blocks Dropped of = 0
tested_blocks Own of = 0
tested_blocks (ToLocal local) of = 0
tested_blocks (Tests holds fails) of = test_blocks of

-- a value that the last of these ops puts in a spot
abbrev pub made : Context → ℕ → ℕ → Wanted → ValueType → (Spot → List Line) → List Line
made c block level wanted of ops = ops (target c level wanted) ++ tested c block level wanted of

-- a value that stands in a spot
abbrev pub delivered : Context → ℕ → ℕ → Wanted → ValueType → Spot → List Line
delivered c block level Dropped of spot = []
delivered c block level Own of spot = moved of (own c level) spot
delivered c block level (ToLocal local) of spot = moved of (local_spot c local) spot
delivered c block level (Tests holds fails) of spot = test_lines c block level of spot holds fails

-- ---- operands

-- A part whose value the next ops use. `stays` says that nothing which is evaluated before they run stores anything: a
-- local is then used where it stands, and takes no op.
pub record Operand : Type 0 where
  pub blocks : ℕ
  pub lines : (block level : ℕ) → List Line
  pub spot : (level : ℕ) → Spot

abbrev pub standing : Context → Part → Option Spot → Operand
standing c part None = record {
  blocks = part.blocks Own;
  lines = λ block level. part.lines block level Own;
  spot = own c;
}
standing c part (Some spot) = record { blocks = 0; lines = λ block level. []; spot = λ level. spot }

abbrev pub if_stays : Bool → Option Spot → Option Spot
if_stays stays spot = if stays then spot else None

abbrev pub operand : Context → Bool → Part → Operand
operand c stays part = standing c part (if_stays stays part.stands)

-- ---- conversions (C99 6.3.1.3 and 6.3.2.3)

abbrev pub bits_of : IntegerType → Bits
bits_of Char = Eight
bits_of Short = Sixteen
bits_of Int = ThirtyTwo
bits_of UnsignedInt = ThirtyTwo

-- a number from one variable of width Two to another, in an integer type
abbrev pub converting : Context → ℕ → IntegerType → ℕ → ℕ → List Line
converting c level Char to from = Emit (op.Low (temporary c level ForByte) from)
    ∷ Emit (op.Wide to (temporary c level ForByte)) ∷ []
converting c level Short to from = Emit (op.Low16 to from) ∷ []
converting c level Int to from = copied to from
converting c level UnsignedInt to from = copied to from

-- a number that stands in a variable, in an integer type
abbrev pub converted_lines : Context → ℕ → ℕ → Wanted → IntegerType → ℕ → List Line
converted_lines c block level Dropped t x = []
converted_lines c block level Own t x = converting c level t (own c level).number x
converted_lines c block level (ToLocal local) t x = converting c level t (local_spot c local).number x
converted_lines c block level (Tests holds fails) t x = converting c level t (own c level).number x
    ++ number_test c level (own c level).number holds fails

-- the null pointer
abbrev pub null_lines : Context → ℕ → Wanted → List Line
null_lines c level Dropped = []
null_lines c level Own = Emit (op.Const (own c level).array (pos 0)) ∷ Emit (op.Const (own c level).number (pos 0)) ∷ []
null_lines c level (ToLocal local) = Emit (op.Const (local_spot c local).array (pos 0))
    ∷ Emit (op.Const (local_spot c local).number (pos 0)) ∷ []
null_lines c level (Tests holds fails) = Emit (op.Jump fails) ∷ []

-- a part's value in a narrow integer type
abbrev pub narrowed : Context → IntegerType → Part → Part
narrowed c t a =
    let x = operand c true a in
    compound (Integer t) a.levels (λ wanted. x.blocks) (λ block level wanted.
    x.lines block level ++ made c (block + x.blocks) level wanted (Integer t)
    (λ to. converting c level t to.number (x.spot level).number))

-- a part as a pointer: a number is the null constant
abbrev pub as_pointer : Context → IntegerType → ValueType → Part → Part
as_pointer c t (Pointer u) a = a
as_pointer c t of a = compound (Pointer t) a.levels (λ wanted. a.blocks Dropped)
    (λ block level wanted. a.lines block level Dropped ++ null_lines c level wanted)

-- a part's value in a type, as an assignment and a cast make it
abbrev pub in_type : Context → ValueType → Part → Part
in_type c Void a = compound Void a.levels (λ wanted. a.blocks Dropped)
    (λ block level wanted. a.lines block level Dropped)
in_type c (Integer Char) a = narrowed c Char a
in_type c (Integer Short) a = narrowed c Short a
in_type c (Integer Int) a = a
in_type c (Integer UnsignedInt) a = a
in_type c (Pointer t) a = as_pointer c t a.of a

-- ---- truth values

-- 1 or 0, by lines that test; this takes three blocks beside theirs
abbrev pub truth : Context → ℕ → ℕ → Wanted → (ℕ → ℕ → ℕ → List Line) → List Line
truth c block level wanted test =
    let x = (target c level wanted).number in
    test (block + 3) block (suc block) ++ (Start block ∷ Emit (op.Const x (pos 1)) ∷ Emit (op.Jump (block + 2))
    ∷ Start (suc block) ∷ Emit (op.Const x (pos 0)) ∷ Emit (op.Jump (block + 2)) ∷ Start (block + 2) ∷ [])

-- lines that test, where control is wanted, and else a truth value. Nothing that is dropped runs in this way.
abbrev pub chosen : Context → ℕ → ℕ → Wanted → (ℕ → ℕ → ℕ → List Line) → List Line
chosen c block level Dropped test = []
chosen c block level Own test = truth c block level Own test
chosen c block level (ToLocal local) test = truth c block level (ToLocal local) test
chosen c block level (Tests holds fails) test = test block holds fails

abbrev pub chosen_blocks : Wanted → ℕ → ℕ
chosen_blocks Dropped blocks = 0
chosen_blocks Own blocks = 3 + blocks
chosen_blocks (ToLocal local) blocks = 3 + blocks
chosen_blocks (Tests holds fails) blocks = blocks
