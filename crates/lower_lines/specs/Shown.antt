-- Which variables of a graph hold what a visit of a statement shows.
use Rattle.std.specs.Prelude.{◌≡◌, ℕ, zero, suc, ◌+◌, ◌-◌, List, [], ◌∷◌, ◌++◌, count_by, flat_map, length, map}
use Rattle.std.specs.Prelude.{slice_get, Some, nat_lt, if◌then◌else◌}
use Rattle.std.specs.List.{AllByRecursion}
use Rattle.pcc_base.specs.declared.run.Width.{Width}
use Rattle.pcc_base.specs.declared.run.Width.TheVariants.{One, Two}
use Rattle.pcc_base.specs.Outcome.{Part, Scalar, ArrayOf, IndexOf, Listing}
use Rattle.c_tree.specs.declared.types.IntegerType.TheVariants.{Char, Short, Int, UnsignedInt}
use Rattle.c_tree.specs.declared.types.ValueType.{ValueType}
use Rattle.c_tree.specs.declared.types.ValueType.TheVariants.{Void, Integer, Pointer}
use Rattle.c_tree.specs.Program as items
use Rattle.c_tree.specs.Program.{Item, First, Nothing, Evaluated, Declared, Statement, Declare, Empty, Evaluate, Block}
use Rattle.c_tree.specs.Program.{If, While, Do, For, Switch, Break, Continue, Return, Statements, Done, Next, Local}
use Rattle.c_tree.specs.Program.{Function, Program}

-- ---- the function of a statement

abbrev pub numbers_in_first : First → ℕ
numbers_in_first Nothing = 0
numbers_in_first (Evaluated e) = 0
numbers_in_first (Declared items) = length items

-- how many numbers the statements and declared items of a body have
abbrev mutual
  pub numbers_in : Statement → ℕ
  numbers_in (Declare item) = 1
  numbers_in (Empty n) = 1
  numbers_in (Evaluate n e) = 1
  numbers_in (Block body) = numbers_of body
  numbers_in (If n e a b) = suc (numbers_in a + numbers_in b)
  numbers_in (While n e s) = suc (numbers_in s)
  numbers_in (Do n s e) = suc (numbers_in s)
  numbers_in (For n first test after s) = suc (numbers_in_first first + numbers_in s)
  numbers_in (Switch n e labels body) = suc (numbers_of body)
  numbers_in (Break n) = 1
  numbers_in (Continue n) = 1
  numbers_in (Return n value) = 1

  pub numbers_of : Statements → ℕ
  numbers_of Done = 0
  numbers_of (Next s others) = numbers_in s + numbers_of others

-- the locals of the function in which a statement stands; statements are numbered over all functions
abbrev pub locals_at : List Function → ℕ → List Local
locals_at [] statement = []
locals_at (f ∷ []) statement = f.locals
locals_at (f ∷ g ∷ fs) statement =
    if nat_lt statement (numbers_of f.body) then f.locals else locals_at (g ∷ fs) (statement - numbers_of f.body)

-- ---- the locals that are declared before a statement

-- the number of an item that declares a local that is no array
abbrev pub declaring : Item → List ℕ
declaring (items.Scalar n v value) = n ∷ []
declaring (items.Array n k element value) = []

abbrev pub declared_first : First → List ℕ
declared_first Nothing = []
declared_first (Evaluated e) = []
declared_first (Declared items) = flat_map declaring items

-- the numbers of the items of a body that declare locals, in the order of the text
abbrev mutual
  pub declarations_in : Statement → List ℕ
  declarations_in (Declare item) = declaring item
  declarations_in (Empty n) = []
  declarations_in (Evaluate n e) = []
  declarations_in (Block body) = declarations_of body
  declarations_in (If n e a b) = declarations_in a ++ declarations_in b
  declarations_in (While n e s) = declarations_in s
  declarations_in (Do n s e) = declarations_in s
  declarations_in (For n first test after s) = declared_first first ++ declarations_in s
  declarations_in (Switch n e labels body) = declarations_of body
  declarations_in (Break n) = []
  declarations_in (Continue n) = []
  declarations_in (Return n value) = []

  pub declarations_of : Statements → List ℕ
  declarations_of Done = []
  declarations_of (Next s others) = declarations_in s ++ declarations_of others

-- how many locals of a function are declared before a statement, its parameters first: these are its first locals
abbrev pub declared_before : Function → ℕ → ℕ
declared_before f n = f.parameters + count_by (λ m. nat_lt m n) (declarations_of f.body)

-- ---- the variables of a local: one for an integer, and two for a pointer, its array and then its index

abbrev pub type_widths : ValueType → List Width
type_widths Void = []
type_widths (Integer Char) = One ∷ []
type_widths (Integer Short) = Two ∷ []
type_widths (Integer Int) = Two ∷ []
type_widths (Integer UnsignedInt) = Two ∷ []
type_widths (Pointer element) = Two ∷ Two ∷ []

-- the widths of the variables of locals, in the order of the locals
abbrev pub local_widths : List Local → List Width
local_widths [] = []
local_widths (l ∷ ls) = type_widths l.of ++ local_widths ls

-- the first variable of a local
abbrev pub first_variable : List Local → ℕ → ℕ
first_variable [] k = 0
first_variable (l ∷ ls) zero = 0
first_variable (l ∷ ls) (suc k) = length (type_widths l.of) + first_variable ls k

-- a part of a local, by its variable
abbrev pub variable_part : List Local → Part → Part
variable_part locals (Scalar k) = Scalar (first_variable locals k)
variable_part locals (ArrayOf k) = ArrayOf (first_variable locals k)
variable_part locals (IndexOf k) = IndexOf (suc (first_variable locals k))

-- the variables that a graph shows where the source shows parts of locals
abbrev pub variables_shown : Program → Listing → Listing
variables_shown program listing statement =
    map (variable_part (locals_at program.functions statement)) (listing statement)

-- ---- listings

abbrev pub IsInteger : ValueType → Type 0
IsInteger Void = ⊥
IsInteger (Integer t) = Unit {0}
IsInteger (Pointer t) = ⊥

abbrev pub IsPointer : ValueType → Type 0
IsPointer Void = ⊥
IsPointer (Integer t) = ⊥
IsPointer (Pointer t) = Unit {0}

-- a local of the list is of such a type
abbrev pub HasLocal : List Local → ℕ → (ValueType → Type 0) → Type 0
HasLocal locals k Is = (l : Local) × (slice_get locals k ≡ Some l) × Is l.of

abbrev pub IsPartOf : List Local → Part → Type 0
IsPartOf locals (Scalar k) = HasLocal locals k IsInteger
IsPartOf locals (ArrayOf k) = HasLocal locals k IsPointer
IsPartOf locals (IndexOf k) = HasLocal locals k IsPointer

-- the listing shows parts of locals of each statement's function
abbrev pub ListsLocals : Program → Listing → Type 0
ListsLocals program listing = (statement : ℕ)
    → AllByRecursion (IsPartOf (locals_at program.functions statement)) (listing statement)

abbrev pub type_parts : ℕ → ValueType → List Part
type_parts k Void = []
type_parts k (Integer t) = Scalar k ∷ []
type_parts k (Pointer t) = ArrayOf k ∷ IndexOf k ∷ []

abbrev pub parts_from : ℕ → List Local → List Part
parts_from k [] = []
parts_from k (l ∷ ls) = type_parts k l.of ++ parts_from (suc k) ls

-- the listing that shows every part of every local of the statement's function, in scope or not
abbrev pub all_parts : Program → Listing
all_parts program statement = parts_from 0 (locals_at program.functions statement)

-- it is a listing of locals
abbrev pub AllAreLocals : Type 0
AllAreLocals = (program : Program) → ListsLocals program (all_parts program)
