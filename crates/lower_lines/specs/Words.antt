-- What the types of a program in memory, the tokens of its text and the limits on it bound. Constants, and the values
-- of labels, are signed numbers of 32 bits, and arrays have no more elements than a number of 32 bits says: every
-- program in memory keeps it. Each part has a token of its own, and so has each array, which an item declares. The
-- frames of calls and the static objects are within the limits, which typing checks.
use Rattle.std.specs.Prelude.{◌≤◌, FitsSigned, IfSome, length}
use Rattle.std.specs.Int.{w32}
use Rattle.std.specs.List.{All}
use Rattle.c_tree.specs.Program.{Expression, Constant, Start, Read, Address, Unary, Binary, And, Or, Conditional, Cast}
use Rattle.c_tree.specs.Program.{Assign, Update, Step, Comma, Call, Putchar, Getchar, Exit, Place, LocalPlace}
use Rattle.c_tree.specs.Program.{StaticPlace, Target, Element, Arguments, NoMore, Argument, Initialiser, Elements, Text}
use Rattle.c_tree.specs.Program.{Item, Scalar, Array, First, Nothing, Evaluated, Declared, Statement, Declare, Empty}
use Rattle.c_tree.specs.Program.{Evaluate, Block, If, While, Do, For, Switch, Break, Continue, Return, Statements, Done}
use Rattle.c_tree.specs.Program.{Next, Function, Program}
use Rattle.c_tree.specs.Sizes.{frame_bound, function_size, size_of}

abbrev mutual
  pub HasWords : Expression → Type 0
  HasWords (Constant of n) = FitsSigned w32 n
  HasWords (Start element array) = Unit {0}
  HasWords (Read of place) = PlaceHasWords place
  HasWords (Address element place) = PlaceHasWords place
  HasWords (Unary of op e) = HasWords e
  HasWords (Binary of op a b) = HasWords a × HasWords b
  HasWords (And a b) = HasWords a × HasWords b
  HasWords (Or a b) = HasWords a × HasWords b
  HasWords (Conditional of t a b) = HasWords t × HasWords a × HasWords b
  HasWords (Cast to e) = HasWords e
  HasWords (Assign of place e) = PlaceHasWords place × HasWords e
  HasWords (Update of op place e) = PlaceHasWords place × HasWords e
  HasWords (Step of op place) = PlaceHasWords place
  HasWords (Comma a b) = HasWords a × HasWords b
  HasWords (Call of f arguments) = HaveWords arguments
  HasWords (Putchar e) = HasWords e
  HasWords Getchar = Unit {0}
  HasWords (Exit e) = HasWords e

  pub PlaceHasWords : Place → Type 0
  PlaceHasWords (LocalPlace v) = Unit {0}
  PlaceHasWords (StaticPlace k) = Unit {0}
  PlaceHasWords (Target element e) = HasWords e
  PlaceHasWords (Element element a i) = HasWords a × HasWords i

  pub HaveWords : Arguments → Type 0
  HaveWords NoMore = Unit {0}
  HaveWords (Argument e es) = HasWords e × HaveWords es

abbrev pub InitialiserHasWords : Initialiser → Type 0
InitialiserHasWords (Elements first) = All HasWords first
InitialiserHasWords (Text object) = Unit {0}

abbrev pub ItemHasWords : Item → Type 0
ItemHasWords (Scalar n v value) = IfSome value HasWords
ItemHasWords (Array n k element value) = InitialiserHasWords value

abbrev pub FirstHasWords : First → Type 0
FirstHasWords Nothing = Unit {0}
FirstHasWords (Evaluated e) = HasWords e
FirstHasWords (Declared items) = All ItemHasWords items

abbrev mutual
  pub StatementHasWords : Statement → Type 0
  StatementHasWords (Declare item) = ItemHasWords item
  StatementHasWords (Empty n) = Unit {0}
  StatementHasWords (Evaluate n e) = HasWords e
  StatementHasWords (Block body) = StatementsHaveWords body
  StatementHasWords (If n e a b) = HasWords e × StatementHasWords a × StatementHasWords b
  StatementHasWords (While n e s) = HasWords e × StatementHasWords s
  StatementHasWords (Do n s e) = StatementHasWords s × HasWords e
  StatementHasWords (For n first test after s) =
      FirstHasWords first × IfSome test HasWords × IfSome after HasWords × StatementHasWords s
  StatementHasWords (Switch n e labels body) =
      HasWords e × All (λ label. IfSome label.value (FitsSigned w32)) labels × StatementsHaveWords body
  StatementHasWords (Break n) = Unit {0}
  StatementHasWords (Continue n) = Unit {0}
  StatementHasWords (Return n value) = IfSome value HasWords

  pub StatementsHaveWords : Statements → Type 0
  StatementsHaveWords Done = Unit {0}
  StatementsHaveWords (Next s others) = StatementHasWords s × StatementsHaveWords others

pub record FunctionHasWords (f : Function) : Type 0 where
  pub arrays : All (λ a. a.count ≤ 0xffffffff) f.arrays
  pub body : StatementsHaveWords f.body
  -- an item of its own declares each array
  pub declared : length f.arrays ≤ function_size f
  -- the limit on frames, in bytes
  pub frame : frame_bound f ≤ 0x4000

-- a program in memory, of no more than the tokens that a program may have, and within the limits
pub record IsInMemory (p : Program) : Type 0 where
  pub functions : All FunctionHasWords p.functions
  pub small : size_of p ≤ 0x10000
  -- of the limit on static objects, which is on the bytes of all of them: each has some, and so has each element
  pub few_objects : length p.objects ≤ 0x01000000
  pub few_elements : All (λ o. length o.elements ≤ 0x01000000) p.objects
