-- How much work is left up to the next turn: a number that each step lowers that takes none.
use Rattle.std.specs.Prelude.{◌≡◌, ◌<◌, ℕ, suc, ◌+◌, Bool, true, false, List, [], ◌∷◌, Option, Some, None, slice_get}
use Rattle.c_tree.specs.Program.{Expression, Constant, Start, Read, Address, Unary, Binary, And, Or, Conditional, Cast}
use Rattle.c_tree.specs.Program.{Assign, Update, Step, Comma, Call, Putchar, Getchar, Exit, Place, LocalPlace}
use Rattle.c_tree.specs.Program.{StaticPlace, Target, Element, Arguments, NoMore, Argument, Initialiser, Elements, Text}
use Rattle.c_tree.specs.Program.{Item, Scalar, Array, First, Nothing, Evaluated as EvaluatedFirst, Declared, Statement}
use Rattle.c_tree.specs.Program.{Declare, Empty, Evaluate, Block, If, While, Do, For, Switch, Break, Continue, Return}
use Rattle.c_tree.specs.Program.{Statements, Done, Next, Function, Program}
use Rattle.c_tree.specs.Store.{State, Gives, Ends}
use Rattle.c_eval_laws.specs.Tasks.{Task, Evaluates, Locates}
use Rattle.c_eval_laws.specs.Tasks.{AndThen, OrElse, Chooses}
use Rattle.c_eval_laws.specs.Tasks.{Passes, Declares, DeclaresAll, Fills, FillsElement, Executes}
use Rattle.c_eval_laws.specs.Tasks.{Follows, Branches, Loops, LoopTest, LoopBody, DoLoops, DoBody, DoTest, Switches}
use Rattle.c_eval_laws.specs.Tasks.{Way, Ahead}
use Rattle.c_eval_laws.specs.Steps.{Stepped}

-- an expression and its parts, each with the task that it leaves behind
abbrev mutual
  pub expression_weight : Expression → ℕ
  expression_weight (Constant of n) = 1
  expression_weight (Start element array) = 1
  expression_weight (Read of place) = 2 + place_weight place
  expression_weight (Address element place) = 2 + place_weight place
  expression_weight (Unary of op e) = 2 + expression_weight e
  expression_weight (Binary of op a b) = 2 + expression_weight a + expression_weight b
  expression_weight (And a b) = 3 + expression_weight a + expression_weight b
  expression_weight (Or a b) = 3 + expression_weight a + expression_weight b
  expression_weight (Conditional of t a b) = 3 + expression_weight t + expression_weight a + expression_weight b
  expression_weight (Cast to e) = 2 + expression_weight e
  expression_weight (Assign of place e) = 2 + place_weight place + expression_weight e
  expression_weight (Update of op place e) = 3 + place_weight place + expression_weight e
  expression_weight (Step of op place) = 3 + place_weight place
  expression_weight (Comma a b) = 2 + expression_weight a + expression_weight b
  expression_weight (Call of f arguments) = 2 + arguments_weight arguments
  expression_weight (Putchar e) = 2 + expression_weight e
  expression_weight Getchar = 1
  expression_weight (Exit e) = 2 + expression_weight e

  pub place_weight : Place → ℕ
  place_weight (LocalPlace v) = 1
  place_weight (StaticPlace k) = 1
  place_weight (Target element e) = 2 + expression_weight e
  place_weight (Element element a i) = 3 + expression_weight a + expression_weight i

  pub arguments_weight : Arguments → ℕ
  arguments_weight NoMore = 0
  arguments_weight (Argument e others) = 1 + expression_weight e + arguments_weight others

abbrev pub option_weight : Option Expression → ℕ
option_weight None = 0
option_weight (Some e) = 1 + expression_weight e

-- the elements that an array begins with
abbrev pub elements_weight : List Expression → ℕ
elements_weight [] = 0
elements_weight (e ∷ es) = 2 + expression_weight e + elements_weight es

abbrev pub initialiser_weight : Initialiser → ℕ
initialiser_weight (Elements first) = 1 + elements_weight first
initialiser_weight (Text object) = 0

abbrev pub item_weight : Item → ℕ
item_weight (Scalar n v value) = 1 + option_weight value
item_weight (Array n k element value) = 1 + initialiser_weight value

abbrev pub items_weight : List Item → ℕ
items_weight [] = 1
items_weight (item ∷ items) = 1 + item_weight item + items_weight items

abbrev pub first_weight : First → ℕ
first_weight Nothing = 0
first_weight (EvaluatedFirst e) = 1 + expression_weight e
first_weight (Declared items) = items_weight items

-- a statement, up to the turns of its loops
abbrev mutual
  pub statement_weight : Statement → ℕ
  statement_weight (Declare item) = 1 + item_weight item
  statement_weight (Empty n) = 1
  statement_weight (Evaluate n e) = 2 + expression_weight e
  statement_weight (Block body) = 1 + statements_weight body
  statement_weight (If n e a b) = 2 + expression_weight e + statement_weight a + statement_weight b
  statement_weight (While n e body) = 2
  statement_weight (Do n body e) = 2
  statement_weight (For n first test after body) = 2 + first_weight first
  statement_weight (Switch n e labels body) = 4 + expression_weight e + statements_weight body
  statement_weight (Break n) = 1
  statement_weight (Continue n) = 1
  statement_weight (Return n value) = 2 + option_weight value

  pub statements_weight : Statements → ℕ
  statements_weight Done = 1
  statements_weight (Next x xs) = 1 + statement_weight x + statements_weight xs

-- a task, up to the next turn
abbrev pub weight : Task → ℕ
weight (Evaluates e) = expression_weight e
weight (Locates place) = place_weight place
weight (AndThen b) = 2 + expression_weight b
weight (OrElse b) = 2 + expression_weight b
weight (Chooses of a b) = 2 + expression_weight a + expression_weight b
weight (Passes k arguments count) = 1 + arguments_weight arguments
weight (Declares item) = item_weight item
weight (DeclaresAll items) = items_weight items
weight (Fills array element i es) = 1 + elements_weight es
weight (FillsElement array element i es) = 2 + elements_weight es
weight (Executes x) = statement_weight x
weight (Follows xs) = statements_weight xs
weight (Branches a b) = 1 + statement_weight a + statement_weight b
weight (LoopTest test after body) = 4 + option_weight after + statement_weight body
weight (LoopBody test after body) = 3 + option_weight after
weight (DoBody body test) = 4 + expression_weight test
weight (DoTest body test) = 2
weight (Switches labels body) = 2 + statements_weight body
weight _ = 1

abbrev pub weights : List Task → ℕ
weights [] = 0
weights (task ∷ ts) = weight task + weights ts

-- ---- turns

abbrev pub is_there : Option Function → Bool
is_there None = false
is_there (Some f) = true

-- a loop, and a call of a function that is there, take a turn
abbrev pub is_turn : Program → Task → Bool
is_turn p (Passes k NoMore count) = is_there (slice_get p.functions k)
is_turn p (Loops test after body) = true
is_turn p (DoLoops body test) = true
is_turn p _ = false

-- whether the next step takes a turn
abbrev pub takes_turn : Program → Way → List Task → Bool
takes_turn p Ahead (task ∷ ts) = is_turn p task
takes_turn p way ts = false

-- A step that goes on takes a turn, or the tasks that are left weigh less and no turn is taken.
abbrev pub MovesOn : Bool → ℕ → State → Stepped → Type 0
MovesOn turn before s (Ends end t) = Unit {0}
MovesOn true before s (Gives c t) = suc t.turns ≡ s.turns
MovesOn false before s (Gives c t) = (t.turns ≡ s.turns) × (weights c.tasks < before)
