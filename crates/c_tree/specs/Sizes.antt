-- How large a program and its parts are.
use Rattle.std.specs.Prelude.{ℕ, suc, ◌+◌, ◌*◌, ◌/◌, max, List, [], ◌∷◌, length, Option, Some, None, sum_by}
use Rattle.c_tree.specs.declared.types.IntegerType.{IntegerType}
use Rattle.c_tree.specs.declared.types.IntegerType.TheVariants.{Char, Short, Int, UnsignedInt}
use Rattle.c_tree.specs.Program.{Expression, Constant, Start, Read, Address, Unary, Binary, And, Or, Conditional, Cast}
use Rattle.c_tree.specs.Program.{Assign, Update, Step, Comma, Call, Putchar, Getchar, Exit, Place, LocalPlace}
use Rattle.c_tree.specs.Program.{StaticPlace, Target, Element, Arguments, NoMore, Argument, Initialiser, Elements, Text}
use Rattle.c_tree.specs.Program.{Item, Scalar, Array, First, Nothing, Evaluated, Declared, Statement, Declare, Empty}
use Rattle.c_tree.specs.Program.{Evaluate, Block, If, While, Do, For, Switch, Break, Continue, Return, Statements, Done}
use Rattle.c_tree.specs.Program.{Next, LocalArray, Function, Program}

-- ---- sizes: how many expressions, places, statements, declared items, labels, parameters and functions there
-- are. Each has a token of its own in the text.

abbrev mutual
  pub expression_size : Expression → ℕ
  expression_size (Constant of n) = 1
  expression_size (Start element array) = 1
  expression_size (Read of place) = place_size place
  expression_size (Address element place) = suc (place_size place)
  expression_size (Unary of op e) = suc (expression_size e)
  expression_size (Binary of op a b) = suc (expression_size a + expression_size b)
  expression_size (And a b) = suc (expression_size a + expression_size b)
  expression_size (Or a b) = suc (expression_size a + expression_size b)
  expression_size (Conditional of t a b) = suc (expression_size t + expression_size a + expression_size b)
  expression_size (Cast to e) = suc (expression_size e)
  expression_size (Assign of place e) = suc (place_size place + expression_size e)
  expression_size (Update of op place e) = suc (place_size place + expression_size e)
  expression_size (Step of op place) = suc (place_size place)
  expression_size (Comma a b) = suc (expression_size a + expression_size b)
  expression_size (Call of f arguments) = suc (arguments_size arguments)
  expression_size (Putchar e) = suc (expression_size e)
  expression_size Getchar = 1
  expression_size (Exit e) = suc (expression_size e)

  pub place_size : Place → ℕ
  place_size (LocalPlace v) = 1
  place_size (StaticPlace k) = 1
  place_size (Target element e) = suc (expression_size e)
  place_size (Element element a i) = suc (expression_size a + expression_size i)

  pub arguments_size : Arguments → ℕ
  arguments_size NoMore = 0
  arguments_size (Argument e others) = expression_size e + arguments_size others

abbrev pub option_size : Option Expression → ℕ
option_size None = 0
option_size (Some e) = expression_size e

abbrev pub initialiser_size : Initialiser → ℕ
initialiser_size (Elements first) = sum_by expression_size first
initialiser_size (Text k) = 0

abbrev pub item_size : Item → ℕ
item_size (Scalar n v value) = suc (option_size value)
item_size (Array n k element value) = suc (initialiser_size value)

abbrev pub first_size : First → ℕ
first_size Nothing = 0
first_size (Evaluated e) = expression_size e
first_size (Declared items) = sum_by item_size items

abbrev mutual
  pub statement_size : Statement → ℕ
  statement_size (Declare item) = item_size item
  statement_size (Empty n) = 1
  statement_size (Evaluate n e) = suc (expression_size e)
  statement_size (Block body) = statements_size body
  statement_size (If n e a b) = suc (expression_size e + statement_size a + statement_size b)
  statement_size (While n e s) = suc (expression_size e + statement_size s)
  statement_size (Do n s e) = suc (statement_size s + expression_size e)
  statement_size (For n first test after s) = suc
      (first_size first + option_size test + option_size after + statement_size s)
  statement_size (Switch n e labels body) = suc (expression_size e + length labels + statements_size body)
  statement_size (Break n) = 1
  statement_size (Continue n) = 1
  statement_size (Return n value) = suc (option_size value)

  pub statements_size : Statements → ℕ
  statements_size Done = 0
  statements_size (Next s others) = statement_size s + statements_size others

abbrev pub function_size : Function → ℕ
function_size f = suc (f.parameters + statements_size f.body)

abbrev pub size_of : Program → ℕ
size_of program = sum_by function_size program.functions

-- ---- heights: how many temporaries an expression takes at once

abbrev mutual
  pub height : Expression → ℕ
  height (Constant of n) = 1
  height (Start element array) = 1
  height (Read of place) = place_height place
  height (Address element place) = suc (place_height place)
  height (Unary of op e) = suc (height e)
  height (Binary of op a b) = max (height a) (suc (height b))
  height (And a b) = max (height a) (height b)
  height (Or a b) = max (height a) (height b)
  height (Conditional of t a b) = max (height t) (max (height a) (height b))
  height (Cast to e) = suc (height e)
  height (Assign of place e) = suc (max (place_height place) (suc (height e)))
  height (Update of op place e) = suc (max (place_height place) (suc (height e)))
  height (Step of op place) = suc (place_height place)
  height (Comma a b) = max (height a) (suc (height b))
  height (Call of f arguments) = max 1 (arguments_height arguments 0)
  height (Putchar e) = max 1 (height e)
  height Getchar = 1
  height (Exit e) = max 1 (height e)

  pub place_height : Place → ℕ
  place_height (LocalPlace v) = 1
  place_height (StaticPlace k) = 1
  place_height (Target element e) = suc (height e)
  place_height (Element element a i) = max (height a) (suc (height i))

  -- the number of the arguments, and the height of each with its place among them
  pub arguments_height : Arguments → ℕ → ℕ
  arguments_height NoMore place = place
  arguments_height (Argument e others) place = max (place + height e) (arguments_height others (suc place))

abbrev pub option_height : Option Expression → ℕ
option_height None = 0
option_height (Some e) = height e

-- an initialiser counts one more than its expression, and that of an element two more
abbrev pub raised : ℕ → Option Expression → ℕ
raised by None = 0
raised by (Some e) = height e + by

abbrev pub highest : ℕ → List Expression → ℕ
highest by [] = 0
highest by (e ∷ es) = max (height e + by) (highest by es)

abbrev pub item_height : Item → ℕ
item_height (Scalar n v value) = raised 1 value
item_height (Array n k element (Elements first)) = highest 2 first
item_height (Array n k element (Text object)) = 0

abbrev pub items_height : List Item → ℕ
items_height [] = 0
items_height (item ∷ items) = max (item_height item) (items_height items)

abbrev pub first_height : First → ℕ
first_height Nothing = 0
first_height (Evaluated e) = height e
first_height (Declared items) = items_height items

-- the greatest height of an expression that a statement evaluates; that of a switch counts one more
abbrev mutual
  pub statement_height : Statement → ℕ
  statement_height (Declare item) = item_height item
  statement_height (Empty n) = 0
  statement_height (Evaluate n e) = height e
  statement_height (Block body) = statements_height body
  statement_height (If n e a b) = max (height e) (max (statement_height a) (statement_height b))
  statement_height (While n e s) = max (height e) (statement_height s)
  statement_height (Do n s e) = max (statement_height s) (height e)
  statement_height (For n first test after s) =
      max (max (first_height first) (statement_height s)) (max (option_height test) (option_height after))
  statement_height (Switch n e labels body) = max (suc (height e)) (statements_height body)
  statement_height (Break n) = 0
  statement_height (Continue n) = 0
  statement_height (Return n value) = option_height value

  pub statements_height : Statements → ℕ
  statements_height Done = 0
  statements_height (Next s others) = max (statement_height s) (statements_height others)

-- ---- the frame bound

abbrev pub bytes_of : IntegerType → ℕ
bytes_of Char = 1
bytes_of Short = 2
bytes_of Int = 4
bytes_of UnsignedInt = 4

-- an array has a word with its element count, and its elements, padded to words
abbrev pub array_bytes : LocalArray → ℕ
array_bytes a = 4 + (a.count * bytes_of a.element + 3) / 4 * 4

-- the most bytes that a call of the function takes on the stack
abbrev pub frame_bound : Function → ℕ
frame_bound f = 8 * length f.locals + 32 * statements_height f.body + sum_by array_bytes f.arrays + 128
