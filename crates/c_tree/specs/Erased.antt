-- The tree without boxes and vectors that a typed program in memory is.
use Rattle.std.specs.Prelude.{List, [], ◌∷◌, map, option_map}
use Rattle.std.specs.Global.{Box}
use Rattle.c_tree.specs.declared.expression.Expression.{Expression, Row_of-Expression, end_of-Expression}
use Rattle.c_tree.specs.declared.expression.Expression.{more_of-Expression}
use Rattle.c_tree.specs.declared.expression.Expression as built
use Rattle.c_tree.specs.declared.expression.Place as places
use Rattle.c_tree.specs.declared.expression.Place.{Place}
use Rattle.c_tree.specs.declared.statement.Initialiser.{Initialiser}
use Rattle.c_tree.specs.declared.statement.Initialiser.TheVariants as initialisers
use Rattle.c_tree.specs.declared.statement.Item.{Item}
use Rattle.c_tree.specs.declared.statement.Item.TheVariants as items
use Rattle.c_tree.specs.declared.statement.First.{First}
use Rattle.c_tree.specs.declared.statement.First.TheVariants as firsts
use Rattle.c_tree.specs.declared.statement.Statement.{Statement, Row_of-Statement, end_of-Statement, more_of-Statement}
use Rattle.c_tree.specs.declared.statement.Statement as statements
use Rattle.c_tree.specs.declared.program.StaticObject.{StaticObject}
use Rattle.c_tree.specs.declared.program.Local.{Local}
use Rattle.c_tree.specs.declared.program.LocalArray.{LocalArray}
use Rattle.c_tree.specs.declared.program.Function.{Function}
use Rattle.c_tree.specs.declared.program.Program.{Program}
use Rattle.c_tree.specs.Program as typed

abbrev mutual
  pub expression_of : Expression → typed.Expression
  expression_of (built.Constant of n) = typed.Constant of n
  expression_of (built.Start element array) = typed.Start element array
  expression_of (built.Read of place) = typed.Read of (place_of place)
  expression_of (built.Address element place) = typed.Address element (place_of place)
  expression_of (built.Unary' of op p e) = typed.Unary of op (expression_of e)
  expression_of (built.Binary' of op p a q b) = typed.Binary of op (expression_of a) (expression_of b)
  expression_of (built.And' p a q b) = typed.And (expression_of a) (expression_of b)
  expression_of (built.Or' p a q b) = typed.Or (expression_of a) (expression_of b)
  expression_of (built.Conditional' of p t q a r b) = typed.Conditional of (expression_of t)
      (expression_of a) (expression_of b)
  expression_of (built.Cast' to p e) = typed.Cast to (expression_of e)
  expression_of (built.Assign' of place p e) = typed.Assign of (place_of place) (expression_of e)
  expression_of (built.Update' of op place p e) = typed.Update of op (place_of place) (expression_of e)
  expression_of (built.Step of op place) = typed.Step of op (place_of place)
  expression_of (built.Comma' p a q b) = typed.Comma (expression_of a) (expression_of b)
  expression_of (built.Call' of f shape arguments) = typed.Call of f (arguments_of arguments)
  expression_of (built.Putchar' p e) = typed.Putchar (expression_of e)
  expression_of built.Getchar = typed.Getchar
  expression_of (built.Exit' p e) = typed.Exit (expression_of e)

  pub place_of : Place → typed.Place
  place_of (places.Local v) = typed.LocalPlace v
  place_of (places.Static k) = typed.StaticPlace k
  place_of (places.Target' element p e) = typed.Target element (expression_of e)
  place_of (places.Element' element p a q i) = typed.Element element (expression_of a) (expression_of i)

  pub arguments_of : {m : _} → Row_of-Expression m → typed.Arguments
  arguments_of end_of-Expression = typed.NoMore
  arguments_of (more_of-Expression e rest) = typed.Argument (expression_of e) (arguments_of rest)

-- the expression in a box
abbrev pub boxed_of : Box Expression → typed.Expression
boxed_of b = expression_of b.value

abbrev pub initialiser_of : Initialiser → typed.Initialiser
initialiser_of (initialisers.List first) = typed.Elements (map expression_of first.items)
initialiser_of (initialisers.Text k) = typed.Text k

abbrev pub item_of : Item → typed.Item
item_of (items.Scalar number local value) = typed.Scalar number local (option_map boxed_of value)
item_of (items.Array number array element value) = typed.Array number array element (initialiser_of value)

abbrev pub first_of : First → typed.First
first_of firsts.Nothing = typed.Nothing
first_of (firsts.Expression e) = typed.Evaluated (boxed_of e)
first_of (firsts.Items is) = typed.Declared (map item_of is.items)

abbrev mutual
  pub statement_of : Statement → typed.Statement
  statement_of (statements.Declare item) = typed.Declare (item_of item)
  statement_of (statements.Empty n) = typed.Empty n
  statement_of (statements.Expression n e) = typed.Evaluate n (boxed_of e)
  statement_of (statements.Block' shape body) = typed.Block (row_of body)
  statement_of (statements.If' n e p a q b) = typed.If n (boxed_of e) (statement_of a) (statement_of b)
  statement_of (statements.While' n e p s) = typed.While n (boxed_of e) (statement_of s)
  statement_of (statements.Do' n p s e) = typed.Do n (statement_of s) (boxed_of e)
  statement_of (statements.For' n first test after p s) = typed.For n (first_of first) (option_map boxed_of test)
      (option_map boxed_of after) (statement_of s)
  statement_of (statements.Switch' n e labels shape body) = typed.Switch n (boxed_of e) labels.items (row_of body)
  statement_of (statements.Break n) = typed.Break n
  statement_of (statements.Continue n) = typed.Continue n
  statement_of (statements.Return n value) = typed.Return n (option_map boxed_of value)

  pub row_of : {m : _} → Row_of-Statement m → typed.Statements
  row_of end_of-Statement = typed.Done
  row_of (more_of-Statement s rest) = typed.Next (statement_of s) (row_of rest)

abbrev pub statements_of : List Statement → typed.Statements
statements_of [] = typed.Done
statements_of (s ∷ ss) = typed.Next (statement_of s) (statements_of ss)

abbrev pub object_of : StaticObject → typed.StaticObject
object_of o = record { element = o.element; elements = o.elements.items }

abbrev pub local_of : Local → typed.Local
local_of l = record { name = l.name; of = l.of }

abbrev pub array_of : LocalArray → typed.LocalArray
array_of a = record { name = a.name; element = a.element; count = a.count }

abbrev pub function_of : Function → typed.Function
function_of f = record {
  name = f.name;
  result = f.result;
  parameters = f.parameters;
  locals = map local_of f.locals.items;
  arrays = map array_of f.arrays.items;
  body = statements_of f.body.items;
}

-- the program that a program in memory is
abbrev pub program_of : Program → typed.Program
program_of p = record {
  objects = map object_of p.objects.items;
  functions = map function_of p.functions.items;
  main = p.main;
}
