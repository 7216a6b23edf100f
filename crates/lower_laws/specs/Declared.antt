-- Each local is declared before an expression names it.
use Rattle.std.specs.Prelude.{ℕ, List, [], ◌∷◌, IfSome, length}
use Rattle.std.specs.List.{All, AllByRecursion, range_with_len}
use Rattle.c_tree.specs.Program.{Expression, Constant, Start, Read, Address, Unary, Binary, And, Or, Conditional, Cast}
use Rattle.c_tree.specs.Program.{Assign, Update, Step, Comma, Call, Putchar, Getchar, Exit, Place, LocalPlace}
use Rattle.c_tree.specs.Program.{StaticPlace, Target, Element, Arguments, NoMore, Argument, Initialiser, Elements, Text}
use Rattle.c_tree.specs.Program.{Item, Scalar, Array, First, Nothing, Evaluated, Declared, Statement, Declare, Empty}
use Rattle.c_tree.specs.Program.{Evaluate, Block, If, While, Do, For, Switch, Break, Continue, Return, Statements, Done}
use Rattle.c_tree.specs.Program.{Next, Function, Program}
use Rattle.c_tree.specs.WellTyped.{parameters_of}
use Rattle.flow_graph.specs.Graphs.{IsIn}

-- An expression names only locals of the list.
abbrev mutual
  pub NamesOnly : List ℕ → Expression → Type 0
  NamesOnly known (Constant of n) = Unit {0}
  NamesOnly known (Start element array) = Unit {0}
  NamesOnly known (Read of place) = PlaceNamesOnly known place
  NamesOnly known (Address element place) = PlaceNamesOnly known place
  NamesOnly known (Unary of op e) = NamesOnly known e
  NamesOnly known (Binary of op a b) = NamesOnly known a × NamesOnly known b
  NamesOnly known (And a b) = NamesOnly known a × NamesOnly known b
  NamesOnly known (Or a b) = NamesOnly known a × NamesOnly known b
  NamesOnly known (Conditional of t a b) = NamesOnly known t × NamesOnly known a × NamesOnly known b
  NamesOnly known (Cast to e) = NamesOnly known e
  NamesOnly known (Assign of place e) = PlaceNamesOnly known place × NamesOnly known e
  NamesOnly known (Update of op place e) = PlaceNamesOnly known place × NamesOnly known e
  NamesOnly known (Step of op place) = PlaceNamesOnly known place
  NamesOnly known (Comma a b) = NamesOnly known a × NamesOnly known b
  NamesOnly known (Call of k arguments) = ArgumentsNameOnly known arguments
  NamesOnly known (Putchar e) = NamesOnly known e
  NamesOnly known Getchar = Unit {0}
  NamesOnly known (Exit e) = NamesOnly known e

  pub PlaceNamesOnly : List ℕ → Place → Type 0
  PlaceNamesOnly known (LocalPlace v) = IsIn v known
  PlaceNamesOnly known (StaticPlace k) = Unit {0}
  PlaceNamesOnly known (Target element e) = NamesOnly known e
  PlaceNamesOnly known (Element element a i) = NamesOnly known a × NamesOnly known i

  pub ArgumentsNameOnly : List ℕ → Arguments → Type 0
  ArgumentsNameOnly known NoMore = Unit {0}
  ArgumentsNameOnly known (Argument e es) = NamesOnly known e × ArgumentsNameOnly known es

-- ---- declared items: a local is known in its own initialiser (C99 6.2.1p7)

abbrev pub known_after : List ℕ → Item → List ℕ
known_after known (Scalar n v value) = v ∷ known
known_after known (Array n k element value) = known

abbrev pub InitialiserNamesOnly : List ℕ → Initialiser → Type 0
InitialiserNamesOnly known (Elements es) = AllByRecursion (NamesOnly known) es
InitialiserNamesOnly known (Text object) = Unit {0}

abbrev pub ItemNamesOnly : List ℕ → Item → Type 0
ItemNamesOnly known (Scalar n v value) = IfSome value (NamesOnly (v ∷ known))
ItemNamesOnly known (Array n k element value) = InitialiserNamesOnly known value

abbrev pub known_behind : List ℕ → List Item → List ℕ
known_behind known [] = known
known_behind known (item ∷ items) = known_behind (known_after known item) items

abbrev pub ItemsNameOnly : List ℕ → List Item → Type 0
ItemsNameOnly known [] = Unit {0}
ItemsNameOnly known (item ∷ items) = ItemNamesOnly known item × ItemsNameOnly (known_after known item) items

abbrev pub known_first : List ℕ → First → List ℕ
known_first known Nothing = known
known_first known (Evaluated e) = known
known_first known (Declared items) = known_behind known items

abbrev pub FirstNamesOnly : List ℕ → First → Type 0
FirstNamesOnly known Nothing = Unit {0}
FirstNamesOnly known (Evaluated e) = NamesOnly known e
FirstNamesOnly known (Declared items) = ItemsNameOnly known items

-- ---- statements

-- what is known behind a statement: a declaration of its own adds a local
abbrev pub known_then : List ℕ → Statement → List ℕ
known_then known (Declare item) = known_after known item
known_then known _ = known

-- no item stands directly among the statements
abbrev pub DeclareNothing : Statements → Type 0
DeclareNothing Done = Unit {0}
DeclareNothing (Next (Declare item) others) = ⊥
DeclareNothing (Next s others) = DeclareNothing others

-- Every expression of a statement names only locals that are declared before it in the text, in a block that isn't
-- left.
abbrev mutual
  pub DeclaresFirst : List ℕ → Statement → Type 0
  DeclaresFirst known (Declare item) = ItemNamesOnly known item
  DeclaresFirst known (Empty n) = Unit {0}
  DeclaresFirst known (Evaluate n e) = NamesOnly known e
  DeclaresFirst known (Block body) = DeclareFirst known body
  DeclaresFirst known (If n e a b) = NamesOnly known e × DeclaresFirst known a × DeclaresFirst known b
  DeclaresFirst known (While n e s) = NamesOnly known e × DeclaresFirst known s
  DeclaresFirst known (Do n s e) = DeclaresFirst known s × NamesOnly known e
  DeclaresFirst known (For n first test after s) = FirstNamesOnly known first
      × IfSome test (NamesOnly (known_first known first)) × IfSome after (NamesOnly (known_first known first))
      × DeclaresFirst (known_first known first) s
  DeclaresFirst known (Switch n e labels body) = NamesOnly known e × DeclareNothing body × DeclareFirst known body
  DeclaresFirst known (Break n) = Unit {0}
  DeclaresFirst known (Continue n) = Unit {0}
  DeclaresFirst known (Return n value) = IfSome value (NamesOnly known)

  pub DeclareFirst : List ℕ → Statements → Type 0
  DeclareFirst known Done = Unit {0}
  DeclareFirst known (Next s others) = DeclaresFirst known s × DeclareFirst (known_then known s) others

-- In every function each local is declared before it is named, and no item stands directly in the block of a `switch`,
-- past which control could go. Parameters are the first locals.
abbrev pub IsDeclaredFirst : Program → Type 0
IsDeclaredFirst p =
    All (λ (f : Function). DeclareFirst (range_with_len 0 (length (parameters_of f))) f.body) p.functions
