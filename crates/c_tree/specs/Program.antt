-- Typed programs: the trees of the library's types of the same names, without boxes and vectors.
use Rattle.std.specs.Prelude.{ℕ, ℤ, List, Option}
use Rattle.c_tree.specs.declared.types.IntegerType.{IntegerType}
use Rattle.c_tree.specs.declared.types.IntegerType.TheVariants.{Int}
use Rattle.c_tree.specs.declared.types.ValueType.{ValueType}
use Rattle.c_tree.specs.declared.types.ValueType.TheVariants.{Void, Integer, Pointer}
use Rattle.c_tree.specs.declared.expression.ArrayRef.{ArrayRef}
use Rattle.c_tree.specs.declared.expression.BinaryOp.{BinaryOp}
use Rattle.c_tree.specs.declared.expression.StepOp.{StepOp}
use Rattle.c_tree.specs.declared.expression.UnaryOp.{UnaryOp}
use Rattle.c_tree.specs.declared.statement.Label.{Label}

mutual
  -- An expression. Each has a type: the first part of those whose type isn't settled by their form.
  pub data Expression : Type 0 where
    -- a constant (C99 6.4.4)
    Constant : (of : IntegerType) (value : ℤ) → Expression
    -- the name of an array or a string literal: a pointer to its first element (C99 6.3.2.1)
    Start : (element : IntegerType) (array : ArrayRef) → Expression
    -- the value of a place (C99 6.3.2.1)
    Read : (of : ValueType) (place : Place) → Expression
    -- `&` of an element (C99 6.5.3.2)
    Address : (element : IntegerType) (place : Place) → Expression
    -- `+`, `-`, `~` and `!` (C99 6.5.3.3)
    Unary : (of : IntegerType) (op : UnaryOp) (operand : Expression) → Expression
    -- the operators that evaluate both operands (C99 6.5.5 to 6.5.12)
    Binary : (of : ValueType) (op : BinaryOp) (left right : Expression) → Expression
    -- `&&` and `||` (C99 6.5.13 and 6.5.14)
    And : (left right : Expression) → Expression
    Or : (left right : Expression) → Expression
    -- `?:` (C99 6.5.15)
    Conditional : (of : ValueType) (test first second : Expression) → Expression
    -- a cast (C99 6.5.4)
    Cast : (to : ValueType) (operand : Expression) → Expression
    -- `=` (C99 6.5.16.1)
    Assign : (of : ValueType) (place : Place) (value : Expression) → Expression
    -- an assignment with an operator (C99 6.5.16.2)
    Update : (of : ValueType) (op : BinaryOp) (place : Place) (value : Expression) → Expression
    -- `++` and `--` (C99 6.5.2.4 and 6.5.3.1)
    Step : (of : ValueType) (op : StepOp) (place : Place) → Expression
    -- `,` (C99 6.5.17)
    Comma : (left right : Expression) → Expression
    -- a call of a function by its number (C99 6.5.2.2)
    Call : (of : ValueType) (function : ℕ) (arguments : Arguments) → Expression
    -- `putchar`, `getchar` and `exit` (C99 7.19.7.9, 7.19.7.6 and 7.20.4.3)
    Putchar : (operand : Expression) → Expression
    Getchar : Expression
    Exit : (operand : Expression) → Expression

  -- an lvalue (C99 6.3.2.1): a local that is no array, a static object that is none, `*p`, or `a[i]`
  pub data Place : Type 0 where
    LocalPlace : (local : ℕ) → Place
    StaticPlace : (object : ℕ) → Place
    Target : (element : IntegerType) (pointer : Expression) → Place
    Element : (element : IntegerType) (array index : Expression) → Place

  -- the arguments of a call, in order
  pub data Arguments : Type 0 where
    NoMore : Arguments
    Argument : (first : Expression) (others : Arguments) → Arguments

-- the type of an expression's value
abbrev pub int : ValueType
int = Integer Int

abbrev pub value_type : Expression → ValueType
value_type (Constant of n) = Integer of
value_type (Start element array) = Pointer element
value_type (Read of place) = of
value_type (Address element place) = Pointer element
value_type (Unary of op e) = Integer of
value_type (Binary of op a b) = of
value_type (And a b) = int
value_type (Or a b) = int
value_type (Conditional of t a b) = of
value_type (Cast to e) = to
value_type (Assign of place e) = of
value_type (Update of op place e) = of
value_type (Step of op place) = of
value_type (Comma a b) = value_type b
value_type (Call of f arguments) = of
value_type (Putchar e) = int
value_type Getchar = int
value_type (Exit e) = Void

-- what an array of a function holds at first (C99 6.7.8)
pub data Initialiser : Type 0 where
  Elements : (first : List Expression) → Initialiser
  Text : (object : ℕ) → Initialiser

-- A declared item, with its number: a local that is no array, by its number, or an array, by its number,
-- with the type of its elements.
pub data Item : Type 0 where
  Scalar : (number local : ℕ) (value : Option Expression) → Item
  Array : (number array : ℕ) (element : IntegerType) (value : Initialiser) → Item

-- the first part of a `for` (C99 6.8.5.3)
pub data First : Type 0 where
  Nothing : First
  Evaluated : (value : Expression) → First
  Declared : (items : List Item) → First

mutual
  -- A statement (C99 6.8). All but blocks have their number first: statements and declared items are
  -- numbered together from 0 in the order of the text.
  pub data Statement : Type 0 where
    Declare : (item : Item) → Statement
    Empty : (number : ℕ) → Statement
    Evaluate : (number : ℕ) (value : Expression) → Statement
    Block : (body : Statements) → Statement
    If : (number : ℕ) (test : Expression) (first second : Statement) → Statement
    While : (number : ℕ) (test : Expression) (body : Statement) → Statement
    Do : (number : ℕ) (body : Statement) (test : Expression) → Statement
    For : (number : ℕ) (first : First) (test after : Option Expression) (body : Statement) → Statement
    Switch : (number : ℕ) (value : Expression) (labels : List Label) (body : Statements) → Statement
    Break : (number : ℕ) → Statement
    Continue : (number : ℕ) → Statement
    Return : (number : ℕ) (value : Option Expression) → Statement

  -- statements in order
  pub data Statements : Type 0 where
    Done : Statements
    Next : (first : Statement) (others : Statements) → Statements

-- an object of static storage: the type of its elements, and their first values
pub record StaticObject : Type 0 where
  pub element : IntegerType
  pub elements : List ℤ

-- a local that is no array
pub record Local : Type 0 where
  pub name : List ℕ
  pub of : ValueType

-- an array of a function that isn't static
pub record LocalArray : Type 0 where
  pub name : List ℕ
  pub element : IntegerType
  pub count : ℕ

-- a function: its first locals are its parameters; locals and arrays are in the order of declaration
pub record Function : Type 0 where
  pub name : List ℕ
  pub result : ValueType
  pub parameters : ℕ
  pub locals : List Local
  pub arrays : List LocalArray
  pub body : Statements

-- a program: its static objects and functions in order, and which function is `main`
pub record Program : Type 0 where
  pub objects : List StaticObject
  pub functions : List Function
  pub main : ℕ
