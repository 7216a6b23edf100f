-- What evaluation and lowering rely on in a typed program: the types of values fit each other where they meet, what is
-- named is there and of the right sort, and statements are numbered in order. Every program that C99 allows in this
-- language keeps it; where only a null constant may become a pointer (C99 6.3.2.3p3), any number may here.
use Rattle.std.specs.Prelude.{◌≡◌, ◌<◌, ◌≤◌, ℕ, suc, Bool, true, false, List, [], ◌∷◌, ◌++◌, length, map, take}
use Rattle.std.specs.Prelude.{slice_get, Option, Some, None, IsSomeAnd, IfSome}
use Rattle.std.specs.List.{All, AllPairs, range_with_len}
use Rattle.c_tree.specs.declared.expression.ArrayRef.TheVariants as refs
use Rattle.c_tree.specs.declared.expression.ArrayRef.{ArrayRef}
use Rattle.c_tree.specs.declared.expression.BinaryOp.{BinaryOp}
use Rattle.c_tree.specs.declared.expression.BinaryOp.TheVariants.{Multiply, Divide, Remainder, Add, Subtract}
use Rattle.c_tree.specs.declared.expression.BinaryOp.TheVariants.{ShiftLeft, ShiftRight, Less, Greater, LessOrEqual}
use Rattle.c_tree.specs.declared.expression.BinaryOp.TheVariants.{GreaterOrEqual, Equal, NotEqual, BitAnd}
use Rattle.c_tree.specs.declared.expression.BinaryOp.TheVariants.{BitXor, BitOr}
use Rattle.c_tree.specs.declared.expression.UnaryOp.{UnaryOp}
use Rattle.c_tree.specs.declared.expression.UnaryOp.TheVariants.{Not}
use Rattle.c_tree.specs.declared.statement.Label.{Label}
use Rattle.c_tree.specs.declared.types.IntegerType.{IntegerType}
use Rattle.c_tree.specs.declared.types.IntegerType.TheVariants.{Int}
use Rattle.c_tree.specs.declared.types.ValueType.{ValueType}
use Rattle.c_tree.specs.declared.types.ValueType.TheVariants.{Void, Integer, Pointer}
use Rattle.c_tree.specs.Objects.{IsObject, data_objects}
use Rattle.c_tree.specs.Operators.{common, numbers_result, numbers_type, unary_type}
use Rattle.c_tree.specs.Program.{int, value_type, Expression, Constant, Start, Read, Address, Unary, Binary, And, Or}
use Rattle.c_tree.specs.Program.{Conditional, Cast, Assign, Update, Step, Comma, Call, Putchar, Getchar, Exit, Place}
use Rattle.c_tree.specs.Program.{LocalPlace, StaticPlace, Target, Element, Arguments, NoMore, Argument, Initialiser}
use Rattle.c_tree.specs.Program.{Elements, Text, Item, Scalar, Array, First, Nothing, Evaluated, Declared, Statement}
use Rattle.c_tree.specs.Program.{Declare, Empty, Evaluate, Block, If, While, Do, For, Switch, Break, Continue, Return}
use Rattle.c_tree.specs.Program.{Statements, Done, Next, Local, LocalArray, Function, Program}

-- ---- types

-- an integer type
abbrev pub IsInteger : ValueType → Type 0
IsInteger Void = ⊥
IsInteger (Integer t) = Unit {0}
IsInteger (Pointer t) = ⊥

-- an integer type or a pointer (C99 6.2.5p21)
abbrev pub IsScalar : ValueType → Type 0
IsScalar Void = ⊥
IsScalar (Integer t) = Unit {0}
IsScalar (Pointer t) = Unit {0}

-- the type of a function's result: void or an integer type
abbrev pub IsResult : ValueType → Type 0
IsResult Void = Unit {0}
IsResult (Integer t) = Unit {0}
IsResult (Pointer t) = ⊥

-- a value of the second type may be assigned to a place of the first (C99 6.5.16.1)
abbrev pub CanAssign : ValueType → ValueType → Type 0
CanAssign (Integer t) (Integer u) = Unit {0}
CanAssign (Pointer t) (Pointer u) = u ≡ t
CanAssign (Pointer t) (Integer u) = Unit {0}
CanAssign _ _ = ⊥

-- a value of the second type may be cast to the first (C99 6.5.4)
abbrev pub CanCast : ValueType → ValueType → Type 0
CanCast Void from = Unit {0}
CanCast to from = CanAssign to from

-- the operator on an operand of the type has a result of the integer type (C99 6.5.3.3)
abbrev pub UnaryGives : UnaryOp → ValueType → IntegerType → Type 0
UnaryGives op Void of = ⊥
UnaryGives op (Integer t) of = of ≡ unary_type op t
UnaryGives op (Pointer t) of = (op ≡ Not) × (of ≡ Int)

-- the operator on a pointer and a number, in this order, has a result of the type (C99 6.5.6 and 6.5.9)
abbrev pub PointerNumberGives : BinaryOp → IntegerType → ValueType → Type 0
PointerNumberGives Add t of = of ≡ Pointer t
PointerNumberGives Subtract t of = of ≡ Pointer t
PointerNumberGives Equal t of = of ≡ int
PointerNumberGives NotEqual t of = of ≡ int
PointerNumberGives _ t of = ⊥

-- the same of a number and a pointer
abbrev pub NumberPointerGives : BinaryOp → IntegerType → ValueType → Type 0
NumberPointerGives Add t of = of ≡ Pointer t
NumberPointerGives Equal t of = of ≡ int
NumberPointerGives NotEqual t of = of ≡ int
NumberPointerGives _ t of = ⊥

-- the operators on two pointers of one type, whose result is an `int` (C99 6.5.6, 6.5.8 and 6.5.9)
abbrev pub TakesPointers : BinaryOp → Type 0
TakesPointers Subtract = Unit {0}
TakesPointers Less = Unit {0}
TakesPointers Greater = Unit {0}
TakesPointers LessOrEqual = Unit {0}
TakesPointers GreaterOrEqual = Unit {0}
TakesPointers Equal = Unit {0}
TakesPointers NotEqual = Unit {0}
TakesPointers _ = ⊥

-- the operator on operands of the two types has a result of the third (C99 6.5.5 to 6.5.12)
abbrev pub BinaryGives : BinaryOp → ValueType → ValueType → ValueType → Type 0
BinaryGives op (Integer t) (Integer u) of = of ≡ Integer (numbers_result op (numbers_type op t u))
BinaryGives op (Pointer t) (Integer u) of = PointerNumberGives op t of
BinaryGives op (Integer t) (Pointer u) of = NumberPointerGives op u of
BinaryGives op (Pointer t) (Pointer u) of = (u ≡ t) × TakesPointers op × (of ≡ int)
BinaryGives op _ _ of = ⊥

-- `?:` with operands of the first two types has a result of the third (C99 6.5.15)
abbrev pub ConditionalGives : ValueType → ValueType → ValueType → Type 0
ConditionalGives Void Void of = of ≡ Void
ConditionalGives (Integer t) (Integer u) of = of ≡ Integer (common t u)
ConditionalGives (Pointer t) (Pointer u) of = (u ≡ t) × (of ≡ Pointer t)
ConditionalGives (Pointer t) (Integer u) of = of ≡ Pointer t
ConditionalGives (Integer t) (Pointer u) of = of ≡ Pointer u
ConditionalGives _ _ of = ⊥

-- the operators that an assignment may have on numbers (C99 6.5.16)
abbrev pub IsAssignmentOp : BinaryOp → Type 0
IsAssignmentOp Multiply = Unit {0}
IsAssignmentOp Divide = Unit {0}
IsAssignmentOp Remainder = Unit {0}
IsAssignmentOp Add = Unit {0}
IsAssignmentOp Subtract = Unit {0}
IsAssignmentOp ShiftLeft = Unit {0}
IsAssignmentOp ShiftRight = Unit {0}
IsAssignmentOp BitAnd = Unit {0}
IsAssignmentOp BitXor = Unit {0}
IsAssignmentOp BitOr = Unit {0}
IsAssignmentOp _ = ⊥

-- the operators that move a pointer (C99 6.5.16.2p1)
abbrev pub MovesPointer : BinaryOp → Type 0
MovesPointer Add = Unit {0}
MovesPointer Subtract = Unit {0}
MovesPointer _ = ⊥

-- a place of the first type may be assigned with the operator and a value of the second (C99 6.5.16.2)
abbrev pub CanUpdate : BinaryOp → ValueType → ValueType → Type 0
CanUpdate op (Integer t) (Integer u) = IsAssignmentOp op
CanUpdate op (Pointer t) (Integer u) = MovesPointer op
CanUpdate op _ _ = ⊥

-- ---- expressions

-- the array that a function names is there and has such elements
abbrev pub IsArray : Program → Function → ArrayRef → IntegerType → Type 0
IsArray p f (refs.Static k) element = IsSomeAnd (slice_get p.objects k) (λ o. o.element ≡ element)
IsArray p f (refs.Frame k) element = IsSomeAnd (slice_get f.arrays k) (λ a. a.element ≡ element)

-- what `&` may be applied to (C99 6.5.3.2)
abbrev pub IsElement : Place → Type 0
IsElement (LocalPlace v) = ⊥
IsElement (StaticPlace k) = ⊥
IsElement (Target element e) = Unit {0}
IsElement (Element element a i) = Unit {0}

-- the parameters of a function
abbrev pub parameters_of : Function → List Local
parameters_of f = take f.parameters f.locals

-- An expression of a function is typed, and so are its parts.
abbrev mutual
  pub IsTyped : Program → Function → Expression → Type 0
  IsTyped p f (Constant of n) = Unit {0}
  IsTyped p f (Start element array) = IsArray p f array element
  IsTyped p f (Read of place) = IsPlace p f place of
  IsTyped p f (Address element place) = IsElement place × IsPlace p f place (Integer element)
  IsTyped p f (Unary of op e) = IsTyped p f e × UnaryGives op (value_type e) of
  IsTyped p f (Binary of op a b) = IsTyped p f a × IsTyped p f b × BinaryGives op (value_type a) (value_type b) of
  IsTyped p f (And a b) = IsTyped p f a × IsScalar (value_type a) × IsTyped p f b × IsScalar (value_type b)
  IsTyped p f (Or a b) = IsTyped p f a × IsScalar (value_type a) × IsTyped p f b × IsScalar (value_type b)
  IsTyped p f (Conditional of t a b) = IsTyped p f t × IsScalar (value_type t) × IsTyped p f a × IsTyped p f b
      × ConditionalGives (value_type a) (value_type b) of
  IsTyped p f (Cast to e) = IsTyped p f e × CanCast to (value_type e)
  IsTyped p f (Assign of place e) = IsPlace p f place of × IsTyped p f e × CanAssign of (value_type e)
  IsTyped p f (Update of op place e) = IsPlace p f place of × IsTyped p f e × CanUpdate op of (value_type e)
  IsTyped p f (Step of op place) = IsPlace p f place of
  IsTyped p f (Comma a b) = IsTyped p f a × IsTyped p f b
  IsTyped p f (Call of k arguments) =
      IsSomeAnd (slice_get p.functions k) (λ g. (g.result ≡ of) × AreArguments p f (parameters_of g) arguments)
  IsTyped p f (Putchar e) = IsTyped p f e × IsInteger (value_type e)
  IsTyped p f Getchar = Unit {0}
  IsTyped p f (Exit e) = IsTyped p f e × IsInteger (value_type e)

  -- The place is there and has this type. `a[i]` is `*(a+i)` (C99 6.5.2.1), and a static object that is no array has
  -- one element.
  pub IsPlace : Program → Function → Place → ValueType → Type 0
  IsPlace p f (LocalPlace v) of = IsSomeAnd (slice_get f.locals v) (λ l. l.of ≡ of)
  IsPlace p f (StaticPlace k) of =
      IsSomeAnd (slice_get p.objects k) (λ o. (length o.elements ≡ 1) × (Integer o.element ≡ of))
  IsPlace p f (Target element e) of = IsTyped p f e × (value_type e ≡ Pointer element) × (Integer element ≡ of)
  IsPlace p f (Element element a i) of = IsTyped p f a × IsTyped p f i
      × BinaryGives Add (value_type a) (value_type i) (Pointer element) × (Integer element ≡ of)

  -- one argument for each parameter, which may be assigned to it (C99 6.5.2.2)
  pub AreArguments : Program → Function → List Local → Arguments → Type 0
  AreArguments p f [] NoMore = Unit {0}
  AreArguments p f (l ∷ ls) (Argument e es) = IsTyped p f e × CanAssign l.of (value_type e) × AreArguments p f ls es
  AreArguments p f _ _ = ⊥

-- an expression whose value may be assigned to this type
abbrev pub IsAssigned : Program → Function → ValueType → Expression → Type 0
IsAssigned p f to e = IsTyped p f e × CanAssign to (value_type e)

-- a condition (C99 6.5.15p2, 6.8.4.1 and 6.8.5p2)
abbrev pub IsCondition : Program → Function → Expression → Type 0
IsCondition p f e = IsTyped p f e × IsScalar (value_type e)

-- ---- declared items (C99 6.7.8)

-- What initialises an array: no more values than it has elements, or a text, whose last zero may be left out.
abbrev pub CanInitialise : Program → Function → LocalArray → Initialiser → Type 0
CanInitialise p f a (Elements first) = (length first ≤ a.count) × All (IsAssigned p f (Integer a.element)) first
CanInitialise p f a (Text k) =
    IsSomeAnd (slice_get p.objects k) (λ o. (o.element ≡ a.element) × (length o.elements ≤ suc a.count))

abbrev pub IsItem : Program → Function → Item → Type 0
IsItem p f (Scalar n v value) = IsSomeAnd (slice_get f.locals v) (λ l. IfSome value (IsAssigned p f l.of))
IsItem p f (Array n k element value) =
    IsSomeAnd (slice_get f.arrays k) (λ a. (a.element ≡ element) × CanInitialise p f a value)

abbrev pub IsFirst : Program → Function → First → Type 0
IsFirst p f Nothing = Unit {0}
IsFirst p f (Evaluated e) = IsTyped p f e
IsFirst p f (Declared items) = All (IsItem p f) items

-- ---- statements (C99 6.8)

-- a value is returned exactly where the function isn't void (C99 6.8.6.4)
abbrev pub CanReturn : Program → Function → ValueType → Option Expression → Type 0
CanReturn p f Void None = Unit {0}
CanReturn p f Void (Some e) = ⊥
CanReturn p f result None = ⊥
CanReturn p f result (Some e) = IsAssigned p f result e

-- how many statements a list has
abbrev pub count_of : Statements → ℕ
count_of Done = 0
count_of (Next s others) = suc (count_of others)

-- Each label stands before a statement of the switch, and no two have one value or are both `default` (C99 6.8.4.2).
pub record AreLabels (labels : List Label) (statements : ℕ) : Type 0 where
  pub inside : All (λ label. label.before < statements) labels
  pub differ : AllPairs (λ one other. one.value ≡ other.value → ⊥) labels

-- A statement of a function, and whether `break` and `continue` may stand there (C99 6.8.6.2 and 6.8.6.3).
abbrev mutual
  pub IsStatement : Program → Function → Bool → Bool → Statement → Type 0
  IsStatement p f breaks continues (Declare item) = IsItem p f item
  IsStatement p f breaks continues (Empty n) = Unit {0}
  IsStatement p f breaks continues (Evaluate n e) = IsTyped p f e
  IsStatement p f breaks continues (Block body) = AreStatements p f breaks continues body
  IsStatement p f breaks continues (If n e a b) =
      IsCondition p f e × IsStatement p f breaks continues a × IsStatement p f breaks continues b
  IsStatement p f breaks continues (While n e s) = IsCondition p f e × IsStatement p f true true s
  IsStatement p f breaks continues (Do n s e) = IsStatement p f true true s × IsCondition p f e
  IsStatement p f breaks continues (For n first test after s) =
      IsFirst p f first × IfSome test (IsCondition p f) × IfSome after (IsTyped p f) × IsStatement p f true true s
  IsStatement p f breaks continues (Switch n e labels body) = IsTyped p f e × IsInteger (value_type e)
      × AreLabels labels (count_of body) × AreStatements p f true continues body
  IsStatement p f breaks continues (Break n) = breaks ≡ true
  IsStatement p f breaks continues (Continue n) = continues ≡ true
  IsStatement p f breaks continues (Return n value) = CanReturn p f f.result value

  pub AreStatements : Program → Function → Bool → Bool → Statements → Type 0
  AreStatements p f breaks continues Done = Unit {0}
  AreStatements p f breaks continues (Next s others) =
      IsStatement p f breaks continues s × AreStatements p f breaks continues others

-- ---- numbers of statements and declared items, in the order of the text

abbrev pub item_number : Item → ℕ
item_number (Scalar n v value) = n
item_number (Array n k element value) = n

abbrev pub first_numbers : First → List ℕ
first_numbers Nothing = []
first_numbers (Evaluated e) = []
first_numbers (Declared items) = map item_number items

abbrev mutual
  pub statement_numbers : Statement → List ℕ
  statement_numbers (Declare item) = item_number item ∷ []
  statement_numbers (Empty n) = n ∷ []
  statement_numbers (Evaluate n e) = n ∷ []
  statement_numbers (Block body) = statements_numbers body
  statement_numbers (If n e a b) = n ∷ (statement_numbers a ++ statement_numbers b)
  statement_numbers (While n e s) = n ∷ statement_numbers s
  statement_numbers (Do n s e) = n ∷ statement_numbers s
  statement_numbers (For n first test after s) = n ∷ (first_numbers first ++ statement_numbers s)
  statement_numbers (Switch n e labels body) = n ∷ statements_numbers body
  statement_numbers (Break n) = n ∷ []
  statement_numbers (Continue n) = n ∷ []
  statement_numbers (Return n value) = n ∷ []

  pub statements_numbers : Statements → List ℕ
  statements_numbers Done = []
  statements_numbers (Next s others) = statement_numbers s ++ statements_numbers others

abbrev pub functions_numbers : List Function → List ℕ
functions_numbers [] = []
functions_numbers (f ∷ fs) = statements_numbers f.body ++ functions_numbers fs

-- they are 0, 1, 2 and so on
abbrev pub CountUp : List ℕ → Type 0
CountUp numbers = numbers ≡ range_with_len 0 (length numbers)

-- ---- functions and programs

pub record IsTypedFunction (p : Program) (f : Function) : Type 0 where
  pub result : IsResult f.result
  pub parameters : f.parameters ≤ length f.locals
  pub locals : All (λ l. IsScalar l.of) f.locals
  pub arrays : All (λ a. 1 ≤ a.count) f.arrays
  pub body : AreStatements p f false false f.body

-- `int main(void)` (C99 5.1.2.2.1)
abbrev pub IsMain : Function → Type 0
IsMain f = (f.result ≡ int) × (f.parameters ≡ 0)

pub record WellTyped (p : Program) : Type 0 where
  pub objects : All IsObject (data_objects p)
  pub functions : All (IsTypedFunction p) p.functions
  pub main : IsSomeAnd (slice_get p.functions p.main) IsMain
  pub numbered : CountUp (functions_numbers p.functions)
