-- Programs that the definitions are read on, as their sources' typed trees.
use Rattle.std.specs.Prelude.{ℕ, zero, suc, ℤ, pos, List, [], ◌∷◌, codes, map, replicate, Some, None}
use Rattle.pcc_base.specs.Ascii.{letter_a, letter_b}
use Rattle.pcc_base.specs.Outcome.{Listing, Number, Scalar as ScalarPart, Visit}
use Rattle.c_tree.specs.declared.expression.BinaryOp.TheVariants.{Add, Subtract, Less}
use Rattle.c_tree.specs.declared.expression.ArrayRef.TheVariants.{Frame}
use Rattle.c_tree.specs.declared.expression.StepOp.TheVariants.{PostIncrement}
use Rattle.c_tree.specs.declared.statement.Label.{Label}
use Rattle.c_tree.specs.declared.types.IntegerType.TheVariants.{Char, Int}
use Rattle.c_tree.specs.declared.types.ValueType.TheVariants.{Integer, Pointer}
use Rattle.c_tree.specs.Program.{int, Expression, Constant, Start, Read, Binary, Assign, Step, Call, Putchar, Exit}
use Rattle.c_tree.specs.Program.{LocalPlace, Target, Element, NoMore, Argument, Elements, Text, Scalar, Array}
use Rattle.c_tree.specs.Program.{Statements}
use Rattle.c_tree.specs.Program.{Declare, Evaluate, While, Switch, Break, Return, Done, Next, Local, LocalArray}
use Rattle.c_tree.specs.Program.{Function}
use Rattle.c_tree.specs.Program.{Program}

-- a program that is a `main` with these locals and arrays and this body
abbrev main_with : List Local → List LocalArray → Statements → Program
main_with locals arrays body = record {
  objects = [];
  functions = record {
    name = codes "main";
    result = int;
    parameters = 0;
    locals = locals;
    arrays = arrays;
    body = body;
  } ∷ [];
  main = 0;
}

-- the locals `x` and `y`, of type `int`
abbrev x_local : Local
x_local = record { name = codes "x"; of = int }

abbrev y_local : Local
y_local = record { name = codes "y"; of = int }

abbrev x : Expression
x = Read int (LocalPlace 0)

abbrev y : Expression
y = Read int (LocalPlace 1)

-- the visit of a statement that shows these numbers
abbrev pub shown : ℕ → List ℤ → Visit
shown statement numbers = record { statement = statement; values = map Number numbers }

-- `int main(void){int x=2147483647; x=x+1; return x-1;}`
abbrev pub sum_wraps : Program
sum_wraps = main_with (x_local ∷ []) []
    (Next (Declare (Scalar 0 0 (Some (Constant Int (pos 2147483647)))))
    (Next (Evaluate 1 (Assign int (LocalPlace 0) (Binary int Add x (Constant Int (pos 1)))))
    (Next (Return 2 (Some (Binary int Subtract x (Constant Int (pos 1))))) Done)))

-- each statement shows the one local
abbrev pub x_listed : Listing
x_listed statement = ScalarPart 0 ∷ []

-- `int main(void){int x=70; int y=x+2; putchar(y); putchar(x-1); return y-x;}`
abbrev pub writes_he : Program
writes_he = main_with (x_local ∷ y_local ∷ []) []
    (Next (Declare (Scalar 0 0 (Some (Constant Int (pos 70)))))
    (Next (Declare (Scalar 1 1 (Some (Binary int Add x (Constant Int (pos 2))))))
    (Next (Evaluate 2 (Putchar y))
    (Next (Evaluate 3 (Putchar (Binary int Subtract x (Constant Int (pos 1)))))
    (Next (Return 4 (Some (Binary int Subtract y x))) Done)))))

-- each statement shows the locals that are declared before it
abbrev pub declared_listed : Listing
declared_listed zero = []
declared_listed (suc zero) = ScalarPart 0 ∷ []
declared_listed (suc (suc statement)) = ScalarPart 0 ∷ ScalarPart 1 ∷ []

abbrev zero_constant : Expression
zero_constant = Constant Int (pos 0)

-- `int main(void){char a[1]={200}; return a[0]<0;}`
abbrev pub converts_200 : Program
converts_200 = main_with [] (record { name = codes "a"; element = Char; count = 1 } ∷ [])
    (Next (Declare (Array 0 0 Char (Elements (Constant Int (pos 200) ∷ []))))
    (Next (Return 1 (Some (Binary int Less (Read (Integer Char) (Element Char (Start Char (Frame 0)) zero_constant))
    zero_constant))) Done))

abbrev pub nothing_listed : Listing
nothing_listed statement = []

-- a function of so many parameters of type `int`, with an empty body
abbrev pub takes_and_ignores : ℕ → Function
takes_and_ignores count = record {
  name = codes "f";
  result = int;
  parameters = count;
  locals = replicate count x_local;
  arrays = [];
  body = Done;
}

-- ---- programs to be typed

-- `int f(char *p){while(*p) p++; return 1;}`
abbrev f_with_pointer : Function
f_with_pointer = record {
  name = codes "f";
  result = int;
  parameters = 1;
  locals = record { name = codes "p"; of = Pointer Char } ∷ [];
  arrays = [];
  body =
      Next (While 0 (Read (Integer Char) (Target Char (Read (Pointer Char) (LocalPlace 0))))
      (Evaluate 1 (Step (Pointer Char) PostIncrement (LocalPlace 0))))
      (Next (Return 2 (Some (Constant Int (pos 1)))) Done);
}

-- `f(a)`, for an array, and `f(0)`, for a null constant
abbrev f_of : Expression → Expression
f_of e = Call int 0 (Argument e NoMore)

-- `case 1:` before the first statement, and `default:` before the second
abbrev worked_labels : List Label
worked_labels = record { value = Some (pos 1); before = 0 } ∷ record { value = None; before = 1 } ∷ []

-- `int main(void){char a[3]="ab"; switch(f(a)){case 1: break; default: return 0;} return f(0);}`, behind `f`
abbrev main_with_switch : Function
main_with_switch = record {
  name = codes "main";
  result = int;
  parameters = 0;
  locals = [];
  arrays = record { name = codes "a"; element = Char; count = 3 } ∷ [];
  body =
      Next (Declare (Array 3 0 Char (Text 0)))
      (Next (Switch 4 (f_of (Start Char (Frame 0))) worked_labels
      (Next (Break 5) (Next (Return 6 (Some zero_constant)) Done)))
      (Next (Return 7 (Some (f_of zero_constant))) Done));
}

-- the program of both, whose `main` has this number
abbrev pub two_functions : ℕ → Program
two_functions main = record {
  objects = record { element = Char; elements = pos letter_a ∷ pos letter_b ∷ pos 0 ∷ [] } ∷ [];
  functions = f_with_pointer ∷ main_with_switch ∷ [];
  main = main;
}

-- `int main(void){break;}`
abbrev pub breaks_nothing : Program
breaks_nothing = main_with [] [] (Next (Break 0) Done)

-- `int main(void){return x;}`, without a local
abbrev pub reads_no_local : Program
reads_no_local = main_with [] [] (Next (Return 0 (Some x)) Done)

-- `int main(void){return exit(0);}`
abbrev pub returns_no_value : Program
returns_no_value = main_with [] [] (Next (Return 0 (Some (Exit zero_constant))) Done)

-- `int main(void){return 0;}`, with a statement of this number
abbrev pub numbered_from : ℕ → Program
numbered_from number = main_with [] [] (Next (Return number (Some zero_constant)) Done)
