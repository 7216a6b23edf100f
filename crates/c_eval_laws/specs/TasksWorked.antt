-- A program whose steps are counted.
use Rattle.std.specs.Prelude.{ℕ, pos, [], ◌∷◌, codes, Option, Some, None}
use Rattle.pcc_base.specs.Outcome.{nothing_listed, Outcome}
use Rattle.c_tree.specs.declared.expression.ArrayRef.TheVariants.{Frame}
use Rattle.c_tree.specs.declared.expression.BinaryOp.TheVariants.{Add, Less, Equal}
use Rattle.c_tree.specs.declared.expression.StepOp.TheVariants.{PostIncrement, PreDecrement}
use Rattle.c_tree.specs.declared.types.IntegerType.TheVariants.{Char, Int}
use Rattle.c_tree.specs.declared.types.ValueType.TheVariants.{Integer}
use Rattle.c_tree.specs.Evaluation.{first_state, outcome_at}
use Rattle.c_tree.specs.Program.{int, Expression, Constant, Start, Read, Binary, And, Conditional, Assign, Step, Call}
use Rattle.c_tree.specs.Program.{Putchar, LocalPlace, Element, NoMore, Argument, Elements, Scalar, Array, Evaluated}
use Rattle.c_tree.specs.Program.{Declare, Evaluate, If, Do, For, Continue, Return, Done, Next, Function}
use Rattle.c_tree.specs.Program.{Program}
use Rattle.c_tree.specs.Store.{Gives, Ends}
use Rattle.c_eval_laws.specs.Tasks.{Ahead}
use Rattle.c_eval_laws.specs.Steps.{Configuration, Stepped, first_tasks, steps}

abbrev constant : ℕ → Expression
constant n = Constant Int (pos n)

-- the first local
abbrev first : Expression
first = Read int (LocalPlace 0)

-- `int letter(int n){return 65+n;}`
abbrev letter : Function
letter = record {
  name = codes "letter";
  result = int;
  parameters = 1;
  locals = record { name = codes "n"; of = int } ∷ [];
  arrays = [];
  body = Next (Return 0 (Some (Binary int Add (constant 65) first))) Done;
}

-- `a[index]`
abbrev element : Expression → Expression
element index = Read (Integer Char) (Element Char (Start Char (Frame 0)) index)

-- the numbered statements of `main`
abbrev main_function : Function
main_function = record {
  name = codes "main";
  result = int;
  parameters = 0;
  locals = record { name = codes "i"; of = int } ∷ [];
  arrays = record { name = codes "a"; element = Char; count = 2 } ∷ [];
  body =
      Next (Declare (Scalar 1 0 None))
      (Next (Declare (Array 2 0 Char (Elements (constant 1 ∷ constant 257 ∷ []))))
      (Next (For 3 (Evaluated (Assign int (LocalPlace 0) (constant 0))) (Some (Binary int Less first (constant 3)))
      (Some (Step int PostIncrement (LocalPlace 0)))
      (If 4 (Binary int Equal first (element (constant 0))) (Continue 5)
      (Evaluate 6 (Putchar (Call int 0 (Argument first NoMore))))))
      (Next (Do 7 (Evaluate 8 (Step int PreDecrement (LocalPlace 0))) (And first (element (constant 1))))
      (Next (Return 9 (Some (Conditional int first (constant 2) (element (constant 1))))) Done))));
}

-- `int letter(int n){return 65+n;} int main(void){int i; char a[2]={1,257}; for(i=0;i<3;i++) if(i==a[0]) continue;
-- else putchar(letter(i)); do --i; while(i&&a[1]); return i?2:a[1];}`
abbrev pub writes_letters : Program
writes_letters = record { objects = []; functions = letter ∷ main_function ∷ []; main = 1 }

-- the start of a program
abbrev pub start_of : Program → Configuration
start_of p = record { function = main_function; way = Ahead; tasks = first_tasks p; values = []; places = [] }

-- what it comes to after so many steps, with so many turns and no input
abbrev pub stepped : Program → ℕ → ℕ → Stepped
stepped p turns count = steps count p nothing_listed (start_of p) (first_state p [] turns)

-- the outcome, where the program has ended
abbrev pub ended : Stepped → Option Outcome
ended (Gives c s) = None
ended (Ends end s) = Some (outcome_at end s)
