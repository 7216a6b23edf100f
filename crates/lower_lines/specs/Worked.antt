-- Small programs, as their sources' typed trees, on which lowering is read: their graphs do what they do.
use Rattle.std.specs.Prelude.{ℕ, pos, [], ◌∷◌, codes, Some, None}
use Rattle.c_tree.specs.declared.expression.ArrayRef.TheVariants.{Static, Frame}
use Rattle.c_tree.specs.declared.expression.BinaryOp.TheVariants.{Multiply, Add, Subtract}
use Rattle.c_tree.specs.declared.expression.BinaryOp.TheVariants.{Less, Greater}
use Rattle.c_tree.specs.declared.expression.BinaryOp.TheVariants.{Equal, NotEqual}
use Rattle.c_tree.specs.declared.expression.StepOp.TheVariants.{PreIncrement, PostIncrement, PostDecrement}
use Rattle.c_tree.specs.declared.expression.UnaryOp.TheVariants.{Minus, Not}
use Rattle.c_tree.specs.declared.types.IntegerType.TheVariants.{Char, Short, Int}
use Rattle.c_tree.specs.declared.types.ValueType.TheVariants.{Integer, Pointer}
use Rattle.c_tree.specs.Program.{Constant, Start, Read, Unary, Binary, And, Or, Conditional, Assign, Update, Step}
use Rattle.c_tree.specs.Program.{Call, Putchar, Getchar, LocalPlace, StaticPlace, Target, Element, NoMore, Argument}
use Rattle.c_tree.specs.Program.{Elements, Text, Scalar, Array, Evaluated, Declared, Declare, Evaluate, Block, If}
use Rattle.c_tree.specs.Program.{While, Do, For, Switch, Break, Continue, Return, Done, Next, Program, int}
use Rattle.c_tree.specs.Program.{Expression}

abbrev number : ℕ → Expression
number n = Constant Int (pos n)

-- a local of type `int`
abbrev local : ℕ → Expression
local v = Read int (LocalPlace v)

-- `int main(void){int x=2147483647; x=x+1; return x-1;}`
abbrev pub sum_wraps : Program
sum_wraps = record {
  objects = [];
  functions = record {
    name = codes "main";
    result = int;
    parameters = 0;
    locals = record { name = codes "x"; of = int } ∷ [];
    arrays = [];
    body = (Next (Declare (Scalar 0 0
        (Some (number 2147483647)))) (Next (Evaluate 1 (Assign int (LocalPlace 0) (Binary int Add (local 0)
        (number 1)))) (Next (Return 2 (Some (Binary int Subtract (local 0) (number 1)))) Done)));
  } ∷ [];
  main = 0;
}

-- `int main(void){int x=3; if(x>2&&x!=4) x=x<3?1:7; else x=2; return !x+x;}`
abbrev pub branches : Program
branches = record {
  objects = [];
  functions = record {
    name = codes "main";
    result = int;
    parameters = 0;
    locals = record { name = codes "x"; of = int } ∷ [];
    arrays = [];
    body = (Next (Declare (Scalar 0 0
        (Some (number 3)))) (Next (If 1 (And (Binary int Greater (local 0) (number 2)) (Binary int NotEqual
        (local 0) (number 4))) (Evaluate 2 (Assign int (LocalPlace 0) (Conditional int (Binary int Less
        (local 0) (number 3)) (number 1) (number 7)))) (Evaluate 3 (Assign int (LocalPlace 0) (number 2))))
        (Next (Return 4 (Some (Binary int Add (Unary Int Not (local 0)) (local 0)))) Done)));
  } ∷ [];
  main =
      0;
}

-- `int main(void){int c; int n=0; while((c=getchar())!=-1){ if(c=='a') continue; n+=c; if(n>90) break; } return n;}`
abbrev pub skips_and_stops : Program
skips_and_stops = record {
  objects = [];
  functions = record {
    name = codes "main";
    result = int;
    parameters = 0;
    locals = record { name = codes "c"; of = int } ∷ record { name = codes "n"; of = int } ∷ [];
    arrays
        = [];
    body = (Next (Declare (Scalar 0 0 None)) (Next (Declare (Scalar 1 1 (Some (number 0)))) (Next
        (While 2 (Binary int NotEqual (Assign int (LocalPlace 0) Getchar) (Unary Int Minus (number 1)))
        (Block (Next (If 3 (Binary int Equal (local 0) (number 97)) (Continue 4) (Block Done)) (Next
        (Evaluate 5 (Update int Add (LocalPlace 1) (local 0))) (Next (If 6 (Binary int Greater (local 1)
        (number 90)) (Break 7) (Block Done)) Done))))) (Next (Return 8 (Some (local 1))) Done))));
  } ∷ [];
  main = 0;
}

-- `int main(void){ int s=0; for(int i=0;i<3;i++){ if(i==1) continue; s+=i; } do { s--; if(s==9) continue; }
-- while(s>0); return s; }`
abbrev pub counts_up : Program
counts_up = record {
  objects = [];
  functions = record {
    name = codes "main";
    result = int;
    parameters = 0;
    locals = record { name = codes "s"; of = int } ∷ record { name = codes "i"; of = int } ∷ [];
    arrays
        = [];
    body = (Next (Declare (Scalar 0 0 (Some (number 0)))) (Next (For 1 (Declared ((Scalar 2 1
        (Some (number 0))) ∷ [])) (Some (Binary int Less (local 1) (number 3))) (Some (Step int
        PostIncrement (LocalPlace 1))) (Block (Next (If 3 (Binary int Equal (local 1) (number 1)) (Continue
        4) (Block Done)) (Next (Evaluate 5 (Update int Add (LocalPlace 0) (local 1))) Done)))) (Next (Do 6
        (Block (Next (Evaluate 7 (Step int PostDecrement (LocalPlace 0))) (Next (If 8 (Binary int Equal
        (local 0) (number 9)) (Continue 9) (Block Done)) Done))) (Binary int Greater (local 0) (number 0)))
        (Next (Return 10 (Some (local 0))) Done))));
  } ∷ [];
  main = 0;
}

-- `int main(void){ int i; int s=0; for(i=0;i<4;i++){ switch(i){ default: s+=1; case 1: s+=10; break; case 3: s+=100;
-- } s=s*2; } return s; }`
abbrev pub falls_through : Program
falls_through = record {
  objects = [];
  functions = record {
    name = codes "main";
    result = int;
    parameters = 0;
    locals = record { name = codes "i"; of = int } ∷ record { name = codes "s"; of = int } ∷ [];
    arrays
        = [];
    body = (Next (Declare (Scalar 0 0 None)) (Next (Declare (Scalar 1 1 (Some (number 0)))) (Next
        (For 2 (Evaluated (Assign int (LocalPlace 0) (number 0))) (Some (Binary int Less (local 0) (number
        4))) (Some (Step int PostIncrement (LocalPlace 0))) (Block (Next (Switch 3 (local 0) (record {
          value
              = None;
          before = 0;
        } ∷ record { value = (Some (pos 1)); before = 1 } ∷ record {
          value = (Some (pos
              3));
          before = 3;
        } ∷ []) (Next (Evaluate 4 (Update int Add (LocalPlace 1) (number 1))) (Next
        (Evaluate 5 (Update int Add (LocalPlace 1) (number 10))) (Next (Break 6) (Next (Evaluate 7 (Update
        int Add (LocalPlace 1) (number 100))) Done))))) (Next (Evaluate 8 (Assign int (LocalPlace 1) (Binary
        int Multiply (local 1) (number 2)))) Done)))) (Next (Return 9 (Some (local 1))) Done))));
  } ∷ [];
  main = 0;
}

-- `int g(int a,char b,short c){ return a*100+b*10+c; } int main(void){ int x=3; return g(g(1,2,3),x,x=4)+x; }`
abbrev pub nests_calls : Program
nests_calls = record {
  objects = [];
  functions = record {
    name = codes "g";
    result = int;
    parameters = 3;
    locals =
        record { name = codes "a"; of = int } ∷ record { name = codes "b"; of = (Integer Char) } ∷ record {
          name = codes "c";
          of = (Integer Short);
        } ∷ [];
    arrays = [];
    body = (Next (Return 0 (Some (Binary int
        Add (Binary int Add (Binary int Multiply (local 0) (number 100)) (Binary int Multiply (Read (Integer
        Char) (LocalPlace 1)) (number 10))) (Read (Integer Short) (LocalPlace 2))))) Done);
  } ∷ record {
    name
        = codes "main";
    result = int;
    parameters = 0;
    locals = record { name = codes "x"; of = int } ∷ [];
    arrays = [];
    body = (Next (Declare (Scalar 1 0 (Some (number 3)))) (Next (Return 2 (Some (Binary int
        Add (Call int 0 (Argument (Call int 0 (Argument (number 1) (Argument (number 2) (Argument (number 3)
        NoMore)))) (Argument (local 0) (Argument (Assign int (LocalPlace 0) (number 4)) NoMore)))) (local
        0)))) Done));
  } ∷ [];
  main = 1;
}

-- `int f(int n){ if (n<2) return n; return f(n-1)+f(n-2); } int main(void){ return f(4); }`
abbrev pub fibonacci : Program
fibonacci = record {
  objects = [];
  functions = record {
    name = codes "f";
    result = int;
    parameters = 1;
    locals =
        record { name = codes "n"; of = int } ∷ [];
    arrays = [];
    body = (Next (If 0 (Binary int Less (local
        0) (number 2)) (Return 1 (Some (local 0))) (Block Done)) (Next (Return 2 (Some (Binary int Add (Call
        int 0 (Argument (Binary int Subtract (local 0) (number 1)) NoMore)) (Call int 0 (Argument (Binary
        int Subtract (local 0) (number 2)) NoMore))))) Done));
  } ∷ record {
    name = codes "main";
    result =
        int;
    parameters = 0;
    locals = [];
    arrays = [];
    body = (Next (Return 3 (Some (Call int 0 (Argument
        (number 4) NoMore)))) Done);
  } ∷ [];
  main = 1;
}

-- `int main(void){ char a[5]="ab"; char *p=a; while(*p) putchar(*p++); return p-a; }`
abbrev pub walks : Program
walks = record {
  objects = record { element = Char; elements = pos 97 ∷ pos 98 ∷ pos 0 ∷ [] } ∷ [];
  functions = record {
    name = codes "main";
    result = int;
    parameters = 0;
    locals = record {
      name =
          codes "p";
      of = (Pointer Char);
    } ∷ [];
    arrays = record {
      name = codes "a";
      element = Char;
      count = 5;
    } ∷ [];
    body = (Next (Declare (Array 0 0 Char (Text 0))) (Next (Declare (Scalar 1 0 (Some (Start
        Char (Frame 0))))) (Next (While 2 (Read (Integer Char) (Target Char (Read (Pointer Char) (LocalPlace
        0)))) (Evaluate 3 (Putchar (Read (Integer Char) (Target Char (Step (Pointer Char) PostIncrement
        (LocalPlace 0))))))) (Next (Return 4 (Some (Binary int Subtract (Read (Pointer Char) (LocalPlace 0))
        (Start Char (Frame 0))))) Done))));
  } ∷ [];
  main = 0;
}

-- `int main(void){ char c=200; short s=40000; int x=c; c=c+100; s=s-1; return x+c*3+(s==-25537); }`
abbrev pub narrows : Program
narrows = record {
  objects = [];
  functions = record {
    name = codes "main";
    result = int;
    parameters = 0;
    locals = record { name = codes "c"; of = (Integer Char) } ∷ record {
      name = codes "s";
      of = (Integer
          Short);
    } ∷ record { name = codes "x"; of = int } ∷ [];
    arrays = [];
    body = (Next (Declare (Scalar 0
        0 (Some (number 200)))) (Next (Declare (Scalar 1 1 (Some (number 40000)))) (Next (Declare (Scalar 2
        2 (Some (Read (Integer Char) (LocalPlace 0))))) (Next (Evaluate 3 (Assign (Integer Char) (LocalPlace
        0) (Binary int Add (Read (Integer Char) (LocalPlace 0)) (number 100)))) (Next (Evaluate 4 (Assign
        (Integer Short) (LocalPlace 1) (Binary int Subtract (Read (Integer Short) (LocalPlace 1)) (number
        1)))) (Next (Return 5 (Some (Binary int Add (Binary int Add (local 2) (Binary int Multiply (Read
        (Integer Char) (LocalPlace 0)) (number 3))) (Binary int Equal (Read (Integer Short) (LocalPlace 1))
        (Unary Int Minus (number 25537)))))) Done))))));
  } ∷ [];
  main = 0;
}

-- `int main(void){ int x=5; int y=x++ + x; int w=++x; x=x++; return y*100+w*10+x+x--; }`
abbrev pub steps : Program
steps = record {
  objects = [];
  functions = record {
    name = codes "main";
    result = int;
    parameters = 0;
    locals = record { name = codes "x"; of = int } ∷ record { name = codes "y"; of = int } ∷ record {
      name = codes "w";
      of = int;
    } ∷ [];
    arrays = [];
    body = (Next (Declare (Scalar 0 0 (Some (number
        5)))) (Next (Declare (Scalar 1 1 (Some (Binary int Add (Step int PostIncrement (LocalPlace 0))
        (local 0))))) (Next (Declare (Scalar 2 2 (Some (Step int PreIncrement (LocalPlace 0))))) (Next
        (Evaluate 3 (Assign int (LocalPlace 0) (Step int PostIncrement (LocalPlace 0)))) (Next (Return 4
        (Some (Binary int Add (Binary int Add (Binary int Add (Binary int Multiply (local 1) (number 100))
        (Binary int Multiply (local 2) (number 10))) (local 0)) (Step int PostDecrement (LocalPlace 0)))))
        Done)))));
  } ∷ [];
  main = 0;
}

-- `int h[3]={1,2,3}; int k=5; int main(void){ int *p=h; *p++ += 5; p[1]-=1; k*=2; k++; return
-- *p*100+h[0]*10+h[2]+k--; }`
abbrev pub statics : Program
statics = record {
  objects = record { element = Int; elements = pos 1 ∷ pos 2 ∷ pos 3 ∷ [] } ∷ record {
    element = Int;
    elements = pos 5 ∷ [];
  } ∷ [];
  functions = record {
    name = codes "main";
    result = int;
    parameters = 0;
    locals = record { name = codes "p"; of = (Pointer Int) } ∷ [];
    arrays = [];
    body =
        (Next (Declare (Scalar 0 0 (Some (Start Int (Static 0))))) (Next (Evaluate 1 (Update int Add (Target
        Int (Step (Pointer Int) PostIncrement (LocalPlace 0))) (number 5))) (Next (Evaluate 2 (Update int
        Subtract (Element Int (Read (Pointer Int) (LocalPlace 0)) (number 1)) (number 1))) (Next (Evaluate 3
        (Update int Multiply (StaticPlace 1) (number 2))) (Next (Evaluate 4 (Step int PostIncrement
        (StaticPlace 1))) (Next (Return 5 (Some (Binary int Add (Binary int Add (Binary int Add (Binary int
        Multiply (Read int (Target Int (Read (Pointer Int) (LocalPlace 0)))) (number 100)) (Binary int
        Multiply (Read int (Element Int (Start Int (Static 0)) (number 0))) (number 10))) (Read int (Element
        Int (Start Int (Static 0)) (number 2)))) (Step int PostDecrement (StaticPlace 1))))) Done))))));
  } ∷
      [];
  main = 0;
}

-- `int main(void){ int a[2]; int b[2]; int *p=a; int *q=b; if(p==q||p==0) return 1; return p<q; }`
abbrev pub traps : Program
traps = record {
  objects = [];
  functions = record {
    name = codes "main";
    result = int;
    parameters = 0;
    locals = record { name = codes "p"; of = (Pointer Int) } ∷ record {
      name = codes "q";
      of = (Pointer
          Int);
    } ∷ [];
    arrays = record { name = codes "a"; element = Int; count = 2 } ∷ record {
      name = codes
          "b";
      element = Int;
      count = 2;
    } ∷ [];
    body = (Next (Declare (Array 0 0 Int (Elements []))) (Next
        (Declare (Array 1 1 Int (Elements []))) (Next (Declare (Scalar 2 0 (Some (Start Int (Frame 0)))))
        (Next (Declare (Scalar 3 1 (Some (Start Int (Frame 1))))) (Next (If 4 (Or (Binary int Equal (Read
        (Pointer Int) (LocalPlace 0)) (Read (Pointer Int) (LocalPlace 1))) (Binary int Equal (Read (Pointer
        Int) (LocalPlace 0)) (number 0))) (Return 5 (Some (number 1))) (Block Done)) (Next (Return 6 (Some
        (Binary int Less (Read (Pointer Int) (LocalPlace 0)) (Read (Pointer Int) (LocalPlace 1)))))
        Done))))));
  } ∷ [];
  main = 0;
}
