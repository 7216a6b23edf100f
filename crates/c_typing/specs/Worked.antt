-- Files that the definitions are read on, as their raw trees. Each has one line, whose columns are the places.
use Rattle.std.specs.Prelude.{ℕ, ◌+◌, pos, List, [], ◌∷◌, codes, Option, Some, None}
use Rattle.pcc_base.specs.declared.span.Span.{Span}
use Rattle.c_syntax.specs.declared.operator.AssignOp.TheVariants as asg
use Rattle.c_syntax.specs.declared.operator.BinaryOp.TheVariants as ops
use Rattle.c_syntax.specs.declared.operator.StepOp.TheVariants as steps
use Rattle.c_syntax.specs.declared.operator.UnaryOp.TheVariants as ones
use Rattle.c_syntax.specs.declared.operator.SpecifierWord.{SpecifierWord}
use Rattle.c_syntax.specs.declared.operator.SpecifierWord.TheVariants as words
use Rattle.c_syntax.specs.declared.expression.Identifier.{Identifier as Ident}
use Rattle.c_syntax.specs.declared.expression.Specifier.{Specifier}
use Rattle.c_syntax.specs.declared.expression.TextPiece.{TextPiece}
use Rattle.c_syntax.specs.Expressions.{Star, Expr, Identifier, Number, Text, Call, Index, Postfix, Unary}
use Rattle.c_syntax.specs.Expressions.{Binary, Assignment, NoExpr, OneExpr}
use Rattle.c_syntax.specs.Declarations.{ArrayTree, ParameterTree, ParametersTree, PartTree, Plain, Array, Function}
use Rattle.c_syntax.specs.Declarations.{DeclaratorTree, InitialiserTree, Single, Braces, ValueTree, ItemTree}
use Rattle.c_syntax.specs.Declarations.{DeclarationTree}
use Rattle.c_syntax.specs.Statements.{Case, Default, Declared, Labelled, Block, Simple, Switch, While, Break}
use Rattle.c_syntax.specs.Statements.{Return, Stmts, NoStmt, OneStmt}
use Rattle.c_syntax.specs.Statements.{ExternalTree, FunctionTree, DeclaredTree}

-- a column of a file
abbrev pub at : ℕ → ℕ → Span
at file col = record { file = file; line = 1; col = col }

abbrev named : List ℕ → ℕ → ℕ → Ident
named name file col = record { name = name; at = at file col }

abbrev word : SpecifierWord → ℕ → ℕ → Specifier
word w file col = record { word = w; at = at file col }

abbrev piece : List ℕ → ℕ → ℕ → TextPiece
piece bytes file col = record { bytes = bytes; at = at file col }

abbrev star : Span → Star
star place = record { star = place; consts = [] }

abbrev array : Span → Option Expr → Span → ArrayTree
array o size c = record { opening = o; size = size; close = c }

abbrev parameter : List Specifier → Option Star → Option Ident → ParameterTree
parameter specifiers pointer name =
    record { specifiers = specifiers; pointer = pointer; name = name; array = None }

abbrev parameters : Span → List ParameterTree → Span → ParametersTree
parameters o ps c = record { opening = o; parameters = ps; commas = []; close = c }

abbrev declarator : Option Star → Ident → PartTree → DeclaratorTree
declarator pointer name part = record { pointer = pointer; name = name; part = part }

abbrev given : Span → InitialiserTree → ValueTree
given equal value = record { equal = equal; value = value }

abbrev item : DeclaratorTree → Option ValueTree → ItemTree
item d value = record { declarator = d; initialiser = value }

abbrev declaration : List Specifier → ItemTree → Span → DeclarationTree
declaration specifiers i semicolon =
    record { specifiers = specifiers; items = i ∷ []; commas = []; semicolon = semicolon }

-- `int main(void){..}` from a column on, with its body and the column of its `}`
abbrev main_at : ℕ → ℕ → ℕ → Stmts → ExternalTree
main_at file col close body =
    FunctionTree (word words.Int file col ∷ [])
    (declarator None (named (codes "main") file (col + 4)) (Function (parameters (at file (col + 8))
    (parameter (word words.Void file (col + 9) ∷ []) None None ∷ []) (at file (col + 13)))))
    (Block (at file (col + 14)) body (at file close))

-- an empty file
abbrev pub nothing : List (List ExternalTree)
nothing =
    ([]) ∷ []

-- `int main(void){int a[2]={1,2,3};return 0;}`
abbrev pub too_many_values : List (List ExternalTree)
too_many_values =
    (main_at 0 1 42 (OneStmt (Declared (declaration (word words.Int 0 16 ∷ []) (item (declarator None (named (codes
    "a") 0 20) (Array (array (at 0 21) (Some (Number (pos 2) (at 0 22))) (at 0 23)))) (Some (given (at 0 24) (Braces
    (at 0 25) (OneExpr (Number (pos 1) (at 0 26)) (OneExpr (Number (pos 2) (at 0 28)) (OneExpr (Number (pos 3) (at 0
    30)) NoExpr))) (at 0 27 ∷ at 0 29 ∷ []) None (at 0 31))))) (at 0 32))) (OneStmt (Return (at 0 33) (Some (Number
    (pos 0) (at 0 40))) (at 0 41)) NoStmt)) ∷ []) ∷ []

-- `int main(void){return x;}`
abbrev pub undeclared : List (List ExternalTree)
undeclared =
    (main_at 0 1 25 (OneStmt (Return (at 0 16) (Some (Identifier (named (codes "x") 0 23))) (at 0 24)) NoStmt) ∷ [])
    ∷ []

-- `int f(int n); int main(void){return f(20);}`
abbrev pub no_body : List (List ExternalTree)
no_body =
    (DeclaredTree (declaration (word words.Int 0 1 ∷ []) (item (declarator None (named (codes "f") 0 5) (Function
    (parameters (at 0 6) (parameter (word words.Int 0 7 ∷ []) None (Some (named (codes "n") 0 11)) ∷ []) (at 0
    12)))) None) (at 0 13)) ∷ main_at 0 15 43 (OneStmt (Return (at 0 30) (Some (Call (named (codes "f") 0 37) (at 0
    38) (OneExpr (Number (pos 20) (at 0 39)) NoExpr) [] (at 0 41))) (at 0 42)) NoStmt) ∷ []) ∷ []

-- `int f(int f){return f;} int main(void){int x=1; {int x=2; return x+f(1);}}`
abbrev pub shadows : List (List ExternalTree)
shadows =
    (FunctionTree (word words.Int 0 1 ∷ []) (declarator None (named (codes "f") 0 5) (Function (parameters (at 0 6)
    (parameter (word words.Int 0 7 ∷ []) None (Some (named (codes "f") 0 11)) ∷ []) (at 0 12)))) (Block (at 0 13)
    (OneStmt (Return (at 0 14) (Some (Identifier (named (codes "f") 0 21))) (at 0 22)) NoStmt) (at 0 23)) ∷ main_at
    0 25 74 (OneStmt (Declared (declaration (word words.Int 0 40 ∷ []) (item (declarator None (named (codes "x") 0
    44) Plain) (Some (given (at 0 45) (Single (Number (pos 1) (at 0 46)))))) (at 0 47))) (OneStmt (Block (at 0 49)
    (OneStmt (Declared (declaration (word words.Int 0 50 ∷ []) (item (declarator None (named (codes "x") 0 54)
    Plain) (Some (given (at 0 55) (Single (Number (pos 2) (at 0 56)))))) (at 0 57))) (OneStmt (Return (at 0 59)
    (Some (Binary ops.Add (Identifier (named (codes "x") 0 66)) (at 0 67) (Call (named (codes "f") 0 68) (at 0 69)
    (OneExpr (Number (pos 1) (at 0 70)) NoExpr) [] (at 0 71)))) (at 0 72)) NoStmt)) (at 0 73)) NoStmt)) ∷ []) ∷ []

-- `int x=1; int x; static int y; int main(void){extern int x; return 0;}`
abbrev pub extern_inside : List (List ExternalTree)
extern_inside =
    (DeclaredTree (declaration (word words.Int 0 1 ∷ []) (item (declarator None (named (codes "x") 0 5) Plain) (Some
    (given (at 0 6) (Single (Number (pos 1) (at 0 7)))))) (at 0 8)) ∷ DeclaredTree (declaration (word words.Int 0 10
    ∷ []) (item (declarator None (named (codes "x") 0 14) Plain) None) (at 0 15)) ∷ DeclaredTree (declaration (word
    words.Static 0 17 ∷ word words.Int 0 24 ∷ []) (item (declarator None (named (codes "y") 0 28) Plain) None) (at 0
    29)) ∷ main_at 0 31 69 (OneStmt (Declared (declaration (word words.Extern 0 46 ∷ word words.Int 0 53 ∷ []) (item
    (declarator None (named (codes "x") 0 57) Plain) None) (at 0 58))) (OneStmt (Return (at 0 60) (Some (Number (pos
    0) (at 0 67))) (at 0 68)) NoStmt)) ∷ []) ∷ []

-- the files `int x=1;` and `int x=2;`
abbrev pub defined_twice : List (List ExternalTree)
defined_twice =
    (DeclaredTree (declaration (word words.Int 0 1 ∷ []) (item (declarator None (named (codes "x") 0 5) Plain) (Some
    (given (at 0 6) (Single (Number (pos 1) (at 0 7)))))) (at 0 8)) ∷ []) ∷ (DeclaredTree (declaration (word
    words.Int 1 1 ∷ []) (item (declarator None (named (codes "x") 1 5) Plain) (Some (given (at 1 6) (Single (Number
    (pos 2) (at 1 7)))))) (at 1 8)) ∷ []) ∷ []

-- the files `extern int x; int x;` and `int x=1; int main(void){return x;}`
abbrev pub declared_again : List (List ExternalTree)
declared_again =
    (DeclaredTree (declaration (word words.Extern 0 1 ∷ word words.Int 0 8 ∷ []) (item (declarator None (named
    (codes "x") 0 12) Plain) None) (at 0 13)) ∷ DeclaredTree (declaration (word words.Int 0 15 ∷ []) (item
    (declarator None (named (codes "x") 0 19) Plain) None) (at 0 20)) ∷ []) ∷ (DeclaredTree (declaration (word
    words.Int 1 1 ∷ []) (item (declarator None (named (codes "x") 1 5) Plain) (Some (given (at 1 6) (Single (Number
    (pos 1) (at 1 7)))))) (at 1 8)) ∷ main_at 1 10 34 (OneStmt (Return (at 1 25) (Some (Identifier (named (codes
    "x") 1 32))) (at 1 33)) NoStmt) ∷ []) ∷ []

-- the files `static int x=1;` and `int main(void){return x;}`
abbrev pub static_apart : List (List ExternalTree)
static_apart =
    (DeclaredTree (declaration (word words.Static 0 1 ∷ word words.Int 0 8 ∷ []) (item (declarator None (named
    (codes "x") 0 12) Plain) (Some (given (at 0 13) (Single (Number (pos 1) (at 0 14)))))) (at 0 15)) ∷ []) ∷
    (main_at 1 1 25 (OneStmt (Return (at 1 16) (Some (Identifier (named (codes "x") 1 23))) (at 1 24)) NoStmt) ∷ [])
    ∷ []

-- `char s[2]="ab"; int main(void){return 0;}`
abbrev pub letters : List (List ExternalTree)
letters =
    (DeclaredTree (declaration (word words.Char 0 1 ∷ []) (item (declarator None (named (codes "s") 0 6) (Array
    (array (at 0 7) (Some (Number (pos 2) (at 0 8))) (at 0 9)))) (Some (given (at 0 10) (Single (Text (piece (codes
    "ab") 0 11 ∷ [])))))) (at 0 15)) ∷ main_at 0 17 41 (OneStmt (Return (at 0 32) (Some (Number (pos 0) (at 0 39)))
    (at 0 40)) NoStmt) ∷ []) ∷ []

-- `char s[2]="abc";`
abbrev pub too_many_letters : List (List ExternalTree)
too_many_letters =
    (DeclaredTree (declaration (word words.Char 0 1 ∷ []) (item (declarator None (named (codes "s") 0 6) (Array
    (array (at 0 7) (Some (Number (pos 2) (at 0 8))) (at 0 9)))) (Some (given (at 0 10) (Single (Text (piece (codes
    "abc") 0 11 ∷ [])))))) (at 0 16)) ∷ []) ∷ []

-- `int main(void){int *p; p=1>2; return 0;}`
abbrev pub null_constant : List (List ExternalTree)
null_constant =
    (main_at 0 1 40 (OneStmt (Declared (declaration (word words.Int 0 16 ∷ []) (item (declarator (Some (star (at 0
    20))) (named (codes "p") 0 21) Plain) None) (at 0 22))) (OneStmt (Simple (Some (Assignment asg.Assign
    (Identifier (named (codes "p") 0 24)) (at 0 25) (Binary ops.Greater (Number (pos 1) (at 0 26)) (at 0 27) (Number
    (pos 2) (at 0 28))))) (at 0 29)) (OneStmt (Return (at 0 31) (Some (Number (pos 0) (at 0 38))) (at 0 39))
    NoStmt))) ∷ []) ∷ []

-- `int main(void){int *p; p=1; return 0;}`
abbrev pub no_null_constant : List (List ExternalTree)
no_null_constant =
    (main_at 0 1 38 (OneStmt (Declared (declaration (word words.Int 0 16 ∷ []) (item (declarator (Some (star (at 0
    20))) (named (codes "p") 0 21) Plain) None) (at 0 22))) (OneStmt (Simple (Some (Assignment asg.Assign
    (Identifier (named (codes "p") 0 24)) (at 0 25) (Number (pos 1) (at 0 26)))) (at 0 27)) (OneStmt (Return (at 0
    29) (Some (Number (pos 0) (at 0 36))) (at 0 37)) NoStmt))) ∷ []) ∷ []

-- `int main(void){switch(1){case 1: case 2: ; case 1: ;} return 0;}`
abbrev pub case_twice : List (List ExternalTree)
case_twice =
    (main_at 0 1 64 (OneStmt (Switch (at 0 16) (at 0 22) (Number (pos 1) (at 0 23)) (at 0 24) (at 0 25) (OneStmt
    (Labelled ((Case (at 0 26) (Number (pos 1) (at 0 31)) (at 0 32)) ∷ (Case (at 0 34) (Number (pos 2) (at 0 39))
    (at 0 40)) ∷ []) (Simple None (at 0 42))) (OneStmt (Labelled ((Case (at 0 44) (Number (pos 1) (at 0 49)) (at 0
    50)) ∷ []) (Simple None (at 0 52))) NoStmt)) (at 0 53)) (OneStmt (Return (at 0 55) (Some (Number (pos 0) (at 0
    62))) (at 0 63)) NoStmt)) ∷ []) ∷ []

-- `int x=1||1/0; int main(void){return x;}`
abbrev pub short_cut : List (List ExternalTree)
short_cut =
    (DeclaredTree (declaration (word words.Int 0 1 ∷ []) (item (declarator None (named (codes "x") 0 5) Plain) (Some
    (given (at 0 6) (Single (Binary ops.LogicalOr (Number (pos 1) (at 0 7)) (at 0 8) (Binary ops.Divide (Number (pos
    1) (at 0 10)) (at 0 11) (Number (pos 0) (at 0 12)))))))) (at 0 13)) ∷ main_at 0 15 39 (OneStmt (Return (at 0 30)
    (Some (Identifier (named (codes "x") 0 37))) (at 0 38)) NoStmt) ∷ []) ∷ []

-- `int x=1/0;`
abbrev pub no_value : List (List ExternalTree)
no_value =
    (DeclaredTree (declaration (word words.Int 0 1 ∷ []) (item (declarator None (named (codes "x") 0 5) Plain) (Some
    (given (at 0 6) (Single (Binary ops.Divide (Number (pos 1) (at 0 7)) (at 0 8) (Number (pos 0) (at 0 9))))))) (at
    0 10)) ∷ []) ∷ []

-- `int main(void){5=7; return 3=4;}`
abbrev pub two_faults : List (List ExternalTree)
two_faults =
    (main_at 0 1 32 (OneStmt (Simple (Some (Assignment asg.Assign (Number (pos 5) (at 0 16)) (at 0 17) (Number (pos
    7) (at 0 18)))) (at 0 19)) (OneStmt (Return (at 0 21) (Some (Assignment asg.Assign (Number (pos 3) (at 0 28))
    (at 0 29) (Number (pos 4) (at 0 30)))) (at 0 31)) NoStmt)) ∷ []) ∷ []

-- `int f(char *p){while(*p) p++; return 1;} int main(void){char a[3]="ab"; switch(f(a)){case 1: break; default: return
-- 0;} return f(0);}`
abbrev pub pointer_and_switch : List (List ExternalTree)
pointer_and_switch =
    (FunctionTree (word words.Int 0 1 ∷ []) (declarator None (named (codes "f") 0 5) (Function (parameters (at 0 6)
    (parameter (word words.Char 0 7 ∷ []) (Some (star (at 0 12))) (Some (named (codes "p") 0 13)) ∷ []) (at 0 14))))
    (Block (at 0 15) (OneStmt (While (at 0 16) (at 0 21) (Unary ones.Dereference (at 0 22) (Identifier (named (codes
    "p") 0 23))) (at 0 24) (Simple (Some (Postfix (Identifier (named (codes "p") 0 26)) steps.Increment (at 0 27)))
    (at 0 29))) (OneStmt (Return (at 0 31) (Some (Number (pos 1) (at 0 38))) (at 0 39)) NoStmt)) (at 0 40)) ∷
    main_at 0 42 133 (OneStmt (Declared (declaration (word words.Char 0 57 ∷ []) (item (declarator None (named
    (codes "a") 0 62) (Array (array (at 0 63) (Some (Number (pos 3) (at 0 64))) (at 0 65)))) (Some (given (at 0 66)
    (Single (Text (piece (codes "ab") 0 67 ∷ [])))))) (at 0 71))) (OneStmt (Switch (at 0 73) (at 0 79) (Call (named
    (codes "f") 0 80) (at 0 81) (OneExpr (Identifier (named (codes "a") 0 82)) NoExpr) [] (at 0 83)) (at 0 84) (at 0
    85) (OneStmt (Labelled ((Case (at 0 86) (Number (pos 1) (at 0 91)) (at 0 92)) ∷ []) (Break (at 0 94) (at 0 99)))
    (OneStmt (Labelled ((Default (at 0 101) (at 0 108)) ∷ []) (Return (at 0 110) (Some (Number (pos 0) (at 0 117)))
    (at 0 118))) NoStmt)) (at 0 119)) (OneStmt (Return (at 0 121) (Some (Call (named (codes "f") 0 128) (at 0 129)
    (OneExpr (Number (pos 0) (at 0 130)) NoExpr) [] (at 0 131))) (at 0 132)) NoStmt))) ∷ []) ∷ []

-- `int main(void){char a[1]={200}; return a[0]<0;}`
abbrev pub char_from_200 : List (List ExternalTree)
char_from_200 =
    (main_at 0 1 47 (OneStmt (Declared (declaration (word words.Char 0 16 ∷ []) (item (declarator None (named (codes
    "a") 0 21) (Array (array (at 0 22) (Some (Number (pos 1) (at 0 23))) (at 0 24)))) (Some (given (at 0 25) (Braces
    (at 0 26) (OneExpr (Number (pos 200) (at 0 27)) NoExpr) [] None (at 0 30))))) (at 0 31))) (OneStmt (Return (at 0
    33) (Some (Binary ops.Less (Index (Identifier (named (codes "a") 0 40)) (at 0 41) (Number (pos 0) (at 0 42)) (at
    0 43)) (at 0 44) (Number (pos 0) (at 0 45)))) (at 0 46)) NoStmt)) ∷ []) ∷ []

-- the files `extern int x; char s[]="hi"; extern int unused; int f(void){static short k=7; return x;}` and `short
-- z[3]={1,2}; int x=5; static int y; int f(void); int main(void){return f()+y;}`
abbrev pub objects_in_files : List (List ExternalTree)
objects_in_files =
    (DeclaredTree (declaration (word words.Extern 0 1 ∷ word words.Int 0 8 ∷ []) (item (declarator None (named
    (codes "x") 0 12) Plain) None) (at 0 13)) ∷ DeclaredTree (declaration (word words.Char 0 15 ∷ []) (item
    (declarator None (named (codes "s") 0 20) (Array (array (at 0 21) None (at 0 22)))) (Some (given (at 0 23)
    (Single (Text (piece (codes "hi") 0 24 ∷ [])))))) (at 0 28)) ∷ DeclaredTree (declaration (word words.Extern 0 30
    ∷ word words.Int 0 37 ∷ []) (item (declarator None (named (codes "unused") 0 41) Plain) None) (at 0 47)) ∷
    FunctionTree (word words.Int 0 49 ∷ []) (declarator None (named (codes "f") 0 53) (Function (parameters (at 0
    54) (parameter (word words.Void 0 55 ∷ []) None None ∷ []) (at 0 59)))) (Block (at 0 60) (OneStmt (Declared
    (declaration (word words.Static 0 61 ∷ word words.Short 0 68 ∷ []) (item (declarator None (named (codes "k") 0
    74) Plain) (Some (given (at 0 75) (Single (Number (pos 7) (at 0 76)))))) (at 0 77))) (OneStmt (Return (at 0 79)
    (Some (Identifier (named (codes "x") 0 86))) (at 0 87)) NoStmt)) (at 0 88)) ∷ []) ∷ (DeclaredTree (declaration
    (word words.Short 1 1 ∷ []) (item (declarator None (named (codes "z") 1 7) (Array (array (at 1 8) (Some (Number
    (pos 3) (at 1 9))) (at 1 10)))) (Some (given (at 1 11) (Braces (at 1 12) (OneExpr (Number (pos 1) (at 1 13))
    (OneExpr (Number (pos 2) (at 1 15)) NoExpr)) (at 1 14 ∷ []) None (at 1 16))))) (at 1 17)) ∷ DeclaredTree
    (declaration (word words.Int 1 19 ∷ []) (item (declarator None (named (codes "x") 1 23) Plain) (Some (given (at
    1 24) (Single (Number (pos 5) (at 1 25)))))) (at 1 26)) ∷ DeclaredTree (declaration (word words.Static 1 28 ∷
    word words.Int 1 35 ∷ []) (item (declarator None (named (codes "y") 1 39) Plain) None) (at 1 40)) ∷ DeclaredTree
    (declaration (word words.Int 1 42 ∷ []) (item (declarator None (named (codes "f") 1 46) (Function (parameters
    (at 1 47) (parameter (word words.Void 1 48 ∷ []) None None ∷ []) (at 1 52)))) None) (at 1 53)) ∷ main_at 1 55 83
    (OneStmt (Return (at 1 70) (Some (Binary ops.Add (Call (named (codes "f") 1 77) (at 1 78) NoExpr [] (at 1 79))
    (at 1 80) (Identifier (named (codes "y") 1 81)))) (at 1 82)) NoStmt) ∷ []) ∷ []

-- `int main(void){char a[16221]; return 0;}`
abbrev pub large_frame : List (List ExternalTree)
large_frame =
    (main_at 0 1 40 (OneStmt (Declared (declaration (word words.Char 0 16 ∷ []) (item (declarator None (named (codes
    "a") 0 21) (Array (array (at 0 22) (Some (Number (pos 16221) (at 0 23))) (at 0 28)))) None) (at 0 29))) (OneStmt
    (Return (at 0 31) (Some (Number (pos 0) (at 0 38))) (at 0 39)) NoStmt)) ∷ []) ∷ []

-- `int f(void)=1+x;`
abbrev pub prototype_with_value : List (List ExternalTree)
prototype_with_value =
    (DeclaredTree (declaration (word words.Int 0 1 ∷ []) (item (declarator None (named (codes "f") 0 5) (Function
    (parameters (at 0 6) (parameter (word words.Void 0 7 ∷ []) None None ∷ []) (at 0 11)))) (Some (given (at 0 12)
    (Single (Binary ops.Add (Number (pos 1) (at 0 13)) (at 0 14) (Identifier (named (codes "x") 0 15))))))) (at 0 16))
    ∷ []) ∷ []

-- `int f(void)=3;`
abbrev pub prototype_with_number : List (List ExternalTree)
prototype_with_number =
    (DeclaredTree (declaration (word words.Int 0 1 ∷ []) (item (declarator None (named (codes "f") 0 5) (Function
    (parameters (at 0 6) (parameter (word words.Void 0 7 ∷ []) None None ∷ []) (at 0 11)))) (Some (given (at 0 12)
    (Single (Number (pos 3) (at 0 13)))))) (at 0 14)) ∷ []) ∷ []

-- `int main(void){int i; int i(int x); return 0;}`
abbrev pub function_inside : List (List ExternalTree)
function_inside =
    (main_at 0 1 46 (OneStmt (Declared (declaration (word words.Int 0 16 ∷ []) (item (declarator None (named (codes
    "i") 0 20) Plain) None) (at 0 21))) (OneStmt (Declared (declaration (word words.Int 0 23 ∷ []) (item (declarator
    None (named (codes "i") 0 27) (Function (parameters (at 0 28) (parameter (word words.Int 0 29 ∷ []) None (Some
    (named (codes "x") 0 33)) ∷ []) (at 0 34)))) None) (at 0 35))) (OneStmt (Return (at 0 37) (Some (Number (pos 0)
    (at 0 44))) (at 0 45)) NoStmt))) ∷ []) ∷ []

-- `int *s[];`
abbrev pub pointers_without_size : List (List ExternalTree)
pointers_without_size =
    (DeclaredTree (declaration (word words.Int 0 1 ∷ []) (item (declarator (Some (star (at 0 5))) (named (codes "s") 0
    6) (Array (array (at 0 7) None (at 0 8)))) None) (at 0 9)) ∷ []) ∷ []

-- `int *f(void v);`
abbrev pub pointer_to_return : List (List ExternalTree)
pointer_to_return =
    (DeclaredTree (declaration (word words.Int 0 1 ∷ []) (item (declarator (Some (star (at 0 5))) (named (codes "f") 0
    6) (Function (parameters (at 0 7) (parameter (word words.Void 0 8 ∷ []) None (Some (named (codes "v") 0 13)) ∷ [])
    (at 0 14)))) None) (at 0 15)) ∷ []) ∷ []

-- `int a; int a[0];`
abbrev pub array_without_elements : List (List ExternalTree)
array_without_elements =
    (DeclaredTree (declaration (word words.Int 0 1 ∷ []) (item (declarator None (named (codes "a") 0 5) Plain) None) (at
    0 6)) ∷ DeclaredTree (declaration (word words.Int 0 8 ∷ []) (item (declarator None (named (codes "a") 0 12) (Array
    (array (at 0 13) (Some (Number (pos 0) (at 0 14))) (at 0 15)))) None) (at 0 16)) ∷ []) ∷ []
