-- Generated programs: the text of a C program for each number from 0 to 2 ^ 32 - 1 (ours). A number x is handed from draw
-- to draw, and starts as the program's number. Each part says its text, where x is what it begins with, and what x is
-- behind it.
use Rattle.std.specs.Prelude.{ℕ, zero, suc, ◌+◌, ◌*◌, ◌/◌, ◌%◌, ◌^◌, ◌==◌, List, [], ◌∷◌, ◌++◌, codes, decimal}
use Rattle.std.specs.Prelude.{if◌then◌else◌, nat_lt, get_or}
use Rattle.pcc_base.specs.Ascii.{letter_a}

-- ---- draws: each sets x, and answers a number below k that is taken from the new x

unfoldable pub next : ℕ → ℕ
next x = (1103515245 * x + 12345) % 2 ^ 32

-- what is drawn, where x is the number before
unfoldable pub draw : (k x : ℕ) → ℕ
draw k x = next x / 65536 % 32768 % k

-- x behind three draws
abbrev pub third : ℕ → ℕ
third x = next (next (next x))

-- ---- a drawn line: which one of ten it is, its target, its left operand and, in the first eight, its right one are drawn,
-- in this order

-- a, b, c, d, e
abbrev pub variable : ℕ → List ℕ
variable n = (letter_a + n) ∷ []

abbrev pub operators : List (List ℕ)
operators =
    codes "+" ∷ codes "-" ∷ codes "*" ∷ codes "&" ∷ codes "|" ∷ codes "^" ∷ codes "<<" ∷ codes ">>" ∷ []

-- the operator and the right operand of the q-th of ten, where x is the number before the right operand is drawn
abbrev pub operation : (q x : ℕ) → List ℕ
operation q x =
    if nat_lt q 8 then get_or operators q [] ++ codes " " ++ variable (draw 5 x)
    else if q == 8 then codes "/ 7"
    else codes "% 9"

abbrev pub after_operation : (q x : ℕ) → ℕ
after_operation q x = if nat_lt q 8 then next x else x

abbrev pub statement : ℕ → List ℕ
statement x =
    codes "  " ++ variable (draw 5 (next x)) ++ codes " = " ++ variable (draw 5 (next (next x))) ++ codes " "
    ++ operation (draw 10 x) (third x) ++ codes ";\n"

abbrev pub after_statement : ℕ → ℕ
after_statement x = after_operation (draw 10 x) (third x)

-- n drawn lines
unfoldable pub statements : (n x : ℕ) → List ℕ
statements zero x = []
statements (suc n) x = statement x ++ statements n (after_statement x)

unfoldable pub after_statements : (n x : ℕ) → ℕ
after_statements zero x = x
after_statements (suc n) x = after_statements n (after_statement x)

-- ---- the function with number i

abbrev pub opening : (i x : ℕ) → List ℕ
opening i x =
    codes "int f" ++ decimal i ++ codes "(int a, int b) {\n"
    ++ codes "  char c = a;\n"
    ++ codes "  short d = b;\n"
    ++ codes "  int e = " ++ decimal (draw 1000 x) ++ codes ";\n"

abbrev pub closing : ℕ → List ℕ
closing x =
    codes "  for (e = 0; e < " ++ decimal (1 + draw 8 x) ++ codes "; e++) t[(a + e) & 63] += b ^ d;\n"
    ++ codes "  return a + b + c + d + e;\n"
    ++ codes "}\n"

abbrev pub function : (i x : ℕ) → List ℕ
function i x = opening i x ++ statements 30 (next x) ++ closing (after_statements 30 (next x))

abbrev pub after_function : ℕ → ℕ
after_function x = next (after_statements 30 (next x))

-- n functions, from number i on
unfoldable pub functions : (n i x : ℕ) → List ℕ
functions zero i x = []
functions (suc n) i x = function i x ++ functions n (suc i) (after_function x)

unfoldable pub after_functions : (n x : ℕ) → ℕ
after_functions zero x = x
after_functions (suc n) x = after_functions n (after_function x)

-- ---- `main`, which calls each function ten times

abbrev pub call : ℕ → List ℕ
call i = codes "    s = s * 31 + f" ++ decimal i ++ codes "(i, s);\n"

-- n calls, from that of function i on
unfoldable pub calls : (n i : ℕ) → List ℕ
calls zero i = []
calls (suc n) i = call i ++ calls n (suc i)

abbrev pub main_function : ℕ → List ℕ
main_function count =
    codes "int main(void) {\n"
    ++ codes "  int s = 0;\n"
    ++ codes "  int i;\n"
    ++ codes "  for (i = 0; i < 10; i++) {\n"
    ++ calls count 0
    ++ codes "  }\n"
    ++ codes "  for (i = 0; i < 64; i++) s = s * 31 + t[i];\n"
    ++ codes "  for (i = 28; i >= 0; i -= 4) putchar(\"0123456789abcdef\"[(s >> i) & 15]);\n"
    ++ codes "  putchar('\\n');\n"
    ++ codes "  return 0;\n"
    ++ codes "}\n"

-- ---- the program

-- with so many functions
abbrev pub program : (count number : ℕ) → List ℕ
program count number = codes "int t[64];\n" ++ functions count 0 number ++ main_function count

abbrev pub generated : ℕ → List ℕ
generated number = program 40 number
