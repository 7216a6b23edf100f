-- The texts of generated programs are short.
use Rattle.std.specs.List.{AllByRecursion}
use Rattle.std.proofs.Common.{◌<◌, ◌≤◌, ◌+◌, ◌*◌, ◌==◌, ℕ, zero, suc, Bool, true, false, List, [], ◌∷◌, ◌++◌, codes}
use Rattle.std.proofs.Common.{arith, get_or, if◌then◌else◌, length, length-append, nat_lt}
use Rattle.std.proofs.lemmas.Fmt.{length-decimal-le_succ}
use Rattle.pcc_gen.specs.Generated.{after_function, after_statement, call, calls, closing, draw, function, functions}
use Rattle.pcc_gen.specs.Generated.{after_statements, generated, main_function, opening, operation, operators, statement}
use Rattle.pcc_gen.specs.Generated.{next, statements}

-- the numbers that are drawn are small
small-thousand : (x : ℕ) → draw 1000 x < 1000
unfolding draw
small-thousand x = omega arith

small-eight : (x : ℕ) → draw 8 x < 8
unfolding draw
small-eight x = omega arith

-- an element of a list of short texts is short
short-at : (most : ℕ) (xs : List (List ℕ)) (i : ℕ) → AllByRecursion (λ x. length x ≤ most) xs
    → length (get_or xs i []) ≤ most
short-at most [] i h = omega arith
short-at most (x ∷ xs) zero h = h.0
short-at most (x ∷ xs) (suc i) h = short-at most xs i h.1

short-if : (b : Bool) (most : ℕ) (x y : List ℕ) → length x ≤ most → length y ≤ most
    → length (if b then x else y) ≤ most
short-if true most x y hx hy = hx
short-if false most x y hx hy = hy

short-operator : (q : ℕ) → length (get_or operators q []) ≤ 2
short-operator q =
    short-at 2 operators q (
      omega arith,
      (
        omega arith,
        (
          omega arith,
          (
            omega arith,
            (
              omega arith,
              (
                omega arith,
                (
                  omega arith,
                  (omega arith, tt),
                ),
              ),
            ),
          ),
        ),
      ),
    )

short-operation : (q x : ℕ) → length (operation q x) ≤ 4
short-operation q x =
    short-if (nat_lt q 8) 4 _ _ (simp length-append (omega (arith, short-operator q)))
    (short-if (q == 8) 4 _ _ (omega arith) (omega arith))

-- a drawn line, and so many
short-statement : (x : ℕ) → length (statement x) ≤ 20
short-statement x = simp length-append (omega (arith, short-operation (draw 10 x) (next (next (next x)))))

short-statements : (n x : ℕ) → length (statements n x) ≤ 20 * n
unfolding statements
short-statements zero x = omega arith
short-statements (suc n) x =
    omega (
      arith,
      length-append (statement x) (statements n (after_statement x)),
      short-statement x,
      short-statements n (after_statement x),
    )

-- the first and the last lines of a function
short-opening : (i x : ℕ) → i < 100 → length (opening i x) ≤ 1300
short-opening i x few =
    simp length-append (omega (
      arith,
      length-decimal-le_succ i (omega (arith, few)),
      length-decimal-le_succ (draw 1000 x) (omega (arith, small-thousand x)),
      small-thousand x,
      few,
    ))

short-closing : (x : ℕ) → length (closing x) ≤ 200
short-closing x =
    simp length-append (omega (arith, length-decimal-le_succ (1 + draw 8 x) (omega (arith, small-eight x)), small-eight x))

-- a function, and so many
short-function : (i x : ℕ) → i < 100 → length (function i x) ≤ 2100
short-function i x few =
    let o = opening i x in
    let s = statements 30 (next x) in
    let c = closing (after_statements 30 (next x)) in
    omega (
      arith,
      length-append (o ++ s) c,
      length-append o s,
      short-opening i x few,
      short-statements 30 (next x),
      short-closing (after_statements 30 (next x)),
    )

short-functions : (n i x : ℕ) → i + n ≤ 100 → length (functions n i x) ≤ 2100 * n
unfolding functions
short-functions zero i x few = omega arith
short-functions (suc n) i x few =
    omega (
      arith,
      length-append (function i x) (functions n (suc i) (after_function x)),
      short-function i x (omega (arith, few)),
      short-functions n (suc i) (after_function x) (omega (arith, few)),
    )

-- a call, and so many
short-call : (i : ℕ) → i < 100 → length (call i) ≤ 200
short-call i few = simp length-append (omega (arith, length-decimal-le_succ i (omega (arith, few)), few))

short-calls : (n i : ℕ) → i + n ≤ 100 → length (calls n i) ≤ 200 * n
unfolding calls
short-calls zero i few = omega arith
short-calls (suc n) i few =
    omega (
      arith,
      length-append (call i) (calls n (suc i)),
      short-call i (omega (arith, few)),
      short-calls n (suc i) (omega (arith, few)),
    )

short-main : (n : ℕ) → n ≤ 100 → length (main_function n) ≤ 200 * n + 1000
short-main n few = simp length-append (omega (arith, short-calls n 0 (omega (arith, few))))

-- the text of a number
pub short : (number : ℕ) → length (generated number) < 100000
short number =
    let f = functions 40 0 number in
    let m = main_function 40 in
    omega (
      arith,
      length-append (codes "int t[64];\n" ++ f) m,
      length-append (codes "int t[64];\n") f,
      short-functions 40 0 number (omega arith),
      short-main 40 (omega arith),
    )
