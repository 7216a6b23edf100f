-- How many functions, statements and elements a program in memory has.
use Rattle.std.proofs.Common.{◌≡◌, ◌≤◌, ℕ, zero, suc, ◌+◌, ◌*◌, List, [], ◌∷◌, Some, ap}
use Rattle.std.proofs.Common.{arith, length, take}
use Rattle.std.specs.Prelude.{◌/◌, slice_get, sum_by}
use Rattle.std.specs.List.{AllByRecursion}
use Rattle.std.proofs.lemmas.List.Sums.{sum_by-cons}
use Rattle.c_tree.specs.declared.types.IntegerType.{IntegerType}
use Rattle.c_tree.specs.declared.types.IntegerType.TheVariants.{Char, Short, Int, UnsignedInt}
use Rattle.c_tree.specs.Program.{First, Nothing, Evaluated, Declared, Item, Scalar, Array, Statement, Declare, Empty}
use Rattle.c_tree.specs.Program.{Evaluate, Block, If, While, Do, For, Switch, Break, Continue, Return, Statements, Done}
use Rattle.c_tree.specs.Program.{Next, Function, LocalArray}
use Rattle.c_tree.specs.Sizes.{array_bytes, bytes_of, first_size, function_size, item_size, statement_size}
use Rattle.c_tree.specs.Sizes.{statements_size}
use Rattle.lower_lines.specs.Lowering.{first_statement}
use Rattle.lower_lines.specs.Shown.{numbers_in, numbers_in_first, numbers_of}

-- ---- statements

item-some : (item : Item) → 1 ≤ item_size item
item-some (Scalar n v value) = omega arith
item-some (Array n k element value) = omega arith

items-small : (items : List Item) → length items ≤ sum_by item_size items
items-small [] = omega arith
items-small (item ∷ items) =
    let s = sum_by-cons item_size item items in
    let one = item-some item in
    let h = items-small items in
    omega (arith, s, one, h)

first-small : (first : First) → numbers_in_first first ≤ first_size first
first-small Nothing = omega arith
first-small (Evaluated e) = omega arith
first-small (Declared items) = items-small items

mutual
  statement-small : (x : Statement) → numbers_in x ≤ statement_size x
  statement-small (Declare item) = item-some item
  statement-small (Empty n) = omega arith
  statement-small (Evaluate n e) = omega arith
  statement-small (Block body) = statements-small body
  statement-small (If n e a b) =
      let h = statement-small a in let k = statement-small b in omega (arith, h, k)
  statement-small (While n e s) = let h = statement-small s in omega (arith, h)
  statement-small (Do n s e) = let h = statement-small s in omega (arith, h)
  statement-small (For n first test after s) =
      let h = statement-small s in let k = first-small first in omega (arith, h, k)
  statement-small (Switch n e labels body) = let h = statements-small body in omega (arith, h)
  statement-small (Break n) = omega arith
  statement-small (Continue n) = omega arith
  statement-small (Return n value) = omega arith

  pub statements-small : (xs : Statements) → numbers_of xs ≤ statements_size xs
  statements-small Done = omega arith
  statements-small (Next x others) =
      let h = statement-small x in let k = statements-small others in omega (arith, h, k)

-- ---- functions

same-some : (x y : Function) → Some x ≡ Some y → x ≡ y
same-some x y e = cc

pub function-small : (fs : List Function) (k : ℕ) (f : Function) → slice_get fs k ≡ Some f
    → function_size f ≤ sum_by function_size fs
function-small [] k f e = absurd (cc)
function-small (g ∷ fs) zero f e =
    let s = sum_by-cons function_size g fs in
    let same = ap function_size (same-some g f e) in
    omega (arith, s, same)
function-small (g ∷ fs) (suc k) f e =
    let s = sum_by-cons function_size g fs in
    let h = function-small fs k f e in
    omega (arith, s, h)

pub functions-few : (fs : List Function) → length fs ≤ sum_by function_size fs
functions-few [] = omega arith
functions-few (g ∷ fs) =
    let s = sum_by-cons function_size g fs in
    let h = functions-few fs in
    omega (arith, s, h)

abbrev numbered : Function → ℕ
numbered f = numbers_of f.body

-- the number of every statement is below the size of the program
pub numbers-small : (fs : List Function) (k : ℕ) (f : Function) → slice_get fs k ≡ Some f
    → first_statement fs k + numbers_of f.body ≤ sum_by function_size fs
numbers-small [] k f e = absurd (cc)
numbers-small (g ∷ fs) zero f e =
    let s = sum_by-cons function_size g fs in
    let same = ap numbered (same-some g f e) in
    let h = statements-small g.body in
    omega (arith, s, same, h)
numbers-small (g ∷ fs) (suc k) f e =
    let s = sum_by-cons function_size g fs in
    let s' = sum_by-cons numbered g (take k fs) in
    let h = statements-small g.body in
    let others = numbers-small fs k f e in
    omega (arith, s, s', h, others)

-- ---- elements

pub count-small : (t : IntegerType) (n : ℕ) → n ≤ (n * bytes_of t + 3) / 4 * 4
count-small Char n = omega arith
count-small Short n = omega arith
count-small Int n = omega arith
count-small UnsignedInt n = omega arith

pub counts-small : (arrays : List LocalArray) (n : ℕ) → sum_by array_bytes arrays ≤ n → n ≤ 0x7fffffff
    → AllByRecursion (λ a. a.count ≤ 0x7fffffff) arrays
counts-small [] n h k = tt
counts-small (a ∷ arrays) n h k =
    let s = sum_by-cons array_bytes a arrays in
    let one = count-small a.element a.count in (
      omega (arith, s, one, h, k),
      counts-small arrays n (omega (arith, s, h)) k,
    )
