-- The evaluation of each tree beside the same one with more turns, where the calls are such.
use Rattle.std.proofs.Common.{◌≡◌, ℕ, zero, suc, ◌+◌, ◌≤◌, pos, List, [], ◌∷◌, Option, Some, None}
use Rattle.std.proofs.Common.{refl, ap, arith}
use Rattle.pcc_base.specs.Outcome.{Ended, ArrayName, Static, Listing}
use Rattle.c_tree.specs.declared.types.IntegerType.{IntegerType}
use Rattle.c_tree.specs.declared.types.IntegerType.TheVariants.{Int}
use Rattle.c_tree.specs.declared.types.ValueType.{ValueType}
use Rattle.c_tree.specs.declared.types.ValueType.TheVariants.{Integer}
use Rattle.c_tree.specs.declared.expression.ArrayRef.{ArrayRef}
use Rattle.c_tree.specs.declared.expression.ArrayRef.TheVariants as refs
use Rattle.c_tree.specs.declared.expression.BinaryOp.TheVariants.{Add}
use Rattle.c_tree.specs.Evaluation.{AtIndex, Calls, evaluate, locate, evaluate_all, fill}
use Rattle.c_tree.specs.Evaluation.{text_then_zeros, initialise, initialise_local, zeroed, Types, own_array, declare}
use Rattle.c_tree.specs.Evaluation.{declare_all, Runs, tested, tested_if_any}
use Rattle.c_tree.specs.Evaluation.{evaluated_if_any, run_first, returned, switched, none_or_from, execute}
use Rattle.c_tree.specs.Evaluation.{execute_from, Setting}
use Rattle.c_tree.specs.Evaluation.{low_byte}
use Rattle.c_tree.specs.Operators.{binary_value, is_true, step_op, step_type, working_type}
use Rattle.c_tree.specs.Program.{Expression, Constant, Start, Read, Address, Unary, Binary, And, Or, Conditional, Cast}
use Rattle.c_tree.specs.Program.{Assign, Update, Step, Comma, Call, Putchar, Getchar, Exit, Place, LocalPlace}
use Rattle.c_tree.specs.Program.{StaticPlace, Target, Element, Arguments, NoMore, Argument, Initialiser, Elements, Text}
use Rattle.c_tree.specs.Program.{Item, Scalar, Array, First, Nothing, Evaluated as EvaluatedFirst, Declared, Statement}
use Rattle.c_tree.specs.Program.{Declare, Empty, Evaluate, Block, If, While, Do, For, Switch, Break, Continue, Return}
use Rattle.c_tree.specs.Program.{Statements, Done, Next, value_type}
use Rattle.c_tree.specs.Store.{HoldsNumber, HoldsPointer, in_type, zero_of, State, with_local}
use Rattle.c_tree.specs.Store.{array_named, with_array, array_of, visited, Evaluated}
use Rattle.c_eval_laws.specs.Bounds.{with_more, Extending, CallsExtend}
use Rattle.c_eval_laws.specs.Laws.{within}
use Rattle.c_eval_laws.proofs.After.{Follows, follows-same, follows-then, local-follows, array-follows, length-text}
use Rattle.c_eval_laws.proofs.After.{length-zeroed, visit-follows}
use Rattle.c_eval_laws.proofs.Keeping.{follows-keeps}
use Rattle.c_eval_laws.proofs.Extending.{gives-both, same-both, ends-both, then-both, either-both, with_array-more}
use Rattle.c_eval_laws.proofs.Extending.{array-more, load-both, store-both, computed-both, put-both, get-both}
use Rattle.c_eval_laws.proofs.Extending.{updated-both}
use Rattle.c_eval_laws.proofs.Extending.{before-both, statement-both, switch-both, loop-both, do-both}

-- the array that a function names, whatever turns are left
reference-more : (d : ℕ) (s : State) (array : ArrayRef) → array_of (with_more d s) array ≡ array_of s array
reference-more d s (refs.Static k) = refl
reference-more d s (refs.Frame k) = refl

-- a text's elements in an array
abbrev with_text : ArrayName → ℕ → State → State
with_text array object s = with_array array (text_then_zeros (array_named s array) (array_named s (Static object))) s

-- the same, whatever turns are left
text-more : (d : ℕ) (s : State) (array : ArrayName) (object : ℕ)
    → with_text array object (with_more d s) ≡ with_more d (with_text array object s)
text-more d s array object = rw array-more (with_array-more d s array _)

module _ (k d : ℕ) (calls others : Calls) (h : CallsExtend k d calls others) where
  mutual
    -- an expression is evaluated
    pub expression-both : (e : Expression) → Extending k d (evaluate calls e) (evaluate others e)
    expression-both (Constant of n) = same-both
    expression-both (Start element array) = gives-both (λ s. HoldsPointer (array_of s array) (pos 0)) (λ s. s)
        follows-same (λ s. ap (λ (a : ArrayName). HoldsPointer a (pos 0)) (reference-more d s array)) (λ s. refl)
    expression-both (Read of place) = then-both (place-both place) (load-both)
    expression-both (Address element place) = then-both (place-both place) (λ found. same-both)
    expression-both (Unary of op e) = then-both (expression-both e) (λ v. same-both)
    expression-both (Binary of op a b) =
        then-both (expression-both a) (λ x.
        then-both (expression-both b) (λ y.
        computed-both (binary_value (working_type op (value_type a) (value_type b)) op x y)))
    expression-both (And a b) =
        then-both (expression-both a) (λ x. either-both (is_true x)
        (then-both (expression-both b) (λ y. same-both)) same-both)
    expression-both (Or a b) =
        then-both (expression-both a) (λ x. either-both (is_true x) same-both
        (then-both (expression-both b) (λ y. same-both)))
    expression-both (Conditional of t a b) =
        then-both (expression-both t) (λ v.
        then-both (either-both (is_true v) (expression-both a) (expression-both b)) (λ x. same-both))
    expression-both (Cast to e) = then-both (expression-both e) (λ v. same-both)
    expression-both (Assign of place e) =
        then-both (place-both place) (λ found.
        then-both (expression-both e) (λ v. store-both found (in_type of v)))
    expression-both (Update of op place e) =
        then-both (place-both place) (λ found.
        then-both (load-both found) (λ old.
        then-both (expression-both e) (updated-both of (working_type op of (value_type e)) op found old)))
    expression-both (Step of op place) =
        then-both (place-both place) (λ found.
        then-both (load-both found) (λ old.
        then-both (updated-both of (step_type op of) (step_op op) found old (HoldsNumber (pos 1))) (λ new. same-both)))
    expression-both (Comma a b) = then-both (expression-both a) (λ x. expression-both b)
    expression-both (Call of f arguments) = then-both (arguments-both arguments) (h f)
    expression-both (Putchar e) = then-both (expression-both e) (put-both)
    expression-both Getchar = get-both
    expression-both (Exit e) = then-both (expression-both e) (λ v. ends-both (Ended (low_byte v)) (λ i. cc))

    -- a place is found
    pub place-both : (place : Place) → Extending k d (locate calls place) (locate others place)
    place-both (LocalPlace v) = same-both
    place-both (StaticPlace object) = same-both
    place-both (Target element e) = then-both (expression-both e) (λ v. same-both)
    place-both (Element element a i) =
        then-both (expression-both a) (λ x.
        then-both (expression-both i) (λ y.
        then-both (computed-both (binary_value Int Add x y)) (λ v. same-both)))

    -- arguments are evaluated, in order
    pub arguments-both : (arguments : Arguments) → Extending k d (evaluate_all calls arguments)
        (evaluate_all others arguments)
    arguments-both NoMore = same-both
    arguments-both (Argument e es) =
        then-both (expression-both e) (λ v. then-both (arguments-both es) (λ vs. same-both))

  -- ---- declared items

  -- the elements of an array are initialised, from one on
  pub fill-both : (array : ArrayName) (element : IntegerType) (i : ℕ) (es : List Expression)
      → Extending k d (fill calls array element i es) (fill others array element i es)
  fill-both array element i [] = same-both
  fill-both array element i (e ∷ es) =
      then-both (expression-both e) (λ v.
      then-both (store-both (AtIndex array (pos i)) (in_type (Integer element) v)) (λ stored.
      fill-both array element (suc i) es))

  -- an array is initialised
  pub initialiser-both : (array : ArrayName) (element : IntegerType) (value : Initialiser)
      → Extending k d (initialise calls array element value) (initialise others array element value)
  initialiser-both array element (Elements first) = fill-both array element 0 first
  initialiser-both array element (Text object) = gives-both (λ s. tt) (with_text array object)
      (λ s. array-follows array _ s (length-text (array_named s array) (array_named s (Static object)))) (λ s. refl)
      (λ s. text-more d s array object)

  -- a local is initialised
  pub local-both : (local : ℕ) (of : ValueType) (value : Option Expression)
      → Extending k d (initialise_local calls local of value) (initialise_local others local of value)
  local-both local of None = same-both
  local-both local of (Some e) = then-both (expression-both e) (λ v.
      gives-both (λ s. tt) (with_local local (in_type of v)) (local-follows local (in_type of v)) (λ s. refl)
      (λ s. refl))

  -- an item is declared
  pub item-both : (listing : Listing) (types : Types) (item : Item)
      → Extending k d (declare calls listing types item) (declare others listing types item)
  item-both listing types (Scalar number local value) =
      before-both (λ s. with_local local (zero_of (types local)) (visited listing number s))
      (λ s. follows-then s (visited listing number s) _ (visit-follows listing number s)
      (local-follows local (zero_of (types local)) (visited listing number s)))
      (λ s. refl) (local-both local (types local) value)
  item-both listing types (Array number array element value) =
      let change : State → State = λ s. with_array (own_array s array) (zeroed (array_named s (own_array s array)))
      (visited listing number s) in
      let follows : (s : State) → Follows s (change s) = λ s.
      follows-then s (visited listing number s) (change s) (visit-follows listing number s)
      (array-follows (own_array s array) (zeroed (array_named s (own_array s array))) (visited listing number s)
      (length-zeroed (array_named s (own_array s array)))) in
      record {
        keeps = λ s. follows-keeps k s (change s) (follows s)
            ((initialiser-both (own_array s array) element value).keeps (change s));
        keeps_too = λ s. follows-keeps 0 s (change s) (follows s)
            ((initialiser-both (own_array s array) element value).keeps_too (change s));
        extends = λ s lt. let le = (follows s).after.turns in
            (initialiser-both (own_array s array) element value).extends (change s) (omega (arith, le, lt));
      }

  -- items are declared, in order
  pub items-both : (listing : Listing) (types : Types) (items : List Item)
      → Extending k d (declare_all calls listing types items) (declare_all others listing types items)
  items-both listing types [] = same-both
  items-both listing types (item ∷ items) =
      then-both (item-both listing types item) (λ done. items-both listing types items)

  -- ---- the parts of statements

  -- a test is evaluated
  pub test-both : (e : Expression) → Extending k d (tested calls e) (tested others e)
  test-both e = then-both (expression-both e) (λ v. same-both)

  -- a test, or none
  pub any-test-both : (test : Option Expression) → Extending k d (tested_if_any calls test) (tested_if_any others test)
  any-test-both None = same-both
  any-test-both (Some e) = test-both e

  -- an expression, or none
  pub any-both : (value : Option Expression)
      → Extending k d (evaluated_if_any calls value) (evaluated_if_any others value)
  any-both None = same-both
  any-both (Some e) = then-both (expression-both e) (λ v. same-both)

  -- the first part of a `for`
  pub first-both : (listing : Listing) (types : Types) (first : First)
      → Extending k d (run_first calls listing types first) (run_first others listing types first)
  first-both listing types Nothing = same-both
  first-both listing types (EvaluatedFirst e) = then-both (expression-both e) (λ v. same-both)
  first-both listing types (Declared items) = then-both (items-both listing types items) (λ done. same-both)

  -- a `return`
  pub return-both : (result : ValueType) (value : Option Expression)
      → Extending k d (returned result calls value) (returned result others value)
  return-both result None = same-both
  return-both result (Some e) = then-both (expression-both e) (λ v. same-both)

  -- statements from a place on, where there is one
  from-both : (place : Option ℕ) (from from' : ℕ → Runs) → ((n : ℕ) → Extending k d (from n) (from' n))
      → Extending k d (none_or_from place from) (none_or_from place from')
  from-both None from from' each = same-both
  from-both (Some n) from from' each = each n

  -- ---- statements

  module _ (bound other : ℕ) (le : k ≤ bound) (le' : k + d ≤ other) (listing : Listing) (types : Types)
      (result : ValueType) where
    -- the visit of a statement first
    visit-both : {A : Type 0} {f g : State → Evaluated A} (statement : ℕ) → Extending k d f g
        → Extending k d (λ s. f (visited listing statement s)) (λ s. g (visited listing statement s))
    visit-both statement = before-both (visited listing statement) (visit-follows listing statement) (λ s. refl)

    -- the settings of both
    abbrev one : Setting
    one = within calls bound listing types result

    abbrev two : Setting
    two = within others other listing types result

    mutual
      -- a statement is executed
      pub statement_both : (x : Statement)
          → Extending k d (execute one x) (execute two x)
      statement_both (Declare item) = then-both (item-both listing types item) (λ done. same-both)
      statement_both (Empty n) = visit-both n same-both
      statement_both (Evaluate n e) = visit-both n (then-both (expression-both e) (λ v. same-both))
      statement_both (Block body) = statements_both body 0
      statement_both (If n e a b) =
          visit-both n (then-both (test-both e) (λ holds. either-both holds (statement_both a) (statement_both b)))
      statement_both (While n e body) =
          visit-both n (loop-both bound other k d _ _ _ _ _ _ le le' (test-both e) (statement_both body)
          same-both)
      statement_both (Do n body e) =
          visit-both n (do-both bound other k d _ _ _ _ le le' (test-both e) (statement_both body))
      statement_both (For n first test after body) =
          visit-both n (then-both (first-both listing types first) (λ done.
          loop-both bound other k d _ _ _ _ _ _ le le' (any-test-both test) (statement_both body) (any-both after)))
      statement_both (Switch n e labels body) =
          visit-both n (then-both (expression-both e) (λ v.
          then-both (from-both (switched labels v) _ _ (statements_both body)) (switch-both)))
      statement_both (Break n) = visit-both n same-both
      statement_both (Continue n) = visit-both n same-both
      statement_both (Return n value) = visit-both n (return-both result value)

      -- statements are executed, from a place on
      pub statements_both : (xs : Statements) (place : ℕ)
          → Extending k d (execute_from one xs place)
          (execute_from two xs place)
      statements_both Done place = same-both
      statements_both (Next first rest) zero =
          then-both (statement_both first) (statement-both (statements_both rest 0))
      statements_both (Next first rest) (suc place) = statements_both rest place
