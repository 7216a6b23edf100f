-- The walk over trees: every statement of a typed function is one of the constructs.
use Rattle.std.proofs.Common.{◌≡◌, ◌≢◌, ℕ, zero, suc, ◌≤◌, ◌<◌, ◌+◌, Bool, true, false, List, [], ◌∷◌, ◌++◌, length}
use Rattle.std.proofs.Common.{refl, sym, ap, ◌∙◌, subst, arith, Option, Some, None, pos}
use Rattle.std.specs.Prelude.{map, slice_set, drop, if◌then◌else◌, IfSome, IsSomeAnd, slice_get}
use Rattle.std.specs.List.{AllByRecursion}
use Rattle.std.proofs.lemmas.List.Elements.{recursion_from_All}
use Rattle.pcc_base.specs.Outcome.{ArrayName}
use Rattle.pcc_base.proofs.Lists.{all-left, all-right, all-at}
use Rattle.c_eval_laws.specs.Laws.{TreesKeep, within}
use Rattle.c_eval_laws.proofs.Agreeing.{trees_keep}
use Rattle.c_tree.specs.declared.expression.ArrayRef.{ArrayRef}
use Rattle.c_tree.specs.declared.expression.ArrayRef.TheVariants as refs
use Rattle.c_tree.specs.declared.types.IntegerType.{IntegerType}
use Rattle.c_tree.specs.declared.types.IntegerType.TheVariants.{Char, Short, Int, UnsignedInt}
use Rattle.c_tree.specs.declared.types.ValueType.{ValueType}
use Rattle.c_tree.specs.declared.types.ValueType.TheVariants.{Void, Integer, Pointer}
use Rattle.c_tree.specs.Evaluation.{Falls, Left, Returns, Runs, declare, declare_all, evaluate, execute, execute_from}
use Rattle.c_tree.specs.Evaluation.{Setting, returned, run_first, type_at, type_of}
use Rattle.c_tree.specs.Program.{int, value_type, Expression, Constant, Start, Read, Address, Unary, Binary, And, Or}
use Rattle.c_tree.specs.Program.{Conditional, Cast, Assign, Update, Step, Comma, Call, Putchar, Getchar, Exit}
use Rattle.c_tree.specs.Program.{LocalPlace}
use Rattle.c_tree.specs.Program.{Item, Scalar, Array, First, Nothing, Evaluated, Declared, Statement, Declare, Empty}
use Rattle.c_tree.specs.Program.{Evaluate, Block, If, While, Do, For, Switch, Break, Continue, Return, Statements, Done}
use Rattle.c_tree.specs.Program.{Next, Local}
use Rattle.c_tree.specs.Program as tree
use Rattle.c_tree.specs.Store as source
use Rattle.c_tree.specs.Store.{Gives, Ends, Held, HoldsNumber, HoldsPointer, and_then, converted, in_type, visited}
use Rattle.c_tree.specs.Store.{array_of, with_local, with_youngest, youngest}
use Rattle.c_tree.specs.WellTyped.{AreStatements, CanAssign, CanReturn, IsAssigned, IsCondition, IsFirst}
use Rattle.c_tree.specs.WellTyped.{AreLabels, IsItem, IsResult, IsScalar, IsStatement, IsTyped, IsTypedFunction}
use Rattle.c_tree.specs.WellTyped.{WellTyped}
use Rattle.c_tree.specs.WellTyped.{count_of, first_numbers, item_number, statement_numbers, statements_numbers}
use Rattle.flow_graph.specs.declared.op.Op.TheVariants as op
use Rattle.lower_lines.specs.Expressions.{cast_part, part_of}
use Rattle.lower_lines.specs.Following.{FollowsRun, IsSite, Lowers, LowersRun, Site, context_of}
use Rattle.lower_lines.specs.Laws.{BodiesLower, ExpressionsFollow, IsOwn, StatementsLower}
use Rattle.lower_lines.specs.Lines.{Line, Emit}
use Rattle.lower_lines.specs.Parts.{Dropped, in_type as part_in_type, operand}
use Rattle.lower_lines.specs.Statements.{Labelled, Run, ending, first_levels, first_lines, initialiser_part}
use Rattle.lower_lines.specs.Statements.{item_blocks, item_levels, item_lines, items_levels, items_lines}
use Rattle.lower_lines.specs.Statements.{levels_if_any, none_labelled, reads_none, run_of}
use Rattle.lower_lines.specs.Statements.{runs_of, zeroing}
use Rattle.lower_lines.specs.Variables.{Context}
use Rattle.lower_lines.specs.Words.{IsInMemory}
use Rattle.lower_lines.proofs.Levels.{assigned-levels, turned-levels}
use Rattle.lower_lines.proofs.Types.{part-type}
use Rattle.lower_laws.proofs.Made.{some-and}
use Rattle.lower_laws.proofs.Arrays.{assigned-integer, elements-lower}
use Rattle.lower_laws.proofs.Conditions.{conditions-lower}
use Rattle.lower_laws.proofs.Copying.{texts-lower}
use Rattle.lower_laws.proofs.Declared.{items-lower, no-items-lower, plain-scalars-lower, scalars-lower}
use Rattle.lower_laws.proofs.Declared.{steady-scalars-lower}
use Rattle.lower_laws.proofs.Looping.{dos-lower, fors-lower, whiles-lower}
use Rattle.lower_laws.proofs.Sequences.{blocks-lower, empty-blocks-lower, lasts-lower, sequences-lower}
use Rattle.lower_laws.proofs.Straight.{breaks-lower, continues-lower, dropped-lowers, empties-lower}
use Rattle.lower_laws.proofs.Straight.{evaluations-lower, plain-returns-lower, returns-lower, straight-lowers}
use Rattle.lower_laws.proofs.Switching.{switches-lower}
use Rattle.lower_laws.proofs.Ways.{from-made}
use Rattle.lower_laws.specs.Laws.{AfterLowers, TestLowers}
use Rattle.lower_laws.specs.Ways.{Keeping, LowersFrom, LowersLines}
use Rattle.lower_laws.proofs.Types.{integer-of}

-- ---- lists and runs

-- the same lines do what is the same
run-same : (S : Site) (breaks continues : Bool) (r : Run) (one other : Runs)
    → ((s : source.State) → one s ≡ other s) → LowersRun S breaks continues r one → LowersRun S breaks continues r other
run-same S breaks continues r one other same lowers = record {
  follows = λ active exits block after before s g stands room exit may b.
      subst (λ (e : source.Evaluated Left). FollowsRun S active before (r.lines exits block after) exits after s g e)
      (same s) (lowers.follows active exits block after before s g stands room exit may b);
}

-- something else is made of what is given
made-lowers : {A B : Type 0} (S : Site) (levels : ℕ) (lines : ℕ → List Line) (run : source.State → source.Evaluated A)
    (f : A → B) → LowersLines S levels lines run
    → LowersLines S levels lines (λ s. and_then (run s) (λ v t. Gives (f v) t))
made-lowers S levels lines run f lowers = record {
  follows = λ active block before s g stands room b.
      from-made S active 0 _ s g _ _ f (run s) (λ v t h o k. k) (lowers.follows active block before s g stands room b);
}

-- ---- initialisers that read no local

held-array : (s : source.State) (local : ℕ) (x : Held) (array : ArrayRef)
    → array_of (with_local local x s) array ≡ array_of s array
held-array s local x (refs.Static k) = refl
held-array s local x (refs.Frame k) = ap (λ (n : ℕ). ArrayName.InFrame k n) (by s.active)
  where
    by : (calls : List source.Activation) → length (with_youngest (record {
      values = slice_set (youngest calls).values local x;
      arrays = (youngest calls).arrays;
    }) calls) ≡ length calls
    by [] = refl
    by (a ∷ calls) = refl

steady : (S : Site) (e : Expression) → reads_none e ≡ true → (local : ℕ) (s : source.State) (x : Held) → (v : Held)
    × (evaluate S.calls e s ≡ Gives v s)
    × (evaluate S.calls e (with_local local x s) ≡ Gives v (with_local local x s))
steady S (Constant of n) is local s x = (HoldsNumber (converted of n), refl, refl)
steady S (Start element array) is local s x = (
  HoldsPointer (array_of s array) (pos 0),
  refl,
  ap (λ (a : ArrayName). Gives (HoldsPointer a (pos 0)) (with_local local x s)) (held-array s local x array),
)
steady S (Read of place) is local s x = absurd (cc)
steady S (Address element place) is local s x = absurd (cc)
steady S (Unary of operator e) is local s x = absurd (cc)
steady S (Binary of operator a b) is local s x = absurd (cc)
steady S (And a b) is local s x = absurd (cc)
steady S (Or a b) is local s x = absurd (cc)
steady S (Conditional of t a b) is local s x = absurd (cc)
steady S (Cast to e) is local s x = absurd (cc)
steady S (Assign of place e) is local s x = absurd (cc)
steady S (Update of operator place e) is local s x = absurd (cc)
steady S (Step of operator place) is local s x = absurd (cc)
steady S (Comma a b) is local s x = absurd (cc)
steady S (Call of f arguments) is local s x = absurd (cc)
steady S (Putchar e) is local s x = absurd (cc)
steady S Getchar is local s x = absurd (cc)
steady S (Exit e) is local s x = absurd (cc)

-- ---- types

not-void : (of : ValueType) → IsScalar of → of ≢ Void
not-void Void h e = h
not-void (Integer t) h e = cc
not-void (Pointer t) h e = cc

counts-same : (S : Site) (xs : Statements) → count_of xs ≡ length (runs_of (context_of S) xs)
counts-same S Done = refl
counts-same S (Next x others) = ap suc (counts-same S others)

-- ---- the function

module _ (S : Site) (site : IsSite S) (well : WellTyped S.program) (memory : IsInMemory S.program)
    (expressions : ExpressionsFollow S) (loops : ℕ) (high : S.bound ≤ loops) where
  abbrev c : Context
  c = context_of S

  abbrev W : Setting
  W = within S.calls loops S.listing (type_at S.function) S.function.result

  keeps : TreesKeep S.bound S.calls
  keeps = trees_keep S.bound S.calls site.keeps

  typed : IsTypedFunction S.program S.function
  typed = all-at (IsTypedFunction S.program) S.program.functions S.number S.function
      (recursion_from_All (IsTypedFunction S.program) S.program.functions well.functions) site.there

  of-part : (e : Expression) → IsTyped S.program S.function e → (part_of c e).of ≡ value_type e
  of-part e h = part-type S.program S.function e h

  condition : (e : Expression) → IsCondition S.program S.function e → (part_of c e).of ≢ Void
  condition e h = subst (λ (of : ValueType). of ≢ Void) (sym (of-part e h.0)) (not-void (value_type e) h.1)

  -- ---- declared items

  initialised-scalar : (n v : ℕ) (l : Local) (e : Expression) (none : Bool) → reads_none e ≡ none → IsOwn S n
      → slice_get S.function.locals v ≡ Some l → IsScalar l.of → IsAssigned S.program S.function l.of e
      → LowersLines S (part_of c e).levels (λ block. Emit (op.Mark n)
      ∷ ((if none then [] else zeroing c v) ++ (initialiser_part c v e).lines block 0 Dropped))
      (declare S.calls S.listing (type_at S.function) (Scalar n v (Some e)))
  initialised-scalar n v l e none is own at scalar assigned =
      let of : type_at S.function v ≡ l.of = ap type_of at in
      let place : IsSomeAnd (slice_get S.function.locals v) (λ m. m.of ≡ type_at S.function v) =
      subst (λ (o : Option Local). IsSomeAnd o (λ m. m.of ≡ type_at S.function v)) (sym at) (sym of) in
      let lowers = expressions (Assign (type_at S.function v) (LocalPlace v) e)
      (place, assigned.0, subst (λ (t : ValueType). CanAssign t (value_type e)) (sym of) assigned.1) in
      let low : (initialiser_part c v e).levels ≤ (part_of c e).levels =
      at-most (assigned-levels c (type_at S.function v) v (part_of c e)) in
      by none is low lowers
    where
      at-most : {a b : ℕ} → a ≡ b → a ≤ b
      at-most {a} {b} h = omega (arith, h)

      by : (none : Bool) → reads_none e ≡ none → (initialiser_part c v e).levels ≤ (part_of c e).levels
          → Lowers S (initialiser_part c v e)
          (evaluate S.calls (Assign (type_at S.function v) (LocalPlace v) e))
          → LowersLines S (part_of c e).levels (λ block. Emit (op.Mark n)
          ∷ ((if none then [] else zeroing c v) ++ (initialiser_part c v e).lines block 0 Dropped))
          (declare S.calls S.listing (type_at S.function) (Scalar n v (Some e)))
      by true is low lowers =
          steady-scalars-lower S site n v (part_of c e).levels (initialiser_part c v e) (evaluate S.calls e) own low
          lowers (λ s x. steady S e is v s x)
      by false is low lowers =
          scalars-lower S site n v (part_of c e).levels l (initialiser_part c v e) (evaluate S.calls e) own at scalar
          low
          lowers (keeps.expressions e)

  item : (x : Item) → IsItem S.program S.function x → IsOwn S (item_number x)
      → LowersLines S (item_levels c x) (item_lines c x) (declare S.calls S.listing (type_at S.function) x)
  item (Scalar n v value) h own =
      let (l, at, assigned) = some-and (slice_get S.function.locals v)
      (λ m. IfSome value (IsAssigned S.program S.function m.of)) h in
      by value l at assigned (all-at (λ (m : Local). IsScalar m.of) S.function.locals v l
      (recursion_from_All (λ (m : Local). IsScalar m.of) S.function.locals typed.locals) at)
    where
      by : (value : Option Expression) (l : Local) → slice_get S.function.locals v ≡ Some l
          → IfSome value (IsAssigned S.program S.function l.of) → IsScalar l.of
          → LowersLines S (item_levels c (Scalar n v value)) (item_lines c (Scalar n v value))
          (declare S.calls S.listing (type_at S.function) (Scalar n v value))
      by None l at assigned scalar = plain-scalars-lower S site n v l own at scalar
      by (Some e) l at assigned scalar = initialised-scalar n v l e (reads_none e) refl own at scalar assigned
  item (Array n k element value) h own = by value h
    where
      by : (value : tree.Initialiser) → IsItem S.program S.function (Array n k element value)
          → LowersLines S (item_levels c (Array n k element value)) (item_lines c (Array n k element value))
          (declare S.calls S.listing (type_at S.function) (Array n k element value))
      by (tree.Elements es) h = elements-lower S site expressions n k element es h own
      by (tree.Text object) h = texts-lower S site well memory n k element object h own

  items : (xs : List Item) → AllByRecursion (IsItem S.program S.function) xs
      → AllByRecursion (λ x. IsOwn S (item_number x)) xs
      → LowersLines S (items_levels c xs) (items_lines c xs) (declare_all S.calls S.listing (type_at S.function) xs)
  items [] h own = no-items-lower S
  items (x ∷ xs) h own =
      items-lower S (item_levels c x) (items_levels c xs) (item_blocks c x) (item_lines c x) (items_lines c xs)
      (declare S.calls S.listing (type_at S.function) x) (declare_all S.calls S.listing (type_at S.function) xs)
      (item x h.0 own.0) (keeps.items S.listing (type_at S.function) x) (items xs h.1 own.1)

  own-items : (xs : List Item) (ns : List ℕ) → AllByRecursion (IsOwn S) (map item_number xs ++ ns)
      → AllByRecursion (λ x. IsOwn S (item_number x)) xs
  own-items [] ns h = tt
  own-items (x ∷ xs) ns h = (h.0, own-items xs ns h.1)

  first : (x : First) (ns : List ℕ) → IsFirst S.program S.function x → AllByRecursion (IsOwn S) (first_numbers x ++ ns)
      → LowersLines S (first_levels c x) (first_lines c x) (run_first S.calls S.listing (type_at S.function) x)
  first Nothing ns h own = made-lowers S 0 (λ block. []) (λ s. Gives (tt {0}) s) (λ done. Falls) (no-items-lower S)
  first (Evaluated e) ns h own =
      made-lowers S (part_of c e).levels (λ block. (part_of c e).lines block 0 Dropped) (evaluate S.calls e) (λ v.
      Falls)
      (dropped-lowers S (part_of c e) (evaluate S.calls e) (expressions e h))
  first (Declared xs) ns h own =
      made-lowers S (items_levels c xs) (items_lines c xs) (declare_all S.calls S.listing (type_at S.function) xs)
      (λ done. Falls)
      (items xs (recursion_from_All (IsItem S.program S.function) xs h) (own-items xs ns own))

  -- ---- returns

  abbrev return-lines : ValueType → Option Expression → ℕ → List Line
  return-lines result None block = Emit (op.Return None) ∷ []
  return-lines result (Some e) block =
      let x = operand c true (part_in_type c result (part_of c e)) in
      x.lines block 0 ++ Emit (op.Return (Some (x.spot 0).number)) ∷ []

  abbrev return-blocks : ValueType → Option Expression → ℕ
  return-blocks result None = 0
  return-blocks result (Some e) = (operand c true (part_in_type c result (part_of c e))).blocks

  narrow-return : (breaks continues : Bool) (n : ℕ) (t : IntegerType) (e : Expression) → IsOwn S n
      → S.function.result ≡ Integer t → IsTyped S.program S.function (Cast (Integer t) e)
      → Lowers S (cast_part c (Integer t) (part_of c e)) (evaluate S.calls (Cast (Integer t) e))
      → LowersRun S breaks continues (ending (part_of c e).levels
      (operand c true (cast_part c (Integer t) (part_of c e))).blocks
      (λ exits block. Emit (op.Mark n) ∷ ((operand c true (cast_part c (Integer t) (part_of c e))).lines block 0
      ++ Emit (op.Return (Some ((operand c true (cast_part c (Integer t) (part_of c e))).spot 0).number)) ∷ [])))
      (λ s. returned (Integer t) S.calls (Some e) (visited S.listing n s))
  narrow-return breaks continues n t e own is h lowers =
      run-same S breaks continues _ _ _
      (λ s. twice (evaluate S.calls e (visited S.listing n s)))
      (returns-lower S site breaks continues n (part_of c e).levels _ t t (cast_part c (Integer t) (part_of c e))
      (evaluate S.calls (Cast (Integer t) e)) (λ v. v) own is refl (at-most (turned-levels c (Integer t) (part_of c e)))
      (λ m. refl) lowers (keeps.expressions (Cast (Integer t) e)))
    where
      at-most : {a b : ℕ} → a ≡ b → a ≤ b
      at-most {a} {b} h = omega (arith, h)

      twice : (r : source.Evaluated Held)
          → and_then (and_then r (λ v t'. Gives (in_type (Integer t) v) t')) (λ v t'. Gives (Returns (Some v)) t')
          ≡ and_then r (λ v t'. Gives (Returns (Some (in_type (Integer t) v))) t')
      twice (Gives v t') = refl
      twice (Ends end t') = refl

  return-typed : (breaks continues : Bool) (n : ℕ) (result : ValueType) (value : Option Expression) → IsOwn S n
      → S.function.result ≡ result → IsResult result → CanReturn S.program S.function result value
      → LowersRun S breaks continues (ending (levels_if_any c value) (return-blocks result value)
      (λ exits block. Emit (op.Mark n) ∷ return-lines result value block))
      (λ s. returned result S.calls value (visited S.listing n s))
  return-typed breaks continues n Void None own is may h = plain-returns-lower S site breaks continues n own is
  return-typed breaks continues n Void (Some e) own is may h = absurd h
  return-typed breaks continues n (Integer t) None own is may h = absurd h
  return-typed breaks continues n (Integer Int) (Some e) own is may h =
      let (u, of) = assigned-integer Int (value_type e) h.1 in
      returns-lower S site breaks continues n (part_of c e).levels _ Int u (part_of c e) (evaluate S.calls e)
      (in_type int) own is (of-part e h.0 ∙ of) (omega arith) (λ m. refl) (expressions e h.0) (keeps.expressions e)
  return-typed breaks continues n (Integer UnsignedInt) (Some e) own is may h =
      let (u, of) = assigned-integer UnsignedInt (value_type e) h.1 in
      returns-lower S site breaks continues n (part_of c e).levels _ UnsignedInt u (part_of c e) (evaluate S.calls e)
      (in_type int) own is (of-part e h.0 ∙ of) (omega arith) (λ m. refl) (expressions e h.0) (keeps.expressions e)
  return-typed breaks continues n (Integer Short) (Some e) own is may h =
      narrow-return breaks continues n Short e own is h (expressions (Cast (Integer Short) e) h)
  return-typed breaks continues n (Integer Char) (Some e) own is may h =
      narrow-return breaks continues n Char e own is h (expressions (Cast (Integer Char) e) h)
  return-typed breaks continues n (Pointer t) value own is may h = absurd may

  return-statement : (breaks continues : Bool) (n : ℕ) (value : Option Expression) → IsOwn S n
      → CanReturn S.program S.function S.function.result value
      → LowersRun S breaks continues (run_of c (Return n value)) (execute W (Return n value))
  return-statement breaks continues n value own h =
      by value (return-typed breaks continues n S.function.result value own refl typed.result h)
    where
      by : (value : Option Expression)
          → LowersRun S breaks continues (ending (levels_if_any c value) (return-blocks S.function.result value)
          (λ exits block. Emit (op.Mark n) ∷ return-lines S.function.result value block))
          (λ s. returned S.function.result S.calls value (visited S.listing n s))
          → LowersRun S breaks continues (run_of c (Return n value)) (execute W (Return n value))
      by None lowers = lowers
      by (Some e) lowers = lowers

  -- ---- statements

  -- a block without statements does nothing
  nothing-does : (x : Statement) → (run_of c x).nothing ≡ true → (s : source.State) → execute W x s ≡ Gives Falls s
  nothing-does (Declare x) e s = absurd (cc)
  nothing-does (Empty n) e s = absurd (cc)
  nothing-does (Evaluate n x) e s = absurd (cc)
  nothing-does (Block Done) e s = refl
  nothing-does (Block (Next x others)) e s = absurd (cc)
  nothing-does (If n x a b) e s = absurd (cc)
  nothing-does (While n x body) e s = absurd (cc)
  nothing-does (Do n body x) e s = absurd (cc)
  nothing-does (For n x test after body) e s = absurd (cc)
  nothing-does (Switch n x labels body) e s = absurd (cc)
  nothing-does (Break n) e s = absurd (cc)
  nothing-does (Continue n) e s = absurd (cc)
  nothing-does (Return n value) e s = absurd (cc)

  executing : (x : Statement) → Keeping S (execute W x)
  executing x s = keeps.statements loops S.listing (type_at S.function) S.function.result x s high

  executing-from : (xs : Statements) (place : ℕ) → Keeping S (execute_from W xs place)
  executing-from xs place s = keeps.bodies loops S.listing (type_at S.function) S.function.result xs place s high

  -- statements in order, where there are any
  abbrev SequenceOf : Bool → Bool → Labelled → ℕ → Statements → Type 0
  SequenceOf breaks continues labelled place Done = Unit {0}
  SequenceOf breaks continues labelled place (Next x others) = LowersFrom S breaks continues labelled place
      (run_of c x ∷ runs_of c others) (execute_from W (Next x others) 0)

  in-order : (breaks continues : Bool) (labelled : Labelled) (place : ℕ) (x : Statement)
      → LowersRun S breaks continues (run_of c x) (execute W x) → (others : Statements)
      → SequenceOf breaks continues labelled (suc place) others
      → SequenceOf breaks continues labelled place (Next x others)
  in-order breaks continues labelled place x lowers Done rest =
      lasts-lower S site breaks continues labelled place (run_of c x) (execute W x) lowers
  in-order breaks continues labelled place x lowers (Next y others) rest =
      sequences-lower S site breaks continues labelled place (run_of c x) (run_of c y) (runs_of c others)
      (execute W x) (execute_from W (Next y others) 0) lowers (executing x) rest

  from-start : {continues : Bool} (labelled : Labelled) (place : ℕ) (xs : Statements)
      → LowersFrom S true continues labelled (0 + place) (drop place (runs_of c xs)) (execute_from W xs place)
      → LowersFrom S true continues labelled place (drop place (runs_of c xs)) (execute_from W xs place)
  from-start {continues} labelled place xs lowers =
      let plain : 0 + place ≡ place = omega arith in
      subst (λ (k : ℕ). LowersFrom S true continues labelled k (drop place (runs_of c xs)) (execute_from W xs place))
      plain lowers

  block-of : (breaks continues : Bool) (body : Statements) → SequenceOf breaks continues none_labelled 0 body
      → LowersRun S breaks continues (run_of c (Block body)) (execute W (Block body))
  block-of breaks continues Done rest = empty-blocks-lower S site breaks continues
  block-of breaks continues (Next x others) rest =
      blocks-lower S breaks continues (run_of c x) (runs_of c others) (execute_from W (Next x others) 0) rest

  mutual
    pub statement : (breaks continues : Bool) (x : Statement) → IsStatement S.program S.function breaks continues x
        → AllByRecursion (IsOwn S) (statement_numbers x)
        → LowersRun S breaks continues (run_of c x) (execute W x)
    statement breaks continues (Declare x) h own =
        straight-lowers S site breaks continues (item_levels c x) (item_blocks c x) (item_lines c x)
        (declare S.calls S.listing (type_at S.function) x) (item x h own.0)
        (keeps.items S.listing (type_at S.function) x)
    statement breaks continues (Empty n) h own = empties-lower S site breaks continues n own.0
    statement breaks continues (Evaluate n e) h own =
        evaluations-lower S site breaks continues n (part_of c e) (evaluate S.calls e) own.0 (expressions e h)
        (keeps.expressions e)
    statement breaks continues (Block body) h own =
        block-of breaks continues body (sequence breaks continues none_labelled 0 body h own)
    statement breaks continues (If n e a b) h own =
        conditions-lower S site breaks continues n (part_of c e) (run_of c a) (run_of c b) (evaluate S.calls e)
        (execute W a) (execute W b) own.0 (condition e h.0) (expressions e h.0.0) (keeps.expressions e)
        (statement breaks continues a h.1
        (all-left (IsOwn S) (statement_numbers a) (statement_numbers b) own.1))
        (executing a)
        (statement breaks continues b h.2 (all-right (IsOwn S) (statement_numbers a) (statement_numbers b) own.1))
        (executing b) (nothing-does b)
    statement breaks continues (While n e body) h own =
        whiles-lower S site breaks continues n loops e (run_of c body) (execute W body) own.0 high
        (condition e h.0, expressions e h.0.0) (keeps.tests (Some e)) (statement true true body h.1 own.1)
        (executing body)
    statement breaks continues (Do n body e) h own =
        dos-lower S site breaks continues n loops (part_of c e) (run_of c body) (evaluate S.calls e) (execute W body)
        own.0 high (condition e h.1) (expressions e h.1.0) (keeps.tests (Some e)) (statement true true body h.0 own.1)
        (executing body)
    statement breaks continues (For n x test after body) h own =
        fors-lower S site breaks continues n loops x test after (run_of c body)
        (run_first S.calls S.listing (type_at S.function) x) (execute W body) own.0 high
        (first x (statement_numbers body) h.0 own.1) (keeps.firsts S.listing (type_at S.function) x)
        (tests test h.1) (keeps.tests test) (afters after h.2) (keeps.steps after)
        (statement true true body h.3 (all-right (IsOwn S) (first_numbers x) (statement_numbers body) own.1))
        (executing body)
      where
        tests : (test : Option Expression) → IfSome test (IsCondition S.program S.function)
            → IfSome test (TestLowers S)
        tests None h = tt
        tests (Some e) h = (condition e h, expressions e h.0)

        afters : (after : Option Expression) → IfSome after (IsTyped S.program S.function)
            → IfSome after (AfterLowers S)
        afters None h = tt
        afters (Some e) h = expressions e h
    statement breaks continues (Switch n e labels body) h own =
        let (u, of) = integer-of (value_type e) h.1 in
        switches-lower S site breaks continues n u (part_of c e) labels (runs_of c body) (evaluate S.calls e)
        (execute_from W body) own.0 (of-part e h.0 ∙ of) (expressions e h.0) (keeps.expressions e)
        (subst (λ (k : ℕ). AreLabels labels k) (counts-same S body) h.2)
        (λ labelled place within'. from-start labelled place body
        (from-place true continues labelled 0 place body within' h.3 own.1))
        (executing-from body)
    statement breaks continues (Break n) h own =
        subst (λ (b : Bool). LowersRun S b continues (run_of c (Break n)) (execute W (Break n))) (sym h)
        (breaks-lower S site continues n own.0)
    statement breaks continues (Continue n) h own =
        subst (λ (b : Bool). LowersRun S breaks b (run_of c (Continue n)) (execute W (Continue n))) (sym h)
        (continues-lower S site breaks n own.0)
    statement breaks continues (Return n value) h own =
        return-statement breaks continues n value own.0 h

    -- the statements of a body in order
    sequence : (breaks continues : Bool) (labelled : Labelled) (place : ℕ) (xs : Statements)
        → AreStatements S.program S.function breaks continues xs → AllByRecursion (IsOwn S) (statements_numbers xs)
        → SequenceOf breaks continues labelled place xs
    sequence breaks continues labelled place Done h own = tt
    sequence breaks continues labelled place (Next x others) h own =
        in-order breaks continues labelled place x
        (statement breaks continues x h.0 (all-left (IsOwn S) (statement_numbers x) (statements_numbers others) own))
        others
        (sequence breaks continues labelled (suc place) others h.1
        (all-right (IsOwn S) (statement_numbers x) (statements_numbers others) own))

    -- those from a place on
    from-place : (breaks continues : Bool) (labelled : Labelled) (base place : ℕ) (xs : Statements)
        → place < length (runs_of c xs) → AreStatements S.program S.function breaks continues xs
        → AllByRecursion (IsOwn S) (statements_numbers xs)
        → LowersFrom S breaks continues labelled (base + place) (drop place (runs_of c xs)) (execute_from W xs place)
    from-place breaks continues labelled base place Done lt h own = absurd (omega (arith, lt))
    from-place breaks continues labelled base zero (Next x others) lt h own =
        in-order breaks continues labelled (base + 0) x
        (statement breaks continues x h.0 (all-left (IsOwn S) (statement_numbers x) (statements_numbers others) own))
        others
        (sequence breaks continues labelled (suc (base + 0)) others h.1
        (all-right (IsOwn S) (statement_numbers x) (statements_numbers others) own))
    from-place breaks continues labelled base (suc place) (Next x others) lt h own =
        let sum : suc base + place ≡ base + suc place = omega arith in
        subst (λ (k : ℕ). LowersFrom S breaks continues labelled k (drop place (runs_of c others))
        (execute_from W others place)) sum
        (from-place breaks continues labelled (suc base) place others (omega (arith, lt)) h.1
        (all-right (IsOwn S) (statement_numbers x) (statements_numbers others) own))

pub statements-lower : StatementsLower
statements-lower S site well memory expressions loops high breaks continues x h own =
    statement S site well memory expressions loops high breaks continues x h
    (recursion_from_All (IsOwn S) (statement_numbers x) own)

pub bodies-lower : BodiesLower
bodies-lower S site well memory expressions loops high breaks continues xs h own =
    statement S site well memory expressions loops high breaks continues (Block xs) h
    (recursion_from_All (IsOwn S) (statements_numbers xs) own)
