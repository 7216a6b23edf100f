-- What the ops of the lines of every typed statement and function ask for is there.
use Rattle.std.proofs.Common.{◌≡◌, ◌<◌, ◌≤◌, ℕ, zero, suc, ◌+◌, ◌*◌, List, [], ◌∷◌, ◌++◌, Option, Some, None, refl, sym}
use Rattle.std.proofs.Common.{Bool, true, false}
use Rattle.std.proofs.Common.{ap, ◌∙◌, subst, arith, length, take}
use Rattle.std.specs.Prelude.{IfSome, FitsSigned, slice_get}
use Rattle.std.specs.Int.{w32}
use Rattle.std.specs.List.{AllByRecursion}
use Rattle.std.proofs.lemmas.List.Elements.{recursion_from_All}
use Rattle.c_tree.specs.declared.statement.Label.{Label}
use Rattle.c_tree.specs.declared.types.IntegerType.{IntegerType}
use Rattle.c_tree.specs.declared.types.IntegerType.TheVariants.{Char, Short, Int, UnsignedInt}
use Rattle.c_tree.specs.declared.types.ValueType.{ValueType}
use Rattle.c_tree.specs.declared.types.ValueType.TheVariants.{Void, Integer, Pointer}
use Rattle.c_tree.specs.Program.{Expression, Statement, Declare, Empty, Evaluate, Block, If, While, Do, For, Switch}
use Rattle.c_tree.specs.Program.{Break, Continue, Return, Statements, Done, Next, Local, Function, Program}
use Rattle.c_tree.specs.Program.{value_type}
use Rattle.c_tree.specs.WellTyped.{AreStatements, CanReturn, IsResult, IsStatement, IsTypedFunction, count_of}
use Rattle.flow_graph.specs.declared.op.Op.TheVariants as op
use Rattle.lower_lines.specs.Expressions.{part_of}
use Rattle.lower_lines.specs.Lines.{Emit}
use Rattle.lower_lines.specs.Parts.{Dropped, Part, in_type, operand}
use Rattle.lower_lines.specs.Programs.{blocks_of_function, body_run, lines_of_function, no_exits, parameter_of}
use Rattle.lower_lines.specs.Programs.{parameters_lines, words_in}
use Rattle.lower_lines.specs.Statements.{Leaves, Run, dropped_lines, first_blocks, first_lines, item_blocks}
use Rattle.lower_lines.specs.Statements.{item_levels, item_lines, levels_if_any, none_labelled, returned_blocks}
use Rattle.lower_lines.specs.Statements.{returned_lines, run_of, runs_of}
use Rattle.lower_lines.specs.Variables.{Context, ForNumber, local_spot}
use Rattle.lower_lines.specs.Words.{HasWords, StatementHasWords, StatementsHaveWords}
use Rattle.lower_lines.proofs.Levels.{turned-levels}
use Rattle.lower_lines.proofs.Types.{part-type}
use Rattle.lower_laws.specs.FitsLaws.{Room}
use Rattle.lower_laws.proofs.FitsCompound.{assign-becomes, Becomes, turned-part}
use Rattle.lower_laws.proofs.FitsParts.{number-there, operand-fit}
use Rattle.lower_laws.proofs.Pieces.{Fit, blocks_in, byte-holds, context_in, fit-then, levels_in, local-holds, temp}
use Rattle.lower_laws.proofs.Statements.{FitsRun, do-run, ending-run, expr, first-fit, if-run, item-fit, loop-fit}
use Rattle.lower_laws.proofs.Statements.{none-labels, sequence-alike', sequence-fit, straight-run, switch-run}
use Rattle.lower_laws.proofs.Types.{integer-of}
use Rattle.lower_laws.proofs.Passing.{get-take}

take-few : {X : Type 0} (n : ℕ) (xs : List X) → length (take n xs) ≤ n
take-few zero xs = omega arith
take-few (suc n) [] = omega arith
take-few (suc n) (x ∷ xs) = let h = take-few n xs in omega (arith, h)

module _ (R : Room) (functions : AllByRecursion (IsTypedFunction R.program) R.program.functions)
    (typed : IsTypedFunction R.program R.function)
    (counts : AllByRecursion (λ a. a.count ≤ 0x7fffffff) R.function.arrays) where
  abbrev p : Program
  p = R.program

  abbrev f : Function
  f = R.function

  abbrev c : Context
  c = context_in R

  abbrev L : ℕ
  L = levels_in R

  abbrev B : ℕ
  B = blocks_in R

  some-level : 0 < L
  some-level = omega arith

  -- ---- returns

  integer-in : (t : IntegerType) (a : Part) → Becomes (Integer t) a.of → (u : IntegerType)
      × ((in_type c (Integer t) a).of ≡ Integer u)
  integer-in Char a h = (Char, refl)
  integer-in Short a h = (Short, refl)
  integer-in Int a h = integer-of a.of h
  integer-in UnsignedInt a h = integer-of a.of h

  returned-in : (result : ValueType) → IsResult result → (e : Expression) → CanReturn p f result (Some e) → HasWords e
      → (block : ℕ) → (part_of c e).levels ≤ L
      → block + (operand c true (in_type c result (part_of c e))).blocks ≤ B
      → Fit R ((operand c true (in_type c result (part_of c e))).lines block 0
      ++ Emit (op.Return (Some ((operand c true (in_type c result (part_of c e))).spot 0).number)) ∷ [])
  returned-in Void is e h words block room more = absurd h
  returned-in (Pointer t) is e h words block room more = absurd is
  returned-in (Integer t) is e h words block room more =
      let a = in_type c (Integer t) (part_of c e) in
      let becomes = subst (λ (s : ValueType). Becomes (Integer t) s) (sym (part-type p f e h.0))
      (assign-becomes (Integer t) (value_type e) h.1) in
      let k = turned-part R (Integer t) (part_of c e) becomes (expr R functions typed counts e h.0 words) in
      let (u, of) = integer-in t (part_of c e) becomes in
      let low = turned-levels c (Integer t) (part_of c e) in
      fit-then R ((operand c true a).lines block 0) _ (operand-fit R true a k block 0 (omega (arith, room, low)) more)
      (((number-there R true a u of k 0 some-level, tt), tt), tt)

  returned-fit : (value : Option Expression) → CanReturn p f f.result value → IfSome value HasWords → (block : ℕ)
      → levels_if_any c value ≤ L → block + returned_blocks c value ≤ B → Fit R (returned_lines c value block)
  returned-fit None h words block room more = ((tt, tt), tt)
  returned-fit (Some e) h words block room more = returned-in f.result typed.result e h words block room more

  -- ---- every statement

  counts-same : (xs : Statements) → count_of xs ≡ length (runs_of c xs)
  counts-same Done = refl
  counts-same (Next x others) = ap suc (counts-same others)

  abbrev F : Run → Type 0
  F r = FitsRun R functions typed counts r

  mutual
    pub run-fits : (breaks continues : Bool) (x : Statement) → IsStatement p f breaks continues x → StatementHasWords x
        → F (run_of c x)
    run-fits breaks continues (Declare item) h words =
        straight-run R functions typed counts (item_levels c item) (item_blocks c item) (item_lines c item)
        (λ block room more. item-fit R functions typed counts item block h words room more)
    run-fits breaks continues (Empty n) h words =
        straight-run R functions typed counts 0 0 (λ block. Emit (op.Mark n) ∷ []) (λ block room more. ((tt, tt), tt))
    run-fits breaks continues (Evaluate n e) h words =
        straight-run R functions typed counts _ _ (λ block. Emit (op.Mark n) ∷ dropped_lines c e block)
        (λ block room more. (
          (tt, tt),
          (expr R functions typed counts e h words).fits block 0 Dropped (omega (arith, room)) more tt,
        ))
    run-fits breaks continues (Block body) h words =
        let hs = runs-fit breaks continues body h words in
        record {
          fits = λ exits block after room more into go. sequence-fit R functions typed counts none_labelled 0
              (length (runs_of c body)) (runs_of c body) hs (omega arith)
              (none-labels R functions typed counts 0 (length (runs_of c body))) exits block after room more into go;
          alike = λ other. sequence-alike' R functions typed counts 0 (runs_of c body) hs other;
        }
    run-fits breaks continues (If n e a b) h words =
        if-run R functions typed counts n (part_of c e) (run_of c a) (run_of c b)
        (expr R functions typed counts e h.0.0 words.0) (run-fits breaks continues a h.1 words.1)
        (run-fits breaks continues b h.2 words.2)
    run-fits breaks continues (While n e s) h words =
        let body = run-fits true true s h.1 words.1 in
        record {
          fits = λ exits block after room more into go. (
            (tt, tt),
            loop-fit R functions typed counts (Some e) None (run_of c s) h.0 words.0 tt tt body block after room more
                go,
          );
          alike = λ other. refl;
        }
    run-fits breaks continues (Do n s e) h words =
        do-run R functions typed counts n (run_of c s) (part_of c e) (run-fits true true s h.0 words.0)
        (expr R functions typed counts e h.1.0 words.1)
    run-fits breaks continues (For n first test after s) h words =
        let body = run-fits true true s h.3 words.3 in
        record {
          fits = λ exits block leave room more into go. (
            (tt, tt),
            fit-then R (first_lines c first block) _
                (first-fit R functions typed counts first block h.0 words.0 (omega (arith, room)) (omega (arith, more)))
                (loop-fit R functions typed counts test after (run_of c s) h.1 words.1 h.2 words.2 body
                (block + first_blocks c first) leave (omega (arith, room)) (omega (arith, more)) go),
          );
          alike = λ other. refl;
        }
    run-fits breaks continues (Switch n e labels body) h words =
        let (u, of) = integer-of (value_type e) h.1 in
        let inside = recursion_from_All (λ (label : Label). label.before < count_of body) labels h.2.inside in
        switch-run R functions typed counts n (part_of c e) u labels (runs_of c body) (part-type p f e h.0 ∙ of)
        (expr R functions typed counts e h.0 words.0) (runs-fit true continues body h.3 words.2)
        (subst (λ (m : ℕ). AllByRecursion (λ label. label.before < m) labels) (counts-same body) inside)
        (recursion_from_All (λ (label : Label). IfSome label.value (FitsSigned w32)) labels words.1)
    run-fits breaks continues (Break n) h words =
        ending-run R functions typed counts 0 0 (λ exits block. Emit (op.Mark n) ∷ Emit (op.Jump exits.breaks) ∷ [])
        (λ exits block room more into. ((tt, tt), (((into.0, tt), tt), tt)))
    run-fits breaks continues (Continue n) h words =
        ending-run R functions typed counts 0 0 (λ exits block. Emit (op.Mark n) ∷ Emit (op.Jump exits.continues) ∷ [])
        (λ exits block room more into. ((tt, tt), (((into.1, tt), tt), tt)))
    run-fits breaks continues (Return n value) h words =
        ending-run R functions typed counts _ _ (λ exits block. Emit (op.Mark n) ∷ returned_lines c value block)
        (λ exits block room more into. ((tt, tt), returned-fit value h words block room more))

    runs-fit : (breaks continues : Bool) (xs : Statements) → AreStatements p f breaks continues xs
        → StatementsHaveWords xs → AllByRecursion F (runs_of c xs)
    runs-fit breaks continues Done h words = tt
    runs-fit breaks continues (Next x others) h words =
        (run-fits breaks continues x h.0 words.0, runs-fit breaks continues others h.1 words.1)

  -- ---- functions

  parameter-fit : (k word : ℕ) (l : Local) → slice_get f.locals k ≡ Some l → (of : ValueType) → l.of ≡ of
      → word + 1 < 0x1_0000_0000 → Fit R (parameter_of c of (local_spot c k) word)
  parameter-fit k word l at Void e few = tt
  parameter-fit k word l at (Integer Char) e few =
      let y = temp R 0 ForNumber some-level in
      (((y, tt), omega (arith, few)), (((byte-holds R k l at e, (y, tt)), tt), tt))
  parameter-fit k word l at (Integer Short) e few =
      let y = temp R 0 ForNumber some-level in
      (((y, tt), omega (arith, few)), (((local-holds R k l (Integer Short) at e tt, (y, tt)), tt), tt))
  parameter-fit k word l at (Integer Int) e few =
      (((local-holds R k l (Integer Int) at e tt, tt), omega (arith, few)), tt)
  parameter-fit k word l at (Integer UnsignedInt) e few =
      (((local-holds R k l (Integer UnsignedInt) at e tt, tt), omega (arith, few)), tt)
  parameter-fit k word l at (Pointer t) e few =
      let h = local-holds R k l (Pointer t) at e tt in
      (((h.0, tt), omega (arith, few)), (((h.1, tt), omega (arith, few)), tt))

  two-words : (of : ValueType) → words_in of ≤ 2
  two-words Void = omega arith
  two-words (Integer t) = omega arith
  two-words (Pointer t) = omega arith

  parameters-fit : (ls : List Local) (k word : ℕ)
      → ((j : ℕ) (l : Local) → slice_get ls j ≡ Some l → slice_get f.locals (k + j) ≡ Some l)
      → word + 2 * length ls < 0x1_0000_0000 → Fit R (parameters_lines c ls k word)
  parameters-fit [] k word inside few = tt
  parameters-fit (l ∷ ls) k word inside few =
      let plain : k + 0 ≡ k = omega arith in
      let at = subst (λ (n : ℕ). slice_get f.locals n ≡ Some l) plain (inside 0 l refl) in
      let words = two-words l.of in
      fit-then R (parameter_of c l.of (local_spot c k) word) _
      (parameter-fit k word l at l.of refl (omega (arith, few)))
      (parameters-fit ls (suc k) (word + words_in l.of)
      (λ j m e. let next : k + suc j ≡ suc k + j = omega arith in
      subst (λ (n : ℕ). slice_get f.locals n ≡ Some m) next (inside (suc j) m e)) (omega (arith, few, words)))

  pub function-fits : StatementsHaveWords f.body → f.parameters ≤ 0x10000 → (body_run c).levels ≤ L
      → B ≡ blocks_of_function c → Fit R (lines_of_function c)
  function-fits words few room many =
      let hs = runs-fit false false f.body typed.body words in
      let low = take-few f.parameters f.locals in (
        (tt, tt),
        fit-then R (parameters_lines c (take f.parameters f.locals) 0 0) _
            (parameters-fit (take f.parameters f.locals) 0 0
            (λ j l e. let plain : j ≡ 0 + j = omega arith in
            subst (λ (n : ℕ). slice_get f.locals n ≡ Some l) plain (get-take f.parameters f.locals j l e))
            (omega (arith, few, low)))
            (sequence-fit R functions typed counts none_labelled 0 (length (runs_of c f.body)) (runs_of c f.body) hs
            (omega arith) (none-labels R functions typed counts 0 (length (runs_of c f.body))) no_exits 1 Leaves room
            (omega (arith, many)) (omega (arith, many), omega (arith, many)) tt),
      )
