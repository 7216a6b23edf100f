-- Sets of the lines of every typed item and statement: at each statement every local may be used.
use Rattle.std.proofs.Common.{◌≡◌, ◌<◌, ℕ, suc, ◌+◌, true, Bool, List, [], ◌∷◌, ◌++◌, Option, Some, None, refl, sym, ap}
use Rattle.std.proofs.Common.{◌∙◌, subst, length}
use Rattle.std.specs.Prelude.{IfSome, IsSomeAnd, slice_get}
use Rattle.std.specs.List.{AllByRecursion, range_with_len}
use Rattle.std.proofs.lemmas.List.Elements.{recursion_from_All}
use Rattle.c_tree.specs.declared.statement.Label.{Label}
use Rattle.c_tree.specs.declared.types.IntegerType.{IntegerType}
use Rattle.c_tree.specs.declared.types.IntegerType.TheVariants.{Char, Short, Int, UnsignedInt}
use Rattle.c_tree.specs.declared.types.ValueType.{ValueType}
use Rattle.c_tree.specs.declared.types.ValueType.TheVariants.{Void, Integer, Pointer}
use Rattle.c_tree.specs.Evaluation.{type_at, type_of}
use Rattle.c_tree.specs.Program.{Expression, Initialiser, Elements, Text, Item, Scalar, Array, First, Nothing}
use Rattle.c_tree.specs.Program.{Evaluated, Declared, Statement, Declare, Empty, Evaluate, Block, If, While, Do, For}
use Rattle.c_tree.specs.Program.{Switch, Break, Continue, Return, Statements, Done, Next, LocalPlace, Local, LocalArray}
use Rattle.c_tree.specs.Program.{Function, Program, value_type}
use Rattle.c_tree.specs.WellTyped.{AreStatements, CanAssign, CanInitialise, CanReturn, IsAssigned, IsCondition, IsFirst}
use Rattle.c_tree.specs.WellTyped.{IsItem, IsResult, IsStatement, IsTyped, IsTypedFunction, count_of}
use Rattle.flow_graph.specs.declared.op.Op.TheVariants as op
use Rattle.lower_lines.specs.Expressions.{part_of, words_of}
use Rattle.lower_lines.specs.Lines.{Line, Emit}
use Rattle.lower_lines.specs.Parts.{Dropped, Part, in_type, operand}
use Rattle.lower_lines.specs.Statements.{Exits, Run, array_blocks, array_lines, dropped_blocks, dropped_lines}
use Rattle.lower_lines.specs.Statements.{first_blocks, first_lines, item_blocks, item_levels, item_lines, items_blocks}
use Rattle.lower_lines.specs.Statements.{items_lines, levels_if_any, local_lines, none_labelled, returned_blocks}
use Rattle.lower_lines.specs.Statements.{returned_lines, run_of, runs_of, text_count}
use Rattle.lower_lines.specs.Variables.{Context, local_spot, local_variables}
use Rattle.lower_lines.proofs.Types.{part-type, some-and}
use Rattle.lower_laws.proofs.FitsCompound.{Becomes, assign-becomes}
use Rattle.lower_laws.specs.Flows.{Within}
use Rattle.lower_laws.specs.Settled.{Settled, context_in}
use Rattle.lower_laws.proofs.Compound.{turned-part}
use Rattle.lower_laws.proofs.Parts.{LivePart, number-in, operand-held, settled-then}
use Rattle.lower_laws.proofs.Sets.{ends, flows-then, marks, more-in, one-in, way}
use Rattle.lower_laws.proofs.LiveWalk.{expression-live, low-known, place-live}
use Rattle.lower_laws.proofs.LiveConditions.{if-live, ready}
use Rattle.lower_laws.proofs.Copies.{copied-settled}
use Rattle.lower_laws.proofs.Items.{LiveInitialiser, LiveNumber, filled-settled, local-settled}
use Rattle.lower_laws.proofs.LiveLoops.{LiveAny, do-live, for-live, while-live}
use Rattle.lower_laws.proofs.Runs.{Ends, LiveRun, block-live, ending-live, straight-live}
use Rattle.lower_laws.proofs.Switches.{constant-chain, switch-live}
use Rattle.lower_laws.proofs.Types.{integer-of}

module _ (p : Program) (f : Function) (functions : AllByRecursion (IsTypedFunction p) p.functions)
    (typed : IsTypedFunction p f) where
  abbrev c : Context
  c = context_in p f

  abbrev D : List ℕ
  D = range_with_len 0 (local_variables f)

  abbrev Live : Part → Type 0
  Live a = LivePart c D (low-known p f functions typed) a

  abbrev IsLive : Run → Type 0
  IsLive r = LiveRun c D D r

  expr : (e : Expression) → IsTyped p f e → Live (part_of c e)
  expr e h = expression-live p f functions typed e h

  -- ---- declared items

  -- a mark, before lines
  marked : (n block k : ℕ) (lines : List Line) → Settled c block k Dropped D lines D
      → Settled c block k Dropped D (Emit (op.Mark n) ∷ lines) D
  marked n block k lines s = record {
    sets = s.sets;
    size = s.size;
    flows = λ B a g. marks c B n D D D lines (λ v is. is) (low-known p f functions typed) (s.flows B a g);
  }

  typed-at : (v : ℕ) (l : Local) → slice_get f.locals v ≡ Some l → l.of ≡ type_at f v
  typed-at v l at = sym (ap type_of at)

  local-there : (v : ℕ) (l : Local) → slice_get f.locals v ≡ Some l
      → Within (words_of (type_at f v) (local_spot c v)) D
  local-there v l at =
      place-live p f functions typed (LocalPlace v) (type_at f v)
      (subst (λ (o : Option Local). IsSomeAnd o (λ (l : Local). l.of ≡ type_at f v)) (sym at) (typed-at v l at))

  initialiser-live : (v : ℕ) (l : Local) (at : slice_get f.locals v ≡ Some l) (value : Option Expression)
      → IfSome value (IsAssigned p f l.of)
      → LiveInitialiser c D (low-known p f functions typed) v D (low-known p f functions typed) (local-there v l at)
      (more-in (words_of (type_at f v) (local_spot c v)) D) value
  initialiser-live v l at None h = tt
  initialiser-live v l at (Some e) h = (
    subst (λ (s : ValueType). Becomes (type_at f v) s) (sym (part-type p f e h.0))
        (assign-becomes (type_at f v) (value_type e)
        (subst (λ (s : ValueType). CanAssign s (value_type e)) (typed-at v l at) h.1)),
    expr e h.0,
  )

  number-assigned : (t : IntegerType) (of : ValueType) → CanAssign (Integer t) of → (u : IntegerType)
      × (of ≡ Integer u)
  number-assigned t Void h = absurd h
  number-assigned t (Integer u) h = (u, refl)
  number-assigned t (Pointer u) h = absurd h

  numbers-live : (t : IntegerType) (es : List Expression) → AllByRecursion (IsAssigned p f (Integer t)) es
      → AllByRecursion (LiveNumber c D (low-known p f functions typed)) es
  numbers-live t [] h = tt
  numbers-live t (e ∷ es) h =
      let (u, of) = number-assigned t (value_type e) h.0.1 in
      (((u, part-type p f e h.0.0 ∙ of), expr e h.0.0), numbers-live t es h.1)

  array-live : (k : ℕ) (t : IntegerType) (value : Initialiser) (a : LocalArray) (block : ℕ) → CanInitialise p f a value
      → Settled c block (array_blocks c value) Dropped D (array_lines c k t value block) D
  array-live k t (Elements es) a block h =
      filled-settled c D (low-known p f functions typed) k t es block
      (numbers-live a.element es (recursion_from_All (IsAssigned p f (Integer a.element)) es h.1))
  array-live k t (Text object) a block h = copied-settled c D t (text_count c k object) block k object

  pub item-live : (item : Item) → IsItem p f item → (block : ℕ)
      → Settled c block (item_blocks c item) Dropped D (item_lines c item block) D
  item-live (Scalar n v value) h block =
      let (l, at, is) = some-and (slice_get f.locals v) (λ (l : Local). IfSome value (IsAssigned p f l.of)) h in
      marked n block (item_blocks c (Scalar n v value)) (local_lines c v value block)
      (local-settled c D (low-known p f functions typed) v D (low-known p f functions typed) (local-there v l at)
      (more-in (words_of (type_at f v) (local_spot c v)) D) value (initialiser-live v l at value is) block)
  item-live (Array n k t value) h block =
      let (a, at, is) = some-and (slice_get f.arrays k) (λ (a : LocalArray). (a.element ≡ t)
      × CanInitialise p f a value) h in
      marked n block (array_blocks c value) (array_lines c k t value block) (array-live k t value a block is.1)

  items-live : (items : List Item) → AllByRecursion (IsItem p f) items → (block : ℕ)
      → Settled c block (items_blocks c items) Dropped D (items_lines c items block) D
  items-live [] h block = record { sets = []; size = refl; flows = λ B a g v is. is }
  items-live (item ∷ items) h block =
      let n = item_blocks c item in
      settled-then c D (low-known p f functions typed) block n (items_blocks c items) Dropped Dropped D D D
      (item_lines c item block) (items_lines c items (block + n)) (λ B. tt) (λ v is. is)
      (item-live item h.0 block) (items-live items h.1 (block + n))

  dropped-live : (e : Expression) → IsTyped p f e → (block : ℕ)
      → Settled c block (dropped_blocks c e) Dropped D (dropped_lines c e block) D
  dropped-live e h block = (expr e h).settles block 0 Dropped D (ready c D (low-known p f functions typed)) tt

  first-live : (first : First) → IsFirst p f first → (block : ℕ)
      → Settled c block (first_blocks c first) Dropped D (first_lines c first block) D
  first-live Nothing h block = record { sets = []; size = refl; flows = λ B a g v is. is }
  first-live (Evaluated e) h block = dropped-live e h block
  first-live (Declared items) h block = items-live items (recursion_from_All (IsItem p f) items h) block

  -- ---- ends

  jump-live : (n x : ℕ) (exits : Exits) (block : ℕ)
      → ((B : ℕ → List ℕ) → Within (B exits.breaks) D → Within (B exits.continues) D → Within (B x) D)
      → Ends c exits block 0 D (Emit (op.Mark n) ∷ Emit (op.Jump x) ∷ [])
  jump-live n x exits block h = record {
    sets = [];
    size = refl;
    flows = λ B a into. marks c B n D D D (Emit (op.Jump x) ∷ []) (λ v is. is) (low-known p f functions typed)
        (ends c B (op.Jump x) D D D [] refl refl refl (λ v is. absurd is) (way c B x D (h B into.0 into.1))
        (λ v is. is));
  }

  integer-in : (t : IntegerType) (a : Part) → Becomes (Integer t) a.of → (u : IntegerType)
      × ((in_type c (Integer t) a).of ≡ Integer u)
  integer-in Char a h = (Char, refl)
  integer-in Short a h = (Short, refl)
  integer-in Int a h = integer-of a.of h
  integer-in UnsignedInt a h = integer-of a.of h

  number-returned : (result : ValueType) → IsResult result → (e : Expression) → CanReturn p f result (Some e)
      → (n : ℕ) (exits : Exits) (block : ℕ)
      → Ends c exits block (operand c true (in_type c result (part_of c e))).blocks D
      (Emit (op.Mark n) ∷ ((operand c true (in_type c result (part_of c e))).lines block 0
      ++ Emit (op.Return (Some ((operand c true (in_type c result (part_of c e))).spot 0).number)) ∷ []))
  number-returned Void is e h n exits block = absurd h
  number-returned (Pointer t) is e h n exits block = absurd is
  number-returned (Integer t) is e h n exits block =
      let low' = low-known p f functions typed in
      let a = in_type c (Integer t) (part_of c e) in
      let x = operand c true a in
      let becomes = subst (λ (s : ValueType). Becomes (Integer t) s) (sym (part-type p f e h.0))
      (assign-becomes (Integer t) (value_type e) h.1) in
      let (u, of) = integer-in t (part_of c e) becomes in
      let m = operand-held c D low' true a (turned-part c D low' (Integer t) (part_of c e) becomes (expr e h.0)) block 0
      D (ready c D low') in
      let s = m.settled in
      let y = (x.spot 0).number in
      let last : List Line = Emit (op.Return (Some y)) ∷ [] in
      record {
        sets = s.sets;
        size = s.size;
        flows = λ B b into. marks c B n D D D (x.lines block 0 ++ last) (λ v here. here) low'
            (flows-then c B D (x.lines block 0) last m.T D (s.flows B b tt)
            (ends c B (op.Return (Some y)) m.T D D [] refl refl refl
            (one-in m.T y (number-in c D low' a x u block 0 D of m)) (λ z none. absurd none) (λ v here. here)));
      }

  returned-live : (value : Option Expression) → CanReturn p f f.result value → (n : ℕ) (exits : Exits) (block : ℕ)
      → Ends c exits block (returned_blocks c value) D (Emit (op.Mark n) ∷ returned_lines c value block)
  returned-live None h n exits block = record {
    sets = [];
    size = refl;
    flows = λ B a into. marks c B n D D D (Emit (op.Return None) ∷ []) (λ v is. is) (low-known p f functions typed)
        (ends c B (op.Return None) D D D [] refl refl refl (λ v is. absurd is) (λ x is. absurd is) (λ v is. is));
  }
  returned-live (Some e) h n exits block = number-returned f.result typed.result e h n exits block

  -- ---- every statement

  any-live : (o : Option Expression) → IfSome o (IsTyped p f) → LiveAny c D (low-known p f functions typed) o
  any-live None h = tt
  any-live (Some e) h = expr e h

  test-live : (o : Option Expression) → IfSome o (IsCondition p f) → LiveAny c D (low-known p f functions typed) o
  test-live None h = tt
  test-live (Some e) h = expr e h.0

  counts-same : (xs : Statements) → count_of xs ≡ length (runs_of c xs)
  counts-same Done = refl
  counts-same (Next x others) = ap suc (counts-same others)

  mutual
    pub run-live : (breaks continues : Bool) (x : Statement) → IsStatement p f breaks continues x → IsLive (run_of c x)
    run-live breaks continues (Declare item) h =
        straight-live c (item_levels c item) (item_blocks c item) (item_lines c item) D D (λ v is. is)
        (item-live item h)
    run-live breaks continues (Empty n) h =
        straight-live c 0 0 (λ block. Emit (op.Mark n) ∷ []) D D (λ v is. is)
        (λ block. marked n block 0 [] (record { sets = []; size = refl; flows = λ B a g v is. is }))
    run-live breaks continues (Evaluate n e) h =
        straight-live c (part_of c e).levels (dropped_blocks c e) (λ block. Emit (op.Mark n) ∷ dropped_lines c e block)
        D D (λ v is. is)
        (λ block. marked n block (dropped_blocks c e) (dropped_lines c e block) (dropped-live e h block))
    run-live breaks continues (Block body) h =
        block-live c (runs_of c body) D D (λ v is. is)
        (constant-chain c D (low-known p f functions typed) none_labelled 0 (runs_of c body)
        (runs-live breaks continues body h))
    run-live breaks continues (If n e a b) h =
        if-live c D (low-known p f functions typed) n (part_of c e) (run_of c a) (run_of c b) (expr e h.0.0)
        (run-live breaks continues a h.1) (run-live breaks continues b h.2)
    run-live breaks continues (While n e s) h =
        while-live c D (low-known p f functions typed) n e (run_of c s) (expr e h.0.0) (run-live true true s h.1)
    run-live breaks continues (Do n s e) h =
        do-live c D (low-known p f functions typed) n (run_of c s) (part_of c e) (run-live true true s h.0)
        (expr e h.1.0)
    run-live breaks continues (For n first test after s) h =
        for-live c D D (low-known p f functions typed) (low-known p f functions typed) (λ v is. is) n first test after
        (run_of c s) (first-live first h.0) (test-live test h.1) (any-live after h.2) (run-live true true s h.3)
    run-live breaks continues (Switch n e labels body) h =
        let (u, of) = integer-of (value_type e) h.1 in
        let inside = recursion_from_All (λ (label : Label). label.before < count_of body) labels h.2.inside in
        switch-live c D (low-known p f functions typed) n (part_of c e) u labels (runs_of c body)
        (part-type p f e h.0 ∙ of) (expr e h.0) (runs-live true continues body h.3)
        (subst (λ (m : ℕ). AllByRecursion (λ label. label.before < m) labels) (counts-same body) inside)
    run-live breaks continues (Break n) h =
        ending-live c 0 0 (λ exits block. Emit (op.Mark n) ∷ Emit (op.Jump exits.breaks) ∷ []) D
        (λ exits block. jump-live n exits.breaks exits block (λ B one other. one))
    run-live breaks continues (Continue n) h =
        ending-live c 0 0 (λ exits block. Emit (op.Mark n) ∷ Emit (op.Jump exits.continues) ∷ []) D
        (λ exits block. jump-live n exits.continues exits block (λ B one other. other))
    run-live breaks continues (Return n value) h =
        ending-live c (levels_if_any c value) (returned_blocks c value)
        (λ exits block. Emit (op.Mark n) ∷ returned_lines c value block) D
        (λ exits block. returned-live value h n exits block)

    pub runs-live : (breaks continues : Bool) (xs : Statements) → AreStatements p f breaks continues xs
        → AllByRecursion IsLive (runs_of c xs)
    runs-live breaks continues Done h = tt
    runs-live breaks continues (Next x others) h =
        (run-live breaks continues x h.0, runs-live breaks continues others h.1)
