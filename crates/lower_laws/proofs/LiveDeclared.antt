-- Sets of the lines of statements in which each local is declared before it is named.
use Rattle.std.proofs.Common.{◌≡◌, ◌<◌, ℕ, suc, ◌+◌, true, Bool, List, [], ◌∷◌, ◌++◌, Option, Some, None, inl, inr}
use Rattle.std.proofs.Common.{refl, sym, ap, ◌∙◌, subst, length}
use Rattle.std.specs.Prelude.{IfSome, slice_get}
use Rattle.std.specs.List.{AllByRecursion}
use Rattle.std.proofs.lemmas.List.Elements.{recursion_from_All}
use Rattle.c_tree.specs.declared.statement.Label.{Label}
use Rattle.c_tree.specs.declared.types.IntegerType.{IntegerType}
use Rattle.c_tree.specs.declared.types.IntegerType.TheVariants.{Char, Short, Int, UnsignedInt}
use Rattle.c_tree.specs.declared.types.ValueType.{ValueType}
use Rattle.c_tree.specs.declared.types.ValueType.TheVariants.{Void, Integer, Pointer}
use Rattle.c_tree.specs.Evaluation.{type_at, type_of}
use Rattle.c_tree.specs.Program.{Expression, Initialiser, Elements, Text, Item, Scalar, Array, First, Nothing}
use Rattle.c_tree.specs.Program.{Evaluated, Declared, Statement, Declare, Empty, Evaluate, Block, If, While, Do, For}
use Rattle.c_tree.specs.Program.{Switch, Break, Continue, Return, Statements, Done, Next, Local, LocalArray, Function}
use Rattle.c_tree.specs.Program.{Program, value_type}
use Rattle.c_tree.specs.WellTyped.{AreStatements, CanAssign, CanInitialise, CanReturn, IsAssigned, IsCondition, IsFirst}
use Rattle.c_tree.specs.WellTyped.{IsItem, IsResult, IsStatement, IsTyped, IsTypedFunction, count_of}
use Rattle.flow_graph.specs.declared.op.Op.TheVariants as op
use Rattle.flow_graph.specs.Graphs.{IsIn}
use Rattle.lower_lines.specs.Expressions.{part_of}
use Rattle.lower_lines.specs.Lines.{Line, Emit}
use Rattle.lower_lines.specs.Parts.{Dropped, Part, in_type, operand}
use Rattle.lower_lines.specs.Statements.{Exits, array_blocks, array_lines, dropped_blocks, dropped_lines, first_blocks}
use Rattle.lower_lines.specs.Statements.{first_lines, item_blocks, item_levels, item_lines, items_blocks, items_lines}
use Rattle.lower_lines.specs.Statements.{levels_if_any, local_lines, none_labelled, returned_blocks, returned_lines}
use Rattle.lower_lines.specs.Statements.{run_of, runs_of, text_count}
use Rattle.lower_lines.specs.Variables.{Context, local_variables}
use Rattle.lower_lines.proofs.Types.{part-type, some-and}
use Rattle.lower_laws.proofs.FitsCompound.{Becomes, assign-becomes}
use Rattle.lower_laws.specs.Flows.{Within}
use Rattle.lower_laws.specs.Settled.{Settled, context_in}
use Rattle.lower_laws.proofs.Compound.{turned-part}
use Rattle.lower_laws.proofs.Parts.{LivePart, number-in, operand-held, settled-then}
use Rattle.lower_laws.proofs.Sets.{ends, flows-then, front-in, marks, more-in, one-in, way}
use Rattle.lower_laws.specs.Declared.{DeclareFirst, DeclareNothing, DeclaresFirst, FirstNamesOnly, ItemNamesOnly}
use Rattle.lower_laws.specs.Declared.{InitialiserNamesOnly, ItemsNameOnly, NamesOnly, known_after, known_behind}
use Rattle.lower_laws.specs.Declared.{known_first, known_then}
use Rattle.lower_laws.proofs.LiveConditions.{if-live, ready}
use Rattle.lower_laws.proofs.Copies.{copied-settled}
use Rattle.lower_laws.proofs.Items.{LiveInitialiser, LiveNumber, filled-settled, local-settled}
use Rattle.lower_laws.proofs.Known.{AreLocals, named-live, variables, variables-low, words_at}
use Rattle.lower_laws.proofs.LiveLoops.{LiveAny, do-live, for-live, while-live}
use Rattle.lower_laws.proofs.Runs.{Chain, Ends, LiveRun, block-live, ending-live, run-less, straight-live}
use Rattle.lower_laws.proofs.Switches.{switch-live}
use Rattle.lower_laws.proofs.Types.{integer-of}

module _ (p : Program) (f : Function) (functions : AllByRecursion (IsTypedFunction p) p.functions)
    (typed : IsTypedFunction p f) where
  abbrev c : Context
  c = context_in p f

  abbrev V : List ℕ → List ℕ
  V known = variables c known

  abbrev Are : List ℕ → Type 0
  Are known = AreLocals p f functions typed known

  module _ (known : List ℕ) (are : Are known) where
    pub low : (v : ℕ) → IsIn v (V known) → v < local_variables f
    low = variables-low p f functions typed known are

    expr : (e : Expression) → IsTyped p f e → NamesOnly known e → LivePart c (V known) low (part_of c e)
    expr e h k = named-live p f functions typed known are low e h k

    -- a mark, before lines
    marked : (n block k : ℕ) (lines : List Line) (E : List ℕ) → Settled c block k Dropped (V known) lines E
        → Settled c block k Dropped (V known) (Emit (op.Mark n) ∷ lines) E
    marked n block k lines E s = record {
      sets = s.sets;
      size = s.size;
      flows = λ B a g. marks c B n (V known) (V known) E lines (λ v is. is) low (s.flows B a g);
    }

    -- ---- arrays

    number-assigned : (t : IntegerType) (of : ValueType) → CanAssign (Integer t) of → (u : IntegerType)
        × (of ≡ Integer u)
    number-assigned t Void h = absurd h
    number-assigned t (Integer u) h = (u, refl)
    number-assigned t (Pointer u) h = absurd h

    numbers-live : (t : IntegerType) (es : List Expression) → AllByRecursion (IsAssigned p f (Integer t)) es
        → AllByRecursion (NamesOnly known) es → AllByRecursion (LiveNumber c (V known) low) es
    numbers-live t [] h k = tt
    numbers-live t (e ∷ es) h k =
        let (u, of) = number-assigned t (value_type e) h.0.1 in
        (((u, part-type p f e h.0.0 ∙ of), expr e h.0.0 k.0), numbers-live t es h.1 k.1)

    array-live : (n : ℕ) (t : IntegerType) (value : Initialiser) (a : LocalArray) (block : ℕ)
        → CanInitialise p f a value → InitialiserNamesOnly known value
        → Settled c block (array_blocks c value) Dropped (V known) (array_lines c n t value block) (V known)
    array-live n t (Elements es) a block h k =
        filled-settled c (V known) low n t es block
        (numbers-live a.element es (recursion_from_All (IsAssigned p f (Integer a.element)) es h.1) k)
    array-live n t (Text object) a block h k = copied-settled c (V known) t (text_count c n object) block n object

    -- ---- expressions and ends

    dropped-live : (e : Expression) → IsTyped p f e → NamesOnly known e → (block : ℕ)
        → Settled c block (dropped_blocks c e) Dropped (V known) (dropped_lines c e block) (V known)
    dropped-live e h k block = (expr e h k).settles block 0 Dropped (V known) (ready c (V known) low) tt

    any-live : (o : Option Expression) → IfSome o (IsTyped p f) → IfSome o (NamesOnly known)
        → LiveAny c (V known) low o
    any-live None h k = tt
    any-live (Some e) h k = expr e h k

    test-live : (o : Option Expression) → IfSome o (IsCondition p f) → IfSome o (NamesOnly known)
        → LiveAny c (V known) low o
    test-live None h k = tt
    test-live (Some e) h k = expr e h.0 k

    jump-live : (n x : ℕ) (exits : Exits) (block : ℕ)
        → ((B : ℕ → List ℕ) → Within (B exits.breaks) (V known) → Within (B exits.continues) (V known)
        → Within (B x) (V known)) → Ends c exits block 0 (V known) (Emit (op.Mark n) ∷ Emit (op.Jump x) ∷ [])
    jump-live n x exits block h = record {
      sets = [];
      size = refl;
      flows = λ B a into. marks c B n (V known) (V known) (V known) (Emit (op.Jump x) ∷ []) (λ v is. is) low
          (ends c B (op.Jump x) (V known) (V known) (V known) [] refl refl refl (λ v is. absurd is)
          (way c B x (V known) (h B into.0 into.1)) (λ v is. is));
    }

    integer-in : (t : IntegerType) (a : Part) → Becomes (Integer t) a.of → (u : IntegerType)
        × ((in_type c (Integer t) a).of ≡ Integer u)
    integer-in Char a h = (Char, refl)
    integer-in Short a h = (Short, refl)
    integer-in Int a h = integer-of a.of h
    integer-in UnsignedInt a h = integer-of a.of h

    number-returned : (result : ValueType) → IsResult result → (e : Expression) → CanReturn p f result (Some e)
        → NamesOnly known e → (n : ℕ) (exits : Exits) (block : ℕ)
        → Ends c exits block (operand c true (in_type c result (part_of c e))).blocks (V known)
        (Emit (op.Mark n) ∷ ((operand c true (in_type c result (part_of c e))).lines block 0
        ++ Emit (op.Return (Some ((operand c true (in_type c result (part_of c e))).spot 0).number)) ∷ []))
    number-returned Void is e h k n exits block = absurd h
    number-returned (Pointer t) is e h k n exits block = absurd is
    number-returned (Integer t) is e h k n exits block =
        let D = V known in
        let a = in_type c (Integer t) (part_of c e) in
        let x = operand c true a in
        let becomes = subst (λ (s : ValueType). Becomes (Integer t) s) (sym (part-type p f e h.0))
        (assign-becomes (Integer t) (value_type e) h.1) in
        let (u, of) = integer-in t (part_of c e) becomes in
        let m = operand-held c D low true a (turned-part c D low (Integer t) (part_of c e) becomes (expr e h.0 k)) block
        0 D (ready c D low) in
        let s = m.settled in
        let y = (x.spot 0).number in
        let last : List Line = Emit (op.Return (Some y)) ∷ [] in
        record {
          sets = s.sets;
          size = s.size;
          flows = λ B b into. marks c B n D D D (x.lines block 0 ++ last) (λ v here. here) low
              (flows-then c B D (x.lines block 0) last m.T D (s.flows B b tt)
              (ends c B (op.Return (Some y)) m.T D D [] refl refl refl
              (one-in m.T y (number-in c D low a x u block 0 D of m)) (λ z none. absurd none) (λ v here. here)));
        }

    returned-live : (value : Option Expression) → CanReturn p f f.result value → IfSome value (NamesOnly known)
        → (n : ℕ) (exits : Exits) (block : ℕ)
        → Ends c exits block (returned_blocks c value) (V known) (Emit (op.Mark n) ∷ returned_lines c value block)
    returned-live None h k n exits block = record {
      sets = [];
      size = refl;
      flows = λ B a into. marks c B n (V known) (V known) (V known) (Emit (op.Return None) ∷ []) (λ v is. is) low
          (ends c B (op.Return None) (V known) (V known) (V known) [] refl refl refl (λ v is. absurd is)
          (λ x is. absurd is) (λ v is. is));
    }
    returned-live (Some e) h k n exits block = number-returned f.result typed.result e h k n exits block

  -- ---- declared items

  one-more : (known : List ℕ) → Are known → (v : ℕ) (l : Local) → slice_get f.locals v ≡ Some l → Are (v ∷ known)
  one-more known are v l at u (inl e) = (l, subst (λ (n : ℕ). slice_get f.locals n ≡ Some l) e at)
  one-more known are v l at u (inr is) = are u is

  are-after : (known : List ℕ) → Are known → (item : Item) → IsItem p f item → Are (known_after known item)
  are-after known are (Scalar n v value) h =
      let (l, at, is) = some-and (slice_get f.locals v) (λ (l : Local). IfSome value (IsAssigned p f l.of)) h in
      one-more known are v l at
  are-after known are (Array n k t value) h = are

  after-more : (known : List ℕ) (item : Item) → Within (V known) (V (known_after known item))
  after-more known (Scalar n v value) = more-in (words_at c v) (V known)
  after-more known (Array n k t value) = λ v is. is

  typed-at : (v : ℕ) (l : Local) → slice_get f.locals v ≡ Some l → l.of ≡ type_at f v
  typed-at v l at = sym (ap type_of at)

  item-known : (known : List ℕ) (are : Are known) (item : Item) (h : IsItem p f item) → ItemNamesOnly known item
      → (block : ℕ) → Settled c block (item_blocks c item) Dropped (V known) (item_lines c item block)
      (V (known_after known item))
  item-known known are (Scalar n v value) h k block =
      let (l, at, is) = some-and (slice_get f.locals v) (λ (l : Local). IfSome value (IsAssigned p f l.of)) h in
      let more = one-more known are v l at in
      let E = V (v ∷ known) in
      marked known are n block (item_blocks c (Scalar n v value)) (local_lines c v value block) E
      (local-settled c (V known) (low known are) v E (low (v ∷ known) more) (front-in (words_at c v) (V known))
      (λ u here. here) value (by l at more value is k) block)
    where
      by : (l : Local) (at : slice_get f.locals v ≡ Some l) (more : Are (v ∷ known)) (value : Option Expression)
          → IfSome value (IsAssigned p f l.of) → IfSome value (NamesOnly (v ∷ known))
          → LiveInitialiser c (V known) (low known are) v (V (v ∷ known)) (low (v ∷ known) more)
          (front-in (words_at c v) (V known)) (λ u here. here) value
      by l at more None is k = tt
      by l at more (Some e) is k = (
        subst (λ (s : ValueType). Becomes (type_at f v) s) (sym (part-type p f e is.0))
            (assign-becomes (type_at f v) (value_type e)
            (subst (λ (s : ValueType). CanAssign s (value_type e)) (typed-at v l at) is.1)),
        expr (v ∷ known) more e is.0 k,
      )
  item-known known are (Array n k t value) h named block =
      let (a, at, is) = some-and (slice_get f.arrays k) (λ (a : LocalArray). (a.element ≡ t)
      × CanInitialise p f a value) h in
      marked known are n block (array_blocks c value) (array_lines c k t value block) (V known)
      (array-live known are k t value a block is.1 named)

  are-behind : (known : List ℕ) → Are known → (items : List Item) → AllByRecursion (IsItem p f) items
      → Are (known_behind known items)
  are-behind known are [] h = are
  are-behind known are (item ∷ items) h =
      are-behind (known_after known item) (are-after known are item h.0) items h.1

  behind-more : (known : List ℕ) (items : List Item) → Within (V known) (V (known_behind known items))
  behind-more known [] v is = is
  behind-more known (item ∷ items) v is = behind-more (known_after known item) items v (after-more known item v is)

  items-known : (known : List ℕ) (are : Are known) (items : List Item) → AllByRecursion (IsItem p f) items
      → ItemsNameOnly known items → (block : ℕ)
      → Settled c block (items_blocks c items) Dropped (V known) (items_lines c items block)
      (V (known_behind known items))
  items-known known are [] h k block = record { sets = []; size = refl; flows = λ B a g v is. is }
  items-known known are (item ∷ items) h k block =
      let n = item_blocks c item in
      let next = known_after known item in
      settled-then c (V known) (low known are) block n (items_blocks c items) Dropped Dropped (V known) (V next)
      (V (known_behind next items)) (item_lines c item block) (items_lines c items (block + n)) (λ B. tt)
      (after-more known item) (item-known known are item h.0 k.0 block)
      (items-known next (are-after known are item h.0) items h.1 k.1 (block + n))

  are-first : (known : List ℕ) → Are known → (first : First) → IsFirst p f first → Are (known_first known first)
  are-first known are Nothing h = are
  are-first known are (Evaluated e) h = are
  are-first known are (Declared items) h = are-behind known are items (recursion_from_All (IsItem p f) items h)

  first-more : (known : List ℕ) (first : First) → Within (V known) (V (known_first known first))
  first-more known Nothing v is = is
  first-more known (Evaluated e) v is = is
  first-more known (Declared items) v is = behind-more known items v is

  first-known : (known : List ℕ) (are : Are known) (first : First) → IsFirst p f first → FirstNamesOnly known first
      → (block : ℕ) → Settled c block (first_blocks c first) Dropped (V known) (first_lines c first block)
      (V (known_first known first))
  first-known known are Nothing h k block = record { sets = []; size = refl; flows = λ B a g v is. is }
  first-known known are (Evaluated e) h k block = dropped-live known are e h k block
  first-known known are (Declared items) h k block =
      items-known known are items (recursion_from_All (IsItem p f) items h) k block

  -- ---- every statement

  counts-same : (xs : Statements) → count_of xs ≡ length (runs_of c xs)
  counts-same Done = refl
  counts-same (Next x others) = ap suc (counts-same others)

  are-then : (breaks continues : Bool) (known : List ℕ) → Are known → (x : Statement)
      → IsStatement p f breaks continues x → Are (known_then known x)
  are-then breaks continues known are (Declare item) h = are-after known are item h
  are-then breaks continues known are (Empty n) h = are
  are-then breaks continues known are (Evaluate n e) h = are
  are-then breaks continues known are (Block body) h = are
  are-then breaks continues known are (If n e a b) h = are
  are-then breaks continues known are (While n e s) h = are
  are-then breaks continues known are (Do n s e) h = are
  are-then breaks continues known are (For n first test after s) h = are
  are-then breaks continues known are (Switch n e labels body) h = are
  are-then breaks continues known are (Break n) h = are
  are-then breaks continues known are (Continue n) h = are
  are-then breaks continues known are (Return n value) h = are

  -- what declares nothing leaves what is known
  plain-then : (known : List ℕ) (x : Statement) (others : Statements) → DeclareNothing (Next x others)
      → (known_then known x ≡ known) × DeclareNothing others
  plain-then known (Declare item) others h = absurd h
  plain-then known (Empty n) others h = (refl, h)
  plain-then known (Evaluate n e) others h = (refl, h)
  plain-then known (Block body) others h = (refl, h)
  plain-then known (If n e a b) others h = (refl, h)
  plain-then known (While n e s) others h = (refl, h)
  plain-then known (Do n s e) others h = (refl, h)
  plain-then known (For n first test after s) others h = (refl, h)
  plain-then known (Switch n e labels body) others h = (refl, h)
  plain-then known (Break n) others h = (refl, h)
  plain-then known (Continue n) others h = (refl, h)
  plain-then known (Return n value) others h = (refl, h)

  abbrev pub known_end : List ℕ → Statements → List ℕ
  known_end known Done = known
  known_end known (Next x others) = known_end (known_then known x) others

  -- a statement within another: what it declares is gone behind it
  inner : (known : List ℕ) (x : Statement) → LiveRun c (V known) (V (known_then known x)) (run_of c x)
      → LiveRun c (V known) (V known) (run_of c x)
  inner known x r = run-less c (V known) (V (known_then known x)) (V known) (run_of c x) r.within (λ v is. is) r

  mutual
    pub run-known : (breaks continues : Bool) (known : List ℕ) (are : Are known) (x : Statement)
        → IsStatement p f breaks continues x → DeclaresFirst known x
        → LiveRun c (V known) (V (known_then known x)) (run_of c x)
    run-known breaks continues known are (Declare item) h k =
        straight-live c (item_levels c item) (item_blocks c item) (item_lines c item) (V known)
        (V (known_after known item)) (after-more known item) (item-known known are item h k)
    run-known breaks continues known are (Empty n) h k =
        straight-live c 0 0 (λ block. Emit (op.Mark n) ∷ []) (V known) (V known) (λ v is. is)
        (λ block. marked known are n block 0 [] (V known)
        (record { sets = []; size = refl; flows = λ B a g v is. is }))
    run-known breaks continues known are (Evaluate n e) h k =
        straight-live c (part_of c e).levels (dropped_blocks c e) (λ block. Emit (op.Mark n) ∷ dropped_lines c e block)
        (V known) (V known) (λ v is. is)
        (λ block. marked known are n block (dropped_blocks c e) (dropped_lines c e block) (V known)
        (dropped-live known are e h k block))
    run-known breaks continues known are (Block body) h k =
        let (w, chain) = runs-known breaks continues (V known) 0 known are body h k in
        block-live c (runs_of c body) (V known) (V (known_end known body)) w chain
    run-known breaks continues known are (If n e a b) h k =
        if-live c (V known) (low known are) n (part_of c e) (run_of c a) (run_of c b) (expr known are e h.0.0 k.0)
        (inner known a (run-known breaks continues known are a h.1 k.1))
        (inner known b (run-known breaks continues known are b h.2 k.2))
    run-known breaks continues known are (While n e s) h k =
        while-live c (V known) (low known are) n e (run_of c s) (expr known are e h.0.0 k.0)
        (inner known s (run-known true true known are s h.1 k.1))
    run-known breaks continues known are (Do n s e) h k =
        do-live c (V known) (low known are) n (run_of c s) (part_of c e)
        (inner known s (run-known true true known are s h.0 k.0))
        (expr known are e h.1.0 k.1)
    run-known breaks continues known are (For n first test after s) h k =
        let next = known_first known first in
        let more = are-first known are first h.0 in
        for-live c (V known) (V next) (low known are) (low next more) (first-more known first) n first test after
        (run_of c s) (first-known known are first h.0 k.0) (test-live next more test h.1 k.1)
        (any-live next more after h.2 k.2) (inner next s (run-known true true next more s h.3 k.3))
    run-known breaks continues known are (Switch n e labels body) h k =
        let (u, of) = integer-of (value_type e) h.1 in
        let inside = recursion_from_All (λ (label : Label). label.before < count_of body) labels h.2.inside in
        switch-live c (V known) (low known are) n (part_of c e) u labels (runs_of c body)
        (part-type p f e h.0 ∙ of) (expr known are e h.0 k.0) (all-known true continues known are body h.3 k.1 k.2)
        (subst (λ (m : ℕ). AllByRecursion (λ label. label.before < m) labels) (counts-same body) inside)
    run-known breaks continues known are (Break n) h k =
        ending-live c 0 0 (λ exits block. Emit (op.Mark n) ∷ Emit (op.Jump exits.breaks) ∷ []) (V known)
        (λ exits block. jump-live known are n exits.breaks exits block (λ B one other. one))
    run-known breaks continues known are (Continue n) h k =
        ending-live c 0 0 (λ exits block. Emit (op.Mark n) ∷ Emit (op.Jump exits.continues) ∷ []) (V known)
        (λ exits block. jump-live known are n exits.continues exits block (λ B one other. other))
    run-known breaks continues known are (Return n value) h k =
        ending-live c (levels_if_any c value) (returned_blocks c value)
        (λ exits block. Emit (op.Mark n) ∷ returned_lines c value block) (V known)
        (λ exits block. returned-live known are value h k n exits block)

    pub runs-known : (breaks continues : Bool) (all : List ℕ) (place : ℕ) (known : List ℕ) (are : Are known)
        (xs : Statements) → AreStatements p f breaks continues xs → DeclareFirst known xs
        → Within (V known) (V (known_end known xs))
        × Chain c none_labelled all place (V known) (runs_of c xs) (V (known_end known xs))
    runs-known breaks continues all place known are Done h k = ((λ v is. is), (λ v is. is))
    runs-known breaks continues all place known are (Next x others) h k =
        let r = run-known breaks continues known are x h.0 k.0 in
        let next = known_then known x in
        let (w, chain) = runs-known breaks continues all (suc place) next
        (are-then breaks continues known are x h.0) others h.1 k.1 in (
          (λ v is. w v (r.within v is)),
          ((λ b e. absurd (cc)), (V next, r, chain)),
        )

    all-known : (breaks continues : Bool) (known : List ℕ) (are : Are known) (xs : Statements)
        → AreStatements p f breaks continues xs → DeclareNothing xs → DeclareFirst known xs
        → AllByRecursion (LiveRun c (V known) (V known)) (runs_of c xs)
    all-known breaks continues known are Done h d k = tt
    all-known breaks continues known are (Next x others) h d k =
        let (same, rest) = plain-then known x others d in (
          inner known x (run-known breaks continues known are x h.0 k.0),
          all-known breaks continues known are others h.1 rest
              (subst (λ (some : List ℕ). DeclareFirst some others) same k.1),
        )
