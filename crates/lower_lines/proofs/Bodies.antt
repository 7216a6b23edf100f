-- The blocks of every typed statement: its lines start each of them once, and close what they open.
use Rattle.std.proofs.Common.{ℕ, suc, ◌+◌, Bool, true, false, List, [], ◌∷◌, Option, Some}
use Rattle.std.proofs.Common.{None, refl, arith}
use Rattle.std.specs.Prelude.{if◌then◌else◌, slice_get, IfSome}
use Rattle.std.specs.List.{All, AllByRecursion}
use Rattle.std.proofs.lemmas.List.Elements.{recursion_from_All}
use Rattle.c_tree.specs.declared.types.IntegerType.{IntegerType}
use Rattle.c_tree.specs.declared.types.ValueType.{ValueType}
use Rattle.c_tree.specs.declared.types.ValueType.TheVariants.{Void, Integer, Pointer}
use Rattle.c_tree.specs.Evaluation.{type_at}
use Rattle.c_tree.specs.Program.{Expression, Initialiser, Elements, Text, Item, Scalar, Array, First, Nothing}
use Rattle.c_tree.specs.Program.{Evaluated}
use Rattle.c_tree.specs.Program.{Declared, Statement, Declare, Empty, Evaluate, Block, If, While, Do, For}
use Rattle.c_tree.specs.Program.{Switch, Break}
use Rattle.c_tree.specs.Program.{Continue, Return, Statements, Done, Next, Function, Program, LocalArray}
use Rattle.c_tree.specs.WellTyped.{AreStatements, CanInitialise, CanReturn, IsAssigned, IsCondition, IsFirst, IsItem}
use Rattle.c_tree.specs.WellTyped.{IsStatement, IsTyped, IsTypedFunction}
use Rattle.flow_graph.specs.declared.op.Op.TheVariants as op
use Rattle.lower_lines.specs.Expressions.{part_of}
use Rattle.lower_lines.specs.Lines.{Line, Emit}
use Rattle.lower_lines.specs.Parts.{Dropped, in_type, operand}
use Rattle.lower_lines.specs.Statements.{Run, array_blocks, array_lines, copying, elements_blocks}
use Rattle.lower_lines.specs.Statements.{elements_lines, first_blocks, first_lines, for_run, initialiser_part}
use Rattle.lower_lines.specs.Statements.{item_blocks}
use Rattle.lower_lines.specs.Statements.{item_lines, items_blocks, items_lines, local_blocks, local_lines}
use Rattle.lower_lines.specs.Statements.{loop_blocks}
use Rattle.lower_lines.specs.Statements.{loop_lines, reads_none, returned_blocks, returned_lines, run_of}
use Rattle.lower_lines.specs.Statements.{runs_of, while_run}
use Rattle.lower_lines.specs.Statements.{zeroed_by, zeroing, dropped_lines}
use Rattle.lower_lines.specs.Variables.{Context, Spot, local_spot}
use Rattle.lower_lines.proofs.Constructs.{assigned-local-laid, operand-laid, turned-laid}
use Rattle.lower_lines.proofs.Filling.{Lays, IsPlain, end-lays, emit-lays, lays-then, lays-to, none-lays}
use Rattle.lower_lines.proofs.Filling.{plain-lays, plain-then, start-lays}
use Rattle.lower_lines.proofs.Joining.{two-lays}
use Rattle.lower_lines.proofs.Statements.{IsLaidAny, IsLaidRun, IsLaidTest, block-laid, do-laid, ending-laid}
use Rattle.lower_lines.proofs.Statements.{if-laid}
use Rattle.lower_lines.proofs.Statements.{loop-lays, stays, straight-laid}
use Rattle.lower_lines.proofs.Switches.{switch-laid}
use Rattle.lower_lines.proofs.Trees.{laid, scalar-part}
use Rattle.lower_lines.proofs.Types.{some-and}

-- ---- items

pub zeroed-plain : (of : ValueType) (spot : Spot) → IsPlain (zeroed_by of spot)
zeroed-plain Void spot = tt
zeroed-plain (Integer t) spot = (refl, tt)
zeroed-plain (Pointer t) spot = (refl, (refl, tt))

unless-plain : (t : Bool) (lines : List Line) → IsPlain lines → IsPlain (if t then [] else lines)
unless-plain true lines h = tt
unless-plain false lines h = h

pub copying-lays : (c : Context) (t : IntegerType) (count block : ℕ)
    → Lays block (block + 2) true true (copying c t count block)
copying-lays c t count block =
    let last = suc (suc block) in
    lays-to block last block (block + 2) refl (omega arith)
    (emit-lays block last true _ _ refl (emit-lays block last true _ _ refl (emit-lays block last true _ _ refl
    (end-lays block last true _ _ refl (start-lays block last true _
    (emit-lays (suc block) last true _ _ refl (emit-lays (suc block) last true _ _ refl
    (emit-lays (suc block) last true _ _ refl (end-lays (suc block) last true _ _ refl
    (start-lays (suc block) last true [] (none-lays last true)))))))))))

module _ (p : Program) (f : Function) (all : All (IsTypedFunction p) p.functions) (typed : IsTypedFunction p f) where
  abbrev c : Context
  c = record { program = p; function = f }

  local-lays : (local : ℕ) (value : Option Expression) → IfSome value (IsTyped p f) → (block : ℕ)
      → Lays block (block + local_blocks c local value) true true (local_lines c local value block)
  local-lays local None h block = lays-to block block block (block + 0) refl (omega arith)
      (plain-lays block (zeroing c local) (zeroed-plain (type_at f local) (local_spot c local)))
  local-lays local (Some e) h block =
      let a = initialiser_part c local e in
      let k = assigned-local-laid c (type_at f local) local (part_of c e) (laid p f all typed e h) in
      plain-then block (block + a.blocks Dropped) true (if reads_none e then [] else zeroing c local)
      (a.lines block 0 Dropped)
      (unless-plain (reads_none e) (zeroing c local) (zeroed-plain (type_at f local) (local_spot c local)))
      (k.lays block 0 Dropped tt)

  elements-lay : (t of : ValueType) (element : IntegerType) (place : ℕ) (es : List Expression)
      → AllByRecursion (IsAssigned p f of) es → (block : ℕ)
      → Lays block (block + elements_blocks c es) true true (elements_lines c element place es block)
  elements-lay t of element place [] h block = lays-to block block block (block + 0) refl (omega arith)
      (none-lays block true)
  elements-lay t of element place (e ∷ es) h block =
      let x = operand c true (part_of c e) in
      let last = block + x.blocks + elements_blocks c es in
      two-lays block x.blocks (elements_blocks c es) true true true (x.lines block 1) _
      ((operand-laid c true (part_of c e) (laid p f all typed e h.0.0)).lays block 1)
      (emit-lays (block + x.blocks) last true _ _ refl (emit-lays (block + x.blocks) last true _ _ refl
      (elements-lay t of element (suc place) es h.1 (block + x.blocks))))

  array-lays : (k : ℕ) (element : IntegerType) (value : Initialiser) (a : LocalArray) → CanInitialise p f a value
      → (block : ℕ) → Lays block (block + array_blocks c value) true true (array_lines c k element value block)
  array-lays k element (Elements es) a h block =
      emit-lays block (block + elements_blocks c es) true _ _ refl
      (emit-lays block (block + elements_blocks c es) true _ _ refl
      (elements-lay Void (Integer a.element) element 0 es
      (recursion_from_All (IsAssigned p f (Integer a.element)) es h.1) block))
  array-lays k element (Text object) a h block =
      emit-lays block (block + 2) true _ _ refl (emit-lays block (block + 2) true _ _ refl
      (emit-lays block (block + 2) true _ _ refl (copying-lays c element _ block)))

  assigned-any : (of : ValueType) (value : Option Expression) → IfSome value (IsAssigned p f of)
      → IfSome value (IsTyped p f)
  assigned-any of None h = tt
  assigned-any of (Some e) h = h.0

  pub item-lays : (item : Item) → IsItem p f item → (block : ℕ)
      → Lays block (block + item_blocks c item) true true (item_lines c item block)
  item-lays (Scalar n local value) h block =
      let (l, at, k) = some-and (slice_get f.locals local) _ h in
      emit-lays block (block + local_blocks c local value) true _ _ refl
      (local-lays local value (assigned-any l.of value k) block)
  item-lays (Array n k element value) h block =
      let (a, at, is) = some-and (slice_get f.arrays k) _ h in
      emit-lays block (block + array_blocks c value) true _ _ refl (array-lays k element value a is.1 block)

  pub items-lay : (items : List Item) → AllByRecursion (IsItem p f) items → (block : ℕ)
      → Lays block (block + items_blocks c items) true true (items_lines c items block)
  items-lay [] h block = lays-to block block block (block + 0) refl (omega arith) (none-lays block true)
  items-lay (item ∷ items) h block =
      two-lays block (item_blocks c item) (items_blocks c items) true true true (item_lines c item block)
      (items_lines c items (block + item_blocks c item)) (item-lays item h.0 block)
      (items-lay items h.1 (block + item_blocks c item))

  first-lays : (first : First) → IsFirst p f first → (block : ℕ)
      → Lays block (block + first_blocks c first) true true (first_lines c first block)
  first-lays Nothing h block = lays-to block block block (block + 0) refl (omega arith) (none-lays block true)
  first-lays (Evaluated e) h block = (laid p f all typed e h).lays block 0 Dropped tt
  first-lays (Declared items) h block = items-lay items (recursion_from_All (IsItem p f) items h) block

  -- ---- statements

  can-return : (of : ValueType) (e : Expression) → CanReturn p f of (Some e) → IsTyped p f e
  can-return Void e h = absurd h
  can-return (Integer t) e h = h.0
  can-return (Pointer t) e h = h.0

  returned-lays : (value : Option Expression) → CanReturn p f f.result value → (block : ℕ)
      → Lays block (block + returned_blocks c value) true false (returned_lines c value block)
  returned-lays None h block = lays-to block block block (block + 0) refl (omega arith)
      (end-lays block block false (op.Return None) [] refl (none-lays block false))
  returned-lays (Some e) h block =
      let x = operand c true (in_type c f.result (part_of c e)) in
      lays-then block (block + x.blocks) (block + x.blocks) true true false (x.lines block 0) _
      ((operand-laid c true (in_type c f.result (part_of c e)) (turned-laid c f.result (part_of c e)
      (laid p f all typed e (can-return f.result e h)))).lays block 0)
      (end-lays (block + x.blocks) (block + x.blocks) false (op.Return (Some (x.spot 0).number)) [] refl
      (none-lays (block + x.blocks) false))

  test-laid-any : (test : Option Expression) → IfSome test (IsCondition p f) → IsLaidTest c test
  test-laid-any None h = tt
  test-laid-any (Some e) h = (laid p f all typed e h.0, scalar-part p f all typed e h.0 h.1)

  after-laid-any : (after : Option Expression) → IfSome after (IsTyped p f) → IsLaidAny c after
  after-laid-any None h = tt
  after-laid-any (Some e) h = laid p f all typed e h

  while-laid : (n : ℕ) (e : Expression) (body : Run) → IsLaidTest c (Some e) → IsLaidRun body
      → IsLaidRun (while_run c n e body)
  while-laid n e body ht hb = record {
    lays = λ exits block after. emit-lays block (block + loop_blocks c (Some e) None body after) (stays after)
        (op.Mark n) _ refl (loop-lays c (Some e) None body ht tt hb block after);
    alike = λ other. refl;
  }

  for-laid : (n : ℕ) (first : First) (test after : Option Expression) (body : Run) → IsFirst p f first
      → IsLaidTest c test → IsLaidAny c after → IsLaidRun body → IsLaidRun (for_run c n first test after body)
  for-laid n first test after body h ht ha hb = record {
    lays = λ exits block leave.
        let m = first_blocks c first in
        let k = loop_blocks c test after body leave in
        emit-lays block (block + (m + k)) (stays leave) (op.Mark n) _ refl
        (two-lays block m k true true (stays leave) (first_lines c first block)
        (loop_lines c test after body (block + m) leave) (first-lays first h block)
        (loop-lays c test after body ht ha hb (block + m) leave));
    alike = λ other. refl;
  }

  mutual
    pub run-laid : (breaks continues : Bool) (x : Statement) → IsStatement p f breaks continues x
        → IsLaidRun (run_of c x)
    run-laid breaks continues (Declare item) h = straight-laid c _ (item_blocks c item) (item_lines c item)
        (item-lays item h)
    run-laid breaks continues (Empty n) h = straight-laid c 0 0 (λ block. Emit (op.Mark n) ∷ [])
        (λ block. lays-to block block block (block + 0) refl (omega arith)
        (emit-lays block block true (op.Mark n) [] refl (none-lays block true)))
    run-laid breaks continues (Evaluate n e) h = straight-laid c _ ((part_of c e).blocks Dropped)
        (λ block. Emit (op.Mark n) ∷ dropped_lines c e block)
        (λ block. emit-lays block (block + (part_of c e).blocks Dropped) true (op.Mark n) _ refl
        ((laid p f all typed e h).lays block 0 Dropped tt))
    run-laid breaks continues (Block body) h = block-laid c (runs_of c body) (runs-laid breaks continues body h)
    run-laid breaks continues (If n e a b) h =
        let ((t, s), x, y) = h in
        if-laid c n (part_of c e) (run_of c a) (run_of c b) (laid p f all typed e t) (scalar-part p f all typed e t s)
        (run-laid breaks continues a x) (run-laid breaks continues b y)
    run-laid breaks continues (While n e s) h =
        while-laid n e (run_of c s) (test-laid-any (Some e) h.0) (run-laid true true s h.1)
    run-laid breaks continues (Do n s e) h =
        let (x, (t, k)) = h in
        do-laid c n (run_of c s) (part_of c e) (run-laid true true s x) (laid p f all typed e t)
        (scalar-part p f all typed e t k)
    run-laid breaks continues (For n first test after s) h = for-laid n first test after (run_of c s) h.0
        (test-laid-any test h.1) (after-laid-any after h.2) (run-laid true true s h.3)
    run-laid breaks continues (Switch n e labels body) h = switch-laid c n (part_of c e) labels (runs_of c body)
        (laid p f all typed e h.0) (runs-laid true continues body h.3)
    run-laid breaks continues (Break n) h = ending-laid 0 0
        (λ exits block. Emit (op.Mark n) ∷ Emit (op.Jump exits.breaks) ∷ [])
        (λ exits block. lays-to block block block (block + 0) refl (omega arith)
        (emit-lays block block false (op.Mark n) _ refl
        (end-lays block block false (op.Jump exits.breaks) [] refl (none-lays block false))))
    run-laid breaks continues (Continue n) h = ending-laid 0 0
        (λ exits block. Emit (op.Mark n) ∷ Emit (op.Jump exits.continues) ∷ [])
        (λ exits block. lays-to block block block (block + 0) refl (omega arith)
        (emit-lays block block false (op.Mark n) _ refl
        (end-lays block block false (op.Jump exits.continues) [] refl (none-lays block false))))
    run-laid breaks continues (Return n value) h = ending-laid _ (returned_blocks c value)
        (λ exits block. Emit (op.Mark n) ∷ returned_lines c value block)
        (λ exits block. emit-lays block (block + returned_blocks c value) false (op.Mark n) _ refl
        (returned-lays value h block))

    pub runs-laid : (breaks continues : Bool) (xs : Statements) → AreStatements p f breaks continues xs
        → AllByRecursion IsLaidRun (runs_of c xs)
    runs-laid breaks continues Done h = tt
    runs-laid breaks continues (Next s others) h =
        (run-laid breaks continues s h.0, runs-laid breaks continues others h.1)
