-- The functions and objects that the lines of every statement name are those of the program.
use Rattle.std.proofs.Common.{ℕ, suc, ◌+◌, Bool, true, false, List, [], ◌∷◌, ◌++◌, Option}
use Rattle.std.proofs.Common.{Some, None, length, take}
use Rattle.std.specs.Prelude.{if◌then◌else◌, slice_get, IfSome}
use Rattle.std.specs.List.{AllByRecursion}
use Rattle.std.proofs.lemmas.List.Elements.{All-from_recursion, recursion_from_All}
use Rattle.std.proofs.lemmas.Option.{slice_get_within}
use Rattle.std.proofs.lemmas.List.{length-map}
use Rattle.pcc_base.proofs.Lists.{all-at}
use Rattle.c_tree.specs.declared.expression.ArrayRef.{ArrayRef}
use Rattle.c_tree.specs.declared.expression.ArrayRef.TheVariants as refs
use Rattle.c_tree.specs.declared.statement.Label.{Label}
use Rattle.c_tree.specs.declared.types.IntegerType.{IntegerType}
use Rattle.c_tree.specs.declared.types.IntegerType.TheVariants.{Char, Short, Int, UnsignedInt}
use Rattle.c_tree.specs.declared.types.ValueType.{ValueType}
use Rattle.c_tree.specs.declared.types.ValueType.TheVariants.{Void, Integer, Pointer}
use Rattle.c_tree.specs.Evaluation.{type_at}
use Rattle.c_tree.specs.Objects.{data_object}
use Rattle.c_tree.specs.Program.{Expression, Constant, Start as StartOf, Read, Address, Unary, Binary, And, Or}
use Rattle.c_tree.specs.Program.{Conditional, Cast, Assign, Update, Step, Comma, Call, Putchar, Getchar, Exit, Place}
use Rattle.c_tree.specs.Program.{LocalPlace, StaticPlace, Target, Element, Arguments, NoMore, Argument, Initialiser}
use Rattle.c_tree.specs.Program.{Elements, Text, Item, Scalar, Array, First, Nothing, Evaluated, Declared, Statement}
use Rattle.c_tree.specs.Program.{Declare, Empty, Evaluate, Block, If, While, Do, For, Switch, Break, Continue, Return}
use Rattle.c_tree.specs.Program.{Statements, Done, Next, Local, LocalArray, Function, Program}
use Rattle.c_tree.specs.WellTyped.{AreArguments, AreStatements, CanInitialise, CanReturn, IsAssigned, IsCondition}
use Rattle.c_tree.specs.WellTyped.{IsArray, IsFirst, IsItem, IsPlace, IsStatement, IsTyped, IsTypedFunction}
use Rattle.flow_graph.specs.declared.op.Op.TheVariants as op
use Rattle.flow_graph.specs.WellFormed.{NamesWithin}
use Rattle.lower_lines.specs.Expressions.{part_of, parameters_of, parts_of, place_of, test_blocks_of}
use Rattle.lower_lines.specs.Lines.{Line, Emit}
use Rattle.lower_lines.specs.Parts.{Dropped, Tests, Part, in_type, operand}
use Rattle.lower_lines.specs.Programs.{graph_of_function, lines_of_function, no_exits, parameter_of}
use Rattle.lower_lines.specs.Programs.{parameters_lines, words_in}
use Rattle.lower_lines.specs.Statements.{After, Here, To, Leaves, Case, Exits, Labelled, Run, after_lines}
use Rattle.lower_lines.specs.Statements.{array_lines}
use Rattle.lower_lines.specs.Statements.{body_lines, cases_of, comparing, comparing_blocks, continue_block}
use Rattle.lower_lines.specs.Statements.{dead, dead_blocks, default_block, do_run, dropped_lines, elements_lines}
use Rattle.lower_lines.specs.Statements.{ending, exit_blocks, exit_lines, exit_of, first_blocks, first_lines}
use Rattle.lower_lines.specs.Statements.{has_label, if_run, item_blocks, item_lines, items_lines}
use Rattle.lower_lines.specs.Statements.{labelled_before, labelled_from, left_by, local_lines, loop_lines}
use Rattle.lower_lines.specs.Statements.{none_labelled, onward, opening, opening_blocks, reads_none}
use Rattle.lower_lines.specs.Statements.{returned_lines, run_of}
use Rattle.lower_lines.specs.Statements.{runs_of, second_block, second_lines, sequence_lines, started, straight}
use Rattle.lower_lines.specs.Statements.{switch_run}
use Rattle.lower_lines.specs.Statements.{test_blocks_if_any, test_if_any, towards, zeroed_by, zeroing}
use Rattle.lower_lines.specs.Variables.{Context, Spot, local_spot}
use Rattle.lower_lines.specs.BoundsLaws.{NamesAreThere}
use Rattle.lower_lines.proofs.Naming.{IsNamedArray, Named, NamedPart, PlaceNamed, address-named, all-passed-named}
use Rattle.lower_lines.proofs.Naming.{and-named, assign-named, assigned-local-named, binary-named, call-named}
use Rattle.lower_lines.proofs.Naming.{cast-named}
use Rattle.lower_lines.proofs.Naming.{comma-named, conditional-named, constant-named, element-named, exit-named}
use Rattle.lower_lines.proofs.Naming.{getchar-named, named-then, number-named, operand-named, or-named, read-named}
use Rattle.lower_lines.proofs.Naming.{start-named, step-named, target-named, turned-named, unary-named, update-named}
use Rattle.lower_lines.proofs.Types.{some-and}

module _ (p : Program) (f : Function) where
  abbrev c : Context
  c = record { program = p; function = f }

  abbrev F : ℕ
  F = length p.functions

  abbrev O : ℕ
  O = length p.objects

  -- ---- expressions

  array-there : (element : IntegerType) (array : ArrayRef) → IsArray p f array element → IsNamedArray F O c array
  array-there element (refs.Static k) h = let (o, at, is) = some-and (slice_get p.objects k) _ h in
      slice_get_within p.objects k o at
  array-there element (refs.Frame k) h = tt

  mutual
    pub expression-named : (e : Expression) → IsTyped p f e → NamedPart F O (part_of c e)
    expression-named (Constant of n) h = constant-named F O c of n
    expression-named (StartOf element array) h = start-named F O c element array (array-there element array h)
    expression-named (Read of place) h = read-named F O c of (place_of c place) (place-named place of h)
    expression-named (Address element place) h =
        address-named F O c element (place_of c place) (place-named place (Integer element) h.1)
    expression-named (Unary of operator e) h = unary-named F O c of operator (part_of c e) (expression-named e h.0)
    expression-named (Binary of operator a b) h = binary-named F O c of operator (part_of c a) (part_of c b)
        (expression-named a h.0) (expression-named b h.1)
    expression-named (And a b) h = and-named F O c (part_of c a) (part_of c b) (expression-named a h.0)
        (expression-named b h.2)
    expression-named (Or a b) h = or-named F O c (part_of c a) (part_of c b) (expression-named a h.0)
        (expression-named b h.2)
    expression-named (Conditional of t a b) h = conditional-named F O c of (part_of c t) (part_of c a) (part_of c b)
        (expression-named t h.0) (expression-named a h.2) (expression-named b h.3)
    expression-named (Cast to e) h = cast-named F O c to (part_of c e) (expression-named e h.0)
    expression-named (Assign of place e) h = assign-named F O c of (place_of c place) (part_of c e)
        (place-named place of h.0) (expression-named e h.1)
    expression-named (Update of operator place e) h = update-named F O c of operator (place_of c place) (part_of c e)
        (place-named place of h.0) (expression-named e h.1)
    expression-named (Step of operator place) h = step-named F O c of operator (place_of c place)
        (place-named place of h)
    expression-named (Comma a b) h = comma-named F O c (part_of c a) (part_of c b) (expression-named a h.0)
        (expression-named b h.1)
    expression-named (Call of k arguments) h =
        let (g, at, (is, are)) = some-and (slice_get p.functions k) _ h in
        call-named F O c of k _
        (all-passed-named F O c (parameters_of (slice_get p.functions k)) (parts_of c arguments)
        (arguments-all (take g.parameters g.locals) arguments are))
        (slice_get_within p.functions k g at)
    expression-named (Putchar e) h = number-named F O c op.Putchar (part_of c e) (λ d s. tt) (expression-named e h.0)
    expression-named Getchar h = getchar-named F O c
    expression-named (Exit e) h = exit-named F O c (part_of c e) (expression-named e h.0)

    pub place-named : (place : Place) (of : ValueType) → IsPlace p f place of → PlaceNamed F O (place_of c place)
    place-named (LocalPlace v) of h = tt
    place-named (StaticPlace k) of h =
        let (o, at, is) = some-and (slice_get p.objects k) _ h in slice_get_within p.objects k o at
    place-named (Target element e) of h = target-named F O c (part_of c e) (expression-named e h.0)
    place-named (Element element a i) of h = element-named F O c element (part_of c a).of (part_of c a) (part_of c i)
        (expression-named a h.0) (expression-named i h.1)

    pub arguments-all : (parameters : List Local) (arguments : Arguments) → AreArguments p f parameters arguments
        → AllByRecursion (NamedPart F O) (parts_of c arguments)
    arguments-all parameters NoMore h = tt
    arguments-all [] (Argument e es) h = absurd h
    arguments-all (l ∷ ls) (Argument e es) h = (expression-named e h.0, arguments-all ls es h.2)

  -- ---- items

  abbrev N : List Line → Type 0
  N lines = Named F O lines

  both : (xs ys : List Line) → N xs → N ys → N (xs ++ ys)
  both xs ys h k = named-then F O xs ys h k

  zeroed-named : (of : ValueType) (spot : Spot) → N (zeroed_by of spot)
  zeroed-named Void spot = tt
  zeroed-named (Integer t) spot = (tt, tt)
  zeroed-named (Pointer t) spot = (tt, (tt, tt))

  unless-named : (t : Bool) (lines : List Line) → N lines → N (if t then [] else lines)
  unless-named true lines h = tt
  unless-named false lines h = h

  local-lines-named : (local : ℕ) (value : Option Expression) (block : ℕ) → IfSome value (IsTyped p f)
      → N (local_lines c local value block)
  local-lines-named local None block h = zeroed-named (type_at f local) (local_spot c local)
  local-lines-named local (Some e) block h = both (if reads_none e then [] else zeroing c local) _
      (unless-named (reads_none e) (zeroing c local) (zeroed-named (type_at f local) (local_spot c local)))
      ((assigned-local-named F O c (type_at f local) local (part_of c e) (expression-named e h)).named block 0 Dropped)

  elements-named : (t : IntegerType) (of : ValueType) (place : ℕ) (es : List Expression) (block : ℕ)
      → AllByRecursion (IsAssigned p f of) es → N (elements_lines c t place es block)
  elements-named t of place [] block h = tt
  elements-named t of place (e ∷ es) block h =
      let x = operand c true (part_of c e) in
      both (x.lines block 1) _
      ((operand-named F O c true (part_of c e) (expression-named e h.0.0)).named block 1)
      (tt, (tt, elements-named t of (suc place) es (block + x.blocks) h.1))

  array-lines-named : (k : ℕ) (t : IntegerType) (value : Initialiser) (a : LocalArray) (block : ℕ)
      → CanInitialise p f a value → N (array_lines c k t value block)
  array-lines-named k t (Elements es) a block h = (
    tt,
    (
      tt,
      elements-named t (Integer a.element) 0 es block
          (recursion_from_All (IsAssigned p f (Integer a.element)) es h.1),
    ),
  )
  array-lines-named k t (Text object) a block h =
      let (o, at, is) = some-and (slice_get p.objects object) _ h in
      (tt, (tt, (slice_get_within p.objects object o at, (tt, (tt, (tt, (tt, (tt, (tt, (tt, (tt, tt)))))))))))

  assigned-any : (of : ValueType) (value : Option Expression) → IfSome value (IsAssigned p f of)
      → IfSome value (IsTyped p f)
  assigned-any of None h = tt
  assigned-any of (Some e) h = h.0

  item-named : (item : Item) (block : ℕ) → IsItem p f item → N (item_lines c item block)
  item-named (Scalar n local value) block h =
      let (l, at, k) = some-and (slice_get f.locals local) _ h in
      (tt, local-lines-named local value block (assigned-any l.of value k))
  item-named (Array n k t value) block h =
      let (a, at, is) = some-and (slice_get f.arrays k) _ h in (tt, array-lines-named k t value a block is.1)

  items-named : (items : List Item) (block : ℕ) → AllByRecursion (IsItem p f) items → N (items_lines c items block)
  items-named [] block h = tt
  items-named (item ∷ items) block h = both (item_lines c item block) _ (item-named item block h.0)
      (items-named items (block + item_blocks c item) h.1)

  first-named : (first : First) (block : ℕ) → IsFirst p f first → N (first_lines c first block)
  first-named Nothing block h = tt
  first-named (Evaluated e) block h = (expression-named e h).named block 0 Dropped
  first-named (Declared items) block h = items-named items block (recursion_from_All (IsItem p f) items h)

  -- ---- where control goes

  record NamedRun (r : Run) : Type 0 where
    named : (exits : Exits) (block : ℕ) (after : After) → N (r.lines exits block after)

  left-named : (of : ValueType) → N (left_by of c)
  left-named Void = (tt, tt)
  left-named (Integer t) = (tt, (tt, tt))
  left-named (Pointer t) = (tt, (tt, tt))

  onward-named : (after : After) → N (onward c after)
  onward-named Here = tt
  onward-named (To block) = (tt, tt)
  onward-named Leaves = left-named f.result

  exit-lines-named : (block : ℕ) (after : After) → N (exit_lines c block after)
  exit-lines-named block Here = tt
  exit-lines-named block (To other) = tt
  exit-lines-named block Leaves = left-named f.result

  dead-named : (block : ℕ) (after : After) → N (dead block after)
  dead-named block Here = tt
  dead-named block (To other) = tt
  dead-named block Leaves = tt

  straight-named : (levels blocks : ℕ) (lines : ℕ → List Line) → ((block : ℕ) → N (lines block))
      → NamedRun (straight c levels blocks lines)
  straight-named levels blocks lines h = record {
    named = λ exits block after. both (lines block) _ (h block) (onward-named after);
  }

  ending-named : (levels blocks : ℕ) (lines : Exits → ℕ → List Line)
      → ((exits : Exits) (block : ℕ) → N (lines exits block)) → NamedRun (ending levels blocks lines)
  ending-named levels blocks lines h = record {
    named = λ exits block after. both (lines exits (block + dead_blocks after)) _ (h exits (block + dead_blocks after))
        (dead-named block after);
  }

  second-named : (t : Bool) (second : ℕ) (lines : List Line) → N lines → N (second_lines t second lines)
  second-named true second lines h = tt
  second-named false second lines h = h

  if-named : (n : ℕ) (e : Part) (a b : Run) → NamedPart F O e → NamedRun a → NamedRun b → NamedRun (if_run c n e a b)
  if-named n e a b h ha hb = record {
    named = λ exits block after.
        let exit = exit_of block after in
        let first = block + exit_blocks after in
        let second = suc first + test_blocks_of e + a.blocks (To 0) in (
          tt,
          both (e.lines (suc first) 0 (Tests first (second_block b.nothing exit second))) _
              (h.named (suc first) 0 (Tests first (second_block b.nothing exit second)))
              (both (a.lines exits (suc first + test_blocks_of e) (To exit)) _
              (ha.named exits (suc first + test_blocks_of e) (To exit))
              (both (second_lines b.nothing second (b.lines exits (suc second) (To exit))) _
              (second-named b.nothing second (b.lines exits (suc second) (To exit)) (hb.named exits (suc second)
              (To exit)))
              (exit-lines-named block after))),
        );
  }

  -- ---- loops

  test-any-named : (test : Option Expression) → IfSome test (IsCondition p f) → (block body exit : ℕ)
      → N (test_if_any c test block body exit)
  test-any-named None h block body exit = tt
  test-any-named (Some e) h block body exit = both ((part_of c e).lines block 0 (Tests body exit)) _
      ((expression-named e h.0).named block 0 (Tests body exit)) tt

  after-any-named : (after : Option Expression) → IfSome after (IsTyped p f) → (start block : ℕ)
      → N (after_lines c after start block)
  after-any-named None h start block = tt
  after-any-named (Some e) h start block = both ((part_of c e).lines (suc block) 0 Dropped) _
      ((expression-named e h).named (suc block) 0 Dropped) (tt, tt)

  loop-named : (test after : Option Expression) (body : Run) → IfSome test (IsCondition p f)
      → IfSome after (IsTyped p f) → NamedRun body → (block : ℕ) (leave : After)
      → N (loop_lines c test after body block leave)
  loop-named test after body ht ha hb block leave =
      let exit = exit_of block leave in
      let start = block + exit_blocks leave in
      let inside = suc start + test_blocks_if_any c test in
      let behind = inside + body.blocks (To 0) in
      let again = continue_block after start behind in (
        tt,
        (
          tt,
          both (test_if_any c test (start + 2) (suc start) exit) _
              (test-any-named test ht (start + 2) (suc start) exit)
              (both (body.lines (record { breaks = exit; continues = again }) inside (To again)) _
              (hb.named (record { breaks = exit; continues = again }) inside (To again))
              (both (after_lines c after start behind) _ (after-any-named after ha start behind)
              (exit-lines-named block leave))),
        ),
      )

  do-named : (n : ℕ) (body : Run) (e : Part) → NamedRun body → NamedPart F O e → NamedRun (do_run c n body e)
  do-named n body e hb h = record {
    named = λ exits block after.
        let exit = exit_of block after in
        let start = block + exit_blocks after in
        let inside = start + 2 in (
          tt,
          (
            tt,
            (
              tt,
              both (body.lines (record { breaks = exit; continues = suc start }) inside (To (suc start))) _
                  (hb.named (record { breaks = exit; continues = suc start }) inside (To (suc start)))
                  (both (e.lines (inside + body.blocks (To 0)) 0 (Tests start exit)) _
                  (h.named (inside + body.blocks (To 0)) 0 (Tests start exit)) (exit-lines-named block after)),
            ),
          ),
        );
  }

  -- ---- statements in order

  started-named : (o : Option ℕ) → N (started o)
  started-named None = tt
  started-named (Some block) = tt

  sequence-named : (labelled : Labelled) (place : ℕ) (rs : List Run) → AllByRecursion NamedRun rs → (exits : Exits)
      (block : ℕ) (after : After) → N (sequence_lines c labelled place rs exits block after)
  sequence-named labelled place [] h exits block after = onward-named after
  sequence-named labelled place (r ∷ []) h exits block after = both (started (labelled place)) _
      (started-named (labelled place)) (h.0.named exits block after)
  sequence-named labelled place (r ∷ q ∷ rs) h exits block after =
      let next = towards (labelled (suc place)) in
      both (started (labelled place)) _ (started-named (labelled place))
      (both (r.lines exits block next) _ (h.0.named exits block next)
      (sequence-named labelled (suc place) (q ∷ rs) h.1 exits (block + r.blocks next) after))

  comparing-named : (x otherwise : ℕ) (cases : List Case) (block : ℕ) → N (comparing c x otherwise cases block)
  comparing-named x otherwise [] block = (tt, tt)
  comparing-named x otherwise (one ∷ []) block = (tt, (tt, tt))
  comparing-named x otherwise (one ∷ other ∷ cases) block =
      (tt, (tt, comparing-named x otherwise (other ∷ cases) (suc block)))

  opening-named : (t : Bool) (block : ℕ) → N (opening t block)
  opening-named true block = tt
  opening-named false block = tt

  body-named : (labelled : Labelled) (starts : Bool) (rs : List Run) → AllByRecursion NamedRun rs → (exits : Exits)
      (block : ℕ) (after : After) → N (body_lines c labelled starts rs exits block after)
  body-named labelled starts [] h exits block after = tt
  body-named labelled starts (r ∷ rs) h exits block after = both (opening starts block) _ (opening-named starts block)
      (sequence-named labelled 0 (r ∷ rs) h exits (block + opening_blocks starts) after)

  switch-named : (n : ℕ) (e : Part) (labels : List Label) (rs : List Run) → NamedPart F O e
      → AllByRecursion NamedRun rs → NamedRun (switch_run c n e labels rs)
  switch-named n e labels rs h hs = record {
    named = λ exits block after.
        let exit = exit_of block after in
        let first = block + exit_blocks after in
        let cases = cases_of first labels labels in
        let tests = first + labelled_before labels (length rs) in
        let value = tests + comparing_blocks cases in
        let x = operand c true e in
        let inner : Exits = record { breaks = exit; continues = exits.continues } in (
          tt,
          both (x.lines value 0) _ ((operand-named F O c true e h).named value 0)
              (both (comparing c (x.spot 0).number (default_block exit first labels) cases tests) _
              (comparing-named (x.spot 0).number (default_block exit first labels) cases tests)
              (both (body_lines c (labelled_from first labels) (has_label labels 0) rs inner (value + x.blocks)
              (To exit)) _
              (body-named (labelled_from first labels) (has_label labels 0) rs hs inner (value + x.blocks) (To exit))
              (exit-lines-named block after))),
        );
  }

  can-return : (of : ValueType) (e : Expression) → CanReturn p f of (Some e) → IsTyped p f e
  can-return Void e h = absurd h
  can-return (Integer t) e h = h.0
  can-return (Pointer t) e h = h.0

  returned-named : (value : Option Expression) → CanReturn p f f.result value → (block : ℕ)
      → N (returned_lines c value block)
  returned-named None h block = (tt, tt)
  returned-named (Some e) h block =
      let a = in_type c f.result (part_of c e) in
      both ((operand c true a).lines block 0) _
      ((operand-named F O c true a (turned-named F O c f.result (part_of c e)
      (expression-named e (can-return f.result e h)))).named block 0) (tt, tt)

  -- ---- every statement

  mutual
    run-named : (breaks continues : Bool) (x : Statement) → IsStatement p f breaks continues x → NamedRun (run_of c x)
    run-named breaks continues (Declare item) h = straight-named _ _ (item_lines c item)
        (λ block. item-named item block h)
    run-named breaks continues (Empty n) h = straight-named _ _ (λ block. Emit (op.Mark n) ∷ []) (λ block. (tt, tt))
    run-named breaks continues (Evaluate n e) h = straight-named _ _
        (λ block. Emit (op.Mark n) ∷ dropped_lines c e block)
        (λ block. (tt, (expression-named e h).named block 0 Dropped))
    run-named breaks continues (Block body) h = record {
      named = sequence-named none_labelled 0 (runs_of c body) (runs-named breaks continues body h);
    }
    run-named breaks continues (If n e a b) h =
        let ((t, s), x, y) = h in
        if-named n (part_of c e) (run_of c a) (run_of c b) (expression-named e t) (run-named breaks continues a x)
        (run-named breaks continues b y)
    run-named breaks continues (While n e s) h =
        let body = run-named true true s h.1 in
        record {
          named = λ exits block after. (tt, loop-named (Some e) None (run_of c s) h.0 tt body block after);
        }
    run-named breaks continues (Do n s e) h =
        let (x, (t, k)) = h in
        do-named n (run_of c s) (part_of c e) (run-named true true s x) (expression-named e t)
    run-named breaks continues (For n first test after s) h =
        let body = run-named true true s h.3 in
        record {
          named = λ exits block leave. (
            tt,
            both (first_lines c first block) _ (first-named first block h.0)
                (loop-named test after (run_of c s) h.1 h.2 body (block + first_blocks c first) leave),
          );
        }
    run-named breaks continues (Switch n e labels body) h = switch-named n (part_of c e) labels (runs_of c body)
        (expression-named e h.0) (runs-named true continues body h.3)
    run-named breaks continues (Break n) h = ending-named 0 0
        (λ exits block. Emit (op.Mark n) ∷ Emit (op.Jump exits.breaks) ∷ []) (λ exits block. (tt, (tt, tt)))
    run-named breaks continues (Continue n) h = ending-named 0 0
        (λ exits block. Emit (op.Mark n) ∷ Emit (op.Jump exits.continues) ∷ []) (λ exits block. (tt, (tt, tt)))
    run-named breaks continues (Return n value) h = ending-named _ _
        (λ exits block. Emit (op.Mark n) ∷ returned_lines c value block)
        (λ exits block. (tt, returned-named value h block))

    runs-named : (breaks continues : Bool) (xs : Statements) → AreStatements p f breaks continues xs
        → AllByRecursion NamedRun (runs_of c xs)
    runs-named breaks continues Done h = tt
    runs-named breaks continues (Next s others) h =
        (run-named breaks continues s h.0, runs-named breaks continues others h.1)

  -- ---- functions

  parameter-named : (of : ValueType) (spot : Spot) (word : ℕ) → N (parameter_of c of spot word)
  parameter-named Void spot word = tt
  parameter-named (Integer Char) spot word = (tt, (tt, tt))
  parameter-named (Integer Short) spot word = (tt, (tt, tt))
  parameter-named (Integer Int) spot word = (tt, tt)
  parameter-named (Integer UnsignedInt) spot word = (tt, tt)
  parameter-named (Pointer t) spot word = (tt, (tt, tt))

  parameters-named : (ls : List Local) (local word : ℕ) → N (parameters_lines c ls local word)
  parameters-named [] local word = tt
  parameters-named (l ∷ ls) local word = both (parameter_of c l.of (local_spot c local) word) _
      (parameter-named l.of (local_spot c local) word) (parameters-named ls (suc local) (word + words_in l.of))

  pub function-named : IsTypedFunction p f → N (lines_of_function c)
  function-named typed = (
    tt,
    both (parameters_lines c (take f.parameters f.locals) 0 0) _
        (parameters-named (take f.parameters f.locals) 0 0)
        (sequence-named none_labelled 0 (runs_of c f.body)
        (runs-named false false f.body typed.body) no_exits 1 Leaves),
  )

pub names-are-there : NamesAreThere
names-are-there p well k f at =
    let typed = all-at (IsTypedFunction p) p.functions k f
    (recursion_from_All (IsTypedFunction p) p.functions well.functions) at in
    let functions = length-map p.functions (graph_of_function p) in
    let objects = length-map p.objects data_object in
    rw functions (rw objects (All-from_recursion (NamesWithin (length p.functions) (length p.objects))
    (graph_of_function p f).ops (function-named p f typed)))
