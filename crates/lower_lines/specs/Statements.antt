-- The lines of statements and declared items, as C99 6.7.8 and 6.8 have them. Each begins with its mark.
use Rattle.std.specs.Prelude.{ℕ, zero, suc, ◌+◌, ◌==◌, Bool, true, false, ◌||◌, ℤ, pos, List, [], ◌∷◌, ◌++◌}
use Rattle.std.specs.Prelude.{length, max, min, Option, Some, None, slice_get, if◌then◌else◌}
use Rattle.c_tree.specs.declared.statement.Label.{Label}
use Rattle.c_tree.specs.declared.types.IntegerType.{IntegerType}
use Rattle.c_tree.specs.declared.types.ValueType.{ValueType}
use Rattle.c_tree.specs.declared.types.ValueType.TheVariants.{Void, Integer, Pointer}
use Rattle.c_tree.specs.Evaluation.{first_label, is_default, type_at}
use Rattle.c_tree.specs.Program.{Expression, Constant, Start as StartOf, Initialiser, Elements, Text, Item, Scalar}
use Rattle.c_tree.specs.Program.{Array}
use Rattle.c_tree.specs.Program.{First, Nothing, Evaluated, Declared, Statement, Declare, Empty, Evaluate, Block, If}
use Rattle.c_tree.specs.Program.{While, Do, For, Switch, Break, Continue, Return, Statements, Done, Next, LocalArray}
use Rattle.c_tree.specs.Program.{StaticObject}
use Rattle.flow_graph.specs.declared.op.Comparison.TheVariants.{Eq, Lt}
use Rattle.flow_graph.specs.declared.op.Op.TheVariants as op
use Rattle.lower_lines.specs.Expressions.{assigned_local, part_of, test_blocks_of}
use Rattle.lower_lines.specs.Lines.{Line, Start, Emit}
use Rattle.lower_lines.specs.Parts.{Dropped, Tests, Part, bits_of, in_type, operand}
use Rattle.lower_lines.specs.Variables.{Context, ForOld, ForScratch, Spot, local_spot, own}
use Rattle.lower_lines.specs.Variables.{temporary}

-- ---- where control goes behind a statement

-- It stays in the open block; it goes to a block; or the function is left, as one that falls off its end.
pub data After : Type 0 where
  Here : After
  To : (block : ℕ) → After
  Leaves : After

-- where `break` and `continue` go (C99 6.8.6)
pub record Exits : Type 0 where
  pub breaks : ℕ
  pub continues : ℕ

-- A statement as a part of others: whether it is a block without statements, how many levels of temporaries and how
-- many blocks its lines take, and the lines, whose blocks are numbered from one on. Behind a statement after which
-- control stays, a block is open.
pub record Run : Type 0 where
  pub nothing : Bool
  pub levels : ℕ
  pub blocks : After → ℕ
  pub lines : Exits → (block : ℕ) → After → List Line

-- a function that falls off its end, or returns no value, gives 0
abbrev pub left_by : ValueType → Context → List Line
left_by Void c = Emit (op.Return None) ∷ []
left_by (Integer t) c = Emit (op.Const (own c 0).number (pos 0)) ∷ Emit (op.Return (Some (own c 0).number)) ∷ []
left_by (Pointer t) c = Emit (op.Const (own c 0).number (pos 0)) ∷ Emit (op.Return (Some (own c 0).number)) ∷ []

abbrev pub leaving : Context → List Line
leaving c = left_by c.function.result c

-- behind lines after which a block is open
abbrev pub onward : Context → After → List Line
onward c Here = []
onward c (To block) = Emit (op.Jump block) ∷ []
onward c Leaves = leaving c

-- behind an end: where control stays, a block is open that nothing leads to
abbrev pub dead : ℕ → After → List Line
dead block Here = Start block ∷ []
dead block (To other) = []
dead block Leaves = []

abbrev pub dead_blocks : After → ℕ
dead_blocks Here = 1
dead_blocks (To other) = 0
dead_blocks Leaves = 0

-- the block behind a statement to which several ways lead: one of its own, where none is named already
abbrev pub exit_of : ℕ → After → ℕ
exit_of block Here = block
exit_of block (To other) = other
exit_of block Leaves = block

abbrev pub exit_blocks : After → ℕ
exit_blocks Here = 1
exit_blocks (To other) = 0
exit_blocks Leaves = 1

abbrev pub exit_lines : Context → ℕ → After → List Line
exit_lines c block Here = Start block ∷ []
exit_lines c block (To other) = []
exit_lines c block Leaves = Start block ∷ leaving c

-- a statement that is some lines, after which a block is open
abbrev pub straight : Context → ℕ → ℕ → (ℕ → List Line) → Run
straight c levels blocks lines = record {
  nothing = false;
  levels = levels;
  blocks = λ after. blocks;
  lines = λ exits block after. lines block ++ onward c after;
}

-- a statement that ends a block
abbrev pub ending : ℕ → ℕ → (Exits → ℕ → List Line) → Run
ending levels blocks lines = record {
  nothing = false;
  levels = levels;
  blocks = λ after. blocks + dead_blocks after;
  lines = λ exits block after. lines exits (block + dead_blocks after) ++ dead block after;
}

-- ---- declared items (C99 6.7.8)

-- a local becomes 0 or null
abbrev pub zeroed_by : ValueType → Spot → List Line
zeroed_by Void spot = []
zeroed_by (Integer t) spot = Emit (op.Const spot.number (pos 0)) ∷ []
zeroed_by (Pointer t) spot = Emit (op.Const spot.array (pos 0)) ∷ Emit (op.Const spot.number (pos 0)) ∷ []

abbrev pub zeroing : Context → ℕ → List Line
zeroing c local = zeroed_by (type_at c.function local) (local_spot c local)

-- a number or a string, which reads no local: the zero before it needs no op
abbrev pub reads_none : Expression → Bool
reads_none (Constant of n) = true
reads_none (StartOf element array) = true
reads_none _ = false

-- the initialiser of a local is an assignment to it
abbrev pub initialiser_part : Context → ℕ → Expression → Part
initialiser_part c local e = assigned_local c (type_at c.function local) local (part_of c e)

abbrev pub local_lines : Context → ℕ → Option Expression → ℕ → List Line
local_lines c local None block = zeroing c local
local_lines c local (Some e) block =
    (if reads_none e then [] else zeroing c local) ++ (initialiser_part c local e).lines block 0 Dropped

abbrev pub local_blocks : Context → ℕ → Option Expression → ℕ
local_blocks c local None = 0
local_blocks c local (Some e) = (initialiser_part c local e).blocks Dropped

-- the elements of an array from a place on; the array is in the temporaries of level 0
abbrev pub elements_lines : Context → IntegerType → ℕ → List Expression → ℕ → List Line
elements_lines c t place [] block = []
elements_lines c t place (e ∷ es) block =
    let x = operand c true (part_of c e) in
    x.lines block 1 ++ (Emit (op.Const (own c 0).number (pos place))
    ∷ Emit (op.Store (bits_of t) (own c 0).array (own c 0).number (x.spot 1).number)
    ∷ elements_lines c t (suc place) es (block + x.blocks))

abbrev pub elements_blocks : Context → List Expression → ℕ
elements_blocks c [] = 0
elements_blocks c (e ∷ es) = (operand c true (part_of c e)).blocks + elements_blocks c es

-- how many elements a string gives an array
abbrev pub count_in : Option LocalArray → ℕ
count_in None = 0
count_in (Some a) = a.count

abbrev pub length_in : Option StaticObject → ℕ
length_in None = 0
length_in (Some o) = length o.elements

abbrev pub text_count : Context → ℕ → ℕ → ℕ
text_count c array object = min (count_in (slice_get c.function.arrays array))
    (length_in (slice_get c.program.objects object))

-- A string is copied by a loop without turn and mark: the block runs once for each element. The array and the index
-- are in the temporaries of level 0, the string and the number of elements in those of level 1.
abbrev pub copying : Context → IntegerType → ℕ → ℕ → List Line
copying c t count block =
    let to = own c 0 in
    let from = own c 1 in
    let element = temporary c 0 ForOld in
    let one = temporary c 0 ForScratch in
    Emit (op.Const to.number (pos 0)) ∷ Emit (op.Const from.number (pos count)) ∷ Emit (op.Const one (pos 1))
    ∷ Emit (op.Jump block) ∷ Start block
    ∷ Emit (op.Load (bits_of t) element from.array to.number) ∷ Emit (op.Store (bits_of t) to.array to.number element)
    ∷ Emit (op.Add to.number to.number one) ∷ Emit (op.Branch Lt to.number from.number block (suc block))
    ∷ Start (suc block) ∷ []

abbrev pub array_lines : Context → ℕ → IntegerType → Initialiser → ℕ → List Line
array_lines c k t (Elements es) block = Emit (op.Clear k) ∷ Emit (op.Frame (own c 0).array k)
    ∷ elements_lines c t 0 es block
array_lines c k t (Text object) block = Emit (op.Clear k) ∷ Emit (op.Frame (own c 0).array k)
    ∷ Emit (op.Static (own c 1).array object) ∷ copying c t (text_count c k object) block

abbrev pub array_blocks : Context → Initialiser → ℕ
array_blocks c (Elements es) = elements_blocks c es
array_blocks c (Text object) = 2

abbrev pub item_lines : Context → Item → ℕ → List Line
item_lines c (Scalar n local value) block = Emit (op.Mark n) ∷ local_lines c local value block
item_lines c (Array n k t value) block = Emit (op.Mark n) ∷ array_lines c k t value block

abbrev pub item_blocks : Context → Item → ℕ
item_blocks c (Scalar n local value) = local_blocks c local value
item_blocks c (Array n k t value) = array_blocks c value

abbrev pub items_lines : Context → List Item → ℕ → List Line
items_lines c [] block = []
items_lines c (item ∷ items) block = item_lines c item block ++ items_lines c items (block + item_blocks c item)

abbrev pub items_blocks : Context → List Item → ℕ
items_blocks c [] = 0
items_blocks c (item ∷ items) = item_blocks c item + items_blocks c items

abbrev pub elements_levels : Context → List Expression → ℕ
elements_levels c [] = 1
elements_levels c (e ∷ es) = max (suc (part_of c e).levels) (elements_levels c es)

abbrev pub item_levels : Context → Item → ℕ
item_levels c (Scalar n local None) = 0
item_levels c (Scalar n local (Some e)) = (part_of c e).levels
item_levels c (Array n k t (Elements es)) = elements_levels c es
item_levels c (Array n k t (Text object)) = 2

abbrev pub items_levels : Context → List Item → ℕ
items_levels c [] = 0
items_levels c (item ∷ items) = max (item_levels c item) (items_levels c items)

-- ---- expressions of statements

abbrev pub dropped_lines : Context → Expression → ℕ → List Line
dropped_lines c e block = (part_of c e).lines block 0 Dropped

abbrev pub dropped_blocks : Context → Expression → ℕ
dropped_blocks c e = (part_of c e).blocks Dropped

abbrev pub dropped_if_any : Context → Option Expression → ℕ → List Line
dropped_if_any c None block = []
dropped_if_any c (Some e) block = dropped_lines c e block

abbrev pub dropped_blocks_if_any : Context → Option Expression → ℕ
dropped_blocks_if_any c None = 0
dropped_blocks_if_any c (Some e) = dropped_blocks c e

abbrev pub first_lines : Context → First → ℕ → List Line
first_lines c Nothing block = []
first_lines c (Evaluated e) block = dropped_lines c e block
first_lines c (Declared items) block = items_lines c items block

abbrev pub first_blocks : Context → First → ℕ
first_blocks c Nothing = 0
first_blocks c (Evaluated e) = dropped_blocks c e
first_blocks c (Declared items) = items_blocks c items

-- how many levels an expression takes, if there is one
abbrev pub levels_if_any : Context → Option Expression → ℕ
levels_if_any c None = 0
levels_if_any c (Some e) = (part_of c e).levels

abbrev pub first_levels : Context → First → ℕ
first_levels c Nothing = 0
first_levels c (Evaluated e) = (part_of c e).levels
first_levels c (Declared items) = items_levels c items

-- the value that a function returns, in its type
abbrev pub returned_lines : Context → Option Expression → ℕ → List Line
returned_lines c None block = Emit (op.Return None) ∷ []
returned_lines c (Some e) block =
    let x = operand c true (in_type c c.function.result (part_of c e)) in
    x.lines block 0 ++ Emit (op.Return (Some (x.spot 0).number)) ∷ []

abbrev pub returned_blocks : Context → Option Expression → ℕ
returned_blocks c None = 0
returned_blocks c (Some e) = (operand c true (in_type c c.function.result (part_of c e))).blocks

-- ---- `if` (C99 6.8.4.1)

-- The second way has no block where there is nothing on it.
abbrev pub second_block : Bool → ℕ → ℕ → ℕ
second_block true exit block = exit
second_block false exit block = block

abbrev pub second_lines : Bool → ℕ → List Line → List Line
second_lines true block lines = []
second_lines false block lines = Start block ∷ lines

abbrev pub second_blocks : Run → ℕ
second_blocks b = if b.nothing then 0 else suc (b.blocks (To 0))

-- the blocks are: the one behind, that of the first way, those of its parts, and that of the second way with its own
abbrev pub if_run : Context → ℕ → Part → Run → Run → Run
if_run c n e a b = record {
  nothing = false;
  levels = max e.levels (max a.levels b.levels);
  blocks = λ after. exit_blocks after + suc (test_blocks_of e + a.blocks (To 0) + second_blocks b);
  lines = λ exits block after.
      let exit = exit_of block after in
      let first = block + exit_blocks after in
      let second = suc first + test_blocks_of e + a.blocks (To 0) in
      Emit (op.Mark n) ∷ (e.lines (suc first) 0 (Tests first (second_block b.nothing exit second))
      ++ (Start first ∷ (a.lines exits (suc first + test_blocks_of e) (To exit)
      ++ (second_lines b.nothing second (b.lines exits (suc second) (To exit)) ++ exit_lines c block after))));
}

-- ---- loops (C99 6.8.5)

-- What a loop has to be lowered: its test, if it has one, and what is evaluated after its body, if anything.
abbrev pub test_if_any : Context → Option Expression → ℕ → ℕ → ℕ → List Line
test_if_any c None block body exit = []
test_if_any c (Some e) block body exit = (part_of c e).lines block 0 (Tests body exit) ++ Start body ∷ []

abbrev pub test_blocks_if_any : Context → Option Expression → ℕ
test_blocks_if_any c None = 0
test_blocks_if_any c (Some e) = suc (test_blocks_of (part_of c e))

-- `continue` goes to what comes after the body, and where nothing does, to the start
abbrev pub continue_block : Option Expression → ℕ → ℕ → ℕ
continue_block None start block = start
continue_block (Some e) start block = block

abbrev pub after_lines : Context → Option Expression → ℕ → ℕ → List Line
after_lines c None start block = []
after_lines c (Some e) start block = Start block ∷ (dropped_lines c e (suc block) ++ Emit (op.Jump start) ∷ [])

abbrev pub after_blocks : Context → Option Expression → ℕ
after_blocks c None = 0
after_blocks c (Some e) = suc (dropped_blocks c e)

-- The blocks are: the one behind, the start, where the turn is, then that of the body and those of the test, those of
-- the body's parts, and that of what comes after with its own.
abbrev pub loop_lines : Context → Option Expression → Option Expression → Run → ℕ → After → List Line
loop_lines c test after body block leave =
    let exit = exit_of block leave in
    let start = block + exit_blocks leave in
    let inside = suc start + test_blocks_if_any c test in
    let behind = inside + body.blocks (To 0) in
    let again = continue_block after start behind in
    Emit (op.Jump start) ∷ Start start ∷ Emit op.Turn ∷ (test_if_any c test (start + 2) (suc start) exit
    ++ (body.lines (record { breaks = exit; continues = again }) inside (To again)
    ++ (after_lines c after start behind ++ exit_lines c block leave)))

abbrev pub loop_blocks : Context → Option Expression → Option Expression → Run → After → ℕ
loop_blocks c test after body leave = exit_blocks leave
    + suc (test_blocks_if_any c test + body.blocks (To 0) + after_blocks c after)

abbrev pub loop_levels : Context → Option Expression → Option Expression → Run → ℕ
loop_levels c test after body = max body.levels (max (levels_if_any c test) (levels_if_any c after))

abbrev pub while_run : Context → ℕ → Expression → Run → Run
while_run c n e body = record {
  nothing = false;
  levels = loop_levels c (Some e) None body;
  blocks = loop_blocks c (Some e) None body;
  lines = λ exits block after. Emit (op.Mark n) ∷ loop_lines c (Some e) None body block after;
}

abbrev pub for_run : Context → ℕ → First → Option Expression → Option Expression → Run → Run
for_run c n first test after body = record {
  nothing = false;
  levels = max (first_levels c first) (loop_levels c test after body);
  blocks = λ leave. first_blocks c first + loop_blocks c test after body leave;
  lines = λ exits block leave. Emit (op.Mark n) ∷ (first_lines c first block
      ++ loop_lines c test after body (block + first_blocks c first) leave);
}

-- the blocks are: the one behind, the start, the test, and those of their parts
abbrev pub do_run : Context → ℕ → Run → Part → Run
do_run c n body e = record {
  nothing = false;
  levels = max body.levels e.levels;
  blocks = λ after. exit_blocks after + (2 + body.blocks (To 0) + test_blocks_of e);
  lines = λ exits block after.
      let exit = exit_of block after in
      let start = block + exit_blocks after in
      let inside = start + 2 in
      Emit (op.Mark n) ∷ Emit (op.Jump start) ∷ Start start ∷ Emit op.Turn
      ∷ (body.lines (record { breaks = exit; continues = suc start }) inside (To (suc start))
      ++ (Start (suc start) ∷ (e.lines (inside + body.blocks (To 0)) 0 (Tests start exit)
      ++ exit_lines c block after)));
}

-- ---- statements in order

-- the block that a statement starts, by its place, if it has a label
abbrev pub Labelled : Type 0
Labelled = ℕ → Option ℕ

abbrev pub none_labelled : Labelled
none_labelled place = None

abbrev pub started : Option ℕ → List Line
started None = []
started (Some block) = Start block ∷ []

abbrev pub towards : Option ℕ → After
towards None = Here
towards (Some block) = To block

abbrev pub sequence_lines : Context → Labelled → ℕ → List Run → Exits → ℕ → After → List Line
sequence_lines c labelled place [] exits block after = onward c after
sequence_lines c labelled place (r ∷ []) exits block after = started (labelled place) ++ r.lines exits block after
sequence_lines c labelled place (r ∷ q ∷ rs) exits block after =
    let next = towards (labelled (suc place)) in
    started (labelled place) ++ (r.lines exits block next
    ++ sequence_lines c labelled (suc place) (q ∷ rs) exits (block + r.blocks next) after)

abbrev pub sequence_blocks : Labelled → ℕ → List Run → After → ℕ
sequence_blocks labelled place [] after = 0
sequence_blocks labelled place (r ∷ []) after = r.blocks after
sequence_blocks labelled place (r ∷ q ∷ rs) after = r.blocks (towards (labelled (suc place)))
    + sequence_blocks labelled (suc place) (q ∷ rs) after

-- the most levels that one of the statements takes
abbrev pub runs_levels : List Run → ℕ
runs_levels [] = 0
runs_levels (r ∷ rs) = max r.levels (runs_levels rs)

abbrev pub is_empty : List Run → Bool
is_empty [] = true
is_empty (r ∷ rs) = false

abbrev pub block_run : Context → List Run → Run
block_run c rs = record {
  nothing = is_empty rs;
  levels = runs_levels rs;
  blocks = sequence_blocks none_labelled 0 rs;
  lines = sequence_lines c none_labelled 0 rs;
}

-- ---- `switch` (C99 6.8.4.2)

abbrev pub has_label : List Label → ℕ → Bool
has_label [] place = false
has_label (label ∷ labels) place = label.before == place || has_label labels place

-- how many of the first statements have labels
abbrev pub labelled_before : List Label → ℕ → ℕ
labelled_before labels zero = 0
labelled_before labels (suc place) = labelled_before labels place + (if has_label labels place then 1 else 0)

-- the labelled statements have blocks in their order, from one on
abbrev pub labelled_from : ℕ → List Label → Labelled
labelled_from block labels place = if has_label labels place then Some (block + labelled_before labels place) else None

-- a value that is compared, and the block of its statement
abbrev pub Case : Type 0
Case = ℤ × ℕ

abbrev pub case_of : Option ℤ → ℕ → List Case
case_of None block = []
case_of (Some value) block = (value, block) ∷ []

abbrev pub cases_of : ℕ → List Label → List Label → List Case
cases_of block all [] = []
cases_of block all (label ∷ labels) = case_of label.value (block + labelled_before all label.before)
    ++ cases_of block all labels

abbrev pub block_or : ℕ → ℕ → List Label → Option ℕ → ℕ
block_or exit block labels None = exit
block_or exit block labels (Some place) = block + labelled_before labels place

-- where control goes that comes to no case: the `default`, or behind the switch
abbrev pub default_block : ℕ → ℕ → List Label → ℕ
default_block exit block labels = block_or exit block labels (first_label is_default labels)

-- The value is compared with each case in order; each comparison but the last has a block behind it.
abbrev pub comparing : Context → ℕ → ℕ → List Case → ℕ → List Line
comparing c x otherwise [] block = Emit (op.Jump otherwise) ∷ []
comparing c x otherwise (one ∷ []) block = Emit (op.Const (temporary c 0 ForScratch) one.0)
    ∷ Emit (op.Branch Eq x (temporary c 0 ForScratch) one.1 otherwise) ∷ []
comparing c x otherwise (one ∷ other ∷ cases) block = Emit (op.Const (temporary c 0 ForScratch) one.0)
    ∷ Emit (op.Branch Eq x (temporary c 0 ForScratch) one.1 block) ∷ Start block
    ∷ comparing c x otherwise (other ∷ cases) (suc block)

abbrev pub comparing_blocks : List Case → ℕ
comparing_blocks [] = 0
comparing_blocks (one ∷ []) = 0
comparing_blocks (one ∷ other ∷ cases) = suc (comparing_blocks (other ∷ cases))

-- A first statement without a label stands in a block that nothing leads to.
abbrev pub opening : Bool → ℕ → List Line
opening true block = []
opening false block = Start block ∷ []

abbrev pub opening_blocks : Bool → ℕ
opening_blocks true = 0
opening_blocks false = 1

abbrev pub body_lines : Context → Labelled → Bool → List Run → Exits → ℕ → After → List Line
body_lines c labelled starts [] exits block after = []
body_lines c labelled starts (r ∷ rs) exits block after = opening starts block
    ++ sequence_lines c labelled 0 (r ∷ rs) exits (block + opening_blocks starts) after

abbrev pub body_blocks : Labelled → Bool → List Run → After → ℕ
body_blocks labelled starts [] after = 0
body_blocks labelled starts (r ∷ rs) after = opening_blocks starts + sequence_blocks labelled 0 (r ∷ rs) after

-- The blocks are: the one behind, those of the labelled statements, those of the comparisons, those of the value, and
-- those of the body. The value stays in the temporaries of level 0, or in a local, until it is compared.
abbrev pub switch_run : Context → ℕ → Part → List Label → List Run → Run
switch_run c n e labels rs = record {
  nothing = false;
  levels = max e.levels (runs_levels rs);
  blocks = λ after. exit_blocks after + (labelled_before labels (length rs)
      + comparing_blocks (cases_of 0 labels labels) + (operand c true e).blocks
      + body_blocks (labelled_from 0 labels) (has_label labels 0) rs (To 0));
  lines = λ exits block after.
      let exit = exit_of block after in
      let first = block + exit_blocks after in
      let cases = cases_of first labels labels in
      let tests = first + labelled_before labels (length rs) in
      let value = tests + comparing_blocks cases in
      let x = operand c true e in
      Emit (op.Mark n) ∷ (x.lines value 0
      ++ (comparing c (x.spot 0).number (default_block exit first labels) cases tests
      ++ (body_lines c (labelled_from first labels) (has_label labels 0) rs
      (record { breaks = exit; continues = exits.continues }) (value + x.blocks) (To exit)
      ++ exit_lines c block after)));
}

-- ---- every statement

abbrev mutual
  pub run_of : Context → Statement → Run
  run_of c (Declare item) = straight c (item_levels c item) (item_blocks c item) (item_lines c item)
  run_of c (Empty n) = straight c 0 0 (λ block. Emit (op.Mark n) ∷ [])
  run_of c (Evaluate n e) = straight c (part_of c e).levels (dropped_blocks c e)
      (λ block. Emit (op.Mark n) ∷ dropped_lines c e block)
  run_of c (Block body) = block_run c (runs_of c body)
  run_of c (If n e a b) = if_run c n (part_of c e) (run_of c a) (run_of c b)
  run_of c (While n e body) = while_run c n e (run_of c body)
  run_of c (Do n body e) = do_run c n (run_of c body) (part_of c e)
  run_of c (For n first test after body) = for_run c n first test after (run_of c body)
  run_of c (Switch n e labels body) = switch_run c n (part_of c e) labels (runs_of c body)
  run_of c (Break n) = ending 0 0 (λ exits block. Emit (op.Mark n) ∷ Emit (op.Jump exits.breaks) ∷ [])
  run_of c (Continue n) = ending 0 0 (λ exits block. Emit (op.Mark n) ∷ Emit (op.Jump exits.continues) ∷ [])
  run_of c (Return n value) = ending (levels_if_any c value) (returned_blocks c value)
      (λ exits block. Emit (op.Mark n) ∷ returned_lines c value block)

  pub runs_of : Context → Statements → List Run
  runs_of c Done = []
  runs_of c (Next s others) = run_of c s ∷ runs_of c others
