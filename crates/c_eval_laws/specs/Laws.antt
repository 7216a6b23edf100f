-- The laws of bounds: what holds of every evaluation of a tree whose calls keep it, and of every program.
use Rattle.std.specs.Prelude.{◌≡◌, ◌≢◌, ℕ, suc, ◌+◌, ◌≤◌, ◌<◌, Bool, Option, List, ◌++◌, length, slice_get}
use Rattle.std.specs.Prelude.{if◌then◌else◌}
use Rattle.pcc_base.specs.Outcome.{ArrayName, Goes, Listing, Outcome, Visit}
use Rattle.c_tree.specs.Evaluation.{Calls, evaluate, locate, evaluate_all, fill, initialise, initialise_local}
use Rattle.c_tree.specs.Evaluation.{Types, declare, declare_all, Runs, run_first, returned}
use Rattle.c_tree.specs.Evaluation.{tested_if_any, evaluated_if_any, after_body, Falls, loop, do_loop, execute}
use Rattle.c_tree.specs.Evaluation.{execute_from, run_function, call_within, source_outcome, Setting}
use Rattle.c_tree.specs.declared.types.IntegerType.{IntegerType}
use Rattle.c_tree.specs.declared.types.ValueType.{ValueType}
use Rattle.c_tree.specs.Program.{Arguments, Expression, First, Initialiser, Item, Place, Program, Statement}
use Rattle.c_tree.specs.Program.{Statements}
use Rattle.c_tree.specs.Store.{Held, State, Evaluated, Gives, Ends, and_then, take_turn}
use Rattle.c_eval_laws.specs.Bounds.{CallsAgree, CallsExtend, CallsKeep, Extending, Keeps}

-- ---- trees

-- a function's body where calls do this, loops have this bound, visits show this, and these are the types of the
-- function's locals and of what it returns
abbrev pub within : Calls → ℕ → Listing → Types → ValueType → Setting
within calls bound listing types result =
    record { calls = calls; bound = bound; listing = listing; types = types; result = result }

-- The evaluation of every tree keeps what evaluations keep, with loops over a bound that isn't lower.
pub record TreesKeep (bound : ℕ) (calls : Calls) : Type 0 where
  pub expressions : (e : Expression) (s : State) → Keeps bound s (evaluate calls e s)
  pub places : (place : Place) (s : State) → Keeps bound s (locate calls place s)
  pub arguments : (arguments : Arguments) (s : State) → Keeps bound s (evaluate_all calls arguments s)
  pub fills : (array : ArrayName) (element : IntegerType) (i : ℕ) (es : List Expression) (s : State)
      → Keeps bound s (fill calls array element i es s)
  pub initialisers : (array : ArrayName) (element : IntegerType) (value : Initialiser) (s : State)
      → Keeps bound s (initialise calls array element value s)
  pub locals : (local : ℕ) (of : ValueType) (value : Option Expression) (s : State)
      → Keeps bound s (initialise_local calls local of value s)
  pub items : (listing : Listing) (types : Types) (item : Item) (s : State)
      → Keeps bound s (declare calls listing types item s)
  pub item_lists : (listing : Listing) (types : Types) (items : List Item) (s : State)
      → Keeps bound s (declare_all calls listing types items s)
  pub firsts : (listing : Listing) (types : Types) (first : First) (s : State)
      → Keeps bound s (run_first calls listing types first s)
  pub tests : (test : Option Expression) (s : State) → Keeps bound s (tested_if_any calls test s)
  pub steps : (step : Option Expression) (s : State) → Keeps bound s (evaluated_if_any calls step s)
  pub returns : (result : ValueType) (value : Option Expression) (s : State)
      → Keeps bound s (returned result calls value s)
  pub statements : (loops : ℕ) (listing : Listing) (types : Types) (result : ValueType) (x : Statement) (s : State)
      → bound ≤ loops → Keeps bound s (execute (within calls loops listing types result) x s)
  pub bodies : (loops : ℕ) (listing : Listing) (types : Types) (result : ValueType) (xs : Statements) (place : ℕ)
      (s : State) → bound ≤ loops → Keeps bound s (execute_from (within calls loops listing types result) xs place s)

-- Trees whose calls keep it do so.
abbrev pub TreesKeepAsCalls : Type 0
TreesKeepAsCalls = (bound : ℕ) (calls : Calls) → CallsKeep bound calls → TreesKeep bound calls

-- The evaluation of every tree with other calls, and more turns, comes to what it does with the first ones.
pub record TreesExtend (bound more : ℕ) (calls others : Calls) : Type 0 where
  pub expressions : (e : Expression) → Extending bound more (evaluate calls e) (evaluate others e)
  pub places : (place : Place) → Extending bound more (locate calls place) (locate others place)
  pub arguments : (arguments : Arguments) → Extending bound more (evaluate_all calls arguments)
      (evaluate_all others arguments)
  pub fills : (array : ArrayName) (element : IntegerType) (i : ℕ) (es : List Expression)
      → Extending bound more (fill calls array element i es) (fill others array element i es)
  pub initialisers : (array : ArrayName) (element : IntegerType) (value : Initialiser)
      → Extending bound more (initialise calls array element value) (initialise others array element value)
  pub locals : (local : ℕ) (of : ValueType) (value : Option Expression)
      → Extending bound more (initialise_local calls local of value) (initialise_local others local of value)
  pub items : (listing : Listing) (types : Types) (item : Item)
      → Extending bound more (declare calls listing types item) (declare others listing types item)
  pub item_lists : (listing : Listing) (types : Types) (items : List Item)
      → Extending bound more (declare_all calls listing types items) (declare_all others listing types items)
  pub firsts : (listing : Listing) (types : Types) (first : First)
      → Extending bound more (run_first calls listing types first) (run_first others listing types first)
  pub tests : (test : Option Expression) → Extending bound more (tested_if_any calls test) (tested_if_any others test)
  pub steps : (step : Option Expression)
      → Extending bound more (evaluated_if_any calls step) (evaluated_if_any others step)
  pub returns : (result : ValueType) (value : Option Expression)
      → Extending bound more (returned result calls value) (returned result others value)
  pub statements : (loops other : ℕ) (listing : Listing) (types : Types) (result : ValueType) (x : Statement)
      → bound ≤ loops → bound + more ≤ other → Extending bound more
      (execute (within calls loops listing types result) x)
      (execute (within others other listing types result) x)
  pub bodies : (loops other : ℕ) (listing : Listing) (types : Types) (result : ValueType) (xs : Statements) (place : ℕ)
      → bound ≤ loops → bound + more ≤ other
      → Extending bound more (execute_from (within calls loops listing types result) xs place)
      (execute_from (within others other listing types result) xs place)

-- Trees extend as calls do.
abbrev pub TreesExtendAsCalls : Type 0
TreesExtendAsCalls = (bound more : ℕ) (calls others : Calls) → CallsExtend bound more calls others
    → TreesExtend bound more calls others

-- The evaluation of every tree is the same with other calls, from a state with fewer turns than the bound.
pub record TreesAgree (bound : ℕ) (calls others : Calls) : Type 0 where
  pub expressions : (e : Expression) (s : State) → s.turns < bound → evaluate calls e s ≡ evaluate others e s
  pub places : (place : Place) (s : State) → s.turns < bound → locate calls place s ≡ locate others place s
  pub arguments : (arguments : Arguments) (s : State) → s.turns < bound
      → evaluate_all calls arguments s ≡ evaluate_all others arguments s
  pub fills : (array : ArrayName) (element : IntegerType) (i : ℕ) (es : List Expression) (s : State)
      → s.turns < bound → fill calls array element i es s ≡ fill others array element i es s
  pub initialisers : (array : ArrayName) (element : IntegerType) (value : Initialiser) (s : State) → s.turns < bound
      → initialise calls array element value s ≡ initialise others array element value s
  pub locals : (local : ℕ) (of : ValueType) (value : Option Expression) (s : State) → s.turns < bound
      → initialise_local calls local of value s ≡ initialise_local others local of value s
  pub items : (listing : Listing) (types : Types) (item : Item) (s : State) → s.turns < bound
      → declare calls listing types item s ≡ declare others listing types item s
  pub item_lists : (listing : Listing) (types : Types) (items : List Item) (s : State) → s.turns < bound
      → declare_all calls listing types items s ≡ declare_all others listing types items s
  pub firsts : (listing : Listing) (types : Types) (first : First) (s : State) → s.turns < bound
      → run_first calls listing types first s ≡ run_first others listing types first s
  pub tests : (test : Option Expression) (s : State) → s.turns < bound
      → tested_if_any calls test s ≡ tested_if_any others test s
  pub steps : (step : Option Expression) (s : State) → s.turns < bound
      → evaluated_if_any calls step s ≡ evaluated_if_any others step s
  pub returns : (result : ValueType) (value : Option Expression) (s : State) → s.turns < bound
      → returned result calls value s ≡ returned result others value s
  pub statements : (loops other : ℕ) (listing : Listing) (types : Types) (result : ValueType) (x : Statement)
      (s : State) → bound ≤ loops → bound ≤ other → s.turns < bound
      → execute (within calls loops listing types result) x s ≡ execute (within others other listing types result) x s
  pub bodies : (loops other : ℕ) (listing : Listing) (types : Types) (result : ValueType) (xs : Statements) (place : ℕ)
      (s : State) → bound ≤ loops → bound ≤ other → s.turns < bound
      → execute_from (within calls loops listing types result) xs place s
      ≡ execute_from (within others other listing types result) xs place s

-- Trees agree as calls do that keep what evaluations keep.
abbrev pub TreesAgreeAsCalls : Type 0
TreesAgreeAsCalls = (bound : ℕ) (calls others : Calls) → CallsKeep bound calls → CallsKeep bound others
    → CallsAgree bound calls others → TreesAgree bound calls others

-- ---- loops

-- the parts of a loop keep what evaluations keep
pub record LoopKeeps (bound : ℕ) (test : State → Evaluated Bool) (body after : Runs) : Type 0 where
  pub tests : (s : State) → Keeps bound s (test s)
  pub bodies : (s : State) → Keeps bound s (body s)
  pub afters : (s : State) → Keeps bound s (after s)

-- Then so does the loop, over a bound that isn't lower.
abbrev pub LoopsKeep : Type 0
LoopsKeep = (bound loops : ℕ) (test : State → Evaluated Bool) (body after : Runs) (s : State) → bound ≤ loops
    → LoopKeeps bound test body after
    → Keeps bound s (loop loops test body after s) × Keeps bound s (do_loop loops test body s)

-- Two bounds above the turns make the same of a loop.
abbrev pub LoopBoundsAgree : Type 0
LoopBoundsAgree = (bound other : ℕ) (test : State → Evaluated Bool) (body after : Runs) (s : State)
    → s.turns < bound → s.turns < other → LoopKeeps (suc s.turns) test body after
    → (loop bound test body after s ≡ loop other test body after s)
    × (do_loop bound test body s ≡ do_loop other test body s)

-- what a loop does from its test on, and then again
abbrev pub from_test : (State → Evaluated Bool) → Runs → Runs → Runs → Runs
from_test test body after again s =
    and_then (test s) (λ holds t. if holds
    then and_then (body t) (after_body (λ u. and_then (after u) (λ left v. again v)))
    else Gives Falls t)

-- what a `do` does from the start of its body on, and then again
abbrev pub from_body : (State → Evaluated Bool) → Runs → Runs → Runs
from_body test body again s =
    and_then (body s) (after_body (λ t. and_then (test t) (λ holds u. if holds then again u else Gives Falls u)))

-- With a bound above the turns a loop takes a turn, does so, and is then the loop with the same bound.
abbrev pub LoopsUnfold : Type 0
LoopsUnfold = (bound : ℕ) (test : State → Evaluated Bool) (body after : Runs) (s : State) → s.turns < bound
    → LoopKeeps (suc s.turns) test body after
    → (loop bound test body after s ≡ take_turn s (from_test test body after (loop bound test body after)))
    × (do_loop bound test body s ≡ take_turn s (from_body test body (do_loop bound test body)))

-- ---- calls

-- Calls keep what evaluations keep.
abbrev pub ProgramsKeep : Type 0
ProgramsKeep = (program : Program) (listing : Listing) (bound : ℕ) → CallsKeep bound (call_within bound program listing)

-- A call that ends, and the program still goes, with the bound above the turns, has no turn left.
abbrev pub GoesWithoutTurns : Type 0
GoesWithoutTurns = (program : Program) (listing : Listing) (bound f : ℕ) (arguments : List Held) (s t : State)
    → s.turns < bound → call_within bound program listing f arguments s ≡ Ends Goes t → t.turns ≡ 0

-- Two bounds above the turns make the same of a call.
abbrev pub CallBoundsAgree : Type 0
CallBoundsAgree = (program : Program) (listing : Listing) (bound other f : ℕ) (arguments : List Held) (s : State)
    → s.turns < bound → s.turns < other
    → call_within bound program listing f arguments s ≡ call_within other program listing f arguments s

-- With a bound above the turns a call runs its function, whose calls and loops have the same bound.
abbrev pub CallsUnfold : Type 0
CallsUnfold = (program : Program) (listing : Listing) (bound f : ℕ) (arguments : List Held) (s : State)
    → s.turns < bound → call_within bound program listing f arguments s
    ≡ run_function (call_within bound program listing) bound listing (slice_get program.functions f) arguments s

-- With more turns, and bounds that aren't lower, calls come to what they do with fewer.
abbrev pub ProgramsExtend : Type 0
ProgramsExtend = (program : Program) (listing : Listing) (bound more calls others : ℕ) → bound ≤ calls
    → bound + more ≤ others → CallsExtend bound more (call_within calls program listing)
    (call_within others program listing)

-- ---- programs

-- A program that has ended after some turns has the same outcome after more.
abbrev pub EndsStay : Type 0
EndsStay = (program : Program) (listing : Listing) (input : List ℕ) (n m : ℕ) → n ≤ m
    → ((source_outcome program listing input n).end ≢ Goes)
    → source_outcome program listing input m ≡ source_outcome program listing input n

-- An outcome goes on from another: visits and bytes written stand behind those of the other, and no fewer bytes are
-- taken.
pub record GoesOn (o more : Outcome) : Type 0 where
  pub visits : (others : List Visit) × (more.visits ≡ o.visits ++ others)
  pub written : (others : List ℕ) × (more.written ≡ o.written ++ others)
  pub taken : o.taken ≤ more.taken

-- More turns go on from fewer.
abbrev pub OutcomesGoOn : Type 0
OutcomesGoOn = (program : Program) (listing : Listing) (input : List ℕ) (n m : ℕ) → n ≤ m
    → GoesOn (source_outcome program listing input n) (source_outcome program listing input m)

-- No more bytes are taken than the input has.
abbrev pub TakenIsThere : Type 0
TakenIsThere = (program : Program) (listing : Listing) (input : List ℕ) (n : ℕ)
    → (source_outcome program listing input n).taken ≤ length input
