-- What it means that lines do what a source does: in continuation style, from where they begin to where they lead.
use Rattle.std.specs.Prelude.{◌≡◌, ◌≢◌, ◌<◌, ◌≤◌, ◌⊎◌, ℕ, suc, ◌+◌, ◌*◌, Bool, true, false, ℤ, List, [], ◌∷◌, ◌++◌}
use Rattle.std.specs.Prelude.{length, map, take, slice_get, slice_index_or, Option, Some, None, if◌then◌else◌}
use Rattle.std.specs.Prelude.{IsSomeAnd}
use Rattle.std.specs.List.{All, AllZip, Contains}
use Rattle.pcc_base.specs.Outcome.{End, Listing, Outcome, Value, Visit, after_visits}
use Rattle.c_eval_laws.specs.Bounds.{CallsKeep}
use Rattle.c_tree.specs.declared.types.IntegerType.{IntegerType}
use Rattle.c_tree.specs.declared.types.IntegerType.TheVariants.{Short, Int, UnsignedInt}
use Rattle.c_tree.specs.declared.types.ValueType.{ValueType}
use Rattle.c_tree.specs.declared.types.ValueType.TheVariants.{Void, Integer, Pointer}
use Rattle.c_tree.specs.Evaluation.{Calls, Found, InLocal, InObject, AtIndex, address_of, Falls, Breaks, Continues}
use Rattle.c_tree.specs.Evaluation.{Left}
use Rattle.c_tree.specs.Evaluation.{Returns, Runs}
use Rattle.c_tree.specs.Operators.{is_true}
use Rattle.c_tree.specs.Program.{Local, Function, Program}
use Rattle.c_tree.specs.Store as source
use Rattle.c_tree.specs.Store.{Evaluated, Gives, Ends, Held, HoldsPointer, and_then, held, in_type, number_held}
use Rattle.c_tree.specs.Store.{with_local}
use Rattle.flow_graph.specs.declared.op.Op.{Op}
use Rattle.flow_graph.specs.declared.op.Op.TheVariants as op
use Rattle.flow_graph.specs.Graphs.{IsDistinct, is_end}
use Rattle.flow_graph.specs.Meaning.{Moved, Moves, Halts, Stuck, result_to, returns_to}
use Rattle.flow_graph.specs.Running.{outcome_at, run_within}
use Rattle.flow_graph.specs.States as graph
use Rattle.flow_graph.specs.States.{GraphProgram, op_at}
use Rattle.lower_lines.specs.Expressions.{Addressed, Located, AtLocal, AtObject, AtAddress, address_part}
use Rattle.lower_lines.specs.Expressions.{arguments_levels, arguments_lines, arguments_words, words_of}
use Rattle.lower_lines.specs.Lines.{Line, Start, Emit, open_after, ops_in, points_in, starts_in}
use Rattle.lower_lines.specs.Parts.{Wanted, Dropped, Own, ToLocal, Tests, Part}
use Rattle.lower_lines.specs.Programs.{blocks_of_function, lines_of_function, lowered}
use Rattle.lower_lines.specs.Relation.{HoldsAt, IsArrayOf, IsOf, Keeps, SameWaiting, Shows}
use Rattle.lower_lines.specs.Shown.{ListsLocals, variables_shown}
use Rattle.lower_lines.specs.Statements.{After, Here, To, Leaves, Exits, Run}
use Rattle.lower_lines.specs.Variables.{Context, Spot, levels_of, local_spot, local_variables, own}

-- ---- where lines stand

-- Whether a block is open before lines, and whether one is behind them: a block starts where none is open, and ops
-- stand in one until its end.
abbrev pub Closes : Bool → List Line → Bool → Type 0
Closes opened [] opens = opened ≡ opens
Closes opened (Start block ∷ lines) opens = (opened ≡ false) × Closes true lines opens
Closes opened (Emit op ∷ lines) opens = (opened ≡ true) × Closes (if is_end op then false else true) lines opens

-- A function of a program, by its number, and what is said of its calls: a listing of the source that visits show, what
-- calls do, and a number above the turns that are left.
pub record Site : Type 0 where
  pub program : Program
  pub number : ℕ
  pub function : Function
  pub listing : Listing
  pub calls : Calls
  pub bound : ℕ

abbrev pub context_of : Site → Context
context_of S = record { program = S.program; function = S.function }

abbrev pub graphs_of : Site → GraphProgram
graphs_of S = lowered S.program

abbrev pub site_lines : Site → List Line
site_lines S = lines_of_function (context_of S)

-- The lines of a function start each of its blocks once at most, and end each before they start the next.
pub record AreLines (c : Context) : Type 0 where
  pub once : IsDistinct (starts_in (lines_of_function c))
  pub inside : All (λ block. block < blocks_of_function c) (starts_in (lines_of_function c))
  pub closed : Closes false (lines_of_function c) false

-- The function is there, with such lines; visits show locals, and calls keep what evaluations keep.
pub record IsSite (S : Site) : Type 0 where
  pub there : slice_get S.program.functions S.number ≡ Some S.function
  pub lines : AreLines (context_of S)
  pub lists : ListsLocals S.program S.listing
  pub keeps : CallsKeep S.bound S.calls

-- lines of the function that stand behind others, and before the rest
abbrev pub Stand : Site → List Line → List Line → Type 0
Stand S before lines = (rest : List Line) × (site_lines S ≡ before ++ (lines ++ rest))

-- ---- where a graph stands

-- a state of the graphs behind lines of its function
abbrev pub behind : List Line → graph.State → graph.State
behind lines g = record g { block = open_after 0 lines; point = length (ops_in lines) }

-- a state at the first point of a block of its function
abbrev pub at_start : Site → ℕ → graph.State → graph.State
at_start S block g = record g { block = block; point = slice_index_or (points_in block (site_lines S)) 0 0 }

-- the run from a state of the graphs comes to an outcome, in so many turns
abbrev pub Comes : Site → ℕ → graph.State → Outcome → Type 0
Comes S turns g outcome =
    (steps : ℕ) × (run_within (graphs_of S) (variables_shown S.program S.listing) steps turns g ≡ Some outcome)

-- so does what a step makes
abbrev pub ComesOf : Site → ℕ → graph.State → Moved → Outcome → Type 0
ComesOf S turns g (Moves h) outcome = Comes S turns h outcome
ComesOf S turns g (Halts end) outcome = outcome ≡ outcome_at g end
ComesOf S turns g Stuck outcome = ⊥

-- ---- ends

-- The source has ended: the graphs come to the visits that were made meanwhile, and the same end.
abbrev pub EndsSo : Site → End → source.State → source.State → graph.State → Type 0
EndsSo S end s t g = (visits : List Visit) × (t.visits ≡ s.visits ++ visits)
    × Comes S s.turns g (record { visits = visits; taken = t.taken; written = t.written; end = end })

-- ---- expressions

-- the state that is shown where a value is where it is wanted: a local has it already
abbrev pub shown_state : Wanted → Held → source.State → source.State
shown_state Dropped value t = t
shown_state Own value t = t
shown_state (ToLocal local) value t = with_local local value t
shown_state (Tests holds fails) value t = t

-- the value is in the temporaries of the level, where it is wanted there
abbrev pub HoldsWanted : Site → ℕ → Wanted → ValueType → graph.State → Held → Type 0
HoldsWanted S level Dropped of h value = Unit {0}
HoldsWanted S level Own of h value = HoldsAt h.current.variables of (own (context_of S) level) value
HoldsWanted S level (ToLocal local) of h value = Unit {0}
HoldsWanted S level (Tests holds fails) of h value = Unit {0}

-- where control is then: behind the lines, or at the start of a block
abbrev pub reached : Site → Wanted → Held → List Line → graph.State → graph.State
reached S Dropped value lines h = behind lines h
reached S Own value lines h = behind lines h
reached S (ToLocal local) value lines h = behind lines h
reached S (Tests holds fails) value lines h = at_start S (if is_true value then holds else fails) h

-- a value of the first type goes into a local of the second one with one op that doesn't convert it
abbrev pub GoesInto : ValueType → ValueType → Type 0
GoesInto (Integer t) (Integer Short) = Unit {0}
GoesInto (Integer t) (Integer Int) = Unit {0}
GoesInto (Integer t) (Integer UnsignedInt) = Unit {0}
GoesInto (Pointer t) (Pointer u) = t ≡ u
GoesInto _ _ = ⊥

-- What may be wanted of an expression of a type. A test's blocks are blocks of the function.
abbrev pub MayWant : Site → Wanted → ValueType → Type 0
MayWant S Dropped of = Unit {0}
MayWant S Own of = of ≢ Void
MayWant S (ToLocal local) of = IsSomeAnd (slice_get S.function.locals local) (λ l. GoesInto of l.of)
MayWant S (Tests holds fails) of =
    (of ≢ Void) × Contains (starts_in (site_lines S)) holds × Contains (starts_in (site_lines S)) fails

-- What the lines of an expression come to, which begin behind others at a state that shows the source's: where the
-- source gives a value, they lead to a state that shows what it has become, with the value where it is wanted, and
-- have made the visits that were made meanwhile; where the source ends, the graphs come to its end.
abbrev pub Follows : Site → List Function → List Line → List Line → ℕ → Wanted → ValueType → source.State → graph.State
    → Evaluated Held → Type 0
Follows S active before lines level wanted of s g (Gives value t) =
    (h : graph.State) × (visits : List Visit) × Shows S.program active (shown_state wanted value t) h
    × Keeps (local_variables S.function) level g h × HoldsWanted S level wanted of h value
    × (t.visits ≡ s.visits ++ visits)
    × ((outcome : Outcome) → Comes S t.turns (reached S wanted value (before ++ lines) h) outcome
    → Comes S s.turns (behind before g) (after_visits visits outcome))
Follows S active before lines level wanted of s g (Ends end t) = EndsSo S end s t (behind before g)

-- The expressions of a function are evaluated in its youngest call, with fewer turns left than the bound.
pub record Begins (S : Site) (active : List Function) (s : source.State) (g : graph.State) : Type 0 where
  pub shows : Shows S.program active s g
  pub function : g.current.function ≡ S.number
  pub youngest : slice_get active 0 ≡ Some S.function
  pub turns : s.turns < S.bound

-- An expression that is simple stores nothing and ends nothing.
abbrev pub GivesAlone : source.State → Evaluated Held → Type 0
GivesAlone s (Gives value t) = t ≡ s
GivesAlone s (Ends end t) = ⊥

-- what an expression gives is of its type
abbrev pub GivesOf : Program → List Function → ValueType → Evaluated Held → Type 0
GivesOf p active of (Gives value t) = IsOf p active of value
GivesOf p active of (Ends end t) = Unit {0}

-- The part of an expression does what the source does. `levels` and `blocks` are those that its lines may take.
pub record Lowers (S : Site) (part : Part) (run : source.State → Evaluated Held) : Type 0 where
  -- whatever is wanted of it, wherever its lines stand
  pub follows : (active : List Function) (block level : ℕ) (wanted : Wanted) (before : List Line) (s : source.State)
      (g : graph.State) → Stand S before (part.lines block level wanted) → level + part.levels ≤ levels_of S.function
      → MayWant S wanted part.of → Begins S active s g
      → Follows S active before (part.lines block level wanted) level wanted part.of s g (run s)
  pub typed : (active : List Function) (block level : ℕ) (wanted : Wanted) (before : List Line) (s : source.State)
      (g : graph.State) → Stand S before (part.lines block level wanted) → level + part.levels ≤ levels_of S.function
      → MayWant S wanted part.of → Begins S active s g → GivesOf S.program active part.of (run s)
  pub simple : part.simple ≡ true → (active : List Function) (s : source.State) (g : graph.State) → Begins S active s g
      → GivesAlone s (run s)
  -- where its value stands, it is that of a local
  pub stands : (spot : Spot) → part.stands ≡ Some spot → (local : ℕ)
      × (spot ≡ local_spot (context_of S) local)
      × IsSomeAnd (slice_get S.function.locals local) (λ l. (l.of ≡ part.of) × GoesInto part.of l.of)
      × ((s : source.State) → run s ≡ Gives (held s local) s)

-- ---- places

-- what a place that is found is lowered to
abbrev pub FollowsPlace : Site → List Function → List Line → List Line → ℕ → IntegerType → Spot → source.State
    → graph.State → Evaluated Found → Type 0
FollowsPlace S active before lines level element spot s g (Gives (AtIndex array index) t) =
    (h : graph.State) × (visits : List Visit) × Shows S.program active t h
    × Keeps (local_variables S.function) level g h
    × HoldsAt h.current.variables (Pointer element) spot (HoldsPointer array index)
    × IsArrayOf S.program active element array × (t.visits ≡ s.visits ++ visits)
    × ((outcome : Outcome) → Comes S t.turns (behind (before ++ lines) h) outcome
    → Comes S s.turns (behind before g) (after_visits visits outcome))
FollowsPlace S active before lines level element spot s g (Gives (InLocal local) t) = ⊥
FollowsPlace S active before lines level element spot s g (Gives (InObject object) t) = ⊥
FollowsPlace S active before lines level element spot s g (Ends end t) = EndsSo S end s t (behind before g)

-- A variable that nothing changes which stores nothing, from the next level on: a local's, or one of the level.
abbrev pub IsSteady : Site → ℕ → ℕ → Type 0
IsSteady S level v = (v < local_variables S.function)
    ⊎ (local_variables S.function + level * 5 ≤ v × v < local_variables S.function + suc level * 5)

-- the address of an element, as lines that leave it in a spot
pub record LowersAddress (S : Site) (element : IntegerType) (a : Addressed) (run : source.State → Evaluated Found)
    : Type 0 where
  pub follows : (active : List Function) (stays : Bool) (block level : ℕ) (before : List Line) (s : source.State)
      (g : graph.State) → Stand S before (a.lines stays block level) → level + a.levels ≤ levels_of S.function
      → Begins S active s g
      → FollowsPlace S active before (a.lines stays block level) level element (a.spot stays level) s g (run s)
  -- where it is: an address after which something is stored is in the temporaries of its level
  pub kept : (level : ℕ) → a.spot false level ≡ own (context_of S) level
  pub steady : (level : ℕ) → IsSteady S level (a.spot true level).array × IsSteady S level (a.spot true level).number
  -- as the value of `&`
  pub value : Lowers S (address_part (context_of S) element (AtAddress element a))
      (λ s. and_then (run s) (λ found t. Gives (address_of found) t))

-- a place: a local or an object has no lines
abbrev pub LowersPlace : Site → ValueType → Located → (source.State → Evaluated Found) → Type 0
LowersPlace S of (AtLocal local) run = ((s : source.State) → run s ≡ Gives (InLocal local) s)
    × IsSomeAnd (slice_get S.function.locals local) (λ l. l.of ≡ of)
LowersPlace S of (AtObject k) run = ((s : source.State) → run s ≡ Gives (InObject k) s)
    × IsSomeAnd (slice_get S.program.objects k) (λ o. (length o.elements ≡ 1) × (Integer o.element ≡ of))
LowersPlace S of (AtAddress element a) run = LowersAddress S element a run × (Integer element ≡ of)

-- ---- arguments

-- the argument words hold values of these types
abbrev pub WordsHold : List Value → List ValueType → List ℕ → List Held → Type 0
WordsHold variables [] words [] = words ≡ []
WordsHold variables (of ∷ ofs) words (x ∷ xs) =
    (spot : Spot) × (others : List ℕ) × (words ≡ words_of of spot ++ others) × HoldsAt variables of spot x
    × WordsHold variables ofs others xs
WordsHold variables [] words (x ∷ xs) = ⊥
WordsHold variables (of ∷ ofs) words [] = ⊥

-- what is passed for a parameter: in place of a pointer's null constant there is a null pointer
abbrev pub as_passed : ValueType → Held → Held
as_passed Void x = x
as_passed (Integer t) x = x
as_passed (Pointer t) x = in_type (Pointer t) x

abbrev pub all_as_passed : List Local → List Held → List Held
all_as_passed [] xs = xs
all_as_passed (l ∷ ls) [] = []
all_as_passed (l ∷ ls) (x ∷ xs) = as_passed l.of x ∷ all_as_passed ls xs

abbrev pub FollowsAll : Site → List Local → List Function → List Line → List Line → ℕ → List ValueType → List ℕ
    → source.State → graph.State → Evaluated (List Held) → Type 0
FollowsAll S parameters active before lines level ofs words s g (Gives values t) =
    (h : graph.State) × (visits : List Visit) × Shows S.program active t h
    × Keeps (local_variables S.function) level g h × (t.visits ≡ s.visits ++ visits)
    × WordsHold h.current.variables ofs words (all_as_passed parameters values)
    × AllZip (IsOf S.program active) ofs (all_as_passed parameters values)
    × ((outcome : Outcome) → Comes S t.turns (behind (before ++ lines) h) outcome
    → Comes S s.turns (behind before g) (after_visits visits outcome))
FollowsAll S parameters active before lines level ofs words s g (Ends end t) = EndsSo S end s t (behind before g)

-- the arguments of a function with these parameters, as they are passed
pub record LowersAll (S : Site) (parameters : List Local) (parts : List Part)
    (run : source.State → Evaluated (List Held)) : Type 0 where
  pub follows : (active : List Function) (block level : ℕ) (before : List Line) (s : source.State) (g : graph.State)
      → Stand S before (arguments_lines (context_of S) parts block level)
      → level + arguments_levels parts ≤ levels_of S.function → Begins S active s g
      → FollowsAll S parameters active before (arguments_lines (context_of S) parts block level) level
      (map (λ a. a.of) parts)
      (arguments_words (context_of S) parts level) s g (run s)

-- ---- statements

-- what comes of returning a value from the youngest call: an `int` that has none gives 0
abbrev pub number_returned : ValueType → Option Held → Option ℤ
number_returned Void value = None
number_returned (Integer t) value = Some (number_held value)
number_returned (Pointer t) value = Some (number_held value)

abbrev pub ComesBack : Site → ℕ → graph.State → Option Held → Outcome → Type 0
ComesBack S turns h value outcome =
    ComesOf S turns h (returns_to (graphs_of S) h h.waiting (number_returned S.function.result value)) outcome

-- what comes of a statement that goes on to what is behind it
abbrev pub ComesOn : Site → List Line → After → ℕ → graph.State → Outcome → Type 0
ComesOn S lines Here turns h outcome = Comes S turns (behind lines h) outcome
ComesOn S lines (To block) turns h outcome = Comes S turns (at_start S block h) outcome
ComesOn S lines Leaves turns h outcome = ComesBack S turns h None outcome

-- by how the statement is left
abbrev pub ComesLeft : Site → List Line → Exits → After → Left → ℕ → graph.State → Outcome → Type 0
ComesLeft S lines exits after Falls turns h outcome = ComesOn S lines after turns h outcome
ComesLeft S lines exits after Breaks turns h outcome = Comes S turns (at_start S exits.breaks h) outcome
ComesLeft S lines exits after Continues turns h outcome = Comes S turns (at_start S exits.continues h) outcome
ComesLeft S lines exits after (Returns value) turns h outcome = ComesBack S turns h value outcome

abbrev pub FollowsRun : Site → List Function → List Line → List Line → Exits → After → source.State → graph.State
    → Evaluated Left → Type 0
FollowsRun S active before lines exits after s g (Gives left t) =
    (h : graph.State) × (visits : List Visit) × Shows S.program active t h
    × Keeps (local_variables S.function) 0 g h × (t.visits ≡ s.visits ++ visits)
    × ((outcome : Outcome) → ComesLeft S (before ++ lines) exits after left t.turns h outcome
    → Comes S s.turns (behind before g) (after_visits visits outcome))
FollowsRun S active before lines exits after s g (Ends end t) = EndsSo S end s t (behind before g)

-- where control may be told to go: to blocks of the function
abbrev pub MayGo : Site → After → Type 0
MayGo S Here = Unit {0}
MayGo S (To block) = Contains (starts_in (site_lines S)) block
MayGo S Leaves = Unit {0}

-- `break` and `continue`, where they may stand
pub record MayExit (S : Site) (breaks continues : Bool) (exits : Exits) : Type 0 where
  pub break_goes : breaks ≡ true → Contains (starts_in (site_lines S)) exits.breaks
  pub continue_goes : continues ≡ true → Contains (starts_in (site_lines S)) exits.continues

-- A statement, where `break` and `continue` may stand in it or not.
pub record LowersRun (S : Site) (breaks continues : Bool) (r : Run) (run : Runs) : Type 0 where
  pub follows : (active : List Function) (exits : Exits) (block : ℕ) (after : After) (before : List Line)
      (s : source.State) (g : graph.State) → Stand S before (r.lines exits block after)
      → r.levels ≤ levels_of S.function → MayExit S breaks continues exits → MayGo S after → Begins S active s g
      → FollowsRun S active before (r.lines exits block after) exits after s g (run s)

-- ---- calls

abbrev pub parameters_in : Function → List Local
parameters_in f = take f.parameters f.locals

-- The caller waits at its call with all that it had, but for the elements of arrays.
pub record IsBack (g h : graph.State) : Type 0 where
  pub function : h.current.function ≡ g.current.function
  pub arguments : h.current.arguments ≡ g.current.arguments
  pub variables : h.current.variables ≡ g.current.variables
  pub block : h.block ≡ g.block
  pub point : h.point ≡ g.point
  pub waiting : AllZip SameWaiting g.waiting h.waiting

-- A call by an op at a point: where it gives a value, what comes is that the caller goes on with it.
abbrev pub FollowsCall : Site → List Function → Op → ValueType → source.State → graph.State → Evaluated Held
    → Type 0
FollowsCall S active call of s g (Gives value t) =
    (h : graph.State) × (visits : List Visit) × Shows S.program active t h × IsBack g h × IsOf S.program active of value
    × (t.visits ≡ s.visits ++ visits)
    × ((outcome : Outcome)
    → ComesOf S t.turns h (result_to (graphs_of S) h (number_returned of (Some value)) (Some call)) outcome
    → Comes S s.turns g (after_visits visits outcome))
FollowsCall S active call of s g (Ends end t) = EndsSo S end s t g

-- The calls of a site do what the op of a call does, where its words have the arguments.
abbrev pub CallsFollow : Site → Type 0
CallsFollow S =
    (active : List Function) (result : Option ℕ) (k : ℕ) (f : Function) (words : List ℕ) (arguments : List Held)
    (s : source.State) (g : graph.State) → slice_get S.program.functions k ≡ Some f
    → op_at (graphs_of S) g ≡ Some (op.Call result k words)
    → WordsHold g.current.variables (map (λ l. l.of) (parameters_in f)) words
    (all_as_passed (parameters_in f) arguments)
    → AllZip (IsOf S.program active) (map (λ l. l.of) (parameters_in f)) (all_as_passed (parameters_in f) arguments)
    → Begins S active s g → FollowsCall S active (op.Call result k words) f.result s g (S.calls k arguments s)
