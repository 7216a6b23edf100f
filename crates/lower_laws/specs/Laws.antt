-- The laws of the lines of statements, by their kinds; each is a part of `StatementsLower` of `lower_lines`. They are
-- stated over the parts of a statement, so that the walk over trees is one call for each construct.
use Rattle.std.specs.Prelude.{◌≡◌, ◌≢◌, ◌≤◌, ℕ, suc, Bool, true, if◌then◌else◌, List, [], ◌∷◌, ◌++◌, Some, None}
use Rattle.c_tree.specs.declared.types.IntegerType.{IntegerType}
use Rattle.c_tree.specs.declared.types.ValueType.TheVariants.{Void, Integer}
use Rattle.c_tree.specs.Evaluation.{Runs, after_statement}
use Rattle.c_tree.specs.Evaluation.{Falls, Breaks, Continues, Returns}
use Rattle.c_tree.specs.Operators.{is_true}
use Rattle.c_tree.specs.Evaluation.{Left, do_loop, evaluate, evaluated_if_any, loop, tested, tested_if_any}
use Rattle.c_tree.specs.Program.{Expression, First}
use Rattle.lower_lines.specs.Expressions.{part_of}
use Rattle.lower_lines.specs.Statements.{do_run, first_levels, first_lines, for_run, while_run}
use Rattle.std.specs.Prelude.{IfSome, Option}
use Rattle.std.specs.Prelude.{ℤ}
use Rattle.c_tree.specs.Store.{HoldsNumber, number_held, in_type, with_local, zero_of}
use Rattle.c_tree.specs.Evaluation.{type_at}
use Rattle.c_tree.specs.WellTyped.{IsScalar}
use Rattle.c_tree.specs.Program.{Local}
use Rattle.std.specs.Prelude.{slice_get, max, ◌+◌}
use Rattle.lower_lines.specs.Statements.{zeroing}
use Rattle.c_tree.specs.declared.statement.Label.{Label}
use Rattle.c_tree.specs.Evaluation.{after_switch, none_or_from, switched}
use Rattle.c_tree.specs.WellTyped.{AreLabels}
use Rattle.std.specs.Prelude.{drop, length, ◌<◌}
use Rattle.lower_lines.specs.Statements.{switch_run}
use Rattle.c_tree.specs.Program.{Initialiser, Array}
use Rattle.c_tree.specs.Evaluation.{declare}
use Rattle.c_tree.specs.WellTyped.{IsItem, WellTyped}
use Rattle.lower_lines.specs.Words.{IsInMemory}
use Rattle.lower_lines.specs.Laws.{ExpressionsFollow}
use Rattle.lower_lines.specs.Statements.{item_levels, item_lines}
use Rattle.c_tree.specs.Program.{Elements, Text}
use Rattle.c_tree.specs.Program.{Elements}
use Rattle.c_tree.specs.Store as source
use Rattle.c_tree.specs.Store.{Evaluated, Gives, Held, and_then, visited}
use Rattle.flow_graph.specs.declared.op.Op.TheVariants as op
use Rattle.lower_lines.specs.Following.{IsSite, Lowers, LowersRun, Site, context_of}
use Rattle.lower_lines.specs.Laws.{IsOwn}
use Rattle.lower_lines.specs.Lines.{Line, Emit}
use Rattle.lower_lines.specs.Parts.{Dropped, Part, operand}
use Rattle.lower_lines.specs.Statements.{Labelled, Run, block_run, ending, if_run, none_labelled, straight}
use Rattle.lower_laws.specs.Ways.{Keeping, LowersFrom, LowersLines}

-- ---- a mark, and what stands behind it

-- the empty statement is its mark
abbrev pub EmptiesLower : Type 0
EmptiesLower = (S : Site) → IsSite S → (breaks continues : Bool) (n : ℕ) → IsOwn S n
    → LowersRun S breaks continues (straight (context_of S) 0 0 (λ block. Emit (op.Mark n) ∷ []))
    (λ s. Gives Falls (visited S.listing n s))

-- an expression whose value is dropped
abbrev pub EvaluationsLower : Type 0
EvaluationsLower = (S : Site) → IsSite S → (breaks continues : Bool) (n : ℕ) (e : Part)
    (run : source.State → Evaluated Held) → IsOwn S n → Lowers S e run → Keeping S run
    → LowersRun S breaks continues (straight (context_of S) e.levels (e.blocks Dropped)
    (λ block. Emit (op.Mark n) ∷ e.lines block 0 Dropped))
    (λ s. and_then (run (visited S.listing n s)) (λ v t. Gives Falls t))

-- a declared item, of which its lines and its mark are one
abbrev pub DeclarationsLower : Type 0
DeclarationsLower = (S : Site) → IsSite S → (breaks continues : Bool) (levels blocks : ℕ) (lines : ℕ → List Line)
    (run : source.State → Evaluated Unit) → LowersLines S levels lines run → Keeping S run
    → LowersRun S breaks continues (straight (context_of S) levels blocks lines)
    (λ s. and_then (run s) (λ done t. Gives Falls t))

-- ---- statements that end a block

-- `break` and `continue`, where they may stand
abbrev pub BreaksLower : Type 0
BreaksLower = (S : Site) → IsSite S → (continues : Bool) (n : ℕ) → IsOwn S n
    → LowersRun S true continues (ending 0 0 (λ exits block. Emit (op.Mark n) ∷ Emit (op.Jump exits.breaks) ∷ []))
    (λ s. Gives Breaks (visited S.listing n s))

abbrev pub ContinuesLower : Type 0
ContinuesLower = (S : Site) → IsSite S → (breaks : Bool) (n : ℕ) → IsOwn S n
    → LowersRun S breaks true (ending 0 0 (λ exits block. Emit (op.Mark n) ∷ Emit (op.Jump exits.continues) ∷ []))
    (λ s. Gives Continues (visited S.listing n s))

-- a return from a function without a value, and from one with a number: what is returned is made of the part's value,
-- and is the same number
abbrev pub PlainReturnsLower : Type 0
PlainReturnsLower = (S : Site) → IsSite S → (breaks continues : Bool) (n : ℕ) → IsOwn S n → S.function.result ≡ Void
    → LowersRun S breaks continues (ending 0 0 (λ exits block. Emit (op.Mark n) ∷ Emit (op.Return None) ∷ []))
    (λ s. Gives (Returns None) (visited S.listing n s))

abbrev pub ReturnsLower : Type 0
ReturnsLower = (S : Site) → IsSite S → (breaks continues : Bool) (n levels blocks : ℕ) (t u : IntegerType) (a : Part)
    (run : source.State → Evaluated Held) (f : Held → Held) → IsOwn S n → S.function.result ≡ Integer t
    → a.of ≡ Integer u → a.levels ≤ levels → ((m : ℤ) → number_held (Some (f (HoldsNumber m))) ≡ m) → Lowers S a run
    → Keeping S run → LowersRun S breaks continues (ending levels blocks (λ exits block. Emit (op.Mark n)
    ∷ ((operand (context_of S) true a).lines block 0
    ++ Emit (op.Return (Some ((operand (context_of S) true a).spot 0).number)) ∷ [])))
    (λ s. and_then (run (visited S.listing n s)) (λ v t. Gives (Returns (Some (f v))) t))

-- ---- statements in order

-- no statement at all
abbrev pub EmptyBlocksLower : Type 0
EmptyBlocksLower = (S : Site) → IsSite S → (breaks continues : Bool)
    → LowersRun S breaks continues (block_run (context_of S) []) (λ s. Gives Falls s)

-- the last statement
abbrev pub LastsLower : Type 0
LastsLower = (S : Site) → IsSite S → (breaks continues : Bool) (labelled : Labelled) (place : ℕ) (r : Run) (run : Runs)
    → LowersRun S breaks continues r run → LowersFrom S breaks continues labelled place (r ∷ [])
    (λ s. and_then (run s) (after_statement (λ t. Gives Falls t)))

-- one before others
abbrev pub SequencesLower : Type 0
SequencesLower = (S : Site) → IsSite S → (breaks continues : Bool) (labelled : Labelled) (place : ℕ) (r q : Run)
    (rs : List Run) (run others : Runs) → LowersRun S breaks continues r run → Keeping S run
    → LowersFrom S breaks continues labelled (suc place) (q ∷ rs) others
    → LowersFrom S breaks continues labelled place (r ∷ q ∷ rs) (λ s. and_then (run s) (after_statement others))

-- a block is its statements in order, without labels
abbrev pub BlocksLower : Type 0
BlocksLower = (S : Site) → (breaks continues : Bool) (r : Run) (rs : List Run) (run : Runs)
    → LowersFrom S breaks continues none_labelled 0 (r ∷ rs) run
    → LowersRun S breaks continues (block_run (context_of S) (r ∷ rs)) run

-- ---- `if`

-- A second way without statements has no lines.
abbrev pub ConditionsLower : Type 0
ConditionsLower = (S : Site) → IsSite S → (breaks continues : Bool) (n : ℕ) (e : Part) (a b : Run)
    (test : source.State → Evaluated Held) (first second : Runs) → IsOwn S n → e.of ≢ Void → Lowers S e test
    → Keeping S test → LowersRun S breaks continues a first → Keeping S first
    → LowersRun S breaks continues b second → Keeping S second
    → (b.nothing ≡ true → (s : source.State) → second s ≡ Gives Falls s)
    → LowersRun S breaks continues (if_run (context_of S) n e a b)
    (λ s. and_then (and_then (test (visited S.listing n s)) (λ v t. Gives (is_true v) t))
    (λ holds t. if holds then first t else second t))

-- ---- loops: their bound isn't lower than that of calls

-- a test, if there is one, and what is evaluated after the body, if anything
abbrev pub TestLowers : Site → Expression → Type 0
TestLowers S e = ((part_of (context_of S) e).of ≢ Void) × Lowers S (part_of (context_of S) e) (evaluate S.calls e)

abbrev pub AfterLowers : Site → Expression → Type 0
AfterLowers S e = Lowers S (part_of (context_of S) e) (evaluate S.calls e)

abbrev pub WhilesLower : Type 0
WhilesLower = (S : Site) → IsSite S → (breaks continues : Bool) (n bound : ℕ) (e : Expression) (body : Run) (run : Runs)
    → IsOwn S n → S.bound ≤ bound → TestLowers S e → Keeping S (tested S.calls e) → LowersRun S true true body run
    → Keeping S run → LowersRun S breaks continues (while_run (context_of S) n e body)
    (λ s. loop bound (tested S.calls e) run (λ t. Gives Falls t) (visited S.listing n s))

abbrev pub ForsLower : Type 0
ForsLower = (S : Site) → IsSite S → (breaks continues : Bool) (n bound : ℕ) (first : First)
    (test after : Option Expression) (body : Run) (begin : source.State → Evaluated Left) (run : Runs) → IsOwn S n
    → S.bound ≤ bound → LowersLines S (first_levels (context_of S) first) (first_lines (context_of S) first) begin
    → Keeping S begin → IfSome test (TestLowers S) → Keeping S (tested_if_any S.calls test)
    → IfSome after (AfterLowers S) → Keeping S (evaluated_if_any S.calls after) → LowersRun S true true body run
    → Keeping S run → LowersRun S breaks continues (for_run (context_of S) n first test after body)
    (λ s. and_then (begin (visited S.listing n s))
    (λ done t. loop bound (tested_if_any S.calls test) run (evaluated_if_any S.calls after) t))

abbrev pub DosLower : Type 0
DosLower = (S : Site) → IsSite S → (breaks continues : Bool) (n bound : ℕ) (e : Part) (body : Run)
    (test : source.State → Evaluated Held) (run : Runs) → IsOwn S n → S.bound ≤ bound → e.of ≢ Void → Lowers S e test
    → Keeping S (λ s. and_then (test s) (λ v t. Gives (is_true v) t)) → LowersRun S true true body run → Keeping S run
    → LowersRun S breaks continues (do_run (context_of S) n body e)
    (λ s. do_loop bound (λ t. and_then (test t) (λ v u. Gives (is_true v) u)) run (visited S.listing n s))

-- ---- declared scalars

-- the value of an initialiser goes to its local, in the local's type
abbrev pub initialised : Site → ℕ → (source.State → Evaluated Held) → source.State → Evaluated Held
initialised S local run s = and_then (run s) (λ v t. Gives (in_type (type_at S.function local) v)
    (with_local local (in_type (type_at S.function local) v) t))

-- where a declared scalar is 0 or null: behind its visit
abbrev pub zeroed_at : Site → ℕ → ℕ → source.State → source.State
zeroed_at S n local s = with_local local (zero_of (type_at S.function local)) (visited S.listing n s)

-- a scalar without an initialiser
abbrev pub PlainScalarsLower : Type 0
PlainScalarsLower = (S : Site) → IsSite S → (n local : ℕ) (l : Local) → IsOwn S n
    → slice_get S.function.locals local ≡ Some l → IsScalar l.of
    → LowersLines S 0 (λ block. Emit (op.Mark n) ∷ zeroing (context_of S) local) (λ s. Gives (tt {0}) (zeroed_at S n
    local s))

-- one with an initialiser, whose part `a` assigns it
abbrev pub ScalarsLower : Type 0
ScalarsLower = (S : Site) → IsSite S → (n local levels : ℕ) (l : Local) (a : Part) (run : source.State → Evaluated Held)
    → IsOwn S n → slice_get S.function.locals local ≡ Some l → IsScalar l.of → a.levels ≤ levels
    → Lowers S a (initialised S local run) → Keeping S run → LowersLines S levels
    (λ block. Emit (op.Mark n) ∷ (zeroing (context_of S) local ++ a.lines block 0 Dropped))
    (λ s. and_then (run (zeroed_at S n local s))
    (λ v t. Gives (tt {0}) (with_local local (in_type (type_at S.function local) v) t)))

-- one whose initialiser is the same whatever locals are: the zero before it has no lines
abbrev pub SteadyScalarsLower : Type 0
SteadyScalarsLower = (S : Site) → IsSite S → (n local levels : ℕ) (a : Part) (run : source.State → Evaluated Held)
    → IsOwn S n → a.levels ≤ levels → Lowers S a (initialised S local run) → ((s : source.State) (x : Held)
    → (v : Held) × (run s ≡ Gives v s) × (run (with_local local x s) ≡ Gives v (with_local local x s)))
    → LowersLines S levels (λ block. Emit (op.Mark n) ∷ a.lines block 0 Dropped)
    (λ s. and_then (run (zeroed_at S n local s))
    (λ v t. Gives (tt {0}) (with_local local (in_type (type_at S.function local) v) t)))

-- ---- declared items in order

abbrev pub NoItemsLower : Type 0
NoItemsLower = (S : Site) → LowersLines S 0 (λ block. []) (λ s. Gives (tt {0}) s)

abbrev pub ItemsLower : Type 0
ItemsLower = (S : Site) → (levels more blocks : ℕ) (lines others : ℕ → List Line)
    (run rest : source.State → Evaluated Unit) → LowersLines S levels lines run → Keeping S run
    → LowersLines S more others rest
    → LowersLines S (max levels more) (λ block. lines block ++ others (block + blocks))
    (λ s. and_then (run s) (λ done t. rest t))

-- ---- `switch`

-- The value is a number, and whichever of the statements it goes to, they do from there what the source does.
abbrev pub SwitchesLower : Type 0
SwitchesLower = (S : Site) → IsSite S → (breaks continues : Bool) (n : ℕ) (u : IntegerType) (e : Part)
    (labels : List Label) (rs : List Run) (run : source.State → Evaluated Held) (from : ℕ → Runs) → IsOwn S n
    → e.of ≡ Integer u → Lowers S e run → Keeping S run → AreLabels labels (length rs)
    → ((labelled : Labelled) (place : ℕ) → place < length rs
    → LowersFrom S true continues labelled place (drop place rs) (from place))
    → ((place : ℕ) → Keeping S (from place))
    → LowersRun S breaks continues (switch_run (context_of S) n e labels rs)
    (λ s. and_then (run (visited S.listing n s))
    (λ v t. and_then (none_or_from (switched labels v) from t) after_switch))

-- ---- declared arrays

-- what it means that a declared array's lines do what the source does
abbrev pub ArrayLowers : Site → ℕ → ℕ → IntegerType → Initialiser → Type 0
ArrayLowers S n k element value = LowersLines S (item_levels (context_of S) (Array n k element value))
    (item_lines (context_of S) (Array n k element value))
    (declare S.calls S.listing (type_at S.function) (Array n k element value))

-- one with elements, or none, where expressions do
abbrev pub ElementsLower : Type 0
ElementsLower = (S : Site) → IsSite S → ExpressionsFollow S → (n k : ℕ) (element : IntegerType) (es : List Expression)
    → IsItem S.program S.function (Array n k element (Elements es)) → IsOwn S n
    → ArrayLowers S n k element (Elements es)

-- one with a string, which a loop copies
abbrev pub TextsLower : Type 0
TextsLower = (S : Site) → IsSite S → WellTyped S.program → IsInMemory S.program → (n k : ℕ) (element : IntegerType)
    (object : ℕ) → IsItem S.program S.function (Array n k element (Text object)) → IsOwn S n
    → ArrayLowers S n k element (Text object)
