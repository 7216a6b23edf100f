-- The laws of calls: how a body is left, which statements are a function's own, what a call's state shows when it
-- begins and when it is over, how parameters are taken, and programs. `CallsLower` stands in `lower_lines`.
use Rattle.std.specs.Prelude.{◌≡◌, ℕ, suc, ◌+◌, Bool, true, List, [], ◌∷◌, ◌++◌, length, map, slice_get}
use Rattle.std.specs.Prelude.{Some, None}
use Rattle.std.specs.List.{All, AllZip}
use Rattle.pcc_base.specs.Outcome.{Outcome, Value, Number}
use Rattle.c_tree.specs.declared.types.ValueType.{ValueType}
use Rattle.c_tree.specs.declared.types.ValueType.TheVariants.{Void, Integer, Pointer}
use Rattle.c_tree.specs.Evaluation.{Left, Falls, Breaks, Continues, Returns, Setting, execute_from, first_activation}
use Rattle.c_tree.specs.Evaluation.{older}
use Rattle.c_tree.specs.Program.{Function, Local, Program, Statements}
use Rattle.c_tree.specs.Store as source
use Rattle.c_tree.specs.Store.{Evaluated, Gives, Ends, Held, HoldsNumber, HoldsPointer, in_type, with_local}
use Rattle.c_tree.specs.WellTyped.{AreStatements, CountUp, IsScalar, functions_numbers, statements_numbers}
use Rattle.flow_graph.specs.Meaning.{back_to, values_at}
use Rattle.flow_graph.specs.States as graph
use Rattle.lower_lines.specs.Following.{Comes, IsBack, IsSite, Site, Stand, WordsHold, behind, context_of}
use Rattle.lower_lines.specs.Laws.{ExpressionsLower, ProgramsLower}
use Rattle.lower_lines.specs.Lines.{Line}
use Rattle.lower_lines.specs.Programs.{lowered, parameters_lines}
use Rattle.lower_lines.specs.Relation.{IsOf, SameWaiting, Shows, ShowsCall, array_value}
use Rattle.lower_lines.specs.Shown.{locals_at}

-- ---- how a body is left

-- A statement of a function with this result is left by `break` or `continue` only where they may stand, and what is
-- returned is in the type of the result.
abbrev pub IsLeft : ValueType → Bool → Bool → Left → Type 0
IsLeft result breaks continues Falls = Unit {0}
IsLeft result breaks continues Breaks = breaks ≡ true
IsLeft result breaks continues Continues = continues ≡ true
IsLeft result breaks continues (Returns None) = Unit {0}
IsLeft result breaks continues (Returns (Some value)) = (x : Held) × (value ≡ in_type result x)

abbrev pub LeavesSo : ValueType → Bool → Bool → Evaluated Left → Type 0
LeavesSo result breaks continues (Gives left t) = IsLeft result breaks continues left
LeavesSo result breaks continues (Ends end t) = Unit {0}

abbrev pub BodiesLeaveSo : Type 0
BodiesLeaveSo = (p : Program) (f : Function) (within : Setting) (breaks continues : Bool) (xs : Statements) (place : ℕ)
    (s : source.State) → AreStatements p f breaks continues xs
    → LeavesSo within.result breaks continues (execute_from within xs place s)

-- ---- whose statements are marked

-- the statements of a function's body are its own, by their numbers
abbrev pub StatementsAreOwn : Type 0
StatementsAreOwn = (p : Program) → CountUp (functions_numbers p.functions) → (k : ℕ) (f : Function)
    → slice_get p.functions k ≡ Some f → All (λ n. locals_at p.functions n ≡ f.locals) (statements_numbers f.body)

-- ---- where a call begins, and where it is over

-- A call that has just begun shows the source's without its arguments, whatever its argument words are.
abbrev pub CallsAreFresh : Type 0
CallsAreFresh = (p : Program) (k : ℕ) (f : Function) (active : List Function) (words : List Value)
    → slice_get p.functions k ≡ Some f
    → ShowsCall p f active (first_activation f []) (graph.first_activation (lowered p) k words)

-- the call that waits for another
abbrev pub waiting_at : graph.State → graph.Waiting
waiting_at g = record { activation = g.current; block = g.block; point = g.point }

-- A call that is over leaves its caller where it was, and shows the source's calls without the youngest.
abbrev pub CallsGoBack : Type 0
CallsGoBack =
    (p : Program) (f : Function) (active : List Function) (s : source.State) (g h : graph.State)
    → Shows p (f ∷ active) s h → AllZip SameWaiting (waiting_at g ∷ g.waiting) h.waiting
    → (w : graph.Waiting) × (ws : List graph.Waiting) × (h.waiting ≡ w ∷ ws) × IsBack g (back_to h w ws)
    × Shows p active (record s { active = older s.active }) (back_to h w ws)

-- ---- parameters

-- the argument words of a value of a type
abbrev pub words_passed : ValueType → Held → List Value
words_passed Void x = []
words_passed (Integer t) (HoldsNumber n) = Number n ∷ []
words_passed (Pointer t) (HoldsPointer array index) = array_value array ∷ Number index ∷ []
words_passed (Integer t) (HoldsPointer array index) = []
words_passed (Pointer t) (HoldsNumber n) = []

-- those of values of these types
abbrev pub all_words_passed : List ValueType → List Held → List Value
all_words_passed [] xs = []
all_words_passed (of ∷ ofs) [] = []
all_words_passed (of ∷ ofs) (x ∷ xs) = words_passed of x ++ all_words_passed ofs xs

-- variables that hold arguments have their words
abbrev pub WordsAreRead : Type 0
WordsAreRead = (g : graph.State) (ofs : List ValueType) (words : List ℕ) (xs : List Held)
    → WordsHold g.current.variables ofs words xs → values_at g words ≡ Some (all_words_passed ofs xs)

-- locals from one on have these values, in their types
abbrev pub with_parameters : ℕ → List Local → List Held → source.State → source.State
with_parameters k [] xs s = s
with_parameters k (l ∷ ls) [] s = s
with_parameters k (l ∷ ls) (x ∷ xs) s = with_parameters (suc k) ls xs (with_local k (in_type l.of x) s)

-- what the lines of parameters come to, over the calls that wait
abbrev pub Takes : Site → List Function → List Line → List Line → source.State → graph.State → Type 0
Takes S active before lines s g =
    (h : graph.State) × Shows S.program active s h × (h.current.function ≡ g.current.function)
    × (h.current.arguments ≡ g.current.arguments) × (h.waiting ≡ g.waiting)
    × ((turns : ℕ) (outcome : Outcome) → Comes S turns (behind (before ++ lines) h) outcome
    → Comes S turns (behind before g) outcome)

-- Parameters take their argument words, each in its type. They are locals of the function from one on, and their words
-- those behind others.
abbrev pub ParametersAreTaken : Type 0
ParametersAreTaken =
    (S : Site) → IsSite S → (older : List Function) (ls : List Local) (k : ℕ) (others : List Value) (xs : List Held)
    (before : List Line) (s : source.State) (g : graph.State)
    → Stand S before (parameters_lines (context_of S) ls k (length others))
    → ((j : ℕ) (l : Local) → slice_get ls j ≡ Some l → slice_get S.function.locals (k + j) ≡ Some l)
    → All (λ l. IsScalar l.of) ls
    → AllZip (IsOf S.program (S.function ∷ older)) (map (λ l. l.of) ls) xs
    → g.current.function ≡ S.number → g.current.arguments ≡ others ++ all_words_passed (map (λ l. l.of) ls) xs
    → Shows S.program (S.function ∷ older) s g
    → Takes S (S.function ∷ older) before (parameters_lines (context_of S) ls k (length others))
    (with_parameters k ls xs s) g

-- ---- programs

-- Lowering keeps the outcome of every program, given the law of expressions.
abbrev pub ProgramsLowerSo : Type 0
ProgramsLowerSo = ExpressionsLower → ProgramsLower
