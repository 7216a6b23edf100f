-- The laws of lowering. Each is a statement by itself: those of expressions, statements, calls and programs take one
-- another as premises, so that each can be proved beside the others.
use Rattle.std.specs.Prelude.{◌≡◌, ◌≤◌, ℕ, Bool, false, List, ◌++◌, [], ◌∷◌, slice_get, Some}
use Rattle.std.specs.List.{All}
use Rattle.pcc_base.specs.Outcome.{Listing}
use Rattle.c_eval_laws.specs.Laws.{within}
use Rattle.c_tree.specs.declared.types.ValueType.{ValueType}
use Rattle.c_tree.specs.Evaluation.{call_within, evaluate, evaluate_all, execute, execute_from, locate, type_at}
use Rattle.c_tree.specs.Program.{Arguments, Expression, Local, Function, Place, Program, Statement, Statements}
use Rattle.c_tree.specs.WellTyped.{AreArguments, AreStatements, IsPlace, IsStatement, IsTyped, WellTyped}
use Rattle.c_tree.specs.WellTyped.{statement_numbers, statements_numbers}
use Rattle.flow_graph.specs.declared.op.Op.{Op}
use Rattle.flow_graph.specs.Graphs.{is_end}
use Rattle.flow_graph.specs.Meaning.{Moves, into_block, onward}
use Rattle.flow_graph.specs.States as graph
use Rattle.flow_graph.specs.States.{op_at}
use Rattle.flow_graph.specs.WellFormed.{IsGraphProgram}
use Rattle.lower_lines.specs.Expressions.{all_passed, part_of, parts_of, place_of}
use Rattle.lower_lines.specs.Following.{AreLines, CallsFollow, IsSite, Lowers, LowersAll, LowersPlace, LowersRun, Site}
use Rattle.lower_lines.specs.Following.{Stand, at_start, behind, context_of, graphs_of}
use Rattle.lower_lines.specs.Lines.{Line, Start, Emit}
use Rattle.lower_lines.specs.Lowering.{AreSmall, HaveMarks, HaveShapes, HasObjects, KeepsOutcome, MarksOnce}
use Rattle.lower_lines.specs.Programs.{body_run, lowered}
use Rattle.lower_lines.specs.Shown.{ListsLocals, locals_at}
use Rattle.lower_lines.specs.Statements.{block_run, run_of, runs_of}
use Rattle.lower_lines.specs.Variables.{levels_of}
use Rattle.lower_lines.specs.Words.{IsInMemory}

-- ---- lines and their graph

-- behind lines stands the op of the next line
abbrev pub OpsStand : Type 0
OpsStand = (S : Site) → IsSite S → (before : List Line) (i : Op) (g : graph.State) → Stand S before (Emit i ∷ [])
    → g.current.function ≡ S.number → op_at (graphs_of S) (behind before g) ≡ Some i

-- the op behind one that is no end is that of the next line
abbrev pub NextStands : Type 0
NextStands = (S : Site) → IsSite S → (before : List Line) (i : Op) (g : graph.State) → Stand S before (Emit i ∷ [])
    → is_end i ≡ false → g.current.function ≡ S.number
    → onward (graphs_of S) (behind before g) ≡ Moves (behind (before ++ Emit i ∷ []) g)

-- a block leads behind the line that starts it
abbrev pub StartsStand : Type 0
StartsStand = (S : Site) → IsSite S → (before : List Line) (block : ℕ) (g : graph.State)
    → Stand S before (Start block ∷ []) → g.current.function ≡ S.number
    → (into_block (graphs_of S) block g ≡ Moves (at_start S block g))
    × (at_start S block g ≡ behind (before ++ Start block ∷ []) g)

-- ---- expressions

-- all expressions of a function do what the source does
abbrev pub ExpressionsFollow : Site → Type 0
ExpressionsFollow S = (e : Expression) → IsTyped S.program S.function e
    → Lowers S (part_of (context_of S) e) (evaluate S.calls e)

abbrev pub ExpressionsLower : Type 0
ExpressionsLower = (S : Site) → IsSite S → WellTyped S.program → CallsFollow S → ExpressionsFollow S

abbrev pub PlacesLower : Type 0
PlacesLower = (S : Site) → IsSite S → WellTyped S.program → CallsFollow S → (place : Place) (of : ValueType)
    → IsPlace S.program S.function place of
    → LowersPlace S of (place_of (context_of S) place) (locate S.calls place)

abbrev pub ArgumentsLower : Type 0
ArgumentsLower = (S : Site) → IsSite S → WellTyped S.program → CallsFollow S
    → (parameters : List Local) (arguments : Arguments) → AreArguments S.program S.function parameters arguments
    → LowersAll S parameters (all_passed (context_of S) parameters (parts_of (context_of S) arguments))
    (evaluate_all S.calls arguments)

-- ---- statements

-- a statement's number is one of the function's: its marks show the function's locals
abbrev pub IsOwn : Site → ℕ → Type 0
IsOwn S n = locals_at S.program.functions n ≡ S.function.locals

-- Loops go over a bound that isn't lower than that of calls.
abbrev pub StatementsLower : Type 0
StatementsLower = (S : Site) → IsSite S → WellTyped S.program → IsInMemory S.program → ExpressionsFollow S
    → (loops : ℕ) → S.bound ≤ loops → (breaks continues : Bool) (x : Statement)
    → IsStatement S.program S.function breaks continues x → All (IsOwn S) (statement_numbers x)
    → LowersRun S breaks continues (run_of (context_of S) x)
    (execute (within S.calls loops S.listing (type_at S.function) S.function.result) x)

abbrev pub BodiesLower : Type 0
BodiesLower = (S : Site) → IsSite S → WellTyped S.program → IsInMemory S.program → ExpressionsFollow S
    → (loops : ℕ) → S.bound ≤ loops → (breaks continues : Bool) (xs : Statements)
    → AreStatements S.program S.function breaks continues xs → All (IsOwn S) (statements_numbers xs)
    → LowersRun S breaks continues (block_run (context_of S) (runs_of (context_of S) xs))
    (execute_from (within S.calls loops S.listing (type_at S.function) S.function.result) xs 0)

-- ---- calls and programs

-- a function of a program, whose calls go over a bound
abbrev pub site_within : ℕ → Program → Listing → ℕ → Function → Site
site_within bound p listing k f = record {
  program = p;
  number = k;
  function = f;
  listing = listing;
  calls = call_within bound p listing;
  bound = bound;
}

-- The lines of each function start their blocks once, and end each before the next; their temporaries are there. (This
-- is of the laws of bounds.)
abbrev pub LinesClose : Program → Type 0
LinesClose p = (k : ℕ) (f : Function) → slice_get p.functions k ≡ Some f
    → AreLines (record { program = p; function = f })
    × ((body_run (record { program = p; function = f })).levels ≤ levels_of f)

-- calls over every bound do what the op of a call does
abbrev pub CallsLower : Type 0
CallsLower = (p : Program) (listing : Listing) → WellTyped p → IsInMemory p → ListsLocals p listing → LinesClose p
    → BodiesLower → ExpressionsLower → (bound k : ℕ) (f : Function) → slice_get p.functions k ≡ Some f
    → CallsFollow (site_within bound p listing k f)

-- lowering keeps the outcome
abbrev pub ProgramsLower : Type 0
ProgramsLower = (p : Program) → WellTyped p → IsInMemory p → KeepsOutcome p (lowered p)

-- ---- bounds

abbrev pub AllLinesClose : Type 0
AllLinesClose = (p : Program) → WellTyped p → LinesClose p

-- the graphs are a program of graphs: variables, arrays and blocks that an op names are there, every block is ended,
-- and ops name functions and objects of the program alone
abbrev pub GraphsAreThere : Type 0
GraphsAreThere = (p : Program) → WellTyped p → IsInMemory p → IsGraphProgram (lowered p)

-- their first variables, frame arrays, ends, and frames
abbrev pub ShapesHold : Type 0
ShapesHold = (p : Program) → WellTyped p → HaveShapes p (lowered p)

-- they grow no faster than the program
abbrev pub GraphsAreSmall : Type 0
GraphsAreSmall = (p : Program) → WellTyped p → IsInMemory p → AreSmall p (lowered p)

-- the marks are those of the statements, once each
abbrev pub MarksHold : Type 0
MarksHold = (p : Program) → WellTyped p → MarksOnce (lowered p) × HaveMarks p (lowered p)

abbrev pub ObjectsHold : Type 0
ObjectsHold = (p : Program) → HasObjects p (lowered p)
