-- What lowering promises of the graphs of a program.
use Rattle.std.specs.Prelude.{◌≡◌, ◌<◌, ◌≤◌, ℕ, ◌+◌, ◌*◌, List, [], ◌∷◌, ◌++◌, length, map, slice_get, Some}
use Rattle.std.specs.Prelude.{sum_by, take}
use Rattle.pcc_base.specs.declared.run.Width.{Width}
use Rattle.pcc_base.specs.Outcome.{Listing}
use Rattle.c_tree.specs.Evaluation.{source_outcome}
use Rattle.c_tree.specs.Objects.{data_objects}
use Rattle.c_tree.specs.Program.{LocalArray, Function, Program}
use Rattle.c_tree.specs.Sizes.{bytes_of, frame_bound, size_of}
use Rattle.flow_graph.specs.declared.op.Op.{Op}
use Rattle.flow_graph.specs.declared.op.Op.TheVariants.{Mark}
use Rattle.flow_graph.specs.Graphs.{Flow, IsDistinct, IsEnded, IsPlaced}
use Rattle.flow_graph.specs.Kinds.{marked}
use Rattle.flow_graph.specs.Shapes.{if_any}
use Rattle.flow_graph.specs.Running.{GraphOutcome}
use Rattle.flow_graph.specs.Sizes.{array_bytes, most_words, words_of}
use Rattle.flow_graph.specs.States.{GraphProgram}
use Rattle.lower_lines.specs.Shown.{ListsLocals, local_widths, numbers_of, variables_shown}

-- ---- outcomes

-- For every input and number of turns the graphs have the outcome of the source, whichever parts of the
-- locals of its function each statement shows: at each mark the first variables hold what all locals hold.
abbrev pub KeepsOutcome : Program → GraphProgram → Type 0
KeepsOutcome program graphs =
    (listing : Listing) → ListsLocals program listing → (input : List ℕ) (turns : ℕ)
    → GraphOutcome graphs (variables_shown program listing) input turns (source_outcome program listing input turns)

-- ---- each function

abbrev pub array_of : LocalArray → ℕ × ℕ
array_of a = (bytes_of a.element, a.count)

-- what the graph of a function keeps, whatever is live
pub record HasShape (f : Function) (flow : Flow) : Type 0 where
  -- the first variables are those of the locals, in the order of their declarations
  pub first_variables : (temporaries : List Width) × (flow.widths ≡ local_widths f.locals ++ temporaries)
  -- the frame arrays are those of the function
  pub arrays : flow.arrays ≡ map array_of f.arrays
  -- every block is ended
  pub ended : (block : ℕ) → block < length flow.blocks → IsEnded flow block
  -- the words of a frame with a slot for each variable, and of a call from it, are within the frame bound
  pub frame : 24 + 4 * length flow.widths + 4 * most_words flow.ops + sum_by array_bytes flow.arrays ≤ frame_bound f

-- the graphs are those of the program's functions, in order
pub record HaveShapes (program : Program) (graphs : GraphProgram) : Type 0 where
  pub as_many : length graphs.functions ≡ length program.functions
  pub each : (k : ℕ) (f : Function) (flow : Flow) → slice_get program.functions k ≡ Some f
      → slice_get graphs.functions k ≡ Some flow → HasShape f flow
  pub main : graphs.main ≡ program.main

-- ---- sizes

abbrev pub points_in : Flow → ℕ
points_in flow = length flow.ops

abbrev pub words_in : Flow → ℕ
words_in flow = sum_by words_of flow.ops

abbrev pub arrays_in : Flow → ℕ
arrays_in flow = length flow.arrays

-- the graphs grow no faster than the program
pub record AreSmall (program : Program) (graphs : GraphProgram) : Type 0 where
  pub points : sum_by points_in graphs.functions ≤ 20 * size_of program
  pub words : sum_by words_in graphs.functions ≤ 2 * size_of program
  pub arrays : sum_by arrays_in graphs.functions ≤ size_of program

-- ---- marks

-- the statements that ops mark
abbrev pub mark_of : Op → List ℕ
mark_of i = if_any (marked i)

abbrev pub marks_in : List Op → List ℕ
marks_in [] = []
marks_in (i ∷ is) = mark_of i ++ marks_in is

abbrev pub marks_of : List Flow → List ℕ
marks_of [] = []
marks_of (flow ∷ flows) = marks_in flow.ops ++ marks_of flows

-- each statement has at most one mark in all graphs together
abbrev pub MarksOnce : GraphProgram → Type 0
MarksOnce graphs = IsDistinct (marks_of graphs.functions)

-- The marks of a function's graph are its statements, which are numbered from one on: each has a mark at a point of a
-- block, and each mark is of one.
pub record MarksStatements (first : ℕ) (f : Function) (flow : Flow) : Type 0 where
  pub marked : (n : ℕ) → first ≤ n → n < first + numbers_of f.body
      → (point : ℕ) × IsPlaced flow point × (slice_get flow.ops point ≡ Some (Mark n))
  pub only : (point n : ℕ) → slice_get flow.ops point ≡ Some (Mark n) → (first ≤ n) × (n < first + numbers_of f.body)

-- the number of the first statement of a function: statements are numbered over all functions
abbrev pub first_statement : List Function → ℕ → ℕ
first_statement functions k = sum_by (λ f. numbers_of f.body) (take k functions)

-- the marks are those of the program's statements, in the graphs of their functions
abbrev pub HaveMarks : Program → GraphProgram → Type 0
HaveMarks program graphs =
    (k : ℕ) (f : Function) (flow : Flow) → slice_get program.functions k ≡ Some f → slice_get graphs.functions k
    ≡ Some flow
    → MarksStatements (first_statement program.functions k) f flow

-- ---- static objects

-- the objects are the program's with their first contents
abbrev pub HasObjects : Program → GraphProgram → Type 0
HasObjects program graphs = graphs.objects ≡ data_objects program
