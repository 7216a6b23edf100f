-- The graphs of a program are within the limits, even with a slot for each variable.
use Rattle.std.proofs.Common.{◌≡◌, ◌≤◌, ◌+◌, ◌*◌, ℕ, suc, List, [], ◌∷◌, length, Some, arith, refl}
use Rattle.std.specs.Prelude.{slice_get, sum_by}
use Rattle.std.specs.List.{All}
use Rattle.std.proofs.lemmas.List.Elements.{All-cons, All-head, All-nil, All-tail}
use Rattle.std.proofs.lemmas.List.Sums.{sum_by-cons}
use Rattle.c_tree.specs.Program.{Function}
use Rattle.c_tree.specs.Sizes.{function_size}
use Rattle.flow_graph.specs.Graphs.{Flow}
use Rattle.flow_graph.specs.Sizes.{array_bytes}
use Rattle.flow_graph.specs.WellFormed.{IsGraph}
use Rattle.allocator.specs.Allocations.{NothingFirst}
use Rattle.allocator.specs.PointMaps.{bytes_of_arrays}
use Rattle.allocator.specs.SplitForms.{FixedOperandsDie}
use Rattle.lower_lines.specs.Lowering.{HasShape, arrays_in, points_in, words_in}
use Rattle.lower_lines.specs.Words.{FunctionHasWords}
use Rattle.ia32_select.specs.Sizes.{BlocksAreFew, most_bytes}
use Rattle.pcc_program.specs.Code.{HasFrame}
use Rattle.pcc_program.specs.CodeLaws.{GraphsHaveFrames}
use Rattle.lower_laws.proofs.Sizes.{functions-few as few-functions}

arrays-sum : (arrays : List (ℕ × ℕ)) → bytes_of_arrays arrays ≡ sum_by array_bytes arrays
arrays-sum [] = refl
arrays-sum (a ∷ arrays) = omega (arith, arrays-sum arrays, sum_by-cons array_bytes a arrays)

-- what lowering promises of the graph of a function
record IsMade (f : Function) (flow : Flow) : Type 0 where
  shape : HasShape f flow
  dies : FixedOperandsDie flow
  nothing_first : NothingFirst flow

one-frame : BlocksAreFew → (functions objects : ℕ) (f : Function) (flow : Flow) → IsGraph functions objects flow
    → IsMade f flow → FunctionHasWords f → points_in flow ≤ 1310720 → HasFrame functions objects flow
one-frame few functions objects f flow graph made words points =
    let blocks = few functions objects flow graph in
    let sum = arrays-sum flow.arrays in
    record {
      graph = graph;
      small = omega (arith, made.shape.frame, words.frame, sum);
      labels = omega (arith, blocks, points);
      dies = made.dies;
      nothing_first = made.nothing_first;
    }

-- functions and graphs side by side
all-frames : BlocksAreFew → (functions objects : ℕ) (fs : List Function) (flows : List Flow) → length flows ≡ length fs
    → ((k : ℕ) (f : Function) (flow : Flow) → slice_get fs k ≡ Some f → slice_get flows k ≡ Some flow → IsMade f flow)
    → All FunctionHasWords fs → All (IsGraph functions objects) flows → sum_by points_in flows ≤ 1310720
    → All (HasFrame functions objects) flows
all-frames few functions objects [] [] many made words graphs points = All-nil (HasFrame functions objects)
all-frames few functions objects [] (flow ∷ flows) many made words graphs points = absurd (omega (arith, many))
all-frames few functions objects (f ∷ fs) [] many made words graphs points = absurd (omega (arith, many))
all-frames few functions objects (f ∷ fs) (flow ∷ flows) many made words graphs points =
    All-cons (HasFrame functions objects) flow flows
    (one-frame few functions objects f flow (All-head (IsGraph functions objects) flow flows graphs)
    (made 0 f flow refl refl) (All-head FunctionHasWords f fs words)
    (omega (arith, points, sum_by-cons points_in flow flows)))
    (all-frames few functions objects fs flows (omega (arith, many)) (λ k g h e i. made (suc k) g h e i)
    (All-tail FunctionHasWords f fs words) (All-tail (IsGraph functions objects) flow flows graphs)
    (omega (arith, points, sum_by-cons points_in flow flows)))

-- the bytes of many graphs, by their points, argument words and arrays
most_bytes-all : (flows : List Flow) → sum_by most_bytes flows
    ≡ 800 * sum_by points_in flows + 8 * sum_by words_in flows + 16 * sum_by arrays_in flows
most_bytes-all [] = refl
most_bytes-all (flow ∷ flows) =
    omega (
      arith,
      most_bytes-all flows,
      sum_by-cons most_bytes flow flows,
      sum_by-cons points_in flow flows,
      sum_by-cons words_in flow flows,
      sum_by-cons arrays_in flow flows,
    )

pub graphs-have-frames : BlocksAreFew → GraphsHaveFrames
graphs-have-frames blocks program graphs memory declared of =
    let first = of.first_points declared in
    let small = of.small in
    record {
      each = all-frames blocks (length graphs.functions) (length graphs.objects) program.functions graphs.functions
          of.shapes.as_many
          (λ k f flow e at. record {
            shape = of.shapes.each k f flow e at;
            dies = λ point op is there. (of.liveness k f flow e at).1 point op there;
            nothing_first = λ v point begins live. first k f flow e at point v begins live;
          })
          memory.functions of.well_formed.functions (omega (arith, small.points, memory.small));
      few = omega (arith, few-functions program.functions, memory.small, of.shapes.as_many);
      code = omega (
        arith,
        most_bytes-all graphs.functions,
        small.points,
        small.words,
        small.arrays,
        memory.small,
      );
    }
