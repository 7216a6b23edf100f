-- The graphs of a typed program in memory are a program of graphs.
use Rattle.std.proofs.Common.{◌≡◌, ◌<◌, ◌≤◌, ℕ, suc, List, [], ◌∷◌, Some, refl, ap, ◌∙◌}
use Rattle.std.proofs.Common.{arith, length, map, subst}
use Rattle.std.specs.Prelude.{slice_get, sum_by}
use Rattle.std.specs.List.{All, AllByRecursion}
use Rattle.std.proofs.lemmas.List.Elements.{All-from_recursion, recursion_from_All}
use Rattle.std.proofs.lemmas.Option.{slice_get_within}
use Rattle.std.proofs.lemmas.List.{length-map}
use Rattle.pcc_base.proofs.Lists.{all-weaker, all-at, element-at}
use Rattle.c_tree.specs.Objects.{data_object}
use Rattle.c_tree.specs.Program.{Function, LocalArray, Program}
use Rattle.c_tree.specs.Sizes.{array_bytes, function_size}
use Rattle.c_tree.specs.WellTyped.{IsMain, IsTypedFunction, WellTyped}
use Rattle.flow_graph.specs.declared.op.Op.{Op}
use Rattle.flow_graph.specs.declared.op.Op.TheVariants as op
use Rattle.flow_graph.specs.Graphs.{Flow, HasFittingOp, NumbersFit, points_of}
use Rattle.flow_graph.specs.WellFormed.{IsGraph, NamesWithin}
use Rattle.lower_lines.specs.Laws.{GraphsAreThere}
use Rattle.lower_lines.specs.Lowering.{array_of}
use Rattle.lower_lines.specs.Programs.{graph_of_function, lowered}
use Rattle.lower_lines.specs.Variables.{Context}
use Rattle.lower_lines.specs.Words.{FunctionHasWords, IsInMemory}
use Rattle.lower_lines.proofs.Closing.{all-lines-close, function-lays}
use Rattle.lower_lines.proofs.Few.{points-are-few}
use Rattle.lower_lines.proofs.Marks.{marks-hold}
use Rattle.lower_lines.proofs.Names.{names-are-there}
use Rattle.lower_lines.proofs.Ordered.{graphs-are-laid-out}
use Rattle.lower_lines.proofs.Shapes.{blocks-are, function-shape}
use Rattle.lower_lines.proofs.Types.{some-and}
use Rattle.lower_laws.specs.FitsLaws.{IsGood, Room, SmallNumber}
use Rattle.lower_laws.proofs.Functions.{function-fits}
use Rattle.lower_laws.proofs.Sizes.{counts-small, function-small, functions-few, numbers-small}
use Rattle.lower_laws.proofs.Copying.{get-mapped}

-- ---- lists

all-from-get : {X : Type 0} (P : X → Type 0) (xs : List X)
    → ((k : ℕ) (x : X) → slice_get xs k ≡ Some x → P x) → AllByRecursion P xs
all-from-get P [] h = tt
all-from-get P (x ∷ xs) h = (h 0 x refl, all-from-get P xs (λ k y e. h (suc k) y e))

all-mapped : {X Y : Type 0} (f : X → Y) (P : Y → Type 0) (xs : List X)
    → ((k : ℕ) (x : X) → slice_get xs k ≡ Some x → P (f x)) → AllByRecursion P (map f xs)
all-mapped f P [] h = tt
all-mapped f P (x ∷ xs) h = (h 0 x refl, all-mapped f P xs (λ k y e. h (suc k) y e))

-- ---- the numbers of an op

number-fits : (F O : ℕ) (i : Op) → F ≤ 0xffffffff → O ≤ 0xffffffff → NamesWithin F O i → SmallNumber i
    → ((s : ℕ) → i ≡ op.Mark s → s < 0x1_0000_0000) → NumbersFit i
number-fits F O (op.Const d n) f o names number mark = number
number-fits F O (op.Static d k) f o names number mark = let h : k < O = names in omega (arith, h, o)
number-fits F O (op.Get bits d k) f o names number mark = let h : k < O = names in omega (arith, h, o)
number-fits F O (op.Put bits k s) f o names number mark = let h : k < O = names in omega (arith, h, o)
number-fits F O (op.Param d k) f o names number mark = number
number-fits F O (op.Call d k arguments) f o names number mark = let h : k < F = names in omega (arith, h, f)
number-fits F O (op.Mark s) f o names number mark = mark s refl
number-fits F O _ f o names number mark = tt

module _ (p : Program) (well : WellTyped p) (memory : IsInMemory p) (k : ℕ) (f : Function)
    (at : slice_get p.functions k ≡ Some f) where
  abbrev flow : Flow
  flow = graph_of_function p f

  abbrev c : Context
  c = record { program = p; function = f }

  functions : AllByRecursion (IsTypedFunction p) p.functions
  functions = recursion_from_All (IsTypedFunction p) p.functions well.functions

  typed : IsTypedFunction p f
  typed = all-at (IsTypedFunction p) p.functions k f functions at

  words : FunctionHasWords f
  words = all-at FunctionHasWords p.functions k f (recursion_from_All FunctionHasWords p.functions memory.functions) at

  abbrev room : Room
  room = record {
    program = p;
    function = f;
    flow = flow;
    widths = refl;
    arrays = length-map f.arrays array_of;
  }

  size-small : function_size f ≤ 0x10000
  size-small = let s = function-small p.functions k f at in let m = memory.small in omega (arith, s, m)

  arrays-small : sum_by array_bytes f.arrays ≤ 0x4000
  arrays-small = let h = words.frame in omega (arith, h)

  good : AllByRecursion (IsGood flow) flow.ops
  good =
      function-fits room functions typed (counts-small f.arrays 0x4000 arrays-small (omega arith)) words.body
      (let s = size-small in omega (arith, s)) (all-lines-close p well k f at).1 (blocks-are p f)

  marks : (point s : ℕ) → slice_get flow.ops point ≡ Some (op.Mark s) → s < 0x1_0000_0000
  marks point s e =
      let (low, high) = ((marks-hold p well).1 k f flow at (get-mapped (graph_of_function p) p.functions k f at)).only
      point s e in
      let n = numbers-small p.functions k f at in
      let m = memory.small in
      omega (arith, high, n, m)

  names : AllByRecursion (NamesWithin (length p.functions) (length p.objects)) flow.ops
  names =
      let fs = length-map p.functions (graph_of_function p) in
      let os = length-map p.objects data_object in
      recursion_from_All (NamesWithin (length p.functions) (length p.objects)) flow.ops
      (subst (λ (n : ℕ). All (NamesWithin n (length p.objects)) flow.ops) fs
      (subst (λ (n : ℕ). All (NamesWithin (length (map (graph_of_function p) p.functions)) n) flow.ops) os
      (names-are-there p well k f at)))

  numbers : AllByRecursion NumbersFit flow.ops
  numbers = all-from-get NumbersFit flow.ops (λ point i e.
      number-fits (length p.functions) (length p.objects) i
      (let n = functions-few p.functions in let m = memory.small in omega (arith, n, m))
      (let o = memory.few_objects in omega (arith, o))
      (all-at (NamesWithin (length p.functions) (length p.objects)) flow.ops point i names e)
      (all-at (IsGood flow) flow.ops point i good e).1
      (λ s is. marks point s (e ∙ ap Some is)))

  fitting : (homes : List ℕ) → length homes ≡ length flow.ops → (block point : ℕ)
      → slice_get homes point ≡ Some block → HasFittingOp flow point
  fitting homes many block point e =
      let below = slice_get_within homes point block e in
      let (i, there) = element-at flow.ops point (omega (arith, below, many)) in
      (i, there, (all-at (IsGood flow) flow.ops point i good there).0)

  few-widths : length flow.widths ≤ 0xffffffff
  few-widths =
      let shape = (function-shape p f (function-lays p f well.functions typed)).frame in
      let h = words.frame in
      omega (arith, shape, h)

  few-elements : (arrays : List LocalArray) → AllByRecursion (λ a. a.count ≤ 0xffffffff) arrays
      → AllByRecursion (λ array. array.1 ≤ 0xffffffff) (map array_of arrays)
  few-elements [] h = tt
  few-elements (a ∷ arrays) h = (h.0, few-elements arrays h.1)

  graph-there : IsGraph (length (lowered p).functions) (length (lowered p).objects) flow
  graph-there =
      let laid = graphs-are-laid-out p well k f at in
      let few = points-are-few p well k f at in
      let size = size-small in
      let many = length-map f.arrays array_of in
      let declared = words.declared in
      record {
        keeps = (
          laid.homes,
          record {
            one_home = laid.one_home;
            each_block = λ block.
                let ordered = laid.each_block block in
                record {
                  at_home = ordered.at_home;
                  fits = all-weaker (λ (q : ℕ). slice_get laid.homes q ≡ Some block) (HasFittingOp flow)
                      (points_of flow block) (λ q e. fitting laid.homes laid.one_home block q e) ordered.at_home;
                  once = ordered.once;
                  ends = ordered.ends;
                };
            arrays_fit = laid.arrays_fit;
            few_elements = few-elements f.arrays
                (recursion_from_All (λ (a : LocalArray). a.count ≤ 0xffffffff) f.arrays words.arrays);
            numbers = numbers;
            few_variables = few-widths;
            few_arrays = omega (arith, many, declared, size);
            few_blocks = let a = few.0 in let b = few.1 in omega (arith, a, b, size);
            few_points = let a = few.0 in omega (arith, a, size);
          },
        );
        begins = laid.begins;
        ended = laid.ended;
        names = names-are-there p well k f at;
      }

pub graphs-are-there : GraphsAreThere
graphs-are-there p well memory = record {
  functions = All-from_recursion (IsGraph (length (lowered p).functions) (length (lowered p).objects))
      (lowered p).functions (all-mapped (graph_of_function p)
      (IsGraph (length (lowered p).functions) (length (lowered p).objects)) p.functions
      (λ k f at. graph-there p well memory k f at));
  objects = well.objects;
  main =
      let (f, at, is) = some-and (slice_get p.functions p.main) IsMain well.main in
      let below = slice_get_within p.functions p.main f at in
      let many = length-map p.functions (graph_of_function p) in
      omega (arith, below, many);
}
