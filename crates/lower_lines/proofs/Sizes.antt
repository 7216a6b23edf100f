-- The graphs are small beside their program.
use Rattle.std.proofs.Common.{◌≤◌, ◌*◌, List, [], ◌∷◌, arith, length, map}
use Rattle.std.specs.Prelude.{sum_by}
use Rattle.std.specs.List.{AllByRecursion}
use Rattle.std.proofs.lemmas.List.Elements.{recursion_from_All}
use Rattle.std.proofs.lemmas.List.Sums.{sum_by-cons}
use Rattle.std.proofs.lemmas.List.{length-map}
use Rattle.c_tree.specs.Program.{Function, Program}
use Rattle.c_tree.specs.Sizes.{function_size, statements_height}
use Rattle.lower_lines.specs.Lowering.{array_of, arrays_in, points_in, words_in}
use Rattle.lower_lines.specs.Programs.{graph_of_function}
use Rattle.lower_lines.specs.Laws.{GraphsAreSmall}
use Rattle.lower_lines.proofs.Weights.{all-words}
use Rattle.lower_lines.proofs.Weighings.{function-weighs}

points-small : (p : Program) (fs : List Function)
    → sum_by points_in (map (graph_of_function p) fs) ≤ 20 * sum_by function_size fs
points-small p [] = omega arith
points-small p (f ∷ fs) =
    let w = (function-weighs (2 * statements_height f.body) (record { program = p; function = f })
    (omega arith)).points in
    let s = sum_by-cons points_in (graph_of_function p f) (map (graph_of_function p) fs) in
    let s' = sum_by-cons function_size f fs in
    let h = points-small p fs in
    omega (arith, w, s, s', h)

words-small : (p : Program) (fs : List Function)
    → sum_by words_in (map (graph_of_function p) fs) ≤ 2 * sum_by function_size fs
words-small p [] = omega arith
words-small p (f ∷ fs) =
    let w = (function-weighs (2 * statements_height f.body) (record { program = p; function = f })
    (omega arith)).words in
    let e = all-words (graph_of_function p f).ops in
    let s = sum_by-cons words_in (graph_of_function p f) (map (graph_of_function p) fs) in
    let s' = sum_by-cons function_size f fs in
    let h = words-small p fs in
    omega (arith, w, e, s, s', h)

arrays-small : (p : Program) (fs : List Function) → AllByRecursion (λ f. length f.arrays ≤ function_size f) fs
    → sum_by arrays_in (map (graph_of_function p) fs) ≤ sum_by function_size fs
arrays-small p [] few = omega arith
arrays-small p (f ∷ fs) few =
    let w = few.0 in
    let l = length-map f.arrays array_of in
    let s = sum_by-cons arrays_in (graph_of_function p f) (map (graph_of_function p) fs) in
    let s' = sum_by-cons function_size f fs in
    let h = arrays-small p fs few.1 in
    omega (arith, w, l, s, s', h)

pub graphs-are-small : GraphsAreSmall
graphs-are-small p typed memory = record {
  points = points-small p p.functions;
  words = words-small p p.functions;
  arrays = arrays-small p p.functions
      (recursion_from_All (λ (f : Function). length f.arrays ≤ function_size f) p.functions
      (λ k d low. (memory.functions k d low).declared));
}
