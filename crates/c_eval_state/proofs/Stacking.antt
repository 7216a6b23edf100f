-- Stacks in vectors, and rows of arguments, elements and statements from a place on.
use Rattle.std.proofs.Common.{◌≡◌, ℕ, zero, suc, ◌+◌, ◌<◌, ◌≤◌, ◌-◌, length, arith, List, [], ◌∷◌, ◌++◌, refl, sym}
use Rattle.std.proofs.Common.{ap, ◌∙◌}
use Rattle.std.specs.Prelude.{map, reverse, drop, take, slice_get, get_or, Option, Some, None}
use Rattle.std.proofs.lemmas.List.{reverse-append, map-append, take_all, length-drop, drop_more, drop_all, drop-map}
use Rattle.std.proofs.lemmas.List.{take-map, length-map, length-reverse}
use Rattle.c_tree.specs.Erased.{expression_of}
use Rattle.c_tree.specs.Program.{Argument, NoMore}
use Rattle.c_tree.specs.declared.expression.Expression as built
use Rattle.c_tree.specs.Erased.{statements_of, local_of}
use Rattle.c_tree.specs.declared.program.Local.{Local}
use Rattle.c_tree.specs.declared.types.ValueType.{ValueType}
use Rattle.c_tree.specs.declared.types.ValueType.TheVariants.{Void}
use Rattle.c_tree.specs.Evaluation.{type_of}
use Rattle.c_tree.specs.Program.{Done}
use Rattle.c_tree.specs.declared.statement.Statement.{Statement}
use Rattle.c_eval_state.specs.Values.{held_of}
use Rattle.c_eval_state.specs.declared.value.Value.{Value}
use Rattle.c_tree.specs.Store.{Held}
pub use Rattle.c_tree.proofs.Rows.{statements_are}
use Rattle.c_eval_laws.specs.TasksLaws.{ArgumentsAreLast}
use Rattle.c_eval_laws.specs.Steps.{statements_from}
use Rattle.c_eval_laws.specs.Tasks.{below_by, put_before}
use Rattle.c_eval_state.specs.Views.{stack_of, arguments_from, arguments_list, elements_from}

-- what is pushed is the first
pub pushed : {A B : Type 0} (of : A → B) (xs : List A) (x : A) → stack_of of (xs ++ x ∷ []) ≡ of x ∷ stack_of of xs
pushed {A} {B} of xs x = ap (λ (ys : List B). reverse ys) (map-append of xs (x ∷ []))
    ∙ reverse-append (map of xs) (of x ∷ [])

-- the statements from a place on
pub from_place : (xs : List Statement) (n : ℕ) → statements_from (statements_of xs) n ≡ statements_of (drop n xs)
from_place [] zero = refl
from_place [] (suc n) = refl
from_place (x ∷ xs) zero = refl
from_place (x ∷ xs) (suc n) = from_place xs n

pub from_slice : (xs : List Statement) (n : ℕ)
    → statements_of (take (length xs - n) (drop n xs)) ≡ statements_from (statements_of xs) n
from_slice xs n = ap (λ (ys : List Statement). statements_of ys) (take_all (length xs - n) (drop n xs)
    (omega (arith, length-drop n xs))) ∙ sym (from_place xs n)

-- none is behind the last
pub from_end : (xs : List Statement) (n : ℕ) → length xs ≤ n → statements_from (statements_of xs) n ≡ Done
from_end [] n h = refl
from_end (x ∷ xs) zero h = absurd (omega arith)
from_end (x ∷ xs) (suc n) h = from_end xs n (omega arith)

-- the elements from a place on, and none behind the last
pub elements_here : (es : List built.Expression) (place : ℕ) (d : built.Expression) → place < length es
    → elements_from place es ≡ expression_of (get_or es place d) ∷ elements_from (place + 1) es
elements_here es place d h = ap (λ (xs : List built.Expression). map expression_of xs) (drop_more es place d h)

pub elements_past : (es : List built.Expression) (place : ℕ) → length es ≤ place → elements_from place es ≡ []
elements_past es place h = ap (λ (xs : List built.Expression). map expression_of xs) (drop_all place es h)

-- the arguments from a place on
pub arguments_here : (es : List built.Expression) (count : ℕ) (d : built.Expression) → count < length es
    → arguments_from count es ≡ Argument (expression_of (get_or es count d)) (arguments_from (count + 1) es)
arguments_here es count d h = ap (λ (xs : List built.Expression). arguments_list xs) (drop_more es count d h)

pub arguments_past : (es : List built.Expression) (count : ℕ) → length es ≤ count → arguments_from count es ≡ NoMore
arguments_past es count h = ap (λ (xs : List built.Expression). arguments_list xs) (drop_all count es h)

-- the type of a local
abbrev pub kind_of : Option Local → ValueType
kind_of None = Void
kind_of (Some x) = x.of

pub type_there : (locals : List Local) (n : ℕ)
    → type_of (slice_get (map local_of locals) n) ≡ kind_of (slice_get locals n)
type_there [] n = refl
type_there (x ∷ xs) zero = refl
type_there (x ∷ xs) (suc n) = type_there xs n

-- the last so many values, and those below them
pub last_values : (values : List Value) (count : ℕ) → ArgumentsAreLast → count ≤ length (stack_of held_of values)
    → map held_of (drop (length values - count) values) ≡ put_before count (stack_of held_of values) []
last_values values count law h =
    let n : length (map held_of values) ≡ length values = length-map values held_of in
    let low : count ≤ length (map held_of values) = omega (arith, h, length-reverse (map held_of values)) in
    sym (drop-map held_of (length values - count) values)
    ∙ ap (λ (m : ℕ). drop (m - count) (map held_of values)) (sym n)
    ∙ sym (law (map held_of values) count low).0

pub values_below : (values : List Value) (count : ℕ) → ArgumentsAreLast → count ≤ length (stack_of held_of values)
    → stack_of held_of (take (length values - count) values) ≡ below_by count (stack_of held_of values)
values_below values count law h =
    let n : length (map held_of values) ≡ length values = length-map values held_of in
    let low : count ≤ length (map held_of values) = omega (arith, h, length-reverse (map held_of values)) in
    ap (λ (vs : List Held). reverse vs) (sym (take-map held_of (length values - count) values)
    ∙ ap (λ (m : ℕ). take (m - count) (map held_of values)) (sym n))
    ∙ sym (law (map held_of values) count low).1

pub last_slice : (values slice : List Value) (count len : ℕ) → slice ≡ values → len ≡ length values → ArgumentsAreLast
    → count ≤ length (stack_of held_of values)
    → map held_of (take (length slice - (len - count)) (drop (len - count) slice))
    ≡ put_before count (stack_of held_of values) []
last_slice values slice count len same n law h = rw same (rw n (ap (λ (vs : List Value). map held_of vs)
    (take_all (length values - (length values - count)) (drop (length values - count) values)
    (omega (arith, length-drop (length values - count) values))) ∙ last_values values count law h))
