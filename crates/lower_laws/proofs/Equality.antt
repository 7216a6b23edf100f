-- Whether two pointers are the same.
use Rattle.std.proofs.Common.{◌≡◌, ℕ, Bool, true, false, not, ◌&&◌, ℤ, List, [], ◌∷◌, ◌++◌}
use Rattle.std.proofs.Common.{Option, Some, refl, sym, ap, ◌∙◌, subst, append-nil}
use Rattle.std.specs.List.{Contains}
use Rattle.std.specs.Ordering.{int_eq}
use Rattle.std.specs.Prelude.{if◌then◌else◌, slice_get}
use Rattle.pcc_base.specs.Outcome.{ArrayName, Null, Static, InFrame, Unknown, Outcome, Value}
use Rattle.c_tree.specs.declared.types.IntegerType.{IntegerType}
use Rattle.c_tree.specs.declared.types.ValueType.TheVariants.{Pointer}
use Rattle.c_tree.specs.Evaluation.{truth_value}
use Rattle.c_tree.specs.Operators.{is_true, same_array, same_pointer}
use Rattle.c_tree.specs.Program.{Function}
use Rattle.c_tree.specs.Store as source
use Rattle.c_tree.specs.Store.{HoldsPointer}
use Rattle.flow_graph.specs.declared.op.Comparison.{Comparison}
use Rattle.flow_graph.specs.declared.op.Comparison.TheVariants.{Eq, Ne}
use Rattle.flow_graph.specs.declared.op.Op.TheVariants as op
use Rattle.flow_graph.specs.Meaning.{arrays_compared, both, comparison, compared, first_of}
use Rattle.flow_graph.specs.States as graph
use Rattle.flow_graph.specs.States.{array_from, number_of, value_at}
use Rattle.lower_lines.specs.Following.{Begins, Comes, IsSite, Site, Stand, at_start, behind, site_lines}
use Rattle.lower_lines.specs.Lines.{Line, Start, Emit, starts_in}
use Rattle.lower_lines.specs.Operators.{equality_test}
use Rattle.lower_lines.specs.Relation.{HoldsAt, array_value}
use Rattle.lower_lines.specs.Variables.{Spot, local_variables}
use Rattle.lower_lines.proofs.Changes.{kept-none}
use Rattle.lower_lines.proofs.Steps.{branch-step}
use Rattle.lower_laws.proofs.Going.{stand-back, stand-front}
use Rattle.lower_laws.proofs.Leading.{start-goes}
use Rattle.lower_laws.proofs.Made.{start-stands}
use Rattle.lower_laws.proofs.Working.{comparison-is}
use Rattle.lower_laws.proofs.Choosing.{TestsHere}

-- ---- arrays, which are only the same or not

-- two variables' values, compared
abbrev values-compared : Comparison → Option Value → Option Value → Option Bool
values-compared how a b = first_of (both (number_of a) (number_of b) (compared how))
    (arrays_compared how (array_from a) (array_from b))

arrays-equal : (a b : ArrayName)
    → values-compared Eq (Some (array_value a)) (Some (array_value b)) ≡ Some (same_array a b)
arrays-equal Null Null = refl
arrays-equal Null (Static l) = refl
arrays-equal Null (InFrame l other) = refl
arrays-equal Null Unknown = refl
arrays-equal (Static k) Null = refl
arrays-equal (Static k) (Static l) = refl
arrays-equal (Static k) (InFrame l other) = refl
arrays-equal (Static k) Unknown = refl
arrays-equal (InFrame k depth) Null = refl
arrays-equal (InFrame k depth) (Static l) = refl
arrays-equal (InFrame k depth) (InFrame l other) = refl
arrays-equal (InFrame k depth) Unknown = refl
arrays-equal Unknown Null = refl
arrays-equal Unknown (Static l) = refl
arrays-equal Unknown (InFrame l other) = refl
arrays-equal Unknown Unknown = refl

arrays-differ : (a b : ArrayName)
    → values-compared Ne (Some (array_value a)) (Some (array_value b)) ≡ Some (not (same_array a b))
arrays-differ Null Null = refl
arrays-differ Null (Static l) = refl
arrays-differ Null (InFrame l other) = refl
arrays-differ Null Unknown = refl
arrays-differ (Static k) Null = refl
arrays-differ (Static k) (Static l) = refl
arrays-differ (Static k) (InFrame l other) = refl
arrays-differ (Static k) Unknown = refl
arrays-differ (InFrame k depth) Null = refl
arrays-differ (InFrame k depth) (Static l) = refl
arrays-differ (InFrame k depth) (InFrame l other) = refl
arrays-differ (InFrame k depth) Unknown = refl
arrays-differ Unknown Null = refl
arrays-differ Unknown (Static l) = refl
arrays-differ Unknown (InFrame l other) = refl
arrays-differ Unknown Unknown = refl

values-are : (how : Comparison) (g : graph.State) (x y : ℕ) (a b : ArrayName) (bit : Bool)
    → slice_get g.current.variables x ≡ Some (array_value a) → slice_get g.current.variables y ≡ Some (array_value b)
    → values-compared how (Some (array_value a)) (Some (array_value b)) ≡ Some bit → comparison how g x y ≡ Some bit
values-are how g x y a b bit at_x at_y compares =
    ap (λ (v : Option Value). values-compared how v (value_at g y)) at_x
    ∙ ap (λ (v : Option Value). values-compared how (Some (array_value a)) v) at_y ∙ compares

pub arrays-are : (g : graph.State) (x y : ℕ) (a b : ArrayName)
    → slice_get g.current.variables x ≡ Some (array_value a) → slice_get g.current.variables y ≡ Some (array_value b)
    → comparison Eq g x y ≡ Some (same_array a b)
arrays-are g x y a b at_x at_y = values-are Eq g x y a b (same_array a b) at_x at_y (arrays-equal a b)

-- ---- the test

true-is : (bit : Bool) → is_true (truth_value bit) ≡ bit
true-is true = refl
true-is false = refl

module _ (S : Site) (site : IsSite S) (older : List Function) (level : ℕ) (before : List Line) (s : source.State)
    (g : graph.State) (b : Begins S (S.function ∷ older) s g) (t u : IntegerType) (array array' : ArrayName)
    (index index' : ℤ) (x y : Spot) (holds : HoldsAt g.current.variables (Pointer t) x (HoldsPointer array index))
    (holds' : HoldsAt g.current.variables (Pointer u) y (HoldsPointer array' index')) where
  module _ (block yes' no' : ℕ) (stands : Stand S before (equality_test block x y yes' no'))
      (has-yes : Contains (starts_in (site_lines S)) yes') (has-no : Contains (starts_in (site_lines S)) no') where
    abbrev first : Line
    first = Emit (op.Branch Ne x.array y.array no' block)

    abbrev second : Line
    second = Emit (op.Branch Eq x.number y.number yes' no')

    after-first : Stand S (before ++ first ∷ []) (Start block ∷ second ∷ [])
    after-first = stand-back S before (first ∷ []) (Start block ∷ second ∷ []) stands

    start-there : Stand S (before ++ first ∷ []) (Start block ∷ [])
    start-there = stand-front S (before ++ first ∷ []) (Start block ∷ []) (second ∷ []) after-first

    after-start : Stand S ((before ++ first ∷ []) ++ Start block ∷ []) (second ∷ [])
    after-start = stand-back S (before ++ first ∷ []) (Start block ∷ []) (second ∷ []) after-first

    arrays-apart : comparison Ne g x.array y.array ≡ Some (not (same_array array array'))
    arrays-apart = values-are Ne g x.array y.array array array' (not (same_array array array')) holds.0 holds'.0
        (arrays-differ array array')

    indexes-compare : comparison Eq g x.number y.number ≡ Some (int_eq index index')
    indexes-compare =
        comparison-is Eq g x.number y.number index index' (ap number_of holds.1) (ap number_of holds'.1)

    chosen-start : (bit : Bool) → (other : List Line) × Stand S other (Start (if bit then yes' else no') ∷ [])
    chosen-start true = start-stands S yes' has-yes
    chosen-start false = start-stands S no' has-no

    branches : (same : Bool) → same_array array array' ≡ same → (o : Outcome)
        → Comes S s.turns (at_start S (if same && int_eq index index' then yes' else no') g) o
        → Comes S s.turns (behind before g) o
    branches false e o r =
        let (other, starts) = start-stands S no' has-no in
        branch-step S site before g b.function Ne x.array y.array no' block true s.turns o other
        (stand-front S before (first ∷ []) (Start block ∷ second ∷ []) stands)
        (arrays-apart ∙ ap (λ (bit : Bool). Some (not bit)) e) starts r
    branches true e o r =
        let (other, starts) = chosen-start (int_eq index index') in
        branch-step S site before g b.function Ne x.array y.array no' block false s.turns o (before ++ first ∷ [])
        (stand-front S before (first ∷ []) (Start block ∷ second ∷ []) stands)
        (arrays-apart ∙ ap (λ (bit : Bool). Some (not bit)) e) start-there
        (start-goes S site (before ++ first ∷ []) block s.turns g start-there b.function o
        (branch-step S site ((before ++ first ∷ []) ++ Start block ∷ []) g b.function Eq x.number y.number yes' no'
        (int_eq index index') s.turns o other after-start indexes-compare starts r))

  pub equality-tests : TestsHere S (S.function ∷ older) level (λ block holds fails. equality_test block x y holds fails)
      before s g (same_pointer array index array' index')
  equality-tests block yes' no' stands has-yes has-no = (
    g,
    [],
    b.shows,
    kept-none (local_variables S.function) level g,
    tt,
    sym (append-nil s.visits),
    λ o r. branches block yes' no' stands has-yes has-no (same_array array array') refl o
        (subst (λ (bit : Bool). Comes S s.turns (at_start S (if bit then yes' else no') g) o)
        (true-is (same_pointer array index array' index')) r),
  )
