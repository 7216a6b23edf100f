-- A pointer that is tested where it stands.
use Rattle.std.proofs.Common.{◌≡◌, ◌≢◌, ℕ, ◌+◌, ◌*◌, ◌<◌, ◌≤◌, Bool, true, false, not, ◌&&◌, ℤ, pos, List, [], ◌∷◌}
use Rattle.std.proofs.Common.{◌++◌, Option, Some, refl, sym, ap, ◌∙◌, subst, arith, append-nil}
use Rattle.std.specs.List.{Contains}
use Rattle.std.specs.Ordering.{int_eq}
use Rattle.std.specs.Prelude.{slice_get, if◌then◌else◌}
use Rattle.pcc_base.specs.declared.run.Width.TheVariants.{Two}
use Rattle.pcc_base.specs.Outcome.{ArrayName, Null, Static, InFrame, Unknown, Outcome, Value, Number}
use Rattle.c_tree.specs.declared.types.IntegerType.{IntegerType}
use Rattle.c_tree.specs.declared.types.ValueType.TheVariants.{Pointer}
use Rattle.c_tree.specs.Operators.{is_true}
use Rattle.c_tree.specs.Program.{Function}
use Rattle.c_tree.specs.Store as source
use Rattle.c_tree.specs.Store.{Gives, HoldsPointer}
use Rattle.flow_graph.specs.declared.op.Comparison.TheVariants.{Ne}
use Rattle.flow_graph.specs.declared.op.Op.TheVariants as op
use Rattle.flow_graph.specs.Meaning.{arrays_compared, both, comparison, compared, first_of}
use Rattle.flow_graph.specs.States as graph
use Rattle.flow_graph.specs.States.{array_from, number_of, value_at, with_value}
use Rattle.lower_lines.specs.Following.{Comes, Follows, IsSite, Site, Stand, at_start, behind, context_of, site_lines}
use Rattle.lower_lines.specs.Lines.{Line, Start, Emit, starts_in}
use Rattle.lower_lines.specs.Parts.{Tests, pointer_test}
use Rattle.lower_lines.specs.Relation.{Shows, array_value}
use Rattle.lower_lines.specs.Variables.{ForScratch, Spot, levels_of, local_variables, temporary, variable_widths}
use Rattle.lower_lines.proofs.Changes.{kept-by-change, temporaries-free}
use Rattle.lower_lines.proofs.Locals.{get-set_other, get-set_same}
use Rattle.lower_lines.proofs.Steps.{branch-step, const-step}
use Rattle.lower_laws.proofs.Going.{stand-back, stand-front}
use Rattle.lower_laws.proofs.Leading.{start-goes}
use Rattle.lower_laws.proofs.Made.{start-stands, variable-there}
use Rattle.lower_laws.proofs.Widths.{temporary-width}
use Rattle.lower_laws.proofs.Working.{comparison-is}
use Rattle.c_tree.specs.Operators.{same_array}

-- two variables' values, compared
abbrev values-compared : Option Value → Option Value → Option Bool
values-compared a b = first_of (both (number_of a) (number_of b) (compared Ne))
    (arrays_compared Ne (array_from a) (array_from b))

-- an array and 0
null-compared : (array : ArrayName)
    → values-compared (Some (array_value array)) (Some (Number (pos 0))) ≡ Some (not (same_array array Null))
null-compared Null = refl
null-compared (Static k) = refl
null-compared (InFrame k depth) = refl
null-compared Unknown = refl

module _ (S : Site) (site : IsSite S) (older : List Function) (level : ℕ) (before : List Line) (t : source.State)
    (g : graph.State) (fits : g.current.function ≡ S.number) (shows : Shows S.program (S.function ∷ older) t g)
    (room : level < levels_of S.function) (array : ArrayName) (index : ℤ) (x : Spot)
    (at_array : slice_get g.current.variables x.array ≡ Some (array_value array))
    (at_number : slice_get g.current.variables x.number ≡ Some (Number index))
    (array-apart : x.array ≢ temporary (context_of S) level ForScratch)
    (number-apart : x.number ≢ temporary (context_of S) level ForScratch) where
  abbrev z : ℕ
  z = temporary (context_of S) level ForScratch

  abbrev zeroed : graph.State
  zeroed = with_value z (Number (pos 0)) g

  low : (a b : ℕ) → a ≤ a + b + 3
  low a b = omega arith

  high : (a b : ℕ) → a + b ≤ a + b + 3
  high a b = omega arith

  width : slice_get (variable_widths S.function) z ≡ Some Two
  width = temporary-width (context_of S) level ForScratch room

  zero-at : value_at zeroed z ≡ Some (Number (pos 0))
  zero-at = get-set_same g.current.variables z (Number (pos 0))
      (variable-there S.program S.function older t g z Two shows width)

  array-compares : comparison Ne zeroed x.array z ≡ Some (not (same_array array Null))
  array-compares =
      ap (λ (a : Option Value). values-compared a (value_at zeroed z))
      (get-set_other g.current.variables z x.array (Number (pos 0)) array-apart ∙ at_array)
      ∙ ap (λ (b : Option Value). values-compared (Some (array_value array)) b) zero-at
      ∙ null-compared array

  index-compares : comparison Ne zeroed x.number z ≡ Some (not (int_eq index (pos 0)))
  index-compares =
      comparison-is Ne zeroed x.number z index (pos 0)
      (ap number_of (get-set_other g.current.variables z x.number (Number (pos 0)) number-apart ∙ at_number))
      (ap number_of zero-at)

  start-chosen : (holds : Bool) (yes' no' : ℕ) → Contains (starts_in (site_lines S)) yes'
      → Contains (starts_in (site_lines S)) no'
      → (other : List Line) × Stand S other (Start (if holds then yes' else no') ∷ [])
  start-chosen true yes' no' a b = start-stands S yes' a
  start-chosen false yes' no' a b = start-stands S no' b

  abbrev set : Line
  set = Emit (op.Const z (pos 0))

  module _ (block yes' no' : ℕ) (stands : Stand S before (pointer_test (context_of S) block level x yes' no'))
      (has-yes : Contains (starts_in (site_lines S)) yes') (has-no : Contains (starts_in (site_lines S)) no') where
    abbrev first : Line
    first = Emit (op.Branch Ne x.array z yes' block)

    abbrev second : Line
    second = Emit (op.Branch Ne x.number z yes' no')

    after-set : Stand S (before ++ set ∷ []) (first ∷ Start block ∷ second ∷ [])
    after-set = stand-back S before (set ∷ []) (first ∷ Start block ∷ second ∷ []) stands

    after-first : Stand S ((before ++ set ∷ []) ++ first ∷ []) (Start block ∷ second ∷ [])
    after-first = stand-back S (before ++ set ∷ []) (first ∷ []) (Start block ∷ second ∷ []) after-set

    start-there : Stand S ((before ++ set ∷ []) ++ first ∷ []) (Start block ∷ [])
    start-there = stand-front S ((before ++ set ∷ []) ++ first ∷ []) (Start block ∷ []) (second ∷ []) after-first

    after-start : Stand S (((before ++ set ∷ []) ++ first ∷ []) ++ Start block ∷ []) (second ∷ [])
    after-start = stand-back S ((before ++ set ∷ []) ++ first ∷ []) (Start block ∷ []) (second ∷ []) after-first

    -- from the first branch on
    branches : (same : Bool) → same_array array Null ≡ same → (o : Outcome)
        → Comes S t.turns (at_start S (if is_true (HoldsPointer array index) then yes' else no') zeroed) o
        → Comes S t.turns (behind (before ++ set ∷ []) zeroed) o
    branches false e o r =
        let (other, starts) = start-stands S yes' has-yes in
        branch-step S site (before ++ set ∷ []) zeroed fits Ne x.array z yes' block true t.turns o other
        (stand-front S (before ++ set ∷ []) (first ∷ []) (Start block ∷ second ∷ []) after-set)
        (array-compares ∙ ap (λ (b : Bool). Some (not b)) e) starts
        (subst (λ (b : Bool). Comes S t.turns
        (at_start S (if not (b && int_eq index (pos 0)) then yes' else no') zeroed) o) e r)
    branches true e o r =
        let (other, starts) = start-chosen (not (int_eq index (pos 0))) yes' no' has-yes has-no in
        branch-step S site (before ++ set ∷ []) zeroed fits Ne x.array z yes' block false t.turns o
        ((before ++ set ∷ []) ++ first ∷ [])
        (stand-front S (before ++ set ∷ []) (first ∷ []) (Start block ∷ second ∷ []) after-set)
        (array-compares ∙ ap (λ (b : Bool). Some (not b)) e) start-there
        (start-goes S site ((before ++ set ∷ []) ++ first ∷ []) block t.turns zeroed start-there fits o
        (branch-step S site (((before ++ set ∷ []) ++ first ∷ []) ++ Start block ∷ []) zeroed fits Ne x.number z yes'
        no' (not (int_eq index (pos 0))) t.turns o other after-start index-compares starts
        (subst (λ (b : Bool). Comes S t.turns
        (at_start S (if not (b && int_eq index (pos 0)) then yes' else no') zeroed) o) e r)))

    -- the state that a test leaves
    pub pointer-tested : (element : IntegerType)
        → Follows S (S.function ∷ older) before (pointer_test (context_of S) block level x yes' no') level
        (Tests yes' no') (Pointer element) t g (Gives (HoldsPointer array index) t)
    pointer-tested element = (
      zeroed,
      [],
      temporaries-free S.program S.function older t g z (Number (pos 0)) shows
          (low (local_variables S.function) (level * 5)),
      (kept-by-change (local_variables S.function) level z (Number (pos 0)) g).1
          (high (local_variables S.function) (level * 5)),
      tt,
      sym (append-nil t.visits),
      λ o r. const-step S site before g fits z (pos 0) t.turns o
          (stand-front S before (set ∷ []) (first ∷ Start block ∷ second ∷ []) stands) width
          (branches (same_array array Null) refl o r),
    )
