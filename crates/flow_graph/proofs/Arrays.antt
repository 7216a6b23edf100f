-- Arrays that are there, with their elements.
use Rattle.std.proofs.Common.{◌≡◌, ℕ, zero, suc, ◌<◌, Bool, true, false, ℤ, List, [], ◌∷◌, length, Option, Some, None}
use Rattle.std.proofs.Common.{refl, ap, subst, ◌∙◌, eq-eqb}
use Rattle.std.specs.Prelude.{◌==◌, if◌then◌else◌, option_map, slice_get}
use Rattle.std.specs.List.{All}
use Rattle.std.proofs.lemmas.Option.{none-some, same_Some}
use Rattle.pcc_base.specs.Objects.{FitsBytes, Object}
use Rattle.pcc_base.specs.Outcome.{ArrayName, Null, Static, InFrame, Unknown}
use Rattle.flow_graph.specs.States.{Activation, GraphProgram, State, Waiting, active_of, depth_of, elements_in}
use Rattle.flow_graph.specs.States.{elements_of, elements_with, flow_at, frame_at, waiting_place}
use Rattle.flow_graph.specs.WellFormed.{AreActivations, AreElementsIn, AreElementsOf, HasFrameArray, IsActivation}
use Rattle.flow_graph.specs.WellFormed.{functions_of}
use Rattle.flow_graph.proofs.Changes.{IsStore, activations, are-there, width-of}
use Rattle.flow_graph.proofs.Lists.{zip-first}
use Rattle.flow_graph.proofs.Values.{own-array}

-- ---- of the youngest call

-- as many functions as calls
pub length-functions : (waiting : List Waiting) → length (functions_of (activations waiting)) ≡ length waiting
length-functions [] = refl
length-functions (w ∷ waiting) = ap suc (length-functions waiting)

-- a frame array of the youngest call's function is there
pub frame-there : (program : GraphProgram) (s : State) (k : ℕ) → k < length (flow_at program s.current.function).arrays
    → HasFrameArray program (functions_of (active_of s)) k (depth_of s)
frame-there program s k lt =
    subst (λ (n : ℕ). HasFrameArray program (functions_of (active_of s)) k (suc n)) (length-functions s.waiting)
    (own-array program (functions_of (activations s.waiting)) s.current.function k lt)

-- its elements are those of the array by its depth
pub own-elements : (program : GraphProgram) (s : State) (k : ℕ) (elements : List ℤ) → IsStore program s
    → slice_get s.current.arrays k ≡ Some elements
    → (width : ℕ) × (elements_of program s (InFrame k (depth_of s)) ≡ Some (width, elements))
own-elements program s k elements i e =
    let declared = (flow_at program s.current.function).arrays in
    let (array, is_array, fit) = zip-first AreElementsOf declared s.current.arrays k elements i.active.0.arrays e in
    let here : frame_at s (depth_of s) ≡ Some s.current =
    ap (λ (same : Bool). if same then Some s.current
    else option_map (λ (w : Waiting). w.activation) (slice_get s.waiting (waiting_place s (depth_of s))))
    (eq-eqb (depth_of s) (depth_of s) refl) in
    let width : option_map (λ (x : ℕ × ℕ). x.0) (slice_get declared k) ≡ Some array.0 =
    ap (option_map (λ (x : ℕ × ℕ). x.0)) is_array in (
      array.0,
      ap (elements_in program k) here
          ∙ ap (λ (o : Option ℕ). elements_with o (slice_get s.current.arrays k)) width
          ∙ ap (elements_with (Some array.0)) e,
    )

-- ---- of any

-- one of the active calls keeps what active calls keep
one-of : (program : GraphProgram) (waiting : List Waiting) (place : ℕ) (a : Activation)
    → AreActivations program (activations waiting)
    → option_map (λ (w : Waiting). w.activation) (slice_get waiting place) ≡ Some a
    → (older : List ℕ) × IsActivation program older a
one-of program [] place a h e = absurd (none-some a e)
one-of program (w ∷ waiting) zero a h e = (
  functions_of (activations waiting),
  subst (IsActivation program (functions_of (activations waiting)))
      (same_Some w.activation a e) h.0,
)
one-of program (w ∷ waiting) (suc place) a h e = one-of program waiting place a h.1 e

any-of : (program : GraphProgram) (s : State) (place : ℕ) (youngest : Bool) (a : Activation) → IsStore program s
    → (if youngest then Some s.current else option_map (λ (w : Waiting). w.activation) (slice_get s.waiting place))
    ≡ Some a
    → (older : List ℕ) × IsActivation program older a
any-of program s place true a i e = (
  functions_of (activations s.waiting),
  subst (IsActivation program (functions_of (activations s.waiting)))
      (same_Some s.current a e) i.active.0,
)
any-of program s place false a i e = one-of program s.waiting place a i.active.1 e

-- the call of a depth
pub frame-active : (program : GraphProgram) (s : State) (depth : ℕ) (a : Activation) → IsStore program s
    → frame_at s depth ≡ Some a → (older : List ℕ) × IsActivation program older a
frame-active program s depth a i e = any-of program s (waiting_place s depth) (depth == depth_of s) a i e

-- elements that fit an array of a width
fit-of : (array : ℕ × ℕ) (width : ℕ) (elements : List ℤ) → AreElementsOf array elements → array.0 ≡ width
    → All (FitsBytes width) elements
fit-of array width elements h e = subst (λ (n : ℕ). All (FitsBytes n) elements) e h.fit

-- the elements of a frame array of a call fit their width
frame-fit : (program : GraphProgram) (k width : ℕ) (elements : List ℤ) (o : Option Activation)
    → ((a : Activation) → o ≡ Some a → (older : List ℕ) × IsActivation program older a)
    → elements_in program k o ≡ Some (width, elements) → All (FitsBytes width) elements
frame-fit program k width elements None active e = absurd (none-some (width, elements) e)
frame-fit program k width elements (Some a) active e =
    let (older, h) = active a refl in
    let declared = (flow_at program a.function).arrays in
    let there = are-there (option_map (λ (x : ℕ × ℕ). x.0) (slice_get declared k))
    (slice_get a.arrays k) width elements e in
    let (array, is_array, fit) = zip-first AreElementsOf declared a.arrays k elements h.arrays there.is_elements in
    fit-of array width elements fit
    (width-of (λ (x : ℕ × ℕ). x.0) (slice_get declared k) array width there.is_width is_array)

-- the elements of an array that is there fit their width
pub elements-fit : (program : GraphProgram) (s : State) (array : ArrayName) (width : ℕ) (elements : List ℤ)
    → IsStore program s → elements_of program s array ≡ Some (width, elements) → All (FitsBytes width) elements
elements-fit program s Null width elements i e = absurd (none-some (width, elements) e)
elements-fit program s (Static k) width elements i e =
    let there = are-there (option_map (λ (o : Object). o.width) (slice_get program.objects k))
    (slice_get s.objects k) width elements e in
    let (object, is_object, fit) =
    zip-first AreElementsIn program.objects s.objects k elements i.objects there.is_elements in
    fit-of (object.width, length object.elements) width elements fit
    (width-of (λ (o : Object). o.width) (slice_get program.objects k) object width there.is_width is_object)
elements-fit program s (InFrame k depth) width elements i e =
    frame-fit program k width elements (frame_at s depth) (λ a at. frame-active program s depth a i at) e
elements-fit program s Unknown width elements i e = absurd (none-some (width, elements) e)
