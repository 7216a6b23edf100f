-- The arrays that variables hold are there.
use Rattle.std.proofs.Common.{◌≡◌, ℕ, zero, suc, ◌-◌, ◌<◌, ◌≤◌, Bool, false, ℤ, List, [], ◌∷◌, length, Option, Some}
use Rattle.std.proofs.Common.{inl, inr, refl, sym, ap, subst, ◌∙◌, eq-eqb, arith, rules}
use Rattle.std.specs.Prelude.{◌==◌, if◌then◌else◌, option_map, slice_get}
use Rattle.std.specs.List.{All}
use Rattle.std.proofs.lemmas.Bool.{cases_eq, le-leb}
use Rattle.std.proofs.lemmas.Option.{none-some, same_Some}
use Rattle.pcc_base.specs.Objects.{FitsBytes, IsObject, Object}
use Rattle.pcc_base.specs.Outcome.{ArrayName, Null, Static, InFrame, Unknown, Array}
use Rattle.pcc_base.specs.declared.run.Width.{Width}
use Rattle.pcc_base.specs.declared.run.Width.TheVariants.{One, Two}
use Rattle.pcc_base.proofs.Lists.{element-at, all-at}
use Rattle.flow_graph.specs.Graphs.{IsArray}
use Rattle.flow_graph.specs.States.{Activation, GraphProgram, State, Waiting, active_of, depth_of, elements_in}
use Rattle.flow_graph.specs.States.{elements_of, elements_with, flow_at, frame_at, waiting_place}
use Rattle.flow_graph.specs.WellFormed.{AreElementsIn, AreElementsOf, FitsWidth, HasArray, HasFrameArray}
use Rattle.flow_graph.specs.WellFormed.{HeldArraysAreThere, HeldFramesAreActive}
use Rattle.flow_graph.specs.WellFormed.{IsGraphProgram, IsState, functions_of}
use Rattle.flow_graph.proofs.Arrays.{frame-active, length-functions}
use Rattle.flow_graph.proofs.Changes.{activations, store}
use Rattle.flow_graph.proofs.Lists.{All-at, zip-first, zip-second}
use Rattle.flow_graph.proofs.Values.{graph-of}

-- an array that is there, with its elements
pub record HasElements (program : GraphProgram) (s : State) (array : ArrayName) : Type 0 where
  pub width : ℕ
  pub elements : List ℤ
  pub there : elements_of program s array ≡ Some (width, elements)
  pub is_array : IsArray (width, length elements)
  pub fit : All (FitsBytes width) elements

-- a static object is there
static-there : (program : GraphProgram) (s : State) (k : ℕ) → IsGraphProgram program → IsState program s
    → k < length program.objects → HasElements program s (Static k)
static-there program s k h i lt =
    let (object, is_object) = element-at program.objects k lt in
    let (elements, are_elements, fit) =
    zip-second AreElementsIn program.objects s.objects k object i.objects is_object in
    let o : IsObject object = All-at IsObject program.objects k object h.objects is_object in
    record {
      width = object.width;
      elements = elements;
      there = ap (λ (x : Option Object). elements_with (option_map (λ (y : Object). y.width) x)
          (slice_get s.objects k)) is_object
          ∙ ap (elements_with (Some object.width)) are_elements;
      is_array = (o.width, omega (arith, o.some_elements, fit.many));
      fit = fit.fit;
    }

-- ---- frame arrays

-- where the function of a call stands, the call stands
waiting-at : (waiting : List Waiting) (place f : ℕ) → slice_get (functions_of (activations waiting)) place ≡ Some f
    → (w : Waiting) × (slice_get waiting place ≡ Some w) × (w.activation.function ≡ f)
waiting-at [] place f e = absurd (none-some f e)
waiting-at (w ∷ waiting) zero f e = (w, refl, same_Some w.activation.function f e)
waiting-at (w ∷ waiting) (suc place) f e = waiting-at waiting place f e

-- a number of a list by another name of its place
at-place : (fs : List ℕ) (f p q : ℕ) → p ≡ q → slice_get fs p ≡ Some f → slice_get fs q ≡ Some f
at-place fs f p q e at = subst (λ (r : ℕ). slice_get fs r ≡ Some f) e at

-- a frame array of a function by another name of it
has-same : (program : GraphProgram) (k f g : ℕ) → f ≡ g → k < length (flow_at program g).arrays
    → k < length (flow_at program f).arrays
has-same program k f g e lt = subst (λ (h : ℕ). k < length (flow_at program h).arrays) (sym e) lt

-- the active call of the greatest depth is the youngest
youngest : (s : State) (depth : ℕ) → depth ≡ depth_of s → frame_at s depth ≡ Some s.current
youngest s depth e =
    ap (λ (y : Bool). if y then Some s.current
    else option_map (λ (w : Waiting). w.activation) (slice_get s.waiting (waiting_place s depth)))
    (eq-eqb depth (depth_of s) e)

-- and that of another is a waiting one
waiting : (s : State) (depth : ℕ) (w : Waiting) → (depth ≡ depth_of s → ⊥)
    → slice_get s.waiting (waiting_place s depth) ≡ Some w → frame_at s depth ≡ Some w.activation
waiting s depth w n at =
    let test : depth == depth_of s ≡ false = search (rules, n) in
    let call : option_map (λ (u : Waiting). u.activation) (slice_get s.waiting (waiting_place s depth))
    ≡ Some w.activation =
    ap (option_map (λ (u : Waiting). u.activation)) at in
    ap (λ (y : Bool). if y then Some s.current
    else option_map (λ (u : Waiting). u.activation) (slice_get s.waiting (waiting_place s depth))) test ∙ call

-- the place of a depth that isn't above those of the waiting calls
place-of : (s : State) (depth : ℕ) → depth ≤ length s.waiting → waiting_place s depth ≡ length s.waiting - depth
place-of s depth h =
    ap (λ (y : Bool). if y then length s.waiting - depth else length s.waiting) (le-leb depth (length s.waiting) h)

-- the active call of a depth whose function has frame array k
record IsFrame (program : GraphProgram) (s : State) (k depth : ℕ) : Type 0 where
  call : Activation
  at : frame_at s depth ≡ Some call
  has : k < length (flow_at program call.function).arrays

frame-of : (program : GraphProgram) (s : State) (k depth : ℕ)
    → HasFrameArray program (functions_of (active_of s)) k depth → IsFrame program s k depth
frame-of program s k depth (one, old, f, at, has) =
    let few = length-functions s.waiting in
    elim (cases_eq depth (depth_of s)) [
      | inl e ↦
          let here : length (functions_of (active_of s)) - depth ≡ 0 = omega (arith, few, e) in
          let same : s.current.function ≡ f =
          same_Some s.current.function f
          (at-place (functions_of (active_of s)) f (length (functions_of (active_of s)) - depth) 0 here at) in
          record {
            call = s.current;
            at = youngest s depth e;
            has = has-same program k s.current.function f same has;
          }
      | inr n ↦
          let place : waiting_place s depth ≡ length s.waiting - depth =
          place-of s depth (omega (arith, few, n, old)) in
          let there : length (functions_of (active_of s)) - depth ≡ suc (waiting_place s depth) =
          (let plain : length (functions_of (active_of s)) - depth ≡ suc (length s.waiting - depth) =
          omega (arith, few, n, old, one) in plain) ∙ ap suc (sym place) in
          let (w, is_w, same) =
          waiting-at s.waiting (waiting_place s depth) f
          (at-place (functions_of (active_of s)) f (length (functions_of (active_of s)) - depth)
          (suc (waiting_place s depth)) there at) in
          record {
            call = w.activation;
            at = waiting s depth w n is_w;
            has = has-same program k w.activation.function f same has;
          }
    ]

-- a frame array of an active call is there
frame-has : (program : GraphProgram) (s : State) (k depth : ℕ) → IsGraphProgram program → IsState program s
    → HasFrameArray program (functions_of (active_of s)) k depth → HasElements program s (InFrame k depth)
frame-has program s k depth h i has =
    let f = frame-of program s k depth has in
    let (older, a) = frame-active program s depth f.call (store program s i) f.at in
    let declared = (flow_at program f.call.function).arrays in
    let (array, is_array) = element-at declared k f.has in
    let (elements, are_elements, fit) = zip-second AreElementsOf declared f.call.arrays k array a.arrays is_array in
    let g = graph-of program f.call.function h a.function in
    let kept : IsArray array = all-at IsArray declared k array g.keeps.1.arrays_fit is_array in
    record {
      width = array.0;
      elements = elements;
      there = ap (elements_in program k) f.at
          ∙ ap (λ (x : Option (ℕ × ℕ)). elements_with (option_map (λ (y : ℕ × ℕ). y.0) x) (slice_get f.call.arrays k))
          is_array
          ∙ ap (elements_with (Some array.0)) are_elements;
      is_array = (kept.0, omega (arith, kept.1, fit.many));
      fit = fit.fit;
    }

-- ---- any

pub array-has : (program : GraphProgram) (s : State) (array : ArrayName) → IsGraphProgram program → IsState program s
    → HasArray program (functions_of (active_of s)) array → HasElements program s array
array-has program s Null h i has = absurd has
array-has program s (Static k) h i has = static-there program s k h i has
array-has program s (InFrame k depth) h i has = frame-has program s k depth h i has
array-has program s Unknown h i has = absurd has

-- an array that fits a variable is one that is there
held : (program : GraphProgram) (active : List ℕ) (width : Width) (array : ArrayName)
    → FitsWidth program active width (Array array) → HasArray program active array
held program active One array h = absurd h
held program active Two array h = h

pub held_arrays : HeldArraysAreThere
held_arrays program s v array h i e =
    let active = functions_of (active_of s) in
    let (width, is_width, fits) =
    zip-first (FitsWidth program active) (flow_at program s.current.function).widths s.current.variables v
    (Array array) i.active.0.variables e in
    let has = array-has program s array h i (held program active width array fits) in
    (has.width, has.elements, has.there, has.is_array, has.fit)

-- ---- the depths of held arrays

-- the depth of a frame array that is there is that of an active call
has-depth : (program : GraphProgram) (s : State) (k depth : ℕ)
    → HasFrameArray program (functions_of (active_of s)) k depth → (1 ≤ depth) × (depth ≤ depth_of s)
has-depth program s k depth (one, old, f, at, has) =
    let few = length-functions s.waiting in
    (one, omega (arith, few, old))

pub held_frames : HeldFramesAreActive
held_frames program s v k depth i e =
    let active = functions_of (active_of s) in
    let (width, is_width, fits) =
    zip-first (FitsWidth program active) (flow_at program s.current.function).widths s.current.variables v
    (Array (InFrame k depth)) i.active.0.variables e in
    has-depth program s k depth (held program active width (InFrame k depth) fits)
