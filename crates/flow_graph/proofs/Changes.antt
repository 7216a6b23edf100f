-- What every state keeps stays after each kind of change.
use Rattle.std.proofs.Common.{◌≡◌, ℕ, zero, suc, ◌≤◌, Bool, true, false, ℤ, List, [], ◌∷◌, length, map, set, cond, eqb}
use Rattle.std.proofs.Common.{Option, Some, None, inl, inr, refl, sym, ap, subst, ◌∙◌, arith}
use Rattle.std.specs.Prelude.{◌==◌, if◌then◌else◌, option_map, slice_get, ⊤}
use Rattle.std.specs.List.{All, AllZip}
use Rattle.std.proofs.Math.ListN.{length-set}
use Rattle.std.proofs.lemmas.Option.{none-some, same_Some}
use Rattle.pcc_base.specs.Bytes.{AreBytes}
use Rattle.pcc_base.specs.Objects.{FitsBytes, Object}
use Rattle.pcc_base.specs.Outcome.{ArrayName, Null, Static, InFrame, Unknown, Value}
use Rattle.pcc_base.specs.declared.run.Width.{Width}
use Rattle.flow_graph.specs.declared.op.Op.TheVariants.{Call}
use Rattle.flow_graph.specs.Graphs.{HasWidth, IsIn, Stands, following, points_of}
use Rattle.flow_graph.specs.Meaning.{Moved, Moves, Halts, Stuck, at_point, given, into_block, most_active, onward, sets}
use Rattle.flow_graph.specs.States.{Activation, Elements, GraphProgram, State, Waiting, active_of, depth_of}
use Rattle.flow_graph.specs.States.{elements_in}
use Rattle.flow_graph.specs.States.{elements_of, elements_with, entry_of, flow_at, op_of, point_after, waiting_place}
use Rattle.flow_graph.specs.States.{with_array}
use Rattle.flow_graph.specs.States.{waiting_with, with_elements, with_value}
use Rattle.flow_graph.specs.WellFormed.{AreActivations, AreElements, AreElementsIn, AreElementsOf, AreWaiting}
use Rattle.flow_graph.specs.WellFormed.{FitsWidth}
use Rattle.flow_graph.specs.WellFormed.{IsActivation, IsState, IsWaiting, functions_of}
use Rattle.flow_graph.proofs.Lists.{zip-first, zip-set}

-- a step leads to a state that keeps it
abbrev pub Kept : GraphProgram → Moved → Type 0
Kept program (Moves h) = IsState program h
Kept program (Halts end) = ⊤
Kept program Stuck = ⊤

-- where a value is there, the rest is known of it
pub given-kept : {A : Type 0} (program : GraphProgram) (o : Option A) (go : A → Moved)
    → ((x : A) → o ≡ Some x → Kept program (go x)) → Kept program (given o go)
given-kept program None go h = tt
given-kept program (Some x) go h = h x refl

-- all that a state keeps but where its point stands
pub record IsStore (program : GraphProgram) (s : State) : Type 0 where
  pub active : AreActivations program (active_of s)
  pub waiting : AreWaiting program s.current s.waiting
  pub few : depth_of s ≤ most_active
  pub objects : AllZip AreElementsIn program.objects s.objects
  pub left : AreBytes s.left
  pub written : AreBytes s.written

pub store : (program : GraphProgram) (s : State) → IsState program s → IsStore program s
store program s i = record
    { active = i.active; waiting = i.waiting; few = i.few; objects = i.objects; left = i.left; written = i.written }

-- ---- another point

-- the first point of a block is in it
pub first-in : (q : ℕ) (ps : List ℕ) → slice_get ps 0 ≡ Some q → IsIn q ps
first-in q [] e = absurd (none-some q e)
first-in q (p ∷ ps) e = inl (same_Some p q e)

-- the point that follows in a block is in it
following-one : (same : Bool) (point q p : ℕ) (ps : List ℕ) → (following point ps ≡ Some q → IsIn q ps)
    → cond same (slice_get ps 0) (following point ps) ≡ Some q → IsIn q (p ∷ ps)
following-one true point q p ps later e = inr (first-in q ps e)
following-one false point q p ps later e = inr (later e)

following-in : (point q : ℕ) (ps : List ℕ) → following point ps ≡ Some q → IsIn q ps
following-in point q [] e = absurd (none-some q e)
following-in point q (p ∷ ps) e = following-one (eqb p point) point q p ps (following-in point q ps) e

-- a state that keeps the rest, at a point of its block
pub placed-at : (program : GraphProgram) (s : State) (block : ℕ) (o : Option ℕ) → IsStore program s
    → ((q : ℕ) → o ≡ Some q → Stands (flow_at program s.current.function) q block) → Kept program (at_point block s o)
placed-at program s block None i stands = tt
placed-at program s block (Some q) i stands = record {
  placed = stands q refl;
  active = i.active;
  waiting = i.waiting;
  few = i.few;
  objects = i.objects;
  left = i.left;
  written = i.written;
}

-- onward to the next point of the block
pub onward-kept : (program : GraphProgram) (s : State) → IsStore program s → Kept program (onward program s)
onward-kept program s i =
    placed-at program s s.block (point_after program s.current.function s.block s.point) i
    (λ q e. following-in s.point q (points_of (flow_at program s.current.function) s.block) e)

-- to the first point of a block
pub into-kept : (program : GraphProgram) (s : State) (block : ℕ) → IsStore program s
    → Kept program (into_block program block s)
into-kept program s block i =
    placed-at program s block (entry_of program s.current.function block) i
    (λ q e. first-in q (points_of (flow_at program s.current.function) block) e)

-- ---- a variable

same-waiting : (program : GraphProgram) (a b : Activation) (w : Waiting) → a.function ≡ b.function
    → a.arguments ≡ b.arguments → IsWaiting program w a → IsWaiting program w b
same-waiting program a b w f p h = record {
  placed = h.placed;
  result = h.result;
  words = h.words;
  calls = subst (λ (g : ℕ). op_of program w.activation.function w.point ≡ Some (Call h.result g h.words)) f h.calls;
  passes = h.passes ∙ ap (map Some) p;
}

-- what the waiting calls keep depends on the function and the argument words of the one that they wait for
pub same-call : (program : GraphProgram) (a b : Activation) (waiting : List Waiting) → a.function ≡ b.function
    → a.arguments ≡ b.arguments → AreWaiting program a waiting → AreWaiting program b waiting
same-call program a b [] f p h = (sym f ∙ h.0, sym p ∙ h.1)
same-call program a b (w ∷ waiting) f p h = (same-waiting program a b w f p h.0, h.1)

-- a variable has another value, which fits
pub value-kept : (program : GraphProgram) (s : State) (d : ℕ) (width : Width) (value : Value) → IsStore program s
    → HasWidth (flow_at program s.current.function) d width
    → FitsWidth program (functions_of (active_of s)) width value → IsStore program (with_value d value s)
value-kept program s d width value i w fits =
    let a : IsActivation program (functions_of (map (λ (u : Waiting). u.activation) s.waiting)) s.current =
    i.active.0 in
    let changed : IsActivation program (functions_of (map (λ (u : Waiting). u.activation) s.waiting))
    (with_value d value s).current = record {
      function = a.function;
      variables = zip-set (FitsWidth program (functions_of (active_of s)))
          (flow_at program s.current.function).widths s.current.variables d width value a.variables w fits;
      arguments = a.arguments;
      arrays = a.arrays;
    } in
    record {
      active = (changed, i.active.1);
      waiting = same-call program s.current (with_value d value s).current s.waiting refl refl i.waiting;
      few = i.few;
      objects = i.objects;
      left = i.left;
      written = i.written;
    }

-- onward with that value
pub sets-kept : (program : GraphProgram) (s : State) (d : ℕ) (width : Width) (value : Value) → IsStore program s
    → HasWidth (flow_at program s.current.function) d width
    → FitsWidth program (functions_of (active_of s)) width value → Kept program (sets program s d value)
sets-kept program s d width value i w fits =
    onward-kept program (with_value d value s) (value-kept program s d width value i w fits)

-- ---- an array

-- elements that are read of an array stand there
pub record AreThere (o : Option ℕ) (p : Option (List ℤ)) (width : ℕ) (elements : List ℤ) : Type 0 where
  pub is_width : o ≡ Some width
  pub is_elements : p ≡ Some elements

pub are-there : (o : Option ℕ) (p : Option (List ℤ)) (width : ℕ) (elements : List ℤ)
    → elements_with o p ≡ Some (width, elements) → AreThere o p width elements
are-there None p width elements e = absurd (none-some (width, elements) e)
are-there (Some w) None width elements e = absurd (none-some (width, elements) e)
are-there (Some w) (Some xs) width elements e =
    let same : ◌≡◌ {A = Elements} (w, xs) (width, elements) = same_Some (w, xs) (width, elements) e in
    record {
      is_width = ap (λ (array : Elements). Some array.0) same;
      is_elements = ap (λ (array : Elements). Some array.1) same;
    }

-- a width that is read of a list's element is that of the element
pub width-of : {A : Type 0} (f : A → ℕ) (o : Option A) (x : A) (width : ℕ) → option_map f o ≡ Some width → o ≡ Some x
    → f x ≡ width
width-of f None x width e is = absurd (none-some x is)
width-of f (Some y) x width e is = ap f (sym (same_Some y x is)) ∙ same_Some (f y) width e

-- a frame array of an active call has other elements, as many, which fit
activation-kept : (program : GraphProgram) (older : List ℕ) (a : Activation) (k width : ℕ) (elements others : List ℤ)
    → IsActivation program older a → elements_in program k (Some a) ≡ Some (width, elements)
    → AreElements width (length elements) others → IsActivation program older (with_elements k others a)
activation-kept program older a k width elements others h e new =
    let declared = (flow_at program a.function).arrays in
    let there = are-there (option_map (λ (array : ℕ × ℕ). array.0) (slice_get declared k))
    (slice_get a.arrays k) width elements e in
    let (array, is_array, old) = zip-first AreElementsOf declared a.arrays k elements h.arrays there.is_elements in
    let is_width : array.0 ≡ width =
    width-of (λ (x : ℕ × ℕ). x.0) (slice_get declared k) array width there.is_width is_array in
    record {
      function = h.function;
      variables = h.variables;
      arguments = h.arguments;
      arrays = zip-set AreElementsOf declared a.arrays k array others h.arrays is_array (record {
        many = new.many ∙ old.many;
        fit = subst (λ (w : ℕ). All (FitsBytes w) others) (sym is_width) new.fit;
      });
    }

-- a waiting call whose frame array k has other elements
abbrev changed : ℕ → List ℤ → Waiting → Waiting
changed k others w = record { activation = with_elements k others w.activation; block = w.block; point = w.point }

abbrev pub activations : List Waiting → List Activation
activations waiting = map (λ w. w.activation) waiting

-- the functions of the waiting calls stay
functions-same : (waiting : List Waiting) (place k : ℕ) (others : List ℤ) (w : Waiting)
    → slice_get waiting place ≡ Some w
    → functions_of (activations (set waiting place (changed k others w))) ≡ functions_of (activations waiting)
functions-same [] place k others w e = refl
functions-same (v ∷ waiting) zero k others w e =
    ap (λ (u : Waiting). u.activation.function ∷ functions_of (activations waiting)) (sym (same_Some v w e))
functions-same (v ∷ waiting) (suc place) k others w e =
    ap (λ (fs : List ℕ). v.activation.function ∷ fs) (functions-same waiting place k others w e)

-- the waiting calls keep what active calls keep
activations-kept : (program : GraphProgram) (waiting : List Waiting) (place k width : ℕ) (elements others : List ℤ)
    (w : Waiting) → slice_get waiting place ≡ Some w
    → elements_in program k (Some w.activation) ≡ Some (width, elements)
    → AreElements width (length elements) others → AreActivations program (activations waiting)
    → AreActivations program (activations (set waiting place (changed k others w)))
activations-kept program [] place k width elements others w e there new h = absurd (none-some w e)
activations-kept program (v ∷ waiting) zero k width elements others w e there new h =
    let older = functions_of (activations waiting) in
    let a : IsActivation program older w.activation =
    subst (λ (u : Waiting). IsActivation program older u.activation) (same_Some v w e) h.0 in
    (activation-kept program older w.activation k width elements others a there new, h.1)
activations-kept program (v ∷ waiting) (suc place) k width elements others w e there new h = (
  subst (λ (older : List ℕ). IsActivation program older v.activation)
      (sym (functions-same waiting place k others w e)) h.0,
  activations-kept program waiting place k width elements others w e there new h.1,
)

-- and wait as they did
waiting-kept : (program : GraphProgram) (younger : Activation) (waiting : List Waiting) (place k : ℕ) (others : List ℤ)
    (w : Waiting) → slice_get waiting place ≡ Some w → AreWaiting program younger waiting
    → AreWaiting program younger (set waiting place (changed k others w))
waiting-kept program younger [] place k others w e h = absurd (none-some w e)
waiting-kept program younger (v ∷ waiting) zero k others w e h =
    let one : IsWaiting program w younger =
    subst (λ (u : Waiting). IsWaiting program u younger) (same_Some v w e) h.0 in
    let rest : AreWaiting program w.activation waiting =
    subst (λ (u : Waiting). AreWaiting program u.activation waiting) (same_Some v w e) h.1 in (
      record { placed = one.placed; result = one.result; words = one.words; calls = one.calls; passes = one.passes },
      same-call program w.activation (with_elements k others w.activation) waiting refl refl rest,
    )
waiting-kept program younger (v ∷ waiting) (suc place) k others w e h =
    (h.0, waiting-kept program v.activation waiting place k others w e h.1)

-- a static object has other elements
object-kept : (program : GraphProgram) (s : State) (k width : ℕ) (elements others : List ℤ) → IsStore program s
    → elements_of program s (Static k) ≡ Some (width, elements) → AreElements width (length elements) others
    → IsStore program (with_array (Static k) others s)
object-kept program s k width elements others i e new =
    let there = are-there (option_map (λ (o : Object). o.width) (slice_get program.objects k))
    (slice_get s.objects k) width elements e in
    let (object, is_object, old) =
    zip-first AreElementsIn program.objects s.objects k elements i.objects there.is_elements in
    let is_width : object.width ≡ width =
    width-of (λ (o : Object). o.width) (slice_get program.objects k) object width there.is_width is_object in
    record {
      active = i.active;
      waiting = i.waiting;
      few = i.few;
      objects = zip-set AreElementsIn program.objects s.objects k object others i.objects is_object (record {
        many = new.many ∙ old.many;
        fit = subst (λ (w : ℕ). All (FitsBytes w) others) (sym is_width) new.fit;
      });
      left = i.left;
      written = i.written;
    }

-- a frame array of the youngest call has other elements
current-kept : (program : GraphProgram) (s : State) (k width : ℕ) (elements others : List ℤ) → IsStore program s
    → elements_in program k (Some s.current) ≡ Some (width, elements) → AreElements width (length elements) others
    → IsStore program (record s { current = with_elements k others s.current })
current-kept program s k width elements others i e new = record {
  active = (
    activation-kept program
        (functions_of (activations s.waiting)) s.current k width elements others i.active.0 e new,
    i.active.1,
  );
  waiting = same-call program s.current (with_elements k others s.current) s.waiting refl refl i.waiting;
  few = i.few;
  objects = i.objects;
  left = i.left;
  written = i.written;
}

-- one of a waiting call
older-kept : (program : GraphProgram) (s : State) (place k width : ℕ) (elements others : List ℤ) (o : Option Waiting)
    → IsStore program s → o ≡ slice_get s.waiting place
    → elements_in program k (option_map (λ (w : Waiting). w.activation) o) ≡ Some (width, elements)
    → AreElements width (length elements) others
    → IsStore program (record s { waiting = waiting_with k others place o s.waiting })
older-kept program s place k width elements others None i at e new = absurd (none-some (width, elements) e)
older-kept program s place k width elements others (Some w) i at e new =
    let P : List ℕ → Type 0 = λ older. IsActivation program older s.current in
    record {
      active = (
        subst P (sym (functions-same s.waiting place k others w (sym at))) i.active.0,
        activations-kept program s.waiting place k width elements others w (sym at) e new i.active.1,
      );
      waiting = waiting-kept program s.current s.waiting place k others w (sym at) i.waiting;
      few = omega (arith, length-set s.waiting place (changed k others w), i.few);
      objects = i.objects;
      left = i.left;
      written = i.written;
    }

-- a frame array of the call of a depth, which is the youngest or not
frame-kept : (program : GraphProgram) (s : State) (k depth width : ℕ) (elements others : List ℤ) (youngest : Bool)
    → IsStore program s
    → elements_in program k (if youngest then Some s.current
    else option_map (λ (w : Waiting). w.activation) (slice_get s.waiting (waiting_place s depth)))
    ≡ Some (width, elements)
    → AreElements width (length elements) others
    → IsStore program (if youngest then record s { current = with_elements k others s.current }
    else record s {
      waiting =
          waiting_with k others (waiting_place s depth) (slice_get s.waiting (waiting_place s depth)) s.waiting;
    })
frame-kept program s k depth width elements others true i e new = current-kept program s k width elements others i e new
frame-kept program s k depth width elements others false i e new =
    older-kept program s (waiting_place s depth) k width elements others
    (slice_get s.waiting (waiting_place s depth)) i refl e new

-- an array has other elements, as many, which fit
pub array-kept : (program : GraphProgram) (s : State) (array : ArrayName) (width : ℕ) (elements others : List ℤ)
    → IsStore program s → elements_of program s array ≡ Some (width, elements)
    → AreElements width (length elements) others
    → IsStore program (with_array array others s)
array-kept program s Null width elements others i e new = i
array-kept program s (Static k) width elements others i e new = object-kept program s k width elements others i e new
array-kept program s (InFrame k depth) width elements others i e new =
    frame-kept program s k depth width elements others (depth == depth_of s) i e new
array-kept program s Unknown width elements others i e new = i
