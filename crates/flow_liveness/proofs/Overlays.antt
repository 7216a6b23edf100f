-- A state of the graphs with other values in the variables of its active calls.
use Rattle.std.proofs.Common.{◌≡◌, ◌≢◌, ℕ, zero, suc, ◌-◌, Bool, true, false, ℤ, List, [], ◌∷◌, length}
use Rattle.std.proofs.Common.{Option, Some, None, refl, sym, ap, ◌∙◌, subst, arith}
use Rattle.std.specs.Prelude.{◌==◌, ⊤, if◌then◌else◌, nat_le, option_map, slice_get, slice_set}
use Rattle.pcc_base.specs.Outcome.{ArrayName, Null, Static, InFrame, Unknown, Value}
use Rattle.flow_graph.specs.States.{Activation, Elements, GraphProgram, State, Waiting, depth_of, elements_in}
use Rattle.flow_graph.specs.States.{elements_of, with_array, with_elements, waiting_with}

-- ---- lists

-- lists of one length have at a place the same element, once it is set there
pub set-one : {A : Type 0} (xs ys : List A) (d : ℕ) (x : A) → length xs ≡ length ys
    → slice_get (slice_set xs d x) d ≡ slice_get (slice_set ys d x) d
set-one [] [] d x e = refl
set-one [] (b ∷ ys) d x e = absurd (omega (arith, e))
set-one (a ∷ xs) [] d x e = absurd (omega (arith, e))
set-one (a ∷ xs) (b ∷ ys) zero x e = refl
set-one (a ∷ xs) (b ∷ ys) (suc d) x e = set-one xs ys d x (omega (arith, e))

-- at another place nothing changes
pub set-other : {A : Type 0} (xs : List A) (d v : ℕ) (x : A) → v ≢ d → slice_get (slice_set xs d x) v ≡ slice_get xs v
set-other [] d v x n = refl
set-other (a ∷ xs) zero zero x n = absurd (n refl)
set-other (a ∷ xs) zero (suc v) x n = refl
set-other (a ∷ xs) (suc d) zero x n = refl
set-other (a ∷ xs) (suc d) (suc v) x n = set-other xs d v x (λ e. n (ap suc e))

pub set-length : {A : Type 0} (xs : List A) (d : ℕ) (x : A) → length (slice_set xs d x) ≡ length xs
set-length [] d x = refl
set-length (a ∷ xs) zero x = refl
set-length (a ∷ xs) (suc d) x = let e = set-length xs d x in omega (arith, e)

-- ---- other variables

abbrev pub over_call : List Value → Activation → Activation
over_call values a = record { function = a.function; arguments = a.arguments; variables = values; arrays = a.arrays }

abbrev pub overlay : List (List Value) → List Waiting → List Waiting
overlay vss [] = []
overlay [] (w ∷ ws) = w ∷ ws
overlay (vs ∷ vss) (w ∷ ws) =
    record { activation = over_call vs w.activation; block = w.block; point = w.point } ∷ overlay vss ws

abbrev pub over : State → List Value → List (List Value) → State
over g vs vss = record {
  block = g.block;
  point = g.point;
  current = over_call vs g.current;
  waiting = overlay vss g.waiting;
  objects = g.objects;
  left = g.left;
  taken = g.taken;
  written = g.written;
}

pub overlay-length : (vss : List (List Value)) (ws : List Waiting) → length (overlay vss ws) ≡ length ws
overlay-length vss [] = refl
overlay-length [] (w ∷ ws) = refl
overlay-length (vs ∷ vss) (w ∷ ws) = let e = overlay-length vss ws in omega (arith, e)

pub depth-over : (g : State) (vs : List Value) (vss : List (List Value)) → depth_of (over g vs vss) ≡ depth_of g
depth-over g vs vss = ap suc (overlay-length vss g.waiting)

-- ---- arrays are where they were

abbrev place : ℕ → ℕ → ℕ
place n depth = if nat_le depth n then n - depth else n

abbrev its : Option Waiting → Option Activation
its o = option_map (λ (w : Waiting). w.activation) o

elements-at : (program : GraphProgram) (k : ℕ) (vss : List (List Value)) (ws : List Waiting) (i : ℕ)
    → elements_in program k (its (slice_get (overlay vss ws) i)) ≡ elements_in program k (its (slice_get ws i))
elements-at program k vss [] i = refl
elements-at program k [] (w ∷ ws) i = refl
elements-at program k (vs ∷ vss) (w ∷ ws) zero = refl
elements-at program k (vs ∷ vss) (w ∷ ws) (suc i) = elements-at program k vss ws i

elements-frame : (program : GraphProgram) (k : ℕ) (a : Activation) (vs : List Value) (vss : List (List Value))
    (ws : List Waiting) (i : ℕ) (youngest : Bool)
    → elements_in program k (if youngest then Some (over_call vs a) else its (slice_get (overlay vss ws) i))
    ≡ elements_in program k (if youngest then Some a else its (slice_get ws i))
elements-frame program k a vs vss ws i true = refl
elements-frame program k a vs vss ws i false = elements-at program k vss ws i

pub elements-over : (program : GraphProgram) (g : State) (vs : List Value) (vss : List (List Value)) (array : ArrayName)
    → elements_of program (over g vs vss) array ≡ elements_of program g array
elements-over program g vs vss Null = refl
elements-over program g vs vss (Static k) = refl
elements-over program g vs vss (InFrame k depth) =
    let E : ℕ → Option Elements = λ n.
    elements_in program k (if depth == suc n then Some (over_call vs g.current)
    else its (slice_get (overlay vss g.waiting) (place n depth))) in
    ap E (overlay-length vss g.waiting)
    ∙ elements-frame program k g.current vs vss g.waiting (place (length g.waiting) depth)
    (depth == suc (length g.waiting))
elements-over program g vs vss Unknown = refl

-- ---- other elements

further : (k : ℕ) (elements : List ℤ) (i : ℕ) (o : Option Waiting) (w : Waiting) (ws : List Waiting)
    → waiting_with k elements (suc i) o (w ∷ ws) ≡ w ∷ waiting_with k elements i o ws
further k elements i None w ws = refl
further k elements i (Some u) w ws = refl

waiting-over : (k : ℕ) (elements : List ℤ) (vss : List (List Value)) (ws : List Waiting) (i : ℕ)
    → waiting_with k elements i (slice_get (overlay vss ws) i) (overlay vss ws)
    ≡ overlay vss (waiting_with k elements i (slice_get ws i) ws)
waiting-over k elements vss [] i = refl
waiting-over k elements [] (w ∷ ws) zero = refl
waiting-over k elements [] (w ∷ ws) (suc i) =
    further k elements i (slice_get ws i) w ws
    ∙ sym (ap (overlay []) (further k elements i (slice_get ws i) w ws))
waiting-over k elements (vs ∷ vss) (w ∷ ws) zero = refl
waiting-over k elements (vs ∷ vss) (w ∷ ws) (suc i) =
    let u : Waiting = record { activation = over_call vs w.activation; block = w.block; point = w.point } in
    further k elements i (slice_get (overlay vss ws) i) u (overlay vss ws)
    ∙ (ap (λ (xs : List Waiting). u ∷ xs) (waiting-over k elements vss ws i)
    ∙ sym (ap (overlay (vs ∷ vss)) (further k elements i (slice_get ws i) w ws)))

abbrev framed : ℕ → ℕ → List ℤ → State → ℕ → Bool → State
framed k depth elements s n youngest =
    if youngest then record s { current = with_elements k elements s.current }
    else record s {
      waiting = waiting_with k elements (place n depth) (slice_get s.waiting (place n depth)) s.waiting;
    }

framed-over : (k depth : ℕ) (elements : List ℤ) (g : State) (vs : List Value) (vss : List (List Value)) (n : ℕ)
    (youngest : Bool)
    → framed k depth elements (over g vs vss) n youngest ≡ over (framed k depth elements g n youngest) vs vss
framed-over k depth elements g vs vss n true = refl
framed-over k depth elements g vs vss n false =
    ap (λ (ws : List Waiting). record (over g vs vss) { waiting = ws })
    (waiting-over k elements vss g.waiting (place n depth))

pub array-over : (g : State) (vs : List Value) (vss : List (List Value)) (array : ArrayName) (elements : List ℤ)
    → with_array array elements (over g vs vss) ≡ over (with_array array elements g) vs vss
array-over g vs vss Null elements = refl
array-over g vs vss (Static k) elements = refl
array-over g vs vss (InFrame k depth) elements =
    let E : ℕ → State = λ n. framed k depth elements (over g vs vss) n (depth == suc n) in
    ap E (overlay-length vss g.waiting)
    ∙ framed-over k depth elements g vs vss (length g.waiting) (depth == suc (length g.waiting))
array-over g vs vss Unknown elements = refl

-- ---- what other elements leave as it was

-- two waiting calls are at one point of one function, with the same values
pub record IsLike (w u : Waiting) : Type 0 where
  pub function : w.activation.function ≡ u.activation.function
  pub variables : w.activation.variables ≡ u.activation.variables
  pub block : w.block ≡ u.block
  pub point : w.point ≡ u.point

abbrev pub AreLike : List Waiting → List Waiting → Type 0
AreLike [] [] = ⊤
AreLike [] (u ∷ us) = ⊥
AreLike (w ∷ ws) [] = ⊥
AreLike (w ∷ ws) (u ∷ us) = IsLike w u × AreLike ws us

pub like-same : (ws : List Waiting) → AreLike ws ws
like-same [] = tt
like-same (w ∷ ws) =
    (record { function = refl; variables = refl; block = refl; point = refl }, like-same ws)

-- two states are at one point of one function, and their waiting calls are alike
pub record IsNear (t g : State) : Type 0 where
  pub block : t.block ≡ g.block
  pub point : t.point ≡ g.point
  pub function : t.current.function ≡ g.current.function
  pub waiting : AreLike t.waiting g.waiting

pub near-same : (g : State) → IsNear g g
near-same g = record { block = refl; point = refl; function = refl; waiting = like-same g.waiting }

like-set : (k : ℕ) (elements : List ℤ) (ws : List Waiting) (i : ℕ)
    → AreLike (waiting_with k elements i (slice_get ws i) ws) ws
like-set k elements [] i = tt
like-set k elements (w ∷ ws) zero =
    (record { function = refl; variables = refl; block = refl; point = refl }, like-same ws)
like-set k elements (w ∷ ws) (suc i) =
    subst (λ (us : List Waiting). AreLike us (w ∷ ws)) (sym (further k elements i (slice_get ws i) w ws))
    (record { function = refl; variables = refl; block = refl; point = refl }, like-set k elements ws i)

-- what a state with other elements has of the one before
pub record IsStored (t g : State) : Type 0 where
  pub near : IsNear t g
  pub variables : t.current.variables ≡ g.current.variables

framed-stored : (k depth : ℕ) (elements : List ℤ) (g : State) (n : ℕ) (youngest : Bool)
    → IsStored (framed k depth elements g n youngest) g
framed-stored k depth elements g n true = record {
  near = record { block = refl; point = refl; function = refl; waiting = like-same g.waiting };
  variables = refl;
}
framed-stored k depth elements g n false = record {
  near = record {
    block = refl;
    point = refl;
    function = refl;
    waiting = like-set k elements g.waiting (place n depth);
  };
  variables = refl;
}

pub array-stored : (g : State) (array : ArrayName) (elements : List ℤ) → IsStored (with_array array elements g) g
array-stored g Null elements = record { near = near-same g; variables = refl }
array-stored g (Static k) elements = record {
  near = record { block = refl; point = refl; function = refl; waiting = like-same g.waiting };
  variables = refl;
}
array-stored g (InFrame k depth) elements =
    framed-stored k depth elements g (length g.waiting) (depth == suc (length g.waiting))
array-stored g Unknown elements = record { near = near-same g; variables = refl }
