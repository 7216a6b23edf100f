-- What is shown among active calls is shown where one more is active, and what the older ones hold where one less is.
use Rattle.std.proofs.Common.{◌≡◌, ℕ, suc, ◌-◌, ◌≤◌, List, [], ◌∷◌, length, Some, refl, subst, arith}
use Rattle.std.specs.Prelude.{map, slice_get}
use Rattle.pcc_base.specs.Outcome.{Null, Static, InFrame, Unknown, Value, Number, Array}
use Rattle.flow_graph.specs.States.{Activation, Waiting}
use Rattle.ia32_rows.specs.Placements.{Code}
use Rattle.ia32_rows.specs.Shows.{IsOldArray}
use Rattle.ia32_laws.proofs.Chains.{AreCarried, Carried}

-- one more
pub word-younger : (code : Code) (active : List Activation) (frames : List ℕ) (a : Activation) (frame : ℕ)
    (value : Value) → Carried code active (a ∷ active) frames (frame ∷ frames) value
word-younger code active frames a frame (Number n) word h = h
word-younger code active frames a frame (Array Null) word h = h
word-younger code active frames a frame (Array (Static k)) word h = h
word-younger code active frames a frame (Array Unknown) word h = absurd h
word-younger code active frames a frame (Array (InFrame k depth)) word h =
    let old = h.youngest in
    let place : suc (length active - depth) ≡ suc (length active) - depth = omega (arith, old) in
    record {
      oldest = h.oldest;
      youngest = omega (arith, old);
      activation = h.activation;
      of_depth = subst (λ (i : ℕ). slice_get (a ∷ active) i ≡ Some h.activation) place h.of_depth;
      elements = h.elements;
      has = h.has;
      frame = h.frame;
      at_frame = subst (λ (i : ℕ). slice_get (frame ∷ frames) i ≡ Some h.frame) place h.at_frame;
      below = h.below;
      placed = h.placed;
      address = h.address;
    }

pub all-younger : (code : Code) (active : List Activation) (frames : List ℕ) (a : Activation) (frame : ℕ)
    (waiting : List Waiting) → AreCarried code active (a ∷ active) frames (frame ∷ frames) waiting
all-younger code active frames a frame [] = tt
all-younger code active frames a frame (w ∷ waiting) = (
  λ v value e. word-younger code active frames a frame value,
  all-younger code active frames a frame waiting,
)

-- an array that is old stays so where calls are deeper
pub old-deeper : (depth deeper : ℕ) (value : Value) → depth ≤ deeper → IsOldArray depth value → IsOldArray deeper value
old-deeper depth deeper (Number n) le h = h
old-deeper depth deeper (Array Null) le h = h
old-deeper depth deeper (Array (Static k)) le h = h
old-deeper depth deeper (Array (InFrame k of)) le h = (h.0, omega (arith, le, h.1))
old-deeper depth deeper (Array Unknown) le h = absurd h

-- ---- one less

-- a value that is old has the same word where the youngest call is gone
pub word-older : (code : Code) (active : List Activation) (a : Activation) (frames : List ℕ) (frame : ℕ)
    (higher : List ℕ) (depth : ℕ) (value : Value) → frames ≡ frame ∷ higher → depth ≤ length active
    → IsOldArray depth value → Carried code (a ∷ active) active frames higher value
word-older code active a frames frame higher depth (Number n) same le old word h = h
word-older code active a frames frame higher depth (Array Null) same le old word h = h
word-older code active a frames frame higher depth (Array (Static k)) same le old word h = h
word-older code active a frames frame higher depth (Array Unknown) same le old word h = absurd h
word-older code active a frames frame higher depth (Array (InFrame k of)) same le old word h =
    let high = old.1 in
    let place : suc (length active) - of ≡ suc (length active - of) = omega (arith, high, le) in
    record {
      oldest = h.oldest;
      youngest = omega (arith, high, le);
      activation = h.activation;
      of_depth = subst (λ (i : ℕ). slice_get (a ∷ active) i ≡ Some h.activation) place h.of_depth;
      elements = h.elements;
      has = h.has;
      frame = h.frame;
      at_frame = subst (λ (i : ℕ). slice_get (frame ∷ higher) i ≡ Some h.frame) place
          (subst (λ (fs : List ℕ). slice_get fs (suc (length active) - of) ≡ Some h.frame) same h.at_frame);
      below = h.below;
      placed = h.placed;
      address = h.address;
    }

-- all values that calls which wait hold are old
pub all-older : (code : Code) (active : List Activation) (a : Activation) (frames : List ℕ) (frame : ℕ)
    (higher : List ℕ) (depth : ℕ) (waiting : List Waiting) → frames ≡ frame ∷ higher → depth ≤ length active
    → ((i : ℕ) (b : Activation) → slice_get (map (λ w. w.activation) waiting) i ≡ Some b → (v : ℕ) (value : Value)
    → slice_get b.variables v ≡ Some value → IsOldArray depth value)
    → AreCarried code (a ∷ active) active frames higher waiting
all-older code active a frames frame higher depth [] same le old = tt
all-older code active a frames frame higher depth (w ∷ waiting) same le old = (
  λ v value e. word-older code active a frames frame higher depth value same le (old 0 w.activation refl v value e),
  all-older code active a frames frame higher depth waiting same le (λ i b e. old (suc i) b e),
)
