-- The active calls of a state by their places, the youngest at 0.
use Rattle.std.proofs.Common.{◌≡◌, ℕ, zero, suc, List, [], ◌∷◌, length, drop, Some, ap, subst, ◌∙◌, sym, refl}
use Rattle.std.specs.Prelude.{slice_get}
use Rattle.std.proofs.lemmas.Option.{none-some, same_Some}
use Rattle.flow_graph.specs.States.{Activation, GraphProgram, State, Waiting, active_of, depth_of}
use Rattle.flow_graph.specs.WellFormed.{AreActivations, AreWaiting, IsActivation, IsWaiting, functions_of}
use Rattle.flow_graph.proofs.Changes.{activations}

-- a call at a place keeps what active calls keep, where those behind it are the older ones
pub active-at : (program : GraphProgram) (active : List Activation) (i : ℕ) (a : Activation)
    → AreActivations program active → slice_get active i ≡ Some a
    → IsActivation program (functions_of (drop (suc i) active)) a
active-at program [] i a h e = absurd (none-some a e)
active-at program (b ∷ active) zero a h e = subst (IsActivation program (functions_of active)) (same_Some b a e) h.0
active-at program (b ∷ active) (suc i) a h e = active-at program active i a h.1 e

-- a call that waits, waits for the one at the place before it
pub waits-for : (program : GraphProgram) (younger : Activation) (waiting : List Waiting) (i : ℕ) (a : Activation)
    (w : Waiting) → AreWaiting program younger waiting → slice_get (younger ∷ activations waiting) i ≡ Some a
    → slice_get waiting i ≡ Some w → IsWaiting program w a
waits-for program younger [] i a w h at e = absurd (none-some w e)
waits-for program younger (v ∷ waiting) zero a w h at e =
    subst (IsWaiting program w) (same_Some younger a at)
    (subst (λ (u : Waiting). IsWaiting program u younger) (same_Some v w e) h.0)
waits-for program younger (v ∷ waiting) (suc i) a w h at e = waits-for program v.activation waiting i a w h.1 at e

-- the oldest call is that of `main`
pub oldest : (program : GraphProgram) (younger : Activation) (waiting : List Waiting) (a : Activation)
    → AreWaiting program younger waiting → slice_get (younger ∷ activations waiting) (length waiting) ≡ Some a
    → (a.function ≡ program.main) × (a.arguments ≡ [])
oldest program younger [] a h at =
    let same : younger ≡ a = same_Some younger a at in
    (ap (λ (b : Activation). b.function) (sym same) ∙ h.0, ap (λ (b : Activation). b.arguments) (sym same) ∙ h.1)
oldest program younger (w ∷ waiting) a h at = oldest program w.activation waiting a h.1 at

length-calls : (waiting : List Waiting) → length (activations waiting) ≡ length waiting
length-calls [] = refl
length-calls (w ∷ waiting) = ap suc (length-calls waiting)

-- as many calls as the depth
pub length-active : (s : State) → length (active_of s) ≡ depth_of s
length-active s = ap suc (length-calls s.waiting)
