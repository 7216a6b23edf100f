-- The first state keeps what every state keeps, and so does each that comes after it.
use Rattle.std.proofs.Common.{◌≡◌, ℕ, zero, suc, ◌<◌, List, [], ◌∷◌, Option, Some, None, refl, subst, arith}
use Rattle.std.specs.Prelude.{option_map, slice_get}
use Rattle.std.proofs.lemmas.List.Elements.{All-nil}
use Rattle.std.proofs.lemmas.Option.{none-some, same_Some}
use Rattle.pcc_base.specs.Bytes.{AreBytes}
use Rattle.pcc_base.specs.Objects.{IsObject, Object}
use Rattle.pcc_base.specs.declared.run.Width.TheVariants.{Two}
use Rattle.flow_graph.specs.Graphs.{Flow, LastIsEnd, Stands, points_of}
use Rattle.flow_graph.specs.Meaning.{Moved, Moves, Halts, Stuck, step}
use Rattle.flow_graph.specs.Running.{from_state, state_after}
use Rattle.flow_graph.specs.States.{GraphProgram, State, entry_of, first_state_at, flow_at}
use Rattle.flow_graph.specs.WellFormed.{AreElementsIn, FirstIsState, FitsWidth, FunctionsBegin, IsGraphProgram}
use Rattle.flow_graph.specs.WellFormed.{IsState, StatesAreStates, StepKeepsState}
use Rattle.flow_graph.proofs.Calls.{first-kept}
use Rattle.flow_graph.proofs.Changes.{Kept, first-in}
use Rattle.flow_graph.proofs.Lists.{zip-map-all}
use Rattle.flow_graph.proofs.Steps.{step-kept}
use Rattle.flow_graph.proofs.Values.{graph-of}

-- ---- the first state

-- an object's first elements are as many as it has, and fit
first-elements : (object : Object) → IsObject object → AreElementsIn object object.elements
first-elements object h = record { many = refl; fit = h.elements }

-- a state at the first point of `main`
first-at : (program : GraphProgram) (input : List ℕ) (point : ℕ) → IsGraphProgram program → AreBytes input
    → Stands (flow_at program program.main) point 0 → IsState program (first_state_at program input point)
first-at program input point h bytes stands = record {
  placed = stands;
  active = (first-kept program program.main [] [] h.main (All-nil (FitsWidth program (program.main ∷ []) Two)), tt);
  waiting = (refl, refl);
  few = omega arith;
  objects = zip-map-all IsObject AreElementsIn (λ object. object.elements) program.objects first-elements h.objects;
  left = bytes;
  written = All-nil (λ byte. byte < 256);
}

-- a state made of a point that is there is that of some point
made-of : {A B : Type 0} (f : A → B) (o : Option A) (b : B) → option_map f o ≡ Some b
    → (a : A) × (o ≡ Some a) × (f a ≡ b)
made-of f None b e = absurd (none-some b e)
made-of f (Some a) b e = (a, refl, same_Some (f a) b e)

pub first_is_state : FirstIsState
first_is_state program input g h bytes e =
    let (point, at, same) = made-of (first_state_at program input) (entry_of program program.main 0) g e in
    let stands : Stands (flow_at program program.main) point 0 =
    first-in point (points_of (flow_at program program.main) 0) at in
    subst (IsState program) same (first-at program input point h bytes stands)

-- ---- each step

pub step_keeps_state : StepKeepsState
step_keeps_state program g h p i e = subst (Kept program) e (step-kept program g p i)

-- the state after a step keeps it, so each after more
after-step : (program : GraphProgram) (k : ℕ) (m : Moved) (t : State) → Kept program m
    → ((u : State) → IsState program u → state_after program k u ≡ Some t → IsState program t)
    → from_state m (state_after program k) ≡ Some t → IsState program t
after-step program k (Moves u) t kept later e = later u kept e
after-step program k (Halts end) t kept later e = absurd (none-some t e)
after-step program k Stuck t kept later e = absurd (none-some t e)

after-steps : (program : GraphProgram) (k : ℕ) (s t : State) → IsGraphProgram program → IsState program s
    → state_after program k s ≡ Some t → IsState program t
after-steps program zero s t h i e = subst (IsState program) (same_Some s t e) i
after-steps program (suc k) s t h i e =
    after-step program k (step program s) t (step-kept program s h i) (λ u j f. after-steps program k u t h j f) e

pub states_are_states : StatesAreStates
states_are_states program input k g h bytes (s, first, after) =
    after-steps program k s g h (first_is_state program input s h bytes first) after

-- ---- functions

-- a block that is ended has a first point
ended-begins : (flow : Flow) (points : List ℕ) → LastIsEnd flow.ops points
    → (point : ℕ) × (slice_get points 0 ≡ Some point)
ended-begins flow [] h = absurd h
ended-begins flow (p ∷ points) h = (p, refl)

pub functions_begin : FunctionsBegin
functions_begin program f h lt =
    let g = graph-of program f h lt in
    ended-begins (flow_at program f) (points_of (flow_at program f) 0) (g.ended 0 [] g.begins)
