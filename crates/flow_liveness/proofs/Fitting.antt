-- The form keeps the meaning of its graphs: the first states fit, and each step keeps that.
use Rattle.std.proofs.Common.{◌≡◌, ◌<◌, ℕ, zero, suc, List, [], ◌∷◌, length, map}
use Rattle.std.proofs.Common.{Option, Some, None, refl, sym, ap, subst, arith}
use Rattle.std.specs.Prelude.{option_map, slice_get, pos}
use Rattle.std.proofs.lemmas.Option.{none-some, same_Some}
use Rattle.pcc_base.specs.Outcome.{Number, Value}
use Rattle.pcc_base.specs.declared.run.Width.{Width}
use Rattle.flow_graph.specs.declared.op.Op.{Op}
use Rattle.flow_graph.specs.Graphs.{Flow, IsPlaced}
use Rattle.flow_graph.specs.Liveness.{IsDefinedAt, IsSuccessor}
use Rattle.flow_graph.specs.Meaning.{Moved, Moves, Halts, Stuck, back_to, step}
use Rattle.flow_graph.specs.States.{Activation, State, Waiting, entry_of, first_activation}
use Rattle.flow_graph.specs.States.{first_state_at, flow_at, op_at}
use Rattle.flow_graph.specs.WellFormed.{IsActivation, IsState, functions_of}
use Rattle.flow_graph.proofs.Keeping.{step_keeps_state}
use Rattle.flow_graph.proofs.Values.{op-at}
use Rattle.flow_liveness.proofs.Placed.{first-placed}
use Rattle.flow_liveness.proofs.Variables.{before-within}
use Rattle.flow_liveness.specs.FormLaws.{AreSameWaiting, FirstFits, Fits, FitsMove, HoldBefore}
use Rattle.flow_liveness.specs.FormLaws.{HoldWaiting, IsSameWaiting, StepFits}
use Rattle.flow_liveness.specs.FormRuns.{first_form}
use Rattle.flow_liveness.specs.Forms.{FormProgram, FormState, FormWaiting}
use Rattle.flow_liveness.specs.Forms.{IsFormProgram, begun_waiting, form_state, kept_waiting, lives_at}
use Rattle.flow_liveness.specs.Forms.{named_move, next_state, no_values, passed_state, returned_state}
use Rattle.flow_liveness.specs.Forms.{with_names}
use Rattle.flow_liveness.specs.Names.{Names, name_after, waited}
use Rattle.flow_liveness.specs.Passages.{Passage, Stays, Begins, Ends, passage, passage_of}
use Rattle.flow_liveness.proofs.Leading.{After, Agree, Arrives, Before, Begun, Ended_call, Kept}
use Rattle.flow_liveness.proofs.Leading.{Leads, Stayed, kept-before, step-leads}
use Rattle.flow_liveness.proofs.Overlays.{AreLike, IsLike, like-same, over, overlay}
use Rattle.flow_liveness.proofs.Settling.{before-agree, function-of, live-before, older-agree, opened-over, openings}
use Rattle.flow_liveness.proofs.Settling.{openings-now, passed-holds, values-length, waited-holds}

-- ---- waiting calls

-- what names have stays where the function, the point and the values of the variables are the same
hold-like : (forms : FormProgram) (names : Names) (t u : Waiting) → IsLike t u
    → HoldWaiting forms u.point names u.activation → HoldWaiting forms t.point names t.activation
hold-like forms names t u like h =
    subst (λ (f : ℕ). Holds f t.point t.activation.variables) (sym like.function)
    (subst (λ (p : ℕ). Holds u.activation.function p t.activation.variables) (sym like.point)
    (subst (Holds u.activation.function u.point) (sym like.variables) h))
  where
    Holds : ℕ → ℕ → List Value → Type 0
    Holds f p values =
        (v name : ℕ) → name_after (flow_at forms.program f) (lives_at forms f) p v ≡ Some name
        → (IsDefinedAt (flow_at forms.program f) v p → ⊥) → slice_get values v ≡ Some (names name)

one-kept : (forms : FormProgram) (w : FormWaiting) (t u : Waiting) → IsSameWaiting forms w u → IsLike t u
    → IsSameWaiting forms (record { call = with_names w.call.names t.activation; block = t.block; point = t.point }) t
one-kept forms w t u same like = record {
  block = refl;
  point = refl;
  call = record { function = refl; arguments = refl; arrays = refl };
  holds = hold-like forms w.call.names t u like same.holds;
}

-- calls that go on waiting fit
kept-same : (forms : FormProgram) (ws : List FormWaiting) (us ts : List Waiting) (vss : List (List Value))
    → AreSameWaiting forms ws us → AreLike ts us → AreSameWaiting forms (kept_waiting ws (overlay vss ts)) ts
kept-same forms [] [] [] vss same like = tt
kept-same forms [] [] (t ∷ ts) vss same like = absurd like
kept-same forms [] (u ∷ us) ts vss same like = absurd same
kept-same forms (w ∷ ws) [] ts vss same like = absurd same
kept-same forms (w ∷ ws) (u ∷ us) [] vss same like = absurd like
kept-same forms (w ∷ ws) (u ∷ us) (t ∷ ts) [] same like =
    (one-kept forms w t u same.0 like.0, all-kept forms ws us ts same.1 like.1)
  where
    all-kept : (forms : FormProgram) (ws : List FormWaiting) (us ts : List Waiting) → AreSameWaiting forms ws us
        → AreLike ts us → AreSameWaiting forms (kept_waiting ws ts) ts
    all-kept forms [] [] [] same like = tt
    all-kept forms [] [] (t ∷ ts) same like = absurd like
    all-kept forms [] (u ∷ us) ts same like = absurd same
    all-kept forms (w ∷ ws) [] ts same like = absurd same
    all-kept forms (w ∷ ws) (u ∷ us) [] same like = absurd like
    all-kept forms (w ∷ ws) (u ∷ us) (t ∷ ts) same like =
        (one-kept forms w t u same.0 like.0, all-kept forms ws us ts same.1 like.1)
kept-same forms (w ∷ ws) (u ∷ us) (t ∷ ts) (vs ∷ vss) same like =
    (one-kept forms w t u same.0 like.0, kept-same forms ws us ts vss same.1 like.1)

-- ---- where a step arrives

-- behind a point of a call that goes on
arrive-fits : (forms : FormProgram) (b a t : State) (vss : List (List Value)) (point : ℕ) (names : Names)
    (ws : List FormWaiting) → IsFormProgram forms → IsState forms.program t → Stayed forms.program b vss a t
    → point ≡ b.point → AreSameWaiting forms ws b.waiting → Fits forms (passed_state forms point names ws a) t
arrive-fits forms b a t vss point names ws is i stayed e same =
    subst (λ (x : State). Fits forms (passed_state forms point names ws x) t) (sym stayed.is)
    (subst (λ (n : ℕ). Fits forms (passed_state forms n names ws (over t stayed.values vss)) t) (sym e) (record {
      block = refl;
      point = refl;
      call = record { function = refl; arguments = refl; arrays = refl };
      holds = passed-holds flow (lives_at forms t.current.function) b.point t.point stayed.values t.current.variables
          names (function-of forms t.current.function is i.active.0.function)
          (subst (λ (f : ℕ). IsSuccessor (flow_at forms.program f) b.point t.point) (sym stayed.function) stayed.leads)
          (t.block, i.placed)
          (values-length forms.program (functions_of (map (λ (w : Waiting). w.activation) t.waiting)) t.current
          i.active.0)
          (subst (λ (f : ℕ). Agree (After forms.program f b.point) stayed.values t.current.variables)
          (sym stayed.function) stayed.agree);
      waiting = kept-same forms ws b.waiting t.waiting vss same stayed.waiting;
      objects = refl;
      left = refl;
      taken = refl;
      written = refl;
    }))
  where
    flow : Flow
    flow = flow_at forms.program t.current.function

zeros-at : (widths : List Width) (v : ℕ) → v < length widths
    → slice_get (map (λ (w : Width). Number (pos 0)) widths) v ≡ Some (Number (pos 0))
zeros-at [] v lt = absurd (omega (arith, lt))
zeros-at (w ∷ widths) zero lt = refl
zeros-at (w ∷ widths) (suc v) lt = zeros-at widths v (omega (arith, lt))

-- at the start of a call every variable has 0, and so has every name
begun-holds : (forms : FormProgram) (f p : ℕ) (arguments : List Value) → IsFormProgram forms
    → f < length forms.program.functions → IsPlaced (flow_at forms.program f) p
    → HoldBefore forms p no_values (first_activation forms.program f arguments)
begun-holds forms f p arguments is lt placed v name e =
    let flow = flow_at forms.program f in
    let lives = lives_at forms f in
    let its = function-of forms f is lt in
    zeros-at flow.widths v
    (before-within flow its.homes its.is_flow v p (live-before flow lives p v name its placed e))

-- at the start of a call
begun-fits : (forms : FormProgram) (s : FormState) (g a t : State) (vs : List Value) (vss : List (List Value))
    → IsFormProgram forms → IsState forms.program g → IsState forms.program t → Fits forms s g
    → Agree (Kept forms.program g.current.function g.point) vs g.current.variables
    → Begun forms.program g vs vss a t
    → Fits forms (form_state a (with_names no_values a.current) (begun_waiting forms s a.waiting)) t
begun-fits forms s g a t vs vss is i j fits agree begun =
    subst
    (λ (x : State). Fits forms (form_state x (with_names no_values x.current) (begun_waiting forms s x.waiting)) t)
    (sym begun.is) (record {
      block = refl;
      point = refl;
      call = record { function = refl; arguments = refl; arrays = refl };
      holds = subst (HoldBefore forms t.point no_values) (sym begun.current)
          (begun-holds forms begun.function t.point begun.arguments is
          (subst (λ (c : Activation). c.function < length forms.program.functions) begun.current i'.function)
          (subst (λ (c : Activation). IsPlaced (flow_at forms.program c.function) t.point) begun.current
          (t.block, j.placed)));
      waiting = subst (λ (ws : List Waiting). AreSameWaiting forms (begun_waiting forms s (overlay (vs ∷ vss) ws)) ws)
          (sym begun.waiting) (
            waits,
            kept-same forms s.waiting g.waiting g.waiting vss fits.waiting
                (like-same g.waiting),
          );
      objects = refl;
      left = refl;
      taken = refl;
      written = refl;
    })
  where
    i' : IsActivation forms.program (functions_of (map (λ (w : Waiting). w.activation) t.waiting)) t.current
    i' = j.active.0

    waits : IsSameWaiting forms (record {
      call = with_names (waited (flow_at forms.program g.current.function) (lives_at forms g.current.function)
          g.point vs s.current.names) g.current;
      block = g.block;
      point = g.point;
    }) (record { activation = g.current; block = g.block; point = g.point })
    waits = record {
      block = refl;
      point = refl;
      call = record { function = refl; arguments = refl; arrays = refl };
      holds = waited-holds (flow_at forms.program g.current.function) (lives_at forms g.current.function) g.point vs
          g.current.variables s.current.names
          (function-of forms g.current.function is i.active.0.function) (g.block, i.placed)
          (values-length forms.program (functions_of (map (λ (w : Waiting). w.activation) g.waiting)) g.current
          i.active.0) agree;
    }

-- behind a call that has ended
returned-fits : (forms : FormProgram) (s : FormState) (ws : List FormWaiting) (g a t : State) (vss : List (List Value))
    → IsFormProgram forms → IsState forms.program t → AreSameWaiting forms ws g.waiting
    → Ended_call forms.program g vss a t → Fits forms (returned_state forms s ws a) t
returned-fits forms s ws g a t vss is j same ended =
    by ws (subst (AreSameWaiting forms ws) ended.waits same)
  where
    by : (ws : List FormWaiting) → AreSameWaiting forms ws (ended.w ∷ ended.rest)
        → Fits forms (returned_state forms s ws a) t
    by [] same = absurd same
    by (w ∷ ws) same =
        arrive-fits forms (back_to g ended.w ended.rest) a t ended.uss w.point w.call.names ws is j ended.stayed
        same.0.point same.1

-- wherever a step arrives
arrived-fits : (forms : FormProgram) (s : FormState) (g a t : State) (vs : List Value) (vss : List (List Value))
    (p : Passage) → IsFormProgram forms → IsState forms.program g → IsState forms.program t → Fits forms s g
    → Agree (Kept forms.program g.current.function g.point) vs g.current.variables
    → Arrives forms.program g vs vss p a t → Fits forms (next_state forms s p a) t
arrived-fits forms s g a t vs vss Stays is i j fits agree h =
    arrive-fits forms g a t vss s.point s.current.names s.waiting is j h fits.point fits.waiting
arrived-fits forms s g a t vs vss Begins is i j fits agree h = begun-fits forms s g a t vs vss is i j fits agree h
arrived-fits forms s g a t vs vss Ends is i j fits agree h =
    returned-fits forms s s.waiting g a t vss is j fits.waiting h

moved-fits : (forms : FormProgram) (s : FormState) (g : State) (vs : List Value) (vss : List (List Value))
    (p : Passage) → IsFormProgram forms → IsState forms.program g → Fits forms s g
    → Agree (Kept forms.program g.current.function g.point) vs g.current.variables
    → (m' m : Moved) → ((t : State) → m ≡ Moves t → IsState forms.program t)
    → Leads (Arrives forms.program g vs vss p) m' m → FitsMove forms (named_move forms s p m') m
moved-fits forms s g vs vss p is i fits agree (Moves a) (Moves t) kept h =
    arrived-fits forms s g a t vs vss p is i (kept t refl) fits agree h
moved-fits forms s g vs vss p is i fits agree (Moves a) (Halts end) kept h = h
moved-fits forms s g vs vss p is i fits agree (Moves a) Stuck kept h = h
moved-fits forms s g vs vss p is i fits agree (Halts end) (Moves t) kept h = h
moved-fits forms s g vs vss p is i fits agree (Halts end) (Halts other) kept h = h
moved-fits forms s g vs vss p is i fits agree (Halts end) Stuck kept h = h
moved-fits forms s g vs vss p is i fits agree Stuck (Moves t) kept h = h
moved-fits forms s g vs vss p is i fits agree Stuck (Halts end) kept h = h
moved-fits forms s g vs vss p is i fits agree Stuck Stuck kept h = h

-- the names before the point have the values of the variables that are live
pub now-agree : (forms : FormProgram) (s : FormState) (g : State) → IsFormProgram forms → IsState forms.program g
    → Fits forms s g
    → Agree (Before forms.program g.current.function g.point) (openings-now forms s g) g.current.variables
now-agree forms s g is i fits =
    before-agree forms g.point s.current.names g.current
    (functions_of (map (λ (w : Waiting). w.activation) g.waiting)) is i.active.0 (g.block, i.placed) fits.holds

pub step_fits : StepFits
step_fits forms s g is i fits =
    let program = forms.program in
    let vs = openings-now forms s g in
    let vss = openings forms s.waiting g.waiting in
    let there = op-at program g.current.function g.point g.block is.program i.active.0.function i.placed in
    let agree = now-agree forms s g is i fits in
    let leads = step-leads program g vs vss there.op (record { stands = i.placed; at = there.there }) i.waiting agree
    (older-agree forms g.current s.waiting g.waiting is i.active.1 i.waiting fits.waiting) in
    let kept = kept-before program g.current.function g.point vs g.current.variables agree in
    subst (λ (x : State). FitsMove forms (named_move forms s (passage_of (op_at program x)) (step program x))
    (step program g)) (sym (opened-over forms s g fits))
    (subst (λ (o : Option Op). FitsMove forms (named_move forms s (passage_of o) (step program (over g vs vss)))
    (step program g)) (sym there.there)
    (moved-fits forms s g vs vss (passage there.op) is i fits kept (step program (over g vs vss)) (step program g)
    (λ t e. step_keeps_state program g t is.program i e) leads))

-- ---- the first state

first-fits : (forms : FormProgram) (input : List ℕ) (o : Option ℕ) (g : State) → IsFormProgram forms
    → entry_of forms.program forms.program.main 0 ≡ o → option_map (first_state_at forms.program input) o ≡ Some g
    → Fits forms (first_form g) g
first-fits forms input None g is at e = absurd (none-some g e)
first-fits forms input (Some point) g is at e =
    let program = forms.program in
    subst (λ (x : State). Fits forms (first_form x) x) (same_Some (first_state_at program input point) g e) (record {
      block = refl;
      point = refl;
      call = record { function = refl; arguments = refl; arrays = refl };
      holds = begun-holds forms program.main point [] is is.program.main
          (first-placed (flow_at program program.main) 0 point at);
      waiting = tt;
      objects = refl;
      left = refl;
      taken = refl;
      written = refl;
    })

pub first_fits : FirstFits
first_fits forms input g is e = (
  first_form g,
  ap (option_map first_form) e,
  first-fits forms input (entry_of forms.program forms.program.main 0) g is refl e,
)
