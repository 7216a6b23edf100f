-- A step of the form leads to a state that fits the one that the graphs' step leads to.
use Rattle.std.proofs.Common.{◌≡◌, ◌<◌, ◌+◌, ℕ, ℤ, pos, List, [], ◌∷◌, length}
use Rattle.std.proofs.Common.{get_or, map, Option, Some, None, inl, inr, refl, sym, ap, ◌∙◌, subst, arith}
use Rattle.std.specs.Prelude.{slice_get}
use Rattle.std.specs.List.{AllZip}
use Rattle.std.proofs.lemmas.Option.{none-some, slice_get-get_or}
use Rattle.pcc_base.specs.Outcome.{Value, Number}
use Rattle.flow_graph.specs.declared.op.Op.{Op}
use Rattle.flow_graph.specs.Graphs.{Flow, IsFlow, IsIn, IsPlaced}
use Rattle.flow_graph.specs.Liveness.{IsDefinedAt, IsLiveAfter, IsLiveBefore, IsSuccessor}
use Rattle.flow_graph.specs.Shapes.{if_any}
use Rattle.flow_graph.specs.Lives.{AreLive, Lives, at_point}
use Rattle.flow_graph.specs.States.{Activation, GraphProgram, State, Waiting, flow_at}
use Rattle.flow_graph.specs.WellFormed.{AreActivations, AreWaiting, FitsWidth, IsActivation}
use Rattle.flow_graph.specs.WellFormed.{functions_of}
use Rattle.flow_graph.proofs.Values.{graph-of}
use Rattle.flow_liveness.proofs.Placed.{placed-within}
use Rattle.flow_liveness.proofs.Variables.{after-within, before-within}
use Rattle.flow_liveness.specs.FormLaws.{AreSameWaiting, Fits, HoldBefore, HoldWaiting, IsSameCall}
use Rattle.flow_liveness.specs.FormLaws.{IsSameWaiting}
use Rattle.flow_liveness.specs.Forms.{FormCall, FormProgram, FormState}
use Rattle.flow_liveness.specs.Forms.{FormWaiting, IsFormProgram}
use Rattle.flow_liveness.specs.Forms.{lives_at, opened, opened_waiting}
use Rattle.flow_liveness.specs.Forms.{with_variables}
use Rattle.flow_liveness.specs.Names.{Names, defined_by, edge_copy, name_after, name_before, named_after}
use Rattle.flow_liveness.specs.Names.{opened_values}
use Rattle.flow_liveness.specs.Names.{passed, result_of, settled, source_of, value_of_name, waited}
use Rattle.flow_liveness.specs.Names.{without_result}
use Rattle.flow_liveness.proofs.Leading.{Agree, AgreeWaiting, Before, Kept}
use Rattle.flow_liveness.proofs.Naming.{after-is, before-is, fresh-after, fresh-before, in-either, in-right}
use Rattle.flow_liveness.proofs.Naming.{in-without, is-named-after, named-before, opened-at, opened-length}
use Rattle.flow_liveness.proofs.Naming.{source_of-at, test-in, with_values-at}
use Rattle.flow_liveness.proofs.Overlays.{over, over_call, overlay}

-- ---- what a form's program keeps

abbrev flow-of : FormProgram → ℕ → Flow
flow-of forms f = flow_at forms.program f

-- the functions of a form: the graph of each keeps what graphs keep, and its live sets are exact
pub record IsFunction (flow : Flow) (lives : Lives) : Type 0 where
  pub homes : List ℕ
  pub is_flow : IsFlow flow homes
  pub live : AreLive flow lives

pub function-of : (forms : FormProgram) (f : ℕ) → IsFormProgram forms → f < length forms.program.functions
    → IsFunction (flow_at forms.program f) (lives_at forms f)
function-of forms f is lt =
    let g = graph-of forms.program f is.program lt in
    record { homes = g.keeps.0; is_flow = g.keeps.1; live = is.lives f lt }

zip-length : {A B : Type 0} (R : A → B → Type 0) (xs : List A) (ys : List B) → AllZip R xs ys
    → length ys ≡ length xs
zip-length R [] [] h = refl
zip-length R [] (y ∷ ys) h = absurd h
zip-length R (x ∷ xs) [] h = absurd h
zip-length R (x ∷ xs) (y ∷ ys) h = let e = zip-length R xs ys h.1 in omega (arith, e)

-- as many values as variables
pub values-length : (program : GraphProgram) (older : List ℕ) (a : Activation) → IsActivation program older a
    → length a.variables ≡ length (flow_at program a.function).widths
values-length program older a h =
    zip-length (FitsWidth program (a.function ∷ older)) (flow_at program a.function).widths a.variables h.variables

-- ---- a variable that is live has a name, and one that has a name is live

pub live-before : (flow : Flow) (lives : Lives) (p v name : ℕ) → IsFunction flow lives → IsPlaced flow p
    → name_before flow lives p v ≡ Some name → IsLiveBefore flow v p
live-before flow lives p v name is placed e =
    (is.live.before p v (placed-within flow is.homes is.is_flow p placed)).0
    (test-in v (at_point lives.before p) (before-is flow lives p v name e).listed)

before-named : (flow : Flow) (lives : Lives) (p v : ℕ) → IsFunction flow lives → IsPlaced flow p
    → IsLiveBefore flow v p → (name : ℕ) × (name_before flow lives p v ≡ Some name)
before-named flow lives p v is placed live =
    named-before flow lives p v placed
    ((is.live.before p v (placed-within flow is.homes is.is_flow p placed)).1 live)

after-named : (flow : Flow) (lives : Lives) (p v : ℕ) → IsFunction flow lives → IsPlaced flow p
    → IsLiveAfter flow v p → (name : ℕ) × (name_after flow lives p v ≡ Some name)
after-named flow lives p v is placed live =
    is-named-after flow lives p v placed (in-right v (if_any (result_of flow p)) (at_point lives.after p)
    ((is.live.after p v (placed-within flow is.homes is.is_flow p placed)).1 live))

-- a name after a point is of a variable that is listed there
after-listed : (flow : Flow) (lives : Lives) (p v name : ℕ) → name_after flow lives p v ≡ Some name
    → IsIn v (named_after flow lives p)
after-listed flow lives p v name e =
    test-in v (named_after flow lives p) (after-is flow lives p v name e).listed

-- ---- from names to variables

-- a call's variables by their names, where the names have the values of the variables that matter
opened-agree : (flow : Flow) (name_of : ℕ → Option ℕ) (names : Names) (us : List Value) (Matters : ℕ → Type 0)
    → length us ≡ length flow.widths → ((v : ℕ) → Matters v → v < length flow.widths)
    → ((v : ℕ) → Matters v → (name : ℕ) × (name_of v ≡ Some name) × (slice_get us v ≡ Some (names name)))
    → Agree Matters (opened_values flow name_of names) us
opened-agree flow name_of names us Matters many within has = record {
  many = opened-length name_of names 0 flow.widths ∙ sym many;
  same = λ v m. by v m (has v m);
}
  where
    by : (v : ℕ) → Matters v → (name : ℕ) × (name_of v ≡ Some name) × (slice_get us v ≡ Some (names name))
        → slice_get (opened_values flow name_of names) v ≡ slice_get us v
    by v m (name, e, f) =
        opened-at name_of names 0 v flow.widths (within v m)
        ∙ (ap (λ (o : Option ℕ). Some (value_of_name names o)) (zero-plus v ∙ e) ∙ sym f)
      where
        zero-plus : (w : ℕ) → name_of (0 + w) ≡ name_of w
        zero-plus w = let e : 0 + w ≡ w = omega arith in ap name_of e

pub before-agree : (forms : FormProgram) (p : ℕ) (names : Names) (a : Activation) (older : List ℕ) → IsFormProgram forms
    → IsActivation forms.program older a → IsPlaced (flow_at forms.program a.function) p
    → HoldBefore forms p names a
    → Agree (Before forms.program a.function p)
    (opened_values (flow_at forms.program a.function)
    (name_before (flow_at forms.program a.function) (lives_at forms a.function) p) names) a.variables
before-agree forms p names a older is h placed holds =
    let f = function-of forms a.function is h.function in
    let flow = flow_at forms.program a.function in
    let lives = lives_at forms a.function in
    opened-agree flow (name_before flow lives p) names a.variables (Before forms.program a.function p)
    (values-length forms.program older a h) (λ v live. before-within flow f.homes f.is_flow v p live)
    (λ v live. let (name, e) = before-named flow lives p v f placed live in (name, e, holds v name e))

waiting-agree : (forms : FormProgram) (p : ℕ) (names : Names) (a : Activation) (older : List ℕ) → IsFormProgram forms
    → IsActivation forms.program older a → IsPlaced (flow_at forms.program a.function) p
    → HoldWaiting forms p names a
    → Agree (Kept forms.program a.function p)
    (opened_values (flow_at forms.program a.function)
    (name_after (flow_at forms.program a.function) (lives_at forms a.function) p) names) a.variables
waiting-agree forms p names a older is h placed holds =
    let f = function-of forms a.function is h.function in
    let flow = flow_at forms.program a.function in
    let lives = lives_at forms a.function in
    opened-agree flow (name_after flow lives p) names a.variables (Kept forms.program a.function p)
    (values-length forms.program older a h) (λ v kept. after-within flow f.homes f.is_flow v p kept.0)
    (λ v kept. let (name, e) = after-named flow lives p v f placed kept.0 in (name, e, holds v name e kept.1))

-- what the variables of waiting calls hold
abbrev pub openings : FormProgram → List FormWaiting → List Waiting → List (List Value)
openings forms [] us = []
openings forms (w ∷ ws) [] = []
openings forms (w ∷ ws) (u ∷ us) =
    opened_values (flow_at forms.program u.activation.function)
    (name_after (flow_at forms.program u.activation.function) (lives_at forms u.activation.function) u.point)
    w.call.names ∷ openings forms ws us

pub older-agree : (forms : FormProgram) (younger : Activation) (ws : List FormWaiting) (us : List Waiting)
    → IsFormProgram forms → AreActivations forms.program (map (λ (u : Waiting). u.activation) us)
    → AreWaiting forms.program younger us → AreSameWaiting forms ws us
    → AgreeWaiting forms.program (openings forms ws us) us
older-agree forms younger [] [] is active waits same = tt
older-agree forms younger [] (u ∷ us) is active waits same = absurd same
older-agree forms younger (w ∷ ws) [] is active waits same = absurd same
older-agree forms younger (w ∷ ws) (u ∷ us) is active waits same = (
  waiting-agree forms u.point w.call.names u.activation
      (functions_of (map (λ (t : Waiting). t.activation) us)) is active.0 (u.block, waits.0.placed) same.0.holds,
  older-agree forms u.activation ws us is active.1 waits.1 same.1,
)

-- ---- the opened state is the graphs' state with other variables

call-same : (values : List Value) (c : FormCall) (a : Activation) → IsSameCall c a
    → with_variables values c ≡ over_call values a
call-same values c a h = parts c.function a.function c.arguments a.arguments c.arrays a.arrays h.function h.arguments
    h.arrays
  where
    parts : (f g : ℕ) (x y : List Value) (k l : List (List ℤ)) → f ≡ g → x ≡ y → k ≡ l
        → ◌≡◌ {A = Activation} (record { function = f; arguments = x; variables = values; arrays = k })
        (record { function = g; arguments = y; variables = values; arrays = l })
    parts f g x y k l d e i = cc

opened-waiting : (forms : FormProgram) (ws : List FormWaiting) (us : List Waiting) → AreSameWaiting forms ws us
    → map (opened_waiting forms) ws ≡ overlay (openings forms ws us) us
opened-waiting forms [] [] same = refl
opened-waiting forms [] (u ∷ us) same = absurd same
opened-waiting forms (w ∷ ws) [] same = absurd same
opened-waiting forms (w ∷ ws) (u ∷ us) same =
    parts (opened_waiting forms w) (record {
      activation = over_call (values u.activation.function u.point) u.activation;
      block = u.block;
      point = u.point;
    }) (one same.0) (opened-waiting forms ws us same.1)
  where
    values : ℕ → ℕ → List Value
    values f p = opened_values (flow_at forms.program f) (name_after (flow_at forms.program f) (lives_at forms f) p)
        w.call.names

    parts : (x y : Waiting) → x ≡ y
        → map (opened_waiting forms) ws ≡ overlay (openings forms ws us) us
        → x ∷ map (opened_waiting forms) ws ≡ y ∷ overlay (openings forms ws us) us
    parts x y e i = cc

    one : IsSameWaiting forms w u
        → opened_waiting forms w ≡ record {
          activation = over_call (values u.activation.function u.point) u.activation;
          block = u.block;
          point = u.point;
        }
    one h =
        let e : values w.call.function w.point ≡ values u.activation.function u.point =
        ap (λ (f : ℕ). values f w.point) h.call.function
        ∙ ap (values u.activation.function) h.point in
        fields (with_variables (values w.call.function w.point) w.call)
        (over_call (values u.activation.function u.point) u.activation) w.block u.block w.point u.point
        (ap (λ (vs : List Value). with_variables vs w.call) e
        ∙ call-same (values u.activation.function u.point) w.call u.activation h.call) h.block h.point
      where
        fields : (a b : Activation) (m n p q : ℕ) → a ≡ b → m ≡ n → p ≡ q
            → ◌≡◌ {A = Waiting} (record { activation = a; block = m; point = p })
            (record { activation = b; block = n; point = q })
        fields a b m n p q e i j = cc

-- what the variables of the call that runs hold
abbrev pub openings-now : FormProgram → FormState → State → List Value
openings-now forms s g = opened_values (flow_at forms.program g.current.function)
    (name_before (flow_at forms.program g.current.function) (lives_at forms g.current.function) g.point)
    s.current.names

pub opened-over : (forms : FormProgram) (s : FormState) (g : State) → Fits forms s g
    → opened forms s ≡ over g (openings-now forms s g) (openings forms s.waiting g.waiting)
opened-over forms s g h =
    let e : values s.current.function s.point ≡ values g.current.function g.point =
    ap (λ (f : ℕ). values f s.point) h.call.function ∙ ap (values g.current.function) h.point in
    fields s.block g.block s.point g.point
    (with_variables (values s.current.function s.point) s.current)
    (over_call (values g.current.function g.point) g.current)
    (map (opened_waiting forms) s.waiting) (overlay (openings forms s.waiting g.waiting) g.waiting)
    s.objects g.objects s.left g.left s.taken g.taken s.written g.written h.block h.point
    (ap (λ (vs : List Value). with_variables vs s.current) e
    ∙ call-same (values g.current.function g.point) s.current g.current h.call)
    (opened-waiting forms s.waiting g.waiting h.waiting) h.objects h.left h.taken h.written
  where
    values : ℕ → ℕ → List Value
    values f p = opened_values (flow_at forms.program f) (name_before (flow_at forms.program f) (lives_at forms f) p)
        s.current.names

    fields : (b c p q : ℕ) (a d : Activation) (w u : List Waiting) (o r : List (List ℤ)) (l m : List ℕ) (t v : ℕ)
        (x y : List ℕ) → b ≡ c → p ≡ q → a ≡ d → w ≡ u → o ≡ r → l ≡ m → t ≡ v → x ≡ y
        → ◌≡◌ {A = State} (record {
          block = b;
          point = p;
          current = a;
          waiting = w;
          objects = o;
          left = l;
          taken = t;
          written = x;
        }) (record {
          block = c;
          point = q;
          current = d;
          waiting = u;
          objects = r;
          left = m;
          taken = v;
          written = y;
        })
    fields b c p q a d w u o r l m t v x y e1 e2 e3 e4 e5 e6 e7 e8 = cc

-- ---- from variables to names

-- a value that is there
value-there : (values : List Value) (v : ℕ) → v < length values
    → slice_get values v ≡ Some (get_or values v (Number (pos 0)))
value-there values v lt = slice_get-get_or values v (Number (pos 0)) lt

-- on the way from a point to the next one
pub passed-holds : (flow : Flow) (lives : Lives) (p q : ℕ) (values us : List Value) (names : Names)
    → IsFunction flow lives → IsSuccessor flow p q → IsPlaced flow q → length us ≡ length flow.widths
    → Agree (λ v. IsLiveAfter flow v p) values us
    → (v name : ℕ) → name_before flow lives q v ≡ Some name
    → slice_get us v ≡ Some (passed flow lives p q values names name)
passed-holds flow lives p q values us names is leads placed many agree v name e =
    let live : IsLiveBefore flow v q = live-before flow lives q v name is placed e in
    let after : IsLiveAfter flow v p = (q, leads, live) in
    let (m, f) = after-named flow lives p v is leads.0 after in
    let within : v < length flow.widths = before-within flow is.homes is.is_flow v q live in
    let source : source_of (edge_copy flow lives p q) name ≡ m =
    source_of-at (name_before flow lives q) (name_after flow lives p) (at_point lives.before q) v name m
    (test-in v (at_point lives.before q) (before-is flow lives q v name e).listed) e f
    (λ w g. fresh-before flow lives q v w name e g) in
    let value : settled flow lives p values names m ≡ get_or values v (Number (pos 0)) =
    with_values-at (name_after flow lives p) (named_after flow lives p) values names v m
    (after-listed flow lives p v m f) f (λ w g. fresh-after flow lives p v w m f g) in
    sym (agree.same v after)
    ∙ (value-there values v (omega (arith, within, many, agree.many))
    ∙ ap Some (sym (ap (settled flow lives p values names) source ∙ value)))

-- a call that begins to wait
pub waited-holds : (flow : Flow) (lives : Lives) (p : ℕ) (values us : List Value) (names : Names)
    → IsFunction flow lives → IsPlaced flow p → length us ≡ length flow.widths
    → Agree (λ v. IsLiveAfter flow v p × (IsDefinedAt flow v p → ⊥)) values us
    → (v name : ℕ) → name_after flow lives p v ≡ Some name → (IsDefinedAt flow v p → ⊥)
    → slice_get us v ≡ Some (waited flow lives p values names name)
waited-holds flow lives p values us names is placed many agree v name e free =
    let listed : IsIn v (at_point lives.after p) =
    elim (in-either v (if_any (result_of flow p)) (at_point lives.after p) (after-listed flow lives p v name e)) [
      | inl result ↦ absurd (not-result (slice_get flow.ops p) refl result)
      | inr live ↦ live
    ] in
    let live : IsLiveAfter flow v p =
    (is.live.after p v (placed-within flow is.homes is.is_flow p placed)).0 listed in
    let within : v < length flow.widths = after-within flow is.homes is.is_flow v p live in
    let value : waited flow lives p values names name ≡ get_or values v (Number (pos 0)) =
    with_values-at (name_after flow lives p) (without_result (result_of flow p) (at_point lives.after p)) values names
    v name (in-without (result_of flow p) v (at_point lives.after p) listed
    (λ r. not-result (slice_get flow.ops p) refl (subst (λ (o : Option ℕ). IsIn v (if_any o)) (sym r) (inl refl)))) e
    (λ w g. fresh-after flow lives p v w name e g) in
    sym (agree.same v (live, free))
    ∙ (value-there values v (omega (arith, within, many, agree.many)) ∙ ap Some (sym value))
  where
    result-is : (o : Option ℕ) → IsIn v (if_any o) → o ≡ Some v
    result-is None i = absurd i
    result-is (Some d) (inl same) = ap Some same
    result-is (Some d) (inr none) = absurd none

    not-result : (o : Option Op) → slice_get flow.ops p ≡ o → IsIn v (if_any (result_of flow p)) → ⊥
    not-result None at i =
        none-some v (sym (ap (λ (o : Option Op). defined_by o) at) ∙ result-is (result_of flow p) i)
    not-result (Some op) at i =
        free (op, at, sym (ap (λ (o : Option Op). defined_by o) at) ∙ result-is (result_of flow p) i)
