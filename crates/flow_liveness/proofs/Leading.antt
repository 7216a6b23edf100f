-- A step depends only on live variables: where two states differ at most in others, it leads to two such states.
use Rattle.std.proofs.Common.{◌≡◌, ◌≢◌, ◌⊎◌, ◌+◌, ℕ, suc, Bool, true, false, ℤ, pos, negsuc, List, [], ◌∷◌, ◌++◌}
use Rattle.std.proofs.Common.{length}
use Rattle.std.proofs.Common.{replicate, Option, Some, None, inl, inr, refl, sym, ap, ◌∙◌, subst}
use Rattle.std.specs.Prelude.{◌==◌, ⊤, if◌then◌else◌, nat_le, slice_get, slice_set, int_div, int_rem, neg_ℤ, ◌+ℤ◌, ◌-ℤ◌}
use Rattle.std.specs.Prelude.{◌*ℤ◌, ◌^◌}
use Rattle.std.specs.Int.{w8, w16, w32, int_wrap, int_bit_and, int_bit_or, int_bit_xor, int_bit_not}
use Rattle.std.proofs.lemmas.Bool.{cases_eq}
use Rattle.std.proofs.lemmas.Option.{none-some, same_Some}
use Rattle.pcc_base.specs.Outcome.{ArrayName, Null, Static, InFrame, Unknown, Value, Number, Array, Ended, Trapped}
use Rattle.pcc_base.specs.declared.run.Trap.TheVariants.{Check, Divide}
use Rattle.flow_graph.specs.declared.op.Bits.{Bits}
use Rattle.flow_graph.specs.declared.op.Comparison.{Comparison}
use Rattle.flow_graph.specs.declared.op.Comparison.TheVariants.{Eq}
use Rattle.flow_graph.specs.declared.op.Order.{Order}
use Rattle.flow_graph.specs.declared.op.Op.{Op}
use Rattle.flow_graph.specs.declared.op.Op.TheVariants as op
use Rattle.flow_graph.specs.Graphs.{Flow, IsIn, Stands, ends_block, following, is_end, points_of}
use Rattle.flow_graph.specs.Liveness.{BeginsWith, IsBehind, IsDefinedAt, IsLiveAfter, IsLiveBefore, IsSuccessor}
use Rattle.flow_graph.specs.Liveness.{GoesTo, LeadsTo, defined, uses}
use Rattle.flow_graph.specs.Meaning.{Moved, Moves, Halts, Stuck, accessed, act, at_point, back_to, bytes_of, calls}
use Rattle.flow_graph.specs.Meaning.{checked, clears, compared, comparison, divided_unless, ends_program, enters}
use Rattle.flow_graph.specs.Meaning.{arrays_compared, both, first_of, given, gets, into_block, loads, low_byte}
use Rattle.flow_graph.specs.Meaning.{most_active, no_quotient, no_unsigned_quotient, of_width, one_more, one_number}
use Rattle.flow_graph.specs.Meaning.{onward, ordered, ordering, puts, puts_scalar, result_to, returns_to, sets}
use Rattle.flow_graph.specs.Meaning.{shift_count, shifted_right, shifted_unsigned, step, stored, stores, two_numbers}
use Rattle.flow_graph.specs.Meaning.{unsigned_quotient, unsigned_remainder, values_at, zero_extended}
use Rattle.flow_graph.specs.Shapes as shapes
use Rattle.flow_graph.specs.Shapes.{shape}
use Rattle.flow_graph.specs.States.{Activation, Elements, GraphProgram, State, Waiting, array_from, array_at, depth_of}
use Rattle.flow_graph.specs.States.{element_at, elements_of, entry_of, first_activation, fitted, flow_at, number_at}
use Rattle.flow_graph.specs.States.{number_of, op_of, point_after, value_at, width_of, with_array, with_element}
use Rattle.flow_graph.specs.States.{with_value}
use Rattle.flow_graph.specs.WellFormed.{AreWaiting, IsWaiting}
use Rattle.flow_liveness.specs.Passages.{Passage, Stays, Begins, Ends, passage}
use Rattle.flow_liveness.proofs.Overlays.{AreLike, IsNear, IsStored, array-over, array-stored, depth-over}
use Rattle.flow_liveness.proofs.Overlays.{elements-over, like-same, near-same, over, over_call, overlay, set-length}
use Rattle.flow_liveness.proofs.Overlays.{set-one, set-other}

-- ---- what has to agree

abbrev pub Before : GraphProgram → ℕ → ℕ → ℕ → Type 0
Before program f point v = IsLiveBefore (flow_at program f) v point

abbrev pub After : GraphProgram → ℕ → ℕ → ℕ → Type 0
After program f point v = IsLiveAfter (flow_at program f) v point

-- live after the point, and not defined there
abbrev pub Kept : GraphProgram → ℕ → ℕ → ℕ → Type 0
Kept program f point v = IsLiveAfter (flow_at program f) v point × (IsDefinedAt (flow_at program f) v point → ⊥)

pub record Agree (Matters : ℕ → Type 0) (vs us : List Value) : Type 0 where
  pub many : length vs ≡ length us
  pub same : (v : ℕ) → Matters v → slice_get vs v ≡ slice_get us v

abbrev pub AgreeWaiting : GraphProgram → List (List Value) → List Waiting → Type 0
AgreeWaiting program [] [] = ⊤
AgreeWaiting program [] (w ∷ ws) = ⊥
AgreeWaiting program (vs ∷ vss) [] = ⊥
AgreeWaiting program (vs ∷ vss) (w ∷ ws) =
    Agree (Kept program w.activation.function w.point) vs w.activation.variables × AgreeWaiting program vss ws

-- the state stands at its point, which has this op
pub record Here (program : GraphProgram) (g : State) (op : Op) : Type 0 where
  pub stands : Stands (flow_at program g.current.function) g.point g.block
  pub at : op_of program g.current.function g.point ≡ Some op

-- ---- where steps lead

abbrev pub Leads : (State → State → Type 0) → Moved → Moved → Type 0
Leads R (Moves s) (Moves t) = R s t
Leads R (Moves s) (Halts end) = ⊥
Leads R (Moves s) Stuck = ⊥
Leads R (Halts end) (Moves t) = ⊥
Leads R (Halts end) (Halts other) = end ≡ other
Leads R (Halts end) Stuck = ⊥
Leads R Stuck (Moves t) = ⊥
Leads R Stuck (Halts end) = ⊥
Leads R Stuck Stuck = ⊤

-- from the point of a call to the next one, where the call that runs is still the same
pub record Stayed (program : GraphProgram) (g : State) (vss : List (List Value)) (s t : State) : Type 0 where
  pub values : List Value
  pub is : s ≡ over t values vss
  pub function : t.current.function ≡ g.current.function
  pub leads : IsSuccessor (flow_at program g.current.function) g.point t.point
  pub agree : Agree (After program g.current.function g.point) values t.current.variables
  pub waiting : AreLike t.waiting g.waiting

-- to a new call
pub record Begun (program : GraphProgram) (g : State) (vs : List Value) (vss : List (List Value)) (s t : State)
    : Type 0 where
  pub is : s ≡ over t t.current.variables (vs ∷ vss)
  pub waiting : t.waiting ≡ record { activation = g.current; block = g.block; point = g.point } ∷ g.waiting
  pub function : ℕ
  pub arguments : List Value
  pub current : t.current ≡ first_activation program function arguments

-- back to the youngest waiting call
pub record Ended_call (program : GraphProgram) (g : State) (vss : List (List Value)) (s t : State) : Type 0 where
  pub w : Waiting
  pub rest : List Waiting
  pub us : List Value
  pub uss : List (List Value)
  pub waits : g.waiting ≡ w ∷ rest
  pub values : vss ≡ us ∷ uss
  pub stayed : Stayed program (back_to g w rest) uss s t

abbrev pub Arrives : GraphProgram → State → List Value → List (List Value) → Passage → State → State → Type 0
Arrives program g vs vss Stays = Stayed program g vss
Arrives program g vs vss Begins = Begun program g vs vss
Arrives program g vs vss Ends = Ended_call program g vss

-- ---- values that agree

-- what an op reads is live before its point
read : (program : GraphProgram) (g : State) (op : Op) (vs : List Value) (v : ℕ) → Here program g op
    → Agree (Before program g.current.function g.point) vs g.current.variables → IsIn v (uses op)
    → slice_get vs v ≡ slice_get g.current.variables v
read program g op vs v here agree used = agree.same v (0, ((g.block, here.stands), op, here.at, used))

-- what is live after a point and not defined there is live before it
pub kept-before : (program : GraphProgram) (f point : ℕ) (vs us : List Value) → Agree (Before program f point) vs us
    → Agree (Kept program f point) vs us
kept-before program f point vs us agree = record {
  many = agree.many;
  same = λ v kept.
      let (next, leads, (n, reach)) = kept.0 in agree.same v (suc n, (kept.1, next, leads, reach));
}

-- what a point defines
defines : (flow : Flow) (v point : ℕ) (op : Op) → slice_get flow.ops point ≡ Some op → IsDefinedAt flow v point
    → defined op ≡ Some v
defines flow v point op at (its, e, d) = subst (λ (o : Op). defined o ≡ Some v) (same_Some its op (sym e ∙ at)) d

-- where nothing is defined
after-none : (program : GraphProgram) (f point : ℕ) (op : Op) (vs us : List Value) → op_of program f point ≡ Some op
    → defined op ≡ None → Agree (Kept program f point) vs us → Agree (After program f point) vs us
after-none program f point op vs us at none agree = record {
  many = agree.many;
  same = λ v live. agree.same v
      (live, (λ d. absurd (none-some v (sym none ∙ defines (flow_at program f) v point op at d))));
}

-- where a variable is defined
after-set : (program : GraphProgram) (f point : ℕ) (op : Op) (vs us : List Value) (d : ℕ) (value : Value)
    → op_of program f point ≡ Some op → defined op ≡ Some d → Agree (Kept program f point) vs us
    → Agree (After program f point) (slice_set vs d value) (slice_set us d value)
after-set program f point op vs us d value at some agree = record {
  many = set-length vs d value ∙ (agree.many ∙ sym (set-length us d value));
  same = λ v live. by v live (cases_eq v d);
}
  where
    by : (v : ℕ) → IsLiveAfter (flow_at program f) v point → (v ≡ d) ⊎ (v ≢ d)
        → slice_get (slice_set vs d value) v ≡ slice_get (slice_set us d value) v
    by v live (inl e) =
        subst (λ (u : ℕ). slice_get (slice_set vs d value) u ≡ slice_get (slice_set us d value) u) (sym e)
        (set-one vs us d value agree.many)
    by v live (inr n) =
        set-other vs d v value n
        ∙ (agree.same v (
          live,
          (λ h. n (same_Some v d
              (sym (defines (flow_at program f) v point op at h) ∙ some))),
        ) ∙ sym (set-other us d v value n))

-- ---- combinators of the meaning

given-same : {A : Type 0} (R : State → State → Type 0) (o : Option A) (go' go : A → Moved)
    → ((x : A) → o ≡ Some x → Leads R (go' x) (go x)) → Leads R (given o go') (given o go)
given-same R None go' go h = tt
given-same R (Some x) go' go h = h x refl

given-leads : {A : Type 0} (R : State → State → Type 0) (o' o : Option A) (go' go : A → Moved) → o' ≡ o
    → ((x : A) → o ≡ Some x → Leads R (go' x) (go x)) → Leads R (given o' go') (given o go)
given-leads {A} R o' o go' go e h =
    subst (λ (p : Option A). Leads R (given p go') (given o go)) (sym e) (given-same R o go' go h)

if-leads : (R : State → State → Type 0) (test : Bool) (a b m' m : Moved) → Leads R a b → Leads R m' m
    → Leads R (if test then a else m') (if test then b else m)
if-leads R true a b m' m h k = h
if-leads R false a b m' m h k = k

checked-leads : (R : State → State → Type 0) (o : Option ℤ) (go' go : ℤ → Moved)
    → ((n : ℤ) → Leads R (go' n) (go n)) → Leads R (checked o go') (checked o go)
checked-leads R None go' go h = refl
checked-leads R (Some n) go' go h = h n

width-leads : (R : State → State → Type 0) (bits : Bits) (array : Elements) (go' go : List ℤ → Moved)
    → ((elements : List ℤ) → Leads R (go' elements) (go elements))
    → Leads R (of_width bits array go') (of_width bits array go)
width-leads R bits array go' go h =
    if-leads' (array.0 == bytes_of bits)
  where
    if-leads' : (test : Bool) → Leads R (if test then go' array.1 else Stuck) (if test then go array.1 else Stuck)
    if-leads' true = h array.1
    if-leads' false = tt

-- an op that is no end leads to the point behind its own
plain-leads : (flow : Flow) (point next : ℕ) (leads : shapes.Leads) → ends_block leads ≡ false
    → IsBehind flow point next → GoesTo flow point next leads
plain-leads flow point next shapes.Onward e h = h
plain-leads flow point next (shapes.IntoCall result words) e h = h
plain-leads flow point next (shapes.ToBlock x) e h = absurd (cc)
plain-leads flow point next (shapes.ToEither x y) e h = absurd (cc)
plain-leads flow point next shapes.OutOfCall e h = absurd (cc)
plain-leads flow point next shapes.OutOfProgram e h = absurd (cc)

-- onward from a state near the one that the step begins with
onward-leads : (program : GraphProgram) (g u : State) (vs : List Value) (vss : List (List Value)) (o : Op)
    → Here program g o → is_end o ≡ false → IsNear u g
    → Agree (After program g.current.function g.point) vs u.current.variables
    → Leads (Stayed program g vss) (onward program (over u vs vss)) (onward program u)
onward-leads program g u vs vss o here plain near agree =
    by (point_after program u.current.function u.block u.point) refl
  where
    by : (p : Option ℕ) → point_after program u.current.function u.block u.point ≡ p
        → Leads (Stayed program g vss) (at_point u.block (over u vs vss) p) (at_point u.block u p)
    by None e = tt
    by (Some next) e =
        let behind : following g.point (points_of (flow_at program g.current.function) g.block) ≡ Some next =
        ap (λ (f : ℕ). following g.point (points_of (flow_at program f) g.block)) (sym near.function)
        ∙ (ap (λ (b : ℕ). following g.point (points_of (flow_at program u.current.function) b)) (sym near.block)
        ∙ (ap (λ (p : ℕ). following p (points_of (flow_at program u.current.function) u.block)) (sym near.point)
        ∙ e)) in
        record {
          values = vs;
          is = refl;
          function = near.function;
          leads = (
            (g.block, here.stands),
            o,
            here.at,
            plain-leads (flow_at program g.current.function) g.point next (shape o).leads plain (g.block, behind),
          );
          agree = agree;
          waiting = near.waiting;
        }

-- onward with a value in a variable
sets-leads : (program : GraphProgram) (g : State) (vs : List Value) (vss : List (List Value)) (o : Op) (d : ℕ)
    (value : Value) → Here program g o → is_end o ≡ false → defined o ≡ Some d
    → Agree (Kept program g.current.function g.point) vs g.current.variables
    → Leads (Stayed program g vss) (sets program (over g vs vss) d value) (sets program g d value)
sets-leads program g vs vss o d value here plain some agree =
    onward-leads program g (with_value d value g) (slice_set vs d value) vss o here plain
    (record { block = refl; point = refl; function = refl; waiting = like-same g.waiting })
    (after-set program g.current.function g.point o vs g.current.variables d value here.at some agree)

-- onward with nothing defined
plain-onward : (program : GraphProgram) (g : State) (vs : List Value) (vss : List (List Value)) (o : Op)
    → Here program g o → is_end o ≡ false → defined o ≡ None
    → Agree (Kept program g.current.function g.point) vs g.current.variables
    → Leads (Stayed program g vss) (onward program (over g vs vss)) (onward program g)
plain-onward program g vs vss o here plain none agree =
    onward-leads program g g vs vss o here plain (near-same g)
    (after-none program g.current.function g.point o vs g.current.variables here.at none agree)

-- to the first point of a block
into-leads : (program : GraphProgram) (g : State) (vs : List Value) (vss : List (List Value)) (o : Op) (x : ℕ)
    → Here program g o → defined o ≡ None
    → ((next : ℕ) → BeginsWith (flow_at program g.current.function) x next
    → LeadsTo (flow_at program g.current.function) g.point next o)
    → Agree (Kept program g.current.function g.point) vs g.current.variables
    → Leads (Stayed program g vss) (into_block program x (over g vs vss)) (into_block program x g)
into-leads program g vs vss o x here none ways agree =
    by (entry_of program g.current.function x) refl
  where
    by : (p : Option ℕ) → entry_of program g.current.function x ≡ p
        → Leads (Stayed program g vss) (at_point x (over g vs vss) p) (at_point x g p)
    by None e = tt
    by (Some next) e = record {
      values = vs;
      is = refl;
      function = refl;
      leads = ((g.block, here.stands), o, here.at, ways next e);
      agree = after-none program g.current.function g.point o vs g.current.variables here.at none agree;
      waiting = like-same g.waiting;
    }

-- ---- arrays

accessed-leads : (program : GraphProgram) (g : State) (vs : List Value) (vss : List (List Value)) (bits : Bits)
    (array : ArrayName) (R : State → State → Type 0) (go' go : List ℤ → Moved)
    → ((elements : List ℤ) → Leads R (go' elements) (go elements))
    → Leads R (accessed program (over g vs vss) bits array go') (accessed program g bits array go)
accessed-leads program g vs vss bits Null R go' go h = refl
accessed-leads program g vs vss bits (Static k) R go' go h =
    given-same R (elements_of program g (Static k)) (λ elements. of_width bits elements go')
    (λ elements. of_width bits elements go) (λ elements e. width-leads R bits elements go' go h)
accessed-leads program g vs vss bits (InFrame k depth) R go' go h =
    given-leads R (elements_of program (over g vs vss) (InFrame k depth)) (elements_of program g (InFrame k depth))
    (λ elements. of_width bits elements go') (λ elements. of_width bits elements go)
    (elements-over program g vs vss (InFrame k depth)) (λ elements e. width-leads R bits elements go' go h)
accessed-leads program g vs vss bits Unknown R go' go h = tt

array-leads : (program : GraphProgram) (g : State) (vs : List Value) (vss : List (List Value)) (o : Op)
    (array : ArrayName) (elements : List ℤ) → Here program g o → is_end o ≡ false → defined o ≡ None
    → Agree (Kept program g.current.function g.point) vs g.current.variables
    → Leads (Stayed program g vss) (onward program (with_array array elements (over g vs vss)))
    (onward program (with_array array elements g))
array-leads program g vs vss o array elements here plain none agree =
    let u : State = with_array array elements g in
    let stored : IsStored u g = array-stored g array elements in
    subst (λ (s : State). Leads (Stayed program g vss) (onward program s) (onward program u))
    (sym (array-over g vs vss array elements))
    (onward-leads program g u vs vss o here plain stored.near
    (subst (Agree (After program g.current.function g.point) vs) (sym stored.variables)
    (after-none program g.current.function g.point o vs g.current.variables here.at none agree)))

-- ---- calls

values-same : (g : State) (vs : List Value) (vss : List (List Value)) (words : List ℕ)
    → ((v : ℕ) → IsIn v words → slice_get vs v ≡ slice_get g.current.variables v)
    → values_at (over g vs vss) words ≡ values_at g words
values-same g vs vss [] h = refl
values-same g vs vss (w ∷ words) h =
    ap (λ (o : Option Value). one_more o (values_at (over g vs vss) words)) (h w (inl refl))
    ∙ ap (one_more (value_at g w)) (values-same g vs vss words (λ v i. h v (inr i)))

enters-leads : (program : GraphProgram) (g : State) (vs : List Value) (vss : List (List Value)) (f : ℕ)
    (arguments : List Value)
    → Leads (Begun program g vs vss) (enters program (over g vs vss) f arguments) (enters program g f arguments)
enters-leads program g vs vss f arguments = by (entry_of program f 0)
  where
    begun : State → List Waiting → State
    begun s ws = record s { current = first_activation program f arguments; waiting = ws }

    its : Activation → Waiting
    its a = record { activation = a; block = g.block; point = g.point }

    by : (p : Option ℕ)
        → Leads (Begun program g vs vss)
        (at_point 0 (record (over g vs vss) {
          current = first_activation program f arguments;
          waiting = record { activation = over_call vs g.current; block = g.block; point = g.point }
              ∷ overlay vss g.waiting;
        }) p)
        (at_point 0 (record g {
          current = first_activation program f arguments;
          waiting = record { activation = g.current; block = g.block; point = g.point } ∷ g.waiting;
        }) p)
    by None = tt
    by (Some point) =
        record { is = refl; waiting = refl; function = f; arguments = arguments; current = refl }

calls-leads : (program : GraphProgram) (g : State) (vs : List Value) (vss : List (List Value)) (f : ℕ)
    (words : List ℕ) → ((v : ℕ) → IsIn v words → slice_get vs v ≡ slice_get g.current.variables v)
    → Leads (Begun program g vs vss) (calls program (over g vs vss) f words) (calls program g f words)
calls-leads program g vs vss f words h =
    given-leads R (values_at (over g vs vss) words) (values_at g words)
    (λ values. if nat_le most_active (depth_of (over g vs vss)) then Halts (Trapped Check)
    else enters program (over g vs vss) f values)
    (λ values. if nat_le most_active (depth_of g) then Halts (Trapped Check) else enters program g f values)
    (values-same g vs vss words h)
    (λ values e. subst (λ (n : ℕ). Leads R (if nat_le most_active n then Halts (Trapped Check)
    else enters program (over g vs vss) f values)
    (if nat_le most_active (depth_of g) then Halts (Trapped Check) else enters program g f values))
    (sym (depth-over g vs vss))
    (if-leads R (nat_le most_active (depth_of g)) (Halts (Trapped Check)) (Halts (Trapped Check))
    (enters program (over g vs vss) f values) (enters program g f values) refl
    (enters-leads program g vs vss f values)))
  where
    R : State → State → Type 0
    R = Begun program g vs vss

weaken : (R Q : State → State → Type 0) → ((s t : State) → R s t → Q s t) → (m' m : Moved) → Leads R m' m
    → Leads Q m' m
weaken R Q f (Moves s) (Moves t) h = f s t h
weaken R Q f (Moves s) (Halts end) h = h
weaken R Q f (Moves s) Stuck h = h
weaken R Q f (Halts end) (Moves t) h = h
weaken R Q f (Halts end) (Halts other) h = h
weaken R Q f (Halts end) Stuck h = h
weaken R Q f Stuck (Moves t) h = h
weaken R Q f Stuck (Halts end) h = h
weaken R Q f Stuck Stuck h = h

-- the caller, at its call, with the result
result-leads : (program : GraphProgram) (b : State) (us : List Value) (uss : List (List Value)) (n : Option ℤ)
    (d : Option ℕ) (f : ℕ) (words : List ℕ) → Here program b (op.Call d f words)
    → Agree (Kept program b.current.function b.point) us b.current.variables
    → Leads (Stayed program b uss) (result_to program (over b us uss) n (Some (op.Call d f words)))
    (result_to program b n (Some (op.Call d f words)))
result-leads program b us uss (Some n) (Some d) f words here agree =
    sets-leads program b us uss (op.Call (Some d) f words) d (Number n) here refl refl agree
result-leads program b us uss (Some n) None f words here agree =
    plain-onward program b us uss (op.Call None f words) here refl refl agree
result-leads program b us uss None (Some d) f words here agree = tt
result-leads program b us uss None None f words here agree =
    plain-onward program b us uss (op.Call None f words) here refl refl agree

ends-leads : (R : State → State → Type 0) (n : Option ℤ) → Leads R (ends_program n) (ends_program n)
ends-leads R None = tt
ends-leads R (Some n) = refl

returns-leads : (program : GraphProgram) (g : State) (vs : List Value) (vss : List (List Value)) (n : Option ℤ)
    (ws : List Waiting) → g.waiting ≡ ws → AreWaiting program g.current ws → AgreeWaiting program vss ws
    → Leads (Ended_call program g vss) (returns_to program (over g vs vss) (overlay vss ws) n)
    (returns_to program g ws n)
returns-leads program g vs vss n [] e waits agree = ends-leads (Ended_call program g vss) n
returns-leads program g vs [] n (w ∷ rest) e waits agree = absurd agree
returns-leads program g vs (us ∷ uss) n (w ∷ rest) e waits agree =
    let one : IsWaiting program w g.current = waits.0 in
    let call : Op = op.Call one.result g.current.function one.words in
    let b : State = back_to g w rest in
    weaken (Stayed program b uss) (Ended_call program g (us ∷ uss))
    (λ s t h. record { w = w; rest = rest; us = us; uss = uss; waits = e; values = refl; stayed = h })
    (result_to program (over b us uss) n (op_of program w.activation.function w.point))
    (result_to program b n (op_of program w.activation.function w.point))
    (subst (λ (o : Option Op). Leads (Stayed program b uss) (result_to program (over b us uss) n o)
    (result_to program b n o)) (sym one.calls)
    (result-leads program b us uss n one.result g.current.function one.words
    (record { stands = one.placed; at = one.calls }) agree.0))

-- ---- the ops

compare : Comparison → Option Value → Option Value → Option Bool
compare how x y = first_of (both (number_of x) (number_of y) (compared how))
    (arrays_compared how (array_from x) (array_from y))

comparison-same : (how : Comparison) (g : State) (vs : List Value) (vss : List (List Value)) (a b : ℕ)
    → slice_get vs a ≡ slice_get g.current.variables a → slice_get vs b ≡ slice_get g.current.variables b
    → comparison how (over g vs vss) a b ≡ comparison how g a b
unfolding compare
comparison-same how g vs vss a b x y =
    ap (λ (o : Option Value). compare how o (slice_get vs b)) x
    ∙ ap (compare how (slice_get g.current.variables a)) y

order : Order → Option Value → Option Value → Option Bool
order how x y = both (number_of x) (number_of y) (ordered how)

ordering-same : (how : Order) (g : State) (vs : List Value) (vss : List (List Value)) (a b : ℕ)
    → slice_get vs a ≡ slice_get g.current.variables a → slice_get vs b ≡ slice_get g.current.variables b
    → ordering how (over g vs vss) a b ≡ ordering how g a b
unfolding order
ordering-same how g vs vss a b x y =
    ap (λ (o : Option Value). order how o (slice_get vs b)) x
    ∙ ap (order how (slice_get g.current.variables a)) y

module _ (program : GraphProgram) (g : State) (vs : List Value) (vss : List (List Value)) where
  abbrev R : State → State → Type 0
  R = Stayed program g vss

  abbrev Same : ℕ → Type 0
  Same v = slice_get vs v ≡ slice_get g.current.variables v

  abbrev Agrees : Type 0
  Agrees = Agree (Kept program g.current.function g.point) vs g.current.variables

  one-leads : (o : Op) (d a : ℕ) (f : ℤ → ℤ) → Here program g o → is_end o ≡ false → defined o ≡ Some d → Agrees
      → Same a → Leads R (one_number program (over g vs vss) d a f) (one_number program g d a f)
  one-leads o d a f here plain some agree x =
      given-leads R (number_of (slice_get vs a)) (number_at g a)
      (λ n. sets program (over g vs vss) d (Number (f n))) (λ n. sets program g d (Number (f n)))
      (ap number_of x) (λ n e. sets-leads program g vs vss o d (Number (f n)) here plain some agree)

  numbers-lead : (a b : ℕ) (go' go : ℤ → ℤ → Moved) → Same a → Same b
      → ((x y : ℤ) → Leads R (go' x y) (go x y))
      → Leads R (given (number_at (over g vs vss) a) (λ x. given (number_at (over g vs vss) b) (go' x)))
      (given (number_at g a) (λ x. given (number_at g b) (go x)))
  numbers-lead a b go' go x y h =
      given-leads R (number_of (slice_get vs a)) (number_at g a)
      (λ m. given (number_at (over g vs vss) b) (go' m)) (λ m. given (number_at g b) (go m)) (ap number_of x)
      (λ m e. given-leads R (number_of (slice_get vs b)) (number_at g b) (go' m) (go m) (ap number_of y)
      (λ n i. h m n))

  two-leads : (o : Op) (d a b : ℕ) (f : ℤ → ℤ → ℤ) → Here program g o → is_end o ≡ false → defined o ≡ Some d → Agrees
      → Same a → Same b → Leads R (two_numbers program (over g vs vss) d a b f) (two_numbers program g d a b f)
  two-leads o d a b f here plain some agree x y =
      numbers-lead a b (λ m n. sets program (over g vs vss) d (Number (f m n)))
      (λ m n. sets program g d (Number (f m n))) x y
      (λ m n. sets-leads program g vs vss o d (Number (f m n)) here plain some agree)

  divided-leads : (traps : ℤ → ℤ → Bool) (o : Op) (d a b : ℕ) (f : ℤ → ℤ → ℤ) → Here program g o → is_end o ≡ false
      → defined o ≡ Some d → Agrees → Same a → Same b
      → Leads R (divided_unless traps program (over g vs vss) d a b f) (divided_unless traps program g d a b f)
  divided-leads traps o d a b f here plain some agree x y =
      numbers-lead a b
      (λ m n. if traps m n then Halts (Trapped Divide) else sets program (over g vs vss) d (Number (f m n)))
      (λ m n. if traps m n then Halts (Trapped Divide) else sets program g d (Number (f m n))) x y
      (λ m n. if-leads R (traps m n) (Halts (Trapped Divide)) (Halts (Trapped Divide))
      (sets program (over g vs vss) d (Number (f m n))) (sets program g d (Number (f m n))) refl
      (sets-leads program g vs vss o d (Number (f m n)) here plain some agree))

  compared-lead : (how : Comparison) (a b : ℕ) (go' go : Bool → Moved) → Same a → Same b
      → ((holds : Bool) → Leads R (go' holds) (go holds))
      → Leads R (given (comparison how (over g vs vss) a b) go') (given (comparison how g a b) go)
  compared-lead how a b go' go x y h =
      given-leads R (comparison how (over g vs vss) a b) (comparison how g a b) go' go
      (comparison-same how g vs vss a b x y) (λ holds e. h holds)

  ordered-lead : (how : Order) (a b : ℕ) (go' go : Bool → Moved) → Same a → Same b
      → ((holds : Bool) → Leads R (go' holds) (go holds))
      → Leads R (given (ordering how (over g vs vss) a b) go') (given (ordering how g a b) go)
  ordered-lead how a b go' go x y h =
      given-leads R (ordering how (over g vs vss) a b) (ordering how g a b) go' go
      (ordering-same how g vs vss a b x y) (λ holds e. h holds)

  loads-leads : (o : Op) (bits : Bits) (d : ℕ) (array : ArrayName) (i : ℤ) → Here program g o → is_end o ≡ false
      → defined o ≡ Some d → Agrees
      → Leads R (loads program (over g vs vss) bits d array i) (loads program g bits d array i)
  loads-leads o bits d array i here plain some agree =
      accessed-leads program g vs vss bits array R
      (λ elements. checked (element_at elements i) (λ n. sets program (over g vs vss) d (Number n)))
      (λ elements. checked (element_at elements i) (λ n. sets program g d (Number n)))
      (λ elements. checked-leads R (element_at elements i) (λ n. sets program (over g vs vss) d (Number n))
      (λ n. sets program g d (Number n))
      (λ n. sets-leads program g vs vss o d (Number n) here plain some agree))

  stores-leads : (o : Op) (bits : Bits) (array : ArrayName) (i n : ℤ) → Here program g o → is_end o ≡ false
      → defined o ≡ None → Agrees
      → Leads R (stores program (over g vs vss) bits array i n) (stores program g bits array i n)
  stores-leads o bits array i n here plain none agree =
      accessed-leads program g vs vss bits array R
      (λ elements. checked (element_at elements i)
      (λ old. onward program (with_array array (with_element elements i (stored bits n)) (over g vs vss))))
      (λ elements. checked (element_at elements i)
      (λ old. onward program (with_array array (with_element elements i (stored bits n)) g)))
      (λ elements. checked-leads R (element_at elements i)
      (λ old. onward program (with_array array (with_element elements i (stored bits n)) (over g vs vss)))
      (λ old. onward program (with_array array (with_element elements i (stored bits n)) g))
      (λ old. array-leads program g vs vss o array (with_element elements i (stored bits n)) here plain none agree))

  scalar-leads : (bits : Bits) (k : ℕ) (go' go : List ℤ → ℤ → Moved)
      → ((numbers : List ℤ) (n : ℤ) → Leads R (go' numbers n) (go numbers n))
      → Leads R (given (elements_of program g (Static k))
      (λ elements. of_width bits elements (λ numbers. given (slice_get numbers 0) (go' numbers))))
      (given (elements_of program g (Static k))
      (λ elements. of_width bits elements (λ numbers. given (slice_get numbers 0) (go numbers))))
  scalar-leads bits k go' go h =
      given-same R (elements_of program g (Static k))
      (λ elements. of_width bits elements (λ numbers. given (slice_get numbers 0) (go' numbers)))
      (λ elements. of_width bits elements (λ numbers. given (slice_get numbers 0) (go numbers)))
      (λ elements e. width-leads R bits elements (λ numbers. given (slice_get numbers 0) (go' numbers))
      (λ numbers. given (slice_get numbers 0) (go numbers))
      (λ numbers. given-same R (slice_get numbers 0) (go' numbers) (go numbers) (λ n i. h numbers n)))

  clears-leads : (o : Op) (k : ℕ) → Here program g o → is_end o ≡ false → defined o ≡ None → Agrees
      → Leads R (clears program (over g vs vss) k) (clears program g k)
  clears-leads o k here plain none agree =
      given-same R (slice_get g.current.arrays k)
      (λ elements. onward program (with_array (InFrame k (depth_of (over g vs vss)))
      (replicate (length elements) (pos 0)) (over g vs vss)))
      (λ elements. onward program (with_array (InFrame k (depth_of g)) (replicate (length elements) (pos 0)) g))
      (λ elements e. subst (λ (n : ℕ). Leads R (onward program (with_array (InFrame k n)
      (replicate (length elements) (pos 0)) (over g vs vss)))
      (onward program (with_array (InFrame k (depth_of g)) (replicate (length elements) (pos 0)) g)))
      (sym (depth-over g vs vss))
      (array-leads program g vs vss o (InFrame k (depth_of g)) (replicate (length elements) (pos 0))
      here plain none agree))

  frame-leads : (o : Op) (d k : ℕ) → Here program g o → is_end o ≡ false → defined o ≡ Some d → Agrees
      → Leads R (sets program (over g vs vss) d (Array (InFrame k (depth_of (over g vs vss)))))
      (sets program g d (Array (InFrame k (depth_of g))))
  frame-leads o d k here plain some agree =
      subst (λ (n : ℕ). Leads R (sets program (over g vs vss) d (Array (InFrame k n)))
      (sets program g d (Array (InFrame k (depth_of g))))) (sym (depth-over g vs vss))
      (sets-leads program g vs vss o d (Array (InFrame k (depth_of g))) here plain some agree)

  puts-leads : (o : Op) (d : ℕ) (n : ℤ) → Here program g o → is_end o ≡ false → defined o ≡ Some d → Agrees
      → Leads R (puts program (over g vs vss) d n) (puts program g d n)
  puts-leads o d n here plain some agree =
      let value : Value = Number (pos (low_byte n)) in
      onward-leads program g (with_value d value (record g { written = g.written ++ low_byte n ∷ [] }))
      (slice_set vs d value) vss o here plain
      (record { block = refl; point = refl; function = refl; waiting = like-same g.waiting })
      (after-set program g.current.function g.point o vs g.current.variables d value here.at some agree)

  gets-leads : (o : Op) (d : ℕ) (bytes : List ℕ) → Here program g o → is_end o ≡ false → defined o ≡ Some d → Agrees
      → Leads R (gets program (over g vs vss) d bytes) (gets program g d bytes)
  gets-leads o d [] here plain some agree =
      sets-leads program g vs vss o d (Number (negsuc 0)) here plain some agree
  gets-leads o d (byte ∷ bytes) here plain some agree =
      let value : Value = Number (pos byte) in
      onward-leads program g (with_value d value (record g { left = bytes; taken = g.taken + 1 }))
      (slice_set vs d value) vss o here plain
      (record { block = refl; point = refl; function = refl; waiting = like-same g.waiting })
      (after-set program g.current.function g.point o vs g.current.variables d value here.at some agree)

  branch-leads : (o : Op) (x y : ℕ) (holds : Bool) → Here program g o → defined o ≡ None
      → ((next : ℕ) → GoesTo (flow_at program g.current.function) g.point next (shapes.ToEither x y)
      → LeadsTo (flow_at program g.current.function) g.point next o)
      → Agrees
      → Leads R (into_block program (if holds then x else y) (over g vs vss))
      (into_block program (if holds then x else y) g)
  branch-leads o x y true here none ways agree =
      into-leads program g vs vss o x here none (λ next h. ways next (inl h)) agree
  branch-leads o x y false here none ways agree =
      into-leads program g vs vss o y here none (λ next h. ways next (inr h)) agree

-- each op
pub act-leads : (program : GraphProgram) (g : State) (vs : List Value) (vss : List (List Value)) (o : Op)
    → Here program g o → AreWaiting program g.current g.waiting
    → Agree (Before program g.current.function g.point) vs g.current.variables → AgreeWaiting program vss g.waiting
    → Leads (Arrives program g vs vss (passage o)) (act program (over g vs vss) o) (act program g o)
act-leads program g vs vss o here waits agree older = by o here (λ v used. read program g o vs v here agree used)
  where
    kept : Agree (Kept program g.current.function g.point) vs g.current.variables
    kept = kept-before program g.current.function g.point vs g.current.variables agree

    by : (p : Op) → Here program g p → ((v : ℕ) → IsIn v (uses p) → slice_get vs v ≡ slice_get g.current.variables v)
        → Leads (Arrives program g vs vss (passage p)) (act program (over g vs vss) p) (act program g p)
    by (op.Const d n) h r =
        sets-leads program g vs vss (op.Const d n) d (Number (fitted (width_of program g d) n)) h refl refl kept
    by (op.Copy d a) h r =
        given-leads (Stayed program g vss) (slice_get vs a) (value_at g a) (sets program (over g vs vss) d)
        (sets program g d) (r a (inl refl))
        (λ value e. sets-leads program g vs vss (op.Copy d a) d value h refl refl kept)
    by (op.Wide d a) h r = one-leads program g vs vss (op.Wide d a) d a (λ n. n) h refl refl kept (r a (inl refl))
    by (op.Zero d a) h r =
        one-leads program g vs vss (op.Zero d a) d a zero_extended h refl refl kept (r a (inl refl))
    by (op.Low d a) h r =
        one-leads program g vs vss (op.Low d a) d a (int_wrap w8) h refl refl kept (r a (inl refl))
    by (op.Low16 d a) h r =
        one-leads program g vs vss (op.Low16 d a) d a (int_wrap w16) h refl refl kept (r a (inl refl))
    by (op.Neg d a) h r =
        one-leads program g vs vss (op.Neg d a) d a (λ n. int_wrap w32 (neg_ℤ n)) h refl refl kept (r a (inl refl))
    by (op.Not d a) h r =
        one-leads program g vs vss (op.Not d a) d a (int_bit_not w32) h refl refl kept (r a (inl refl))
    by (op.Add d a b) h r =
        two-leads program g vs vss (op.Add d a b) d a b (λ x y. int_wrap w32 (x +ℤ y)) h refl refl kept
        (r a (inl refl)) (r b (inr (inl refl)))
    by (op.Sub d a b) h r =
        two-leads program g vs vss (op.Sub d a b) d a b (λ x y. int_wrap w32 (x -ℤ y)) h refl refl kept
        (r a (inl refl)) (r b (inr (inl refl)))
    by (op.Mul d a b) h r =
        two-leads program g vs vss (op.Mul d a b) d a b (λ x y. int_wrap w32 (x *ℤ y)) h refl refl kept
        (r a (inl refl)) (r b (inr (inl refl)))
    by (op.And d a b) h r =
        two-leads program g vs vss (op.And d a b) d a b (int_bit_and w32) h refl refl kept
        (r a (inl refl)) (r b (inr (inl refl)))
    by (op.Or d a b) h r =
        two-leads program g vs vss (op.Or d a b) d a b (int_bit_or w32) h refl refl kept
        (r a (inl refl)) (r b (inr (inl refl)))
    by (op.Xor d a b) h r =
        two-leads program g vs vss (op.Xor d a b) d a b (int_bit_xor w32) h refl refl kept
        (r a (inl refl)) (r b (inr (inl refl)))
    by (op.Shl d a c) h r =
        two-leads program g vs vss (op.Shl d a c) d a c (λ x y. int_wrap w32 (x *ℤ pos (2 ^ shift_count y)))
        h refl refl kept (r a (inl refl)) (r c (inr (inl refl)))
    by (op.Sar d a c) h r =
        two-leads program g vs vss (op.Sar d a c) d a c (λ x y. shifted_right x (shift_count y)) h refl refl kept
        (r a (inl refl)) (r c (inr (inl refl)))
    by (op.Shr d a c) h r =
        two-leads program g vs vss (op.Shr d a c) d a c (λ x y. shifted_unsigned x (shift_count y)) h refl refl kept
        (r a (inl refl)) (r c (inr (inl refl)))
    by (op.Div d a b) h r =
        divided-leads program g vs vss no_quotient (op.Div d a b) d a b int_div h refl refl kept
        (r a (inl refl)) (r b (inr (inl refl)))
    by (op.Rem d a b) h r =
        divided-leads program g vs vss no_quotient (op.Rem d a b) d a b int_rem h refl refl kept
        (r a (inl refl)) (r b (inr (inl refl)))
    by (op.Udiv d a b) h r =
        divided-leads program g vs vss no_unsigned_quotient (op.Udiv d a b) d a b unsigned_quotient h refl refl kept
        (r a (inl refl)) (r b (inr (inl refl)))
    by (op.Urem d a b) h r =
        divided-leads program g vs vss no_unsigned_quotient (op.Urem d a b) d a b unsigned_remainder h refl refl kept
        (r a (inl refl)) (r b (inr (inl refl)))
    by (op.Set how d a b) h r =
        compared-lead program g vs vss how a b
        (λ holds. sets program (over g vs vss) d (Number (if holds then pos 1 else pos 0)))
        (λ holds. sets program g d (Number (if holds then pos 1 else pos 0)))
        (r a (inl refl)) (r b (inr (inl refl)))
        (λ holds. sets-leads program g vs vss (op.Set how d a b) d (Number (if holds then pos 1 else pos 0))
        h refl refl kept)
    by (op.Setu how d a b) h r =
        ordered-lead program g vs vss how a b
        (λ holds. sets program (over g vs vss) d (Number (if holds then pos 1 else pos 0)))
        (λ holds. sets program g d (Number (if holds then pos 1 else pos 0)))
        (r a (inl refl)) (r b (inr (inl refl)))
        (λ holds. sets-leads program g vs vss (op.Setu how d a b) d (Number (if holds then pos 1 else pos 0))
        h refl refl kept)
    by (op.Frame d k) h r = frame-leads program g vs vss (op.Frame d k) d k h refl refl kept
    by (op.Static d k) h r =
        sets-leads program g vs vss (op.Static d k) d (Array (Static k)) h refl refl kept
    by (op.Load bits d p i) h r =
        given-leads (Stayed program g vss) (array_from (slice_get vs p)) (array_at g p)
        (λ array. given (number_at (over g vs vss) i) (loads program (over g vs vss) bits d array))
        (λ array. given (number_at g i) (loads program g bits d array)) (ap array_from (r p (inl refl)))
        (λ array e. given-leads (Stayed program g vss) (number_of (slice_get vs i)) (number_at g i)
        (loads program (over g vs vss) bits d array) (loads program g bits d array)
        (ap number_of (r i (inr (inl refl))))
        (λ n j. loads-leads program g vs vss (op.Load bits d p i) bits d array n h refl refl kept))
    by (op.Store bits p i a) h r =
        given-leads (Stayed program g vss) (array_from (slice_get vs p)) (array_at g p)
        (λ array. given (number_at (over g vs vss) i)
        (λ index. given (number_at (over g vs vss) a) (stores program (over g vs vss) bits array index)))
        (λ array. given (number_at g i) (λ index. given (number_at g a) (stores program g bits array index)))
        (ap array_from (r p (inl refl)))
        (λ array e. numbers-lead program g vs vss i a (stores program (over g vs vss) bits array)
        (stores program g bits array) (r i (inr (inl refl))) (r a (inr (inr (inl refl))))
        (λ index n. stores-leads program g vs vss (op.Store bits p i a) bits array index n h refl refl kept))
    by (op.Get bits d k) h r =
        scalar-leads program g vs vss bits k (λ numbers n. sets program (over g vs vss) d (Number n))
        (λ numbers n. sets program g d (Number n))
        (λ numbers n. sets-leads program g vs vss (op.Get bits d k) d (Number n) h refl refl kept)
    by (op.Put bits k a) h r =
        given-leads (Stayed program g vss) (number_of (slice_get vs a)) (number_at g a)
        (puts_scalar program (over g vs vss) bits k) (puts_scalar program g bits k) (ap number_of (r a (inl refl)))
        (λ n e. scalar-leads program g vs vss bits k
        (λ numbers old. onward program
        (with_array (Static k) (with_element numbers (pos 0) (stored bits n)) (over g vs vss)))
        (λ numbers old. onward program (with_array (Static k) (with_element numbers (pos 0) (stored bits n)) g))
        (λ numbers old. array-leads program g vs vss (op.Put bits k a) (Static k)
        (with_element numbers (pos 0) (stored bits n)) h refl refl kept))
    by (op.Clear k) h r = clears-leads program g vs vss (op.Clear k) k h refl refl kept
    by (op.Param d k) h r =
        given-same (Stayed program g vss) (slice_get g.current.arguments k) (sets program (over g vs vss) d)
        (sets program g d) (λ value e. sets-leads program g vs vss (op.Param d k) d value h refl refl kept)
    by (op.Call d f words) h r = calls-leads program g vs vss f words r
    by (op.Putchar d a) h r =
        given-leads (Stayed program g vss) (number_of (slice_get vs a)) (number_at g a)
        (puts program (over g vs vss) d) (puts program g d) (ap number_of (r a (inl refl)))
        (λ n e. puts-leads program g vs vss (op.Putchar d a) d n h refl refl kept)
    by (op.Getchar d) h r = gets-leads program g vs vss (op.Getchar d) d g.left h refl refl kept
    by (op.Exit a) h r =
        given-leads (Stayed program g vss) (number_of (slice_get vs a)) (number_at g a)
        (λ n. Halts (Ended (low_byte n))) (λ n. Halts (Ended (low_byte n))) (ap number_of (r a (inl refl)))
        (λ n e. refl)
    by (op.Same a b) h r =
        compared-lead program g vs vss Eq a b
        (λ holds. if holds then onward program (over g vs vss) else Halts (Trapped Check))
        (λ holds. if holds then onward program g else Halts (Trapped Check))
        (r a (inl refl)) (r b (inr (inl refl)))
        (λ holds. if-leads (Stayed program g vss) holds (onward program (over g vs vss)) (onward program g)
        (Halts (Trapped Check)) (Halts (Trapped Check))
        (plain-onward program g vs vss (op.Same a b) h refl refl kept) refl)
    by (op.Mark statement) h r = plain-onward program g vs vss (op.Mark statement) h refl refl kept
    by op.Turn h r = plain-onward program g vs vss op.Turn h refl refl kept
    by (op.Jump x) h r = into-leads program g vs vss (op.Jump x) x h refl (λ next begins. begins) kept
    by (op.Branch how a b x y) h r =
        compared-lead program g vs vss how a b
        (λ holds. into_block program (if holds then x else y) (over g vs vss))
        (λ holds. into_block program (if holds then x else y) g)
        (r a (inl refl)) (r b (inr (inl refl)))
        (λ holds. branch-leads program g vs vss (op.Branch how a b x y) x y holds h refl (λ next goes. goes) kept)
    by (op.Branchu how a b x y) h r =
        ordered-lead program g vs vss how a b
        (λ holds. into_block program (if holds then x else y) (over g vs vss))
        (λ holds. into_block program (if holds then x else y) g)
        (r a (inl refl)) (r b (inr (inl refl)))
        (λ holds. branch-leads program g vs vss (op.Branchu how a b x y) x y holds h refl (λ next goes. goes) kept)
    by (op.Return (Some a)) h r =
        given-leads (Ended_call program g vss) (number_of (slice_get vs a)) (number_at g a)
        (λ n. returns_to program (over g vs vss) (overlay vss g.waiting) (Some n))
        (λ n. returns_to program g g.waiting (Some n)) (ap number_of (r a (inl refl)))
        (λ n e. returns-leads program g vs vss (Some n) g.waiting refl waits older)
    by (op.Return None) h r = returns-leads program g vs vss None g.waiting refl waits older

-- a step, from a state whose point has an op
pub step-leads : (program : GraphProgram) (g : State) (vs : List Value) (vss : List (List Value)) (o : Op)
    → Here program g o → AreWaiting program g.current g.waiting
    → Agree (Before program g.current.function g.point) vs g.current.variables → AgreeWaiting program vss g.waiting
    → Leads (Arrives program g vs vss (passage o)) (step program (over g vs vss)) (step program g)
step-leads program g vs vss o here waits agree older =
    subst (λ (p : Option Op). Leads (Arrives program g vs vss (passage o)) (given p (act program (over g vs vss)))
    (given p (act program g))) (sym here.at)
    (act-leads program g vs vss o here waits agree older)
