-- The laws of the relation, one for each kind of change.
use Rattle.std.proofs.Common.{◌≡◌, ◌≢◌, ℕ, suc, ◌+◌, ◌*◌, ◌<◌, ◌≤◌, ℤ, pos, List, [], ◌∷◌, ◌++◌, length, map, Some}
use Rattle.std.proofs.Common.{refl, sym, ap, ◌∙◌, subst, arith, length-append}
use Rattle.std.specs.Prelude.{slice_get, slice_set}
use Rattle.std.specs.List.{AllZip}
use Rattle.pcc_base.specs.Outcome.{ArrayName, Value, Number}
use Rattle.c_tree.specs.declared.types.IntegerType.{IntegerType}
use Rattle.c_tree.specs.declared.types.IntegerType.TheVariants.{Char, Short, Int, UnsignedInt}
use Rattle.c_tree.specs.declared.types.ValueType.{ValueType}
use Rattle.c_tree.specs.declared.types.ValueType.TheVariants.{Integer, Pointer}
use Rattle.c_tree.specs.Program.{Local, Function, Program}
use Rattle.c_tree.specs.Store as source
use Rattle.c_tree.specs.Store.{Held, HoldsNumber, HoldsPointer, held, with_local, with_youngest, youngest}
use Rattle.flow_graph.specs.States as graph
use Rattle.flow_graph.specs.States.{value_at, with_value}
use Rattle.lower_lines.specs.Relation.{HoldsAt, IsArrayOf, IsOf, Keeps, SameWaiting, ShowCalls, ShowsCall}
use Rattle.lower_lines.specs.Relation.{array_value}
use Rattle.lower_lines.specs.Shown.{first_variable, local_widths, type_widths}
use Rattle.lower_lines.specs.Variables.{levels_of, levels_widths, local_variables, typed_spot, variable_widths}
use Rattle.lower_lines.proofs.Locals.{get-set_other, get-set_same, length-slice_set, local-held, local-set}
use Rattle.lower_lines.proofs.Locals.{local-within, locals-kept, zip-index, zip-set}
use Rattle.lower_lines.specs.RelationLaws.{BytesAreTaken, BytesAreWritten, KeptBelow, KeptByChange, KeptTwice}
use Rattle.lower_lines.specs.RelationLaws.{LocalsAreHeld, NumbersAreSet, PointersAreSet, TemporariesAreFree}
use Rattle.lower_lines.specs.RelationLaws.{TurnsAndVisitsAreFree}
use Rattle.lower_lines.proofs.Depths.{all-same as waiting-refl}

-- the call with other values in its variables
abbrev changed : graph.Activation → List Value → graph.Activation
changed b variables = record {
  function = b.function;
  arguments = b.arguments;
  variables = variables;
  arrays = b.arrays;
}

-- ---- the youngest call

-- the youngest call of the graphs changes, and the source's doesn't
calls-changed : (p : Program) (f : Function) (older : List Function) (calls : List source.Activation)
    (b c : graph.Activation) (bs : List graph.Activation) → ShowCalls p (f ∷ older) calls (b ∷ bs)
    → ((a : source.Activation) → ShowsCall p f (f ∷ older) a b → ShowsCall p f (f ∷ older) a c)
    → ShowCalls p (f ∷ older) calls (c ∷ bs)
calls-changed p f older [] b c bs h step = absurd h
calls-changed p f older (a ∷ calls) b c bs h step = (step a h.0, h.1)

-- a local of the source's changes too
calls-set : (p : Program) (f : Function) (older : List Function) (calls : List source.Activation)
    (b c : graph.Activation) (bs : List graph.Activation) (k : ℕ) (x : Held) → ShowCalls p (f ∷ older) calls (b ∷ bs)
    → ((a : source.Activation) → ShowsCall p f (f ∷ older) a b
    → ShowsCall p f (f ∷ older) (record { values = slice_set a.values k x; arrays = a.arrays }) c)
    → ShowCalls p (f ∷ older) (with_youngest (record {
      values = slice_set (youngest calls).values k x;
      arrays = (youngest calls).arrays;
    }) calls) (c ∷ bs)
calls-set p f older [] b c bs k x h step = absurd h
calls-set p f older (a ∷ calls) b c bs k x h step = (step a h.0, h.1)

-- what holds of the youngest call of the source
of-youngest : (p : Program) (f : Function) (older : List Function) (calls : List source.Activation)
    (b : graph.Activation) (bs : List graph.Activation) → ShowCalls p (f ∷ older) calls (b ∷ bs)
    → ShowsCall p f (f ∷ older) (youngest calls) b
of-youngest p f older [] b bs h = absurd h
of-youngest p f older (a ∷ calls) b bs h = h.0

-- ---- temporaries

temporary-call : (p : Program) (f : Function) (active : List Function) (a : source.Activation) (b : graph.Activation)
    (v : ℕ) (x : Value) → local_variables f ≤ v → ShowsCall p f active a b
    → ShowsCall p f active a (changed b (slice_set b.variables v x))
temporary-call p f active a b v x high h = record {
  function = h.function;
  as_many = length-slice_set b.variables v x ∙ h.as_many;
  locals = locals-kept b.variables (slice_set b.variables v x) 0 f.locals a.values
      (λ j low below. get-set_other b.variables v j x (λ e. apart j v (local_variables f) e below high)) h.locals;
  values = h.values;
  arrays = h.arrays;
  counts = h.counts;
  fits = h.fits;
}
  where
    apart : (j v n : ℕ) → j ≡ v → j < 0 + n → n ≤ v → ⊥
    apart j v n e below high = omega (arith, e, below, high)

pub temporaries-free : TemporariesAreFree
temporaries-free p f older s g v x shows high = record {
  calls = calls-changed p f older s.active g.current (changed g.current (slice_set g.current.variables v x))
      (map (λ w. w.activation) g.waiting) shows.calls
      (λ a h. temporary-call p f (f ∷ older) a g.current v x high h);
  objects = shows.objects;
  counts = shows.counts;
  fits = shows.fits;
  left = shows.left;
  taken = shows.taken;
  written = shows.written;
}

-- ---- locals

pub locals-held : LocalsAreHeld
locals-held p f older s g k l shows e =
    let h = of-youngest p f older s.active g.current (map (λ w. w.activation) g.waiting) shows.calls in
    let plain : 0 + first_variable f.locals k ≡ first_variable f.locals k = omega arith in (
      subst (λ (i : ℕ). HoldsAt g.current.variables l.of (typed_spot l.of i) (held s k)) plain
          (local-held g.current.variables 0 f.locals (youngest s.active).values k l h.locals e),
      zip-index (λ m x. IsOf p (f ∷ older) m.of x) f.locals (youngest s.active).values k l (HoldsNumber (pos 0))
          h.values
          e,
    )

-- a local's variables are there
variables-there : (f : Function) (k : ℕ) (l : Local) (vs : List Value) → slice_get f.locals k ≡ Some l
    → length vs ≡ length (variable_widths f) → first_variable f.locals k + length (type_widths l.of) ≤ length vs
variables-there f k l vs e many =
    let inside = local-within f.locals k l e in
    let all = length-append (local_widths f.locals) (levels_widths (levels_of f)) in
    omega (arith, inside, all, many)

local-call : (p : Program) (f : Function) (active : List Function) (a : source.Activation) (b : graph.Activation)
    (k : ℕ) (l : Local) (x : Held) (ws : List Value) → slice_get f.locals k ≡ Some l → ShowsCall p f active a b
    → length ws ≡ length b.variables
    → HoldsAt ws l.of (typed_spot l.of (first_variable f.locals k)) x → IsOf p active l.of x
    → ((j : ℕ) → j < first_variable f.locals k → slice_get ws j ≡ slice_get b.variables j)
    → ((j : ℕ) → first_variable f.locals k + length (type_widths l.of) ≤ j
    → slice_get ws j ≡ slice_get b.variables j)
    → ShowsCall p f active (record { values = slice_set a.values k x; arrays = a.arrays }) (changed b ws)
local-call p f active a b k l x ws e h many new typed below above =
    let plain : 0 + first_variable f.locals k ≡ first_variable f.locals k = omega arith in
    record {
      function = h.function;
      as_many = many ∙ h.as_many;
      locals = local-set b.variables ws 0 f.locals a.values k l x h.locals e
          (subst (λ (i : ℕ). HoldsAt ws l.of (typed_spot l.of i) x) (sym plain) new)
          (λ j lt. below j (subst (λ (i : ℕ). j < i) plain lt))
          (λ j le. above j (subst (λ (i : ℕ). i + length (type_widths l.of) ≤ j) plain le));
      values = zip-set (λ m y. IsOf p active m.of y) f.locals a.values k l x h.values e typed;
      arrays = h.arrays;
      counts = h.counts;
      fits = h.fits;
    }

-- a number takes one variable
pub one-variable : (t : IntegerType) → length (type_widths (Integer t)) ≡ 1
one-variable Char = refl
one-variable Short = refl
one-variable Int = refl
one-variable UnsignedInt = refl

number-call : (p : Program) (f : Function) (active : List Function) (a : source.Activation) (b : graph.Activation)
    (k : ℕ) (l : Local) (t : IntegerType) (n : ℤ) → slice_get f.locals k ≡ Some l → l.of ≡ Integer t
    → ShowsCall p f active a b
    → ShowsCall p f active (record { values = slice_set a.values k (HoldsNumber n); arrays = a.arrays })
    (changed b (slice_set b.variables (first_variable f.locals k) (Number n)))
number-call p f active a b k l t n e of h =
    let v = first_variable f.locals k in
    let width : length (type_widths l.of) ≡ 1 = ap (λ (m : ValueType). length (type_widths m)) of ∙ one-variable t in
    let there = variables-there f k l b.variables e h.as_many in
    local-call p f active a b k l (HoldsNumber n) (slice_set b.variables v (Number n)) e h
    (length-slice_set b.variables v (Number n))
    (subst (λ (m : ValueType). HoldsAt (slice_set b.variables v (Number n)) m (typed_spot m v) (HoldsNumber n)) (sym of)
    (get-set_same b.variables v (Number n) (omega (arith, width, there))))
    (subst (λ (m : ValueType). IsOf p active m (HoldsNumber n)) (sym of) tt)
    (λ j lt. get-set_other b.variables v j (Number n) (λ same. omega (arith, lt, same)))
    (λ j le. get-set_other b.variables v j (Number n) (λ same. omega (arith, le, same, width)))

pub numbers-set : NumbersAreSet
numbers-set p f older s g k l t n shows e of = record {
  calls = calls-set p f older s.active g.current
      (changed g.current (slice_set g.current.variables (first_variable f.locals k) (Number n)))
      (map (λ w. w.activation) g.waiting) k (HoldsNumber n) shows.calls
      (λ a h. number-call p f (f ∷ older) a g.current k l t n e of h);
  objects = shows.objects;
  counts = shows.counts;
  fits = shows.fits;
  left = shows.left;
  taken = shows.taken;
  written = shows.written;
}

-- a pointer takes two
pointer-call : (p : Program) (f : Function) (active : List Function) (a : source.Activation) (b : graph.Activation)
    (k : ℕ) (l : Local) (t : IntegerType) (array : ArrayName) (index : ℤ) → slice_get f.locals k ≡ Some l
    → l.of ≡ Pointer t → IsArrayOf p active t array → ShowsCall p f active a b
    → ShowsCall p f active (record { values = slice_set a.values k (HoldsPointer array index); arrays = a.arrays })
    (changed b (slice_set (slice_set b.variables (first_variable f.locals k) (array_value array))
    (suc (first_variable f.locals k)) (Number index)))
pointer-call p f active a b k l t array index e of is h =
    let v = first_variable f.locals k in
    let us = slice_set b.variables v (array_value array) in
    let ws = slice_set us (suc v) (Number index) in
    let width : length (type_widths l.of) ≡ 2 = ap (λ (m : ValueType). length (type_widths m)) of in
    let there = variables-there f k l b.variables e h.as_many in
    let long = length-slice_set b.variables v (array_value array) in
    let at_array = get-set_other us (suc v) v (Number index) (λ same. omega (arith, same))
    ∙ get-set_same b.variables v (array_value array) (omega (arith, width, there)) in
    let at_index = get-set_same us (suc v) (Number index) (omega (arith, width, there, long)) in
    local-call p f active a b k l (HoldsPointer array index) ws e h
    (length-slice_set us (suc v) (Number index) ∙ long)
    (subst (λ (m : ValueType). HoldsAt ws m (typed_spot m v) (HoldsPointer array index)) (sym of) (at_array, at_index))
    (subst (λ (m : ValueType). IsOf p active m (HoldsPointer array index)) (sym of) is)
    (λ j lt. get-set_other us (suc v) j (Number index) (λ same. omega (arith, lt, same))
    ∙ get-set_other b.variables v j (array_value array) (λ same. omega (arith, lt, same)))
    (λ j le. get-set_other us (suc v) j (Number index) (λ same. omega (arith, le, same, width))
    ∙ get-set_other b.variables v j (array_value array) (λ same. omega (arith, le, same, width)))

pub pointers-set : PointersAreSet
pointers-set p f older s g k l t array index shows e of is = record {
  calls = calls-set p f older s.active g.current
      (changed g.current (slice_set (slice_set g.current.variables (first_variable f.locals k) (array_value array))
      (suc (first_variable f.locals k)) (Number index)))
      (map (λ w. w.activation) g.waiting) k (HoldsPointer array index) shows.calls
      (λ a h. pointer-call p f (f ∷ older) a g.current k l t array index e of is h);
  objects = shows.objects;
  counts = shows.counts;
  fits = shows.fits;
  left = shows.left;
  taken = shows.taken;
  written = shows.written;
}

-- ---- streams, and what isn't shown

pub bytes-written : BytesAreWritten
bytes-written p active s g byte shows = record {
  calls = shows.calls;
  objects = shows.objects;
  counts = shows.counts;
  fits = shows.fits;
  left = shows.left;
  taken = shows.taken;
  written = ap (λ (w : List ℕ). w ++ byte ∷ []) shows.written;
}

pub bytes-taken : BytesAreTaken
bytes-taken p active s g bytes shows = record {
  calls = shows.calls;
  objects = shows.objects;
  counts = shows.counts;
  fits = shows.fits;
  left = refl;
  taken = ap (λ (n : ℕ). n + 1) shows.taken;
  written = shows.written;
}

pub turns-free : TurnsAndVisitsAreFree
turns-free p active s g turns visits block point shows = record {
  calls = shows.calls;
  objects = shows.objects;
  counts = shows.counts;
  fits = shows.fits;
  left = shows.left;
  taken = shows.taken;
  written = shows.written;
}

-- ---- what lines keep

waiting-twice : (us vs ws : List graph.Waiting) → AllZip SameWaiting us vs → AllZip SameWaiting vs ws
    → AllZip SameWaiting us ws
waiting-twice [] [] [] a b = tt
waiting-twice [] [] (w ∷ ws) a b = absurd b
waiting-twice [] (v ∷ vs) ws a b = absurd a
waiting-twice (u ∷ us) [] ws a b = absurd a
waiting-twice (u ∷ us) (v ∷ vs) [] a b = absurd b
waiting-twice (u ∷ us) (v ∷ vs) (w ∷ ws) a b = (
  record {
    function = b.0.function ∙ a.0.function;
    arguments = b.0.arguments ∙ a.0.arguments;
    variables = b.0.variables ∙ a.0.variables;
    block = b.0.block ∙ a.0.block;
    point = b.0.point ∙ a.0.point;
  },
  waiting-twice us vs ws a.1 b.1,
)

pub kept-none : (first level : ℕ) (g : graph.State) → Keeps first level g g
kept-none first level g = record {
  function = refl;
  arguments = refl;
  temporaries = λ v low below. refl;
  waiting = waiting-refl g.waiting;
}

pub kept-twice : KeptTwice
kept-twice first level g h i a b = record {
  function = b.function ∙ a.function;
  arguments = b.arguments ∙ a.arguments;
  temporaries = λ v low below. b.temporaries v low below ∙ a.temporaries v low below;
  waiting = waiting-twice g.waiting h.waiting i.waiting a.waiting b.waiting;
}

pub kept-below : KeptBelow
kept-below first level other g h le a = record {
  function = a.function;
  arguments = a.arguments;
  temporaries = λ v low below. a.temporaries v low (higher first level other v le below);
  waiting = a.waiting;
}
  where
    higher : (first level other v : ℕ) → level ≤ other → v < first + level * 5 → v < first + other * 5
    higher first level other v le below = omega (arith, le, below)

-- another variable has a value
value-kept : (first level v : ℕ) (x : Value) (g : graph.State)
    → ((j : ℕ) → first ≤ j → j < first + level * 5 → j ≢ v) → Keeps first level g (with_value v x g)
value-kept first level v x g other = record {
  function = refl;
  arguments = refl;
  temporaries = λ j low below. get-set_other g.current.variables v j x (other j low below);
  waiting = waiting-refl g.waiting;
}

pub kept-by-change : KeptByChange
kept-by-change first level v x g = (
  λ below. value-kept first level v x g (λ j low high e. low-apart j v first below low e),
  λ above. value-kept first level v x g (λ j low high e. high-apart j v (first + level * 5) above high e),
)
  where
    low-apart : (j v first : ℕ) → v < first → first ≤ j → j ≡ v → ⊥
    low-apart j v first below low e = omega (arith, below, low, e)

    high-apart : (j v top : ℕ) → top ≤ v → j < top → j ≡ v → ⊥
    high-apart j v top above high e = omega (arith, above, high, e)
