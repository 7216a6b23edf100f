-- What a call shows when it has begun, and when it is over.
use Rattle.std.proofs.Common.{◌≡◌, ℕ, zero, suc, ◌+◌, ◌<◌, ◌≤◌, pos, List, [], ◌∷◌, length, map}
use Rattle.std.proofs.Common.{Some, refl, sym, ap, ◌∙◌, subst, arith, length-append}
use Rattle.std.specs.Prelude.{slice_get}
use Rattle.std.specs.List.{AllZip}
use Rattle.std.proofs.Math.ListN.{length-replicate}
use Rattle.std.proofs.lemmas.List.{length-map}
use Rattle.pcc_base.specs.declared.run.Width.{Width}
use Rattle.pcc_base.specs.Outcome.{Value, Number}
use Rattle.c_tree.specs.declared.types.IntegerType.TheVariants.{Char, Short, Int, UnsignedInt}
use Rattle.c_tree.specs.declared.types.ValueType.{ValueType}
use Rattle.c_tree.specs.declared.types.ValueType.TheVariants.{Void, Integer, Pointer}
use Rattle.c_tree.specs.Program.{Function, Local, LocalArray, Program}
use Rattle.c_tree.specs.Store as source
use Rattle.c_tree.specs.Store.{first_values, zero_of}
use Rattle.c_tree.specs.Evaluation.{older}
use Rattle.flow_graph.specs.Graphs.{Flow}
use Rattle.flow_graph.specs.Meaning.{back_to}
use Rattle.flow_graph.specs.States as graph
use Rattle.lower_lines.specs.Following.{IsBack}
use Rattle.lower_lines.specs.Lowering.{array_of}
use Rattle.lower_lines.specs.Programs.{lowered}
use Rattle.lower_lines.specs.Relation.{AreNumbersOf, HoldLocals, HoldsAt, IsOf, SameWaiting, ShowCalls}
use Rattle.lower_lines.specs.Relation.{Shows}
use Rattle.lower_lines.specs.Shown.{local_widths, type_widths}
use Rattle.lower_lines.specs.Variables.{levels_of, levels_widths, typed_spot, variable_widths}
use Rattle.lower_lines.proofs.Arrays.{zeros-fit}
use Rattle.lower_lines.proofs.Points.{flow-there}
use Rattle.lower_laws.specs.CallsLaws.{CallsAreFresh, CallsGoBack, waiting_at}

-- ---- a call begins

-- variables that are all 0
zeros-there : (ws : List Width) (j : ℕ) → j < length ws
    → slice_get (map (λ width. Number (pos 0)) ws) j ≡ Some (Number (pos 0))
zeros-there [] j h = absurd (omega (arith, h))
zeros-there (w ∷ ws) zero h = refl
zeros-there (w ∷ ws) (suc j) h = zeros-there ws j (omega (arith, h))

-- a local that is 0 or null
zero-held : (vs : List Value) (of : ValueType) (v : ℕ)
    → ((j : ℕ) → v ≤ j → j < v + length (type_widths of) → slice_get vs j ≡ Some (Number (pos 0)))
    → HoldsAt vs of (typed_spot of v) (zero_of of)
zero-held vs Void v all = tt
zero-held vs (Integer Char) v all = all v (omega arith) (omega arith)
zero-held vs (Integer Short) v all = all v (omega arith) (omega arith)
zero-held vs (Integer Int) v all = all v (omega arith) (omega arith)
zero-held vs (Integer UnsignedInt) v all = all v (omega arith) (omega arith)
zero-held vs (Pointer t) v all = (all v (omega arith) (omega arith), all (suc v) (omega arith) (omega arith))

-- all locals
zeros-held : (vs : List Value) (v : ℕ) (ls : List Local)
    → ((j : ℕ) → v ≤ j → j < v + length (local_widths ls) → slice_get vs j ≡ Some (Number (pos 0)))
    → HoldLocals vs v ls (first_values ls [])
zeros-held vs v [] all = tt
zeros-held vs v (l ∷ ls) all =
    let more = length-append (type_widths l.of) (local_widths ls) in (
      zero-held vs l.of v (λ j a b. all j a (omega (arith, a, b, more))),
      zeros-held vs (v + length (type_widths l.of)) ls
          (λ j a b. all j (omega (arith, a)) (omega (arith, a, b, more))),
    )

-- they are of their types
zero-of : (p : Program) (active : List Function) (of : ValueType) → IsOf p active of (zero_of of)
zero-of p active Void = tt
zero-of p active (Integer t) = tt
zero-of p active (Pointer t) = tt

zeros-of : (p : Program) (active : List Function) (ls : List Local)
    → AllZip (λ l x. IsOf p active l.of x) ls (first_values ls [])
zeros-of p active [] = tt
zeros-of p active (l ∷ ls) = (zero-of p active l.of, zeros-of p active ls)

arrays-same : (xs : List LocalArray) → map graph.first_array (map array_of xs) ≡ map source.first_array xs
arrays-same [] = refl
arrays-same (a ∷ xs) = ap (λ ys. source.first_array a ∷ ys) (arrays-same xs)

arrays-many : (xs : List LocalArray)
    → map (λ elements. length elements) (map source.first_array xs) ≡ map (λ array. array.count) xs
arrays-many [] = refl
arrays-many (a ∷ xs) =
    ap (λ (n : ℕ). n ∷ map (λ elements. length elements) (map source.first_array xs)) (length-replicate a.count (pos 0))
    ∙ ap (λ (ns : List ℕ). a.count ∷ ns) (arrays-many xs)

arrays-zero : (xs : List LocalArray)
    → AllZip (λ array elements. AreNumbersOf array.element elements) xs (map source.first_array xs)
arrays-zero [] = tt
arrays-zero (a ∷ xs) = (zeros-fit a.element a.count, arrays-zero xs)

pub calls-fresh : CallsAreFresh
calls-fresh p k f active words at =
    let flow = flow-there p k f at in
    let widths : (graph.flow_at (lowered p) k).widths ≡ variable_widths f =
    ap (λ (w : Flow). w.widths) flow in
    let zeros = ap (λ (ws : List Width). map (λ width. Number (pos 0)) ws) widths in
    let all = length-append (local_widths f.locals) (levels_widths (levels_of f)) in
    record {
      function = at;
      as_many = ap (λ (vs : List Value). length vs) zeros
          ∙ length-map (variable_widths f) (λ width. Number (pos 0));
      locals = subst (λ (vs : List Value). HoldLocals vs 0 f.locals (first_values f.locals [])) (sym zeros)
          (zeros-held (map (λ width. Number (pos 0)) (variable_widths f)) 0 f.locals
          (λ j a b. zeros-there (variable_widths f) j (omega (arith, b, all))));
      values = zeros-of p active f.locals;
      arrays = ap (λ (w : Flow). map graph.first_array w.arrays) flow ∙ arrays-same f.arrays;
      counts = arrays-many f.arrays;
      fits = arrays-zero f.arrays;
    }

-- ---- a call is over

calls-below : (p : Program) (f : Function) (active : List Function) (calls : List source.Activation)
    (b : graph.Activation) (bs : List graph.Activation) → ShowCalls p (f ∷ active) calls (b ∷ bs)
    → ShowCalls p active (older calls) bs
calls-below p f active [] b bs h = absurd h
calls-below p f active (a ∷ calls) b bs h = h.1

back : (p : Program) (f : Function) (active : List Function) (s : source.State) (g h : graph.State)
    (waiting : List graph.Waiting) → h.waiting ≡ waiting
    → Shows p (f ∷ active) s h → AllZip SameWaiting (waiting_at g ∷ g.waiting) waiting
    → (w : graph.Waiting) × (ws : List graph.Waiting) × (h.waiting ≡ w ∷ ws) × IsBack g (back_to h w ws)
    × Shows p active (record s { active = older s.active }) (back_to h w ws)
back p f active s g h [] e shows same = absurd same
back p f active s g h (w ∷ ws) e shows same = (
  w,
  ws,
  e,
  record {
    function = same.0.function;
    arguments = same.0.arguments;
    variables = same.0.variables;
    block = same.0.block;
    point = same.0.point;
    waiting = same.1;
  },
  record {
    calls = calls-below p f active s.active h.current (map (λ v. v.activation) (w ∷ ws))
        (subst (λ (vs : List graph.Waiting). ShowCalls p (f ∷ active) s.active
        (h.current ∷ map (λ v. v.activation) vs)) e shows.calls);
    objects = shows.objects;
    counts = shows.counts;
    fits = shows.fits;
    left = shows.left;
    taken = shows.taken;
    written = shows.written;
  },
)

pub calls-back : CallsGoBack
calls-back p f active s g h shows same = back p f active s g h h.waiting refl shows same
