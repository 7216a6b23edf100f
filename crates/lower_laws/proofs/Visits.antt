-- The visit of a mark: the variables that it shows hold what the source shows of its locals.
use Rattle.std.proofs.Common.{◌≡◌, ℕ, zero, suc, ◌+◌, List, [], ◌∷◌, ◌++◌, length, map, Option, Some}
use Rattle.std.proofs.Common.{refl, sym, ap, ◌∙◌, subst, arith}
use Rattle.std.specs.Prelude.{slice_get}
use Rattle.std.specs.List.{AllByRecursion}
use Rattle.std.proofs.lemmas.Option.{same_Some}
use Rattle.pcc_base.specs.Outcome.{ArrayName, Null, Static, InFrame, Unknown, Value, Number, Array, Part, Scalar}
use Rattle.pcc_base.specs.Outcome.{ArrayOf, IndexOf, Visit, after_visits}
use Rattle.c_tree.specs.declared.types.ValueType.{ValueType}
use Rattle.c_tree.specs.declared.types.ValueType.TheVariants.{Void, Integer, Pointer}
use Rattle.c_tree.specs.Program.{Local, Function, Program}
use Rattle.c_tree.specs.Store as source
use Rattle.c_tree.specs.Store.{Held, HoldsNumber, HoldsPointer, visited, youngest}
use Rattle.flow_graph.specs.declared.op.Op.TheVariants as op
use Rattle.flow_graph.specs.Running as running
use Rattle.flow_graph.specs.Running.{array_or_unknown, number_or_unknown, visits_of}
use Rattle.flow_graph.specs.States as graph
use Rattle.flow_graph.specs.States.{array_from, number_of}
use Rattle.lower_lines.specs.Following.{Begins, Comes, IsSite, Site, Stand, behind}
use Rattle.lower_lines.specs.Laws.{IsOwn}
use Rattle.lower_lines.specs.Lines.{Line, Emit}
use Rattle.lower_lines.specs.Relation.{HoldLocals, HoldsAt, ShowCalls, array_value}
use Rattle.lower_lines.specs.Shown.{IsPartOf, first_variable, type_widths, variable_part}
use Rattle.lower_lines.specs.Shown.{IsInteger, IsPointer}
use Rattle.lower_lines.specs.Variables.{typed_spot}
use Rattle.lower_lines.proofs.Steps.{mark-step, shown_by}
use Rattle.lower_laws.proofs.Going.{Goes}

-- a local is there, and its variables hold it
local-there : (vs : List Value) (v : ℕ) (ls : List Local) (xs : List Held) (k : ℕ) (l : Local)
    → HoldLocals vs v ls xs → slice_get ls k ≡ Some l
    → (x : Held) × (slice_get xs k ≡ Some x) × HoldsAt vs l.of (typed_spot l.of (v + first_variable ls k)) x
local-there vs v [] [] k l h e = absurd (cc)
local-there vs v [] (x ∷ xs) k l h e = absurd h
local-there vs v (m ∷ ls) [] k l h e = absurd h
local-there vs v (m ∷ ls) (x ∷ xs) zero l h e =
    let plain : v ≡ v + 0 = omega arith in (
      x,
      refl,
      subst (λ (i : ℕ). HoldsAt vs l.of (typed_spot l.of i) x) plain
          (subst (λ (n : Local). HoldsAt vs n.of (typed_spot n.of v) x) (same_Some m l e) h.0),
    )
local-there vs v (m ∷ ls) (x ∷ xs) (suc k) l h e =
    let sum : v + length (type_widths m.of) + first_variable ls k
    ≡ v + (length (type_widths m.of) + first_variable ls k) = omega arith in
    let (y, is, holds) = local-there vs (v + length (type_widths m.of)) ls xs k l h.1 e in
    (y, is, subst (λ (i : ℕ). HoldsAt vs l.of (typed_spot l.of i) y) sum holds)

-- a number's variable, and a pointer's two
number-shown : (vs : List Value) (of : ValueType) (v : ℕ) (x : Held) → IsInteger of → HoldsAt vs of (typed_spot of v) x
    → number_or_unknown (number_of (slice_get vs v)) ≡ Number (source.number_held (Some x))
number-shown vs Void v x is h = absurd is
number-shown vs (Integer t) v (HoldsNumber n) is h = ap (λ (o : Option Value). number_or_unknown (number_of o)) h
number-shown vs (Integer t) v (HoldsPointer array index) is h = absurd h
number-shown vs (Pointer t) v x is h = absurd is

index-shown : (vs : List Value) (of : ValueType) (v : ℕ) (x : Held) → IsPointer of → HoldsAt vs of (typed_spot of v) x
    → number_or_unknown (number_of (slice_get vs (suc v))) ≡ Number (source.number_held (Some x))
index-shown vs Void v x is h = absurd is
index-shown vs (Integer t) v x is h = absurd is
index-shown vs (Pointer t) v (HoldsNumber n) is h = absurd h
index-shown vs (Pointer t) v (HoldsPointer array index) is h =
    ap (λ (o : Option Value). number_or_unknown (number_of o)) h.1

name-shown : (array : ArrayName) → array_or_unknown (array_from (Some (array_value array))) ≡ array
name-shown Null = refl
name-shown (Static k) = refl
name-shown (InFrame k depth) = refl
name-shown Unknown = refl

array-shown : (vs : List Value) (of : ValueType) (v : ℕ) (x : Held) → IsPointer of → HoldsAt vs of (typed_spot of v) x
    → array_or_unknown (array_from (slice_get vs v)) ≡ source.array_held (Some x)
array-shown vs Void v x is h = absurd is
array-shown vs (Integer t) v x is h = absurd is
array-shown vs (Pointer t) v (HoldsNumber n) is h = absurd h
array-shown vs (Pointer t) v (HoldsPointer array index) is h =
    ap (λ (o : Option Value). array_or_unknown (array_from o)) h.0 ∙ name-shown array

part-shown : (g : graph.State) (ls : List Local) (xs : List Held) (part : Part)
    → HoldLocals g.current.variables 0 ls xs → IsPartOf ls part
    → running.part_value g (variable_part ls part) ≡ source.part_value xs part
part-shown g ls xs (Scalar k) h (l, e, is) =
    let vs = g.current.variables in
    let v = first_variable ls k in
    let plain : 0 + v ≡ v = omega arith in
    let (x, there, holds) = local-there vs 0 ls xs k l h e in
    number-shown vs l.of v x is (subst (λ (i : ℕ). HoldsAt vs l.of (typed_spot l.of i) x) plain holds)
    ∙ ap (λ (o : Option Held). Number (source.number_held o)) (sym there)
part-shown g ls xs (ArrayOf k) h (l, e, is) =
    let vs = g.current.variables in
    let v = first_variable ls k in
    let plain : 0 + v ≡ v = omega arith in
    let (x, there, holds) = local-there vs 0 ls xs k l h e in
    ap Array (array-shown vs l.of v x is (subst (λ (i : ℕ). HoldsAt vs l.of (typed_spot l.of i) x) plain holds))
    ∙ ap (λ (o : Option Held). Array (source.array_held o)) (sym there)
part-shown g ls xs (IndexOf k) h (l, e, is) =
    let vs = g.current.variables in
    let v = first_variable ls k in
    let plain : 0 + v ≡ v = omega arith in
    let (x, there, holds) = local-there vs 0 ls xs k l h e in
    index-shown vs l.of v x is (subst (λ (i : ℕ). HoldsAt vs l.of (typed_spot l.of i) x) plain holds)
    ∙ ap (λ (o : Option Held). Number (source.number_held o)) (sym there)

parts-shown : (g : graph.State) (ls : List Local) (xs : List Held) (parts : List Part)
    → HoldLocals g.current.variables 0 ls xs → AllByRecursion (IsPartOf ls) parts
    → map (running.part_value g) (map (variable_part ls) parts) ≡ map (source.part_value xs) parts
parts-shown g ls xs [] h all = refl
parts-shown g ls xs (part ∷ parts) h all =
    ap (λ (x : Value). x ∷ map (running.part_value g) (map (variable_part ls) parts)) (part-shown g ls xs part h all.0)
    ∙ ap (λ (vs : List Value). source.part_value xs part ∷ vs) (parts-shown g ls xs parts h all.1)

youngest-holds : (p : Program) (f : Function) (active : List Function) (calls : List source.Activation)
    (b : graph.Activation) (bs : List graph.Activation) → slice_get active 0 ≡ Some f
    → ShowCalls p active calls (b ∷ bs)
    → HoldLocals b.variables 0 f.locals (youngest calls).values
youngest-holds p f [] calls b bs e h = absurd (cc)
youngest-holds p f (k ∷ older) [] b bs e h = absurd h
youngest-holds p f (k ∷ older) (a ∷ calls) b bs e h =
    subst (λ (m : Function). HoldLocals b.variables 0 m.locals a.values) (same_Some k f e) h.0.locals

-- the visit that the source makes
abbrev pub visit_of : Site → source.State → ℕ → Visit
visit_of S s n = record {
  statement = n;
  values = map (source.part_value (youngest s.active).values) (S.listing n);
}

-- a mark of the function shows what its source does
pub visit-shown : (S : Site) → IsSite S → (n : ℕ) → IsOwn S n → (active : List Function) (s : source.State)
    (g : graph.State) → Begins S active s g → visits_of (shown_by S) g (Some n) ≡ visit_of S s n ∷ []
visit-shown S site n own active s g b =
    let holds = youngest-holds S.program S.function active s.active g.current (map (λ w. w.activation) g.waiting)
    b.youngest b.shows.calls in
    ap (λ (ls : List Local). record {
      statement = n;
      values = map (running.part_value g) (map (variable_part ls) (S.listing n));
    } ∷ []) own
    ∙ ap (λ (vs : List Value). record { statement = n; values = vs } ∷ [])
    (parts-shown g S.function.locals (youngest s.active).values (S.listing n) holds
    (subst (λ (ls : List Local). AllByRecursion (IsPartOf ls) (S.listing n)) own (site.lists n)))

-- a mark leads behind it, with its visit
pub mark-goes : (S : Site) → IsSite S → (n : ℕ) → IsOwn S n → (active : List Function) (before : List Line)
    (s : source.State) (g : graph.State) → Begins S active s g → Stand S before (Emit (op.Mark n) ∷ [])
    → Goes S s.turns (behind before g) s.turns (behind (before ++ Emit (op.Mark n) ∷ []) g) (visit_of S s n ∷ [])
mark-goes S site n own active before s g b stands o r =
    subst (λ (vs : List Visit). Comes S s.turns (behind before g) (after_visits vs o)) (visit-shown S site n own
    active s g b)
    (mark-step S site before g b.function n s.turns o stands r)

-- the source is then behind its visit
pub visited-begins : (S : Site) (n : ℕ) (active : List Function) (s : source.State) (g : graph.State)
    → Begins S active s g → Begins S active (visited S.listing n s) g
visited-begins S n active s g b = record {
  shows = record {
    calls = b.shows.calls;
    objects = b.shows.objects;
    counts = b.shows.counts;
    fits = b.shows.fits;
    left = b.shows.left;
    taken = b.shows.taken;
    written = b.shows.written;
  };
  function = b.function;
  youngest = b.youngest;
  turns = b.turns;
}
