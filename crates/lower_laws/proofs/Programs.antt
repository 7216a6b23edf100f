-- Lowering keeps the outcome of a program, given the laws of bounds, bodies and expressions.
use Rattle.std.proofs.Common.{◌≡◌, ℕ, suc, false, ℤ, pos, negsuc, List, [], ◌∷◌, ◌++◌, length, map}
use Rattle.std.proofs.Common.{take, Option, Some, None, refl, sym, ap, ◌∙◌, subst, arith, append-nil}
use Rattle.std.specs.Prelude.{IsSomeAnd, option_map, slice_get, slice_index_or, ◌<ℤ◌, ◌≤ℤ◌}
use Rattle.std.proofs.lemmas.Int.{int_wrap_fits, ints}
use Rattle.std.proofs.lemmas.List.Elements.{All-tail}
use Rattle.std.specs.Int.{w8, w16}
use Rattle.std.specs.List.{All, AllZip}
use Rattle.std.proofs.lemmas.Bool.{false≢true}
use Rattle.pcc_base.specs.Objects.{FitsBytes}
use Rattle.c_tree.specs.declared.types.IntegerType.{IntegerType}
use Rattle.c_tree.specs.declared.types.IntegerType.TheVariants.{Char, Short, Int, UnsignedInt}
use Rattle.c_tree.specs.Sizes.{bytes_of}
use Rattle.pcc_base.specs.Outcome.{End, Ended, Listing, Outcome, Visit}
use Rattle.c_tree.specs.declared.types.ValueType.{ValueType}
use Rattle.c_tree.specs.Evaluation.{Left, Falls, Breaks, Continues, Returns, call_over, call_within, first_activation}
use Rattle.c_tree.specs.Evaluation.{first_state, low_byte, number_in, outcome_of, run_function, source_outcome}
use Rattle.c_tree.specs.Evaluation.{value_left}
use Rattle.c_tree.specs.Objects.{IsObject, data_object}
use Rattle.c_tree.specs.Program.{Function, Local, Program, StaticObject, int}
use Rattle.c_tree.specs.Store as source
use Rattle.c_tree.specs.Store.{Evaluated, Gives, Ends, Held, HoldsNumber, HoldsPointer, and_then, in_type, number_held}
use Rattle.c_tree.specs.Store.{turn_with}
use Rattle.c_tree.specs.WellTyped.{IsMain, WellTyped}
use Rattle.flow_graph.specs.declared.op.Op.TheVariants as op
use Rattle.flow_graph.specs.Meaning.{Moved, Moves, Stuck, at_point, returns_to}
use Rattle.flow_graph.specs.Meaning as meaning
use Rattle.flow_graph.specs.Running.{first_state as graph_state, outcome_at}
use Rattle.flow_graph.specs.States as graph
use Rattle.flow_graph.specs.States.{entry_of, first_state_at}
use Rattle.lower_lines.specs.Following.{Comes, ComesBack, ComesOf, Site, all_as_passed, behind, context_of, graphs_of}
use Rattle.lower_lines.specs.Following.{number_returned, parameters_in}
use Rattle.lower_lines.specs.Laws.{AllLinesClose, BodiesLower, ExpressionsLower, LinesClose, site_within}
use Rattle.lower_lines.specs.Lines.{Start, Emit}
use Rattle.lower_lines.specs.Programs.{body_run, lowered, no_exits, parameters_lines}
use Rattle.lower_lines.specs.Relation.{AreNumbersOf, IsNumberOf, IsOf, SameWaiting, Shows}
use Rattle.lower_lines.specs.Shown.{ListsLocals}
use Rattle.lower_lines.specs.Statements.{Leaves}
use Rattle.lower_lines.specs.Words.{IsInMemory}
use Rattle.lower_lines.proofs.Points.{starts-stand}
use Rattle.lower_laws.specs.CallsLaws.{IsLeft, ProgramsLowerSo, all_words_passed}
use Rattle.lower_laws.proofs.Beginning.{calls-fresh}
use Rattle.lower_laws.proofs.Calls.{FollowsBegun, begun, body_of, calls-follow, returned_by, site-there, turn-over}

-- ---- the first state

-- where a state at a point is one, it is at that point
point-of : (point : Option ℕ) (block : ℕ) (g h : graph.State) → at_point block g point ≡ Moves h
    → point ≡ Some h.point
point-of None block g h e = absurd (cc)
point-of (Some x) block g h e =
    ap (λ (s : graph.State). Some s.point) (same (record g { block = block; point = x }) h e)
  where
    same : (a b : graph.State) → Moves a ≡ Moves b → a ≡ b
    same a b e = cc

objects-same : (os : List StaticObject)
    → map (λ object. object.elements) (map data_object os) ≡ map (λ o. o.elements) os
objects-same [] = refl
objects-same (o ∷ os) = ap (λ (es : List (List ℤ)). o.elements ∷ es) (objects-same os)

objects-many : (os : List StaticObject)
    → map (λ elements. length elements) (map (λ o. o.elements) os) ≡ map (λ o. length o.elements) os
objects-many [] = refl
objects-many (o ∷ os) = ap (λ (ns : List ℕ). length o.elements ∷ ns) (objects-many os)

-- numbers of so many bytes are numbers of the type
bytes-fit : (t : IntegerType) (n : ℤ) → FitsBytes (bytes_of t) n → IsNumberOf t n
bytes-fit Char (pos m) h =
    let top : pos m <ℤ pos 0x80 = h.1 in int_wrap_fits w8 (pos m) (record { sfits = omega (arith, ints, top) })
bytes-fit Char (negsuc m) h =
    let low : negsuc 0x7f ≤ℤ negsuc m = h.0 in
    int_wrap_fits w8 (negsuc m) (record { sfits = omega (arith, ints, low) })
bytes-fit Short (pos m) h =
    let top : pos m <ℤ pos 0x8000 = h.1 in int_wrap_fits w16 (pos m) (record { sfits = omega (arith, ints, top) })
bytes-fit Short (negsuc m) h =
    let low : negsuc 0x7fff ≤ℤ negsuc m = h.0 in
    int_wrap_fits w16 (negsuc m) (record { sfits = omega (arith, ints, low) })
bytes-fit Int n h = refl
bytes-fit UnsignedInt n h = refl

objects-fit : (os : List StaticObject) → All IsObject (map data_object os)
    → AllZip (λ o elements. AreNumbersOf o.element elements) os (map (λ o. o.elements) os)
objects-fit [] h = tt
objects-fit (o ∷ os) h = (
  λ k d low. bytes-fit o.element (slice_index_or o.elements k d)
      ((h 0 (data_object o) (omega arith)).elements k d low),
  objects-fit os (All-tail IsObject (data_object o) (map data_object os) h),
)

-- ---- the outcome

nothing-waits : (ws : List graph.Waiting) → AllZip SameWaiting [] ws → ws ≡ []
nothing-waits [] h = refl
nothing-waits (w ∷ ws) h = absurd h

-- an outcome by its parts
abbrev outcome_with : List Visit → ℕ → List ℕ → End → Outcome
outcome_with visits taken written end = record { visits = visits; taken = taken; written = written; end = end }

outcomes-same : (vs ws : List Visit) (m n : ℕ) (a b : List ℕ) (c d : End) → vs ≡ ws → m ≡ n → a ≡ b → c ≡ d
    → outcome_with vs m a c ≡ outcome_with ws n b d
outcomes-same vs ws m n a b c d e f g h =
    ap (λ (us : List Visit). outcome_with us m a c) e ∙ ap (λ (k : ℕ). outcome_with ws k a c) f
    ∙ ap (λ (z : List ℕ). outcome_with ws n z c) g ∙ ap (outcome_with ws n b) h

in-int : (x : Held) → number_held (Some (in_type int x)) ≡ number_in (in_type int x)
in-int (HoldsNumber n) = refl
in-int (HoldsPointer array index) = refl

-- `main` returns the number that the exit status is of
number-left : (left : Left) → IsLeft int false false left → number_held (returned_by left) ≡ number_in (value_left left)
number-left Falls is = refl
number-left Breaks is = absurd (false≢true is)
number-left Continues is = absurd (false≢true is)
number-left (Returns None) is = refl
number-left (Returns (Some value)) (x, e) =
    subst (λ (y : Held). number_held (Some y) ≡ number_in y) (sym e) (in-int x)

module _ (S : Site) (s : source.State) (g : graph.State) (main : S.function.result ≡ int) (alone : g.waiting ≡ [])
    (unseen : s.visits ≡ []) where
  -- where no call waits, the program ends with what `main` returns
  ends-with : (h : graph.State) (turns : ℕ) (value : Option Held) → h.waiting ≡ []
      → ComesBack S turns h value (outcome_at h (Ended (meaning.low_byte (number_held value))))
  ends-with h turns value e =
      let o = outcome_at h (Ended (meaning.low_byte (number_held value))) in
      subst (λ (ws : List graph.Waiting). ComesOf S turns h (returns_to (graphs_of S) h ws
      (number_returned S.function.result value)) o) (sym e)
      (subst (λ (of : ValueType). ComesOf S turns h (returns_to (graphs_of S) h [] (number_returned of value)) o)
      (sym main) refl)

  outcome-comes : (r : Evaluated Left) → FollowsBegun S [] s g r
      → Comes S s.turns (behind (Start 0 ∷ []) g) (outcome_of (and_then r call_over))
  outcome-comes (Gives left t) (h, visits, shows, waiting, is, more, comes) =
      let none = nothing-waits h.waiting
      (subst (λ (ws : List graph.Waiting). AllZip SameWaiting ws h.waiting) alone waiting) in
      let n = number_held (returned_by left) in
      let status = number-left left (subst (λ (of : ValueType). IsLeft of false false left) main is) in
      let seen : visits ++ [] ≡ t.visits =
      append-nil visits ∙ ap (λ (vs : List Visit). vs ++ visits) (sym unseen) ∙ sym more in
      subst (λ (o : Outcome). Comes S s.turns (behind (Start 0 ∷ []) g) o)
      (outcomes-same (visits ++ []) t.visits h.taken t.taken h.written t.written (Ended (meaning.low_byte n))
      (Ended (low_byte (value_left left))) seen shows.taken shows.written
      (ap (λ (m : ℤ). Ended (meaning.low_byte m)) status))
      (comes (outcome_at h (Ended (meaning.low_byte n))) (ends-with h t.turns (returned_by left) none))
  outcome-comes (Ends end t) (visits, more, comes) =
      let seen : visits ≡ t.visits = ap (λ (vs : List Visit). vs ++ visits) (sym unseen) ∙ sym more in
      subst (λ (vs : List Visit). Comes S s.turns (behind (Start 0 ∷ []) g)
      (record { visits = vs; taken = t.taken; written = t.written; end = end })) seen comes

-- ---- programs

some-and : {X : Type 0} (P : X → Type 0) (o : Option X) → IsSomeAnd o P → (x : X) × (o ≡ Some x) × P x
some-and P None h = absurd h
some-and P (Some x) h = (x, refl, h)

-- `main` has no arguments
no-words : (n : ℕ) (ls : List Local) → n ≡ 0
    → [] ≡ all_words_passed (map (λ l. l.of) (take n ls)) (all_as_passed (take n ls) [])
no-words n ls e = subst (λ (k : ℕ). [] ≡ all_words_passed (map (λ l. l.of) (take k ls)) (all_as_passed (take k ls) []))
    (sym e) refl

no-types : (R : ValueType → Held → Type 0) (n : ℕ) (ls : List Local) → n ≡ 0
    → AllZip R (map (λ l. l.of) (take n ls)) (all_as_passed (take n ls) [])
no-types R n ls e = subst (λ (k : ℕ). AllZip R (map (λ l. l.of) (take k ls)) (all_as_passed (take k ls) [])) (sym e) tt

module _ (p : Program) (listing : Listing) (typed : WellTyped p) (memory : IsInMemory p)
    (lists : ListsLocals p listing) (close : LinesClose p) (bodies : BodiesLower)
    (expressions : ExpressionsLower) (input : List ℕ) (turns : ℕ) (f : Function)
    (at : slice_get p.functions p.main ≡ Some f) (is : IsMain f) where
  abbrev site : Site
  site = site_within turns p listing p.main f

  -- the first states of both
  abbrev begins : source.State
  begins = first_state p input turns

  abbrev start : graph.State
  start = first_state_at (lowered p) input 0

  shown : Shows p (f ∷ []) (record begins { active = first_activation f [] ∷ [] }) start
  shown = record {
    calls = (calls-fresh p p.main f (f ∷ []) [] at, tt);
    objects = objects-same p.objects;
    counts = objects-many p.objects;
    fits = objects-fit p.objects typed.objects;
    left = refl;
    taken = refl;
    written = refl;
  }

  -- the graphs begin there
  starts : graph_state (lowered p) input ≡ Some start
  starts =
      let there = starts-stand site
      (site-there p listing typed memory lists close bodies expressions turns p.main f at) [] 0
      start (
        Emit op.Turn ∷ (parameters_lines (context_of site) (parameters_in f) 0 0
            ++ (body_run (context_of site)).lines no_exits 1 Leaves),
        refl,
      ) refl in
      ap (option_map (first_state_at (lowered p) input)) (point-of (entry_of (lowered p) p.main 0) 0 start
      (behind (Start 0 ∷ []) start) (there.0 ∙ ap Moves there.1))

  runs : Comes site turns start (source_outcome p listing input turns)
  runs =
      let go : source.State → Evaluated Left = λ t. body_of p listing typed memory lists close bodies expressions turns
      (suc turns) f (record t { active = first_activation f [] ∷ t.active }) in
      subst (λ (o : Option Function). Comes site turns start
      (outcome_of (run_function (call_within turns p listing) (suc turns) listing o [] begins))) (sym at)
      (subst (λ (r : Evaluated Held). Comes site turns start (outcome_of r)) (turn-over turns begins go)
      (outcome-comes site begins start is.0 refl refl (turn_with turns begins go)
      (begun p listing typed memory lists close bodies expressions turns (suc turns) p.main f at (omega arith)
      (calls-follow p listing typed memory lists close bodies expressions turns p.main f at) [] [] begins start turns
      refl
      (omega arith) refl (no-words f.parameters f.locals is.1) (no-types (IsOf p []) f.parameters f.locals is.1)
      shown)))

pub programs-lower : AllLinesClose → BodiesLower → ProgramsLowerSo
programs-lower all bodies expressions p typed memory listing lists input turns =
    let m = some-and IsMain (slice_get p.functions p.main) typed.main in
    let close = all p typed in
    let comes = runs p listing typed memory lists close bodies expressions input turns m.0 m.1 m.2 in (
      start p listing typed memory lists close bodies expressions input turns m.0 m.1 m.2,
      starts p listing typed memory lists close bodies expressions input turns m.0 m.1 m.2,
      comes.0,
      comes.1,
    )
