-- A compiled image never stops: it ends as the graphs do, none of whose steps ends in a stop.
use Rattle.std.proofs.Common.{◌≡◌, ◌+◌, ◌-◌, ℕ, zero, suc, ℤ, List, [], ◌∷◌, Bool, true, false, Option, Some, None}
use Rattle.std.proofs.Common.{sym, ap, ◌∙◌, subst, arith}
use Rattle.std.specs.Prelude.{◌==◌, ◌++◌, ⊤, pos, negsuc, length, replicate, slice_get, option_map, nat_le}
use Rattle.std.specs.Prelude.{if◌then◌else◌, int_div, int_rem}
use Rattle.pcc_base.specs.Outcome as outcome
use Rattle.pcc_base.specs.Outcome.{End, Listing, Outcome, Visit, after_visits, Value, Number, ArrayName, Null, Static}
use Rattle.pcc_base.specs.Outcome.{InFrame, Unknown}
use Rattle.c_tree.specs.Program.{Program}
use Rattle.c_tree.specs.Evaluation.{source_outcome}
use Rattle.pcc_base.specs.declared.run.Trap.TheVariants.{Check}
use Rattle.flow_graph.specs.declared.op.Bits.{Bits}
use Rattle.flow_graph.specs.declared.op.Op.{Op}
use Rattle.flow_graph.specs.declared.op.Op.TheVariants as op
use Rattle.flow_graph.specs.Meaning.{Moved, Moves, Halts, Stuck, step, act, at_point, given, onward, into_block, sets}
use Rattle.flow_graph.specs.Meaning.{of_width, accessed, checked, loads, stores, scalar_of, calls, most_active, resumes}
use Rattle.flow_graph.specs.Meaning.{result_to, ends_program, returns_to, gets, no_quotient, no_unsigned_quotient}
use Rattle.flow_graph.specs.Meaning.{divided_unless, two_numbers, one_number, comparison, ordering, bytes_of, enters}
use Rattle.flow_graph.specs.Meaning.{unsigned_quotient, unsigned_remainder, values_at}
use Rattle.flow_graph.specs.Meaning.{low_byte, stored}
use Rattle.flow_graph.specs.States.{with_array, with_element}
use Rattle.flow_graph.specs.declared.op.Comparison.TheVariants.{Eq}
use Rattle.flow_graph.specs.Running.{GraphOutcome, outcome_from, run_within, takes_turn, visits_at}
use Rattle.flow_graph.specs.Running.{with_turn}
use Rattle.flow_graph.specs.Shapes.{Leads, Onward, IntoCall, ToBlock, ToEither, OutOfCall, OutOfProgram, shape}
use Rattle.flow_graph.specs.States.{GraphProgram, State, Waiting, Elements, op_at, op_of, entry_of, point_after}
use Rattle.flow_graph.specs.States.{first_activation, number_at, value_at, array_at, depth_of, elements_of, element_at}
use Rattle.lower_lines.specs.Lowering.{KeepsOutcome}
use Rattle.lower_lines.specs.Shown.{ListsLocals, variables_shown}
use Rattle.ia32_insn.specs.State as machine
use Rattle.ia32_insn.specs.Runs.{Runs, no_visits}
use Rattle.ia32_insn.proofs.Runs.{run_once, runs_more}
use Rattle.ia32_machine.proofs.First.{first-one}
use Rattle.map_lines.specs.MapLaws.{MapListsLocals}
use Rattle.map_text.specs.Marks.{listed, visits_of}
use Rattle.pcc_driver.specs.Stops.{ImagesNeverStop}
use Rattle.pcc_driver.proofs.OneEnd.{unseen}

-- the end is no stop
abbrev IsNoStop : End → Type 0
IsNoStop (outcome.Stopped cause address) = ⊥
IsNoStop (outcome.Ended status) = ⊤
IsNoStop (outcome.Trapped trap) = ⊤
IsNoStop outcome.Goes = ⊤

-- ---- a step of a graph doesn't end in a stop

abbrev StopsNot : Moved → Type 0
StopsNot (Moves s) = ⊤
StopsNot (Halts end) = IsNoStop end
StopsNot Stuck = ⊤

at-stops : (block : ℕ) (s : State) (o : Option ℕ) → StopsNot (at_point block s o)
at-stops block s None = tt
at-stops block s (Some point) = tt

given-stops : {A : Type 0} (o : Option A) (go : A → Moved) → ((x : A) → StopsNot (go x)) → StopsNot (given o go)
given-stops None go h = tt
given-stops (Some x) go h = h x

either-stops : (b : Bool) (m n : Moved) → StopsNot m → StopsNot n → StopsNot (if b then m else n)
either-stops true m n h k = h
either-stops false m n h k = k

checked-stops : (o : Option ℤ) (go : ℤ → Moved) → ((n : ℤ) → StopsNot (go n)) → StopsNot (checked o go)
checked-stops None go h = tt
checked-stops (Some n) go h = h n

ends-stops : (n : Option ℤ) → StopsNot (ends_program n)
ends-stops None = tt
ends-stops (Some n) = tt

module _ (program : GraphProgram) where
  onward-stops : (s : State) → StopsNot (onward program s)
  onward-stops s = at-stops s.block s (point_after program s.current.function s.block s.point)

  into-stops : (block : ℕ) (s : State) → StopsNot (into_block program block s)
  into-stops block s = at-stops block s (entry_of program s.current.function block)

  sets-stops : (s : State) (d : ℕ) (value : Value) → StopsNot (sets program s d value)
  sets-stops s d value = onward-stops _

  one-stops : (s : State) (d a : ℕ) (f : ℤ → ℤ) → StopsNot (one_number program s d a f)
  one-stops s d a f = given-stops (number_at s a) _ (λ x. sets-stops s d _)

  two-stops : (s : State) (d a b : ℕ) (f : ℤ → ℤ → ℤ) → StopsNot (two_numbers program s d a b f)
  two-stops s d a b f =
      given-stops (number_at s a) _ (λ x. given-stops (number_at s b) _ (λ y. sets-stops s d _))

  divided-stops : (s : State) (traps : ℤ → ℤ → Bool) (d a b : ℕ) (f : ℤ → ℤ → ℤ)
      → StopsNot (divided_unless traps program s d a b f)
  divided-stops s traps d a b f =
      given-stops (number_at s a) _ (λ x. given-stops (number_at s b) _
      (λ y. either-stops (traps x y) _ _ tt (sets-stops s d _)))

  width-stops : (bits : Bits) (array : Elements) (go : List ℤ → Moved) → ((ns : List ℤ) → StopsNot (go ns))
      → StopsNot (of_width bits array go)
  width-stops bits array go h = either-stops (array.0 == bytes_of bits) (go array.1) Stuck (h array.1) tt

  accessed-stops : (s : State) (bits : Bits) (array : ArrayName) (go : List ℤ → Moved)
      → ((ns : List ℤ) → StopsNot (go ns)) → StopsNot (accessed program s bits array go)
  accessed-stops s bits Null go h = tt
  accessed-stops s bits (Static k) go h = given-stops (elements_of program s (Static k)) _
      (λ elements. width-stops bits elements go h)
  accessed-stops s bits (InFrame k depth) go h = given-stops (elements_of program s (InFrame k depth)) _
      (λ elements. width-stops bits elements go h)
  accessed-stops s bits Unknown go h = given-stops (elements_of program s Unknown) _
      (λ elements. width-stops bits elements go h)

  loads-stops : (s : State) (bits : Bits) (d : ℕ) (array : ArrayName) (i : ℤ)
      → StopsNot (loads program s bits d array i)
  loads-stops s bits d array i =
      accessed-stops s bits array
      (λ elements. checked (element_at elements i) (λ n. sets program s d (Number n)))
      (λ elements. checked-stops (element_at elements i) (λ n. sets program s d (Number n))
      (λ n. sets-stops s d (Number n)))

  stores-stops : (s : State) (bits : Bits) (array : ArrayName) (i n : ℤ) → StopsNot (stores program s bits array i n)
  stores-stops s bits array i n =
      let after : List ℤ → Moved =
      λ elements. onward program (with_array array (with_element elements i (stored bits n)) s) in
      accessed-stops s bits array (λ elements. checked (element_at elements i) (λ old. after elements))
      (λ elements. checked-stops (element_at elements i) (λ old. after elements)
      (λ old. onward-stops (with_array array (with_element elements i (stored bits n)) s)))

  scalar-stops : (s : State) (bits : Bits) (k : ℕ) (go : List ℤ → ℤ → Moved)
      → ((ns : List ℤ) (n : ℤ) → StopsNot (go ns n)) → StopsNot (scalar_of program s bits k go)
  scalar-stops s bits k go h = given-stops (elements_of program s (Static k)) _
      (λ elements. width-stops bits elements (λ ns. given (slice_get ns 0) (go ns))
      (λ ns. given-stops (slice_get ns 0) (go ns) (h ns)))

  enters-stops : (s : State) (f : ℕ) (values : List Value) → StopsNot (enters program s f values)
  enters-stops s f values =
      into-stops 0 (record s {
        current = first_activation program f values;
        waiting = record { activation = s.current; block = s.block; point = s.point } ∷ s.waiting;
      })

  calls-stops : (s : State) (f : ℕ) (arguments : List ℕ) → StopsNot (calls program s f arguments)
  calls-stops s f arguments = given-stops (values_at s arguments) _ (λ values.
      either-stops (nat_le most_active (depth_of s)) (Halts (outcome.Trapped Check)) (enters program s f values) tt
      (enters-stops s f values))

  resumes-stops : (s : State) (leads : Leads) (n : Option ℤ) → StopsNot (resumes program s leads n)
  resumes-stops s (IntoCall None words) n = onward-stops s
  resumes-stops s (IntoCall (Some d) words) None = tt
  resumes-stops s (IntoCall (Some d) words) (Some n) = sets-stops s d _
  resumes-stops s Onward n = tt
  resumes-stops s (ToBlock x) n = tt
  resumes-stops s (ToEither x y) n = tt
  resumes-stops s OutOfCall n = tt
  resumes-stops s OutOfProgram n = tt

  result-stops : (s : State) (n : Option ℤ) (o : Option Op) → StopsNot (result_to program s n o)
  result-stops s n None = tt
  result-stops s n (Some op) = resumes-stops s (shape op).leads n

  returns-stops : (s : State) (waiting : List Waiting) (n : Option ℤ) → StopsNot (returns_to program s waiting n)
  returns-stops s [] n = ends-stops n
  returns-stops s (w ∷ waiting) n = result-stops _ n (op_of program w.activation.function w.point)

  gets-stops : (s : State) (d : ℕ) (bytes : List ℕ) → StopsNot (gets program s d bytes)
  gets-stops s d [] = sets-stops s d (Number (negsuc 0))
  gets-stops s d (byte ∷ bytes) = sets-stops (record s { left = bytes; taken = s.taken + 1 }) d (Number (pos byte))

  act-stops : (s : State) (op : Op) → StopsNot (act program s op)
  act-stops s (op.Const d n) = sets-stops s d _
  act-stops s (op.Copy d a) = given-stops (value_at s a) _ (λ v. sets-stops s d v)
  act-stops s (op.Wide d a) = one-stops s d a _
  act-stops s (op.Zero d a) = one-stops s d a _
  act-stops s (op.Low d a) = one-stops s d a _
  act-stops s (op.Low16 d a) = one-stops s d a _
  act-stops s (op.Neg d a) = one-stops s d a _
  act-stops s (op.Not d a) = one-stops s d a _
  act-stops s (op.Add d a b) = two-stops s d a b _
  act-stops s (op.Sub d a b) = two-stops s d a b _
  act-stops s (op.Mul d a b) = two-stops s d a b _
  act-stops s (op.And d a b) = two-stops s d a b _
  act-stops s (op.Or d a b) = two-stops s d a b _
  act-stops s (op.Xor d a b) = two-stops s d a b _
  act-stops s (op.Shl d a c) = two-stops s d a c _
  act-stops s (op.Sar d a c) = two-stops s d a c _
  act-stops s (op.Shr d a c) = two-stops s d a c _
  act-stops s (op.Div d a b) = divided-stops s no_quotient d a b int_div
  act-stops s (op.Rem d a b) = divided-stops s no_quotient d a b int_rem
  act-stops s (op.Udiv d a b) = divided-stops s no_unsigned_quotient d a b unsigned_quotient
  act-stops s (op.Urem d a b) = divided-stops s no_unsigned_quotient d a b unsigned_remainder
  act-stops s (op.Set how d a b) = given-stops (comparison how s a b) _ (λ holds. sets-stops s d _)
  act-stops s (op.Setu how d a b) = given-stops (ordering how s a b) _ (λ holds. sets-stops s d _)
  act-stops s (op.Frame d k) = sets-stops s d _
  act-stops s (op.Static d k) = sets-stops s d _
  act-stops s (op.Load bits d p i) =
      given-stops (array_at s p) _ (λ array. given-stops (number_at s i) _ (loads-stops s bits d array))
  act-stops s (op.Store bits p i a) =
      given-stops (array_at s p) _ (λ array. given-stops (number_at s i) _ (λ index.
      given-stops (number_at s a) _ (stores-stops s bits array index)))
  act-stops s (op.Get bits d k) =
      scalar-stops s bits k (λ ns n. sets program s d (Number n)) (λ ns n. sets-stops s d (Number n))
  act-stops s (op.Put bits k a) =
      given-stops (number_at s a) _ (λ n. scalar-stops s bits k _ (λ ns old.
      onward-stops (with_array (Static k) (with_element ns (pos 0) (stored bits n)) s)))
  act-stops s (op.Clear k) = given-stops (slice_get s.current.arrays k) _ (λ elements.
      onward-stops (with_array (InFrame k (depth_of s)) (replicate (length elements) (pos 0)) s))
  act-stops s (op.Param d k) = given-stops (slice_get s.current.arguments k) _ (λ v. sets-stops s d v)
  act-stops s (op.Call d f arguments) = calls-stops s f arguments
  act-stops s (op.Putchar d a) = given-stops (number_at s a) _ (λ n.
      sets-stops (record s { written = s.written ++ low_byte n ∷ [] }) d (Number (pos (low_byte n))))
  act-stops s (op.Getchar d) = gets-stops s d s.left
  act-stops s (op.Exit a) = given-stops (number_at s a) _ (λ n. tt)
  act-stops s (op.Same a b) = given-stops (comparison Eq s a b) _ (λ holds.
      either-stops holds (onward program s) (Halts (outcome.Trapped Check)) (onward-stops s) tt)
  act-stops s (op.Mark statement) = onward-stops s
  act-stops s op.Turn = onward-stops s
  act-stops s (op.Jump x) = into-stops x s
  act-stops s (op.Branch how a b x y) =
      given-stops (comparison how s a b) _ (λ holds. into-stops (if holds then x else y) s)
  act-stops s (op.Branchu how a b x y) =
      given-stops (ordering how s a b) _ (λ holds. into-stops (if holds then x else y) s)
  act-stops s (op.Return (Some a)) = given-stops (number_at s a) _ (λ n. returns-stops s s.waiting (Some n))
  act-stops s (op.Return None) = returns-stops s s.waiting None

  step-stops : (s : State) → StopsNot (step program s)
  step-stops s = given-stops (op_at program s) _ (act-stops s)

-- ---- nor do its runs

abbrev RunsOn : Option Outcome → Type 0
RunsOn None = ⊤
RunsOn (Some o) = IsNoStop o.end

visits-on : (visits : List Visit) (o : Option Outcome) → RunsOn o → RunsOn (option_map (after_visits visits) o)
visits-on visits None h = tt
visits-on visits (Some o) h = h

from-on : (moved : Moved) (s : State) (go : State → Option Outcome) → StopsNot moved → ((t : State) → RunsOn (go t))
    → RunsOn (outcome_from moved s go)
from-on (Moves t) s go h on = on t
from-on (Halts end) s go h on = h
from-on Stuck s go h on = tt

turn-on : (takes : Bool) (turns : ℕ) (s : State) (go : ℕ → Option Outcome) → ((left : ℕ) → RunsOn (go left))
    → RunsOn (with_turn takes turns s go)
turn-on false turns s go on = on turns
turn-on true zero s go on = tt
turn-on true (suc turns) s go on = on turns

run-on : (program : GraphProgram) (listing : Listing) (k turns : ℕ) (s : State)
    → RunsOn (run_within program listing k turns s)
run-on program listing zero turns s = tt
run-on program listing (suc k) turns s =
    turn-on (takes_turn (op_at program s)) turns s _ (λ left.
    visits-on (visits_at listing s (op_at program s)) _
    (from-on (step program s) s _ (step-stops program s) (λ t. run-on program listing k left t)))

graphs-on : (program : GraphProgram) (listing : Listing) (input : List ℕ) (turns : ℕ) (o : Outcome)
    → GraphOutcome program listing input turns o → IsNoStop o.end
graphs-on program listing input turns o (s, first, k, run) = subst RunsOn run (run-on program listing k turns s)

-- ---- images

-- the outcome of a program that is lowered is no stop, with a listing of locals
source-on : (program : Program) (graphs : GraphProgram) (listing : Listing) (input : List ℕ) (turns : ℕ)
    → KeepsOutcome program graphs → ListsLocals program listing
    → IsNoStop (source_outcome program listing input turns).end
source-on program graphs listing input turns keeps lists =
    graphs-on graphs (variables_shown program listing) input turns (source_outcome program listing input turns)
    (keeps listing lists input turns)

-- Where the image stops, it has stopped after as many steps as have the outcome of so many turns.
pub images-never-stop : MapListsLocals → ImagesNeverStop
images-never-stop lists program map image typed is input m s o cause address bytes first run stops =
    let (k, many, (t, again, shown)) = is.correct input m bytes in
    let quiet = unseen (visits_of map) k t _ shown in
    let same : t ≡ s = first-one image input t s again first in
    let code = is.belongs.code in
    let on = source-on program code.program (listed map) input m is.belongs.lowered.keeps
    (lists program code map typed is.belongs.lowered.shapes is.belongs.lowered.marks is.belongs.is_map) in
    let e : k - m + m ≡ k = omega (arith, many) in
    let longer = subst (λ (n : ℕ). Runs no_visits n s o) e (runs_more no_visits (k - m) m s o
    (λ g. let no_end : outcome.Stopped cause address ≡ outcome.Goes = sym stops ∙ g in cc) run) in
    let one = run_once no_visits k s quiet.0 o
    (subst (λ (u : machine.State). Runs no_visits k u quiet.0) same quiet.1) longer in
    let ends : (source_outcome program (listed map) input m).end ≡ outcome.Stopped cause address =
    sym quiet.2 ∙ ap (λ (x : Outcome). x.end) one ∙ stops in
    subst IsNoStop ends on
