-- What every state keeps stays when a call begins and when it ends.
use Rattle.std.proofs.Common.{◌≡◌, ℕ, suc, ◌<◌, ◌≤◌, Bool, true, false, ℤ, pos, List, [], ◌∷◌, length, map, Option}
use Rattle.std.proofs.Common.{Some, None, refl, sym, subst, ◌∙◌, arith, rules}
use Rattle.std.specs.Prelude.{FitsSigned, if◌then◌else◌, nat_le, ⊤}
use Rattle.std.specs.Int.{w32}
use Rattle.std.specs.List.{All, AllByRecursion}
use Rattle.std.proofs.Math.ListN.{length-replicate}
use Rattle.std.proofs.lemmas.List.Elements.{All-replicate, All-weaker}
use Rattle.std.proofs.lemmas.Option.{same_Some}
use Rattle.pcc_base.specs.Objects.{FitsBytes}
use Rattle.pcc_base.specs.Outcome.{Trapped, Value, Number}
use Rattle.pcc_base.specs.declared.run.Trap.TheVariants.{Check}
use Rattle.pcc_base.specs.declared.run.Width.{Width}
use Rattle.pcc_base.specs.declared.run.Width.TheVariants.{One, Two}
use Rattle.flow_graph.specs.declared.op.Op.{Op}
use Rattle.flow_graph.specs.declared.op.Op.TheVariants.{Call}
use Rattle.flow_graph.specs.Graphs.{FitsOp, Flow, IsMet}
use Rattle.flow_graph.specs.Shapes.{two}
use Rattle.flow_graph.specs.Meaning.{Halts, back_to, calls, enters, most_active, result_to, returns_to, values_at}
use Rattle.flow_graph.specs.States.{GraphProgram, State, Waiting, active_of, depth_of, first_activation, first_array}
use Rattle.flow_graph.specs.States.{flow_at, op_of}
use Rattle.flow_graph.specs.WellFormed.{AreActivations, AreElementsOf, AreWaiting, FitsWidth, IsActivation}
use Rattle.flow_graph.specs.WellFormed.{IsGraphProgram, IsState, IsWaiting, functions_of}
use Rattle.flow_graph.proofs.Lists.{zip-map}
use Rattle.flow_graph.proofs.Numbers.{zero-byte, zero-element, zero-word}
use Rattle.flow_graph.proofs.Values.{op-at, words-fit, words-pass, younger}
use Rattle.flow_graph.proofs.Changes.{IsStore, Kept, given-kept, into-kept, onward-kept, sets-kept, store}

-- ---- a call begins

-- a variable of any width may hold 0
zero-fits : (program : GraphProgram) (active : List ℕ) (width : Width) → FitsWidth program active width (Number (pos 0))
zero-fits program active One = zero-byte
zero-fits program active Two = zero-word

-- a new frame array has as many elements as declared, all 0
zeros-fit : (array : ℕ × ℕ) → AreElementsOf array (first_array array)
zeros-fit array = record {
  many = length-replicate array.1 (pos 0);
  fit = All-replicate (FitsBytes array.0) array.1 (pos 0) (zero-element array.0);
}

-- a call at its first point, with argument words that fit
pub first-kept : (program : GraphProgram) (f : ℕ) (arguments : List Value) (older : List ℕ)
    → f < length program.functions
    → All (FitsWidth program (f ∷ older) Two) arguments
    → IsActivation program older (first_activation program f arguments)
first-kept program f arguments older lt fit = record {
  function = lt;
  variables = zip-map (FitsWidth program (f ∷ older))
      (λ width. Number (pos 0)) (flow_at program f).widths (zero-fits program (f ∷ older));
  arguments = fit;
  arrays = zip-map AreElementsOf first_array (flow_at program f).arrays zeros-fit;
}

-- the state at the beginning of a call
enters-kept : (program : GraphProgram) (s : State) (result : Option ℕ) (f : ℕ) (words : List ℕ) (values : List Value)
    → IsState program s → f < length program.functions
    → op_of program s.current.function s.point ≡ Some (Call result f words)
    → AllByRecursion (IsMet (flow_at program s.current.function)) (map two words) → values_at s words ≡ Some values
    → depth_of s < most_active → Kept program (enters program s f values)
enters-kept program s result f words values i lt op met e few =
    let active = functions_of (active_of s) in
    let fit : All (FitsWidth program active Two) values =
    words-fit program (functions_of (map (λ (w : Waiting). w.activation) s.waiting)) s words values i.active.0
    met e in
    let waits : Waiting = record { activation = s.current; block = s.block; point = s.point } in
    let callee = first_activation program f values in
    into-kept program (record s { current = callee; waiting = waits ∷ s.waiting }) 0 (record {
      active = (
        first-kept program f values active lt
            (All-weaker (FitsWidth program active Two) (FitsWidth program (f ∷ active) Two)
            (younger program active f Two) values fit),
        i.active,
      );
      waiting = (
        record {
          placed = i.placed;
          result = result;
          words = words;
          calls = op;
          passes = words-pass s words values e;
        },
        i.waiting,
      );
      few = few;
      objects = i.objects;
      left = i.left;
      written = i.written;
    })

-- the words that a call passes are variables of width Two
words-met : (flow : Flow) (result : Option ℕ) (f : ℕ) (words : List ℕ) → FitsOp flow (Call result f words)
    → AllByRecursion (IsMet flow) (map two words)
words-met flow None f words met = met
words-met flow (Some d) f words met = met.1

-- a call begins, or too many are active
begins-kept : (program : GraphProgram) (s : State) (result : Option ℕ) (f : ℕ) (words : List ℕ) (values : List Value)
    (many : Bool) → IsState program s → f < length program.functions
    → op_of program s.current.function s.point ≡ Some (Call result f words)
    → AllByRecursion (IsMet (flow_at program s.current.function)) (map two words) → values_at s words ≡ Some values
    → nat_le most_active (depth_of s) ≡ many
    → Kept program (if many then Halts (Trapped Check) else enters program s f values)
begins-kept program s result f words values true i lt op met e is = tt
begins-kept program s result f words values false i lt op met e is =
    enters-kept program s result f words values i lt op met e (search (rules, is))

pub calls-kept : (program : GraphProgram) (s : State) (result : Option ℕ) (f : ℕ) (words : List ℕ) → IsState program s
    → f < length program.functions → op_of program s.current.function s.point ≡ Some (Call result f words)
    → FitsOp (flow_at program s.current.function) (Call result f words) → Kept program (calls program s f words)
calls-kept program s result f words i lt op met =
    given-kept program (values_at s words) _ (λ values e.
    begins-kept program s result f words values (nat_le most_active (depth_of s)) i lt op
    (words-met (flow_at program s.current.function) result f words met) e refl)

-- ---- a call ends

-- the result, where there is one, has 32 bits
abbrev pub ResultFits : Option ℤ → Type 0
ResultFits None = ⊤
ResultFits (Some n) = FitsSigned w32 n

-- the caller goes on, with the result where it wants one
result-kept : (program : GraphProgram) (s : State) (n : Option ℤ) (result : Option ℕ) (f : ℕ) (words : List ℕ)
    → IsStore program s → ResultFits n → FitsOp (flow_at program s.current.function) (Call result f words)
    → Kept program (result_to program s n (Some (Call result f words)))
result-kept program s None None f words i fits met = onward-kept program s i
result-kept program s (Some n) None f words i fits met = onward-kept program s i
result-kept program s None (Some d) f words i fits met = tt
result-kept program s (Some n) (Some d) f words i fits met = sets-kept program s d Two (Number n) i met.0 fits

-- the state at the call that waited, once the call that it waited for is over
pub back-kept : (program : GraphProgram) (s : State) (w : Waiting) (waiting : List Waiting) → IsState program s
    → s.waiting ≡ w ∷ waiting → IsState program (back_to s w waiting) × IsWaiting program w s.current
back-kept program s w waiting i e =
    let waits : AreWaiting program s.current (w ∷ waiting) = subst (AreWaiting program s.current) e i.waiting in
    let active : AreActivations program (s.current ∷ map (λ (u : Waiting). u.activation) (w ∷ waiting)) =
    subst (λ (us : List Waiting). AreActivations program (s.current ∷ map (λ (u : Waiting). u.activation) us)) e
    i.active in
    let few : suc (length (w ∷ waiting)) ≤ most_active =
    subst (λ (us : List Waiting). suc (length us) ≤ most_active) e i.few in (
      record {
        placed = waits.0.placed;
        active = active.1;
        waiting = waits.1;
        few = omega (arith, few);
        objects = i.objects;
        left = i.left;
        written = i.written;
      },
      waits.0,
    )

-- a call ends, and the program where it was that of `main`
returns-kept-to : (program : GraphProgram) (s : State) (waiting : List Waiting) (n : Option ℤ) → IsGraphProgram program
    → IsState program s → ResultFits n → s.waiting ≡ waiting → Kept program (returns_to program s waiting n)
returns-kept-to program s [] None h i fits e = tt
returns-kept-to program s [] (Some n) h i fits e = tt
returns-kept-to program s (w ∷ waiting) n h i fits e =
    let (back, waits) = back-kept program s w waiting i e in
    let at = op-at program w.activation.function w.point w.block h back.active.0.function waits.placed in
    let same : at.op ≡ Call waits.result s.current.function waits.words =
    same_Some at.op (Call waits.result s.current.function waits.words) (sym at.there ∙ waits.calls) in
    let met = subst (FitsOp (flow_at program w.activation.function)) same at.fits in
    subst (λ (o : Option Op). Kept program (result_to program (back_to s w waiting) n o)) (sym waits.calls)
    (result-kept program (back_to s w waiting) n waits.result s.current.function waits.words
    (store program (back_to s w waiting) back) fits met)

pub returns-kept : (program : GraphProgram) (s : State) (n : Option ℤ) → IsGraphProgram program → IsState program s
    → ResultFits n → Kept program (returns_to program s s.waiting n)
returns-kept program s n h i fits = returns-kept-to program s s.waiting n h i fits refl
