-- Along a run of the graphs, how many steps the machine has made where it shows each of their states.
use Rattle.std.proofs.Common.{◌≡◌, ◌<◌, ◌≤◌, ◌+◌, ℕ, zero, suc, Bool, true, false, List, ◌∷◌, ◌++◌, length, Some}
use Rattle.std.proofs.Common.{arith, refl, sym, subst}
use Rattle.std.proofs.lemmas.List.{length-append}
use Rattle.flow_graph.specs.Meaning.{Moved, Moves, Halts, Stuck, step}
use Rattle.flow_graph.specs.Running.{GraphAt, first_state, from_state, state_after}
use Rattle.flow_graph.specs.States as graph
use Rattle.flow_graph.specs.States.{op_at}
use Rattle.flow_graph.specs.WellFormed.{FirstIsState, IsGraphProgram, IsState, StepKeepsState}
use Rattle.ia32_insn.specs.Items.{text_state}
use Rattle.ia32_insn.specs.State as machine
use Rattle.ia32_machine.specs.First.{First}
use Rattle.ia32_rows.specs.Follows.{FollowsAll, Follows, is_nop}
use Rattle.ia32_rows.specs.Paths.{Path}
use Rattle.ia32_rows.specs.Placements.{Code, objects_of}
use Rattle.ia32_rows.specs.Shows.{Shows}
use Rattle.pcc_program.specs.Begins.{TextBegins}
use Rattle.pcc_program.specs.CompiledLaws.{RightCodeIsTrue}
use Rattle.pcc_program.specs.EveryPoint.{IsShownAfter}
use Rattle.pcc_program.specs.Products.{image_of}
use Rattle.pcc_program.proofs.Shown.{none-some, path-then, some-same}

-- a number, and then those of a function
abbrev at_first : ℕ → (ℕ → ℕ) → ℕ → ℕ
at_first start later zero = start
at_first start later (suc i) = later i

false-true : false ≡ true → ⊥
false-true e = cc

-- a state that comes in so many steps does so from the first
after-first : (program : graph.GraphProgram) (input : List ℕ) (first : graph.State) → first_state program input ≡ Some first
    → (j : ℕ) (h : graph.State) → GraphAt program input j h → state_after program j first ≡ Some h
after-first program input first is j h (other, also, after) =
    subst (λ (u : graph.State). state_after program j u ≡ Some h) (some-same other first (cc)) after

module _ (keeps : StepKeepsState) (code : Code) (input : List ℕ) (well_formed : IsGraphProgram code.program)
    (follows : FollowsAll code) (image : List ℕ) where
  -- the numbers of steps for j steps of the graphs from a state that is shown after some steps
  record Traced (g : graph.State) (start j : ℕ) : Type 0 where
    steps : ℕ → ℕ
    first : steps 0 ≡ start
    shown : (i : ℕ) (h : graph.State) → i ≤ j → state_after code.program i g ≡ Some h
        → IsShownAfter image code input h (steps i)
    never_fall : (i : ℕ) → i < j → steps i ≤ steps (suc i)
    rise : (i : ℕ) (h : graph.State) → i < j → state_after code.program i g ≡ Some h
        → is_nop (op_at code.program h) ≡ true → steps i < steps (suc i)

  -- a state that is shown after some steps, as what comes in no steps from it
  shown-same : (g h : graph.State) (m : ℕ) → IsShownAfter image code input g m → Some g ≡ Some h
      → IsShownAfter image code input h m
  shown-same g h m shown e = subst (λ (u : graph.State). IsShownAfter image code input u m) (some-same g h e) shown

  -- so many steps more
  shown-further : (m n : ℕ) (s t first : machine.State) (xs ys : List ℕ) (h : graph.State) → First image input first
      → Path xs first s → length xs ≡ m → Path ys s t → length ys ≡ n → Shows code input h t
      → IsShownAfter image code input h (m + n)
  shown-further m n s t first xs ys h begins path many next more shows =
      (first, t, xs ++ ys, begins, path-then xs ys first s t path next, omega (arith, length-append xs ys, many, more), shows)

  -- no steps on
  none-left : (i : ℕ) (g h : graph.State) → i ≤ 0 → state_after code.program i g ≡ Some h → Some g ≡ Some h
  none-left zero g h le e = e
  none-left (suc i) g h le e = absurd (omega (arith, le))

  -- from each state that is shown, along so many steps
  abbrev TracesAll : ℕ → Type 0
  TracesAll j =
      (g t : graph.State) (start : ℕ) → IsState code.program g → IsShownAfter image code input g start
      → state_after code.program j g ≡ Some t → Traced g start j

  -- one step of the graphs, which the machine shows so many steps on, and then the others
  one-more : (j n start : ℕ) (g u : graph.State) → step code.program g ≡ Moves u
      → IsShownAfter image code input g start → (is_nop (op_at code.program g) ≡ true → 1 ≤ n)
      → Traced u (start + n) j → Traced g start (suc j)
  one-more j n start g u leads here nop later = record {
    steps = at_first start later.steps;
    first = refl;
    shown = shown_at;
    never_fall = falls_at;
    rise = rises_at;
  }
    where
      shown_at : (i : ℕ) (h : graph.State) → i ≤ suc j → state_after code.program i g ≡ Some h
          → IsShownAfter image code input h (at_first start later.steps i)
      shown_at zero h le e = shown-same g h start here e
      shown_at (suc i) h le e =
          later.shown i h (omega (arith, le)) (rw leads at e)

      falls_at : (i : ℕ) → i < suc j → at_first start later.steps i ≤ at_first start later.steps (suc i)
      falls_at zero lt = omega (arith, later.first)
      falls_at (suc i) lt = later.never_fall i (omega (arith, lt))

      rises_at : (i : ℕ) (h : graph.State) → i < suc j → state_after code.program i g ≡ Some h
          → is_nop (op_at code.program h) ≡ true → at_first start later.steps i < at_first start later.steps (suc i)
      rises_at zero h lt e is =
          omega (arith, later.first, nop (subst (λ (v : graph.State). is_nop (op_at code.program v) ≡ true) (sym (some-same g h e)) is))
      rises_at (suc i) h lt e is = later.rise i h (omega (arith, lt)) (rw leads at e) is

  -- along one step of the graphs, and then so many
  along : (j : ℕ) → TracesAll j → (nop : Bool) (m : Moved) (g t : graph.State) (start : ℕ) (s first : machine.State)
      (xs : List ℕ) → IsState code.program g → First image input first → Path xs first s → length xs ≡ start
      → Shows code input g s → is_nop (op_at code.program g) ≡ nop → step code.program g ≡ m
      → Follows code input s g nop m → from_state m (state_after code.program j) ≡ Some t → Traced g start (suc j)
  along j later true (Moves u) g t start s first xs is begins path many shows nop leads (v, one, (w, comes, there)) e =
      let on : IsShownAfter image code input u (start + suc (length comes.addresses)) =
      shown-further start (suc (length comes.addresses)) s w first xs (s.eip ∷ comes.addresses) u begins path many
      (v, refl, one, comes.path) refl there in
      one-more j (suc (length comes.addresses)) start g u leads (first, s, xs, begins, path, many, shows)
      (λ at_nop. omega arith)
      (later u t (start + suc (length comes.addresses)) (keeps code.program g u well_formed is leads) on e)
  along j later false (Moves u) g t start s first xs is begins path many shows nop leads (w, comes, there) e =
      let on : IsShownAfter image code input u (start + length comes.addresses) =
      shown-further start (length comes.addresses) s w first xs comes.addresses u begins path many comes.path refl
      there in
      one-more j (length comes.addresses) start g u leads (first, s, xs, begins, path, many, shows)
      (λ at_nop. absurd (false-true (rw nop at at_nop)))
      (later u t (start + length comes.addresses) (keeps code.program g u well_formed is leads) on e)
  along j later nop (Halts end) g t start s first xs is begins path many shows is_it leads follows e =
      absurd (none-some t e)
  along j later nop Stuck g t start s first xs is begins path many shows is_it leads follows e = absurd (none-some t e)

  traces : (j : ℕ) → TracesAll j
  traces zero g t start is here e = record {
    steps = λ i. start;
    first = refl;
    shown = λ i h le e. shown-same g h start here (none-left i g h le e);
    never_fall = λ i lt. omega arith;
    rise = λ i h lt e at_nop. omega (arith, lt);
  }
  traces (suc j) g t start is (first, s, xs, begins, path, many, shows) e =
      along j (traces j) (is_nop (op_at code.program g)) (step code.program g) g t start s first xs is begins path many
      shows refl refl (follows input g s is shows) e

-- right code is true to its graphs at every point
pub every-point : FirstIsState → StepKeepsState → TextBegins → RightCodeIsTrue
every-point begins keeps loads code well_formed right fits input k g bytes (first, is_first, after) =
    let (t, comes, shows) = right.starts input first bytes is_first in
    let traced = traces keeps code input well_formed right.follows (image_of code) k first g (length comes.addresses)
    (begins code.program input first well_formed bytes is_first) (
      text_state code.text (objects_of code.program) input,
      t,
      comes.addresses,
      loads code.text (objects_of code.program) input fits,
      comes.path,
      refl,
      shows,
    ) after in
    record {
      steps = traced.steps;
      shown = λ j h le at. traced.shown j h le (after-first code.program input first is_first j h at);
      never_fall = traced.never_fall;
      rise = λ j h lt at nop. traced.rise j h lt (after-first code.program input first is_first j h at) nop;
    }
