-- A run of the machine along a run of the graphs, by code that follows them.
use Rattle.std.proofs.Common.{◌≡◌, ℕ, zero, suc, Bool, true, false, List, [], ◌∷◌, ◌++◌, Option, Some, None, refl, sym, subst}
use Rattle.flow_graph.specs.Meaning.{Moved, Moves, Halts, Stuck, step}
use Rattle.flow_graph.specs.Running.{from_state, state_after}
use Rattle.flow_graph.specs.States as graph
use Rattle.flow_graph.specs.States.{op_at}
use Rattle.flow_graph.specs.WellFormed.{FirstIsState, IsGraphProgram, IsState, StepKeepsState}
use Rattle.ia32_insn.specs.Items.{text_state}
use Rattle.ia32_insn.specs.State as machine
use Rattle.ia32_rows.specs.Follows.{FollowsAll, Follows, is_nop}
use Rattle.ia32_rows.specs.Paths.{Path}
use Rattle.ia32_rows.specs.Placements.{Code, objects_of}
use Rattle.ia32_rows.specs.Shows.{Shows}
use Rattle.pcc_program.specs.CompiledLaws.{GraphsAreShown}

-- one path after another
pub path-then : (xs ys : List ℕ) (s t u : machine.State) → Path xs s t → Path ys t u → Path (xs ++ ys) s u
path-then [] ys s t u path next = subst (λ (v : machine.State). Path ys v u) (sym path) next
path-then (x ∷ xs) ys s t u (v, at, one, path) next = (v, at, one, path-then xs ys v t u path next)

pub none-some : (g : graph.State) → ◌≡◌ {A = Option graph.State} None (Some g) → ⊥
none-some g e = cc

pub some-same : (g h : graph.State) → Some g ≡ Some h → g ≡ h
some-same g h e = cc

module _ (keeps : StepKeepsState) (code : Code) (input : List ℕ) (well_formed : IsGraphProgram code.program)
    (follows : FollowsAll code) where
  -- the machine comes from this state to one that shows that of the graphs
  abbrev Reached : machine.State → graph.State → Type 0
  Reached s h = (addresses : List ℕ) × (t : machine.State) × Path addresses s t × Shows code input h t

  behind : (xs : List ℕ) (s t : machine.State) (h : graph.State) → Path xs s t → Reached t h → Reached s h
  behind xs s t h path (ys, u, next, shows) = (xs ++ ys, u, path-then xs ys s t u path next, shows)

  -- from each state that is shown, so many steps on
  abbrev ReachesAll : ℕ → Type 0
  ReachesAll j =
      (g h : graph.State) (s : machine.State) → IsState code.program g → Shows code input g s
      → state_after code.program j g ≡ Some h → Reached s h

  -- along one step of the graphs, and then so many
  along : (j : ℕ) → ReachesAll j → (nop : Bool) (m : Moved) (g h : graph.State) (s : machine.State)
      → IsState code.program g → step code.program g ≡ m → Follows code input s g nop m
      → from_state m (state_after code.program j) ≡ Some h → Reached s h
  along j later true (Moves u) g h s is one (t, first, (v, comes, shows)) e =
      behind (s.eip ∷ comes.addresses) s v h (t, refl, first, comes.path)
      (later u h v (keeps code.program g u well_formed is one) shows e)
  along j later false (Moves u) g h s is one (v, comes, shows) e =
      behind comes.addresses s v h comes.path (later u h v (keeps code.program g u well_formed is one) shows e)
  along j later nop (Halts end) g h s is one follows e = absurd (none-some h e)
  along j later nop Stuck g h s is one follows e = absurd (none-some h e)

  reaches : (j : ℕ) → ReachesAll j
  reaches zero g h s is shows e =
      ([], s, refl, subst (λ (u : graph.State). Shows code input u s) (some-same g h e) shows)
  reaches (suc j) g h s is shows e =
      along j (reaches j) (is_nop (op_at code.program g)) (step code.program g) g h s is refl (follows input g s is shows)
      e

-- code that begins as its graphs do, and follows them, comes to each of their states
pub graphs-are-shown : FirstIsState → StepKeepsState → GraphsAreShown
graphs-are-shown begins keeps program image map belongs input k g bytes (first, is_first, after) =
    let code = belongs.code in
    let (t, comes, shows) = belongs.right.starts input first bytes is_first in
    behind keeps code input belongs.lowered.well_formed belongs.right.follows comes.addresses
    (text_state code.text (objects_of code.program) input) t g comes.path
    (reaches keeps code input belongs.lowered.well_formed belongs.right.follows k first g t
    (begins code.program input first belongs.lowered.well_formed bytes is_first) shows after)
