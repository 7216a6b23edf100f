-- What is shown behind a row goes on to the next point.
use Rattle.std.proofs.Common.{◌≡◌, ℕ, List, ◌∷◌, ◌++◌, Option, Some, Bool, true, false, subst, sym}
use Rattle.std.specs.Prelude.{⊤}
use Rattle.ia32_insn.specs.declared.item.Item.{Item}
use Rattle.ia32_insn.specs.declared.item.Item.TheVariants as item
use Rattle.ia32_insn.specs.State as machine
use Rattle.flow_graph.specs.declared.op.Op.{Op}
use Rattle.flow_graph.specs.Liveness.{IsSuccessor}
use Rattle.flow_graph.specs.Meaning.{Moved, Moves, Halts, Stuck, act, given}
use Rattle.flow_graph.specs.States as graph
use Rattle.flow_graph.specs.States.{flow_at, op_at}
use Rattle.flow_graph.specs.WellFormed.{IsState}
use Rattle.flow_graph.proofs.Changes.{Kept}
use Rattle.flow_graph.proofs.Steps.{step-kept}
use Rattle.ia32_rows.specs.Follows.{ComesTo, Follows}
use Rattle.ia32_rows.specs.Paths.{Comes}
use Rattle.ia32_rows.specs.Placements.{Code, placement_of}
use Rattle.ia32_rows.specs.Sites.{ReadyAt}
use Rattle.ia32_rows.specs.Rows.{moves_to}
use Rattle.ia32_rows.proofs.Steps.{comes-then}
use Rattle.ia32_laws.specs.MovesLaws.{ShowsBehind}
use Rattle.ia32_laws.specs.Supports.{IsSupported, site_of}
use Rattle.ia32_laws.proofs.Moving.{moves-show}

-- the machine follows a step, where the state that it comes to is one of the program
abbrev pub FollowsKept : Code → List ℕ → machine.State → graph.State → Bool → Moved → Type 0
FollowsKept code input s g nop (Moves h) = IsState code.program h → Follows code input s g nop (Moves h)
FollowsKept code input s g nop (Halts end) = Follows code input s g nop (Halts end)
FollowsKept code input s g nop Stuck = ⊤

kept-follows : (code : Code) (input : List ℕ) (g : graph.State) (s : machine.State) (nop : Bool) (m : Moved)
    → Kept code.program m → FollowsKept code input s g nop m → Follows code input s g nop m
kept-follows code input g s nop (Moves h) kept follows = follows kept
kept-follows code input g s true (Halts end) kept follows = follows
kept-follows code input g s false (Halts end) kept follows = follows
kept-follows code input g s true Stuck kept follows = tt
kept-follows code input g s false Stuck kept follows = tt

-- so it follows the step of an op, which leads from a state of the program to another
pub followed : (code : Code) (input : List ℕ) (g : graph.State) (s : machine.State) (o : Op) (nop : Bool)
    → IsSupported code → IsState code.program g → op_at code.program g ≡ Some o
    → FollowsKept code input s g nop (act code.program g o) → Follows code input s g nop (act code.program g o)
followed code input g s o nop supported state has follows =
    kept-follows code input g s nop (act code.program g o)
    (subst (λ (at : Option Op). Kept code.program (given at (act code.program g))) has
    (step-kept code.program g supported.program state)) follows

-- Where the next state, at a point q of a function f, is shown behind the row of a point, and the moves to q are ready,
-- the machine comes there.
pub lands : (code : Code) (input : List ℕ) (point : ℕ) (h : graph.State) (f q : ℕ) → h.current.function ≡ f
    → h.point ≡ q → (s t : machine.State) (rest more : List Item) → IsSupported code → IsState code.program h
    → IsSuccessor (flow_at code.program f) point q → Comes code.text s t → ReadyAt (site_of code f) rest t
    → rest ≡ moves_to (placement_of code f) point (Some q) ++ item.Point q ∷ more → ShowsBehind code input point h t
    → ComesTo code input s h
lands code input point h f q function at s t rest more supported state leads comes ready is shown =
    let here : ReadyAt (site_of code f) (moves_to (placement_of code f) point (Some q) ++ item.Point q ∷ more) t =
    subst (λ (items : List Item). ReadyAt (site_of code f) items t) is ready in
    let last = moves-show code input h t point more supported state (there leads) shown (ready-there here) in
    (last.0, comes-then code.text s t last.0 comes last.1, last.2)
  where
    there : IsSuccessor (flow_at code.program f) point q
        → IsSuccessor (flow_at code.program h.current.function) point h.point
    there l =
        subst (λ (k : ℕ). IsSuccessor (flow_at code.program k) point h.point) (sym function)
        (subst (λ (k : ℕ). IsSuccessor (flow_at code.program f) point k) (sym at) l)

    ready-there : ReadyAt (site_of code f) (moves_to (placement_of code f) point (Some q) ++ item.Point q ∷ more) t
        → ReadyAt (site_of code h.current.function)
        (moves_to (placement_of code h.current.function) point (Some h.point) ++ item.Point h.point ∷ more) t
    ready-there r =
        subst (λ (k : ℕ). ReadyAt (site_of code k)
        (moves_to (placement_of code k) point (Some h.point) ++ item.Point h.point ∷ more) t) (sym function)
        (subst (λ (k : ℕ). ReadyAt (site_of code f)
        (moves_to (placement_of code f) point (Some k) ++ item.Point k ∷ more) t) (sym at) r)
