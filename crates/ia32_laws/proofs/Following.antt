-- The machine follows each step of a program.
use Rattle.std.proofs.Common.{◌≡◌, ℕ, false, List, Option, Some, refl, sym, ap, subst, ◌∙◌}
use Rattle.ia32_insn.specs.State as machine
use Rattle.flow_graph.specs.declared.op.Op.{Op}
use Rattle.flow_graph.specs.declared.op.Op.TheVariants as op
use Rattle.flow_graph.specs.Meaning.{Moved, Moves, Halts, Stuck, act, given, step}
use Rattle.flow_graph.specs.States as graph
use Rattle.flow_graph.specs.States.{flow_at, op_at}
use Rattle.flow_graph.specs.WellFormed.{IsState}
use Rattle.flow_graph.proofs.Calls.{back-kept}
use Rattle.flow_graph.proofs.Keeping.{step_keeps_state}
use Rattle.flow_graph.proofs.Values.{op-at}
use Rattle.ia32_rows.specs.Follows.{ComesTo, Follows, is_nop}
use Rattle.ia32_rows.specs.Placements.{Code}
use Rattle.ia32_rows.specs.Shows.{Shows}
use Rattle.ia32_rows.proofs.Steps.{comes-then}
use Rattle.ia32_laws.specs.StandingLaws.{IsSelected}
use Rattle.ia32_laws.proofs.Follows.{steps-follow}
use Rattle.ia32_laws.proofs.Points.{rows-stand}
use Rattle.ia32_laws.proofs.Returns.{calls-return, calls-stand}
use Rattle.ia32_laws.specs.Called.{Called}
use Rattle.ia32_laws.specs.Calls.{ComesCalled}
use Rattle.ia32_laws.proofs.EntriesCalling.{call-comes}
use Rattle.ia32_laws.proofs.Entry.{entry-comes}
use Rattle.ia32_laws.proofs.Ready.{entries-are-ready}
use Rattle.ia32_laws.proofs.Returning.{return-follows}
use Rattle.ia32_laws.specs.Right.{ProgramsFollow}

-- an op is followed from this state
abbrev IsDone : Code → List ℕ → graph.State → machine.State → Op → Type 0
IsDone code input g s o = Follows code input s g (is_nop (Some o)) (act code.program g o)

-- ---- calls

-- what has come to a function's first item comes to its first point
begun : (code : Code) (input : List ℕ) (g : graph.State) (s : machine.State) → IsSelected code
    → IsState code.program g → Called code input g s → ComesTo code input s g
begun code input g s h state c =
    entry-comes code input g s h.supported state c (entries-are-ready code input g s h (state.active.0).function c)

entered : (code : Code) (input : List ℕ) (g : graph.State) (s : machine.State) (o : Op) (m : Moved) → IsSelected code
    → IsState code.program g → op_at code.program g ≡ Some o → act code.program g o ≡ m
    → ComesCalled code input s g m → Follows code input s g false m
entered code input g s o (Moves h) selected state has e (t, comes, called) =
    let moves : step code.program g ≡ Moves h = ap (λ (at : Option Op). given at (act code.program g)) has ∙ e in
    let next = step_keeps_state code.program g h (selected.supported).program state moves in
    let last = begun code input h t selected next called in
    (last.0, comes-then code.text s t last.0 comes last.1, last.2)
entered code input g s o (Halts end) selected state has e ends = ends
entered code input g s o Stuck selected state has e done = tt

call-done : (code : Code) (input : List ℕ) (g : graph.State) (s : machine.State) (d : Option ℕ) (f : ℕ)
    (arguments : List ℕ) → IsSelected code → IsState code.program g → Shows code input g s
    → op_at code.program g ≡ Some (op.Call d f arguments) → IsDone code input g s (op.Call d f arguments)
call-done code input g s d f arguments h state shown has =
    let at = calls-stand code (record { activation = g.current; block = g.block; point = g.point }) d f arguments s h
    (state.active.0).function state.placed has shown.eip in
    entered code input g s (op.Call d f arguments) (act code.program g (op.Call d f arguments)) h state has refl
    (call-comes d f arguments code input g s h.supported state shown has at)

-- ---- returns

return-done : (code : Code) (input : List ℕ) (g : graph.State) (s : machine.State) (a : Option ℕ) → IsSelected code
    → IsState code.program g → Shows code input g s → op_at code.program g ≡ Some (op.Return a)
    → IsDone code input g s (op.Return a)
return-done code input g s a h state shown has =
    return-follows a code input g s h.supported state shown has
    (rows-stand code g s (op.Return a) h state has shown.eip)
    (λ w waiting result words address e calls returns.
    let back = back-kept code.program g w waiting state e in
    calls-return code w result g.current.function words address h ((back.0).active.0).function (back.1).placed calls
    returns)

-- ---- all ops

-- an op that is followed is so from the state's point
at-point : (code : Code) (input : List ℕ) (g : graph.State) (s : machine.State) (o : Op)
    → op_at code.program g ≡ Some o → IsDone code input g s o
    → Follows code input s g (is_nop (op_at code.program g)) (step code.program g)
at-point code input g s o has done =
    subst (λ (at : Option Op). Follows code input s g (is_nop at) (given at (act code.program g))) (sym has) done

by-op : (code : Code) (input : List ℕ) (g : graph.State) (s : machine.State) (o : Op) → IsSelected code
    → IsState code.program g → Shows code input g s → op_at code.program g ≡ Some o
    → Follows code input s g (is_nop (op_at code.program g)) (step code.program g)
by-op code input g s (op.Call d f arguments) h state shown has =
    at-point code input g s (op.Call d f arguments) has (call-done code input g s d f arguments h state shown has)
by-op code input g s (op.Return a) h state shown has =
    at-point code input g s (op.Return a) has (return-done code input g s a h state shown has)
by-op code input g s o h state shown has = steps-follow code input g s o h state shown has tt

pub programs-follow : ProgramsFollow
programs-follow code h input g s state shown =
    let known = op-at code.program g.current.function g.point g.block (h.supported).program
    (state.active.0).function state.placed in
    by-op code input g s known.op h state shown known.there
