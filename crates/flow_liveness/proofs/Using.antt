-- What is noted of a point is what it uses, and the variables that it uses are there.
use Rattle.std.proofs.Common.{ℕ, ◌≡◌, ◌<◌, ◌≤◌, List, [], ◌∷◌, ◌++◌, map, length, Option, Some, None, sym, subst, arith}
use Rattle.std.proofs.Common.{◌∙◌}
use Rattle.std.specs.List.{AllByRecursion, slice_get}
use Rattle.std.proofs.lemmas.Option.{same_Some, slice_get_within}
use Rattle.pcc_base.proofs.Lists.{all-weaker}
use Rattle.flow_graph.specs.declared.op.Op.{Op}
use Rattle.flow_graph.specs.Graphs.{Flow, FitsOp, IsFlow, IsIn, IsPlaced}
use Rattle.flow_graph.specs.Liveness.{IsUsedAt, uses}
use Rattle.flow_graph.proofs.Asked.{HasVariable, has-all}
use Rattle.flow_graph.proofs.Points.{every-in}
use Rattle.flow_liveness.specs.Lists.{Adds}
use Rattle.flow_liveness.proofs.Adding.{has-in, in-has}
use Rattle.flow_liveness.proofs.Placed.{op-fits}
use Rattle.flow_liveness.proofs.Stepping.{Before, steps-end}

-- the variable at a place has the point
abbrev pub UseAt : ℕ → List ℕ → ℕ → ℕ → ℕ → Type 0
UseAt point us i user v = (user ≡ point) × (slice_get us i ≡ Some v)

-- one point is noted at a place
pub use-only : (point : ℕ) (us : List ℕ) (n v : ℕ) → slice_get us n ≡ Some v
    → (user w : ℕ) → UseAt point us n user w → (user ≡ point) × (w ≡ v)
use-only point us n v e user w (s, at) = (s, same_Some w v (sym at ∙ e))

-- a variable among those of the op is used at the point
pub used-here : (flow : Flow) (point : ℕ) (op : Op) → IsPlaced flow point → slice_get flow.ops point ≡ Some op
    → (i v : ℕ) → slice_get (uses op) i ≡ Some v → IsUsedAt flow v point
used-here flow point op placed has i v e = (placed, op, has, has-in v (uses op) (i, e))

-- all at last
pub uses-end : (flow : Flow) (point : ℕ) (op : Op) → IsPlaced flow point → slice_get flow.ops point ≡ Some op
    → (n : ℕ) (a b : List (List ℕ)) → length (uses op) ≤ n → Adds a b (Before (UseAt point (uses op)) n)
    → Adds a b (λ x v. (x ≡ point) × IsUsedAt flow v point)
uses-end flow point op placed has n a b h f =
    steps-end (UseAt point (uses op)) n a b (λ x v. (x ≡ point) × IsUsedAt flow v point)
    (λ i x v m. (m.0, used-here flow point op placed has i v m.1)) back f
  where
    back : (x v : ℕ) → (x ≡ point) × IsUsedAt flow v point → Before (UseAt point (uses op)) n x v
    back x v (s, (_, its, e, used)) =
        let (i, at) = in-has v (uses op) (subst (λ o. IsIn v (uses o)) (same_Some its op (sym e ∙ has)) used) in
        (i, omega (arith, slice_get_within (uses op) i v at), (s, at))

-- the variables that an op uses are there, where it fits
pub uses-within : (flow : Flow) (op : Op) → FitsOp flow op → AllByRecursion (λ v. v < length flow.widths) (uses op)
uses-within flow op fits =
    all-weaker (HasVariable flow) (λ v. v < length flow.widths) (uses op)
    (λ v has. slice_get_within flow.widths v has.0 has.1) (has-all flow op fits).read

-- a variable that a point uses is there
pub used-within : (flow : Flow) (homes : List ℕ) → IsFlow flow homes → (v point : ℕ) → IsUsedAt flow v point
    → v < length flow.widths
used-within flow homes is v point (placed, op, has, used) =
    every-in (λ w. w < length flow.widths) v (uses op)
    (uses-within flow op (op-fits flow homes is point placed op has)) used
