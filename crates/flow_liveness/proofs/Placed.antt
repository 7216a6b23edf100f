-- What points of a graph have: their ops, what these name, and the points behind them.
use Rattle.std.proofs.Common.{ℕ, zero, suc, ◌≡◌, ◌≢◌, ◌<◌, inl, inr, ◌↔◌, Bool, cond, List}
use Rattle.std.proofs.Common.{[], ◌∷◌, length}
use Rattle.std.proofs.Common.{get_or, IfSome, Option, Some, None, refl, sym, ap, subst, arith, ◌∙◌}
use Rattle.std.specs.List.{slice_get}
use Rattle.std.proofs.lemmas.Bool.Decides.{eqb_tells}
use Rattle.std.proofs.lemmas.Option.{same_Some, slice_get_within}
use Rattle.flow_graph.specs.declared.op.Op.{Op}
use Rattle.flow_graph.specs.Graphs.{Flow, FitsOp, HasFittingOp, IsDistinct, IsFlow, IsIn, IsPlaced, Stands}
use Rattle.flow_graph.specs.Graphs.{following, points_of}
use Rattle.flow_graph.specs.Liveness.{BeginsWith, IsBehind}
use Rattle.flow_graph.proofs.Blocks.{one_block}
use Rattle.flow_graph.proofs.Points.{every-in}
use Rattle.flow_liveness.proofs.Adding.{has-in}
pub use Rattle.flow_graph.proofs.Keeps.{has_block as block-within}

-- a point of a block has an op, and it fits
pub fitting : (flow : Flow) (homes : List ℕ) → IsFlow flow homes → (point block : ℕ) → Stands flow point block
    → HasFittingOp flow point
fitting flow homes is point block stands =
    every-in (HasFittingOp flow) point (points_of flow block) (is.each_block block).fits stands

-- and the op that is read there fits
pub op-fits : (flow : Flow) (homes : List ℕ) → IsFlow flow homes → (point : ℕ) → IsPlaced flow point → (op : Op)
    → slice_get flow.ops point ≡ Some op → FitsOp flow op
op-fits flow homes is point (block, stands) op e =
    let (its, has, fits) = fitting flow homes is point block stands in
    subst (FitsOp flow) (same_Some its op (sym has ∙ e)) fits

-- so it is one of the points that were made
pub placed-within : (flow : Flow) (homes : List ℕ) → IsFlow flow homes → (point : ℕ) → IsPlaced flow point
    → point < length flow.ops
placed-within flow homes is point (block, stands) =
    let (op, has, fits) = fitting flow homes is point block stands in slice_get_within flow.ops point op has

-- the first point of a block is in it
pub first-placed : (flow : Flow) (block point : ℕ) → BeginsWith flow block point → IsPlaced flow point
first-placed flow block point e = (block, has-in point (points_of flow block) (0, e))

-- a point that has another behind it is there
following-in : (p : ℕ) (ps : List ℕ) (q : ℕ) → following p ps ≡ Some q → IsIn p ps
following-in p [] q e = absurd (cc)
following-in p (x ∷ ps) q e =
    elim (eqb_tells x p) [
      | inl same ↦ inl same.1
      | inr other ↦ inr (following-in p ps q (sym (ap (λ (b : Bool). cond b (slice_get ps 0) (following p ps)) other.0)
          ∙ e))
    ]

-- and the one behind it too
following-behind : (p : ℕ) (ps : List ℕ) (q : ℕ) → following p ps ≡ Some q → IsIn q ps
following-behind p [] q e = absurd (cc)
following-behind p (x ∷ ps) q e =
    elim (eqb_tells x p) [
      | inl same ↦ inr (has-in q ps (0, sym (ap (λ (b : Bool). cond b (slice_get ps 0) (following p ps)) same.0) ∙ e))
      | inr other ↦ inr (following-behind p ps q
          (sym (ap (λ (b : Bool). cond b (slice_get ps 0) (following p ps)) other.0) ∙ e))
    ]

pub behind-placed : (flow : Flow) (point next : ℕ) → IsBehind flow point next → IsPlaced flow next
behind-placed flow point next (block, e) = (block, following-behind point (points_of flow block) next e)

-- where no point stands twice, the one behind a point stands at the next place
following-at : (ps : List ℕ) (i p : ℕ) → IsDistinct ps → slice_get ps i ≡ Some p → following p ps ≡ slice_get ps (suc i)
following-at [] i p d e = absurd (cc)
following-at (x ∷ ps) zero p d e =
    elim (eqb_tells x p) [
      | inl same ↦ ap (λ (b : Bool). cond b (slice_get ps 0) (following p ps)) same.0
      | inr other ↦ absurd (other.1 (same_Some x p e))
    ]
following-at (x ∷ ps) (suc i) p d e =
    elim (eqb_tells x p) [
      | inl same ↦ absurd (every-in (λ q. q ≢ x) p ps d.0 (has-in p ps (i, e)) (sym same.1))
      | inr other ↦ ap (λ (b : Bool). cond b (slice_get ps 0) (following p ps)) other.0 ∙ following-at ps i p d.1 e
    ]

-- what is behind a point of a block is what stands at the next place there
pub next-behind : (flow : Flow) (homes : List ℕ) → IsFlow flow homes → (block i point : ℕ)
    → slice_get (points_of flow block) i ≡ Some point
    → (next : ℕ) → IsBehind flow point next ↔ (slice_get (points_of flow block) (suc i) ≡ Some next)
next-behind flow homes is block i point e next = (there, here)
  where
    at : following point (points_of flow block) ≡ slice_get (points_of flow block) (suc i)
    at = following-at (points_of flow block) i point (is.each_block block).once e

    there : IsBehind flow point next → slice_get (points_of flow block) (suc i) ≡ Some next
    there (other, f) =
        let same : other ≡ block =
        sym (one_block flow homes is point other (following-in point (points_of flow other) next f))
        ∙ one_block flow homes is point block (has-in point (points_of flow block) (i, e)) in
        sym at ∙ subst (λ (b : ℕ). following point (points_of flow b) ≡ Some next) same f

    here : slice_get (points_of flow block) (suc i) ≡ Some next → IsBehind flow point next
    here f = (block, at ∙ f)

-- the first point of a block is one of those that were made, if there is one
pub first-within : (flow : Flow) (homes : List ℕ) → IsFlow flow homes → (block : ℕ) (o : Option ℕ)
    → o ≡ slice_get (points_of flow block) 0 → IfSome o (λ next. next < length flow.ops)
first-within flow homes is block None e = tt
first-within flow homes is block (Some next) e =
    placed-within flow homes is next (first-placed flow block next (sym e))

-- so is the point behind another
pub next-within : (flow : Flow) (homes : List ℕ) → IsFlow flow homes → (point : ℕ) (o : Option ℕ)
    → ((next : ℕ) → IsBehind flow point next ↔ (o ≡ Some next)) → IfSome o (λ next. next < length flow.ops)
next-within flow homes is point None f = tt
next-within flow homes is point (Some next) f =
    placed-within flow homes is next (behind-placed flow point next ((f next).1 refl))
