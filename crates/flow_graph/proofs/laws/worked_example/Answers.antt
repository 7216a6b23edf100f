-- The steps are computed.
use Rattle.std.proofs.Common.{ℕ, zero, suc, ◌≤◌, pos, refl, sym, subst, inl, inr, arith}
use Rattle.std.proofs.lemmas.Option.{same_Some}
use Rattle.flow_graph.specs.declared.op.Op.{Op}
use Rattle.flow_graph.specs.declared.op.Op.TheVariants.{Const}
use Rattle.flow_graph.specs.Graphs.{IsIn, IsPlaced}
use Rattle.flow_graph.specs.Liveness.{AfterUse, IsLiveBefore, IsUsedAt, ReachesUse, uses}
use Rattle.flow_graph.specs.Worked.{five_points, one_removed}
use Rattle.flow_graph.proofs.laws.worked_example.Goals as goal

-- no block has the point
not-placed : IsPlaced one_removed 0 → ⊥
not-placed (zero, inl same) = absurd (omega (arith, same))
not-placed (zero, inr none) = none
not-placed (suc block, none) = none

no-path : (v n : ℕ) → ReachesUse one_removed v n 0 → ⊥
no-path v zero used = not-placed used.0
no-path v (suc n) reaches = not-placed reaches.2.0

nothing-live : (v : ℕ) → IsLiveBefore one_removed v 0 → ⊥
nothing-live v (n, reaches) = no-path v n reaches

pub returns-clause-before : goal.returns-clause-before
returns-clause-before c = (_, refl, 1, refl)

pub returns-clause-after : goal.returns-clause-after
returns-clause-after c = (_, refl, 5, refl)

pub returns-clause-removed : goal.returns-clause-removed
returns-clause-removed c = nothing-live

pub returns-clause-no_scalar : goal.returns-clause-no_scalar
returns-clause-no_scalar c = refl

pub returns-clause-unknown : goal.returns-clause-unknown
returns-clause-unknown c = refl

-- point 2 reads nothing
reads-nothing : IsUsedAt five_points 0 2 → ⊥
reads-nothing used = subst (λ (o : Op). IsIn 0 (uses o)) (sym (same_Some (Const 0 (pos 300)) used.1 used.2)) used.3

-- and no path of no steps leads from it
none-yet : (fewer : ℕ) → fewer ≤ 0 → AfterUse five_points 0 fewer 2 → ⊥
none-yet zero le after = after
none-yet (suc n) le after = absurd (omega (arith, le))

pub returns-clause-distance : goal.returns-clause-distance
returns-clause-distance c = (
  reads-nothing,
  (3, ((0, inr (inr (inl refl))), _, refl, (0, refl)), ((0, inr (inr (inr (inl refl)))), _, refl, inl refl)),
  none-yet,
)
