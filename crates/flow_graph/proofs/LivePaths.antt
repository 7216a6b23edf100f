-- The laws of liveness, by the length of a path.
use Rattle.std.proofs.Common.{ℕ, zero, suc, ◌⊎◌, inl, inr}
use Rattle.flow_graph.specs.Graphs.{Flow, IsIn}
use Rattle.flow_graph.specs.Liveness.{IsDefinedAt, IsLiveAfter, IsLiveBefore, IsSuccessor, IsUsedAt, LiveStep}
use Rattle.flow_graph.specs.Liveness.{LiveWithin, ReachesUse}

-- the first step of a path to a use
first-step : (flow : Flow) (v point : ℕ) → IsLiveBefore flow v point
    → IsUsedAt flow v point ⊎ ((IsDefinedAt flow v point → ⊥) × IsLiveAfter flow v point)
first-step flow v point (zero, used) = inl used
first-step flow v point (suc n, (free, next, leads, reaches)) = inr (free, (next, leads, (n, reaches)))

-- a step more before a path
step-before : (flow : Flow) (v point : ℕ)
    → IsUsedAt flow v point ⊎ ((IsDefinedAt flow v point → ⊥) × IsLiveAfter flow v point) → IsLiveBefore flow v point
step-before flow v point (inl used) = (zero, used)
step-before flow v point (inr (free, (next, leads, (n, reaches)))) = (suc n, (free, next, leads, reaches))

-- what is live before a point, by the first step
pub live_step : LiveStep
live_step flow v point = (first-step flow v point, step-before flow v point)

-- what holds of each use, and of a point where it holds of its successor, holds wherever a path reaches a use
pub along-path : (flow : Flow) (Has : ℕ → ℕ → Type 0)
    → ((point v : ℕ) → IsUsedAt flow v point → Has point v)
    → ((point next v : ℕ) → IsSuccessor flow point next → Has next v → (IsDefinedAt flow v point → ⊥) → Has point v)
    → (n point v : ℕ) → ReachesUse flow v n point → Has point v
along-path flow Has uses steps zero point v used = uses point v used
along-path flow Has uses steps (suc n) point v (free, next, leads, reaches) =
    steps point next v leads (along-path flow Has uses steps n next v reaches) free

-- all that is live is in sets that contain what each step brings
pub live_within : LiveWithin
live_within flow sets uses steps point v (n, reaches) =
    along-path flow (λ p w. IsIn w (sets p)) uses steps n point v reaches
