-- Points of blocks.
use Rattle.std.proofs.Common.{ℕ, zero, suc, ◌<◌, List, [], ◌∷◌, length, refl, arith, get_or, inl, inr}
use Rattle.flow_graph.specs.Graphs.{IsIn}

-- a point at a place is among the points
pub in-at : (ps : List ℕ) (i : ℕ) → i < length ps → IsIn (get_or ps i 0) ps
in-at [] i h = absurd (omega arith)
in-at (p ∷ ps) zero h = inl refl
in-at (p ∷ ps) (suc i) h = inr (in-at ps i (omega arith))
