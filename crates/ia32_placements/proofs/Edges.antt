-- From a point of a legal map to one that follows it, and at its first point.
use Rattle.std.proofs.Common.{◌≡◌, ℕ, List, inl, inr, Some}
use Rattle.std.proofs.lemmas.Option.{slice_get_within}
use Rattle.ia32_insn.specs.Places.{Place}
use Rattle.flow_graph.specs.Graphs.{Flow, IsFlow, IsPlaced}
use Rattle.flow_graph.specs.Liveness.{BeginsWith, GoesTo, IsLiveBefore, IsSuccessor}
use Rattle.flow_graph.specs.Shapes.{Leads, Onward, IntoCall, ToBlock, ToEither, OutOfCall, OutOfProgram, shape}
use Rattle.flow_liveness.proofs.Placed.{behind-placed, first-placed, fitting}
use Rattle.puzzle_board.specs.Places.{PlaceMap}
use Rattle.allocator.specs.PointMaps.{IsLegalMap, place_before}
use Rattle.ia32_placements.specs.Placed.{no_moves}
use Rattle.ia32_placements.specs.Standings.{standing_after, standing_before}
use Rattle.ia32_placements.proofs.Sides.{before-live}
use Rattle.ia32_placements.proofs.Supported.{stands-after, stood}

module _
    (flow : Flow) (homes : List ℕ) (places : PlaceMap) (is : IsFlow flow homes) (legal : IsLegalMap flow places) where
  -- a point that another leads to is in a block
  pub next-placed : (point next : ℕ) → IsSuccessor flow point next → IsPlaced flow next
  next-placed point next (placed, op, has, leads) = by (shape op).leads leads
    where
      by : (leads : Leads) → GoesTo flow point next leads → IsPlaced flow next
      by Onward behind = behind-placed flow point next behind
      by (IntoCall result words) behind = behind-placed flow point next behind
      by (ToBlock x) first = first-placed flow x next first
      by (ToEither x y) (inl first) = first-placed flow x next first
      by (ToEither x y) (inr first) = first-placed flow y next first
      by OutOfCall none = absurd none
      by OutOfProgram none = absurd none

  -- what stands before a point is live there
  standing-live : (point v : ℕ) (place : Place) → IsPlaced flow point → standing_before places point v ≡ Some place
      → IsLiveBefore flow v point
  standing-live point v place (block, stands) e =
      let (op, has, fits) = fitting flow homes is point block stands in
      let (at, (there, same)) = stood (place_before places point v) place e in
      (legal.live.before point v (slice_get_within flow.ops point op has)).0
      (before-live flow legal.lives places point op (legal.points point op (block, stands) has) v at there)

  -- what stands before a point that follows another stands behind that one too
  pub stood-behind : (point next v : ℕ) (place : Place) → IsSuccessor flow point next
      → standing_before places next v ≡ Some place
      → (old : Place) × (standing_after places point v ≡ Some old)
  stood-behind point next v place (placed, op, has, leads) e =
      let live = standing-live next v place (next-placed point next (placed, op, has, leads)) e in
      stands-after flow homes places no_moves point op is legal placed has v
      (inr ((legal.live.after point v (slice_get_within flow.ops point op has)).1
      (next, (placed, op, has, leads), live)))

  -- nothing stands before the first point
  pub none-first : (point v : ℕ) (place : Place) → BeginsWith flow 0 point
      → standing_before places point v ≡ Some place → ⊥
  none-first point v place first e =
      legal.nothing_first v point first (standing-live point v place (first-placed flow 0 point first) e)
