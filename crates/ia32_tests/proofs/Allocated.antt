-- The items of a graph can be selected over the map that is allocated for it.
use Rattle.std.proofs.Common.{◌≡◌, ◌<◌, ◌≤◌, ◌+◌, ◌*◌, ◌^◌, ℕ, [], length, sym, ap, subst, ◌∙◌}
use Rattle.std.proofs.lemmas.Option.{same_Some}
use Rattle.flow_graph.specs.Graphs.{Flow, IsIn}
use Rattle.flow_graph.specs.Liveness.{BeginsWith, IsLiveBefore}
use Rattle.flow_graph.specs.Lives.{AreLive, Lives, at_point}
use Rattle.flow_graph.specs.Sizes.{most_words}
use Rattle.puzzle_board.specs.Places.{PlaceMap}
use Rattle.allocator.specs.Allocations.{IsAllocation, NothingFirst}
use Rattle.allocator.specs.PointMaps.{IsLegalMap, bytes_of_arrays}
use Rattle.allocator.specs.SplitForms.{Form}
use Rattle.ia32_select.specs.Selections.{CanSelect}

-- nothing is live first where the list of the first point is empty
nothing-first : (flow : Flow) (lives : Lives) → AreLive flow lives → BeginsWith flow 0 0 → 0 < length flow.ops
    → at_point lives.before 0 ≡ [] → NothingFirst flow
nothing-first flow lives live begins within none v point first is =
    let same : 0 ≡ point = same_Some 0 point (sym begins ∙ first) in
    subst (IsIn v) none ((live.before 0 v within).1 (subst (IsLiveBefore flow v) (sym same) is))

pub can-select : (flow : Flow) (lives : Lives) (form : Form) (places : PlaceMap)
    → form ≡ record { graph = flow; lives = lives } → AreLive flow lives → BeginsWith flow 0 0 → 0 < length flow.ops
    → at_point lives.before 0 ≡ [] → IsAllocation form places
    → (NothingFirst form.graph → IsLegalMap form.graph places)
    → 24 + 4 * length flow.widths + 4 * most_words flow.ops + bytes_of_arrays flow.arrays ≤ 0x4000
    → length flow.blocks + length flow.ops < 2 ^ 32 → CanSelect flow places
can-select flow lives form places e live begins within none is legal small labels =
    let same : form.graph ≡ flow = ap (λ (f : Form). f.graph) e in
    let nothing : NothingFirst form.graph =
    subst NothingFirst (sym same) (nothing-first flow lives live begins within none) in
    record {
      legal = subst (λ (g : Flow). IsLegalMap g places) same (legal nothing);
      points = is.points ∙ ap (λ (g : Flow). length g.ops) same;
      variables = is.variables ∙ ap (λ (g : Flow). length g.widths) same;
      small = small;
      labels = labels;
    }
