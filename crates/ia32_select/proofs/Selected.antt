-- The items over a map are those that selecting asks for.
use Rattle.std.proofs.Common.{◌≡◌, ℕ, List, sym, ap, subst, ◌∙◌}
use Rattle.ia32_insn.specs.declared.item.Item.{Item}
use Rattle.flow_graph.specs.Graphs.{Flow, IsFlow}
use Rattle.puzzle_board.specs.Places.{PlaceMap}
use Rattle.ia32_rows.specs.Placements.{Placement}
use Rattle.ia32_rows.specs.Rows.{selected}
use Rattle.ia32_placements.specs.Laws.{AllMove}
use Rattle.ia32_placements.specs.Placed.{above_arrays, arrays_in, placement_in}
use Rattle.ia32_placements.specs.Standings.{standing_after, standing_before}
use Rattle.ia32_placements.proofs.Whole.{legal-maps-support}
use Rattle.ia32_select.specs.MoveTables.{Ways, between_in}
use Rattle.ia32_select.specs.Selections.{CanSelect, IsSelection}
use Rattle.ia32_select.specs.Sizes.{IsCodeIn, SelectedIsCode}
use Rattle.ia32_select.proofs.Offsets.{frame-small}

-- the placement of a map, with arrays at these places
abbrev pub with_arrays : PlaceMap → List Ways → List ℕ → Placement
with_arrays places table arrays =
    record {
      frame = places.frame;
      zeroed = above_arrays places;
      arrays = arrays;
      before = standing_before places;
      after = standing_after places;
      between = between_in table;
    }

pub selection-is : (flow : Flow) (homes : List ℕ) (places : PlaceMap) (table : List Ways) (arrays : List ℕ)
    (items : List Item) → IsFlow flow homes → CanSelect flow places → SelectedIsCode
    → AllMove flow places (between_in table) → arrays ≡ arrays_in flow places
    → items ≡ selected flow (with_arrays places table arrays) → IsSelection flow places items
selection-is flow homes places table arrays items is h law moves same e =
    let supports = legal-maps-support flow homes places (between_in table) is h.legal moves in
    let are : items ≡ selected flow (placement_in flow places (between_in table)) =
    e ∙ ap (λ (l : List ℕ). selected flow (with_arrays places table l)) same in
    record {
      between = between_in table;
      supports = supports;
      items_are = are;
      code = λ functions objects graph. subst (IsCodeIn functions objects flow) (sym are)
          (law functions objects flow (placement_in flow places (between_in table)) graph supports
          (frame-small flow places h));
    }
