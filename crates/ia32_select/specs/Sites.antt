-- A graph over a map of it, as the code holds them.
use Rattle.std.specs.Prelude.{◌<◌, ℕ, length}
use Rattle.flow_graph.specs.Graphs.{Flow}
use Rattle.puzzle_board.specs.Places.{PlaceMap}
use Rattle.ia32_insn.specs.Places.{Place}
use Rattle.ia32_rows.specs.Placements.{Placement}
use Rattle.ia32_rows.specs.Rows.{place_after, place_before}
use Rattle.ia32_placements.specs.Placed.{above_arrays}
use Rattle.ia32_placements.specs.Standings.{standing_after, standing_before}
use Rattle.ia32_emit.specs.Locations.{slots_of}
use Rattle.ia32_select.specs.MoveTables.{between_in}
use Rattle.ia32_select.specs.declared.site.Site.{Site}

abbrev pub flow_of : Site → Flow
flow_of site = site.graph.now

abbrev pub places_of : Site → PlaceMap
places_of site = site.map.now

-- each variable where the map has it, the arrays at these offsets, and between points the instructions of the table
abbrev pub placement_of : Site → Placement
placement_of site =
    record {
      frame = site.map.now.frame;
      zeroed = above_arrays site.map.now;
      arrays = slots_of site.arrays.now;
      before = standing_before site.map.now;
      after = standing_after site.map.now;
      between = between_in site.moves.now;
    }

-- where a variable stands before a point, and after it: one that stands nowhere is at EBP
abbrev pub before_at : Site → ℕ → ℕ → Place
before_at site point v = place_before (placement_of site) point v

abbrev pub after_at : Site → ℕ → ℕ → Place
after_at site point v = place_after (placement_of site) point v

-- the map has the point
abbrev pub HasPoint : Site → ℕ → Type 0
HasPoint site point = point < length site.map.now.before
