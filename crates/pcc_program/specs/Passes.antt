-- What the passes make of each function of a program.
use Rattle.std.specs.Prelude.{◌≤◌, ◌+◌, ℕ, List, [], ◌∷◌, length, ⊤}
use Rattle.flow_graph.specs.Lives.{IsLives}
use Rattle.allocator.specs.Allocations.{IsAllocation}
use Rattle.allocator.specs.SplitForms.{IsForm}
use Rattle.ia32_asm.specs.declared.section.Section.{Section}
use Rattle.ia32_asm.specs.Sections.{IsSection}
use Rattle.ia32_insn.specs.declared.item.Item.{Item}
use Rattle.ia32_placements.specs.Placed.{placement_in}
use Rattle.ia32_rows.specs.Placements.{Placement}
use Rattle.ia32_select.specs.Selections.{IsSelection}
use Rattle.ia32_select.specs.Sizes.{most_bytes}
use Rattle.map_lines.specs.declared.home.Home.{Home}
use Rattle.map_lines.specs.Printing.{graph_of}

-- the home of a graph's variables: what is live in the graph, in ascending order, and a map that is allocated by it
pub record IsAllocated (home : Home) : Type 0 where
  pub form : IsForm home.form
  pub rising : IsLives home.form.lives
  pub allocated : IsAllocation home.form home.places

-- the section of a function of this number: items of its graph over its home, assembled
pub record IsSectionOf (home : Home) (function : ℕ) (section : Section) : Type 0 where
  pub items : List Item
  pub selection : IsSelection (graph_of home) home.places items
  pub stands : IsSection function items section
  pub size : length section.bytes.items ≤ most_bytes (graph_of home)

-- the sections of functions with these homes, which are numbered from one on
abbrev pub AreSectionsFrom : ℕ → List Home → List Section → Type 0
AreSectionsFrom k [] [] = ⊤
AreSectionsFrom k (home ∷ homes) (s ∷ sections) = IsSectionOf home k s × AreSectionsFrom (k + 1) homes sections
AreSectionsFrom k [] (s ∷ sections) = ⊥
AreSectionsFrom k (home ∷ homes) [] = ⊥

-- their items, and the placements that these are over
abbrev pub items_of : (k : ℕ) (homes : List Home) (sections : List Section) → AreSectionsFrom k homes sections
    → List (List Item)
items_of k [] [] made = []
items_of k (home ∷ homes) (s ∷ sections) made = made.0.items ∷ items_of (k + 1) homes sections made.1
items_of k [] (s ∷ sections) made = []
items_of k (home ∷ homes) [] made = []

abbrev pub placements_of : (k : ℕ) (homes : List Home) (sections : List Section) → AreSectionsFrom k homes sections
    → List Placement
placements_of k [] [] made = []
placements_of k (home ∷ homes) (s ∷ sections) made =
    placement_in (graph_of home) home.places made.0.selection.between
    ∷ placements_of (k + 1) homes sections made.1
placements_of k [] (s ∷ sections) made = []
placements_of k (home ∷ homes) [] made = []
