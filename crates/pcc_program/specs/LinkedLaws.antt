-- What the sections of a program's functions are worth, once they are linked.
use Rattle.std.specs.Prelude.{◌≡◌, ◌<◌, ◌+◌, ◌^◌, List, length, map}
use Rattle.std.specs.List.{All}
use Rattle.pcc_base.specs.Bytes.{AreBytes}
use Rattle.c_tree.specs.Program.{Program}
use Rattle.elf_image.specs.Layout.{image_bytes}
use Rattle.elf_image.specs.Segments.{parts_of}
use Rattle.elf_link.specs.declared.linked.Linked.{Linked}
use Rattle.elf_link.specs.Parts.{order_of}
use Rattle.elf_link.specs.Linking.{IsLinked}
use Rattle.flow_graph.specs.States.{GraphProgram}
use Rattle.ia32_asm.specs.declared.section.Section.{Section}
use Rattle.lower_laws.specs.Lowered.{AreLowered}
use Rattle.map_lines.specs.declared.home.Home.{Home}
use Rattle.map_lines.specs.MapOf.{map_of}
use Rattle.map_lines.specs.Printing.{CanPrintAll, address_in, graph_of, home_of}
use Rattle.map_text.specs.Maps.{Map}
use Rattle.pcc_program.specs.Passes.{AreSectionsFrom, IsAllocated, items_of}
use Rattle.pcc_program.specs.Products.{IsImageOf}
use Rattle.pcc_program.specs.Programs.{IsCompilable}

-- What was linked of a program's graphs, homes and sections: the text of the sections' items, of bytes, with the start
-- and the routines.
pub record AreLinked (program : Program) (graphs : GraphProgram) (homes : List Home) (sections : List Section)
    (linked : Linked) : Type 0 where
  pub compilable : IsCompilable program
  pub lowered : AreLowered program graphs
  pub graphs_are : map graph_of homes ≡ graphs.functions
  pub allocated : All IsAllocated homes
  pub sections_of : AreSectionsFrom 0 homes sections
  pub linked_is : IsLinked (items_of 0 homes sections sections_of) (order_of sections) graphs.objects graphs.main linked
  pub small : length linked.image.text.items < 2 ^ 30 + 0x400
  pub text : AreBytes linked.image.text.items
  pub data_bytes : AreBytes linked.image.data_bytes.items

-- the map of what was linked
abbrev pub linked_map : Program → List Home → Linked → Map
linked_map program homes linked =
    map_of program (map graph_of homes) (map home_of homes) linked.objects.items
    (address_in (map (λ v. v.items) linked.points.items))

-- its text can be made
abbrev pub LinkedCanPrint : Type 0
LinkedCanPrint =
    (program : Program) (graphs : GraphProgram) (homes : List Home) (sections : List Section) (linked : Linked)
    → AreLinked program graphs homes sections linked
    → CanPrintAll program homes linked.objects.items (map (λ v. v.items) linked.points.items)

-- and the image of what was linked does what the program does, as this map shows it
abbrev pub LinkedDoesAs : Type 0
LinkedDoesAs =
    (program : Program) (graphs : GraphProgram) (homes : List Home) (sections : List Section) (linked : Linked)
    → AreLinked program graphs homes sections linked
    → IsImageOf program (linked_map program homes linked) (image_bytes (parts_of linked.image))
