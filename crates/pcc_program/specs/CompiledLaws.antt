-- What the code of a program and its map are worth.
use Rattle.std.specs.Prelude.{ℕ, List}
use Rattle.pcc_base.specs.Bytes.{AreBytes}
use Rattle.pcc_base.specs.Outcome.{AreKnown}
use Rattle.c_tree.specs.Program.{Program}
use Rattle.c_tree.specs.Evaluation.{source_outcome}
use Rattle.flow_graph.specs.Running.{GraphAt}
use Rattle.flow_graph.specs.States as graph
use Rattle.flow_graph.specs.WellFormed.{IsGraphProgram}
use Rattle.elf_image.specs.Layout.{Fits}
use Rattle.pcc_program.specs.Begins.{parts_of_text}
use Rattle.lower_lines.specs.Shown.{ListsLocals, variables_shown}
use Rattle.lower_laws.specs.Lowered.{AreLowered}
use Rattle.ia32_insn.specs.Items.{text_state}
use Rattle.ia32_insn.specs.State as machine
use Rattle.ia32_rows.specs.Follows.{IsRightCode, ShowsVisits}
use Rattle.ia32_rows.specs.Paths.{Path}
use Rattle.ia32_rows.specs.Placements.{Code, IsCode, objects_of}
use Rattle.ia32_rows.specs.Shows.{Shows}
use Rattle.map_text.specs.Maps.{Map}
use Rattle.map_text.specs.Marks.{listed, visits_of}
use Rattle.map_text.specs.Rules.{IsMap}
use Rattle.map_lines.specs.MapOf.{IsMapOf}
use Rattle.pcc_program.specs.EveryPoint.{IsTrueEverywhere}
use Rattle.pcc_program.specs.Products.{BelongsTo, IsImageOf, image_of}

-- What the passes make of a program: the graphs that it is lowered to; their code, which does what they do, in a
-- text that an image has room for; and a map of the code that lists locals and shows what is visited, which is known.
pub record IsCompiled (program : Program) (code : Code) (map : Map) : Type 0 where
  pub lowered : AreLowered program code.program
  pub laid : IsCode code
  pub right : IsRightCode code
  pub room : Fits (parts_of_text code.text (objects_of code.program))
  pub rules : IsMap map
  pub is_map : IsMapOf program code map
  pub lists : ListsLocals program (listed map)
  pub shows : ShowsVisits code (variables_shown program (listed map)) (visits_of map)
  pub known : (input : List ℕ) (n : ℕ) → AreKnown (source_outcome program (listed map) input n).visits

-- Then the image of the code's text does what the program does, as the map shows it.
abbrev pub CompiledDoesAs : Type 0
CompiledDoesAs =
    (program : Program) (code : Code) (map : Map) → IsCompiled program code map
    → IsImageOf program map (image_of code)

-- The machine comes from the first state of the code's text to one that shows this state of the graphs.
abbrev pub IsReached : Code → List ℕ → graph.State → Type 0
IsReached code input g =
    (addresses : List ℕ) × (s : machine.State)
    × Path addresses (text_state code.text (objects_of code.program) input) s × Shows code input g s

-- Of a map that belongs to a program and an image: every state that the program's graphs come to is shown by a state
-- that the image's text comes to, with variables, arrays and waiting calls in the places and at the addresses that the
-- map has.
abbrev pub GraphsAreShown : Type 0
GraphsAreShown =
    (program : Program) (image : List ℕ) (map : Map) (belongs : BelongsTo program image map) (input : List ℕ) (k : ℕ)
    (g : graph.State) → AreBytes input → GraphAt belongs.code.program input k g → IsReached belongs.code input g

-- Every state that the graphs come to is shown, in order, by a state that the image of right code comes to.
abbrev pub RightCodeIsTrue : Type 0
RightCodeIsTrue =
    (code : Code) → IsGraphProgram code.program → IsRightCode code
    → Fits (parts_of_text code.text (objects_of code.program)) → IsTrueEverywhere (image_of code) code
