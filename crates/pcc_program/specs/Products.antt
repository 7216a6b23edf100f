-- What a compiled image is worth: for every list of bytes as its input and every number n of turns of the source there
-- is a number of machine steps, at least n, with exactly the outcome of those turns.
use Rattle.std.specs.Prelude.{◌≡◌, ◌≤◌, ℕ, List}
use Rattle.pcc_base.specs.Bytes.{AreBytes}
use Rattle.pcc_base.specs.Outcome.{Outcome}
use Rattle.c_tree.specs.Program.{Program}
use Rattle.c_tree.specs.Evaluation.{source_outcome}
use Rattle.lower_laws.specs.Lowered.{AreLowered}
use Rattle.elf_image.specs.Layout.{image_bytes}
use Rattle.pcc_program.specs.Begins.{parts_of_text}
use Rattle.pcc_program.specs.EveryPoint.{IsTrueEverywhere}
use Rattle.ia32_insn.specs.State.{State}
use Rattle.ia32_insn.specs.Runs.{Runs}
use Rattle.ia32_machine.specs.First.{First}
use Rattle.ia32_rows.specs.Follows.{IsRightCode}
use Rattle.ia32_rows.specs.Placements.{Code, IsCode, objects_of}
use Rattle.map_text.specs.Maps.{Map}
use Rattle.map_text.specs.Marks.{visits_of, listed}
use Rattle.map_text.specs.Rules.{IsMap}
use Rattle.map_text.specs.Words.{map_text}
use Rattle.map_lines.specs.MapOf.{IsMapOf}

-- m steps of the image with these bytes have this outcome, with the visits that the map shows
abbrev pub ImageOutcome : List ℕ → Map → List ℕ → ℕ → Outcome → Type 0
ImageOutcome image map input m outcome = (s : State) × First image input s × Runs (visits_of map) m s outcome

-- the image does what the program does: the same visited statements with the same values in the map's
-- places, the same input taken and bytes written, and the same end or still running
abbrev pub DoesAs : List ℕ → Map → Program → Type 0
DoesAs image map program =
    (input : List ℕ) (n : ℕ) → AreBytes input
    → (m : ℕ) × (n ≤ m) × ImageOutcome image map input m (source_outcome program (listed map) input n)

-- the image of the text of code, with the static objects of its program
abbrev pub image_of : Code → List ℕ
image_of code = image_bytes (parts_of_text code.text (objects_of code.program))

-- The image and the map belong to the program: there are graphs that are all that lowering promises of the program,
-- with its locals, arrays, statements and static objects and its outcomes, and no temporary live at a mark; their code
-- stands in the text that is the image's, and follows the graphs step by step, with each variable and array where the
-- code has it; and the map is that of this code.
pub record BelongsTo (program : Program) (image : List ℕ) (map : Map) : Type 0 where
  pub code : Code
  pub lowered : AreLowered program code.program
  pub laid : IsCode code
  pub right : IsRightCode code
  pub image_is : image ≡ image_of code
  pub is_map : IsMapOf program code map

-- An image does what a program does, by a map that belongs to it and to the program. The map is true at every point: the
-- machine comes to each state of the program's graphs, in order, with variables, arrays and waiting calls where the map has them.
pub record IsImageOf (program : Program) (map : Map) (image : List ℕ) : Type 0 where
  pub rules : IsMap map
  pub belongs : BelongsTo program image map
  pub everywhere : IsTrueEverywhere image belongs.code
  pub correct : DoesAs image map program

-- the texts of a map and an image for a program
abbrev pub AreProducts : Program → List ℕ → List ℕ → Type 0
AreProducts program map_bytes image = (map : Map) × (map_bytes ≡ map_text map) × IsImageOf program map image
