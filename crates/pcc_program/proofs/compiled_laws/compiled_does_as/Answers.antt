-- The code runs as its graphs do, its image begins in its first state, and the map shows the visits.
use Rattle.std.proofs.Common.{refl}
use Rattle.c_tree.specs.Program.{Program}
use Rattle.c_tree.specs.Evaluation.{source_outcome}
use Rattle.ia32_insn.specs.Items.{text_state}
use Rattle.pcc_program.specs.Begins.{TextBegins}
use Rattle.ia32_rows.specs.Placements.{Code, objects_of}
use Rattle.lower_lines.specs.Shown.{variables_shown}
use Rattle.map_text.specs.Maps.{Map}
use Rattle.map_text.specs.Marks.{listed, visits_of}
use Rattle.pcc_program.specs.CompiledLaws.{IsCompiled}
use Rattle.pcc_program.specs.Products.{DoesAs, image_of}
use Rattle.pcc_program.proofs.EveryPoint.{every-point}
use Rattle.pcc_program.proofs.compiled_laws.compiled_does_as.Goals as goal

-- Lowering keeps the program's outcome, the code runs as the graphs do, the map lists locals and shows the visits of
-- the graphs, which are known, and the image begins in the text's first state: so the image does what the program does.
image-does : (program : Program) (code : Code) (map : Map) → TextBegins → IsCompiled program code map
    → DoesAs (image_of code) map program
image-does program code map begins is input n bytes =
    let outcome = source_outcome program (listed map) input n in
    let first = text_state code.text (objects_of code.program) input in
    let (m, no_fewer, run) = is.right.runs (variables_shown program (listed map)) (visits_of map) is.shows input n
    outcome bytes (is.known input n) (is.lowered.keeps (listed map) is.lists input n) in
    (m, no_fewer, (first, begins code.text (objects_of code.program) input is.room, run))

pub returns : goal.returns
returns c = λ program code map is.
    record {
      rules = is.rules;
      belongs = record {
        code = code;
        lowered = is.lowered;
        laid = is.laid;
        right = is.right;
        image_is = refl;
        is_map = is.is_map;
      };
      everywhere = every-point c.first_is_state.ensures c.step_keeps_state.ensures c.text_begins.ensures code
          is.lowered.well_formed is.right is.room;
      correct = image-does program code map c.text_begins.ensures is;
    }
