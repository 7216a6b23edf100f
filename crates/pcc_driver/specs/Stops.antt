-- That a compiled image never stops, so that the status of `run` of one is never 9.
use Rattle.std.specs.Prelude.{◌≢◌, ℕ, List}
use Rattle.pcc_base.specs.Bytes.{AreBytes}
use Rattle.pcc_base.specs.Outcome as outcome
use Rattle.pcc_base.specs.Outcome.{Outcome}
use Rattle.pcc_base.specs.declared.run.Stop.{Stop}
use Rattle.c_tree.specs.Program.{Program}
use Rattle.c_tree.specs.WellTyped.{WellTyped}
use Rattle.ia32_insn.specs.State.{State}
use Rattle.ia32_insn.specs.Runs.{Runs, no_visits}
use Rattle.ia32_machine.specs.First.{First}
use Rattle.map_text.specs.Maps.{Map}
use Rattle.pcc_program.specs.Products.{IsImageOf}

-- over no list of bytes do so many steps of an image end in a stop
abbrev pub NeverStops : List ℕ → Type 0
NeverStops image =
    (input : List ℕ) (steps : ℕ) (s : State) (o : Outcome) (cause : Stop) (address : ℕ) → AreBytes input
    → First image input s → Runs no_visits steps s o → o.end ≢ outcome.Stopped cause address

-- the image of a typed program never stops
abbrev pub ImagesNeverStop : Type 0
ImagesNeverStop =
    (program : Program) (map : Map) (image : List ℕ) → WellTyped program → IsImageOf program map image
    → NeverStops image
