-- What is made of accepted sources.
use Rattle.std.specs.Prelude.{ℕ, List}
use Rattle.c_tree.specs.Program.{Program}
use Rattle.pcc_driver.specs.Programs.{HaveTypedProgram}
use Rattle.lower_laws.specs.Declared.{IsDeclaredFirst}
use Rattle.pcc_program.specs.Products as compiled

-- the texts of a map and an image for sources, whose program declares each local before it is named
abbrev pub AreProducts : List (List ℕ) → List ℕ → List ℕ → Type 0
AreProducts texts map_bytes image_bytes = (program : Program)
    × (HaveTypedProgram texts program × IsDeclaredFirst program) × compiled.AreProducts program map_bytes image_bytes
