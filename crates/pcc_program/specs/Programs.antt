-- The programs that are compiled.
use Rattle.std.specs.Prelude.{◌≤◌}
use Rattle.std.specs.List.{All}
use Rattle.c_tree.specs.Program.{Program}
use Rattle.c_tree.specs.WellTyped.{WellTyped}
use Rattle.c_typing.specs.Typed.{arrays_bytes, most_arrays}
use Rattle.lower_laws.specs.Declared.{IsDeclaredFirst}
use Rattle.lower_lines.specs.Words.{IsInMemory}
use Rattle.map_lines.specs.MapLaws.{IsNamedFunction}

-- A typed program in memory that declares each local before it names it, whose functions and locals have identifiers as
-- names, and whose static objects are within their limit. Every program that typing accepts is one.
pub record IsCompilable (program : Program) : Type 0 where
  pub typed : WellTyped program
  pub declared : IsDeclaredFirst program
  pub memory : IsInMemory program
  pub names : All IsNamedFunction program.functions
  pub objects : arrays_bytes program ≤ most_arrays
