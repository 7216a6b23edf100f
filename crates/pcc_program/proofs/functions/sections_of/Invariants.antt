-- The functions so far have their sections.
use Rattle.std.proofs.Common.{take}
use Rattle.pcc_program.specs.Passes.{AreSectionsFrom}
use Rattle.pcc_program.proofs.functions.sections_of.Given as goal

abbrev pub invariant-loop-function : goal.invariant-loop-function
invariant-loop-function l = AreSectionsFrom 0 (take l.function l.homes) l.sections.items
