-- The name of this number in all files is that of the number that is left in the files behind.
use Rattle.std.proofs.Common.{◌≡◌, drop, map, slice_get}
use Rattle.c_syntax.specs.Statements.{unit_of}
use Rattle.c_check_laws.specs.Names.{defined_names}
use Rattle.c_front.proofs.names.name_of.Given as goal

abbrev pub invariant-loop-file : goal.invariant-loop-file
invariant-loop-file l = slice_get (defined_names (map unit_of l.files)) l.number
    ≡ slice_get (defined_names (map unit_of (drop l.file-index l.files))) l.left
