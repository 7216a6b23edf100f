-- The function and the program that a site in memory is in.
use Rattle.c_tree.specs.Erased.{function_of, program_of}
use Rattle.lower_lines.specs.Variables.{Context}
use Rattle.lower_builder.specs.declared.site.Site.{Site}

abbrev pub context_of : Site → Context
context_of s = record { program = program_of s.program.now; function = function_of s.function.now }
