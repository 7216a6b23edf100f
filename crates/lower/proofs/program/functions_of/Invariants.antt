use Rattle.std.proofs.Common.{◌≡◌, map, take}
use Rattle.c_tree.specs.Erased.{function_of, program_of}
use Rattle.lower_lines.specs.Programs.{graph_of_function}
use Rattle.lower.proofs.program.functions_of.Given as goal

abbrev pub invariant-loop-function : goal.invariant-loop-function
invariant-loop-function l = l.graphs.items
    ≡ map (graph_of_function (program_of l.program))
    (map function_of (take l.function-index l.program.functions.items))
