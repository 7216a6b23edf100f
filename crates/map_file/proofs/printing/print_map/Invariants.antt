use Rattle.std.proofs.Common.{◌≡◌, ◌++◌, drop, map}
use Rattle.std.specs.List.{flat_map}
use Rattle.map_text.specs.Words.{function_lines, line_text, numbered}
use Rattle.map_file.specs.Views.{function_of}
use Rattle.map_file.proofs.printing.print_map.Given as goal

-- the text so far and that of the others are that of all
abbrev pub invariant-loop-number : goal.invariant-loop-number
invariant-loop-number l =
    l.out.items ++ flat_map line_text (numbered function_lines l.number (map function_of (drop l.number l.map.functions.items)))
    ≡ l.initial.out.items ++ flat_map line_text (numbered function_lines 0 (map function_of l.map.functions.items))
