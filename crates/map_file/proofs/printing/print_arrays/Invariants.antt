use Rattle.std.proofs.Common.{◌≡◌, ◌++◌, drop, map}
use Rattle.std.specs.List.{flat_map}
use Rattle.map_text.specs.Words.{array_lines, line_text, numbered}
use Rattle.map_file.specs.Views.{array_of}
use Rattle.map_file.proofs.printing.print_arrays.Given as goal

-- the text so far and that of the others are that of all
abbrev pub invariant-loop-number : goal.invariant-loop-number
invariant-loop-number l =
    l.out.items ++ flat_map line_text (numbered array_lines l.number (map array_of (drop l.number l.arrays)))
    ≡ l.initial.out.items ++ flat_map line_text (numbered array_lines 0 (map array_of l.arrays))
