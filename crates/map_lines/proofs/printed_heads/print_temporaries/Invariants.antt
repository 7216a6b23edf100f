use Rattle.std.proofs.Common.{◌≡◌, ◌++◌, drop, map}
use Rattle.std.specs.List.{flat_map}
use Rattle.map_text.specs.Words.{line_text, numbered, variable_lines}
use Rattle.map_lines.specs.Parts.{temporary}
use Rattle.map_lines.proofs.printed_heads.print_temporaries.Given as goal

-- the text so far and that of the other temporaries are that of all
abbrev pub invariant-loop-number : goal.invariant-loop-number
invariant-loop-number l =
    l.out.items ++ flat_map line_text (numbered variable_lines l.number (map temporary (drop l.number l.graph.widths)))
    ≡ l.initial.out.items
    ++ flat_map line_text (numbered variable_lines l.fn.first (map temporary (drop l.fn.first l.graph.widths)))
