use Rattle.std.proofs.Common.{◌≡◌, ◌++◌, drop, map}
use Rattle.std.specs.List.{flat_map}
use Rattle.c_tree.specs.Erased.{function_of}
use Rattle.map_text.specs.Words.{function_lines, line_text, numbered}
use Rattle.map_lines.specs.MapOf.{functions_over}
use Rattle.map_lines.specs.Printing.{address_in, graph_of, home_of}
use Rattle.map_lines.proofs.printed.print_map.Given as goal

-- the text so far and that of the other functions are that of all
abbrev pub invariant-loop-number : goal.invariant-loop-number
invariant-loop-number l =
    l.out.items ++ flat_map line_text (numbered function_lines l.number (functions_over l.number
    (map function_of (drop l.number l.program.functions.items)) (map graph_of (drop l.number l.homes))
    (map home_of (drop l.number l.homes)) (address_in (map (λ v. v.items) l.points))))
    ≡ l.initial.out.items ++ flat_map line_text (numbered function_lines 0 (functions_over 0
    (map function_of l.program.functions.items) (map graph_of l.homes) (map home_of l.homes)
    (address_in (map (λ v. v.items) l.points))))
