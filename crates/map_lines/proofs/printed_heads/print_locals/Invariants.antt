use Rattle.std.proofs.Common.{◌≡◌, ◌+◌, ◌++◌, drop, length, map}
use Rattle.std.specs.List.{flat_map}
use Rattle.c_tree.specs.Erased.{local_of}
use Rattle.lower_lines.specs.Shown.{local_widths}
use Rattle.map_text.specs.Words.{line_text, numbered, variable_lines}
use Rattle.map_lines.specs.Parts.{local_variables}
use Rattle.map_lines.proofs.printed_heads.print_locals.Given as goal

-- the text so far and that of the other locals are that of all
abbrev pub invariant-loop-local : goal.invariant-loop-local
invariant-loop-local l = record {
  lines : l.out.items ++ flat_map line_text (numbered variable_lines l.number
      (flat_map local_variables (map local_of (drop l.local-index l.locals))))
      ≡ l.initial.out.items
      ++ flat_map line_text (numbered variable_lines 0 (flat_map local_variables (map local_of l.locals)));
  many : l.number + length (local_widths (map local_of (drop l.local-index l.locals)))
      ≡ length (local_widths (map local_of l.locals));
}
