use Rattle.std.proofs.Common.{◌≡◌, ◌++◌, drop, map}
use Rattle.std.specs.List.{flat_map}
use Rattle.c_tree.specs.Erased.{object_of}
use Rattle.map_text.specs.Words.{line_text, numbered, object_lines}
use Rattle.map_lines.specs.Parts.{objects_at}
use Rattle.map_lines.proofs.printed_heads.print_objects.Given as goal

-- the text so far and that of the other objects are that of all
abbrev pub invariant-loop-number : goal.invariant-loop-number
invariant-loop-number l =
    l.out.items ++ flat_map line_text (numbered object_lines l.number
    (objects_at (map object_of (drop l.number l.objects)) (drop l.number l.addresses)))
    ≡ l.initial.out.items
    ++ flat_map line_text (numbered object_lines 0 (objects_at (map object_of l.objects) l.addresses))
