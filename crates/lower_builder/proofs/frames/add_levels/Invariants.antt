use Rattle.std.proofs.Common.{◌≡◌, ◌++◌}
use Rattle.lower_lines.specs.Variables.{levels_widths}
use Rattle.lower_builder.proofs.frames.add_levels.Given as goal

abbrev pub invariant-loop-level : goal.invariant-loop-level
invariant-loop-level l = l.widths.items ≡ l.initial.widths.items ++ levels_widths l._level
