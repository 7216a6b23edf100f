-- The lines of the statements from here on.
use Rattle.std.proofs.Common.{◌-◌, drop, length}
use Rattle.lower.specs.StartedBlocks.{starts_at}
use Rattle.lower.proofs.Ordered.{RestsIf, rest_blocks, rest_lines, runs}
use Rattle.lower_lines.specs.Statements.{sequence_blocks, sequence_lines}
use Rattle.lower_builder.specs.Sites.{context_of}
use Rattle.lower_expressions.specs.Views.{after_of, exits_of}
use Rattle.lower.proofs.walk.+statement.Given as goal

abbrev pub invariant-sequence-body : goal.invariant-sequence-body
invariant-sequence-body l = record {
  rests : RestsIf l.initial.ahead l.ahead l.lines
      (rest_blocks (starts_at l.starts) l.place (runs (context_of l.site) (drop l.place l.body)) (after_of l.after))
      (rest_lines (context_of l.site) (starts_at l.starts) l.place (runs (context_of l.site) (drop l.place l.body))
      (exits_of l.exits) (after_of l.after)) l.initial.lines
      (sequence_blocks (starts_at l.starts) 0 (runs (context_of l.site) l.body) (after_of l.after))
      (sequence_lines (context_of l.site) (starts_at l.starts) 0 (runs (context_of l.site) l.body)
      (exits_of l.exits) l.initial.lines.next (after_of l.after));
}

abbrev pub decreases-sequence-body : goal.decreases-sequence-body
decreases-sequence-body l = length l.body - l.place
