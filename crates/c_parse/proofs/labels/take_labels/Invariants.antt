-- What is read in all is what the turns from here read.
use Rattle.std.proofs.Common.{◌≤◌, length, map}
use Rattle.c_syntax.specs.Statements.{label_of}
use Rattle.c_grammar.proofs.Chains.{Continues}
use Rattle.c_grammar.specs.StatementReading.{label_step, read_labels}
use Rattle.c_grammar.specs.Reading.{readers}
use Rattle.c_parse.proofs.labels.take_labels.Given as goal

abbrev pub invariant-labels : goal.invariant-labels
invariant-labels l = record {
  reads : Continues (label_step (readers l.lower.levels).conditional) (map label_of l.labels.items) l.cursor.rest.now
      (read_labels (readers l.lower.levels).conditional l.fn.cursor.rest.now);
  shorter : length l.cursor.rest.now ≤ length l.fn.cursor.rest.now;
}

abbrev pub decreases-labels : goal.decreases-labels
decreases-labels l = length l.cursor.rest.now
