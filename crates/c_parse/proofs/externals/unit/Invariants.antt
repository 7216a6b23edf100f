-- What is read in all is what the turns from here read.
use Rattle.std.proofs.Common.{◌≤◌, length, map}
use Rattle.c_syntax.specs.Statements.{external_of}
use Rattle.c_grammar.proofs.Chains.{Continues}
use Rattle.c_grammar.specs.StatementReading.{unit_step, read_unit}
use Rattle.c_parse.specs.StatementParts.{below_node}
use Rattle.c_parse.proofs.externals.unit.Given as goal

abbrev pub invariant-externals : goal.invariant-externals
invariant-externals l = record {
  reads : Continues (unit_step (below_node l.height.levels)) (map external_of l.externals.items) l.cursor.rest.now
      (read_unit (below_node l.height.levels) l.fn.cursor.rest.now);
  shorter : length l.cursor.rest.now ≤ length l.fn.cursor.rest.now;
}

abbrev pub decreases-externals : goal.decreases-externals
decreases-externals l = length l.cursor.rest.now
