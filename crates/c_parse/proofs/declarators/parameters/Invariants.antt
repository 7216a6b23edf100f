-- What is read in all is what the turns from here read.
use Rattle.std.proofs.Common.{◌≤◌, length, map}
use Rattle.c_syntax.specs.Declarations.{parameter_of}
use Rattle.c_grammar.proofs.Chains.{Continues}
use Rattle.c_grammar.specs.DeclarationReading.{list_step, read_parameter, read_parameters}
use Rattle.c_parse_expressions.specs.ExpressionReadings.{below}
use Rattle.c_parse.proofs.declarators.parameters.Given as goal

abbrev pub invariant-parameters : goal.invariant-parameters
invariant-parameters l = record {
  reads : Continues (list_step (read_parameter (below l.height.levels)))
      (map parameter_of l.parameters.items, l.commas.items) l.cursor.rest.now
      (read_parameters (below l.height.levels) l.fn.cursor.rest.now);
  shorter : length l.cursor.rest.now ≤ length l.fn.cursor.rest.now;
}

abbrev pub decreases-parameters : goal.decreases-parameters
decreases-parameters l = length l.cursor.rest.now
