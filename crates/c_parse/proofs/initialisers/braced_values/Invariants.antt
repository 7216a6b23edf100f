-- What is read in all is what the turns from here read.
use Rattle.std.proofs.Common.{◌≡◌, ◌<◌, length, None}
use Rattle.c_grammar.proofs.Chains.{Continues}
use Rattle.c_grammar.specs.Reading.{readers}
use Rattle.c_grammar.specs.DeclarationReading.{brace_step, read_values}
use Rattle.c_parse_expressions.specs.Values.{values_of, height_of_values}
use Rattle.c_parse.proofs.initialisers.braced_values.Given as goal

abbrev pub invariant-values : goal.invariant-values
invariant-values l = record {
  reads : Continues (brace_step (readers l.lower.levels)) (values_of l.values, None) l.cursor.rest.now
      (read_values (readers l.lower.levels) l.fn.cursor.rest.now);
  height : l.values.height ≡ height_of_values l.values;
  shorter : length l.cursor.rest.now < length l.fn.cursor.rest.now;
}

abbrev pub decreases-values : goal.decreases-values
decreases-values l = length l.cursor.rest.now
