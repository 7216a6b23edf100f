-- What is read in all is what the turns from here read.
use Rattle.std.proofs.Common.{◌≤◌, length, map}
use Rattle.c_syntax.specs.Declarations.{item_of}
use Rattle.c_grammar.proofs.Chains.{Continues}
use Rattle.c_grammar.specs.DeclarationReading.{list_step, read_item, read_more}
use Rattle.c_parse_expressions.specs.ExpressionReadings.{below}
use Rattle.c_parse.proofs.declarations.items_behind.Given as goal

abbrev pub invariant-items : goal.invariant-items
invariant-items l = record {
  reads : Continues (list_step (read_item (below l.height.levels)))
      (map item_of l.items.items, l.commas.items) l.cursor.rest.now
      (read_more (read_item (below l.height.levels)) (item_of l.fn.first) l.fn.cursor.rest.now);
  shorter : length l.cursor.rest.now ≤ length l.fn.cursor.rest.now;
}

abbrev pub decreases-items : goal.decreases-items
decreases-items l = length l.cursor.rest.now
