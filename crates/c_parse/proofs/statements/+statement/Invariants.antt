-- Each call is for a lower height, or for the same height and a smaller part.
use Rattle.std.proofs.Common.{◌≤◌, length, map, ◌+◌, ◌*◌}
use Rattle.c_syntax.specs.Statements.{stmt_of}
use Rattle.c_grammar.proofs.Chains.{Continues}
use Rattle.c_grammar.specs.StatementReading.{until_step, read_until}
use Rattle.c_parse.specs.StatementParts.{below_node, fields_of}
use Rattle.c_parse.proofs.statements.+statement.Given as goal

abbrev pub decreases-any_statement : goal.decreases-any_statement
decreases-any_statement l = 16 * l.height.levels + 9

abbrev pub decreases-block_behind : goal.decreases-block_behind
decreases-block_behind l = 16 * l.height.levels + 8

abbrev pub decreases-if_behind : goal.decreases-if_behind
decreases-if_behind l = 16 * l.height.levels + 8

abbrev pub decreases-while_behind : goal.decreases-while_behind
decreases-while_behind l = 16 * l.height.levels + 8

abbrev pub decreases-do_behind : goal.decreases-do_behind
decreases-do_behind l = 16 * l.height.levels + 8

abbrev pub decreases-for_behind : goal.decreases-for_behind
decreases-for_behind l = 16 * l.height.levels + 8

abbrev pub decreases-switch_behind : goal.decreases-switch_behind
decreases-switch_behind l = 16 * l.height.levels + 8

abbrev pub decreases-block_items : goal.decreases-block_items
decreases-block_items l = 16 * l.height.levels + 7

abbrev pub decreases-block_item : goal.decreases-block_item
decreases-block_item l = 16 * l.height.levels + 6

abbrev pub decreases-switch_items : goal.decreases-switch_items
decreases-switch_items l = 16 * l.lower.levels + 12

abbrev pub decreases-labelled : goal.decreases-labelled
decreases-labelled l = 16 * l.lower.levels + 11

abbrev pub decreases-else_behind : goal.decreases-else_behind
decreases-else_behind l = 16 * l.lower.levels + 11

abbrev pub decreases-boxed_statement : goal.decreases-boxed_statement
decreases-boxed_statement l = 16 * l.lower.levels + 10

-- what is read in all is what the turns from here read

abbrev pub invariant-block_items-items : goal.invariant-block_items-items
invariant-block_items-items l = record {
  reads : Continues (until_step (below_node l.height.levels).item) (map stmt_of l.statements.items) l.cursor.rest.now
      (read_until (below_node l.height.levels).item l.fn.cursor.rest.now);
  shorter : length l.cursor.rest.now ≤ length l.fn.cursor.rest.now;
}

abbrev pub decreases-block_items-items : goal.decreases-block_items-items
decreases-block_items-items l = length l.cursor.rest.now

abbrev pub invariant-switch_items-items : goal.invariant-switch_items-items
invariant-switch_items-items l = record {
  reads : Continues (until_step (fields_of l.lower.levels).labelled) (map stmt_of l.statements.items) l.cursor.rest.now
      (read_until (fields_of l.lower.levels).labelled l.fn.cursor.rest.now);
  shorter : length l.cursor.rest.now ≤ length l.fn.cursor.rest.now;
}

abbrev pub decreases-switch_items-items : goal.decreases-switch_items-items
decreases-switch_items-items l = length l.cursor.rest.now
