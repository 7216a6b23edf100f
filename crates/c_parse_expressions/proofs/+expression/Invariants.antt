-- Each call is for a lower height, or for the same height and a tighter rule.
use Rattle.std.proofs.Common.{◌≡◌, ◌<◌, ◌≤◌, length, ◌-◌, ◌+◌, ◌*◌}
use Rattle.c_syntax.specs.Expressions.{expr_of}
use Rattle.c_syntax.specs.ExpressionTokens.{expr_height}
use Rattle.c_grammar.specs.Chains.{Found, chained}
use Rattle.c_grammar.proofs.Chains.{Continues}
use Rattle.c_grammar.specs.Reading.{read_expression, read_binary, read_postfix, read_arguments, infix_step}
use Rattle.c_grammar.specs.Reading.{readers, suffix_step, value_step}
use Rattle.c_parse_expressions.specs.ExpressionReadings.{below}
use Rattle.c_parse_expressions.specs.Values.{values_of, height_of_values}
use Rattle.c_parse_expressions.proofs.+expression.Given as goal

abbrev pub decreases-expression::tree_of : goal.decreases-expression::tree_of
decreases-expression::tree_of l = 32 * l.height.levels + 24

abbrev pub decreases-expression::expression : goal.decreases-expression::expression
decreases-expression::expression l = 32 * l.height.levels + 23

abbrev pub decreases-expression::assignment : goal.decreases-expression::assignment
decreases-expression::assignment l = 32 * l.height.levels + 22

abbrev pub decreases-expression::conditional : goal.decreases-expression::conditional
decreases-expression::conditional l = 32 * l.height.levels + 21

abbrev pub decreases-expression::binary : goal.decreases-expression::binary
decreases-expression::binary l = 32 * l.height.levels + 11

abbrev pub decreases-expression::operators : goal.decreases-expression::operators
decreases-expression::operators l = 32 * l.height.levels + 10

abbrev pub decreases-expression::comma : goal.decreases-expression::comma
decreases-expression::comma l = 32 * l.height.levels + 9

abbrev pub decreases-expression::operator : goal.decreases-expression::operator
decreases-expression::operator l = 32 * l.height.levels + 9

abbrev pub decreases-expression::cast : goal.decreases-expression::cast
decreases-expression::cast l = 32 * l.height.levels + 8

abbrev pub decreases-expression::unary : goal.decreases-expression::unary
decreases-expression::unary l = 32 * l.height.levels + 7

abbrev pub decreases-primary::postfix : goal.decreases-primary::postfix
decreases-primary::postfix l = 32 * l.height.levels + 6

abbrev pub decreases-primary::suffix : goal.decreases-primary::suffix
decreases-primary::suffix l = 32 * l.height.levels + 5

abbrev pub decreases-primary::primary : goal.decreases-primary::primary
decreases-primary::primary l = 32 * l.height.levels + 5

abbrev pub decreases-primary::parenthesised : goal.decreases-primary::parenthesised
decreases-primary::parenthesised l = 32 * l.height.levels + 3

abbrev pub decreases-primary::named : goal.decreases-primary::named
decreases-primary::named l = 32 * l.height.levels + 4

abbrev pub decreases-primary::arguments : goal.decreases-primary::arguments
decreases-primary::arguments l = 32 * l.height.levels + 2

abbrev pub decreases-primary::value : goal.decreases-primary::value
decreases-primary::value l = 32 * l.lower.levels + 25

abbrev pub decreases-primary::call_behind : goal.decreases-primary::call_behind
decreases-primary::call_behind l = 32 * l.height.levels + 3

abbrev pub decreases-primary::index_behind : goal.decreases-primary::index_behind
decreases-primary::index_behind l = 32 * l.height.levels + 1

abbrev pub decreases-expression::infix_behind : goal.decreases-expression::infix_behind
decreases-expression::infix_behind l = 32 * l.height.levels + 1

abbrev pub decreases-expression::assignment_behind : goal.decreases-expression::assignment_behind
decreases-expression::assignment_behind l = 32 * l.height.levels + 1

abbrev pub decreases-expression::conditional_behind : goal.decreases-expression::conditional_behind
decreases-expression::conditional_behind l = 32 * l.height.levels + 1

abbrev pub decreases-expression::cast_behind : goal.decreases-expression::cast_behind
decreases-expression::cast_behind l = 32 * l.height.levels + 1

abbrev pub decreases-expression::prefix_behind : goal.decreases-expression::prefix_behind
decreases-expression::prefix_behind l = 32 * l.height.levels + 1

abbrev pub decreases-expression::unary_behind : goal.decreases-expression::unary_behind
decreases-expression::unary_behind l = 32 * l.height.levels + 1

-- what is read in all is what the turns from here read

abbrev pub invariant-expression::expression-operators : goal.invariant-expression::expression-operators
invariant-expression::expression-operators l = record {
  reads : Continues (infix_step 13 l.height.levels (below l.height.levels).assignment) (expr_of l.left.tree.value)
      l.cursor.rest.now
      (read_expression l.height.levels (below l.height.levels) l.fn.cursor.rest.now);
  height : l.left.height ≡ expr_height (expr_of l.left.tree.value);
  within : (0 < l.left.height) × (l.left.height ≤ l.height.levels);
  shorter : length l.cursor.rest.now < length l.fn.cursor.rest.now;
}

abbrev pub decreases-expression::expression-operators : goal.decreases-expression::expression-operators
decreases-expression::expression-operators l = length l.cursor.rest.now

abbrev pub invariant-expression::binary-levels : goal.invariant-expression::binary-levels
invariant-expression::binary-levels l = record {
  reads : read_binary l.height.levels (below l.height.levels) l.reached l.fn.cursor.rest.now
      ≡ Found (expr_of l.left.tree.value) l.cursor.rest.now;
  height : l.left.height ≡ expr_height (expr_of l.left.tree.value);
  within : (0 < l.left.height) × (l.left.height ≤ l.height.levels);
  shorter : length l.cursor.rest.now < length l.fn.cursor.rest.now;
  reached : l.reached ≤ l.level;
}

abbrev pub decreases-expression::binary-levels : goal.decreases-expression::binary-levels
decreases-expression::binary-levels l = l.level - l.reached

abbrev pub invariant-expression::operators-operators : goal.invariant-expression::operators-operators
invariant-expression::operators-operators l = record {
  reads : Continues (infix_step l.level l.height.levels ((below l.height.levels).binary (l.level - 1)))
      (expr_of l.left.tree.value) l.cursor.rest.now
      (chained (infix_step l.level l.height.levels ((below l.height.levels).binary (l.level - 1)))
      (expr_of l.fn.operand.tree.value) l.fn.cursor.rest.now);
  height : l.left.height ≡ expr_height (expr_of l.left.tree.value);
  within : (0 < l.left.height) × (l.left.height ≤ l.height.levels);
  shorter : length l.cursor.rest.now ≤ length l.fn.cursor.rest.now;
}

abbrev pub decreases-expression::operators-operators : goal.decreases-expression::operators-operators
decreases-expression::operators-operators l = length l.cursor.rest.now

abbrev pub invariant-primary::postfix-suffixes : goal.invariant-primary::postfix-suffixes
invariant-primary::postfix-suffixes l = record {
  reads : Continues (suffix_step l.height.levels (below l.height.levels)) (expr_of l.base.tree.value) l.cursor.rest.now
      (read_postfix l.height.levels (below l.height.levels) l.fn.cursor.rest.now);
  height : l.base.height ≡ expr_height (expr_of l.base.tree.value);
  within : (0 < l.base.height) × (l.base.height ≤ l.height.levels);
  shorter : length l.cursor.rest.now < length l.fn.cursor.rest.now;
}

abbrev pub decreases-primary::postfix-suffixes : goal.decreases-primary::postfix-suffixes
decreases-primary::postfix-suffixes l = length l.cursor.rest.now

abbrev pub invariant-primary::arguments-values : goal.invariant-primary::arguments-values
invariant-primary::arguments-values l = record {
  reads : Continues (value_step (readers l.lower.levels)) (values_of l.values) l.cursor.rest.now
      (read_arguments (readers l.lower.levels) l.fn.cursor.rest.now);
  height : l.values.height ≡ height_of_values l.values;
  within : l.values.height ≤ l.lower.levels;
  lower : (1 < l.fn.height.levels) × (l.lower.levels ≡ l.fn.height.levels - 1);
  shorter : length l.cursor.rest.now ≤ length l.fn.cursor.rest.now;
}

abbrev pub decreases-primary::arguments-values : goal.decreases-primary::arguments-values
decreases-primary::arguments-values l = length l.cursor.rest.now
