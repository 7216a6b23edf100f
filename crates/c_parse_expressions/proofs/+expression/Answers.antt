-- The loops add one turn to what is read in all; a rule below a node is read by the readers for one less.
use Rattle.std.proofs.Common.{◌<◌, ◌≤◌, ◌-◌, ℕ, ap, refl, sym, ◌∙◌, arith, length}
use Rattle.std.proofs.lemmas.Result.{err_from_is_err_and}
use Rattle.c_syntax.specs.Expressions.{expr_of, exprs_of}
use Rattle.c_syntax.specs.ExpressionTokens.{expr_height, exprs_height}
use Rattle.c_grammar.specs.Reading as reading
use Rattle.c_grammar.specs.Reading.{readers, read_expression, read_assignment, read_conditional, read_binary}
use Rattle.c_grammar.specs.Reading.{read_cast, read_unary, read_arguments, cast_inside}
use Rattle.c_grammar.proofs.Chains.{continues_goes}
use Rattle.c_grammar.proofs.Reading.{expression_above, assignment_above, conditional_above}
use Rattle.c_grammar.proofs.Reading.{binary_above, cast_above, unary_above}
use Rattle.c_lex.specs.declared.token.Punct.TheVariants as marks
use Rattle.c_syntax.specs.Marks.{mark, binary_mark, unary_mark, step_mark}
use Rattle.c_parse_expressions.proofs.Rooms.{above_fault, room_fault, suffix_fault, no_target, high_assignment}
use Rattle.c_parse_expressions.proofs.Refused.{refused_step, refused_turn, last_turn, refused_then, refused_so, refused_before}
use Rattle.c_parse_expressions.specs.Values.{values_of}
use Rattle.c_parse_expressions.specs.ExpressionReadings.{reader_of, below}
use Rattle.c_parse_expressions.proofs.Turns.{same_reading, no_arguments, cast_is}
use Rattle.c_parse_expressions.proofs.Turns.{reading_behind, arguments_begun, below_is, at_most}
use Rattle.c_parse_expressions.proofs.Levels.{levels_passed, level_reads, levels_refused}
use Rattle.c_parse_expressions.proofs.+expression.Goals as goal
use Rattle.c_parse_expressions.proofs.+expression.Goals.{expression::binary-then-next-reached}
use Rattle.c_parse_expressions.proofs.+expression.Goals.{expression::binary-else-next-reached}

pub expression::tree_of-returns-in-Expression : goal.expression::tree_of-returns-in-Expression
expression::tree_of-returns-in-Expression t c =
    let n = c.args.height.levels in
    let ts = c.args.cursor.now.rest.now in
    same_reading n (reader_of c.args.rule (readers n)) (read_expression n (below n)) ts _ _
    (rw c.in-Expression.is (expression_above n ts c.args.height.low)) c.expression.ensures

pub expression::tree_of-returns-in-Assignment : goal.expression::tree_of-returns-in-Assignment
expression::tree_of-returns-in-Assignment t c =
    let n = c.args.height.levels in
    let ts = c.args.cursor.now.rest.now in
    same_reading n (reader_of c.args.rule (readers n)) (read_assignment n (below n)) ts _ _
    (rw c.in-Assignment.is (assignment_above n ts c.args.height.low)) c.assignment.ensures

pub expression::tree_of-returns-in-Conditional : goal.expression::tree_of-returns-in-Conditional
expression::tree_of-returns-in-Conditional t c =
    let n = c.args.height.levels in
    let ts = c.args.cursor.now.rest.now in
    same_reading n (reader_of c.args.rule (readers n)) (read_conditional n (below n)) ts _ _
    (rw c.in-Conditional.is (conditional_above n ts c.args.height.low)) c.conditional.ensures

pub expression::tree_of-returns-in-Binary : goal.expression::tree_of-returns-in-Binary
expression::tree_of-returns-in-Binary t c =
    let n = c.args.height.levels in
    let ts = c.args.cursor.now.rest.now in
    same_reading n (reader_of c.args.rule (readers n)) (read_binary n (below n) c.in-Binary.level) ts _ _
    (rw c.in-Binary.is (binary_above n c.in-Binary.level ts c.args.height.low)) c.binary.ensures

pub expression::tree_of-returns-in-Cast : goal.expression::tree_of-returns-in-Cast
expression::tree_of-returns-in-Cast t c =
    let n = c.args.height.levels in
    let ts = c.args.cursor.now.rest.now in
    same_reading n (reader_of c.args.rule (readers n)) (read_cast n (below n)) ts _ _
    (rw c.in-Cast.is (cast_above n ts c.args.height.low)) c.cast.ensures

pub expression::tree_of-returns-in-Unary : goal.expression::tree_of-returns-in-Unary
expression::tree_of-returns-in-Unary t c =
    let n = c.args.height.levels in
    let ts = c.args.cursor.now.rest.now in
    same_reading n (reader_of c.args.rule (readers n)) (read_unary n (below n)) ts _ _
    (rw c.in-Unary.is (unary_above n ts c.args.height.low)) c.unary.ensures

pub expression::cast-returns : goal.expression::cast-returns
expression::cast-returns t c =
    let n = c.args.height.levels in
    let ts = c.args.cursor.now.rest.now in
    reading_behind n (read_cast n (below n))
    (cast_inside (below n) c.in-Some.opening) ts _ _ _ (cast_is n (below n) ts _ _ c.in-Some.ensures.some.0 c.in-Some.ensures.some.1)
    c.in-Some.ensures.shorter c.cast_behind.ensures

pub expression::operators-operators-preserved : goal.expression::operators-operators-preserved
expression::operators-operators-preserved t c =
    let m = rw c.in-More.is at c.in_ok-more.ensures in
    record {
      reads = continues_goes _ _ _ _ _ _ c.operators.invariant.reads m.0 m.4;
      height = m.1;
      within = (m.2, m.3);
      shorter = omega (arith, m.4, c.operators.invariant.shorter);
    }

pub expression::operators-returns-in_err-more : goal.expression::operators-returns-in_err-more
expression::operators-returns-in_err-more t c =
    let p = err_from_is_err_and c.from_residual.result c.from_residual.ensures.1 in
    rw (p.1, p.2) (refused_turn _ _ _ _ _ c.operators.invariant.reads c.in_err-more.ensures)

pub expression::operators-returns-in-Last : goal.expression::operators-returns-in-Last
expression::operators-returns-in-Last t c =
    let m = rw c.in-Last.is at c.in_ok-more.ensures in
    let before = c.operators.invariant in (
      last_turn _ _ _ _ _ _ before.reads m.0 m.1 m.3,
      omega (arith, ap length m.3, before.shorter),
      (
        m.2 ∙ ap expr_height (sym m.1),
        omega (arith, m.2, before.height, before.within.0),
        omega (arith, m.2, before.height, before.within.1),
      ),
    )

pub expression::binary-returns-in_err-left : goal.expression::binary-returns-in_err-left
expression::binary-returns-in_err-left t c =
    let p = err_from_is_err_and c.from_residual.result c.from_residual.ensures.1 in
    rw (p.1, p.2) (levels_refused c.args.height.levels (below c.args.height.levels) c.args.level 0 c.args.level
    c.args.cursor.now.rest.now _ (omega arith) c.in_err-left.ensures)

pub expression::binary-returns-then-next-level : goal.expression::binary-returns-then-next-level
expression::binary-returns-then-next-level t c =
    let before = c.levels.invariant in (
      levels_passed c.args.height.levels (below c.args.height.levels) (c.args.level - c.levels.reached)
          c.levels.reached c.args.level c.args.cursor.now.rest.now c.levels.cursor.rest.now _
          (omega (arith, before.reached)) before.reads
          (λ k low high. c.next_level-next.ensures k (omega (arith, c.if-next-level.true))),
      before.shorter,
      (before.height, before.within.0, before.within.1),
    )

pub expression::binary-returns-in_err-left-2 : goal.expression::binary-returns-in_err-left-2
expression::binary-returns-in_err-left-2 t c =
    let p = err_from_is_err_and c.from_residual-in_err-left-2.result c.from_residual-in_err-left-2.ensures.1 in
    let before = c.levels.invariant in
    let above : (c.levels.reached < c.if-next-reached.reached) × (c.if-next-reached.reached ≤ c.args.level)
    × ((j : ℕ) → c.levels.reached < j → j < c.if-next-reached.reached → j < c.next_level-next.result) =
    elim c.if-next-reached.branch [
      | expression::binary-then-next-reached w ↦ (
        omega (arith, w.if-next-reached, w.reached-is),
        omega (arith, w.reached-is, c.if-next-level.false),
        λ j low high. omega (arith, w.reached-is),
      )
      | expression::binary-else-next-reached w ↦ (
        omega (arith, w.reached-is),
        omega (arith, w.reached-is, c.levels-test.true),
        λ j low high. absurd (omega (arith, w.reached-is)),
      )
    ] in
    rw (p.1, p.2) (levels_refused c.args.height.levels (below c.args.height.levels)
    (c.args.level - c.if-next-reached.reached) c.if-next-reached.reached c.args.level c.args.cursor.now.rest.now _
    (omega (arith, above.1))
    (refused_so _ _ _
    (level_reads c.args.height.levels (below c.args.height.levels) c.levels.reached c.if-next-reached.reached
    c.args.cursor.now.rest.now c.levels.cursor.rest.now _ above.0 before.reads
    (λ j low high. c.next_level-next.ensures j (above.2 j low high)))
    c.in_err-left-2.ensures))

pub expression::binary-levels-preserved : goal.expression::binary-levels-preserved
expression::binary-levels-preserved t c =
    let before = c.levels.invariant in
    let above : (c.levels.reached < c.if-next-reached.reached) × (c.if-next-reached.reached ≤ c.args.level)
    × ((j : ℕ) → c.levels.reached < j → j < c.if-next-reached.reached → j < c.next_level-next.result) =
    elim c.if-next-reached.branch [
      | expression::binary-then-next-reached w ↦ (
        omega (arith, w.if-next-reached, w.reached-is),
        omega (arith, w.reached-is, c.if-next-level.false),
        λ j low high. omega (arith, w.reached-is),
      )
      | expression::binary-else-next-reached w ↦ (
        omega (arith, w.reached-is),
        omega (arith, w.reached-is, c.levels-test.true),
        λ j low high. absurd (omega (arith, w.reached-is)),
      )
    ] in
    record {
      reads = level_reads c.args.height.levels (below c.args.height.levels) c.levels.reached c.if-next-reached.reached
          c.args.cursor.now.rest.now c.levels.cursor.rest.now _ above.0 before.reads
          (λ j low high. c.next_level-next.ensures j (above.2 j low high)) ∙ c.in_ok-left-2.ensures.0;
      height = c.in_ok-left-2.ensures.2.0;
      within = (c.in_ok-left-2.ensures.2.1, c.in_ok-left-2.ensures.2.2);
      shorter = omega (arith, c.in_ok-left-2.ensures.1, before.shorter);
      reached = above.1;
    }

pub expression::expression-operators-preserved : goal.expression::expression-operators-preserved
expression::expression-operators-preserved t c =
    let m = rw c.in-More.is at c.in_ok-more.ensures in
    record {
      reads = continues_goes _ _ _ _ _ _ c.operators.invariant.reads m.0 m.4;
      height = m.1;
      within = (m.2, m.3);
      shorter = omega (arith, m.4, c.operators.invariant.shorter);
    }

pub expression::expression-returns-in_err-more : goal.expression::expression-returns-in_err-more
expression::expression-returns-in_err-more t c =
    let p = err_from_is_err_and c.from_residual-in_err-more.result c.from_residual-in_err-more.ensures.1 in
    rw (p.1, p.2) (refused_turn _ _ _ _ _ c.operators.invariant.reads c.in_err-more.ensures)

pub expression::expression-returns-in-Last : goal.expression::expression-returns-in-Last
expression::expression-returns-in-Last t c =
    let m = rw c.in-Last.is at c.in_ok-more.ensures in
    let before = c.operators.invariant in (
      last_turn _ _ _ _ _ _ before.reads m.0 m.1 m.3,
      omega (arith, ap length m.3, before.shorter),
      (
        m.2 ∙ ap expr_height (sym m.1),
        omega (arith, m.2, before.height, before.within.0),
        omega (arith, m.2, before.height, before.within.1),
      ),
    )

pub primary::postfix-suffixes-preserved : goal.primary::postfix-suffixes-preserved
primary::postfix-suffixes-preserved t c =
    let m = rw c.in-More.is at c.in_ok-more.ensures in
    record {
      reads = continues_goes _ _ _ _ _ _ c.suffixes.invariant.reads m.0 m.4;
      height = m.1;
      within = (m.2, m.3);
      shorter = omega (arith, m.4, c.suffixes.invariant.shorter);
    }

pub primary::postfix-returns-in_err-more : goal.primary::postfix-returns-in_err-more
primary::postfix-returns-in_err-more t c =
    let p = err_from_is_err_and c.from_residual-in_err-more.result c.from_residual-in_err-more.ensures.1 in
    rw (p.1, p.2) (refused_turn _ _ _ _ _ c.suffixes.invariant.reads c.in_err-more.ensures)

pub primary::postfix-returns-in-Last : goal.primary::postfix-returns-in-Last
primary::postfix-returns-in-Last t c =
    let m = rw c.in-Last.is at c.in_ok-more.ensures in
    let before = c.suffixes.invariant in (
      last_turn _ _ _ _ _ _ before.reads m.0 m.1 m.3,
      omega (arith, ap length m.3, before.shorter),
      (
        m.2 ∙ ap expr_height (sym m.1),
        omega (arith, m.2, before.height, before.within.0),
        omega (arith, m.2, before.height, before.within.1),
      ),
    )

pub primary::arguments-returns-in_default : goal.primary::arguments-returns-in_default
primary::arguments-returns-in_default t c =
    refused_before _ _ _ _ _ (no_arguments c.args.height.levels c.args.cursor.now.rest.now c.in_default.ensures.none
    (sym c.at_mark.ensures ∙ c.if-at_mark.false)) refl c.no_height.ensures

pub primary::arguments-values-init : goal.primary::arguments-values-init
primary::arguments-values-init t c =
    let us = c.tree_of.new.cursor.rest.now in
    let first = c.in_ok-first.ensures in
    record {
      reads = arguments_begun (readers c.in-Some.lower.levels) c.args.cursor.now.rest.now us
          (expr_of c.in_ok-first.first.tree.value) (values_of c.in_ok-values.values)
          (sym c.at_mark.ensures ∙ c.if-at_mark.false) first.0 c.in_ok-values.ensures.values;
      height = c.in_ok-values.ensures.height;
      within = omega (arith, c.in_ok-values.ensures.same, first.2.2);
      lower = c.in-Some.ensures.some;
      shorter = at_most (length us) (length c.args.cursor.now.rest.now) first.1;
    }

pub primary::arguments-values-preserved : goal.primary::arguments-values-preserved
primary::arguments-values-preserved t c =
    let m = rw c.in-MoreValues.is at c.in_ok-more.ensures in
    record {
      reads = continues_goes _ _ _ _ _ _ c.values.invariant.reads m.0 m.3;
      height = m.1;
      within = omega (arith, m.2);
      lower = c.values.invariant.lower;
      shorter = omega (arith, m.3, c.values.invariant.shorter);
    }

pub primary::arguments-returns-in_err-more : goal.primary::arguments-returns-in_err-more
primary::arguments-returns-in_err-more t c =
    let p = err_from_is_err_and c.from_residual-in_err-more.result c.from_residual-in_err-more.ensures.1 in
    let ts = c.args.cursor.now.rest.now in
    rw (p.1, p.2) (refused_so (read_arguments (below c.args.height.levels) ts) _ _
    (ap (λ b. read_arguments b ts) (below_is c.args.height.levels c.in-Some.lower.levels c.values.invariant.lower.1))
    (refused_turn _ _ _ _ _ c.values.invariant.reads c.in_err-more.ensures))

pub primary::arguments-returns-in-LastValues : goal.primary::arguments-returns-in-LastValues
primary::arguments-returns-in-LastValues t c =
    let m = rw c.in-LastValues.is at c.in_ok-more.ensures in
    let before = c.values.invariant in
    let ts = c.args.cursor.now.rest.now in
    let same = ap (λ (v : reading.Values). exprs_height (exprs_of v.0)) m.1 in (
      ap (λ b. read_arguments b ts) (below_is c.args.height.levels c.in-Some.lower.levels before.lower.1)
          ∙ last_turn _ _ _ _ _ _ before.reads m.0 m.1 m.3,
      omega (arith, ap length m.3, before.shorter),
      m.2,
      omega (arith, m.2, same, before.height, before.within, before.lower.0, before.lower.1),
    )

pub expression::cast_behind-returns-in_err-lower : goal.expression::cast_behind-returns-in_err-lower
expression::cast_behind-returns-in_err-lower t c =
    let p = err_from_is_err_and c.from_residual.result c.from_residual.ensures.1 in
    let n = c.args.height.levels in
    let ts = c.args.cursor.now.rest.now in
    rw (p.1, p.2) (room_fault n (mark marks.LeftParen c.args.opening) ts _ _ c.in_err-lower.ensures.err.0
    c.in_err-lower.ensures.err.1)

pub expression::prefix_behind-returns-in_err-lower : goal.expression::prefix_behind-returns-in_err-lower
expression::prefix_behind-returns-in_err-lower t c =
    let p = err_from_is_err_and c.from_residual.result c.from_residual.ensures.1 in
    let n = c.args.height.levels in
    let ts = c.args.cursor.now.rest.now in
    rw (p.1, p.2) (refused_then _ _ _ (room_fault n (mark (step_mark c.args.op) c.args.at) ts ((below n).unary ts) _ c.in_err-lower.ensures.err.0
    c.in_err-lower.ensures.err.1))

pub expression::unary_behind-returns-in_err-lower : goal.expression::unary_behind-returns-in_err-lower
expression::unary_behind-returns-in_err-lower t c =
    let p = err_from_is_err_and c.from_residual.result c.from_residual.ensures.1 in
    let n = c.args.height.levels in
    let ts = c.args.cursor.now.rest.now in
    rw (p.1, p.2) (refused_then _ _ _ (room_fault n (mark (unary_mark c.args.op) c.args.at) ts ((below n).cast ts) _ c.in_err-lower.ensures.err.0
    c.in_err-lower.ensures.err.1))

pub primary::parenthesised-returns-in_err-lower : goal.primary::parenthesised-returns-in_err-lower
primary::parenthesised-returns-in_err-lower t c =
    let p = err_from_is_err_and c.from_residual.result c.from_residual.ensures.1 in
    let n = c.args.height.levels in
    let ts = c.args.cursor.now.rest.now in
    rw (p.1, p.2) (refused_then _ _ _ (room_fault n (mark marks.LeftParen c.args.opening) ts ((below n).expression ts) _ c.in_err-lower.ensures.err.0
    c.in_err-lower.ensures.err.1))

pub expression::infix_behind-returns-in-Err : goal.expression::infix_behind-returns-in-Err
expression::infix_behind-returns-in-Err t c =
    let n = c.args.height.levels in
    let ts = c.args.cursor.now.rest.now in
    refused_step _ _ _ (above_fault _ n (mark (binary_mark c.args.op) c.args.at) ts
    (reader_of c.args.rule (below n) ts) _ (omega (arith, c.in-Err.ensures.err.0, c.requires.left))
    (c.refused.ensures ∙ c.in-Err.ensures.err.1))

pub expression::assignment_behind-returns-then-not-is_unary : goal.expression::assignment_behind-returns-then-not-is_unary
expression::assignment_behind-returns-then-not-is_unary t c =
    no_target c.args.height.levels (below c.args.height.levels) (expr_of c.args.left.tree.value)
    (expr_of c.deref.result.now) c.args.op c.args.at c.args.cursor.now.rest.now _ (ap expr_of (sym c.deref.ensures))
    (sym c.if-not-is_unary.ensures) c.refused.ensures

pub expression::assignment_behind-returns-in-Err : goal.expression::assignment_behind-returns-in-Err
expression::assignment_behind-returns-in-Err t c =
    high_assignment c.args.height.levels (below c.args.height.levels) (expr_of c.args.left.tree.value)
    (expr_of c.deref.result.now) c.args.op c.args.at c.args.cursor.now.rest.now _ (ap expr_of (sym c.deref.ensures))
    (sym c.if-not-is_unary.ensures) (omega (arith, c.in-Err.ensures.err.0, c.requires.left))
    (c.refused-in-Err.ensures ∙ c.in-Err.ensures.err.1)

pub expression::conditional_behind-returns-in-Err : goal.expression::conditional_behind-returns-in-Err
expression::conditional_behind-returns-in-Err t c =
    let n = c.args.height.levels in
    let ts = c.args.cursor.now.rest.now in
    refused_then _ _ _ (above_fault _ n (mark marks.Question c.args.question) ts ((below n).expression ts) _
    (omega (arith, c.in-Err.ensures.err.0, c.requires.condition)) (c.refused.ensures ∙ c.in-Err.ensures.err.1))

pub primary::index_behind-returns-in-Err : goal.primary::index_behind-returns-in-Err
primary::index_behind-returns-in-Err t c =
    let n = c.args.height.levels in
    let ts = c.args.cursor.now.rest.now in
    refused_step _ _ _ (above_fault _ n (mark marks.LeftBracket c.args.opening) ts ((below n).expression ts) _
    (omega (arith, c.in-Err.ensures.err.0, c.requires.base)) (c.refused.ensures ∙ c.in-Err.ensures.err.1))

pub primary::suffix-returns-in-Err : goal.primary::suffix-returns-in-Err
primary::suffix-returns-in-Err t c =
    suffix_fault c.args.height.levels (below c.args.height.levels) (expr_of c.args.base.tree.value) _ _ _ _ _ _
    c.in_default.ensures.0 c.in_default.ensures.1 c.in-Some-take_step.ensures.0
    (omega (arith, c.in-Err.ensures.err.0, c.requires.base)) (c.refused.ensures ∙ c.in-Err.ensures.err.1)
