-- A part is read by the readers of what stands below a node; the loops add one turn to what is read in all.
use Rattle.std.proofs.Common.{refl, ap, sym, ◌∙◌, arith}
use Rattle.std.proofs.lemmas.Result.{err_from_is_err_and}
use Rattle.c_syntax.specs.Statements.{Declared, stmt_of}
use Rattle.c_grammar.specs.Chains.{Found, then_read}
use Rattle.c_grammar.specs.DeclarationReading.{read_declaration}
use Rattle.c_parse_expressions.specs.ExpressionReadings.{below}
use Rattle.c_grammar.specs.StatementReading.{Below, read_statement, if_behind, else_from}
use Rattle.c_grammar.specs.Taking.{take_word}
use Rattle.c_syntax.specs.Marks.{word}
use Rattle.pcc_base.specs.declared.keyword.Keyword.TheVariants as words
use Rattle.c_parse_expressions.proofs.Refused.{refused_then}
use Rattle.c_parse.specs.StatementParts.{below_node, boxed_of, condition_of, fields_of}
use Rattle.c_parse.proofs.Below.{below_is, statement_reads, item_declared, item_stated, labelled_is}
use Rattle.c_parse.proofs.Below.{labelled_reads, read_behind, refused_below, same_read}
use Rattle.c_parse.proofs.Below.{no_item, no_room, refused_item, refused_deep}
use Rattle.c_parse.proofs.Parted.{block_parted, if_parted, while_parted, do_parted, for_parted, switch_parted}
use Rattle.c_parse.proofs.Rows.{until_more, until_refused, closed_last}
use Rattle.c_parse.proofs.statements.+statement.Goals as goal

pub boxed_statement-returns : goal.boxed_statement-returns
boxed_statement-returns t c =
    let n = c.args.lower.levels in
    let ts = c.args.cursor.now.rest.now in
    same_read boxed_of (fields_of n).statement (read_statement (below_node n)) ts _ _
    (statement_reads n ts c.args.lower.low) c.any_statement.ensures

pub block_item-returns-in_default : goal.block_item-returns-in_default
block_item-returns-in_default t c =
    refused_item _ _ _ (no_item c.args.height.levels c.args.cursor.now.rest.now c.in_default.ensures.none)
    c.no_item_height.ensures

pub block_item-returns-then-at_specifier : goal.block_item-returns-then-at_specifier
block_item-returns-then-at_specifier t c =
    let n = c.in-Some.lower.levels in
    let ts = c.args.cursor.now.rest.now in
    same_read boxed_of (below_node c.args.height.levels).item
    (λ us. then_read (read_declaration (below n) us) (λ d vs. Found (Declared d) vs)) ts _ _
    (item_declared c.args.height.levels n ts c.in-Some.ensures.some.1 c.in-Some.lower.low
    c.if-at_specifier.ensures.yes)
    c.declared.ensures

pub block_item-returns : goal.block_item-returns
block_item-returns t c =
    let n = c.in-Some.lower.levels in
    let ts = c.args.cursor.now.rest.now in
    same_read boxed_of (below_node c.args.height.levels).item (read_statement (below_node n)) ts _ _
    (item_stated c.args.height.levels n ts c.in-Some.ensures.some.1 c.in-Some.lower.low
    c.if-at_specifier.ensures.no)
    c.any_statement.ensures

pub labelled-returns-in_err-list : goal.labelled-returns-in_err-list
labelled-returns-in_err-list t c =
    let p = err_from_is_err_and c.from_residual.result c.from_residual.ensures.1 in
    rw (p.1, p.2) (rw (labelled_is c.args.lower.levels c.args.cursor.now.rest.now c.args.lower.low)
    (refused_then _ _ _ c.in_err-list.ensures))

pub labelled-returns-in_err-statement : goal.labelled-returns-in_err-statement
labelled-returns-in_err-statement t c =
    let p = err_from_is_err_and c.from_residual-in_err-statement.result c.from_residual-in_err-statement.ensures.1 in
    rw (p.1, p.2) (rw (labelled_reads c.args.lower.levels c.args.cursor.now.rest.now _ _ c.args.lower.low
    c.in_ok-list.ensures.0)
    (refused_then _ _ _ c.in_err-statement.ensures))

pub labelled-returns : goal.labelled-returns
labelled-returns t c = (
  labelled_reads c.args.lower.levels c.args.cursor.now.rest.now _ _ c.args.lower.low c.in_ok-list.ensures.0
      ∙ (rw (c.in_ok-statement.ensures.0, c.in_ok-labelled_node.ensures) refl),
  omega (arith, c.in_ok-list.ensures.1, c.in_ok-statement.ensures.1),
)

pub block_items-items-preserved : goal.block_items-items-preserved
block_items-items-preserved t c =
    record {
      reads = until_more _ _ _ _ _ _ _ c.items.invariant.reads (sym c.at_mark.ensures ∙ c.items-test.true)
          c.in_ok-item.ensures.0 c.in_ok-push_item.ensures c.in_ok-item.ensures.1;
      shorter = omega (arith, c.in_ok-item.ensures.1, c.items.invariant.shorter);
    }

pub block_items-returns-in_err-item : goal.block_items-returns-in_err-item
block_items-returns-in_err-item t c =
    let p = err_from_is_err_and c.from_residual.result c.from_residual.ensures.1 in
    rw (p.1, p.2) (refused_then _ _ _ (until_refused _ _ _ _ _ c.items.invariant.reads
    (sym c.at_mark.ensures ∙ c.items-test.true) c.in_err-item.ensures))

pub block_items-returns : goal.block_items-returns
block_items-returns t c = (
  closed_last _ _ _ _ _ _ c.items.invariant.reads (sym c.at_mark.ensures ∙ c.items-test.false) c.in-Some.ensures.0,
  omega (arith, c.in-Some.ensures.1, c.items.invariant.shorter),
)

pub switch_items-items-preserved : goal.switch_items-items-preserved
switch_items-items-preserved t c =
    record {
      reads = until_more _ _ _ _ _ _ _ c.items.invariant.reads (sym c.at_mark.ensures ∙ c.items-test.true)
          c.in_ok-item.ensures.0 c.in_ok-push_item.ensures c.in_ok-item.ensures.1;
      shorter = omega (arith, c.in_ok-item.ensures.1, c.items.invariant.shorter);
    }

pub switch_items-returns-in_err-item : goal.switch_items-returns-in_err-item
switch_items-returns-in_err-item t c =
    let p = err_from_is_err_and c.from_residual.result c.from_residual.ensures.1 in
    rw (p.1, p.2) (refused_then _ _ _ (until_refused _ _ _ _ _ c.items.invariant.reads
    (sym c.at_mark.ensures ∙ c.items-test.true) c.in_err-item.ensures))

pub switch_items-returns : goal.switch_items-returns
switch_items-returns t c = (
  closed_last _ _ _ _ _ _ c.items.invariant.reads (sym c.at_mark.ensures ∙ c.items-test.false) c.in-Some.ensures.0,
  omega (arith, c.in-Some.ensures.1, c.items.invariant.shorter),
)

pub block_behind-returns-in_err-items : goal.block_behind-returns-in_err-items
block_behind-returns-in_err-items t c =
    let p = err_from_is_err_and c.from_residual.result c.from_residual.ensures.1 in
    rw (p.1, p.2) (rw (block_parted (below_node c.args.height.levels) c.args.opening c.args.cursor.now.rest.now)
    (refused_then _ _ _ c.in_err-items.ensures))

pub block_behind-returns : goal.block_behind-returns
block_behind-returns t c = (
  block_parted (below_node c.args.height.levels) c.args.opening c.args.cursor.now.rest.now
      ∙ (rw (c.in_ok-items.ensures.0, c.in_ok-block_node.ensures) refl),
  c.in_ok-items.ensures.1,
)

pub if_behind-returns-in_err-lower : goal.if_behind-returns-in_err-lower
if_behind-returns-in_err-lower t c =
    let p = err_from_is_err_and c.from_residual.result c.from_residual.ensures.1 in
    rw (p.1, p.2) (refused_deep _ _ _ _ _ (no_room c.args.height.levels (word words.If c.args.at)
    c.args.cursor.now.rest.now _ c.in_err-lower.ensures.err.0) c.in_err-lower.ensures.err.1)

pub while_behind-returns-in_err-lower : goal.while_behind-returns-in_err-lower
while_behind-returns-in_err-lower t c =
    let p = err_from_is_err_and c.from_residual.result c.from_residual.ensures.1 in
    rw (p.1, p.2) (refused_deep _ _ _ _ _ (no_room c.args.height.levels (word words.While c.args.at)
    c.args.cursor.now.rest.now _ c.in_err-lower.ensures.err.0) c.in_err-lower.ensures.err.1)

pub do_behind-returns-in_err-lower : goal.do_behind-returns-in_err-lower
do_behind-returns-in_err-lower t c =
    let p = err_from_is_err_and c.from_residual.result c.from_residual.ensures.1 in
    rw (p.1, p.2) (refused_deep _ _ _ _ _ (no_room c.args.height.levels (word words.Do c.args.at)
    c.args.cursor.now.rest.now _ c.in_err-lower.ensures.err.0) c.in_err-lower.ensures.err.1)

pub for_behind-returns-in_err-lower : goal.for_behind-returns-in_err-lower
for_behind-returns-in_err-lower t c =
    let p = err_from_is_err_and c.from_residual.result c.from_residual.ensures.1 in
    rw (p.1, p.2) (refused_deep _ _ _ _ _ (no_room c.args.height.levels (word words.For c.args.at)
    c.args.cursor.now.rest.now _ c.in_err-lower.ensures.err.0) c.in_err-lower.ensures.err.1)

pub switch_behind-returns-in_err-lower : goal.switch_behind-returns-in_err-lower
switch_behind-returns-in_err-lower t c =
    let p = err_from_is_err_and c.from_residual.result c.from_residual.ensures.1 in
    rw (p.1, p.2) (refused_deep _ _ _ _ _ (no_room c.args.height.levels (word words.Switch c.args.at)
    c.args.cursor.now.rest.now _ c.in_err-lower.ensures.err.0) c.in_err-lower.ensures.err.1)

pub if_behind-returns-in_err-condition : goal.if_behind-returns-in_err-condition
if_behind-returns-in_err-condition t c =
    let p = err_from_is_err_and c.from_residual-in_err-condition.result c.from_residual-in_err-condition.ensures.1 in
    let parted = if_parted c.args.height.levels c.in_ok-lower.lower.levels c.args.at c.args.cursor.now.rest.now
    c.in_ok-lower.ensures.ok.1 c.in_ok-lower.lower.low in
    rw (p.1, p.2) (rw parted (refused_then _ _ _ c.in_err-condition.ensures))

pub while_behind-returns-in_err-condition : goal.while_behind-returns-in_err-condition
while_behind-returns-in_err-condition t c =
    let p = err_from_is_err_and c.from_residual-in_err-condition.result c.from_residual-in_err-condition.ensures.1 in
    let parted = while_parted c.args.height.levels c.in_ok-lower.lower.levels c.args.at c.args.cursor.now.rest.now
    c.in_ok-lower.ensures.ok.1 c.in_ok-lower.lower.low in
    rw (p.1, p.2) (rw parted (refused_then _ _ _ c.in_err-condition.ensures))

pub do_behind-returns-in_err-body : goal.do_behind-returns-in_err-body
do_behind-returns-in_err-body t c =
    let p = err_from_is_err_and c.from_residual-in_err-body.result c.from_residual-in_err-body.ensures.1 in
    let parted = do_parted c.args.height.levels c.in_ok-lower.lower.levels c.args.at c.args.cursor.now.rest.now
    c.in_ok-lower.ensures.ok.1 c.in_ok-lower.lower.low in
    rw (p.1, p.2) (rw parted (refused_then _ _ _ c.in_err-body.ensures))

pub switch_behind-returns-in_err-head : goal.switch_behind-returns-in_err-head
switch_behind-returns-in_err-head t c =
    let p = err_from_is_err_and c.from_residual-in_err-head.result c.from_residual-in_err-head.ensures.1 in
    let parted = switch_parted c.args.height.levels c.in_ok-lower.lower.levels c.args.at c.args.cursor.now.rest.now
    c.in_ok-lower.ensures.ok.1 c.in_ok-lower.lower.low in
    rw (p.1, p.2) (rw parted (refused_then _ _ _ c.in_err-head.ensures))

pub for_behind-returns-in_err-head : goal.for_behind-returns-in_err-head
for_behind-returns-in_err-head t c =
    let p = err_from_is_err_and c.from_residual-in_err-head.result c.from_residual-in_err-head.ensures.1 in
    rw (p.1, p.2) (rw (for_parted c.args.height.levels c.args.at c.args.cursor.now.rest.now c.in_ok-lower.ensures.ok.0)
    (refused_then _ _ _ c.in_err-head.ensures))

pub if_behind-returns-in-Err : goal.if_behind-returns-in-Err
if_behind-returns-in-Err t c =
    let parted = if_parted c.args.height.levels c.in_ok-lower.lower.levels c.args.at c.args.cursor.now.rest.now
    c.in_ok-lower.ensures.ok.1 c.in_ok-lower.lower.low in
    rw (parted, c.in_ok-condition.ensures.0) (refused_then _ _ _ c.in-Err.ensures)

pub while_behind-returns-in-Err : goal.while_behind-returns-in-Err
while_behind-returns-in-Err t c =
    let parted = while_parted c.args.height.levels c.in_ok-lower.lower.levels c.args.at c.args.cursor.now.rest.now
    c.in_ok-lower.ensures.ok.1 c.in_ok-lower.lower.low in
    rw (parted, c.in_ok-condition.ensures.0) (refused_then _ _ _ c.in-Err.ensures)

pub do_behind-returns-in-Err : goal.do_behind-returns-in-Err
do_behind-returns-in-Err t c =
    let parted = do_parted c.args.height.levels c.in_ok-lower.lower.levels c.args.at c.args.cursor.now.rest.now
    c.in_ok-lower.ensures.ok.1 c.in_ok-lower.lower.low in
    rw (parted, c.in_ok-body.ensures.0) (refused_then _ _ _ c.in-Err.ensures)

pub switch_behind-returns-in-Err : goal.switch_behind-returns-in-Err
switch_behind-returns-in-Err t c =
    let parted = switch_parted c.args.height.levels c.in_ok-lower.lower.levels c.args.at c.args.cursor.now.rest.now
    c.in_ok-lower.ensures.ok.1 c.in_ok-lower.lower.low in
    rw (parted, c.in_ok-head.ensures.0) (refused_then _ _ _ c.in-Err.ensures)

pub for_behind-returns-in-Err : goal.for_behind-returns-in-Err
for_behind-returns-in-Err t c =
    rw (
      for_parted c.args.height.levels c.args.at c.args.cursor.now.rest.now c.in_ok-lower.ensures.ok.0,
      c.in_ok-head.ensures.0,
    )
    (refused_then _ _ _ (refused_below c.args.height.levels c.in_ok-lower.lower.levels
    c.for_head.new.cursor.rest.now _ c.in_ok-lower.ensures.ok.1 c.in-Err.ensures))

pub for_behind-returns-in_ok-for_node-in-Ok : goal.for_behind-returns-in_ok-for_node-in-Ok
for_behind-returns-in_ok-for_node-in-Ok t c =
    let stated = ap (λ (b : Below). b.statement c.for_head.new.cursor.rest.now)
    (below_is c.args.height.levels c.in_ok-lower.lower.levels c.in_ok-lower.ensures.ok.1) in (
      for_parted c.args.height.levels c.args.at c.args.cursor.now.rest.now c.in_ok-lower.ensures.ok.0
          ∙ (rw (c.in_ok-head.ensures.0, stated, c.in-Ok.ensures.0, c.in_ok-for_node-in-Ok.ensures) refl),
      omega (arith, c.in_ok-head.ensures.1, c.in-Ok.ensures.1),
    )

pub while_behind-returns-in_ok-while_node-in-Ok : goal.while_behind-returns-in_ok-while_node-in-Ok
while_behind-returns-in_ok-while_node-in-Ok t c =
    let parted = while_parted c.args.height.levels c.in_ok-lower.lower.levels c.args.at c.args.cursor.now.rest.now
    c.in_ok-lower.ensures.ok.1 c.in_ok-lower.lower.low in (
      parted ∙ (rw (c.in_ok-condition.ensures.0, c.in-Ok.ensures.0, c.in_ok-while_node-in-Ok.ensures) refl),
      omega (arith, c.in_ok-condition.ensures.1, c.in-Ok.ensures.1),
    )

pub do_behind-returns-in_ok-do_node-in-Ok : goal.do_behind-returns-in_ok-do_node-in-Ok
do_behind-returns-in_ok-do_node-in-Ok t c =
    let parted = do_parted c.args.height.levels c.in_ok-lower.lower.levels c.args.at c.args.cursor.now.rest.now
    c.in_ok-lower.ensures.ok.1 c.in_ok-lower.lower.low in (
      parted ∙ (rw (c.in_ok-body.ensures.0, c.in-Ok.ensures.0, c.in_ok-do_node-in-Ok.ensures) refl),
      omega (arith, c.in_ok-body.ensures.1, c.in-Ok.ensures.1),
    )

pub switch_behind-returns-in_ok-switch_node-in-Ok : goal.switch_behind-returns-in_ok-switch_node-in-Ok
switch_behind-returns-in_ok-switch_node-in-Ok t c =
    let parted = switch_parted c.args.height.levels c.in_ok-lower.lower.levels c.args.at c.args.cursor.now.rest.now
    c.in_ok-lower.ensures.ok.1 c.in_ok-lower.lower.low in (
      parted ∙ (rw (c.in_ok-head.ensures.0, c.in-Ok.ensures.0, c.in_ok-switch_node-in-Ok.ensures) refl),
      omega (arith, c.in_ok-head.ensures.1, c.in-Ok.ensures.1),
    )

pub if_behind-returns-in-Ok : goal.if_behind-returns-in-Ok
if_behind-returns-in-Ok t c =
    let n = c.in_ok-lower.lower.levels in
    let ts = c.args.cursor.now.rest.now in
    let parted = if_parted c.args.height.levels n c.args.at ts c.in_ok-lower.ensures.ok.1 c.in_ok-lower.lower.low in
    read_behind boxed_of (if_behind (below_node c.args.height.levels) c.args.at)
    (λ us. else_from (fields_of n) c.args.at (condition_of c.in_ok-condition.condition) (stmt_of c.in-Ok.then.value)
    (take_word words.Else us) us) ts c.boxed_statement.new.cursor.rest.now _ _
    (parted ∙ (rw (c.in_ok-condition.ensures.0, c.in-Ok.ensures.0) refl))
    (omega (arith, c.in_ok-condition.ensures.1, c.in-Ok.ensures.1)) c.else_behind.ensures
