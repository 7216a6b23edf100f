use Rattle.std.proofs.Common.{sym, ◌∙◌}
use Rattle.std.proofs.lemmas.Result.{err_from_is_err_and}
use Rattle.c_syntax.specs.Expressions.{expr_of}
use Rattle.c_parse_expressions.specs.ExpressionReadings.{below, reader_of}
use Rattle.c_parse.proofs.Listing.{maybe_closed, maybe_reads, maybe_refused, maybe_too_low}
use Rattle.c_parse.proofs.optional_parts.maybe.Goals as goal

pub returns-then-at_mark : goal.returns-then-at_mark
returns-then-at_mark c =
    maybe_closed (reader_of c.args.rule (below c.args.height.levels)) c.args.close c.args.cursor.now.rest.now
    (sym c.at_mark.ensures ∙ c.if-at_mark.true)

pub returns-in_default : goal.returns-in_default
returns-in_default c =
    maybe_too_low c.args.rule c.args.close c.args.height.levels c.args.cursor.now.rest.now _ c.in_default.ensures.none
    (sym c.at_mark.ensures ∙ c.if-at_mark.false) c.no_height.ensures

pub returns-in_err-found : goal.returns-in_err-found
returns-in_err-found c =
    let p = err_from_is_err_and c.from_residual.result c.from_residual.ensures.1 in
    rw (p.1, p.2) (maybe_refused c.args.rule c.args.close c.args.height.levels c.in-Some.lower.levels
    c.args.cursor.now.rest.now _ c.in-Some.ensures.some.1 (sym c.at_mark.ensures ∙ c.if-at_mark.false)
    c.in_err-found.ensures)

pub returns : goal.returns
returns c =
    maybe_reads c.args.rule c.args.close c.args.height.levels c.in-Some.lower.levels c.args.cursor.now.rest.now
    c.tree_of.new.cursor.rest.now (expr_of c.in_ok-found.found.tree.value) c.in-Some.ensures.some.1
    (sym c.at_mark.ensures ∙ c.if-at_mark.false) c.in_ok-found.ensures.0 c.in_ok-found.ensures.1
