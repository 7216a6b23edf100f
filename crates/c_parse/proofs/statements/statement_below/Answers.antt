use Rattle.c_grammar.specs.StatementReading.{read_statement}
use Rattle.c_syntax.specs.Statements.{stmt_of}
use Rattle.c_parse.specs.StatementParts.{below_node}
use Rattle.c_parse.proofs.Below.{statement_is, no_statement, refused_item, same_read}
use Rattle.c_parse.proofs.statements.statement_below.Goals as goal

pub returns-in_default : goal.returns-in_default
returns-in_default c =
    refused_item _ _ _ (no_statement c.args.height.levels c.args.cursor.now.rest.now c.in_default.ensures.none)
    c.no_item_height.ensures

pub returns : goal.returns
returns c =
    let n = c.in-Some.lower.levels in
    let ts = c.args.cursor.now.rest.now in
    same_read stmt_of (below_node c.args.height.levels).statement (read_statement (below_node n)) ts _ _
    (statement_is c.args.height.levels n ts c.in-Some.ensures.some.1 c.in-Some.lower.low) c.statement.ensures
