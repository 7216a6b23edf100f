use Rattle.c_grammar.specs.DeclarationReading.{read_declaration}
use Rattle.c_syntax.specs.Declarations.{declaration_of}
use Rattle.c_parse_expressions.specs.ExpressionReadings.{below}
use Rattle.c_parse.specs.StatementParts.{below_node}
use Rattle.c_parse.proofs.Below.{declaration_is, no_declaration, refused_item, same_read}
use Rattle.c_parse.proofs.statement_parts.declaration_below.Goals as goal

pub returns-in_default : goal.returns-in_default
returns-in_default c =
    refused_item _ _ _ (no_declaration c.args.height.levels c.args.cursor.now.rest.now c.in_default.ensures.none)
    c.no_item_height.ensures

pub returns : goal.returns
returns c =
    let n = c.in-Some.lower.levels in
    let ts = c.args.cursor.now.rest.now in
    same_read declaration_of (below_node c.args.height.levels).declaration (read_declaration (below n)) ts _ _
    (declaration_is c.args.height.levels n ts c.in-Some.ensures.some.1 c.in-Some.lower.low) c.declaration.ensures
