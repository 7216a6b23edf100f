use Rattle.std.proofs.Common.{rules}
use Rattle.c_parse.proofs.Passed.{passed_more}
use Rattle.c_parse.proofs.keywords.first_outside.Goals as goal

pub tokens-preserved : goal.tokens-preserved
tokens-preserved c =
    passed_more _ c.tokens.rest.now c.in-Some.first.now _ c.tokens.invariant (search rules)
    c.in_default-outside_of.ensures.none
