use Rattle.std.proofs.Common.{rules, sym, ◌∙◌}
use Rattle.c_parse_expressions.proofs.Fronts.{begins_at}
use Rattle.c_parse_expressions.proofs.casts.begins_with_specifier.Goals as goal

pub returns-in-Some-specifier_of-clause-yes : goal.returns-in-Some-specifier_of-clause-yes
returns-in-Some-specifier_of-clause-yes c =
    begins_at c.args.tokens.now c.in-Some.first.now c.in-Some.field-0-1.now c.in-Some-specifier_of.field-0
    (search rules) (sym c.specifier_of.ensures ∙ c.in-Some-specifier_of.is)
