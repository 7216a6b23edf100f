-- What values that were read are to the grammar.
use Rattle.std.specs.Prelude.{ℕ, map}
use Rattle.c_syntax.specs.Expressions.{exprs_of, expr_of}
use Rattle.c_syntax.specs.ExpressionTokens.{exprs_height}
use Rattle.c_grammar.specs.Reading as reading
use Rattle.c_parse_expressions.specs.declared.found.Values.{Values}

-- several values and the commas between them
abbrev pub values_of : Values → reading.Values
values_of v = (map expr_of v.values.items, v.commas.items)

abbrev pub height_of_values : Values → ℕ
height_of_values v = exprs_height (exprs_of (map expr_of v.values.items))
