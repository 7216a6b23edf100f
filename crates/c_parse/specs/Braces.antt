-- Values in braces.
use Rattle.std.specs.Prelude.{◌≡◌, ◌<◌, List, length, Some, None, Result, Ok, Err}
use Rattle.c_lex.specs.declared.token.Token.{Token}
use Rattle.c_grammar.specs.Chains.{Step, Done, Goes}
use Rattle.c_grammar.specs.Reading as reading
use Rattle.c_grammar.specs.DeclarationReading as braces
use Rattle.c_parse_expressions.specs.Readings.{RefusedStep}
use Rattle.c_parse_expressions.specs.Values.{values_of, height_of_values}
use Rattle.c_parse_expressions.specs.declared.parse_error.ParseError.{ParseError}
use Rattle.c_parse.specs.declared.initialisers.Braced.{Braced}
use Rattle.c_parse.specs.declared.initialisers.BraceTurn.{BraceTurn}
use Rattle.c_parse.specs.declared.initialisers.BraceTurn.TheVariants.{More, Trailing, Last}

abbrev pub braced_of : Braced → braces.Braced
braced_of b = (values_of b.values, b.trailing)

-- one turn of the loop over values in braces
abbrev pub IsBraceTurn : Step braces.Braced → reading.Values → List Token → List Token → Result BraceTurn ParseError
    → Type 0
IsBraceTurn step was old new (Ok (More v)) =
    (step ≡ Goes (values_of v, None) new) × (v.height ≡ height_of_values v) × (length new < length old)
IsBraceTurn step was old new (Ok (Trailing v comma)) =
    (step ≡ Goes (values_of v, Some comma) new) × (length new < length old)
IsBraceTurn step was old new (Ok (Last v)) = (step ≡ Done) × (values_of v ≡ was) × (new ≡ old)
IsBraceTurn step was old new (Err e) = RefusedStep step e
